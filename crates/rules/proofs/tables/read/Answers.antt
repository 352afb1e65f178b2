-- `rules::tables::read` meets its contract: each table is written into its region, and what was written before it stays.
use native.Mathlib.Omega.{arith}
use Prim.Native.Nat.{◌≤◌}
use mathlib.Core.Path.{◌≡◌, ◌∙◌}
use lib.ListN.{length}
use borrow.Rule.Slice.PartMut.{mid_len}
use Rattle.rules.specs.Tables.{unique_at, names_at, symbols_at}
use Rattle.dictionary.proofs.Granted.{mandatory-lists, unique-lists}
use Rattle.rules.proofs.Rulebooks.{mandatory-room, unique-room, with-words, words-length, mandatory-stand, unique-stand, tables-are}
use Rattle.rules.proofs.tables.read.Goals as goal

pub read-mandatory-requires : goal.read-mandatory-requires
read-mandatory-requires c =
    let d = c.args.d.now in
    let l = mandatory-room c.args.entries.now (omega (arith, c.requires.entries_end_in_bounds.0)) in
    let k = mandatory-room c.args.sets.now c.requires.entries_end_in_bounds.1 in
    record { described = (c.requires.described.0, mandatory-lists d c.requires.described.0); list_words_in_bounds = (omega (arith, l), omega (arith, k)) }

pub read-unique-requires : goal.read-unique-requires
read-unique-requires c =
    let d = c.args.d.now in
    let room : names_at ≤ length c.args.entries.now = omega (arith, c.requires.entries_end_in_bounds.0) in
    let long : length c.read-mandatory.new.entries ≡ unique_at = c.read-mandatory.auto.entries ∙ mandatory-room c.args.entries.now room in
    let longs : length c.read-mandatory.new.sets ≡ unique_at = c.read-mandatory.auto.sets ∙ mandatory-room c.args.sets.now c.requires.entries_end_in_bounds.1 in
    let l = unique-room c.args.entries.now room c.read-mandatory.new.entries long in
    let k = unique-room c.args.sets.now c.requires.entries_end_in_bounds.1 c.read-mandatory.new.sets longs in
    record { described = (c.requires.described.0, unique-lists d c.requires.described.0); list_words_in_bounds = (omega (arith, l), omega (arith, k)) }

pub read-names-requires : goal.read-names-requires
read-names-requires c =
    let room : names_at ≤ length c.args.entries.now = omega (arith, c.requires.entries_end_in_bounds.0) in
    let long : length c.read-mandatory.new.entries ≡ unique_at = c.read-mandatory.auto.entries ∙ mandatory-room c.args.entries.now room in
    let long-unique : length c.read-unique.new.entries ≡ unique_at = c.read-unique.auto.entries ∙ unique-room c.args.entries.now room c.read-mandatory.new.entries long in
    let e = words-length c.args.entries.now room c.read-mandatory.new.entries long c.read-unique.new.entries long-unique in
    let l = mid_len names_at symbols_at (with-words c.args.entries.now room c.read-mandatory.new.entries long c.read-unique.new.entries long-unique) (omega (arith, e, c.requires.entries_end_in_bounds.0)) in
    record { described = c.requires.described.0; from_in_bounds = (c.requires.described.1, omega (arith, l)) }

pub returns : goal.returns
returns c =
    let d = c.args.d.now in
    let l = c.args.entries.now in
    let sets = c.args.sets.now in
    let room : names_at ≤ length l = omega (arith, c.requires.entries_end_in_bounds.0) in
    let long : length c.read-mandatory.new.entries ≡ unique_at = c.read-mandatory.auto.entries ∙ mandatory-room l room in
    let longs : length c.read-mandatory.new.sets ≡ unique_at = c.read-mandatory.auto.sets ∙ mandatory-room sets c.requires.entries_end_in_bounds.1 in
    let long-unique : length c.read-unique.new.entries ≡ unique_at = c.read-unique.auto.entries ∙ unique-room l room c.read-mandatory.new.entries long in
    let longs-unique : length c.read-unique.new.sets ≡ unique_at = c.read-unique.auto.sets ∙ unique-room sets c.requires.entries_end_in_bounds.1 c.read-mandatory.new.sets longs in
    let e = words-length l room c.read-mandatory.new.entries long c.read-unique.new.entries long-unique in
    let f = words-length sets c.requires.entries_end_in_bounds.1 c.read-mandatory.new.sets longs c.read-unique.new.sets longs-unique in
    let words = with-words l room c.read-mandatory.new.entries long c.read-unique.new.entries long-unique in
    let many : names_at ≤ length (with-words sets c.requires.entries_end_in_bounds.1 c.read-mandatory.new.sets longs c.read-unique.new.sets longs-unique) = omega (arith, f, c.requires.entries_end_in_bounds.1) in
    let z = c.read-names.auto.entries ∙ mid_len names_at symbols_at words (omega (arith, e, c.requires.entries_end_in_bounds.0)) in
    (tables-are words (omega (arith, e, c.requires.entries_end_in_bounds.0)) c.read-names.new.entries z d c.requires.described.0 _ many _ (mandatory-stand d l sets c.read-mandatory.new.entries c.read-mandatory.new.sets c.read-unique.new.entries c.read-unique.new.sets room c.requires.entries_end_in_bounds.1 long longs long-unique longs-unique c.read-mandatory.result c.read-mandatory.ensures) (unique-stand d l sets c.read-mandatory.new.entries c.read-mandatory.new.sets c.read-unique.new.entries c.read-unique.new.sets room c.requires.entries_end_in_bounds.1 long longs long-unique longs-unique c.read-unique.result c.read-unique.ensures) c.read-names.ensures.0, c.read-names.ensures.1)
