-- `edits::inserts::complete` meets its contract: the numbers are those by the dense descriptor, too.
use native.Mathlib.Omega.{arith}
use mathlib.Core.Path.{sym, ap, ◌∙◌, subst}
use mathlib.Core.Option.{Option}
use lib.Seq.{length-take-le}
use Rattle.format.specs.Bytes.{Bytes}
use Rattle.format.specs.Numbers.{int_bounds}
use Rattle.format.specs.Numbering.{added as added_by}
use Rattle.format.specs.Pieces.{read_of}
use Rattle.format.proofs.Dense.{dense}
use Rattle.format.proofs.Records.{records}
use Rattle.format.proofs.Walking.{ruled}
use Rattle.records.specs.Walk.{record_in}
use Rattle.records.proofs.Readings.{readable-ended}
use Rattle.rules.proofs.Granted.{values-fit}
use Rattle.requests.specs.Pairs.{pairs_at}
use Rattle.dictionary.specs.Known.{Described}
use Rattle.numbering.specs.Adding.{AddedAs}
use Rattle.dictionary.proofs.Dense.{dense-described}
use Rattle.edits.proofs.Densing.{dense-added}
use Rattle.edits.proofs.inserts.complete.Goals as goal

pub put_dense-n-requires : goal.put_dense-n-requires
put_dense-n-requires c =
    (omega (arith, c.requires.numberable.0.0.short, c.requires.numberable.1), readable-ended c.args.d.now c.requires.numberable.0.0.reads)

pub slice_bounds-add_numbers-end : goal.slice_bounds-add_numbers-end
slice_bounds-add_numbers-end c =
    omega (arith, c.put_dense-n.ensures.0, c.requires.numberable.0.0.short, c.requires.numberable.1)

pub slice_bounds-add_numbers-end-then-may_join : goal.slice_bounds-add_numbers-end-then-may_join
slice_bounds-add_numbers-end-then-may_join c =
    sym (length-take-le c.put_dense-n.result c.put_dense-n.new.out (omega (arith, c.put_dense-n.ensures.0, c.requires.numberable.0.0.short, c.requires.numberable.1)))

pub add_numbers-requires : goal.add_numbers-requires
add_numbers-requires c =
    let a = c.args in
    let d : Bytes = a.d.now in
    let h : Described (dense d) = dense-described d c.requires.numberable.0.0 (omega (arith, c.put_dense-n.ensures.0, c.put_dense-n.ensures.1)) in
    let k = subst Described (sym c.put_dense-n.ensures.2) h in
    let p = c.requires.part_value in
    record { described = (k, omega (arith, c.requires.added_room_in_bounds)); part_value = (p.0, p.1, values-fit 4096 (omega arith) a.part.now p.2); req_len_bound = c.requires.req_len_bound }

pub returns-then-may_join : goal.returns-then-may_join
returns-then-may_join c =
    let a = c.args in
    let d : Bytes = a.d.now in
    let ms = records (read_of a.part.now) in
    let new = pairs_at a.req.now a.from in
    let e = ap (λ (x : Bytes). added_by int_bounds (ruled (record_in x) ms) new) c.put_dense-n.ensures.2 ∙ dense-added d c.requires.numberable.0.0 ms new in
    subst (λ (x : Option _). AddedAs x c.add_numbers.new.out c.add_numbers.result) e c.add_numbers.ensures

pub add_numbers-requires-2 : goal.add_numbers-requires-2
add_numbers-requires-2 c =
    let p = c.requires.part_value in
    record { described = (c.requires.numberable.0.0, omega (arith, c.requires.added_room_in_bounds)); part_value = (p.0, p.1, values-fit 4096 (omega arith) c.args.part.now p.2); req_len_bound = c.requires.req_len_bound }
