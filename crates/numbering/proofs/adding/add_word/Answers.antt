-- `numbering::adding::add_word` meets its contract: the word has a field, has no number, or gets a field.
use native.Mathlib.Omega.{arith}
use mathlib.Core.Path.{sym, ◌∙◌}
use lib.ListN.{get_or}
use Rattle.format.specs.Rules.{auto}
use Rattle.records.specs.Walk.{record_in}
use Rattle.numbering.specs.Adding.{pair_by}
use Rattle.numbering.proofs.Summing.{place_inside, pair-none, pair-some, sums-seen, sums_none, sums-more, small-floor, room_most, room-more}
use Rattle.numbering.proofs.adding.add_word.Goals as goal

pub place_in-k-requires : goal.place_in-k-requires
place_in-k-requires c =
    (auto (record_in c.args.d.now), c.requires.listed)

pub has-requires : goal.has-requires
has-requires c =
    let ws = auto (record_in c.args.d.now) in
    let f = pair_by ws c.args.bounds.floors c.args.bounds.limits in
    let p = c.place_in-k.ensures ws c.requires.listed in
    let l = place_inside ws c.args.name.now c.place_in-k.result p c.requires.d_value.0 in
    omega (arith, l, c.requires.listed.few)

pub returns-then-has : goal.returns-then-has
returns-then-has c =
    let ws = auto (record_in c.args.d.now) in
    let f = pair_by ws c.args.bounds.floors c.args.bounds.limits in
    let p = c.place_in-k.ensures ws c.requires.listed in
    let l = place_inside ws c.args.name.now c.place_in-k.result p c.requires.d_value.0 in
    λ s h. sums-seen ws f s c.args.out.now c.args.sum h c.args.name.now c.requires.d_value.0 c.place_in-k.result p (sym c.has.ensures ∙ c.if-has.true)

pub offset_bounds-bounds-k : goal.offset_bounds-bounds-k
offset_bounds-bounds-k c =
    let ws = auto (record_in c.args.d.now) in
    let f = pair_by ws c.args.bounds.floors c.args.bounds.limits in
    let p = c.place_in-k.ensures ws c.requires.listed in
    let l = place_inside ws c.args.name.now c.place_in-k.result p c.requires.d_value.0 in
    omega (arith, l, c.requires.listed.few)

pub bounds-bounds-k : goal.bounds-bounds-k
bounds-bounds-k c =
    let ws = auto (record_in c.args.d.now) in
    let f = pair_by ws c.args.bounds.floors c.args.bounds.limits in
    let p = c.place_in-k.ensures ws c.requires.listed in
    let l = place_inside ws c.args.name.now c.place_in-k.result p c.requires.d_value.0 in
    omega (arith, l, c.requires.listed.few, c.requires.limited.0)

pub offset_bounds-bounds-k-2 : goal.offset_bounds-bounds-k-2
offset_bounds-bounds-k-2 c =
    let ws = auto (record_in c.args.d.now) in
    let f = pair_by ws c.args.bounds.floors c.args.bounds.limits in
    let p = c.place_in-k.ensures ws c.requires.listed in
    let l = place_inside ws c.args.name.now c.place_in-k.result p c.requires.d_value.0 in
    omega (arith, l, c.requires.listed.few)

pub bounds-bounds-k-2 : goal.bounds-bounds-k-2
bounds-bounds-k-2 c =
    let ws = auto (record_in c.args.d.now) in
    let f = pair_by ws c.args.bounds.floors c.args.bounds.limits in
    let p = c.place_in-k.ensures ws c.requires.listed in
    let l = place_inside ws c.args.name.now c.place_in-k.result p c.requires.d_value.0 in
    omega (arith, l, c.requires.listed.few, c.requires.limited.1)

pub returns-then-bounds-k : goal.returns-then-bounds-k
returns-then-bounds-k c =
    let ws = auto (record_in c.args.d.now) in
    let f = pair_by ws c.args.bounds.floors c.args.bounds.limits in
    let p = c.place_in-k.ensures ws c.requires.listed in
    let l = place_inside ws c.args.name.now c.place_in-k.result p c.requires.d_value.0 in
    λ s h. sums_none ws f s c.args.out.now c.args.sum h c.args.name.now c.requires.d_value.0 c.place_in-k.result p (sym c.has.ensures ∙ c.if-has.false) (pair-none ws c.args.bounds.floors c.args.bounds.limits c.args.name.now c.place_in-k.result p c.if-bounds-k.true)

pub put_number-len-requires : goal.put_number-len-requires
put_number-len-requires c =
    let ws = auto (record_in c.args.d.now) in
    let f = pair_by ws c.args.bounds.floors c.args.bounds.limits in
    let p = c.place_in-k.ensures ws c.requires.listed in
    let l = place_inside ws c.args.name.now c.place_in-k.result p c.requires.d_value.0 in
    let number = get_or c.args.bounds.floors c.place_in-k.result 0 in
    let small = small-floor ws c.args.bounds.limits c.requires.limited.2 c.args.name.now c.requires.d_value.0 c.place_in-k.result p number c.if-bounds-k.false in
    let s = c.requires.sums in
    record { name_len_bound = (c.requires.d_value.1, small, room_most ws s.0 c.args.out.now c.args.sum s.1 s.2 c.args.name.now number small); number_in_bounds = room-more ws s.0 c.args.out.now c.args.sum s.1 s.2 c.args.name.now number small c.stays_short-short.result c.stays_short-short.ensures c.requires.d_value.2 }

pub mark-seen-requires : goal.mark-seen-requires
mark-seen-requires c =
    c.requires.listed

pub returns : goal.returns
returns c =
    let ws = auto (record_in c.args.d.now) in
    let f = pair_by ws c.args.bounds.floors c.args.bounds.limits in
    let p = c.place_in-k.ensures ws c.requires.listed in
    let l = place_inside ws c.args.name.now c.place_in-k.result p c.requires.d_value.0 in
    let number = get_or c.args.bounds.floors c.place_in-k.result 0 in
    let small = small-floor ws c.args.bounds.limits c.requires.limited.2 c.args.name.now c.requires.d_value.0 c.place_in-k.result p number c.if-bounds-k.false in
    λ s h. sums-more ws f s c.args.out.now c.args.sum h c.args.name.now c.requires.d_value.0 c.place_in-k.result p (sym c.has.ensures ∙ c.if-has.false) number small (pair-some ws c.args.bounds.floors c.args.bounds.limits c.args.name.now c.place_in-k.result p c.if-bounds-k.false) c.requires.d_value.1 c.put_number-len.result c.put_number-len.ensures.0 c.stays_short-short.result c.stays_short-short.ensures c.mark-seen.result c.mark-seen.ensures c.put_number-len.new.out c.put_number-len.ensures.1
