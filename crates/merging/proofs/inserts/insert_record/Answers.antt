-- `merging::inserts::insert_record` meets its contract.
use native.Mathlib.Omega.{arith}
use mathlib.Core.Path.{refl, sym, ap, ◌∙◌, subst}
use mathlib.Core.Bool.{false≢true}
use mathlib.Core.List.{map}
use lib.ListN.{take}
use lib.Seq.{length-take-le}
use Rattle.format.specs.Bytes.{is_some}
use Rattle.format.proofs.Elements.{Filled}
use Rattle.records.specs.Walk.{record_in}
use Rattle.records.proofs.Members.{head-told}
use Rattle.requests.specs.Pairs.{pairs_from, list_of}
use Rattle.merging.specs.Merging.{pair_of}
use Rattle.merging.proofs.Requesting.{pairs-length, pairs-read, pairs-over, request-length}
use Rattle.merging.proofs.Placing.{set-stands, skipped-set, inserted-placed, inserted-long, filled-pairs}
use Rattle.merging.proofs.inserts.insert_record.Goals as goal

pub slice_bounds-find_head-end : goal.slice_bounds-find_head-end
slice_bounds-find_head-end c =
    omega (arith, c.requires.appendable.1, c.requires.appendable.2)

pub slice_bounds-find_head-end-2 : goal.slice_bounds-find_head-end-2
slice_bounds-find_head-end-2 c =
    sym (length-take-le c.args.used c.args.text.now (omega (arith, c.requires.appendable.1, c.requires.appendable.2)))

pub find_head-requires : goal.find_head-requires
find_head-requires c =
    c.requires.appendable.0.readable

pub returns-in_default : goal.returns-in_default
returns-in_default c =
    absurd (false≢true (sym (ap is_some (head-told (take c.args.used c.args.text.now) c.args.set.now c.find_head.result c.requires.appendable.0.readable c.find_head.ensures c.in_default.is)) ∙ c.requires.appendable.3))

pub slice_bounds-set_behind-end : goal.slice_bounds-set_behind-end
slice_bounds-set_behind-end c =
    omega (arith, c.requires.appendable.1, c.requires.appendable.2)

pub slice_bounds-set_behind-end-2 : goal.slice_bounds-set_behind-end-2
slice_bounds-set_behind-end-2 c =
    sym (length-take-le c.args.used c.args.text.now (omega (arith, c.requires.appendable.1, c.requires.appendable.2)))

pub set_behind-p-requires : goal.set_behind-p-requires
set_behind-p-requires c =
    let m = head-told (take c.args.used c.args.text.now) c.args.set.now c.find_head.result c.requires.appendable.0.readable c.find_head.ensures c.in-Some.is in (m.set.inside, m.set.readable)

pub slice_bounds-is_skipped-end : goal.slice_bounds-is_skipped-end
slice_bounds-is_skipped-end c =
    omega (arith, c.requires.appendable.1, c.requires.appendable.2)

pub slice_bounds-is_skipped-end-2 : goal.slice_bounds-is_skipped-end-2
slice_bounds-is_skipped-end-2 c =
    sym (length-take-le c.args.used c.args.text.now (omega (arith, c.requires.appendable.1, c.requires.appendable.2)))

pub is_skipped-requires : goal.is_skipped-requires
is_skipped-requires c =
    (c.requires.appendable.0, (c.args.set.now, (c.in-Some.head, ((sym c.find_head.ensures ∙ c.in-Some.is), c.set_behind-p.ensures))), c.requires.own_value.0)

pub returns-then-is_skipped : goal.returns-then-is_skipped
returns-then-is_skipped c =
    (skipped-set (take c.args.used c.args.text.now) c.args.set.now c.set_behind-p.result (set-stands (take c.args.used c.args.text.now) c.requires.appendable.0 c.in-Some.head c.args.set.now (sym c.find_head.ensures ∙ c.in-Some.is) c.set_behind-p.result c.set_behind-p.ensures) (map pair_of (record_in c.args.own.now)) ∙ sym c.is_skipped.ensures ∙ c.if-is_skipped.true, refl)

pub put_pairs-n-requires : goal.put_pairs-n-requires
put_pairs-n-requires c =
    record { own_value = (c.requires.own_value.0, c.requires.own_value.1); value_bytes_in_bounds = c.requires.value_bytes_in_bounds.0 }

pub returns-then-n-gt-BYTES : goal.returns-then-n-gt-BYTES
returns-then-n-gt-BYTES c =
    inserted-long c.args.text.now c.args.used c.args.room c.args.set.now (map pair_of (record_in c.args.own.now)) (skipped-set (take c.args.used c.args.text.now) c.args.set.now c.set_behind-p.result (set-stands (take c.args.used c.args.text.now) c.requires.appendable.0 c.in-Some.head c.args.set.now (sym c.find_head.ensures ∙ c.in-Some.is) c.set_behind-p.result c.set_behind-p.ensures) (map pair_of (record_in c.args.own.now)) ∙ sym c.is_skipped.ensures ∙ c.if-is_skipped.false) (omega (arith, request-length c.args.set.now c.args.own.now, pairs-over c.args.own.now c.args.request.now c.put_pairs-n.new.out c.put_pairs-n.result c.requires.value_bytes_in_bounds.1 c.put_pairs-n.ensures (omega (arith, c.if-n-gt-BYTES.true))))

pub overflow_add-set : goal.overflow_add-set
overflow_add-set c =
    omega (arith, c.requires.own_value.3)

pub overflow_add-set-2 : goal.overflow_add-set-2
overflow_add-set-2 c =
    omega (arith, c.requires.own_value.3, c.if-n-gt-BYTES.false)

pub returns-then-set-n-gt-BYTES : goal.returns-then-set-n-gt-BYTES
returns-then-set-n-gt-BYTES c =
    inserted-long c.args.text.now c.args.used c.args.room c.args.set.now (map pair_of (record_in c.args.own.now)) (skipped-set (take c.args.used c.args.text.now) c.args.set.now c.set_behind-p.result (set-stands (take c.args.used c.args.text.now) c.requires.appendable.0 c.in-Some.head c.args.set.now (sym c.find_head.ensures ∙ c.in-Some.is) c.set_behind-p.result c.set_behind-p.ensures) (map pair_of (record_in c.args.own.now)) ∙ sym c.is_skipped.ensures ∙ c.if-is_skipped.false) (omega (arith, request-length c.args.set.now c.args.own.now, pairs-length c.args.own.now c.args.request.now c.put_pairs-n.new.out c.put_pairs-n.result c.requires.value_bytes_in_bounds.1 c.put_pairs-n.ensures (omega (arith, c.if-n-gt-BYTES.false)), c.if-set-n-gt-BYTES.true))

pub slice_bounds-place-end : goal.slice_bounds-place-end
slice_bounds-place-end c =
    omega (arith, c.if-n-gt-BYTES.false, c.put_pairs-n.auto.out, c.requires.value_bytes_in_bounds.1)

pub slice_bounds-place-end-2 : goal.slice_bounds-place-end-2
slice_bounds-place-end-2 c =
    sym (length-take-le c.put_pairs-n.result c.put_pairs-n.new.out (omega (arith, c.if-n-gt-BYTES.false, c.put_pairs-n.auto.out, c.requires.value_bytes_in_bounds.1)))

pub place-requires : goal.place-requires
place-requires c =
    record { appendable = (c.requires.appendable.0, c.requires.appendable.1, c.requires.appendable.2, (c.args.set.now, (c.in-Some.head, ((sym c.find_head.ensures ∙ c.in-Some.is), c.set_behind-p.ensures)))); request_len_bound = (omega (arith, c.if-n-gt-BYTES.false, length-take-le c.put_pairs-n.result c.put_pairs-n.new.out (omega (arith, c.if-n-gt-BYTES.false, c.put_pairs-n.auto.out, c.requires.value_bytes_in_bounds.1))), ap is_some (pairs-read c.args.own.now c.args.request.now c.put_pairs-n.new.out c.put_pairs-n.result c.requires.value_bytes_in_bounds.1 c.put_pairs-n.ensures (omega (arith, c.if-n-gt-BYTES.false))), subst Filled (sym (ap list_of (pairs-read c.args.own.now c.args.request.now c.put_pairs-n.new.out c.put_pairs-n.result c.requires.value_bytes_in_bounds.1 c.put_pairs-n.ensures (omega (arith, c.if-n-gt-BYTES.false))))) (filled-pairs (record_in c.args.own.now) c.requires.own_value.2), c.requires.value_bytes_in_bounds.2) }

pub returns : goal.returns
returns c =
    inserted-placed c.args.text.now c.args.used c.args.room c.args.set.now (map pair_of (record_in c.args.own.now)) (list_of (pairs_from (take c.put_pairs-n.result c.put_pairs-n.new.out) 0)) c.place.new.text c.place.result (skipped-set (take c.args.used c.args.text.now) c.args.set.now c.set_behind-p.result (set-stands (take c.args.used c.args.text.now) c.requires.appendable.0 c.in-Some.head c.args.set.now (sym c.find_head.ensures ∙ c.in-Some.is) c.set_behind-p.result c.set_behind-p.ensures) (map pair_of (record_in c.args.own.now)) ∙ sym c.is_skipped.ensures ∙ c.if-is_skipped.false) (omega (arith, request-length c.args.set.now c.args.own.now, pairs-length c.args.own.now c.args.request.now c.put_pairs-n.new.out c.put_pairs-n.result c.requires.value_bytes_in_bounds.1 c.put_pairs-n.ensures (omega (arith, c.if-n-gt-BYTES.false)), c.if-set-n-gt-BYTES.false)) (ap list_of (pairs-read c.args.own.now c.args.request.now c.put_pairs-n.new.out c.put_pairs-n.result c.requires.value_bytes_in_bounds.1 c.put_pairs-n.ensures (omega (arith, c.if-n-gt-BYTES.false)))) (c.place.ensures c.args.set.now c.in-Some.head (sym c.find_head.ensures ∙ c.in-Some.is) c.set_behind-p.ensures)
