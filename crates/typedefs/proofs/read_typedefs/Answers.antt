use Prim.Native.Nat.{ℕ}
use native.Mathlib.Omega.{arith}
use mathlib.Core.Path.{◌≡◌, refl, sym, ap, ◌∙◌}
use mathlib.Core.List.{map}
use lib.ListN.{length, take, length-set}
use lib.Seq.{take_all}
use Rattle.format.specs.Bytes.{text}
use Rattle.records.specs.Named.{values_from}
use Rattle.typedefs.specs.Walks.{names_from}
use Rattle.typedefs.specs.Targets.{target_in}
use Rattle.typedefs.specs.declared.Link.{Link}
use Rattle.typedefs.proofs.Placing.{place-fits}
use Rattle.typedefs.proofs.Filling.{targets-more, rows_more}
use Rattle.typedefs.proofs.read_typedefs.Goals as goal

pub loop-k-init : goal.loop-k-init
loop-k-init c = (omega arith, refl, refl, refl, λ k other h. absurd (omega arith), refl)

pub offset_bounds-places-k : goal.offset_bounds-places-k
offset_bounds-places-k c =
    omega (arith, c.requires.are_names.values.few)

pub bounds-places-k : goal.bounds-places-k
bounds-places-k c =
    omega (arith, c.requires.are_names.values.few, c.requires.are_names.values.long)

pub read_typedef-t-requires : goal.read_typedef-t-requires
read_typedef-t-requires c =
    let h = c.requires.are_names in
    record { are_names = h; value_in_bounds = (omega (arith, (h.values.places c.loop-k.k c.loop-k-test.true).0), omega (arith, place-fits c.args.d.now c.args.names h c.loop-k.k c.loop-k-test.true (length c.args.scratch.now) c.requires.text_value, c.loop-k.invariant.1)) }

pub offset_bounds-rows-k : goal.offset_bounds-rows-k
offset_bounds-rows-k c =
    omega (arith, c.requires.are_names.values.few)

pub bounds-rows-k : goal.bounds-rows-k
bounds-rows-k c =
    omega (arith, c.requires.are_names.values.few)

pub offset_bounds-links-k : goal.offset_bounds-links-k
offset_bounds-links-k c =
    omega (arith, c.requires.are_names.values.few)

pub bounds-links-k : goal.bounds-links-k
bounds-links-k c =
    omega (arith, c.requires.are_names.values.few)

pub loop-k-preserved : goal.loop-k-preserved
loop-k-preserved c =
    let h = c.requires.are_names in
    let d = c.args.d.now in
    let v = h.values.places c.loop-k.k c.loop-k-test.true in (
      omega arith,
      omega (arith, c.read_typedef-t.auto.scratch, c.loop-k.invariant.1),
      simp length-set c.loop-k.invariant.2,
      simp length-set c.loop-k.invariant.3,
      rows_more d c.args.names.places c.loop-k.rows c.loop-k.k c.read_typedef-t.result (omega (arith, c.loop-k.invariant.2, h.values.few)) c.read_typedef-t.ensures c.loop-k.invariant.4,
      targets-more (target_in (names_from d 0)) (values_from d (text "%typedef") 0) c.loop-k.links c.loop-k.k (record { to = c.read_typedef-t.result.target })
          (omega (arith, c.loop-k.invariant.3, h.values.few)) (omega (arith, h.values.count)) (c.read_typedef-t.ensures.target_is ∙ ap (target_in (names_from d 0)) v.1) c.loop-k.invariant.5,
    )

pub shape_of-scratch : goal.shape_of-scratch
shape_of-scratch c =
    c.loop-k.invariant.1

pub returns : goal.returns
returns c =
    let h = c.requires.are_names in
    let d = c.args.d.now in
    let z : c.loop-k.k ≡ c.args.names.count = omega (arith, c.loop-k.invariant.0, c.loop-k-test.false) in
    let vs = values_from d (text "%typedef") 0 in
    record {
      bounded = (h.values.few, c.loop-k.invariant.3);
      long = c.loop-k.invariant.2;
      targets-are = sym (ap (λ (j : ℕ). map (λ (x : Link). x.to) (take j c.loop-k.links)) z) ∙ c.loop-k.invariant.5 ∙ ap (map (target_in (names_from d 0))) (take_all c.loop-k.k vs (omega (arith, h.values.count)));
      row = λ k other l. c.loop-k.invariant.4 k other (omega (arith, l, z));
    }
