use native.Mathlib.Omega.{arith}
use mathlib.Core.Path.{refl, sym, ap, ◌∙◌}
use Rattle.sorting.specs.Texts.{mixed}
use Rattle.sorting.proofs.Texts.{text-told}
use Rattle.sorting.proofs.mix.Goals as goal

pub loop-byte-init : goal.loop-byte-init
loop-byte-init c = (refl, omega arith)

pub returns-in_default : goal.returns-in_default
unfolding mixed
returns-in_default c =
    let e = text-told c.args.words c.args.s.now c.loop-byte.at c.text_byte-d.result c.text_byte-d.ensures c.in_default.is in
    (sym (ap (mixed c.loop-byte.h) e) ∙ c.loop-byte.invariant.0, c.loop-byte.invariant.1)

pub loop-byte-smaller : goal.loop-byte-smaller
loop-byte-smaller c =
    let e = text-told c.args.words c.args.s.now c.loop-byte.at c.text_byte-d.result c.text_byte-d.ensures c.in-Some.is in
    omega (arith, e.1, e.2)

pub loop-byte-preserved : goal.loop-byte-preserved
unfolding mixed
loop-byte-preserved c =
    let e = text-told c.args.words c.args.s.now c.loop-byte.at c.text_byte-d.result c.text_byte-d.ensures c.in-Some.is in
    let w = c.mix_byte-h.ensures.0 in
    (rw w (sym (ap (mixed c.loop-byte.h) e.0) ∙ c.loop-byte.invariant.0), c.mix_byte-h.ensures.1)
