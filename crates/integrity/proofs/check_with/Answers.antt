-- `integrity::check_with` meets its contract: question 1, else the number of the used text.
use Prim.Native.Nat.{ℕ, ◌-◌}
use native.Mathlib.Omega.{arith}
use mathlib.Core.Path.{◌≡◌, sym, ap, ◌∙◌}
use mathlib.Core.Bool.{◌&&◌}
use borrow.Author.Tests.{not-true, not-false}
use lib.Dec.{leb}
use lib.ListN.{length, take}
use lib.Seq.{length-take-le}
use Rattle.format.specs.Limits.{file_bytes}
use Rattle.format.proofs.Judging.{text_no}
use Rattle.integrity.proofs.Staging.{used-no, used-text, used-inside}
use mathlib.Core.Bool.{not}
use Rattle.integrity.proofs.check_with.Goals as goal

pub returns-then-not-fits : goal.returns-then-not-fits
returns-then-not-fits c =
    used-no c.args.buf.now c.args.used (sym (c.fits.ensures ∙ ap (λ (n : ℕ). leb n (length c.args.buf.now) && leb n file_bytes) c.new-f.ensures) ∙ not-true _ (ap not c.if-not-fits.true))

pub slice_bounds-judge_kept-end : goal.slice_bounds-judge_kept-end
slice_bounds-judge_kept-end c =
    let u = used-inside c.args.buf.now c.args.used (sym (c.fits.ensures ∙ ap (λ (n : ℕ). leb n (length c.args.buf.now) && leb n file_bytes) c.new-f.ensures) ∙ not-false _ (ap not c.if-not-fits.false)) in omega (arith, u.0)

pub judge_kept-requires : goal.judge_kept-requires
judge_kept-requires c =
    let u = used-inside c.args.buf.now c.args.used (sym (c.fits.ensures ∙ ap (λ (n : ℕ). leb n (length c.args.buf.now) && leb n file_bytes) c.new-f.ensures) ∙ not-false _ (ap not c.if-not-fits.false)) in ((omega (arith, u.1, length-take-le (c.args.used - 0) c.args.buf.now (omega (arith, u.0))), c.requires))

pub returns : goal.returns
returns c =
    let t : take (c.args.used - 0) c.args.buf.now ≡ take c.args.used c.args.buf.now = ap (λ (n : ℕ). take n c.args.buf.now) (let e : c.args.used - 0 ≡ c.args.used = omega arith in e) in c.judge_kept.ensures ∙ ap text_no t ∙ used-text c.args.buf.now c.args.used (sym (c.fits.ensures ∙ ap (λ (n : ℕ). leb n (length c.args.buf.now) && leb n file_bytes) c.new-f.ensures) ∙ not-false _ (ap not c.if-not-fits.false))
