-- The file's own questions come first, then what its text answers.
use Prim.Native.Nat.{ℕ, ◌-◌, ◌≤◌}
use native.Mathlib.Omega.{arith}
use mathlib.Core.Path.{◌≡◌, refl, sym, ap, ◌∙◌, subst}
use mathlib.Core.Bool.{true}
use lib.ListN.{length, take}
use Rattle.std.proofs.lemmas.Result.{err_from_is_err_and}
use Rattle.format.specs.Refusals.{question_no}
use Rattle.format.proofs.Refused.{question-number}
use Rattle.format.specs.Bytes.{Bytes}
use Rattle.format.specs.Limits.{file_bytes}
use Rattle.records.specs.Places.{is_readable}
use Rattle.records.proofs.Checked.{answer-checked}
use Rattle.totals.specs.Adding.{total_in}
use Rattle.totals.proofs.Totalling.{total-refused, total-text}
use Rattle.totals.proofs.total.Goals as goal

pub returns-in_err-check : goal.returns-in_err-check
returns-in_err-check c =
    let q = c.in_err-check.field-0.0 in
    let p = err_from_is_err_and c.from_residual.result c.from_residual.ensures.1 in
    rw (p.1, p.2) (total-refused c.args.buf.now c.args.used c.args.set.now c.args.name.now (question_no q) c.in_err-check.ensures (question-number q))

pub slice_bounds-total_in-end : goal.slice_bounds-total_in-end
slice_bounds-total_in-end c =
    omega (arith, (answer-checked c.args.buf.now c.args.used 0 c.in_ok-check.ensures refl).fits)

pub total_in-requires : goal.total_in-requires
total_in-requires c =
    let k = answer-checked c.args.buf.now c.args.used 0 c.in_ok-check.ensures refl in
    let t : take (c.args.used - 0) c.args.buf.now ≡ take c.args.used c.args.buf.now = ap (λ (n : ℕ). take n c.args.buf.now) (let e : c.args.used - 0 ≡ c.args.used = omega arith in e) in
    subst (λ (x : Bytes). (is_readable x ≡ true) × (length x ≤ file_bytes)) (sym t) (k.readable, k.short)

pub returns : goal.returns
returns c =
    let t : take (c.args.used - 0) c.args.buf.now ≡ take c.args.used c.args.buf.now = ap (λ (n : ℕ). take n c.args.buf.now) (let e : c.args.used - 0 ≡ c.args.used = omega arith in e) in
    c.total_in.ensures ∙ ap (λ (x : Bytes). total_in x c.args.set.now c.args.name.now) t ∙ total-text c.args.buf.now c.args.used c.args.set.now c.args.name.now 0 c.in_ok-check.ensures refl
