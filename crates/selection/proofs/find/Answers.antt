-- `selection::find` meets its contract: the check grants what the search inside asks for.
use Prim.Native.Nat.{ℕ, ◌-◌, ◌≤◌}
use native.Mathlib.Omega.{arith}
use mathlib.Core.Path.{◌≡◌, refl, sym, ap, ◌∙◌, subst}
use mathlib.Core.Bool.{true}
use lib.ListN.{length, take}
use Rattle.std.proofs.lemmas.Result.{err_from_is_err_and}
use Rattle.format.specs.Refusals.{question_no}
use Rattle.format.proofs.Refused.{question-number}
use Rattle.format.specs.Bytes.{Bytes}
use Rattle.format.specs.Limits.{file_bytes}
use Rattle.format.specs.Pieces.{read_of}
use Rattle.format.specs.Sets.{sets_of}
use Rattle.format.proofs.Passing.{SetsPass}
use Rattle.records.specs.Places.{is_readable}
use Rattle.records.proofs.Checked.{answer-checked}
use Rattle.selection.specs.Found.{find_in}
use Rattle.selection.proofs.Calling.{find-refused, find-text}
use Rattle.selection.proofs.find.Goals as goal

pub returns-in_err-check : goal.returns-in_err-check
returns-in_err-check c =
    let q = c.in_err-check.field-0.0 in
    let p = err_from_is_err_and c.from_residual.result c.from_residual.ensures.1 in
    rw (p.1, p.2) (find-refused c.args.buf.now c.args.used c.args.set.now c.args.expression.now c.args.list.now (question_no q) c.in_err-check.ensures (question-number q))

pub slice_bounds-find_in-end : goal.slice_bounds-find_in-end
slice_bounds-find_in-end c =
    omega (arith, (answer-checked c.args.buf.now c.args.used 0 c.in_ok-check.ensures refl).fits)

pub find_in-requires : goal.find_in-requires
find_in-requires c =
    let e : take (c.args.used - 0) c.args.buf.now ≡ take c.args.used c.args.buf.now = ap (λ (n : ℕ). take n c.args.buf.now) (let z : c.args.used - 0 ≡ c.args.used = omega arith in z) in let k = answer-checked c.args.buf.now c.args.used 0 c.in_ok-check.ensures refl in subst (λ (x : Bytes). (is_readable x ≡ true) × (length x ≤ file_bytes) × SetsPass (sets_of (read_of x))) (sym e) (k.readable, k.short, k.passes)

pub returns : goal.returns
returns c =
    let e : take (c.args.used - 0) c.args.buf.now ≡ take c.args.used c.args.buf.now = ap (λ (n : ℕ). take n c.args.buf.now) (let z : c.args.used - 0 ≡ c.args.used = omega arith in z) in sym (find-text c.args.buf.now c.args.used c.args.set.now c.args.expression.now c.args.list.now 0 c.in_ok-check.ensures refl) ∙ ap (λ (x : Bytes). find_in x c.args.set.now c.args.expression.now c.args.list.now) (sym e) ∙ c.find_in.ensures
