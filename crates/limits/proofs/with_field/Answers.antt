-- `limits::with_field` meets its contract: a name that is not special is no `%rec`.
use Prim.Native.Nat.{ℕ, ◌+◌}
use native.Mathlib.Omega.{arith}
use mathlib.Core.Path.{◌≡◌, sym, ap, ◌∙◌}
use mathlib.Core.Bool.{Bool, true, false, ◌||◌, or-true, or-false}
use Rattle.format.specs.Bytes.{text, pick, same}
use Rattle.format.specs.Lines.{is_special}
use Rattle.limits.proofs.Opens.{plain-name}
use Rattle.limits.proofs.with_field.Goals as goal

pub returns-then-is_special : goal.returns-then-is_special
returns-then-is_special c =
    let special : true ≡ (c.args.o.special || is_special c.args.name.now) = sym (ap (λ (b : Bool). c.args.o.special || b) (sym c.is_special.ensures ∙ c.if-is_special.true) ∙ or-true c.args.o.special) in
    let recs : c.args.o.recs + c.one_if.result ≡ c.args.o.recs + pick (same (text "%rec") c.args.name.now) 1 0 = ap (λ (k : ℕ). c.args.o.recs + k) (c.one_if.ensures.0 ∙ ap (λ (b : Bool). pick {A = ℕ} b 1 0) c.is_rec-here.ensures) in
    (λ j. record { fields = c.args.o.fields + 1; special = special j; recs = recs j; start = c.first_place-first.ensures j; end = c.args.end })

pub returns : goal.returns
returns c =
    let plain : is_special c.args.name.now ≡ false = sym c.is_special.ensures ∙ c.if-is_special.false in
    let special : c.args.o.special ≡ (c.args.o.special || is_special c.args.name.now) = sym (ap (λ (b : Bool). c.args.o.special || b) plain ∙ or-false c.args.o.special) in
    let recs : c.args.o.recs ≡ c.args.o.recs + pick (same (text "%rec") c.args.name.now) 1 0 = omega (arith, ap (λ (b : Bool). pick {A = ℕ} b 1 0) (plain-name c.args.name.now plain)) in
    (λ j. record { fields = c.args.o.fields + 1; special = special j; recs = recs j; start = c.first_place-first.ensures j; end = c.args.end })
