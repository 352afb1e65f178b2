-- `numbering::adding::put_number` meets its contract: the value is the number's digits.
use Prim.Native.Nat.{ℕ, ◌+◌, ◌-◌, ◌≤◌}
use native.Mathlib.Omega.{arith}
use mathlib.Core.Path.{◌≡◌, sym, ap, ◌∙◌, subst}
use mathlib.Core.Bool.{true}
use mathlib.Core.List.{◌++◌}
use lib.ListN.{length, take, drop}
use Rattle.format.specs.Bytes.{Bytes}
use Rattle.format.specs.Limits.{file_bytes}
use Rattle.format.specs.Written.{written}
use Rattle.lines.proofs.Cuts.{rest}
use Rattle.numbering.proofs.Digits.{number_short}
use Rattle.numbering.proofs.adding.put_number.Goals as goal

pub put_text-requires : goal.put_text-requires
put_text-requires c =
    let z : 20 ≡ length c.put_decimal-at.new.text = omega (arith, c.put_decimal-at.auto.text) in
    let e = ap (λ (n : ℕ). take (n - c.put_decimal-at.result) (drop c.put_decimal-at.result c.put_decimal-at.new.text)) z ∙ rest c.put_decimal-at.new.text c.put_decimal-at.result ∙ c.put_decimal-at.ensures.1 in
    record { name_len_bound = (omega (arith, c.requires.name_len_bound.0), subst (λ (x : Bytes). length x ≤ file_bytes) (sym e) (omega (arith, number_short c.args.number c.requires.name_len_bound.1)), c.requires.name_len_bound.2); value_in_bounds = subst (λ (x : Bytes). c.args.short ≡ true → c.args.len + length (written c.args.name.now x) ≤ length c.args.out.now) (sym e) c.requires.number_in_bounds }

pub returns : goal.returns
returns c =
    let z : 20 ≡ length c.put_decimal-at.new.text = omega (arith, c.put_decimal-at.auto.text) in
    let e = ap (λ (n : ℕ). take (n - c.put_decimal-at.result) (drop c.put_decimal-at.result c.put_decimal-at.new.text)) z ∙ rest c.put_decimal-at.new.text c.put_decimal-at.result ∙ c.put_decimal-at.ensures.1 in
    subst (λ (x : Bytes). (c.put_text.result ≡ c.args.len + length (written c.args.name.now x)) × (c.args.short ≡ true → take c.put_text.result c.put_text.new.out ≡ take c.args.len c.args.out.now ++ written c.args.name.now x)) e c.put_text.ensures
