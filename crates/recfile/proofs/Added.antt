-- What the answer of a total tells C: how many values were added, both sums, and the refusal's number.
use Rattle.std.specs.Prelude.{Result, Ok, Err}
use Prim.Native.Nat.{ℕ}
use mathlib.Core.Path.{◌≡◌, sym, ap, ◌∙◌}
use lib.IntN.{ℤ}
use mir.Syntax.{w64}
use mir.Val.{to_z, of_z}
use Rattle.format.specs.Bytes.{Bytes}
use Rattle.totals.specs.Totals.{Total, Totalled, totalled_by, added_in, hundredths_or, millionths_or, refusal_in, total_answer}
use Rattle.format.specs.declared.refusals.Refusal.{Refusal}
use Rattle.format.specs.Refusals.{refusal_no}
use Rattle.totals.specs.declared.Totalled.{Totalled as Reply}
use Rattle.totals.proofs.Bits.{seen-is}
use Rattle.totals.proofs.Totalling.{total-held}

module _ (buffer : Bytes) (used : ℕ) (set name : Bytes) (r : Result Reply Refusal) (h : totalled_by r ≡ total_answer buffer used set name) where
  abbrev Tells : ℕ → ℤ → ℤ → ℕ → ℤ → ℤ → Totalled → Type 0
  Tells n z m k a b t = (n ≡ added_in t) × (z ≡ hundredths_or a t) × (m ≡ millionths_or b t) × (k ≡ refusal_in t)

  -- a and b stood before where the sums go
  pub sums-told : (z m : ℤ) (n : ℕ) → r ≡ Ok (record { hundredths = z; millionths = m; number = n }) → (a b : ℤ) → Tells n (to_z w64 (of_z w64 z)) (to_z w64 (of_z w64 m)) 0 a b (total_answer buffer used set name)
  sums-told z m n e a b =
      let t : Total = record { hundredths = z; millionths = m; number = n } in
      let is : Totalled.value t ≡ total_answer buffer used set name = ap totalled_by (sym e) ∙ h in
      let held = total-held buffer used set name t (sym is) in
      (ap added_in is, seen-is z held.0 ∙ ap (hundredths_or a) is, seen-is m held.1 ∙ ap (millionths_or b) is, ap refusal_in is)

  pub refusal-told : (q : Refusal) → r ≡ Err q → (a b : ℤ) → Tells 0 a b (refusal_no q) a b (total_answer buffer used set name)
  refusal-told q e a b =
      let is : Totalled.refusal (refusal_no q) ≡ total_answer buffer used set name = ap totalled_by (sym e) ∙ h in
      (ap added_in is, ap (hundredths_or a) is, ap (millionths_or b) is, ap refusal_in is)
