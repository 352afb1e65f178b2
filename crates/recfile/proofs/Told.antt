-- What a call for C gives of an answer: its value, its number, and what a second buffer holds.
use Rattle.std.specs.Prelude.{Result, Ok, Err}
use Prim.Native.Nat.{ℕ, ◌-◌, ◌≤◌}
use native.Mathlib.Omega.{arith}
use mathlib.Core.Path.{◌≡◌, sym, ap, ◌∙◌, subst}
use mathlib.Core.List.{List}
use lib.ListN.{length, take, drop, length-drop}
use lib.Seq.{length-take-le}
use Rattle.format.specs.Bytes.{Bytes}
use Rattle.format.specs.Calls.{answered, number_in, value_or, Filled, filled_by, Viewed}
use Rattle.format.specs.declared.refusals.Refusal.{Refusal}
use Rattle.format.specs.Refusals.{refusal_no}
use Rattle.words.specs.declared.Span.{Span}
use Rattle.lookup.specs.Answers.{seen_answer, SeenInside}
use Rattle.selection.specs.Found.{Listed, listed_by}

pub filled-told : (r : Result ℕ Refusal) (out : Bytes) (other : ℕ) (f : Filled) → filled_by r out ≡ f → (value_or other (answered r) ≡ value_or other f.result) × (number_in (answered r) ≡ number_in f.result) × (out ≡ f.out)
filled-told r out other f h = (ap (λ (g : Filled). value_or other g.result) h, ap (λ (g : Filled). number_in g.result) h, ap (λ (g : Filled). g.out) h)

-- the same of a list of numbers
pub listed-told : (r : Result ℕ Refusal) (list : List ℕ) (other : ℕ) (f : Listed) → listed_by r list ≡ f → (value_or other (answered r) ≡ value_or other f.result) × (number_in (answered r) ≡ number_in f.result) × (list ≡ f.list)
listed-told r list other f h = (ap (λ (g : Listed). value_or other g.result) h, ap (λ (g : Listed). number_in g.result) h, ap (λ (g : Listed). g.list) h)

-- where a record stands
module _ (s : Bytes) (c : Result Span Refusal) (v : Viewed) (h : (seen_answer s c ≡ v) × SeenInside s c) where
  at : (x : Result Span Refusal) → c ≡ x → (seen_answer s x ≡ v) × SeenInside s x
  at x e = subst (λ (y : Result Span Refusal). (seen_answer s y ≡ v) × SeenInside s y) e h

  pub view-ordered : (a e : ℕ) → c ≡ Ok (record { start = a; end = e }) → a ≤ e
  view-ordered a e is = (at (Ok (record { start = a; end = e })) is).1.0

  pub view_tells : (a e : ℕ) → c ≡ Ok (record { start = a; end = e }) → (e - a ≡ length v.part) × (a ≡ value_or 0 v.result) × (0 ≡ number_in v.result)
  view_tells a e is =
      let k = at (Ok (record { start = a; end = e })) is in
      let l : length (take (e - a) (drop a s)) ≡ e - a = length-take-le (e - a) (drop a s) (omega (arith, k.1.0, k.1.1, length-drop a s)) in
      (sym l ∙ ap (λ (x : Viewed). length x.part) k.0, ap (λ (x : Viewed). value_or 0 x.result) k.0, ap (λ (x : Viewed). number_in x.result) k.0)

  pub view-refused : (r : Refusal) → c ≡ Err r → (0 ≡ length v.part) × (0 ≡ value_or 0 v.result) × (refusal_no r ≡ number_in v.result)
  view-refused r is =
      let e = (at (Err r) is).0 in
      (ap (λ (x : Viewed). length x.part) e, ap (λ (x : Viewed). value_or 0 x.result) e, ap (λ (x : Viewed). number_in x.result) e)
