-- What C is told of the answers that come with a list.
use Rattle.std.specs.Prelude.{Result}
use Prim.Native.Nat.{ℕ}
use mathlib.Core.Path.{◌≡◌, ap, ◌∙◌}
use mathlib.Core.List.{List}
use Rattle.format.specs.Bytes.{Bytes}
use Rattle.format.specs.Calls.{answered, number_in, value_or}
use Rattle.format.specs.Directory.{Listed, Kept}
use Rattle.format.specs.Runs.{Numbered}
use Rattle.format.specs.declared.refusals.Refusal.{Refusal}
use Rattle.format.specs.declared.Entry.{Entry}

module _ (r : Result ℕ Refusal) (other m k : ℕ) (em : m ≡ value_or other (answered r)) (ek : k ≡ number_in (answered r)) where
  pub listed-told : (es : List Entry) (l : Listed) → record { result = answered r; entries = es } ≡ l → (m ≡ value_or other l.result) × (k ≡ number_in l.result) × (es ≡ l.entries)
  listed-told es l e = (em ∙ ap (λ (x : Listed). value_or other x.result) e, ek ∙ ap (λ (x : Listed). number_in x.result) e, ap (λ (x : Listed). x.entries) e)

  pub numbered-told : (out : Bytes) (ns : List ℕ) (l : Numbered) → record { result = answered r; out = out; answers = ns } ≡ l → (m ≡ value_or other l.result) × (k ≡ number_in l.result) × (out ≡ l.out) × (ns ≡ l.answers)
  numbered-told out ns l e = (em ∙ ap (λ (x : Numbered). value_or other x.result) e, ek ∙ ap (λ (x : Numbered). number_in x.result) e, ap (λ (x : Numbered). x.out) e, ap (λ (x : Numbered). x.answers) e)

  pub kept-told : (out : Bytes) (es : List Entry) (l : Kept) → record { result = answered r; out = out; entries = es } ≡ l → (m ≡ value_or other l.result) × (k ≡ number_in l.result) × (out ≡ l.out) × (es ≡ l.entries)
  kept-told out es l e = (em ∙ ap (λ (x : Kept). value_or other x.result) e, ek ∙ ap (λ (x : Kept). number_in x.result) e, ap (λ (x : Kept). x.out) e, ap (λ (x : Kept). x.entries) e)
