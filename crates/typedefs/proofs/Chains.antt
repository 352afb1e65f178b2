-- Typedefs by their numbers: the first of a name, the target of a type's text, and a chain of targets step by step.
use Rattle.std.specs.Prelude.{Option, Some, None}
use Rattle.words.specs.declared.Span.{Span}
use Prim.Native.Nat.{ℕ, zero, suc, ◌-◌, ◌≤◌, ◌<◌}
use native.Mathlib.Omega.{arith}
use mathlib.Core.Path.{◌≡◌, refl, sym, ap, ◌∙◌, subst}
use mathlib.Core.List.{List, [], ◌∷◌, map}
use mathlib.Core.Option.{some}
use denote.Enum.Declared.{tag_of}
use lib.ListN.{length, take, drop, get_or}
use types.Run.{OneOf, miss}
use Rattle.format.specs.Bytes.{Bytes}
use Rattle.format.specs.Words.{after_word}
use Rattle.typing.specs.Meaning.{typed_in}
use Rattle.typing.specs.declared.Shape.{Shape}
use Rattle.typing.specs.contracts.Shape.{the_type}
use Rattle.lines.proofs.Cuts.{rest}
use Rattle.words.specs.Spans.{next_word}
use Rattle.words.proofs.Finding.{after_by, Within, after-at, word-within}
use Rattle.typedefs.specs.Targets.{target_by, Bounded, targets_in, onward, follow_of}
use Rattle.typedefs.specs.declared.Target.{Target}
use Rattle.typedefs.specs.declared.Link.{Link}
use Rattle.typedefs.specs.declared.Targets.{Targets}
use Rattle.typedefs.specs.declared.Followed.{Followed}

-- the text behind a first word
module _ (s : Bytes) (w : Option Span) (q : w ≡ next_word s) where
  pub word-behind : (a e : ℕ) → w ≡ Some (record { start = a; end = e }) → (e ≤ length s) × (drop e s ≡ after_word s)
  word-behind a e p =
      let g : next_word s ≡ Some (record { start = a; end = e }) = sym q ∙ p in
      let l : Within s (Some (record { start = a; end = e })) = subst (Within s) g (word-within s) in
      (l.1, sym (after-at s ∙ ap (after_by s) g ∙ rest s e))

  pub no_word : w ≡ None → after_word s ≡ []
  no_word p = after-at s ∙ ap (after_by s) (sym q ∙ p)

pub target-kind : (ns : List Bytes) (s : Bytes) (k : Shape) → OneOf (0 ∷ 1 ∷ 2 ∷ 3 ∷ 4 ∷ 5 ∷ 6 ∷ 7 ∷ 8 ∷ []) (tag_of the_type k) → target_by ns (some (typed_in s k)) ≡ Target.Kind
target-kind ns s Shape.Int h = refl
target-kind ns s (Shape.Range a b) h = refl
target-kind ns s Shape.Real h = refl
target-kind ns s Shape.Line h = refl
target-kind ns s (Shape.Size n) h = refl
target-kind ns s (Shape.Enum a e) h = refl
target-kind ns s Shape.Bool h = refl
target-kind ns s Shape.Field h = refl
target-kind ns s Shape.Uuid h = refl
target-kind ns s (Shape.Alias a e) h = absurd (miss (0 ∷ 1 ∷ 2 ∷ 3 ∷ 4 ∷ 5 ∷ 6 ∷ 7 ∷ 8 ∷ []) 9 tt h)

-- a table of targets: its rows, and that there is none behind them
row_in : (l : List Link) (n i : ℕ) (other : Link) → i < n → i < length l → get_or (map (λ (x : Link). x.to) (take n l)) i Target.Missing ≡ (get_or l i other).to
row_in [] n i other h g = absurd (omega arith)
row_in (x ∷ l) zero i other h g = absurd (omega arith)
row_in (x ∷ l) (suc n) zero other h g = refl
row_in (x ∷ l) (suc n) (suc i) other h g = row_in l n i other (omega arith) (omega arith)

row-past : (l : List Link) (n i : ℕ) → n ≤ i → get_or (map (λ (x : Link). x.to) (take n l)) i Target.Missing ≡ Target.Missing
row-past [] zero i h = refl
row-past [] (suc n) i h = refl
row-past (x ∷ l) zero i h = refl
row-past (x ∷ l) (suc n) zero h = absurd (omega arith)
row-past (x ∷ l) (suc n) (suc i) h = row-past l n i (omega arith)

rows-length : (l : List Link) (n : ℕ) → n ≤ length l → length (map (λ (x : Link). x.to) (take n l)) ≡ n
rows-length [] zero h = refl
rows-length [] (suc n) h = absurd (omega arith)
rows-length (x ∷ l) zero h = refl
rows-length (x ∷ l) (suc n) h = ap suc (rows-length l n (omega arith))

module _ (t : Targets) (b : Bounded t) where
  pub targets-length : length (targets_in t) ≡ t.count
  targets-length = rows-length t.rows t.count (omega (arith, b.0, b.1))

  pub target_at : (i : ℕ) (other : Link) → i < t.count → get_or (targets_in t) i Target.Missing ≡ (get_or t.rows i other).to
  target_at i other h = row_in t.rows t.count i other h (omega (arith, b.0, b.1))

  -- a chain, step by step
  module _ (i left : ℕ) where
    pub chain-stops : left ≡ 0 → follow_of left (targets_in t) i ≡ Followed.Loop
    unfolding follow_of
    chain-stops z = ap (λ (m : ℕ). follow_of m (targets_in t) i) z

    steps : (left ≡ 0 → ⊥) → follow_of left (targets_in t) i ≡ onward (get_or (targets_in t) i Target.Missing) i (λ j. follow_of (left - 1) (targets_in t) j)
    unfolding follow_of
    steps z = let y : left ≡ suc (left - 1) = omega (arith, z) in ap (λ (m : ℕ). follow_of m (targets_in t) i) y

    pub chain-past : (left ≡ 0 → ⊥) → t.count ≤ i → follow_of left (targets_in t) i ≡ Followed.Missing
    chain-past z h = steps z ∙ ap (λ (x : Target). onward x i (λ j. follow_of (left - 1) (targets_in t) j)) (row-past t.rows t.count i h)

    -- x is the target of typedef i
    pub chain-goes : (left ≡ 0 → ⊥) → i < t.count → (other : Link) (x : Target) → (get_or t.rows i other).to ≡ x → follow_of left (targets_in t) i ≡ onward x i (λ j. follow_of (left - 1) (targets_in t) j)
    chain-goes z h other x e = steps z ∙ ap (λ (y : Target). onward y i (λ j. follow_of (left - 1) (targets_in t) j)) (target_at i other h ∙ e)
