-- Twins left out: the entries kept and those that are not yet looked at say what all did.
use Prim.Native.Nat.{ℕ, suc, ◌+◌, ◌<◌, ◌≤◌}
use native.Mathlib.Numerals.{add-one}
use native.Mathlib.Omega.{arith}
use mathlib.Core.Path.{◌≡◌, refl, sym, ap, ap₂, ◌∙◌, subst}
use mathlib.Core.Bool.{Bool, true, false, ◌||◌}
use mathlib.Core.List.{List, [], ◌∷◌, ◌++◌}
use lib.ListN.{length, get_or, set, take, drop, length-set, drop_of_length-le}
use lib.Seq.{take-suc, take-suc-set, drop-set-lt}
use Rattle.format.specs.Bytes.{Bytes}
use Rattle.terms.specs.Sets.{Term, says}
use Rattle.terms.specs.Entries.{term_at, Entries, Kept}
use Rattle.terms.proofs.Tests.{or_assoc, or-none, some, some-append, some-cut, some_at}
use Rattle.terms.proofs.Prints.{entries-set}

said-twice : (a b c : Bool) → (a || b) || c ≡ (a || b) || (b || c)
said-twice true b c = refl
said-twice false true c = refl
said-twice false false c = refl

-- the first n and those from i on
abbrev pub halves : Bytes → ℕ → Bytes → List ℕ → ℕ → ℕ → Bool
halves w k s l n i = some w k s (take n l) || some w k s (drop i l)

-- how far merging has come: entries up to last are kept, those from i on are left
pub record Merged (s : Bytes) (l₀ l : List ℕ) (last i : ℕ) : Type 0 where
  pub long : length l ≡ length l₀
  pub behind : last < i
  pub inside : i ≤ length l
  pub entries : Entries s (length l) l
  pub kept : (w : Bytes) (k : ℕ) → halves w k s l (suc last) i ≡ some w k s l₀

pub merged-start : (s : Bytes) (l : List ℕ) → 0 < length l → Entries s (length l) l → Merged s l l 0 1
merged-start s l h e = record { long = refl; behind = omega arith; inside = h; entries = e; kept = λ w k. sym (some-cut w k s l 1) }

module _ (w : Bytes) (k : ℕ) (s : Bytes) where
  one_more : (l : List ℕ) (x : ℕ) → some w k s (l ++ (x ∷ [])) ≡ some w k s l || says w k (term_at s x)
  one_more l x = some-append w k s l (x ∷ []) ∙ ap (λ (t : Bool). some w k s l || t) (or-none (says w k (term_at s x)))

  first-last : (l : List ℕ) (n : ℕ) → n < length l → some w k s (take (suc n) l) ≡ some w k s (take n l) || says w k (term_at s (get_or l n 0))
  first-last l n h = ap (some w k s) (take-suc l n 0 h) ∙ one_more (take n l) (get_or l n 0)

module _ (s : Bytes) (l₀ l : List ℕ) (last i : ℕ) (m : Merged s l₀ l last i) (h : i < length l) where
  abbrev y : ℕ
  y = get_or l i 0

  -- an entry like the last one kept is passed over
  pub merged-twin : term_at s (get_or l last 0) ≡ term_at s y → Merged s l₀ l last (i + 1)
  merged-twin e =
      let b = m.behind in
      record {
        long = m.long;
        behind = omega arith;
        inside = omega arith;
        entries = m.entries;
        kept =
            λ w k.
            ap (λ (t : Bool). t || some w k s (drop (i + 1) l)) (first-last w k s l last (omega arith))
            ∙ said-twice (some w k s (take last l)) (says w k (term_at s (get_or l last 0))) (some w k s (drop (i + 1) l))
            ∙ ap (λ (t : Term). (some w k s (take last l) || says w k (term_at s (get_or l last 0))) || (says w k t || some w k s (drop (i + 1) l))) e
            ∙ sym (ap₂ ◌||◌ (first-last w k s l last (omega arith)) (some_at w k s l i h))
            ∙ m.kept w k;
      }

  -- another is kept behind it
  pub merged-next : Merged s l₀ (set l (last + 1) y) (last + 1) (i + 1)
  merged-next =
      let b = m.behind in
      let n = length-set l (last + 1) y in
      let one : last + 1 ≡ suc last = add-one last in
      record {
        long = n ∙ m.long;
        behind = omega arith;
        inside = omega arith;
        entries = subst (λ (z : ℕ). Entries s z (set l (last + 1) y)) (sym n) (entries-set s l (length l) (last + 1) y (omega arith) m.entries (m.entries i h));
        kept =
            λ w k.
            ap₂ ◌||◌
            (ap (some w k s) (take-suc-set l (last + 1) y (omega arith)) ∙ one_more w k s (take (last + 1) l) y ∙ ap (λ (z : ℕ). some w k s (take z l) || says w k (term_at s y)) one)
            (ap (some w k s) (drop-set-lt (i + 1) l (last + 1) y (omega arith)))
            ∙ or_assoc (some w k s (take (suc last) l)) (says w k (term_at s y)) (some w k s (drop (i + 1) l))
            ∙ ap (λ (t : Bool). some w k s (take (suc last) l) || t) (sym (some_at w k s l i h))
            ∙ m.kept w k;
      }

pub merged-end : (s : Bytes) (l₀ l : List ℕ) (last i : ℕ) → Merged s l₀ l last i → length l ≤ i → Kept s l₀ (take (last + 1) l)
merged-end s l₀ l last i m h w k =
    ap (λ (z : ℕ). some w k s (take z l)) (add-one last)
    ∙ sym (or-none (some w k s (take (suc last) l)))
    ∙ ap (λ (z : List ℕ). some w k s (take (suc last) l) || some w k s z) (sym (drop_of_length-le l h))
    ∙ m.kept w k

-- there were none
pub merged-none : (s : Bytes) (l : List ℕ) → length l ≡ 0 → (0 ≤ length l) × Entries s 0 l × Kept s l (take 0 l)
merged-none s [] e = (omega arith, λ i h. absurd (omega arith), λ w k. refl)
merged-none s (x ∷ l) e = absurd (omega arith)
