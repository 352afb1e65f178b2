-- The parts of a text between bytes that pass a test, and its words: by the bytes in front of the first such one.
use Prim.Native.Nat.{ℕ}
use mathlib.Core.Path.{◌≡◌, refl, sym, ap, ◌∙◌}
use mathlib.Core.Bool.{Bool, true, false, not, and-eq-true_iff}
use mathlib.Core.List.{List, [], ◌∷◌, ◌++◌}
use Rattle.format.specs.Bytes.{Bytes, pick, all}
use Rattle.format.specs.Lists.{is_filled, filter, front, behind, onto, split_by}
use Rattle.format.specs.Words.{is_gap, not_gap, words}

-- the parts behind the first byte of a text, none of an empty one
abbrev pub parts_behind : (ℕ → Bool) → Bytes → List Bytes
parts_behind p [] = []
parts_behind p (c ∷ s) = split_by p s

pub split-cut : (p : ℕ → Bool) (s : Bytes) → split_by p s ≡ front (λ c. not (p c)) s ∷ parts_behind p (behind (λ c. not (p c)) s)
split-cut p [] = refl
split-cut p (c ∷ s) = go (p c) (split-cut p s)
  where
    other : ℕ → Bool
    other d = not (p d)

    go : (t : Bool) → split_by p s ≡ front other s ∷ parts_behind p (behind other s)
        → pick t ([] ∷ split_by p s) (onto c (split_by p s)) ≡ pick (not t) (c ∷ front other s) [] ∷ parts_behind p (pick (not t) (behind other s) (c ∷ s))
    go true e = refl
    go false e = ap (onto c) e

-- the words of a text that begins with a byte, by whether it is a gap
abbrev words_by : Bool → ℕ → Bytes → List Bytes
words_by t c s = filter is_filled (pick t ([] ∷ split_by is_gap s) (onto c (split_by is_gap s)))

-- gaps at the front do not matter
pub words-gap : (c : ℕ) (s : Bytes) → is_gap c ≡ true → words (c ∷ s) ≡ words s
words-gap c s e = ap (λ (t : Bool). words_by t c s) e

pub words-skip : (s : Bytes) → words s ≡ words (behind is_gap s)
words-skip [] = refl
words-skip (c ∷ s) = go (is_gap c) refl (words-skip s)
  where
    go : (t : Bool) → is_gap c ≡ t → words s ≡ words (behind is_gap s) → words_by t c s ≡ words (pick t (behind is_gap s) (c ∷ s))
    go true e h = h
    go false e h = ap (λ (t : Bool). words_by t c s) (sym e)

-- a word at the front, and the words behind it
words-behind : (s : Bytes) → filter is_filled (parts_behind is_gap (behind not_gap s)) ≡ words (behind not_gap s)
words-behind [] = refl
words-behind (c ∷ s) = go (is_gap c) refl (words-behind s)
  where
    go : (t : Bool) → is_gap c ≡ t → filter is_filled (parts_behind is_gap (behind not_gap s)) ≡ words (behind not_gap s)
        → filter is_filled (parts_behind is_gap (pick (not t) (behind not_gap s) (c ∷ s))) ≡ words (pick (not t) (behind not_gap s) (c ∷ s))
    go true e h = ap (λ (t : Bool). words_by t c s) (sym e)
    go false e h = h

pub words-cut : (c : ℕ) (s : Bytes) → is_gap c ≡ false → words (c ∷ s) ≡ (c ∷ front not_gap s) ∷ words (behind not_gap s)
words-cut c s e =
    ap (λ (t : Bool). words_by t c s) e
    ∙ ap (λ (ps : List Bytes). filter is_filled (onto c ps)) (split-cut is_gap s)
    ∙ ap (λ (ws : List Bytes). (c ∷ front not_gap s) ∷ ws) (words-behind s)

-- a text is its front and what is behind it, and the front passes the test
pub front-behind : (p : ℕ → Bool) (s : Bytes) → front p s ++ behind p s ≡ s
front-behind p [] = refl
front-behind p (c ∷ s) = go (p c) (front-behind p s)
  where
    go : (t : Bool) → front p s ++ behind p s ≡ s → pick t (c ∷ front p s) [] ++ pick t (behind p s) (c ∷ s) ≡ c ∷ s
    go true e = ap (λ (x : Bytes). c ∷ x) e
    go false e = refl

pub front-passes : (p : ℕ → Bool) (s : Bytes) → all p (front p s) ≡ true
front-passes p [] = refl
front-passes p (c ∷ s) = go (p c) refl (front-passes p s)
  where
    go : (t : Bool) → p c ≡ t → all p (front p s) ≡ true → all p (pick t (c ∷ front p s) []) ≡ true
    go true q e = (and-eq-true_iff (p c) (all p (front p s))).1 (q, e)
    go false q e = refl

-- bytes that pass a test, then one that does not
pub front-stops : (p : ℕ → Bool) (s : Bytes) (c : ℕ) (y : Bytes) → all p s ≡ true → p c ≡ false → (front p (s ++ (c ∷ y)) ≡ s) × (behind p (s ++ (c ∷ y)) ≡ c ∷ y)
front-stops p [] c y e q = (ap (λ (t : Bool). pick t (c ∷ front p y) []) q, ap (λ (t : Bool). pick t (behind p y) (c ∷ y)) q)
front-stops p (d ∷ s) c y e q =
    let k = (and-eq-true_iff (p d) (all p s)).0 e in
    let h = front-stops p s c y k.1 q in
    let z : Bytes = s ++ (c ∷ y) in
    (ap (λ (t : Bool). pick t (d ∷ front p z) []) k.0 ∙ ap (λ (x : Bytes). d ∷ x) h.0, ap (λ (t : Bool). pick t (behind p z) (d ∷ z)) k.0 ∙ h.1)
