-- Entries that were moved. Exchanging two renames places, so what was distinct stays so.
use Prim.Native.Nat.{ℕ, ◌%◌, ◌<◌, ◌≤◌}
use mathlib.Core.Path.{◌≡◌, refl, sym, ap, ◌∙◌, subst}
use mathlib.Core.List.{List, map}
use borrow.Author.Tests.{eqb-true, eqb-false, eq-eqb, ne_eqb}
use lib.Dec.{eqb}
use lib.ListN.{length, get_or, set, length-set}
use lib.Seq.{get_or-set_same, get_or-set_other}
use Rattle.format.specs.Bytes.{Bytes, pick}
use Rattle.format.specs.Rules.{distinct}
use Rattle.sorting.specs.Moves.{swapped, Moved}
use Rattle.values.proofs.Tests.{by_bool}
use Rattle.sorting.proofs.Moves.{moved_keeps, moved-each}
use Rattle.keys.specs.Marks.{Inside}
use Rattle.keys.proofs.Apart.{bool_same, apart_distinct, distinct_apart, apart-renamed}

-- i and j change their places
turn : ℕ → ℕ → ℕ → ℕ
turn i j p = pick (eqb p i) j (pick (eqb p j) i p)

module _ (i j : ℕ) where
  turn-first : turn i j i ≡ j
  unfolding turn
  turn-first = rw (eq-eqb i i refl)

  turn-second : turn i j j ≡ i
  unfolding turn
  turn-second = by_bool (eqb j i) (λ e. rw e (eqb-true j i e)) (λ e. rw (e, eq-eqb j j refl))

  turn-other : (p : ℕ) → (p ≡ i → ⊥) → (p ≡ j → ⊥) → turn i j p ≡ p
  unfolding turn
  turn-other p a b = rw (ne_eqb p i a, ne_eqb p j b)

  turn-cases : (P : ℕ → Type 0) → P i → P j → (p : ℕ) → ((p ≡ i → ⊥) → (p ≡ j → ⊥) → P p) → P p
  turn-cases P a b p o =
      by_bool (eqb p i) (λ e. subst P (sym (eqb-true p i e)) a)
      (λ e. by_bool (eqb p j) (λ f. subst P (sym (eqb-true p j f)) b) (λ f. o (eqb-false p i e) (eqb-false p j f)))

  turn-turn : (p : ℕ) → turn i j (turn i j p) ≡ p
  turn-turn p =
      turn-cases (λ (q : ℕ). turn i j (turn i j q) ≡ q) (rw turn-first turn-second) (rw turn-second turn-first) p
      (λ a b. rw (turn-other p a b) (turn-other p a b))

  turn-same : (p q : ℕ) → turn i j p ≡ turn i j q → p ≡ q
  turn-same p q e = sym (turn-turn p) ∙ ap (turn i j) e ∙ turn-turn q

module _ (l : List ℕ) (i j : ℕ) (h : i < length l) (g : j < length l) where
  turn_below : (p : ℕ) → p < length l → turn i j p < length l
  turn_below p k = turn-cases i j (λ (q : ℕ). turn i j q < length l) (rw turn-first g) (rw turn-second h) p (λ a b. rw (turn-other i j p a b) k)

  abbrev Turned : ℕ → Type 0
  Turned p = get_or (swapped l i j) p 0 ≡ get_or l (turn i j p) 0

  turned-second : Turned j
  turned-second = get_or-set_same (set l i (get_or l j 0)) j (get_or l i 0) 0 (simp length-set g) ∙ ap (λ (k : ℕ). get_or l k 0) (sym (turn-second i j))

  turned-first : Turned i
  turned-first =
      by_bool (eqb i j) (λ e. subst Turned (sym (eqb-true i j e)) turned-second)
      (λ e.
      get_or-set_other (set l i (get_or l j 0)) j i (get_or l i 0) 0 (eqb-false i j e)
      ∙ get_or-set_same l i (get_or l j 0) 0 h
      ∙ ap (λ (k : ℕ). get_or l k 0) (sym (turn-first i j)))

  turned-other : (p : ℕ) → (p ≡ i → ⊥) → (p ≡ j → ⊥) → Turned p
  turned-other p a b =
      get_or-set_other (set l i (get_or l j 0)) j p (get_or l i 0) 0 b
      ∙ get_or-set_other l i p (get_or l j 0) 0 a
      ∙ ap (λ (k : ℕ). get_or l k 0) (sym (turn-other i j p a b))

  turned : (p : ℕ) → Turned p
  turned p = turn-cases i j Turned turned-first turned-second p (turned-other p)

  turned-back : (p : ℕ) → get_or l p 0 ≡ get_or (swapped l i j) (turn i j p) 0
  turned-back p = sym (turned (turn i j p) ∙ ap (λ (k : ℕ). get_or l k 0) (turn-turn i j p))

  swapped-length : length (swapped l i j) ≡ length l
  swapped-length = simp length-set

  swapped-below : (p : ℕ) → p < length (swapped l i j) → turn i j p < length l
  swapped-below p k = turn_below p (rw swapped-length at k)

  swapped-distinct : (f : ℕ → Bytes) → distinct (map f (swapped l i j)) ≡ distinct (map f l)
  swapped-distinct f =
      let m = swapped l i j in
      bool_same (distinct (map f m)) (distinct (map f l))
      (λ e.
      apart_distinct f l
      (apart-renamed f m l (turn i j) (sym swapped-length) (λ p k. rw swapped-length (turn_below p k)) (turn-same i j) turned-back (distinct_apart f m e)))
      (λ e. apart_distinct f m (apart-renamed f l m (turn i j) swapped-length swapped-below (turn-same i j) turned (distinct_apart f l e)))

pub moved-distinct : (f : ℕ → Bytes) {l m : List ℕ} → Moved l m → distinct (map f m) ≡ distinct (map f l)
moved-distinct f {l} v = moved_keeps (λ (k : List ℕ). distinct (map f k) ≡ distinct (map f l)) (λ k i j h g e. swapped-distinct k i j h g f ∙ e) v refl

pub moved_inside : (s : Bytes) {l m : List ℕ} → Moved l m → Inside s (length l) l → Inside s (length m) m
moved_inside s v e = moved-each (λ (x : ℕ). x % 65536 ≤ length s) v e
