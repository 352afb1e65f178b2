-- Lists whose elements were moved: one move after the other, and what an exchange of two keeps.
use Prim.Native.Nat.{ℕ, zero, suc, ◌<◌, suc-le-suc}
use native.Mathlib.Nat.{le_of_suc-le-suc, zero-lt-suc}
use native.Mathlib.Omega.{arith}
use mathlib.Core.Path.{◌≡◌, refl, sym, ◌∙◌, subst}
use mathlib.Core.Bool.{Bool, false}
use mathlib.Core.List.{List, [], ◌∷◌}
use borrow.Author.Tests.{eqb-true, eqb-false}
use lib.Dec.{eqb}
use lib.ListN.{length, get_or, set, length-set}
use lib.Seq.{get_or-set_same, get_or-set_other}
use Rattle.format.specs.Bytes.{any}
use Rattle.sorting.specs.Moves.{swapped, Moved, none, more}
use Rattle.values.proofs.Tests.{by_bool, same_false, or-first, or-second}

-- what holds of a list and of what any exchange makes of it holds of what moves make of it
pub moved_keeps : (P : List ℕ → Type 0) → ((l : List ℕ) (i j : ℕ) → i < length l → j < length l → P l → P (swapped l i j)) → {l m : List ℕ} → Moved l m → P l → P m
moved_keeps P f none p = p
moved_keeps P f (more {m = m} v i j h g) p = f m i j h g (moved_keeps P f v p)

pub swapped-length : (l : List ℕ) (i j : ℕ) → length (swapped l i j) ≡ length l
swapped-length l i j = simp length-set

pub moved_length : (l m : List ℕ) → Moved l m → length m ≡ length l
moved_length l m v = moved_keeps (λ (k : List ℕ). length k ≡ length l) (λ k i j h g e. swapped-length k i j ∙ e) v refl

pub moved_on : (l m k : List ℕ) → Moved l m → Moved m k → Moved l k
moved_on l m k v w = moved_keeps (Moved l) (λ x i j h g u. more u i j h g) w v

pub moved-swapped : (l m : List ℕ) (i j : ℕ) → i < length l → j < length l → m ≡ swapped l i j → Moved l m
moved-swapped l m i j h g e = subst (Moved l) (sym e) (more none i j h g)

-- the elements of a list are those of the list with two exchanged, so what each has each keeps, and some one passes a test if one did
module _ (l : List ℕ) (i j : ℕ) (h : i < length l) (g : j < length l) where
  abbrev m : List ℕ
  m = swapped l i j

  at_second : get_or m j 0 ≡ get_or l i 0
  at_second = get_or-set_same (set l i (get_or l j 0)) j (get_or l i 0) 0 (simp length-set g)

  at_first : (i ≡ j → ⊥) → get_or m i 0 ≡ get_or l j 0
  at_first n = get_or-set_other (set l i (get_or l j 0)) j i (get_or l i 0) 0 n ∙ get_or-set_same l i (get_or l j 0) 0 h

  at_other : (q : ℕ) → (q ≡ i → ⊥) → (q ≡ j → ⊥) → get_or m q 0 ≡ get_or l q 0
  at_other q a b = get_or-set_other (set l i (get_or l j 0)) j q (get_or l i 0) 0 b ∙ get_or-set_other l i q (get_or l j 0) 0 a

  module _ (Q : ℕ → Type 0) where
    by_place : (P : ℕ → Type 0) → P j → ((i ≡ j → ⊥) → P i) → (q : ℕ) → ((q ≡ i → ⊥) → (q ≡ j → ⊥) → P q) → P q
    by_place P a b q o =
        by_bool (eqb q j) (λ e. subst P (sym (eqb-true q j e)) a)
        (λ e. by_bool (eqb q i) (λ f. let k = eqb-true q i f in subst P (sym k) (b (λ z. eqb-false q j e (k ∙ z)))) (λ f. o (eqb-false q i f) (eqb-false q j e)))

    each_on : ((q : ℕ) → q < length l → Q (get_or l q 0)) → (q : ℕ) → q < length l → Q (get_or m q 0)
    each_on f q k =
        by_place (λ (p : ℕ). p < length l → Q (get_or m p 0)) (λ z. subst Q (sym at_second) (f i h)) (λ n z. subst Q (sym (at_first n)) (f j g)) q
        (λ a b z. subst Q (sym (at_other q a b)) (f q z)) k

    each_back : ((q : ℕ) → q < length l → Q (get_or m q 0)) → (q : ℕ) → q < length l → Q (get_or l q 0)
    each_back f q k =
        by_place (λ (p : ℕ). p < length l → Q (get_or l p 0))
        (λ z. by_bool (eqb i j) (λ e. subst (λ (p : ℕ). Q (get_or l p 0)) (eqb-true i j e) (subst Q at_second (f j g))) (λ e. subst Q (at_first (eqb-false i j e)) (f i h)))
        (λ n z. subst Q at_second (f j g)) q (λ a b z. subst Q (at_other q a b) (f q z)) k

pub moved-each : (Q : ℕ → Type 0) {l m : List ℕ} → Moved l m → ((q : ℕ) → q < length l → Q (get_or l q 0)) → (q : ℕ) → q < length m → Q (get_or m q 0)
moved-each Q v f =
    moved_keeps (λ (k : List ℕ). (q : ℕ) → q < length k → Q (get_or k q 0)) (λ k i j h g e q b. each_on k i j h g Q e q (rw (swapped-length k i j) at b)) v f

any-each : (p : ℕ → Bool) (l : List ℕ) → any p l ≡ false → (q : ℕ) → q < length l → p (get_or l q 0) ≡ false
any-each p [] e q h = absurd (omega arith)
any-each p (x ∷ l) e zero h = or-first (p x) (any p l) e
any-each p (x ∷ l) e (suc q) h = any-each p l (or-second (p x) (any p l) e) q (le_of_suc-le-suc h)

each-any : (p : ℕ → Bool) (l : List ℕ) → ((q : ℕ) → q < length l → p (get_or l q 0) ≡ false) → any p l ≡ false
each-any p [] f = refl
each-any p (x ∷ l) f = rw (f 0 (zero-lt-suc (length l))) (each-any p l (λ q h. f (suc q) (suc-le-suc h)))

pub moved-any : (p : ℕ → Bool) {l m : List ℕ} → Moved l m → any p m ≡ any p l
moved-any p {l} v =
    moved_keeps (λ (k : List ℕ). any p k ≡ any p l)
    (λ k i j h g e.
    let n = swapped-length k i j in
    same_false (any p (swapped k i j)) (any p k)
    (λ z. each-any p k (each_back k i j h g (λ (x : ℕ). p x ≡ false) (λ q b. any-each p (swapped k i j) z q (rw n b))))
    (λ z. each-any p (swapped k i j) (λ q b. each_on k i j h g (λ (x : ℕ). p x ≡ false) (any-each p k z) q (rw n at b)))
    ∙ e)
    v refl
