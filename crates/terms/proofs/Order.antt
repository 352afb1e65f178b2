-- Words with their fingerprints: the strict order, and the weak one.
use Prim.Native.Nat.{ℕ}
use mathlib.Core.Path.{◌≡◌, refl, sym, ap, ◌∙◌, subst}
use mathlib.Core.Bool.{true, false, false≢true}
use mathlib.Core.List.{◌∷◌}
use Rattle.format.specs.Bytes.{Bytes, same}
use Rattle.std.specs.Ordering.{is_eq, is_lt, is_gt, nat_cmp}
use Rattle.values.proofs.Tests.{same_self, same-apart}
use Rattle.std.specs.declared.cmp.Ordering.{Ordering}
use Rattle.sorting.proofs.Order.{before-trans, before-apart, equal-same, behind-before, compared-cmp}
use Rattle.terms.specs.Entries.{print_of}
use Rattle.terms.specs.Order.{ranked, NotBehind}

pub ranked-trans : (a b c : Bytes) → ranked a b ≡ Ordering.Less → ranked b c ≡ Ordering.Less → ranked a c ≡ Ordering.Less
ranked-trans a b c = before-trans (print_of a ∷ a) (print_of b ∷ b) (print_of c ∷ c)

pub ranked-apart : (a b : Bytes) → ranked a b ≡ Ordering.Less → a ≡ b → ⊥
ranked-apart a b e q = let f : ranked a a ≡ Ordering.Less = rw (← q) at e in before-apart (print_of a ∷ a) (print_of a ∷ a) f refl

pub ranked-same : (a b : Bytes) → ranked a b ≡ Ordering.Equal → a ≡ b
ranked-same a b e = let q = equal-same (print_of a ∷ a) (print_of b ∷ b) e in cc

pub ranked-behind : (a b : Bytes) → ranked a b ≡ Ordering.Greater → ranked b a ≡ Ordering.Less
ranked-behind a b = behind-before (print_of a ∷ a) (print_of b ∷ b)

by-compared : {P : Type 0} (c : Ordering) → (c ≡ Ordering.Equal → P) → (c ≡ Ordering.Less → P) → (c ≡ Ordering.Greater → P) → P
by-compared Ordering.Equal f g h = f refl
by-compared Ordering.Less f g h = g refl
by-compared Ordering.Greater f g h = h refl

pub before-not-behind : (a b : Bytes) → ranked a b ≡ Ordering.Less → NotBehind a b
before-not-behind a b e f = ranked-apart a a (ranked-trans a b a e f) refl

pub equal-not-behind : (a b : Bytes) → ranked a b ≡ Ordering.Equal → NotBehind a b
equal-not-behind a b e f = ranked-apart b a f (sym (ranked-same a b e))

pub le-lt : (a b c : Bytes) → NotBehind a b → ranked b c ≡ Ordering.Less → ranked a c ≡ Ordering.Less
le-lt a b c n e =
    by-compared (ranked a b) (λ q. subst (λ (z : Bytes). ranked z c ≡ Ordering.Less) (sym (ranked-same a b q)) e) (λ q. ranked-trans a b c q e)
    (λ q. absurd (n (ranked-behind a b q)))

pub lt-le : (a b c : Bytes) → ranked a b ≡ Ordering.Less → NotBehind b c → ranked a c ≡ Ordering.Less
lt-le a b c e n =
    by-compared (ranked b c) (λ q. subst (λ (z : Bytes). ranked a z ≡ Ordering.Less) (ranked-same b c q) e) (λ q. ranked-trans a b c e q)
    (λ q. absurd (n (ranked-behind b c q)))

pub le-apart : (a b : Bytes) → NotBehind a b → (a ≡ b → ⊥) → ranked a b ≡ Ordering.Less
le-apart a b n d = by-compared (ranked a b) (λ q. absurd (d (ranked-same a b q))) (λ q. q) (λ q. absurd (n (ranked-behind a b q)))

pub le_trans : (a b c : Bytes) → NotBehind a b → NotBehind b c → NotBehind a c
le_trans a b c m n e = n (lt-le c a b e m)

pub le_same : (a : Bytes) → NotBehind a a
le_same a e = ranked-apart a a e refl

-- fingerprints that differ decide as numbers do
pub ranked-cmp : (a b : Bytes) (p q : ℕ) → p ≡ print_of a → q ≡ print_of b → (p ≡ q → ⊥) → nat_cmp p q ≡ ranked a b
ranked-cmp a b p q e f n =
    ap (λ (z : ℕ). nat_cmp z q) e ∙ ap (λ (z : ℕ). nat_cmp (print_of a) z) f ∙ sym (compared-cmp (print_of a) (print_of b) a b (λ z. n (e ∙ z ∙ sym f)))

-- the tests of an order, by their words
pub equal-told : (a b : Bytes) → is_eq (ranked a b) ≡ same a b
equal-told a b =
    by-compared (ranked a b) (λ e. ap is_eq e ∙ sym (ap (same a) (sym (ranked-same a b e)) ∙ same_self a))
    (λ e. ap is_eq e ∙ sym (same-apart a b (ranked-apart a b e)))
    (λ e. ap is_eq e ∙ sym (same-apart a b (λ q. ranked-apart b a (ranked-behind a b e) (sym q))))

pub not-greater : (a b : Bytes) → is_gt (ranked a b) ≡ false → NotBehind a b
not-greater a b h =
    by-compared (ranked a b) (equal-not-behind a b) (before-not-behind a b) (λ e. absurd (false≢true (sym h ∙ ap is_gt e)))

pub not-less : (a b : Bytes) → is_lt (ranked a b) ≡ false → NotBehind b a
not-less a b h e = false≢true (sym h ∙ ap is_lt e)

pub less-told : (o : Ordering) → is_lt o ≡ true → o ≡ Ordering.Less
less-told Ordering.Less h = refl
less-told Ordering.Equal h = absurd (false≢true h)
less-told Ordering.Greater h = absurd (false≢true h)

pub equal-only : (o : Ordering) → is_eq o ≡ true → o ≡ Ordering.Equal
equal-only Ordering.Less h = absurd (false≢true h)
equal-only Ordering.Equal h = refl
equal-only Ordering.Greater h = absurd (false≢true h)

pub greater-left : (o : Ordering) → is_eq o ≡ false → (o ≡ Ordering.Less → ⊥) → o ≡ Ordering.Greater
greater-left Ordering.Less h n = absurd (n refl)
greater-left Ordering.Equal h n = absurd (false≢true (sym h))
greater-left Ordering.Greater h n = refl
