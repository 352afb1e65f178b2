-- A size rule that two counts meet is met by every count between them.
use Prim.Native.Nat.{ℕ, ◌≤◌}
use native.Mathlib.Omega.{arith}
use mathlib.Core.Path.{◌≡◌, refl}
use mathlib.Core.Bool.{Bool, true, false}
use mathlib.Core.List.{List, [], ◌∷◌}
use mathlib.Core.Option.{Option, none, some}
use lib.Dec.{leb, ltb, eqb}
use borrow.Author.Tests.{ltb-true, leb-true, eqb-true, lt-ltb, le-leb, eq-eqb}
use Rattle.format.specs.Bytes.{Bytes, text, pick, same}
use Rattle.format.specs.Numbers.{Bounds, number_of}
use Rattle.format.specs.Rules.{order_of, size_by, size_rule, meets_size}

abbrev Between : Option (ℕ → Bool) → Type 0
Between r = (l m n : ℕ) → l ≤ m → m ≤ n → meets_size r l ≡ true → meets_size r n ≡ true → meets_size r m ≡ true

by-some : (o : ℕ → ℕ → Bool) → ((k : ℕ) → Between (some (λ (m : ℕ). o m k))) → (x : Option ℕ) → Between (size_by (some o) x)
by-some o h none l m n lm mn a b = refl
by-some o h (some k) l m n lm mn a b = h k l m n lm mn a b

by-none : (x : Option ℕ) → Between (size_by none x)
by-none x l m n lm mn a b = refl

by-pick : (t : Bool) (o p : Option (ℕ → ℕ → Bool)) (x : Option ℕ) → Between (size_by o x) → Between (size_by p x) → Between (size_by (pick t o p) x)
by-pick true o p x h k = h
by-pick false o p x h k = k

order-between : (w : Bytes) (x : Option ℕ) → Between (size_by (order_of w) x)
order-between w x =
    let less : ℕ → ℕ → Bool = λ m n. ltb m n in
    let most : ℕ → ℕ → Bool = λ m n. leb m n in
    let extended : ℕ → ℕ → Bool = λ m n. ltb n m in
    let atleast : ℕ → ℕ → Bool = λ m n. leb n m in
    let fourth : Option (ℕ → ℕ → Bool) = pick (same w (text ">=")) (some atleast) none in
    let third : Option (ℕ → ℕ → Bool) = pick (same w (text ">")) (some extended) fourth in
    let second : Option (ℕ → ℕ → Bool) = pick (same w (text "<=")) (some most) third in
    by-pick (same w (text "<")) (some less) second x (by-some less (λ k l m n lm mn a b. lt-ltb m k (omega (arith, ltb-true n k b))) x)
    (by-pick (same w (text "<=")) (some most) third x (by-some most (λ k l m n lm mn a b. le-leb m k (omega (arith, leb-true n k b))) x)
    (by-pick (same w (text ">")) (some extended) fourth x (by-some extended (λ k l m n lm mn a b. lt-ltb k m (omega (arith, ltb-true k l a))) x)
    (by-pick (same w (text ">=")) (some atleast) none x (by-some atleast (λ k l m n lm mn a b. le-leb k m (omega (arith, leb-true k l a))) x) (by-none x))))

pub size-between : (b : Bounds) (ws : List Bytes) (l m n : ℕ) → l ≤ m → m ≤ n → meets_size (size_rule b ws) l ≡ true → meets_size (size_rule b ws) n ≡ true → meets_size (size_rule b ws) m ≡ true
size-between b [] l m n lm mn p q = refl
size-between b (w ∷ []) l m n lm mn p q = by-some (λ i j. eqb i j) (λ k i j h ij jh s t. eq-eqb j k (omega (arith, eqb-true i k s, eqb-true h k t))) (number_of b w) l m n lm mn p q
size-between b (w ∷ v ∷ []) l m n lm mn p q = order-between w (number_of b v) l m n lm mn p q
size-between b (w ∷ v ∷ u ∷ us) l m n lm mn p q = refl
