-- Laws of lists: those kept, the k-th changed, one more behind the last, lists cut and joined.
use Prim.Native.Nat.{ℕ, zero, suc, ◌+◌}
use native.Mathlib.Omega.{arith}
use mathlib.Core.Path.{◌≡◌, refl, sym, ap, ◌∙◌}
use mathlib.Core.Bool.{Bool, true, false}
use mathlib.Core.List.{List, [], ◌∷◌, ◌++◌, append_assoc, map}
use mathlib.Core.Option.{Option, none, some}
use Rattle.format.specs.Bytes.{pick, any}
use Rattle.format.specs.Lists.{sum, flat, filter, keep, kept, onto, cut_at, turn, at, nth, behind_last}
use Rattle.format.proofs.Elements.{Each, each_append, each-parts, each-imp, any_none, Filled, Has}

abbrev pub None : {A : Type 0} → (A → Bool) → List A → Type 0
None t xs = Each (λ x. t x ≡ false) xs

-- what is kept

module _ {A B : Type 0} (g : A → Option B) where
  keep_append : (o : Option B) (xs ys : List B) → keep o (xs ++ ys) ≡ keep o xs ++ ys
  keep_append none xs ys = refl
  keep_append (some x) xs ys = refl

  pub kept_append : (xs ys : List A) → kept g (xs ++ ys) ≡ kept g xs ++ kept g ys
  kept_append [] ys = refl
  kept_append (x ∷ xs) ys = ap (keep (g x)) (kept_append xs ys) ∙ keep_append (g x) (kept g xs) (kept g ys)

  pub kept-none : (xs : List A) → Each (λ (x : A). g x ≡ none) xs → kept g xs ≡ []
  kept-none [] h = refl
  kept-none (x ∷ xs) h = ap (λ (o : Option B). keep o (kept g xs)) h.0 ∙ kept-none xs h.1

  -- with others in the place of the k-th: what is kept of those stands in the place of what was kept of it
  module _ (t : A → Bool) (u : B → Bool) (f : A → List A) (h : B → List B) where
    abbrev pub Mirrors : A → Option B → Type 0
    Mirrors x none = t x ≡ false
    Mirrors x (some y) = (t x ≡ u y) × (u y ≡ true → kept g (f x) ≡ h y)

    mirror-turn : (b : Bool) (k : ℕ) (x : A) (y : B) (xs : List A) → g x ≡ some y → (b ≡ true → kept g (f x) ≡ h y) → ((j : ℕ) → kept g (at t j f xs) ≡ at u j h (kept g xs))
        → kept g (turn b k (f x ++ xs) (λ (j : ℕ). x ∷ at t j f xs)) ≡ turn b k (h y ++ kept g xs) (λ (j : ℕ). y ∷ at u j h (kept g xs))
    mirror-turn true zero x y xs e m ih = kept_append (f x) xs ∙ ap (λ (z : List B). z ++ kept g xs) (m refl)
    mirror-turn true (suc k) x y xs e m ih = (λ i. keep (e i) (ih k i))
    mirror-turn false k x y xs e m ih = (λ i. keep (e i) (ih k i))

    mirror-by : (o : Option B) (k : ℕ) (x : A) (xs : List A) → g x ≡ o → Mirrors x o → ((j : ℕ) → kept g (at t j f xs) ≡ at u j h (kept g xs)) → kept g (at t k f (x ∷ xs)) ≡ at u k h (keep o (kept g xs))
    mirror-by none k x xs e m ih = ap (λ (b : Bool). kept g (turn b k (f x ++ xs) (λ (j : ℕ). x ∷ at t j f xs))) m ∙ ap (λ (o : Option B). keep o (kept g (at t k f xs))) e ∙ ih k
    mirror-by (some y) k x xs e m ih = ap (λ (b : Bool). kept g (turn b k (f x ++ xs) (λ (j : ℕ). x ∷ at t j f xs))) m.0 ∙ mirror-turn (u y) k x y xs e m.1 ih

    pub kept_at : (xs : List A) → Each (λ (x : A). Mirrors x (g x)) xs → (k : ℕ) → kept g (at t k f xs) ≡ at u k h (kept g xs)
    kept_at [] m k = refl
    kept_at (x ∷ xs) m k = mirror-by (g x) k x xs refl m.0 (kept_at xs m.1)

  -- with one more behind the last
  module _ (t : A → Bool) (none_of : (x : A) → t x ≡ false → g x ≡ none) (y : A) where
    pub none_kept : (xs : List A) → any t xs ≡ false → kept g xs ≡ []
    none_kept xs e = kept-none xs (each-imp (λ (x : A). t x ≡ false) (λ (x : A). g x ≡ none) none_of xs (any_none t xs e))

    behind-by : (b : Bool) (xs : List A) → any t xs ≡ b → kept g (behind_last t y xs) ≡ kept g xs ++ keep (g y) [] → kept g (pick b (behind_last t y xs) (y ∷ xs)) ≡ kept g xs ++ keep (g y) []
    behind-by true xs e ih = ih
    behind-by false xs e ih = (λ i. keep (g y) (none_kept xs e i)) ∙ (λ i. sym (none_kept xs e) i ++ keep (g y) [])

    pub kept-behind : (xs : List A) → kept g (behind_last t y xs) ≡ kept g xs ++ keep (g y) []
    kept-behind [] = refl
    kept-behind (x ∷ xs) = ap (keep (g x)) (behind-by (any t xs) xs refl (kept-behind xs)) ∙ keep_append (g x) (kept g xs) (keep (g y) [])

-- each of a list with the k-th changed, with one more, of lists joined

module _ {A : Type 0} (P : A → Type 0) where
  pub each-pick : (b : Bool) (xs ys : List A) → Each P xs → Each P ys → Each P (pick b xs ys)
  each-pick true xs ys h k = h
  each-pick false xs ys h k = k

  pub each-filter : (p : A → Bool) (xs : List A) → Each P xs → Each P (filter p xs)
  each-filter p [] h = tt
  each-filter p (x ∷ xs) h = each-pick (p x) (x ∷ filter p xs) (filter p xs) (h.0, each-filter p xs h.1) (each-filter p xs h.1)

  each_turn : (b : Bool) (k : ℕ) (t : A → Bool) (f : A → List A) (x : A) (xs : List A) → (b ≡ true → Each P (f x)) → P x → Each P xs → ((j : ℕ) → Each P (at t j f xs)) → Each P (turn b k (f x ++ xs) (λ (j : ℕ). x ∷ at t j f xs))
  each_turn true zero t f x xs h p ps ih = each_append P (f x) xs (h refl) ps
  each_turn true (suc k) t f x xs h p ps ih = (p, ih k)
  each_turn false k t f x xs h p ps ih = (p, ih k)

  pub each_at : (t : A → Bool) (f : A → List A) → (xs : List A) → Each P xs → Each (λ (x : A). t x ≡ true → Each P (f x)) xs → (k : ℕ) → Each P (at t k f xs)
  each_at t f [] ps fs k = tt
  each_at t f (x ∷ xs) ps fs k = each_turn (t x) k t f x xs fs.0 ps.0 ps.1 (each_at t f xs ps.1 fs.1)

  -- the same where what is said of each says it of what takes its place
  pub each_on : (t : A → Bool) (f : A → List A) → ((x : A) → P x → t x ≡ true → Each P (f x)) → (xs : List A) → Each P xs → (k : ℕ) → Each P (at t k f xs)
  each_on t f h xs ps k = each_at t f xs ps (each-imp P (λ (x : A). t x ≡ true → Each P (f x)) h xs ps) k

  pub each-behind : (t : A → Bool) (y : A) → P y → (xs : List A) → Each P xs → Each P (behind_last t y xs)
  each-behind t y p [] h = (p, tt)
  each-behind t y p (x ∷ xs) h = (h.0, each-pick (any t xs) (behind_last t y xs) (y ∷ xs) (each-behind t y p xs h.1) (p, h.1))

  pub each-flat : (gs : List (List A)) → Each (Each P) gs → Each P (flat gs)
  each-flat [] h = tt
  each-flat (g ∷ gs) h = each_append P g (flat gs) h.0 (each-flat gs h.1)

  pub flat-each : (gs : List (List A)) → Each P (flat gs) → Each (Each P) gs
  flat-each [] h = tt
  flat-each (g ∷ gs) h = let k = each-parts P g (flat gs) h in (k.0, flat-each gs k.1)

-- the i-th of all

module _ {A B : Type 0} (P : A → Type 0) (g : A → B) (f : A → A) (h : B → B) (fit : (x : A) → P x → g (f x) ≡ h (g x)) where
  pub map-nth : (i : ℕ) (xs : List A) → Each P xs → map g (nth i f xs) ≡ nth i h (map g xs)
  map-nth i [] p = refl
  map-nth zero (x ∷ xs) p = ap {B = List B} (λ y. y ∷ map g xs) (fit x p.0)
  map-nth (suc i) (x ∷ xs) p = ap {B = List B} (λ ys. g x ∷ ys) (map-nth i xs p.1)

-- what a change of the i-th leaves
pub map_same : {A B : Type 0} (g : A → B) (f : A → A) → ((x : A) → g (f x) ≡ g x) → (i : ℕ) (xs : List A) → map g (nth i f xs) ≡ map g xs
map_same g f h i [] = refl
map_same g f h zero (x ∷ xs) = ap {B = List _} (λ y. y ∷ map g xs) (h x)
map_same g f h (suc i) (x ∷ xs) = ap {B = List _} (λ ys. g x ∷ ys) (map_same g f h i xs)

-- sums

pub sum-append : {A : Type 0} (f : A → ℕ) (xs ys : List A) → sum f (xs ++ ys) ≡ sum f xs + sum f ys
sum-append f [] ys = omega arith
sum-append f (x ∷ xs) ys = omega (arith, sum-append f xs ys)

module _ {A : Type 0} (w : A → ℕ) where
  sum-turn : (b : Bool) (k : ℕ) (t : A → Bool) (f : A → List A) (x : A) (xs : List A) → (b ≡ true → sum w (f x) ≡ w x) → ((j : ℕ) → sum w (at t j f xs) ≡ sum w xs) → sum w (turn b k (f x ++ xs) (λ (j : ℕ). x ∷ at t j f xs)) ≡ sum w (x ∷ xs)
  sum-turn true zero t f x xs h ih = sum-append w (f x) xs ∙ ap (λ (n : ℕ). n + sum w xs) (h refl)
  sum-turn true (suc k) t f x xs h ih = ap (λ (n : ℕ). w x + n) (ih k)
  sum-turn false k t f x xs h ih = ap (λ (n : ℕ). w x + n) (ih k)

  pub sum-at : (t : A → Bool) (f : A → List A) → ((x : A) → t x ≡ true → sum w (f x) ≡ w x) → (xs : List A) (k : ℕ) → sum w (at t k f xs) ≡ sum w xs
  sum-at t f h [] k = refl
  sum-at t f h (x ∷ xs) k = sum-turn (t x) k t f x xs (h x) (sum-at t f h xs)

  sum-pick : (b : Bool) (n : ℕ) (xs ys : List A) → sum w xs ≡ n → sum w ys ≡ n → sum w (pick b xs ys) ≡ n
  sum-pick true n xs ys h k = h
  sum-pick false n xs ys h k = k

  pub sum-behind : (t : A → Bool) (y : A) (xs : List A) → sum w (behind_last t y xs) ≡ w y + sum w xs
  sum-behind t y [] = refl
  sum-behind t y (x ∷ xs) = omega (arith, sum-pick (any t xs) (w y + sum w xs) (behind_last t y xs) (y ∷ xs) (sum-behind t y xs) refl)

  pub sum-flat : (gs : List (List A)) → sum w (flat gs) ≡ sum (λ (g : List A). sum w g) gs
  sum-flat [] = refl
  sum-flat (g ∷ gs) = sum-append w g (flat gs) ∙ ap (λ (n : ℕ). sum w g + n) (sum-flat gs)

  pub sum-nth : (f : A → A) (c : ℕ) → ((x : A) → w (f x) ≡ c + w x) → (i : ℕ) (xs : List A) → Has xs i → sum w (nth i f xs) ≡ c + sum w xs
  sum-nth f c h i [] k = absurd k
  sum-nth f c h zero (x ∷ xs) k = omega (arith, h x)
  sum-nth f c h (suc i) (x ∷ xs) k = omega (arith, sum-nth f c h i xs k)

pub flat_append : {A : Type 0} (xs ys : List (List A)) → flat (xs ++ ys) ≡ flat xs ++ flat ys
flat_append [] ys = refl
flat_append (x ∷ xs) ys = ap (λ (z : List _). x ++ z) (flat_append xs ys) ∙ sym (append_assoc x (flat xs) (flat ys))

-- cut and joined: the first list has none that passes the test, every other has one, at its head

module _ {A : Type 0} (t : A → Bool) where
  abbrev pub Starts : Bool → List A → Type 0
  Starts true xs = None t xs
  Starts false [] = ⊥
  Starts false (x ∷ xs) = (t x ≡ true) × None t xs

  abbrev pub Parted : Bool → List (List A) → Type 0
  Parted true [] = ⊥
  Parted false [] = Unit {0}
  Parted first (g ∷ gs) = Starts first g × Parted false gs

  cut_by : (b : Bool) (x : A) (gs : List (List A)) → t x ≡ b → Parted true gs → Parted true (pick b ([] ∷ onto x gs) (onto x gs))
  cut_by b x [] e h = absurd h
  cut_by true x (g ∷ gs) e h = (tt, ((e, h.0), h.1))
  cut_by false x (g ∷ gs) e h = ((e, h.0), h.1)

  pub cut-parted : (xs : List A) → Parted true (cut_at t xs)
  cut-parted [] = (tt, tt)
  cut-parted (x ∷ xs) = cut_by (t x) x (cut_at t xs) refl (cut-parted xs)

  pub parted-filled : (gs : List (List A)) → Parted true gs → Filled gs
  parted-filled [] h = absurd h
  parted-filled (g ∷ gs) h = tt

  flat-by : (b : Bool) (x : A) (gs : List (List A)) → flat (pick b ([] ∷ onto x gs) (onto x gs)) ≡ x ∷ flat gs
  flat-by true x [] = refl
  flat-by true x (g ∷ gs) = refl
  flat-by false x [] = refl
  flat-by false x (g ∷ gs) = refl

  pub flat-cut : (xs : List A) → flat (cut_at t xs) ≡ xs
  flat-cut [] = refl
  flat-cut (x ∷ xs) = flat-by (t x) x (cut_at t xs) ∙ ap {B = List A} (λ y. x ∷ y) (flat-cut xs)

  pub cut-front : (g ys : List A) (gs : List (List A)) → None t g → cut_at t ys ≡ [] ∷ gs → cut_at t (g ++ ys) ≡ g ∷ gs
  cut-front [] ys gs h e = e
  cut-front (x ∷ g) ys gs h e = ap (λ (b : Bool). pick b ([] ∷ onto x (cut_at t (g ++ ys))) (onto x (cut_at t (g ++ ys)))) h.0 ∙ ap (onto x) (cut-front g ys gs h.1 e)

  cut-others : (gs : List (List A)) → Parted false gs → cut_at t (flat gs) ≡ [] ∷ gs
  cut-others [] h = refl
  cut-others ([] ∷ gs) h = absurd h.0
  cut-others ((x ∷ g) ∷ gs) h =
      ap (λ (b : Bool). pick b ([] ∷ onto x (cut_at t (g ++ flat gs))) (onto x (cut_at t (g ++ flat gs)))) h.0.0
      ∙ ap (λ (z : List (List A)). [] ∷ onto x z) (cut-front g (flat gs) gs h.0.1 (cut-others gs h.1))

  pub cut-flat : (gs : List (List A)) → Parted true gs → cut_at t (flat gs) ≡ gs
  cut-flat [] h = absurd h
  cut-flat (g ∷ gs) h = cut-front g (flat gs) gs h.0 (cut-others gs h.1)

  -- one list changed
  pub parted-nth : (P : List A → Type 0) (f : List A → List A) → ((first : Bool) (g : List A) → P g → Starts first g → Starts first (f g)) → (i : ℕ) (first : Bool) (gs : List (List A)) → Each P gs → Parted first gs → Parted first (nth i f gs)
  parted-nth P f h i first [] p c = c
  parted-nth P f h zero first (g ∷ gs) p c = (h first g p.0 c.0, c.1)
  parted-nth P f h (suc i) first (g ∷ gs) p c = (c.0, parted-nth P f h i false gs p.1 c.1)

  -- lists behind others
  pub parted-behind : (ys zs : List (List A)) → ((first : Bool) → Parted first ys → Parted first zs) → (first : Bool) (gs : List (List A)) → Parted first (gs ++ ys) → Parted first (gs ++ zs)
  parted-behind ys zs h first [] c = h first c
  parted-behind ys zs h first (g ∷ gs) c = (c.0, parted-behind ys zs h false gs c.1)
