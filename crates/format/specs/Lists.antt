-- What the definitions do with lists of anything.
use Rattle.std.specs.Prelude.{ℕ, zero, suc, ◌+◌, Bool, true, false, List, [], ◌∷◌, ◌++◌}
use Rattle.std.proofs.Math.Option.{Option, none, some}
use Rattle.format.specs.Bytes.{pick, any}

-- one, if a test says so; and what an answer leads to, where there is one
abbrev pub only_if : {A : Type 0} → Bool → A → Option A
only_if true a = some a
only_if false a = none

abbrev pub onward : {A B : Type 0} → (A → Option B) → Option A → Option B
onward f none = none
onward f (some a) = f a

abbrev pub is_filled : {A : Type 0} → List A → Bool
is_filled [] = false
is_filled (x ∷ xs) = true

-- those that pass a test
abbrev pub filter : {A : Type 0} → (A → Bool) → List A → List A
filter p [] = []
filter p (x ∷ xs) = pick (p x) (x ∷ filter p xs) (filter p xs)

abbrev pub sum : {A : Type 0} → (A → ℕ) → List A → ℕ
sum f [] = 0
sum f (x ∷ xs) = f x + sum f xs

-- lists, one after another
abbrev pub flat : {A : Type 0} → List (List A) → List A
flat [] = []
flat (x ∷ xs) = x ++ flat xs

-- the longest front that passes a test, and what is behind it
abbrev pub front : {A : Type 0} → (A → Bool) → List A → List A
front p [] = []
front p (x ∷ xs) = pick (p x) (x ∷ front p xs) []

abbrev pub behind : {A : Type 0} → (A → Bool) → List A → List A
behind p [] = []
behind p (x ∷ xs) = pick (p x) (behind p xs) (x ∷ xs)

-- what there is of each
abbrev pub keep : {A : Type 0} → Option A → List A → List A
keep none xs = xs
keep (some x) xs = x ∷ xs

abbrev pub kept : {A B : Type 0} → (A → Option B) → List A → List B
kept f [] = []
kept f (x ∷ xs) = keep (f x) (kept f xs)

-- a list cut in front of each that passes a test: what stands before the first such one comes first
abbrev pub onto : {A : Type 0} → A → List (List A) → List (List A)
onto x [] = (x ∷ []) ∷ []
onto x (g ∷ gs) = (x ∷ g) ∷ gs

abbrev pub cut_at : {A : Type 0} → (A → Bool) → List A → List (List A)
cut_at t [] = [] ∷ []
cut_at t (x ∷ xs) = pick (t x) ([] ∷ onto x (cut_at t xs)) (onto x (cut_at t xs))

-- the parts between those that pass a test: at least one
abbrev pub split_by : {A : Type 0} → (A → Bool) → List A → List (List A)
split_by t [] = [] ∷ []
split_by t (x ∷ xs) = pick (t x) ([] ∷ split_by t xs) (onto x (split_by t xs))

-- the k-th that passes a test is here, or so many are still to be passed
abbrev pub turn : {B : Type 0} → Bool → ℕ → B → (ℕ → B) → B
turn true zero here later = here
turn true (suc k) here later = later k
turn false k here later = later k

-- others in the place of the k-th that passes a test; of the k-th of all; and one more behind the last that passes it, where there is one
abbrev pub at : {A : Type 0} → (A → Bool) → ℕ → (A → List A) → List A → List A
at t k f [] = []
at t k f (x ∷ xs) = turn (t x) k (f x ++ xs) (λ (j : ℕ). x ∷ at t j f xs)

abbrev pub always : {A : Type 0} → A → Bool
always x = true

abbrev pub nth : {A : Type 0} → ℕ → (A → A) → List A → List A
nth k f xs = at always k (λ x. f x ∷ []) xs

abbrev pub behind_last : {A : Type 0} → (A → Bool) → A → List A → List A
behind_last t y [] = y ∷ []
behind_last t y (x ∷ xs) = x ∷ pick (any t xs) (behind_last t y xs) (y ∷ xs)

-- what stands up to the last that passes a test
abbrev pub until_last : {A : Type 0} → (A → Bool) → List A → List A
until_last t [] = []
until_last t (x ∷ xs) = pick (any t (x ∷ xs)) (x ∷ until_last t xs) []

-- what stands before the k-th that passes a test, or all where there is none
abbrev pub before : {A : Type 0} → (A → Bool) → ℕ → List A → List A
before t k [] = []
before t k (x ∷ xs) = turn (t x) k [] (λ (j : ℕ). x ∷ before t j xs)
