-- Numbers for the names that an insert omits (document 02, order 6).
use Rattle.std.specs.Prelude.{ℕ, zero, suc, ◌+◌, ◌/◌, ◌%◌, max, not, List, [], ◌∷◌, ◌++◌, map, leb, eqb}
use Rattle.std.proofs.Math.Option
use Rattle.std.proofs.Math.Option.{Option, none, some}
use Rattle.format.specs.Lists.{only_if, onward, filter, kept}
use Rattle.format.specs.Bytes.{Bytes, pick, all, same, among}
use Rattle.format.specs.Records.{Record}
use Rattle.format.specs.Sets.{RecSet}
use Rattle.format.specs.Words.{trim}
use Rattle.format.specs.Numbers.{Int, plus, minus, Bounds, int_of, is_at_most}
use Rattle.format.specs.Rules.{type_rules, auto, kinds_of, Span, all_ints, span_of}
use Rattle.format.specs.Questions.{values_in}
use Rattle.format.specs.Written.{Pair}

-- "An insert that omits such a name gets it .., once, .. in the order of the lists"

-- each once, at its first place
abbrev pub firsts : List Bytes → List Bytes
firsts [] = []
firsts (n ∷ ns) = n ∷ filter (λ (m : Bytes). not (same n m)) (firsts ns)

abbrev pub pair_names : List Pair → List Bytes
pair_names ps = map (λ (p : Pair). p.name) ps

abbrev pub omitted : Record → List Pair → List Bytes
omitted rules new = filter (λ (n : Bytes). not (among n (pair_names new))) (firsts (auto rules))

-- "The value is the least int above every int in that field in the set, not below 0, that meets the field's types."

-- "A field holding no int, blanks and newlines around it aside, doesn't count toward this."
abbrev pub ints_of : Bounds → Bytes → List Record → List Int
ints_of b n rs = kept (λ (v : Bytes). int_of b (trim v)) (values_in n rs)

-- the least of at least 0 that is above an int, and that is not below one; −0 is 0
abbrev pub above : Int → ℕ
above (plus n) = suc n
above (minus n) = pick (eqb n 0) 1 0

abbrev pub from : Int → ℕ
from (plus n) = n
from (minus n) = 0

-- the largest of the numbers of a list's elements, 0 where there is none
abbrev pub largest : {A : Type 0} → (A → ℕ) → List A → ℕ
largest f [] = 0
largest f (x ∷ xs) = max (f x) (largest f xs)

abbrev pub least_in : List Span → List Int → Option ℕ
least_in ss is =
    let n : ℕ = max (largest above is) (largest (λ (s : Span). from s.low) ss) in
    only_if (all (λ (s : Span). is_at_most (plus n) s.high) ss) n

abbrev pub next_number : Bounds → RecSet → Bytes → Option ℕ
next_number b s n = least_in (all_ints b ∷ kept (span_of b) (kinds_of n (type_rules b s.rules))) (ints_of b n s.members)

-- "in decimal"

-- what stands before the last digit, where there is something
abbrev pub before_last : ℕ → Option ℕ
before_last n = only_if (leb 10 n) (n / 10)

abbrev pub or_else : {A B : Type 0} → B → (A → B) → Option A → B
or_else d f none = d
or_else d f (some a) = f a

-- the digits of a number in front of a text; `left` more may stand before the last
abbrev pub digits_onto : ℕ → ℕ → Bytes → Bytes
digits_onto zero n s = (48 + n % 10) ∷ s
digits_onto (suc left) n s = let t : Bytes = (48 + n % 10) ∷ s in or_else t (λ (m : ℕ). digits_onto left m t) (before_last n)

unfoldable pub decimal : ℕ → Bytes
decimal n = digits_onto n n []

-- "An insert that omits such a name gets it at the front"; none where an omitted name has no number

abbrev pub numbered : Bounds → RecSet → Bytes → Option Pair
numbered b s n = Option.map (λ (k : ℕ). record { name = n; value = decimal k }) (next_number b s n)

-- what each has, where each has something
abbrev pub every : {A B : Type 0} → (A → Option B) → List A → Option (List B)
every f [] = some []
every f (x ∷ xs) = onward (λ (y : _). Option.map (λ (ys : List _). y ∷ ys) (every f xs)) (f x)

abbrev pub added : Bounds → RecSet → List Pair → Option (List Pair)
added b s new = every (numbered b s) (omitted s.rules new)

unfoldable pub completed : Bounds → RecSet → List Pair → Option (List Pair)
completed b s new = Option.map (λ (ps : List Pair). ps ++ new) (added b s new)
