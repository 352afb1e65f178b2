-- A text has no more symbols than bytes.
use Prim.Native.Nat.{ℕ, suc, ◌≤◌}
use native.Mathlib.Omega.{arith}
use mathlib.Core.Path.{◌≡◌, ap}
use mathlib.Core.Bool.{Bool, true, false, not}
use mathlib.Core.List.{List, [], ◌∷◌}
use mathlib.Core.Option.{Option, none, some}
use lib.Dec.{eqb}
use lib.ListN.{length, drop}
use Rattle.format.specs.Lists.{is_filled, filter, behind, onto, split_by}
use Rattle.format.specs.Bytes.{Bytes, pick}
use Rattle.format.specs.Words.{is_gap, not_gap, after_word, words}
use Rattle.format.specs.Types.{cons_to, uncomment, before_comment}
use Rattle.values.specs.Value.{value_from}
use Rattle.typing.specs.Symbols.{words_in}
use Rattle.dictionary.proofs.Rows.{behind-length}
use Rattle.enums.specs.Enums.{listed, is_enum_at, enum_in}
use Rattle.enums.proofs.Enums.{body, enum-body}

onto-few : (c : ℕ) (ps : List Bytes) → length (filter is_filled (onto c ps)) ≤ suc (length (filter is_filled ps))
onto-few c [] = omega arith
onto-few c ([] ∷ ps) = omega arith
onto-few c ((d ∷ w) ∷ ps) = omega arith

words-few : (s : Bytes) → length (words s) ≤ length s
words-few [] = omega arith
words-few (c ∷ s) = go (is_gap c) (words-few s)
  where
    go : (t : Bool) → length (words s) ≤ length s → length (filter is_filled (pick t ([] ∷ split_by is_gap s) (onto c (split_by is_gap s)))) ≤ suc (length s)
    go true h = omega arith
    go false h = omega (arith, onto-few c (split_by is_gap s))

-- comments only make a text shorter
abbrev AtMost : ℕ → Option Bytes → Type 0
AtMost n none = Unit {0}
AtMost n (some s) = length s ≤ n

cons-most : (c n : ℕ) (o : Option Bytes) → AtMost n o → AtMost (suc n) (cons_to c o)
cons-most c n none h = tt
cons-most c n (some s) h = omega arith

more-most : (n : ℕ) (o : Option Bytes) → AtMost n o → AtMost (suc n) o
more-most n none h = tt
more-most n (some s) h = omega arith

pick-most : (n : ℕ) (t : Bool) (x y : Option Bytes) → AtMost n x → AtMost n y → AtMost n (pick t x y)
pick-most n true x y p q = p
pick-most n false x y p q = q

uncomment-most : (o : Bool) (s : Bytes) → AtMost (length s) (uncomment o s)
uncomment-most false [] = omega arith
uncomment-most false (c ∷ s) =
    let n : ℕ = length s in
    pick-most (suc n) (eqb c 40) (cons_to 32 (uncomment true s)) (pick (eqb c 41) none (cons_to c (uncomment false s))) (cons-most 32 n (uncomment true s) (uncomment-most true s))
    (pick-most (suc n) (eqb c 41) none (cons_to c (uncomment false s)) tt (cons-most c n (uncomment false s) (uncomment-most false s)))
uncomment-most true [] = tt
uncomment-most true (c ∷ s) =
    let o : Bool = not (eqb c 41) in
    pick-most (suc (length s)) (eqb c 40) none (uncomment o s) tt (more-most (length s) (uncomment o s) (uncomment-most o s))

listed-most : (n : ℕ) (o : Option Bytes) → AtMost n o → length (listed (words_in o)) ≤ n
listed-most n none h = omega arith
listed-most n (some s) h = omega (arith, words-few s)

body-few : (s : Bytes) → length (body s) ≤ length s
body-few s = omega (arith, behind-length before_comment (behind is_gap s), behind-length is_gap s)

after-few : (s : Bytes) → length (after_word s) ≤ length s
after-few s = omega (arith, behind-length not_gap (behind is_gap s), behind-length is_gap s)

pub symbols-few : (d : Bytes) (v : ℕ) → is_enum_at d v ≡ true → length (enum_in d v) ≤ length (value_from (drop v d))
unfolding is_enum_at enum_in
symbols-few d v e =
    let s : Bytes = after_word (value_from (drop v d)) in
    let b = enum-body s e in
    omega (arith, ap length b.are, listed-most (length (body s)) (uncomment false (body s)) (uncomment-most false (body s)), body-few s, after-few (value_from (drop v d)))
