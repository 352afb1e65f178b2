-- What a draft still lacks: nothing exactly where question 10 says yes of it, and one name less with each pair that has such a name.
use Prim.Native.Nat.{◌+◌}
use native.Mathlib.Omega.{arith}
use mathlib.Core.Path.{◌≡◌, refl, sym, ap, ◌∙◌, subst}
use mathlib.Core.Bool.{Bool, true, false, ◌&&◌, ◌||◌, not}
use mathlib.Core.List.{List, [], ◌∷◌, ◌++◌, map}
use mathlib.Core.Option.{some}
use lib.Dec.{leb, eqb}
use lib.ListN.{length}
use borrow.Author.Tests.{le-leb}
use Rattle.format.specs.Bytes.{Bytes, pick, all, same, among}
use Rattle.format.specs.Lists.{filter}
use Rattle.format.specs.Records.{Record}
use Rattle.format.specs.Sets.{RecSet}
use Rattle.format.specs.Numbers.{int_bounds}
use Rattle.format.specs.Rules.{mandatory, key, auto, distinct}
use Rattle.format.specs.Questions.{occurrences, all_present}
use Rattle.format.specs.Written.{Pair, new_field}
use Rattle.format.specs.Numbering.{firsts, pair_names, omitted, completed}
use Rattle.format.proofs.Elements.{all_alike}
use Rattle.format.proofs.Listing.{same-swap, occurrences-cons}
use Rattle.format.proofs.Numbering.{filter-distinct, firsts-distinct, NamesOf, completed-names, short-ints}
use Rattle.drafts.specs.Drafts.{required, is_given, to_fill, with_autos}
use Rattle.drafts.proofs.Distinct.{all_firsts, none_left, among-append, among-filter, among-firsts, one_less, filter_alike, filter-both}

-- Nothing is to fill exactly where a record that has the given names, and no others, has all that question 10 asks for.
pub filled-present : (rules : Record) (new : List Pair) (r : Record) → ((n : Bytes) → leb 1 (occurrences n r) ≡ is_given rules new n) → eqb (length (to_fill rules new)) 0 ≡ all_present rules r
unfolding to_fill
filled-present rules new r h =
    none_left (is_given rules new) (required rules)
    ∙ all_firsts (is_given rules new) (mandatory rules ++ key rules)
    ∙ sym (all_alike (λ (n : Bytes). leb 1 (occurrences n r)) (is_given rules new) h (mandatory rules ++ key rules))

-- a record that is written has the names of its pairs
pub pairs-occur : (n : Bytes) (ps : List Pair) → leb 1 (occurrences n (map new_field ps)) ≡ among n (pair_names ps)
pairs-occur n [] = refl
pairs-occur n (p ∷ ps) = ap (leb 1) (occurrences-cons n (new_field p) (map new_field ps)) ∙ go (same n p.name) (pairs-occur n ps)
  where
    go : (c : Bool) → leb 1 (occurrences n (map new_field ps)) ≡ among n (pair_names ps) → leb 1 (pick c 1 0 + occurrences n (map new_field ps)) ≡ (c || among n (pair_names ps))
    go true h = le-leb 1 (1 + occurrences n (map new_field ps)) (omega arith)
    go false h = let e : 0 + occurrences n (map new_field ps) ≡ occurrences n (map new_field ps) = omega arith in ap (leb 1) e ∙ h

names-append : (ps qs : List Pair) → pair_names (ps ++ qs) ≡ pair_names ps ++ pair_names qs
names-append [] qs = refl
names-append (p ∷ ps) qs = ap (λ (ns : List Bytes). p.name ∷ ns) (names-append ps qs)

bare-names : (ns : List Bytes) → pair_names (map (λ (n : Bytes). record { name = n; value = [] }) ns) ≡ ns
bare-names [] = refl
bare-names (n ∷ ns) = ap (λ (ms : List Bytes). n ∷ ms) (bare-names ns)

-- "The number is 0 exactly when that draft, with the `%auto` names added, has no name missing under question 10."
pub filled-exactly : (rules : Record) (new : List Pair) → eqb (length (to_fill rules new)) 0 ≡ all_present rules (with_autos rules new)
filled-exactly rules new =
    let bare : List Pair = map (λ (n : Bytes). record { name = n; value = [] }) (auto rules) in
    filled-present rules new (with_autos rules new)
    (λ n. pairs-occur n (new ++ bare) ∙ ap (among n) (names-append new bare ∙ ap (λ (ns : List Bytes). pair_names new ++ ns) (bare-names (auto rules))) ∙ among-append n (pair_names new) (auto rules))

-- the same of the record that an insert of it makes, with its numbers

given-names : (rules : Record) (new : List Pair) (n : Bytes) → among n (omitted rules new ++ pair_names new) ≡ is_given rules new n
given-names rules new n =
    among-append n (omitted rules new) (pair_names new)
    ∙ ap (λ (b : Bool). b || among n (pair_names new)) (among-filter (λ (m : Bytes). not (among m (pair_names new))) n (firsts (auto rules)) ∙ ap (λ (b : Bool). not (among n (pair_names new)) && b) (among-firsts n (auto rules)))
    ∙ go (among n (pair_names new)) (among n (auto rules))
  where
    go : (a b : Bool) → ((not a && b) || a) ≡ (a || b)
    go true true = refl
    go true false = refl
    go false true = refl
    go false false = refl

pub filled-completed : (s : RecSet) (new ps : List Pair) → completed int_bounds s new ≡ some ps → eqb (length (to_fill s.rules new)) 0 ≡ all_present s.rules (map new_field ps)
filled-completed s new ps e =
    let names : pair_names ps ≡ omitted s.rules new ++ pair_names new = subst (NamesOf int_bounds s short-ints (omitted s.rules new ++ pair_names new)) e (completed-names int_bounds s short-ints new) in
    filled-present s.rules new (map new_field ps) (λ n. pairs-occur n ps ∙ ap (among n) names ∙ given-names s.rules new n)

-- A pair more, wherever it stands: it takes its name off what is to fill, and nothing else.

given-more : (rules : Record) (xs ys : List Pair) (p : Pair) (n : Bytes) → not (is_given rules (xs ++ (p ∷ ys)) n) ≡ (not (is_given rules (xs ++ ys) n) && not (same p.name n))
given-more rules xs ys p n =
    ap (λ (b : Bool). not (b || among n (auto rules))) (ap (among n) (names-append xs (p ∷ ys)) ∙ among-append n (pair_names xs) (p.name ∷ pair_names ys))
    ∙ go (among n (pair_names xs)) (same n p.name) (among n (pair_names ys)) (among n (auto rules))
    ∙ (λ i. not (sym both i || among n (auto rules)) && not (same-swap n p.name i))
  where
    both : among n (pair_names (xs ++ ys)) ≡ (among n (pair_names xs) || among n (pair_names ys))
    both = ap (among n) (names-append xs ys) ∙ among-append n (pair_names xs) (pair_names ys)

    go : (a c d e : Bool) → not ((a || (c || d)) || e) ≡ (not ((a || d) || e) && not c)
    go true true d e = refl
    go true false d e = refl
    go false true true e = refl
    go false true false true = refl
    go false true false false = refl
    go false false true e = refl
    go false false false true = refl
    go false false false false = refl

pub toFill-more : (rules : Record) (xs ys : List Pair) (p : Pair) → to_fill rules (xs ++ (p ∷ ys)) ≡ filter (λ (n : Bytes). not (same p.name n)) (to_fill rules (xs ++ ys))
unfolding to_fill
toFill-more rules xs ys p =
    filter_alike (λ (n : Bytes). not (is_given rules (xs ++ (p ∷ ys)) n)) (λ (n : Bytes). not (is_given rules (xs ++ ys) n) && not (same p.name n)) (given-more rules xs ys p) (required rules)
    ∙ filter-both (λ (n : Bytes). not (is_given rules (xs ++ ys) n)) (λ (n : Bytes). not (same p.name n)) (required rules)

toFill-once : (rules : Record) (new : List Pair) → distinct (to_fill rules new) ≡ true
unfolding to_fill
toFill-once rules new = filter-distinct (λ (n : Bytes). not (is_given rules new n)) (required rules) (firsts-distinct (mandatory rules ++ key rules))

-- one with a missing name takes one off, and no other changes the number
pub pair-more : (rules : Record) (xs ys : List Pair) (p : Pair) → length (to_fill rules (xs ++ ys)) ≡ pick (among p.name (to_fill rules (xs ++ ys))) 1 0 + length (to_fill rules (xs ++ (p ∷ ys)))
pair-more rules xs ys p =
    one_less p.name (to_fill rules (xs ++ ys)) (toFill-once rules (xs ++ ys))
    ∙ ap (λ (ns : List Bytes). pick (among p.name (to_fill rules (xs ++ ys))) 1 0 + length ns) (sym (toFill-more rules xs ys p))
