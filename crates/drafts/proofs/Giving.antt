-- Names that are given one after another, and the number of a list's distinct words that are not.
use Prim.Native.Nat.{ℕ, suc, ◌+◌, ◌≤◌}
use native.Mathlib.Omega.{arith}
use mathlib.Core.Path.{◌≡◌, refl, sym, ap, ◌∙◌, subst}
use mathlib.Core.Bool.{Bool, true, false, ◌&&◌, ◌||◌, not}
use mathlib.Core.List.{List, [], ◌∷◌, ◌++◌, map, append-nil, append_assoc}
use lib.Bits.{bit_and, bit_or}
use lib.Count.{ones}
use lib.Dec.{ltb}
use lib.ListN.{length, length-append}
use Rattle.format.specs.Bytes.{Bytes, text, pick, same, among}
use Rattle.format.specs.Lists.{flat, filter}
use Rattle.format.specs.Records.{Record}
use Rattle.format.specs.Sets.{values_of}
use Rattle.format.specs.Limits.{list_words}
use Rattle.format.specs.Words.{words}
use Rattle.format.specs.Rules.{mandatory, key, auto}
use Rattle.format.specs.Written.{Pair}
use Rattle.format.specs.Numbering.{firsts, pair_names}
use Rattle.format.proofs.Listing.{same-swap}
use Rattle.format.proofs.Uncounted.{bare}
use Rattle.terms.specs.Sets.{in_set}
use Rattle.dictionary.specs.Numbered.{Places, IsListed, Present, Firsts}
use Rattle.dictionary.specs.declared.wordsets.Listed.{Listed}
use Rattle.dictionary.proofs.Present.{present-more, missing-counted}
use Rattle.drafts.specs.Drafts.{is_given, to_fill}
use Rattle.drafts.specs.Giving.{onto, Gives}
use Rattle.drafts.proofs.Distinct.{filter_alike, filter-both}

-- one name more
pub gives_one : (d : Bytes) (l : Listed) (name : Bytes) (x y : ℕ) → ((ws : List Bytes) → IsListed d ws l → Places ws name y) → Gives d l (name ∷ []) x (bit_or x y)
gives_one d l name x y h ws ns i p = present-more ws ns name x y p (h ws i)

-- none more, and those behind others
pub gives_none : (d : Bytes) (l : Listed) (x : ℕ) → Gives d l [] x x
gives_none d l x ws ns i p = p

onto-append : (ns ms ks : List Bytes) → onto ns (ms ++ ks) ≡ onto (onto ns ms) ks
onto-append ns [] ks = refl
onto-append ns (m ∷ ms) ks = onto-append (m ∷ ns) ms ks

pub gives-on : (d : Bytes) (l : Listed) (ms ks : List Bytes) (x y z : ℕ) → Gives d l ms x y → Gives d l ks y z → Gives d l (ms ++ ks) x z
gives-on d l ms ks x y z f g ws ns i p = subst (λ (qs : List Bytes). Present ws qs z) (sym (onto-append ns ms ks)) (g ws (onto ns ms) i (f ws ns i p))

-- Some of all names are given by now, and the rest is left.
abbrev pub Going : Bytes → Listed → List Bytes → ℕ → ℕ → List Bytes → Type 0
Going d l all x y rest = (ms : List Bytes) × (Gives d l ms x y × (ms ++ rest ≡ all))

module _ (d : Bytes) (l : Listed) (all : List Bytes) (x : ℕ) where
  pub going_start : Going d l all x x all
  going_start = ([], (gives_none d l x, refl))

  pub going_end : (y : ℕ) (rest : List Bytes) → Going d l all x y rest → rest ≡ [] → Gives d l all x y
  going_end y rest g e = subst (λ (ns : List Bytes). Gives d l ns x y) (sym (append-nil g.0) ∙ ap (λ (ns : List Bytes). g.0 ++ ns) (sym e) ∙ g.1.1) g.1.0

  pub going_on : (y z : ℕ) (rest ks next : List Bytes) → Going d l all x y rest → rest ≡ ks ++ next → Gives d l ks y z → Going d l all x z next
  going_on y z rest ks next g e f = (g.0 ++ ks, (gives-on d l g.0 ks x y z g.1.0 f, append_assoc g.0 ks next ∙ ap (λ (ns : List Bytes). g.0 ++ ns) (sym e) ∙ g.1.1))

-- is a name among them
pub among-onto : (n : Bytes) (ns ms : List Bytes) → among n (onto ns ms) ≡ (among n ms || among n ns)
among-onto n ns [] = refl
among-onto n ns (m ∷ ms) = among-onto n (m ∷ ns) ms ∙ go (among n ms) (same n m) (among n ns)
  where
    go : (a b c : Bool) → (a || (b || c)) ≡ ((b || a) || c)
    go true true c = refl
    go true false c = refl
    go false true c = refl
    go false false c = refl

-- the names that the draft and the `%auto` lists give
module _ (rules : Record) (new : List Pair) where
  abbrev pub names : List Bytes
  names = onto (onto [] (auto rules)) (pair_names new)

  given-names : (n : Bytes) → among n names ≡ is_given rules new n
  given-names n = among-onto n (onto [] (auto rules)) (pair_names new) ∙ ap (λ (b : Bool). among n (pair_names new) || b) (among-onto n [] (auto rules) ∙ or-none (among n (auto rules)))
    where
      or-none : (b : Bool) → (b || false) ≡ b
      or-none true = refl
      or-none false = refl

  pub mandatory-left : (ws : List Bytes) → length (filter (λ (n : Bytes). not (among n names)) ws) ≡ length (filter (λ (n : Bytes). not (is_given rules new n)) ws)
  mandatory-left ws = ap length (filter_alike (λ (n : Bytes). not (among n names)) (λ (n : Bytes). not (is_given rules new n)) (λ n. ap not (given-names n)) ws)

  pub key_left : (ws : List Bytes) → length (filter (λ (n : Bytes). not (among n (onto names (mandatory rules)))) ws) ≡ length (filter (λ (n : Bytes). not (is_given rules new n)) (filter (λ (n : Bytes). not (among n (mandatory rules))) ws))
  key_left ws =
      ap length (
      filter_alike (λ (n : Bytes). not (among n (onto names (mandatory rules)))) (λ (n : Bytes). not (among n (mandatory rules)) && not (is_given rules new n)) apart ws
      ∙ filter-both (λ (n : Bytes). not (among n (mandatory rules))) (λ (n : Bytes). not (is_given rules new n)) ws)
    where
      both : (a b : Bool) → not (a || b) ≡ (not a && not b)
      both true b = refl
      both false b = refl

      apart : (n : Bytes) → not (among n (onto names (mandatory rules))) ≡ (not (among n (mandatory rules)) && not (is_given rules new n))
      apart n = ap not (among-onto n names (mandatory rules)) ∙ both (among n (mandatory rules)) (among n names) ∙ ap (λ (b : Bool). not (among n (mandatory rules)) && not b) (given-names n)

-- the distinct names of two lists: those of the first, and those of the second that the first has not
filter-append : {A : Type 0} (p : A → Bool) (xs ys : List A) → filter p (xs ++ ys) ≡ filter p xs ++ filter p ys
filter-append p [] ys = refl
filter-append {A = A} p (x ∷ xs) ys = go (p x) (filter-append p xs ys)
  where
    go : (c : Bool) → filter p (xs ++ ys) ≡ filter p xs ++ filter p ys → pick c (x ∷ filter p (xs ++ ys)) (filter p (xs ++ ys)) ≡ pick c (x ∷ filter p xs) (filter p xs) ++ filter p ys
    go true h = ap (λ (zs : List A). x ∷ zs) h
    go false h = h

all-kept : (ys : List Bytes) → filter (λ (m : Bytes). not (among m [])) ys ≡ ys
all-kept [] = refl
all-kept (y ∷ ys) = ap (λ (zs : List Bytes). y ∷ zs) (all-kept ys)

firsts-append : (xs ys : List Bytes) → firsts (xs ++ ys) ≡ firsts xs ++ filter (λ (m : Bytes). not (among m xs)) (firsts ys)
firsts-append [] ys = sym (all-kept (firsts ys))
firsts-append (x ∷ xs) ys =
    let p : Bytes → Bool = λ (m : Bytes). not (same x m) in
    let q : Bytes → Bool = λ (m : Bytes). not (among m xs) in
    ap (λ (zs : List Bytes). x ∷ zs) (
    ap (filter p) (firsts-append xs ys)
    ∙ filter-append p (firsts xs) (filter q (firsts ys))
    ∙ ap (λ (zs : List Bytes). filter p (firsts xs) ++ zs) (sym (filter-both q p (firsts ys)) ∙ filter_alike (λ (m : Bytes). q m && p m) (λ (m : Bytes). not (among m (x ∷ xs))) apart (firsts ys)))
  where
    both : (a b : Bool) → (not a && not b) ≡ not (b || a)
    both true true = refl
    both true false = refl
    both false true = refl
    both false false = refl

    apart : (m : Bytes) → (not (among m xs) && not (same x m)) ≡ not (among m (x ∷ xs))
    apart m = ap (λ (b : Bool). not (among m xs) && not b) (same-swap x m) ∙ both (among m xs) (same m x)

-- what is to fill, in two parts
pub toFill-parts : (rules : Record) (new : List Pair) → length (to_fill rules new) ≡ length (filter (λ (n : Bytes). not (is_given rules new n)) (firsts (mandatory rules)))
    + length (filter (λ (n : Bytes). not (is_given rules new n)) (filter (λ (n : Bytes). not (among n (mandatory rules))) (firsts (key rules))))
unfolding to_fill
toFill-parts rules new =
    let p : Bytes → Bool = λ (n : Bytes). not (is_given rules new n) in
    let k : List Bytes = filter (λ (n : Bytes). not (among n (mandatory rules))) (firsts (key rules)) in
    ap (λ (ns : List Bytes). length (filter p ns)) (firsts-append (mandatory rules) (key rules)) ∙ ap length (filter-append p (firsts (mandatory rules)) k) ∙ length-append (filter p (firsts (mandatory rules))) (filter p k)

-- what is to fill does not depend on how many bytes the rules' fields take
values-bare : (n : Bytes) (r : Record) → values_of n (bare r) ≡ values_of n r
values-bare n [] = refl
values-bare n (f ∷ fs) = λ i. pick (same n f.name) (f.value ∷ values-bare n fs i) (values-bare n fs i)

listed-bare : (n : Bytes) (r : Record) → flat (map words (values_of n (bare r))) ≡ flat (map words (values_of n r))
listed-bare n r = ap (λ (vs : List Bytes). flat (map words vs)) (values-bare n r)

pub toFill-bare : (rules : Record) (new : List Pair) → to_fill (bare rules) new ≡ to_fill rules new
unfolding to_fill
toFill-bare rules new = λ i. filter (λ (n : Bytes). not (among n (pair_names new) || among n (listed-bare (text "%auto") rules i))) (firsts (listed-bare (text "%mandatory") rules i ++ listed-bare (text "%key") rules i))

-- the words of a list that are not given, counted by their first places
pub counted : (d : Bytes) (ws : List Bytes) (l : Listed) → IsListed d ws l → (l.words.count ≤ list_words)
    × ((x m f r : ℕ) → ((k : ℕ) → in_set k m ≡ (ltb k l.words.count && not (in_set k x))) → Firsts ws f → r ≡ ones (bit_and f m) → (ns : List Bytes) → Present ws ns x → r ≡ length (filter (λ (n : Bytes). not (among n ns)) (firsts ws)))
counted d ws l h =
    (omega (arith, h.few, h.count), λ x m f r e g q ns p. q ∙ missing-counted ws ns x m f p (λ k. e k ∙ ap (λ (n : ℕ). ltb k n && not (in_set k x)) h.count) g)

-- there are no more of them than words
filter-most : {A : Type 0} (p : A → Bool) (xs : List A) → length (filter p xs) ≤ length xs
filter-most p [] = omega arith
filter-most {A = A} p (x ∷ xs) = go (p x) (filter-most p xs)
  where
    go : (c : Bool) → length (filter p xs) ≤ length xs → length (pick c (x ∷ filter p xs) (filter p xs)) ≤ suc (length xs)
    go true h = omega (arith, h)
    go false h = omega (arith, h)

firsts-most : (ns : List Bytes) → length (firsts ns) ≤ length ns
firsts-most [] = omega arith
firsts-most (n ∷ ns) = omega (arith, filter-most (λ (m : Bytes). not (same n m)) (firsts ns), firsts-most ns)

pub parts-few : (p q : Bytes → Bool) (ns ms : List Bytes) → length ns ≤ list_words → length ms ≤ list_words → length (filter p (firsts ns)) + length (filter p (filter q (firsts ms))) ≤ 128
parts-few p q ns ms h g =
    omega (arith, filter-most p (firsts ns), firsts-most ns, filter-most p (filter q (firsts ms)), filter-most q (firsts ms), firsts-most ms, h, g)
