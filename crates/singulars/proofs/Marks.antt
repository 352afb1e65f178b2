-- The marks of fields are distinct exactly if the values of each listed name are.
use Prim.Native.Nat.{ℕ}
use native.Mathlib.Omega.{arith}
use mathlib.Core.Path.{◌≡◌, refl, sym, ap, ◌∙◌}
use mathlib.Core.Bool.{Bool, true, false, ◌&&◌, ◌||◌, not, false≢true, and-eq-true_iff}
use mathlib.Core.List.{List, [], ◌∷◌}
use borrow.Author.Tests.{eq-eqb, eqb-true, ltb-true}
use lib.Dec.{eqb}
use lib.ListN.{length, get_or}
use Rattle.format.specs.Bytes.{Bytes, pick, all, same, among}
use Rattle.format.specs.Records.{Field, Record}
use Rattle.format.specs.Sets.{values_of}
use Rattle.format.specs.Rules.{distinct}
use Rattle.format.proofs.Elements.{all_both, all_yes, all_alike}
use Rattle.format.proofs.Listing.{same_true, same-swap}
use Rattle.words.specs.RuleNames.{place_in}
use Rattle.words.proofs.RuleNames.{place-among, placed-is}
use Rattle.singulars.specs.Marks.{rank_of, mark_of, marks}

bool_same : (a b : Bool) → (a ≡ true → b ≡ true) → (b ≡ true → a ≡ true) → a ≡ b
bool_same true b f g = sym (f refl)
bool_same false true f g = g refl
bool_same false false f g = refl

same_self : (x : Bytes) → same x x ≡ true
same_self [] = refl
same_self (x ∷ s) = (and-eq-true_iff (eqb x x) (same s s)).1 (eq-eqb x x refl, same_self s)

rank-place : (k j : ℕ) (v : Bytes) → rank_of k v ≡ rank_of j v → k ≡ j
unfolding rank_of
rank-place k j v e = omega (arith, e)

module _ (ws : List Bytes) where
  -- names with one place are one name
  place-name : (n m : Bytes) → among n ws ≡ true → among m ws ≡ true → place_in n ws ≡ place_in m ws → n ≡ m
  place-name n m a b e =
      placed-is n ws (ltb-true (place_in n ws) (length ws) (place-among n ws ∙ a))
      ∙ ap (λ (k : ℕ). get_or ws k []) e
      ∙ sym (placed-is m ws (ltb-true (place_in m ws) (length ws) (place-among m ws ∙ b)))

  module _ (f : Field) (there : among f.name ws ≡ true) where
    mark-same : (g : Field) → among g.name ws ≡ true → same (mark_of ws f) (mark_of ws g) ≡ (same f.name g.name && same f.value g.value)
    mark-same g h =
        bool_same (same (mark_of ws f) (mark_of ws g)) (same f.name g.name && same f.value g.value)
        (λ e.
        let k = (and-eq-true_iff (eqb (rank_of (place_in f.name ws) f.value) (rank_of (place_in g.name ws) g.value)) (same f.value g.value)).0 e in
        let v : f.value ≡ g.value = same_true f.value g.value k.1 in
        let r : rank_of (place_in f.name ws) f.value ≡ rank_of (place_in g.name ws) g.value = eqb-true _ _ k.0 in
        let n : f.name ≡ g.name = place-name f.name g.name there h (rank-place _ _ f.value (r ∙ ap (rank_of (place_in g.name ws)) (sym v))) in
        (and-eq-true_iff (same f.name g.name) (same f.value g.value)).1 (ap (same f.name) (sym n) ∙ same_self f.name, k.1))
        (λ e.
        let k = (and-eq-true_iff (same f.name g.name) (same f.value g.value)).0 e in
        let n : f.name ≡ g.name = same_true f.name g.name k.0 in
        let v : f.value ≡ g.value = same_true f.value g.value k.1 in
        let m : mark_of ws f ≡ mark_of ws g = λ i. rank_of (place_in (n i) ws) (v i) ∷ v i in
        ap (same (mark_of ws f)) (sym m) ∙ same_self (mark_of ws f))

    -- a mark is among others where the value is among those of its name
    among-mark : (fs : Record) → among (mark_of ws f) (marks ws fs) ≡ among f.value (values_of f.name fs)
    among-mark [] = refl
    among-mark (g ∷ gs) = go (among g.name ws) refl (among-mark gs)
      where
        value-by : (a : Bool) → among (mark_of ws f) (marks ws gs) ≡ among f.value (values_of f.name gs)
            → (a && same f.value g.value) || among (mark_of ws f) (marks ws gs) ≡ among f.value (pick a (g.value ∷ values_of f.name gs) (values_of f.name gs))
        value-by true ih = ap (λ (t : Bool). same f.value g.value || t) ih
        value-by false ih = ih

        other : (a : Bool) → same f.name g.name ≡ a → among g.name ws ≡ false → a ≡ false
        other true q n = absurd (false≢true (sym n ∙ ap (λ (x : Bytes). among x ws) (sym (same_true f.name g.name q)) ∙ there))
        other false q n = refl

        go : (b : Bool) → among g.name ws ≡ b → among (mark_of ws f) (marks ws gs) ≡ among f.value (values_of f.name gs)
            → among (mark_of ws f) (pick b (mark_of ws g ∷ marks ws gs) (marks ws gs)) ≡ among f.value (pick (same f.name g.name) (g.value ∷ values_of f.name gs) (values_of f.name gs))
        go true q ih = ap (λ (t : Bool). t || among (mark_of ws f) (marks ws gs)) (mark-same g q) ∙ value-by (same f.name g.name) ih
        go false q ih = ih ∙ ap (λ (t : Bool). among f.value (pick t (g.value ∷ values_of f.name gs) (values_of f.name gs))) (sym (other (same f.name g.name) refl q))

-- one more field: its value is no other of its name's, and those are distinct
one_more : (t : Bool) (v : Bytes) (vs : List Bytes) → distinct (pick t (v ∷ vs) vs) ≡ (not (t && among v vs) && distinct vs)
one_more true v vs = refl
one_more false v vs = refl

not-again : (n m : Bytes) (v : Bytes) (fs : Record) (rest here : Bool) → rest ≡ not (here && among v (values_of m fs)) → (t : Bool) → same n m ≡ t → same m n ≡ t
    → (not (t && among v (values_of n fs)) && rest) ≡ not ((t || here) && among v (values_of m fs))
not-again n m v fs rest here e true q p = ap (λ (r : Bool). not (among v (values_of n fs)) && r) e ∙ ap (λ (x : Bytes). not (among v (values_of x fs)) && not (here && among v (values_of m fs))) (same_true n m q) ∙ twice here (among v (values_of m fs))
  where
    twice : (h a : Bool) → (not a && not (h && a)) ≡ not a
    twice h true = refl
    twice true false = refl
    twice false false = refl
not-again n m v fs rest here e false q p = e

fresh : (m v : Bytes) (fs : Record) (ws : List Bytes) → all (λ (n : Bytes). not (same n m && among v (values_of n fs))) ws ≡ not (among m ws && among v (values_of m fs))
fresh m v fs [] = refl
fresh m v fs (n ∷ ns) =
    not-again n m v fs (all (λ (x : Bytes). not (same x m && among v (values_of x fs))) ns) (among m ns) (fresh m v fs ns) (same n m) refl (same-swap m n)
    ∙ ap (λ (t : Bool). not ((t || among m ns) && among v (values_of m fs))) (same-swap n m)

pub marks-distinct : (ws : List Bytes) (r : Record) → distinct (marks ws r) ≡ all (λ (n : Bytes). distinct (values_of n r)) ws
marks-distinct ws [] = sym (all_yes ws)
marks-distinct ws (f ∷ fs) =
    let apart : Bool = all (λ (n : Bytes). distinct (values_of n fs)) ws in
    let a : Bool = among f.value (values_of f.name fs) in
    by (among f.name ws) refl (marks-distinct ws fs)
    ∙ sym (
    all_alike (λ (n : Bytes). distinct (values_of n (f ∷ fs))) (λ (n : Bytes). not (same n f.name && among f.value (values_of n fs)) && distinct (values_of n fs)) (λ n. one_more (same n f.name) f.value (values_of n fs)) ws
    ∙ all_both (λ (n : Bytes). not (same n f.name && among f.value (values_of n fs))) (λ (n : Bytes). distinct (values_of n fs)) ws
    ∙ ap (λ (t : Bool). t && apart) (fresh f.name f.value fs ws))
  where
    by : (t : Bool) → among f.name ws ≡ t → distinct (marks ws fs) ≡ all (λ (n : Bytes). distinct (values_of n fs)) ws
        → distinct (pick t (mark_of ws f ∷ marks ws fs) (marks ws fs)) ≡ (not (t && among f.value (values_of f.name fs)) && all (λ (n : Bytes). distinct (values_of n fs)) ws)
    by true q ih = λ i. not (among-mark ws f q fs i) && ih i
    by false q ih = ih
