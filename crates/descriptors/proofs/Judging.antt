-- When a descriptor is well formed; and question 6 as a walk over the descriptors that keeps the names it has met: each is well formed and called like none before it.
use Prim.Native.Nat.{ℕ, suc}
use native.Mathlib.Omega.{arith}
use mathlib.Core.Path.{◌≡◌, refl, sym, ap, ◌∙◌}
use mathlib.Core.Bool.{Bool, true, false, ◌&&◌, ◌||◌, not, true≢false, and-eq-true_iff}
use mathlib.Core.List.{List, [], ◌∷◌, ◌++◌, map}
use borrow.Author.Tests.{leb-true, leb-false, le-leb, lt-leb}
use lib.Dec.{leb}
use lib.ListN.{length}
use Rattle.format.specs.Bytes.{Bytes, text, pick, all, same, among}
use Rattle.format.specs.Limits.{descriptors}
use Rattle.format.specs.Numbers.{int_bounds}
use Rattle.format.specs.Questions.{fits_record, fits_rules}
use Rattle.format.specs.Records.{Field, Record}
use Rattle.format.specs.Rules.{is_shaped, is_well_formed, distinct}
use Rattle.format.specs.Sets.{values_of}
use Rattle.format.proofs.Elements.{all_alike, all_both}
use Rattle.format.proofs.Listing.{same-swap}
use Rattle.format.proofs.Walking.{is_head, head_name, heads, head_names, walk_fits, walk_well}
use Rattle.records.proofs.Rows.{heads-asked}
use Rattle.descriptors.specs.Names.{passes}

-- may a name occur once more, or, where it was met, not again
abbrev pub at_most_once : Bool → Bytes → Record → Bool
at_most_once met n r = leb (length (values_of n r)) (pick met 0 1)

-- are fields well formed behind some of their descriptor, among which a key and a size were met or not
abbrev pub formed_from : Bool → Bool → Record → Bool
formed_from keyed sized r = (all (is_shaped int_bounds) r && at_most_once keyed (text "%key") r) && at_most_once sized (text "%size") r

suc-leb : (a b : ℕ) → leb (suc a) (suc b) ≡ leb a b
suc-leb a b = go (leb a b) refl
  where
    go : (t : Bool) → leb a b ≡ t → leb (suc a) (suc b) ≡ t
    go true e = le-leb (suc a) (suc b) (let h = leb-true a b e in omega (arith, h))
    go false e = lt-leb (suc a) (suc b) (let h = leb-false a b e in omega (arith, h))

-- one field more: a name that was met and is its own occurs twice; else the others are asked
module _ (met : Bool) (n : Bytes) (f : Field) (fs : Record) where
  once_by : (t : Bool) → same n f.name ≡ t → at_most_once met n (f ∷ fs) ≡ leb (length (pick t (f.value ∷ values_of n fs) (values_of n fs))) (pick met 0 1)
  once_by t e = ap (λ (b : Bool). leb (length (pick b (f.value ∷ values_of n fs) (values_of n fs))) (pick met 0 1)) e

  once-stop : (t : Bool) → same n f.name ≡ t → (met && t) ≡ true → at_most_once met n (f ∷ fs) ≡ false
  once-stop t e h =
      let g = (and-eq-true_iff met t).0 h in
      once_by true (e ∙ g.1)
      ∙ ap (λ (b : Bool). leb (suc (length (values_of n fs))) (pick b 0 1)) g.0
      ∙ lt-leb (suc (length (values_of n fs))) 0 (omega arith)

  once_more : (t : Bool) → same n f.name ≡ t → (met && t) ≡ false → at_most_once met n (f ∷ fs) ≡ at_most_once (met || t) n fs
  once_more t e h = once_by t e ∙ go met t h
    where
      go : (a b : Bool) → (a && b) ≡ false → leb (length (pick b (f.value ∷ values_of n fs) (values_of n fs))) (pick a 0 1) ≡ at_most_once (a || b) n fs
      go true true q = absurd (true≢false q)
      go true false q = refl
      go false true q = suc-leb (length (values_of n fs)) 0
      go false false q = refl

pub formed-done : (keyed sized : Bool) (r : Record) → r ≡ [] → formed_from keyed sized r ≡ true
formed-done keyed sized r e = ap (formed_from keyed sized) e ∙ go keyed sized
  where
    go : (a b : Bool) → formed_from a b [] ≡ true
    go true true = refl
    go true false = refl
    go false true = refl
    go false false = refl

neither : (a b : Bool) → (a || b) ≡ false → (a ≡ false) × (b ≡ false)
neither true b e = absurd (true≢false e)
neither false b e = (refl, e)

module _ (keyed sized : Bool) (r : Record) (f : Field) (fs : Record) (e : r ≡ f ∷ fs) where
  pub formed-stop : is_shaped int_bounds f ≡ false → formed_from keyed sized r ≡ false
  formed-stop p = ap (formed_from keyed sized) e ∙ ap (λ (b : Bool). ((b && all (is_shaped int_bounds) fs) && at_most_once keyed (text "%key") (f ∷ fs)) && at_most_once sized (text "%size") (f ∷ fs)) p

  module _ (key size : Bool) (p : same (text "%key") f.name ≡ key) (q : same (text "%size") f.name ≡ size) where
    pub formed-twice : ((keyed && key) || (sized && size)) ≡ true → formed_from keyed sized r ≡ false
    formed-twice h = ap (formed_from keyed sized) e ∙ go (keyed && key) refl h
      where
        last : (b : Bool) → (b && false) ≡ false
        last true = refl
        last false = refl

        go : (b : Bool) → (keyed && key) ≡ b → (b || (sized && size)) ≡ true → formed_from keyed sized (f ∷ fs) ≡ false
        go true g t = ap (λ (b : Bool). (all (is_shaped int_bounds) (f ∷ fs) && b) && at_most_once sized (text "%size") (f ∷ fs)) (once-stop keyed (text "%key") f fs key p g) ∙ ap (λ (b : Bool). b && at_most_once sized (text "%size") (f ∷ fs)) (last (all (is_shaped int_bounds) (f ∷ fs)))
        go false t g = ap (λ (b : Bool). (all (is_shaped int_bounds) (f ∷ fs) && at_most_once keyed (text "%key") (f ∷ fs)) && b) (once-stop sized (text "%size") f fs size q g) ∙ last (all (is_shaped int_bounds) (f ∷ fs) && at_most_once keyed (text "%key") (f ∷ fs))

    pub formed-more : is_shaped int_bounds f ≡ true → ((keyed && key) || (sized && size)) ≡ false → formed_from keyed sized r ≡ formed_from (keyed || key) (sized || size) fs
    formed-more g h =
        let k = neither (keyed && key) (sized && size) h in
        ap (formed_from keyed sized) e
        ∙ (λ i. ((g i && all (is_shaped int_bounds) fs) && once_more keyed (text "%key") f fs key p k.0 i) && once_more sized (text "%size") f fs size q k.1 i)

-- what is found of a descriptor tells whether it passes behind others: w that it is well formed, t that its name m is taken
module _ (r : Record) (seen : List Bytes) (w : Bool) (e : w ≡ is_well_formed int_bounds r) where
  pub fault-told : w ≡ false → passes r seen ≡ false
  fault-told h = ap (λ (b : Bool). b && not (among (head_name r) seen)) (sym e ∙ h)

  module _ (t : Bool) (m : Bytes) (f : t ≡ among m seen) (g : m ≡ head_name r) (h : w ≡ true) where
    taken-by : among (head_name r) seen ≡ t
    taken-by = ap (λ (x : Bytes). among x seen) (sym g) ∙ sym f

    pub taken-told : t ≡ true → passes r seen ≡ false
    taken-told k = λ i. (sym e ∙ h) i && not ((taken-by ∙ k) i)

    pub new_told : t ≡ false → passes r seen ≡ true
    new_told k = λ i. (sym e ∙ h) i && not ((taken-by ∙ k) i)

-- names that are none of those seen, and distinct
abbrev pub is_new : List Bytes → Bytes → Bool
is_new seen n = not (among n seen)

abbrev pub new_names : List Bytes → List Bytes → Bool
new_names seen ns = all (is_new seen) ns && distinct ns

-- one more name is seen
not-or : (a b : Bool) → not (a || b) ≡ (not a && not b)
not-or true b = refl
not-or false b = refl

among-last : (n x : Bytes) (seen : List Bytes) → among n (seen ++ (x ∷ [])) ≡ (among n seen || same n x)
among-last n x [] = go (same n x)
  where
    go : (b : Bool) → (b || false) ≡ b
    go true = refl
    go false = refl
among-last n x (y ∷ seen) = ap (λ (b : Bool). same n y || b) (among-last n x seen) ∙ go (same n y) (among n seen) (same n x)
  where
    go : (a b c : Bool) → (a || (b || c)) ≡ ((a || b) || c)
    go true b c = refl
    go false b c = refl

none-same : (x : Bytes) (ns : List Bytes) → all (λ (n : Bytes). not (same n x)) ns ≡ not (among x ns)
none-same x [] = refl
none-same x (n ∷ ns) = (λ i. not (same-swap n x i) && none-same x ns i) ∙ sym (not-or (same x n) (among x ns))

seen_more : (seen : List Bytes) (x : Bytes) (ns : List Bytes) → all (is_new (seen ++ (x ∷ []))) ns ≡ (all (is_new seen) ns && not (among x ns))
seen_more seen x ns =
    all_alike (is_new (seen ++ (x ∷ []))) (λ (n : Bytes). is_new seen n && not (same n x)) (λ n. ap not (among-last n x seen) ∙ not-or (among n seen) (same n x)) ns
    ∙ all_both (is_new seen) (λ (n : Bytes). not (same n x)) ns
    ∙ ap (λ (b : Bool). all (is_new seen) ns && b) (none-same x ns)

new_by : (a b c d : Bool) → ((a && b) && (c && d)) ≡ (a && ((b && c) && d))
new_by true true c d = refl
new_by true false c d = refl
new_by false b c d = refl

pub new-more : (seen : List Bytes) (x : Bytes) (ns : List Bytes) → new_names seen (x ∷ ns) ≡ (is_new seen x && new_names (seen ++ (x ∷ [])) ns)
new-more seen x ns =
    new_by (is_new seen x) (all (is_new seen) ns) (not (among x ns)) (distinct ns)
    ∙ ap (λ (b : Bool). is_new seen x && (b && distinct ns)) (sym (seen_more seen x ns))

none_seen : (ns : List Bytes) → all (is_new []) ns ≡ true
none_seen [] = refl
none_seen (n ∷ ns) = none_seen ns

-- descriptors behind some names that were seen
abbrev pub well_from : List Bytes → List Record → Bool
well_from seen hs = all (is_well_formed int_bounds) hs && new_names seen (map head_name hs)

pub well-start : (rs : List Record) → walk_well int_bounds rs ≡ well_from [] (heads rs)
well-start rs = (λ i. heads-asked (is_well_formed int_bounds) rs i && (sym (none_seen (head_names rs)) i && distinct (head_names rs)))

judged-by : (a b c d : Bool) → ((a && b) && (c && d)) ≡ ((a && c) && (b && d))
judged-by true true c d = refl
judged-by true false true d = refl
judged-by true false false d = refl
judged-by false b c d = refl

-- a descriptor passes, or all ends
module _ (seen : List Bytes) (r : Record) (hs : List Record) where
  head-on : well_from seen (r ∷ hs) ≡ (passes r seen && well_from (seen ++ (head_name r ∷ [])) hs)
  head-on =
      ap (λ (b : Bool). (is_well_formed int_bounds r && all (is_well_formed int_bounds) hs) && b) (new-more seen (head_name r) (map head_name hs))
      ∙ judged-by (is_well_formed int_bounds r) (all (is_well_formed int_bounds) hs) (is_new seen (head_name r)) (new_names (seen ++ (head_name r ∷ [])) (map head_name hs))

  pub well-stop : passes r seen ≡ false → well_from seen (r ∷ hs) ≡ false
  well-stop p = head-on ∙ ap (λ (b : Bool). b && well_from (seen ++ (head_name r ∷ [])) hs) p

  pub well-more : (n : Bytes) → passes r seen ≡ true → n ≡ head_name r → well_from seen (r ∷ hs) ≡ well_from (seen ++ (n ∷ [])) hs
  well-more n p q = head-on ∙ ap (λ (b : Bool). b && well_from (seen ++ (head_name r ∷ [])) hs) p ∙ ap (λ (x : Bytes). well_from (seen ++ (x ∷ [])) hs) (sym q)

-- the limits of descriptors
fit-by : (b : Bool) (r : Record) (hs : List Record) → fits_record r ≡ true → all fits_record hs ≡ true → all fits_record (pick b (r ∷ hs) hs) ≡ true
fit-by true r hs e f = (and-eq-true_iff (fits_record r) (all fits_record hs)).1 (e, f)
fit-by false r hs e f = f

abbrev is_fitting : Record → Bool
is_fitting r = fits_record r && (not (is_head r) || fits_rules r)

heads-fit : (rs : List Record) → all is_fitting rs ≡ true → all fits_record (heads rs) ≡ true
heads-fit [] e = refl
heads-fit (r ∷ rs) e =
    let h = (and-eq-true_iff (is_fitting r) (all is_fitting rs)).0 e in
    fit-by (is_head r) r (heads rs) ((and-eq-true_iff (fits_record r) (not (is_head r) || fits_rules r)).0 h.0).0 (heads-fit rs h.1)

pub walk-fit : (rs : List Record) → walk_fits rs ≡ true → all fits_record (heads rs) ≡ true
walk-fit rs e = heads-fit rs ((and-eq-true_iff (all is_fitting rs) (leb (length (heads rs)) descriptors)).0 e).0
