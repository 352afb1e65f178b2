-- Distinct values, with some put among them and with some left out.
use mathlib.Core.Path.{◌≡◌, refl, sym, ap, ◌∙◌}
use mathlib.Core.Bool.{Bool, true, false, ◌&&◌, ◌||◌, not, and_comm, and_assoc, or_assoc, and-true, and-false, and-eq-true_iff}
use mathlib.Core.List.{List, [], ◌∷◌, ◌++◌, map, append_assoc}
use borrow.Author.Tests.{not-true}
use Rattle.format.specs.Bytes.{Bytes, pick, any, same, among}
use Rattle.format.specs.Lists.{flat}
use Rattle.format.specs.Records.{Record}
use Rattle.format.specs.Sets.{values_of}
use Rattle.format.specs.Rules.{distinct}
use Rattle.format.specs.Questions.{values_in}
use Rattle.format.proofs.Elements.{Each, any_none, none_any}
use Rattle.format.proofs.Listing.{same-swap}
use Rattle.spoiling.specs.Effects.{are_apart}

-- put among others: one, and several

or_swap : (a b c : Bool) → (a || (b || c)) ≡ (b || (a || c))
or_swap true true c = refl
or_swap true false c = refl
or_swap false b c = refl

any-between : {A : Type 0} (p : A → Bool) (xs : List A) (y : A) (ys : List A) → any p (xs ++ (y ∷ ys)) ≡ (p y || any p (xs ++ ys))
any-between p [] y ys = refl
any-between p (x ∷ xs) y ys = ap (λ (b : Bool). p x || b) (any-between p xs y ys) ∙ or_swap (p x) (p y) (any p (xs ++ ys))

any-among : {A : Type 0} (p : A → Bool) (xs fs ys : List A) → any p (xs ++ (fs ++ ys)) ≡ (any p fs || any p (xs ++ ys))
any-among p xs [] ys = refl
any-among p xs (f ∷ fs) ys = any-between p xs f (fs ++ ys) ∙ ap (λ (b : Bool). p f || b) (any-among p xs fs ys) ∙ sym (or_assoc (p f) (any p fs) (any p (xs ++ ys)))

middle-by : (s a d m : Bool) → (not (s || a) && (d && not m)) ≡ (not a && d && not (s || m))
middle-by true a d m = sym (and-false (not a && d))
middle-by false a d m = sym (and_assoc (not a) d (not m))

-- with one more they are distinct exactly if they were and it is not among them
pub distinct-between : (xs : List Bytes) (y : Bytes) (ys : List Bytes) → distinct (xs ++ (y ∷ ys)) ≡ (distinct (xs ++ ys) && not (among y (xs ++ ys)))
distinct-between [] y ys = and_comm (not (among y ys)) (distinct ys)
distinct-between (x ∷ xs) y ys =
    (λ i. not (any-between (same x) xs y ys i) && distinct-between xs y ys i)
    ∙ middle-by (same x y) (among x (xs ++ ys)) (distinct (xs ++ ys)) (among y (xs ++ ys))
    ∙ ap (λ (b : Bool). not (among x (xs ++ ys)) && distinct (xs ++ ys) && not (b || among y (xs ++ ys))) (same-swap x y)

put-by : (d f a m k : Bool) → (d && (f && a) && not (m || k)) ≡ (d && (not m && f && (not k && a)))
put-by false f a m k = refl
put-by true f a true k = and-false (f && a)
put-by true f a false true = and-false (f && a) ∙ sym (and-false f)
put-by true f a false false = and-true (f && a)

-- with several, exactly if these are distinct too and none of them is among the others
pub distinct-among : (xs fs ys : List Bytes) → distinct (xs ++ (fs ++ ys)) ≡ (distinct (xs ++ ys) && (distinct fs && are_apart fs (xs ++ ys)))
distinct-among xs [] ys = sym (and-true (distinct (xs ++ ys)))
distinct-among xs (f ∷ fs) ys =
    distinct-between xs f (fs ++ ys)
    ∙ (λ i. distinct-among xs fs ys i && not (any-among (same f) xs fs ys i))
    ∙ put-by (distinct (xs ++ ys)) (distinct fs) (are_apart fs (xs ++ ys)) (among f fs) (among f (xs ++ ys))

-- a list made of another by putting values somewhere into it
pub record Joins (stay new whole : List Bytes) : Type 0 where
  pub front : List Bytes
  pub back : List Bytes
  pub stays : stay ≡ front ++ back
  pub makes : whole ≡ front ++ (new ++ back)

pub joins-distinct : (stay new whole : List Bytes) → Joins stay new whole → distinct whole ≡ (distinct stay && (distinct new && are_apart new stay))
joins-distinct stay new whole h =
    ap distinct h.makes
    ∙ distinct-among h.front new h.back
    ∙ ap (λ (vs : List Bytes). distinct vs && (distinct new && are_apart new vs)) (sym h.stays)

pub joins-behind : (stay new whole xs : List Bytes) → Joins stay new whole → Joins (xs ++ stay) new (xs ++ whole)
joins-behind stay new whole xs h = record {
  front = xs ++ h.front;
  back = h.back;
  stays = ap (λ (vs : List Bytes). xs ++ vs) h.stays ∙ sym (append_assoc xs h.front h.back);
  makes = ap (λ (vs : List Bytes). xs ++ vs) h.makes ∙ sym (append_assoc xs h.front (new ++ h.back));
}

pub joins-before : (stay new whole ys : List Bytes) → Joins stay new whole → Joins (stay ++ ys) new (whole ++ ys)
joins-before stay new whole ys h = record {
  front = h.front;
  back = h.back ++ ys;
  stays = ap (λ (vs : List Bytes). vs ++ ys) h.stays ∙ append_assoc h.front h.back ys;
  makes = ap (λ (vs : List Bytes). vs ++ ys) h.makes ∙ append_assoc h.front (new ++ h.back) ys ∙ ap (λ (vs : List Bytes). h.front ++ vs) (append_assoc new h.back ys);
}

-- the first list is the second with some left out

pub data Within {A : Type 0} : List A → List A → Type 0 where
  nothing : Within [] []
  keeps : {x : A} {xs ys : List A} → Within xs ys → Within (x ∷ xs) (x ∷ ys)
  leaves : {y : A} {xs ys : List A} → Within xs ys → Within xs (y ∷ ys)

module _ {A : Type 0} where
  pub within-self : (xs : List A) → Within xs xs
  within-self [] = Within.nothing
  within-self (x ∷ xs) = Within.keeps (within-self xs)

  pub within-nothing : (xs : List A) → Within [] xs
  within-nothing [] = Within.nothing
  within-nothing (x ∷ xs) = Within.leaves (within-nothing xs)

  pub within_both : {xs ys : List A} (us vs : List A) → Within xs ys → Within us vs → Within (xs ++ us) (ys ++ vs)
  within_both us vs Within.nothing k = k
  within_both us vs (Within.keeps h) k = Within.keeps (within_both us vs h k)
  within_both us vs (Within.leaves h) k = Within.leaves (within_both us vs h k)

  pub within-front : (xs ys : List A) → Within xs (xs ++ ys)
  within-front [] ys = within-nothing ys
  within-front (x ∷ xs) ys = Within.keeps (within-front xs ys)

  pub within-each : (P : A → Type 0) {xs ys : List A} → Within xs ys → Each P ys → Each P xs
  within-each P Within.nothing k = tt
  within-each P (Within.keeps h) k = (k.0, within-each P h k.1)
  within-each P (Within.leaves h) k = within-each P h k.1

  pub within-any : (p : A → Bool) {xs ys : List A} → Within xs ys → any p ys ≡ false → any p xs ≡ false
  within-any p {xs} {ys} h e = none_any p xs (within-each (λ (x : A). p x ≡ false) h (any_none p ys e))

-- fewer of distinct values are distinct
pub within-distinct : {xs ys : List Bytes} → Within xs ys → distinct ys ≡ true → distinct xs ≡ true
within-distinct Within.nothing e = refl
within-distinct (Within.keeps {x = x} {xs = xs} {ys = ys} h) e =
    let k = (and-eq-true_iff (not (among x ys)) (distinct ys)).0 e in
    (and-eq-true_iff (not (among x xs)) (distinct xs)).1 (ap not (within-any (same x) h (not-true (among x ys) k.0)), within-distinct h k.1)
within-distinct (Within.leaves {y = y} {ys = ys} h) e = within-distinct h ((and-eq-true_iff (not (among y ys)) (distinct ys)).0 e).1

-- the values of a name, of fields and of records

pub values-joined : (n : Bytes) (a b : Record) → values_of n (a ++ b) ≡ values_of n a ++ values_of n b
values-joined n [] b = refl
values-joined n (f ∷ a) b = go (same n f.name) (values-joined n a b)
  where
    go : (t : Bool) → values_of n (a ++ b) ≡ values_of n a ++ values_of n b → pick t (f.value ∷ values_of n (a ++ b)) (values_of n (a ++ b)) ≡ pick t (f.value ∷ values_of n a) (values_of n a) ++ values_of n b
    go true e = ap {B = List Bytes} (λ vs. f.value ∷ vs) e
    go false e = e

pub record-values-joined : (n : Bytes) (rs ts : List Record) → values_in n (rs ++ ts) ≡ values_in n rs ++ values_in n ts
record-values-joined n [] ts = refl
record-values-joined n (r ∷ rs) ts = ap (λ (vs : List Bytes). values_of n r ++ vs) (record-values-joined n rs ts) ∙ sym (append_assoc (values_of n r) (values_in n rs) (values_in n ts))

pub values-fewer : (n : Bytes) {a b : Record} → Within a b → Within (values_of n a) (values_of n b)
values-fewer n Within.nothing = Within.nothing
values-fewer n (Within.keeps {x = f} {xs = a} {ys = b} h) = go (same n f.name) (values-fewer n h)
  where
    go : (t : Bool) → Within (values_of n a) (values_of n b) → Within (pick t (f.value ∷ values_of n a) (values_of n a)) (pick t (f.value ∷ values_of n b) (values_of n b))
    go true k = Within.keeps k
    go false k = k
values-fewer n (Within.leaves {y = f} {xs = a} {ys = b} h) = go (same n f.name) (values-fewer n h)
  where
    go : (t : Bool) → Within (values_of n a) (values_of n b) → Within (values_of n a) (pick t (f.value ∷ values_of n b) (values_of n b))
    go true k = Within.leaves k
    go false k = k

pub flat-fewer : (f g : Bytes → List Bytes) → ((n : Bytes) → Within (f n) (g n)) → (ns : List Bytes) → Within (flat (map f ns)) (flat (map g ns))
flat-fewer f g h [] = Within.nothing
flat-fewer f g h (n ∷ ns) = within_both (flat (map f ns)) (flat (map g ns)) (h n) (flat-fewer f g h ns)
