-- The number of an omitted name is the least that the paper describes, and there is none exactly where none is; what an insert is completed to.
use Prim.Native.Nat.{ℕ, zero, suc, ◌≤◌, ◌<◌, ◌^◌, max}
use native.Mathlib.Nat.{le_trans, le-max_left, le-max_right, max-le}
use native.Mathlib.Omega.{arith}
use mathlib.Core.Path.{◌≡◌, refl, sym, ap, ◌∙◌}
use mathlib.Core.Bool.{Bool, true, false, ◌&&◌, ◌||◌, not, and-eq-true_iff, false≢true}
use mathlib.Core.List.{List, [], ◌∷◌, ◌++◌, map}
use mathlib.Core.Option
use mathlib.Core.Option.{Option, none, some}
use lib.Dec.{eqb}
use borrow.Author.Tests.{leb-true, leb-false, le-leb, lt-leb, eqb-true, not-true, eq-eqb, ne_eqb}
use Rattle.format.specs.Lists.{only_if, onward, filter, keep, kept}
use Rattle.format.specs.Bytes.{Bytes, pick, all, same, among, is_some}
use Rattle.format.specs.Records.{Field, Record}
use Rattle.format.specs.Sets.{RecSet}
use Rattle.format.specs.Words.{trim}
use Rattle.format.specs.Numbers.{Int, plus, minus, Bounds, int_bounds, int_of, is_at_most}
use Rattle.format.specs.Types.{Kind, is_in_range, meets}
use Rattle.format.specs.Rules.{auto, TypeRule, type_rules, is_typed, distinct, kinds_of, Span, all_ints, span_of, is_counted}
use Rattle.format.specs.Questions.{values_in}
use Rattle.format.specs.Written.{Pair, new_field, is_legal_value}
use Rattle.format.specs.Numbering.{firsts, pair_names, omitted, ints_of, above, from, largest, least_in, next_number, decimal, numbered, every, added, completed}
use Rattle.format.proofs.Elements.{Each, all-each, each_all, each-imp, any_none, none_any}
use Rattle.format.proofs.Lists.{each-filter}
use Rattle.format.proofs.Digits.{decimal-digits, decimal-back, trim_digits, decimal-legal}

-- The least number that is above ints and within spans

-- a number is above an int, and within a span
abbrev pub IsAbove : ℕ → Int → Type 0
IsAbove m x = is_at_most (plus m) x ≡ false

abbrev pub IsWithin : ℕ → Span → Type 0
IsWithin m s = (is_at_most s.low (plus m) ≡ true) × (is_at_most (plus m) s.high ≡ true)

abbrev pub Fits : List Span → List Int → ℕ → Type 0
Fits ss is m = Each (IsWithin m) ss × Each (IsAbove m) is

-- the least of the numbers that pass, or that there is none
abbrev pub LeastOf : (ℕ → Type 0) → Option ℕ → Type 0
LeastOf P none = (m : ℕ) → P m → ⊥
LeastOf P (some n) = P n × ((m : ℕ) → P m → n ≤ m)

-- above −n, for n that is 0 or not
above_zero : (m : ℕ) (c : Bool) → (eqb m 0 && c) ≡ false → pick c 1 0 ≤ m
above_zero zero true e = absurd (false≢true (sym e))
above_zero (suc m) true e = omega arith
above_zero m false e = omega arith

zero-above : (m : ℕ) (c : Bool) → pick c 1 0 ≤ m → (eqb m 0 && c) ≡ false
zero-above zero true h = absurd (omega arith)
zero-above zero false h = refl
zero-above (suc m) c h = rw (ne_eqb (suc m) 0 (λ q. omega arith))

above-le : (x : Int) (m : ℕ) → IsAbove m x → above x ≤ m
above-le (plus n) m e = leb-false m n e
above-le (minus n) m e = above_zero m (eqb n 0) e

le-above : (x : Int) (m : ℕ) → above x ≤ m → IsAbove m x
le-above (plus n) m h = lt-leb m n h
le-above (minus n) m h = zero-above m (eqb n 0) h

from_le : (x : Int) (m : ℕ) → is_at_most x (plus m) ≡ true → from x ≤ m
from_le (plus n) m e = leb-true n m e
from_le (minus n) m e = omega arith

le_from : (x : Int) (m : ℕ) → from x ≤ m → is_at_most x (plus m) ≡ true
le_from (plus n) m h = le-leb n m h
le_from (minus n) m h = refl

at-most-less : (x : Int) (k m : ℕ) → k ≤ m → is_at_most (plus m) x ≡ true → is_at_most (plus k) x ≡ true
at-most-less (plus n) k m h e = le-leb k n (le_trans h (leb-true m n e))
at-most-less (minus n) k m h e =
    let q = (and-eq-true_iff (eqb m 0) (eqb n 0)).0 e in
    (and-eq-true_iff (eqb k 0) (eqb n 0)).1 (eq-eqb k 0 (omega (arith, h, eqb-true m 0 q.0)), q.1)

module _ {A : Type 0} (f : A → ℕ) where
  largest-le : (xs : List A) (m : ℕ) → Each (λ (x : A). f x ≤ m) xs → largest f xs ≤ m
  largest-le [] m h = omega arith
  largest-le (x ∷ xs) m h = max-le h.0 (largest-le xs m h.1)

  le-largest : (xs : List A) (m : ℕ) → largest f xs ≤ m → Each (λ (x : A). f x ≤ m) xs
  le-largest [] m h = tt
  le-largest (x ∷ xs) m h = (le_trans (le-max_left (f x) (largest f xs)) h, le-largest xs m (le_trans (le-max_right (f x) (largest f xs)) h))

module _ (ss : List Span) (is : List Int) where
  abbrev low : Span → ℕ
  low s = from s.low

  abbrev first : ℕ
  first = max (largest above is) (largest low ss)

  not-less : (m : ℕ) → Fits ss is m → first ≤ m
  not-less m h =
      max-le (largest-le above is m (each-imp (IsAbove m) (λ (x : Int). above x ≤ m) (λ x e. above-le x m e) is h.1))
      (largest-le low ss m (each-imp (IsWithin m) (λ (s : Span). low s ≤ m) (λ s e. from_le s.low m e.0) ss h.0))

  highs-less : (m : ℕ) → Fits ss is m → all (λ (s : Span). is_at_most (plus first) s.high) ss ≡ true
  highs-less m h =
      each_all (λ (s : Span). is_at_most (plus first) s.high) ss
      (each-imp (IsWithin m) (λ (s : Span). is_at_most (plus first) s.high ≡ true) (λ s e. at-most-less s.high first m (not-less m h) e.1) ss h.0)

  first_fits : all (λ (s : Span). is_at_most (plus first) s.high) ss ≡ true → Fits ss is first
  first_fits e = (
    within-each ss (le-largest low ss first (le-max_right (largest above is) (largest low ss))) (all-each (λ (s : Span). is_at_most (plus first) s.high) ss e),
    each-imp (λ (x : Int). above x ≤ first) (IsAbove first) (λ x h. le-above x first h) is (le-largest above is first (le-max_left (largest above is) (largest low ss))),
  )
    where
      within-each : (ts : List Span) → Each (λ (s : Span). low s ≤ first) ts → Each (λ (s : Span). is_at_most (plus first) s.high ≡ true) ts → Each (IsWithin first) ts
      within-each [] h k = tt
      within-each (t ∷ ts) h k = ((le_from t.low first h.0, k.0), within-each ts h.1 k.1)

  pub least-in : LeastOf (Fits ss is) (least_in ss is)
  least-in = go (all (λ (s : Span). is_at_most (plus first) s.high) ss) refl
    where
      go : (c : Bool) → all (λ (s : Span). is_at_most (plus first) s.high) ss ≡ c → LeastOf (Fits ss is) (only_if c first)
      go true e = (first_fits e, not-less)
      go false e = λ m h. false≢true (sym e ∙ highs-less m h)

-- The number of a name meets its types, written

-- every type that names a field holds of its value
pub typed-kinds : (b : Bounds) (f : Field) (ts : List TypeRule) → is_typed b ts f ≡ all (λ (k : Kind). meets b k f.value) (kinds_of f.name ts)
typed-kinds b f [] = refl
typed-kinds b f (t ∷ ts) = go (among f.name t.names) (typed-kinds b f ts)
  where
    go : (c : Bool) → is_typed b ts f ≡ all (λ (k : Kind). meets b k f.value) (kinds_of f.name ts) → ((not c || meets b t.kind f.value) && is_typed b ts f) ≡ all (λ (k : Kind). meets b k f.value) (map (λ (u : TypeRule). u.kind) (pick c (t ∷ filter (λ (u : TypeRule). among f.name u.names) ts) (filter (λ (u : TypeRule). among f.name u.names) ts)))
    go true e = ap (λ (x : Bool). meets b t.kind f.value && x) e
    go false e = e

module _ (b : Bounds) (m : ℕ) (fits : m ≤ b.greatest) where
  int-told : int_of b (trim (decimal m)) ≡ some (plus m)
  int-told = ap (int_of b) (trim_digits (decimal m) (decimal-digits m)) ∙ decimal-back b m fits

  abbrev Told : Kind → Option Span → Type 0
  Told k none = Unit {0}
  Told k (some s) = meets b k (decimal m) ≡ (is_at_most s.low (plus m) && is_at_most (plus m) s.high)

  kind-told : (k : Kind) → Told k (span_of b k)
  kind-told Kind.int = rw (int-told, le-leb m b.greatest fits)
  kind-told (Kind.range low high) = ap (is_in_range low high) int-told
  kind-told Kind.real = tt
  kind-told Kind.line = tt
  kind-told (Kind.size n) = tt
  kind-told (Kind.enum ws) = tt
  kind-told Kind.bool = tt
  kind-told Kind.field = tt
  kind-told Kind.uuid = tt

  within-told : (k : Kind) (x : Option Span) (ss : List Span) → Told k x → is_some x ≡ true → Each (IsWithin m) (keep x ss) → (meets b k (decimal m) ≡ true) × Each (IsWithin m) ss
  within-told k none ss t e h = absurd (false≢true e)
  within-told k (some s) ss t e h = (t ∙ (and-eq-true_iff (is_at_most s.low (plus m)) (is_at_most (plus m) s.high)).1 h.0, h.1)

  told-within : (k : Kind) (x : Option Span) (ss : List Span) → Told k x → meets b k (decimal m) ≡ true → Each (IsWithin m) ss → Each (IsWithin m) (keep x ss)
  told-within k none ss t e h = h
  told-within k (some s) ss t e h = ((and-eq-true_iff (is_at_most s.low (plus m)) (is_at_most (plus m) s.high)).0 (sym t ∙ e), h)

  within-kinds : (ks : List Kind) → all (λ (k : Kind). is_some (span_of b k)) ks ≡ true → Each (IsWithin m) (kept (span_of b) ks) → all (λ (k : Kind). meets b k (decimal m)) ks ≡ true
  within-kinds [] c h = refl
  within-kinds (k ∷ ks) c h =
      let d = (and-eq-true_iff (is_some (span_of b k)) (all (λ (k : Kind). is_some (span_of b k)) ks)).0 c in
      let t = within-told k (span_of b k) (kept (span_of b) ks) (kind-told k) d.0 h in
      (and-eq-true_iff (meets b k (decimal m)) (all (λ (k : Kind). meets b k (decimal m)) ks)).1 (t.0, within-kinds ks d.1 t.1)

  kinds-within : (ks : List Kind) → all (λ (k : Kind). meets b k (decimal m)) ks ≡ true → Each (IsWithin m) (kept (span_of b) ks)
  kinds-within [] c = tt
  kinds-within (k ∷ ks) c =
      let d = (and-eq-true_iff (meets b k (decimal m)) (all (λ (k : Kind). meets b k (decimal m)) ks)).0 c in
      told-within k (span_of b k) (kept (span_of b) ks) (kind-told k) d.0 (kinds-within ks d.1)

-- "The value is the least int above every int in that field in the set, not below 0, that meets the field's types."

-- "A field holding no int, blanks and newlines around it aside, doesn't count toward this.": what is asked of each value is asked of the ints among them
abbrev pub AboveInt : ℕ → Option Int → Type 0
AboveInt m none = Unit {0}
AboveInt m (some x) = IsAbove m x

module _ (m : ℕ) (g : Bytes → Option Int) where
  keep-above : (x : Option Int) (xs : List Int) → AboveInt m x → Each (IsAbove m) xs → Each (IsAbove m) (keep x xs)
  keep-above none xs h k = k
  keep-above (some x) xs h k = (h, k)

  above-keep : (x : Option Int) (xs : List Int) → Each (IsAbove m) (keep x xs) → AboveInt m x × Each (IsAbove m) xs
  above-keep none xs h = (tt, h)
  above-keep (some x) xs h = h

  kept_above : (vs : List Bytes) → Each (λ (v : Bytes). AboveInt m (g v)) vs → Each (IsAbove m) (kept g vs)
  kept_above [] h = tt
  kept_above (v ∷ vs) h = keep-above (g v) (kept g vs) h.0 (kept_above vs h.1)

  above_kept : (vs : List Bytes) → Each (IsAbove m) (kept g vs) → Each (λ (v : Bytes). AboveInt m (g v)) vs
  above_kept [] h = tt
  above_kept (v ∷ vs) h = let k = above-keep (g v) (kept g vs) h in (k.0, above_kept vs k.1)

module _ (b : Bounds) (s : RecSet) (n : Bytes) where
  abbrev rules : List TypeRule
  rules = type_rules b s.rules

  -- a number whose text is a value for the name
  pub record Suits (m : ℕ) : Type 0 where
    pub is_int : m ≤ b.greatest
    pub is_above : Each (λ (v : Bytes). AboveInt m (int_of b (trim v))) (values_in n s.members)
    pub is_met : is_typed b rules (new_field (record { name = n; value = decimal m })) ≡ true

  abbrev spans : List Span
  spans = all_ints b ∷ kept (span_of b) (kinds_of n rules)

  abbrev written : ℕ → Field
  written m = new_field (record { name = n; value = decimal m })

  suits-fits : (m : ℕ) → Suits m → Fits spans (ints_of b n s.members) m
  suits-fits m h =
      (((refl, le-leb m b.greatest h.is_int), kinds-within b m h.is_int (kinds_of n rules) (sym (typed-kinds b (written m) rules) ∙ h.is_met)), kept_above m (λ (v : Bytes). int_of b (trim v)) (values_in n s.members) h.is_above)

  fits-suits : is_counted b rules n ≡ true → (m : ℕ) → Fits spans (ints_of b n s.members) m → Suits m
  fits-suits c m h =
      let i : m ≤ b.greatest = leb-true m b.greatest h.0.0.1 in
      record { is_int = i; is_above = above_kept m (λ (v : Bytes). int_of b (trim v)) (values_in n s.members) h.1; is_met = typed-kinds b (written m) rules ∙ within-kinds b m i (kinds_of n rules) c h.0.1 }

  least-suits : is_counted b rules n ≡ true → (x : Option ℕ) → LeastOf (Fits spans (ints_of b n s.members)) x → LeastOf Suits x
  least-suits c none h = λ m k. h m (suits-fits m k)
  least-suits c (some k) h = (fits-suits c k h.0, λ m t. h.1 m (suits-fits m t))

  pub next-least : is_counted b rules n ≡ true → LeastOf Suits (next_number b s n)
  next-least c = least-suits c (next_number b s n) (least-in spans (ints_of b n s.members))

  -- it is an int, whatever the types
  abbrev pub UpTo : Option ℕ → Type 0
  UpTo none = Unit {0}
  UpTo (some k) = k ≤ b.greatest

  up_to : (x : Option ℕ) → LeastOf (Fits spans (ints_of b n s.members)) x → UpTo x
  up_to none h = tt
  up_to (some k) h = leb-true k b.greatest h.0.0.0.1

  pub next-int : UpTo (next_number b s n)
  next-int = up_to (next_number b s n) (least-in spans (ints_of b n s.members))

-- What an insert is completed to

-- an insert that names all listed names: itself
filter_none : {A : Type 0} (p : A → Bool) (xs : List A) → Each (λ (x : A). p x ≡ false) xs → filter p xs ≡ []
filter_none p [] h = refl
filter_none p (x ∷ xs) h = rw h.0 (filter_none p xs h.1)

filter-each : {A : Type 0} (p : A → Bool) (xs : List A) → Each (λ (x : A). p x ≡ true) (filter p xs)
filter-each p [] = tt
filter-each {A = A} p (x ∷ xs) = go (p x) refl (filter-each p xs)
  where
    go : (c : Bool) → p x ≡ c → Each (λ (y : A). p y ≡ true) (filter p xs) → Each (λ (y : A). p y ≡ true) (pick c (x ∷ filter p xs) (filter p xs))
    go true e k = (e, k)
    go false e k = k

each-firsts : (P : Bytes → Type 0) (ns : List Bytes) → Each P ns → Each P (firsts ns)
each-firsts P [] h = tt
each-firsts P (n ∷ ns) h = (h.0, each-filter P (λ (m : Bytes). not (same n m)) (firsts ns) (each-firsts P ns h.1))

none-omitted : (rules : Record) (new : List Pair) → all (λ (n : Bytes). among n (pair_names new)) (auto rules) ≡ true → omitted rules new ≡ []
none-omitted rules new e =
    filter_none (λ (n : Bytes). not (among n (pair_names new))) (firsts (auto rules))
    (each-firsts (λ (n : Bytes). not (among n (pair_names new)) ≡ false) (auto rules)
    (each-imp (λ (n : Bytes). among n (pair_names new) ≡ true) (λ (n : Bytes). not (among n (pair_names new)) ≡ false) (λ n q. ap not q) (auto rules) (all-each (λ (n : Bytes). among n (pair_names new)) (auto rules) e)))

-- no name is added twice, nor one that the request has
pub filter-distinct : (p : Bytes → Bool) (xs : List Bytes) → distinct xs ≡ true → distinct (filter p xs) ≡ true
filter-distinct p [] e = refl
filter-distinct p (x ∷ xs) e =
    let h = (and-eq-true_iff (not (among x xs)) (distinct xs)).0 e in
    let k = none_any (same x) (filter p xs) (each-filter (λ (y : Bytes). same x y ≡ false) p xs (any_none (same x) xs (not-true (among x xs) h.0))) in
    go (p x) (ap not k) (filter-distinct p xs h.1)
  where
    go : (c : Bool) → not (among x (filter p xs)) ≡ true → distinct (filter p xs) ≡ true → distinct (pick c (x ∷ filter p xs) (filter p xs)) ≡ true
    go true k d = (and-eq-true_iff (not (among x (filter p xs))) (distinct (filter p xs))).1 (k, d)
    go false k d = d

pub firsts-distinct : (ns : List Bytes) → distinct (firsts ns) ≡ true
firsts-distinct [] = refl
firsts-distinct (n ∷ ns) =
    let p : Bytes → Bool = λ (m : Bytes). not (same n m) in
    let k = none_any (same n) (filter p (firsts ns)) (each-imp (λ (m : Bytes). p m ≡ true) (λ (m : Bytes). same n m ≡ false) (λ m e. not-true (same n m) e) (filter p (firsts ns)) (filter-each p (firsts ns))) in
    (and-eq-true_iff (not (among n (filter p (firsts ns)))) (distinct (filter p (firsts ns)))).1 (ap not k, filter-distinct p (firsts ns) (firsts-distinct ns))

pub omitted-once : (rules : Record) (new : List Pair) → distinct (omitted rules new) ≡ true
omitted-once rules new = filter-distinct (λ (n : Bytes). not (among n (pair_names new))) (firsts (auto rules)) (firsts-distinct (auto rules))

pub omitted-new : (rules : Record) (new : List Pair) → Each (λ (n : Bytes). among n (pair_names new) ≡ false) (omitted rules new)
omitted-new rules new =
    let p : Bytes → Bool = λ (n : Bytes). not (among n (pair_names new)) in
    each-imp (λ (n : Bytes). p n ≡ true) (λ (n : Bytes). among n (pair_names new) ≡ false) (λ n e. not-true (among n (pair_names new)) e) (omitted rules new) (filter-each p (firsts (auto rules)))

pub completed-itself : (b : Bounds) (s : RecSet) (new : List Pair) → all (λ (n : Bytes). among n (pair_names new)) (auto s.rules) ≡ true → completed b s new ≡ some new
unfolding completed
completed-itself b s new e = ap (λ (ns : List Bytes). Option.map (λ (ps : List Pair). ps ++ new) (every (numbered b s) ns)) (none-omitted s.rules new e)

-- the pairs that are added: the omitted names in their order, each with its number, which is a legal value
module _ (b : Bounds) (s : RecSet) (short : b.greatest < 10 ^ 19) where
  abbrev pub IsAdded : Pair → Type 0
  IsAdded p = (numbered b s p.name ≡ some p) × (is_legal_value p.value ≡ true)

  abbrev pub Adds : List Bytes → Option (List Pair) → Type 0
  Adds ns none = all (λ (n : Bytes). is_some (next_number b s n)) ns ≡ false
  Adds ns (some ps) = (all (λ (n : Bytes). is_some (next_number b s n)) ns ≡ true) × (pair_names ps ≡ ns) × Each IsAdded ps

  added-one : (n : Bytes) (ns : List Bytes) (x : Option ℕ) (y : Option (List Pair)) → next_number b s n ≡ x → UpTo b s n x → Adds ns y → Adds (n ∷ ns) (onward (λ (p : Pair). Option.map (λ (ps : List Pair). p ∷ ps) y) (Option.map (λ (k : ℕ). record { name = n; value = decimal k }) x))
  added-one n ns none y e u h = rw e
  added-one n ns (some k) none e u h = rw e h
  added-one n ns (some k) (some ps) e u h =
      (rw e h.0, ap (λ (ms : List Bytes). n ∷ ms) h.1, ((ap (Option.map (λ (k : ℕ). record { name = n; value = decimal k })) e, decimal-legal 18 k (omega (arith, u, short)) (omega arith)), h.2))

  pub every-added : (ns : List Bytes) → Adds ns (every (numbered b s) ns)
  every-added [] = (refl, refl, tt)
  every-added (n ∷ ns) = added-one n ns (next_number b s n) (every (numbered b s) ns) refl (next-int b s n) (every-added ns)

  -- an insert is completed by them, its own pairs behind; or not at all, where an omitted name has no number
  abbrev pub Completes : List Pair → Option (List Pair) → Type 0
  Completes new none = all (λ (n : Bytes). is_some (next_number b s n)) (omitted s.rules new) ≡ false
  Completes new (some ps) = (qs : List Pair) × (Adds (omitted s.rules new) (some qs) × (ps ≡ qs ++ new))

  completes : (new : List Pair) (x : Option (List Pair)) → Adds (omitted s.rules new) x → Completes new (Option.map (λ (ps : List Pair). ps ++ new) x)
  completes new none h = h
  completes new (some qs) h = (qs, (h, refl))

  pub completed-by : (new : List Pair) → Completes new (completed b s new)
  unfolding completed
  completed-by new = completes new (added b s new) (every-added (omitted s.rules new))

  -- its names: the omitted ones, then those of the request
  abbrev pub NamesOf : List Bytes → Option (List Pair) → Type 0
  NamesOf ns none = Unit {0}
  NamesOf ns (some ps) = pair_names ps ≡ ns

  names-append : (ps qs : List Pair) → pair_names (ps ++ qs) ≡ pair_names ps ++ pair_names qs
  names-append [] qs = refl
  names-append (p ∷ ps) qs = ap (λ (ns : List Bytes). p.name ∷ ns) (names-append ps qs)

  names-by : (new : List Pair) (x : Option (List Pair)) → Completes new x → NamesOf (omitted s.rules new ++ pair_names new) x
  names-by new none h = tt
  names-by new (some ps) h = ap pair_names h.1.1 ∙ names-append h.0 new ∙ ap (λ (ns : List Bytes). ns ++ pair_names new) h.1.0.1

  pub completed-names : (new : List Pair) → NamesOf (omitted s.rules new ++ pair_names new) (completed b s new)
  completed-names new = names-by new (completed b s new) (completed-by new)

-- the ints of 64 bits have at most 19 digits
pub short-ints : int_bounds.greatest < 10 ^ 19
short-ints = omega arith
