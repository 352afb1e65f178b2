-- Wider ints: a file that passes under narrower ones passes under them, if no range in it has `MAX` as its lower end or `MIN` as its upper.
use Prim.Native.Nat.{ℕ, zero, suc, ◌≤◌}
use Prim.Native.String.{String}
use native.Mathlib.Omega.{arith}
use mathlib.Core.Path.{◌≡◌, refl, sym, ap, ◌∙◌, subst}
use mathlib.Core.Logic.{◌⊎◌, inl, inr}
use mathlib.Core.Bool.{Bool, true, false, ◌&&◌, ◌||◌, not, or-false, and-eq-true_iff, false≢true}
use mathlib.Core.List.{List, [], ◌∷◌, ◌++◌, map}
use mathlib.Core.Option
use mathlib.Core.Option.{Option, none, some}
use lib.Dec.{leb, eqb}
use lib.ListN.{length, get_or, drop}
use borrow.Author.Tests.{leb-true, le-leb}
use Rattle.format.specs.Lists.{only_if, onward, is_filled, filter, keep, kept, front, behind}
use Rattle.format.specs.Bytes.{Bytes, text, pick, is_allowed, all, any, same, among, is_some}
use Rattle.format.specs.Lines.{is_ended, is_special, is_name}
use Rattle.format.specs.Pieces.{pieces}
use Rattle.format.specs.Records.{Field, Record}
use Rattle.format.specs.Sets.{RecSet, values_of, sets_of}
use Rattle.format.specs.Limits.{file_bytes}
use Rattle.format.specs.Words.{is_gap, words, trim, first_word, after_word, is_type_name}
use Rattle.format.specs.Numbers.{Int, plus, minus, Bounds, int_bounds, unsigned, up_to, int_of, is_at_most, not_below0, number_of}
use Rattle.format.specs.Types.{Kind, Typed, Typedef, bare, end_of, ranged, range_of, size_of, plain_kind, is_symbol, enum_in, uncomment, before_comment, type_of, lookup, follow, kind_of, is_in_range, size_count, meets}
use Rattle.format.specs.Rules.{order_of, size_by, size_rule, meets_size, typedef_of, typedefs_of, TypeRule, typed_names, end_kind, type_rule_of, type_rules, is_typed, Shape, shapes, is_shaped, is_well_formed, is_typedef_name, distinct, span_of, is_counted, autos_counted, auto, are_types_defined, is_typed_well}
use Rattle.format.specs.Questions.{Row, first_no, File, file_of, fits_limits, describes_once, name_of, describes_well, types_well, each_record, none_prohibited, all_allowed, all_present, none_repeated, all_typed, keys_distinct, size_met, singular_met, descriptor_rows, rule_rows, verdict_in, verdict}
use Rattle.format.proofs.Elements.{Each, each-imp, each_both, all-each, each_all, all-imp, all_both}
use Rattle.format.proofs.Listing.{same_true}
use Rattle.format.proofs.Least.{Above, Rise, first_above}

-- the statement

-- the ends of the wider ints are no nearer to 0
pub record Wider (n w : Bounds) : Type 0 where
  pub least : n.least ≤ w.least
  pub greatest : n.greatest ≤ w.greatest

-- "no range in it has `MAX` as its lower end or `MIN` as its upper": by the words behind `range`
abbrev pub ends_widen : List Bytes → Bool
ends_widen [] = true
ends_widen (high ∷ []) = not (same high (text "MIN"))
ends_widen (low ∷ high ∷ []) = not (same low (text "MAX")) && not (same high (text "MIN"))
ends_widen (low ∷ high ∷ w ∷ ws) = true

-- by the words of a type
abbrev pub type_widens : List Bytes → Bool
type_widens [] = true
type_widens (w ∷ ws) = not (same w (text "range")) || ends_widen ws

-- by the value of a `%type` or `%typedef` field: its type stands behind the first word
abbrev pub value_widens : Bytes → Bool
value_widens v = type_widens (words (after_word v))

-- by all those fields of all descriptors, used or not
abbrev pub rules_widen : Record → Bool
rules_widen r = all value_widens (values_of (text "%typedef") r) && all value_widens (values_of (text "%type") r)

abbrev pub ranges_widen : List RecSet → Bool
ranges_widen ss = all (λ (s : RecSet). rules_widen s.rules) ss

-- the questions that ints answer: is the number of `%size` one, are those of types, are the values
abbrev pub asks_ints : ℕ → Bool
asks_ints k = eqb k 6 || eqb k 7 || eqb k 12

-- a file's number under narrower ints and under wider ones: the same; or that of such a question, which then says yes, and 0 or a later one
abbrev pub Eased : ℕ → ℕ → Type 0
Eased k m = (m ≡ k) ⊎ ((asks_ints k ≡ true) × Above k m)

-- what there is, there is again, with something said of the two

abbrev AgainIn : {A B : Type 0} → (A → B → Type 0) → Option A → Option B → Type 0
AgainIn R none y = Unit {0}
AgainIn R (some a) none = ⊥
AgainIn R (some a) (some b) = R a b

record Again {A B : Type 0} (R : A → B → Type 0) (x : Option A) (y : Option B) : Type 0 where
  pub holds : AgainIn R x y

module _ {A B : Type 0} {R : A → B → Type 0} where
  absent : {y : Option B} → Again R none y
  absent = record { holds = tt }

  again : {a : A} {b : B} → R a b → Again R (some a) (some b)
  again r = record { holds = r }

module _ {A B : Type 0} {R : A → B → Type 0} where
  again-some : (x : Option A) (y : Option B) → Again R x y → is_some x ≡ true → is_some y ≡ true
  again-some none y h e = absurd (false≢true e)
  again-some (some a) none h e = absurd h.holds
  again-some (some a) (some b) h e = refl

  again-if : (c : Bool) {x x' : Option A} {y y' : Option B} → (c ≡ true → Again R x y) → (c ≡ false → Again R x' y') → Again R (pick c x x') (pick c y y')
  again-if true h k = h refl
  again-if false h k = k refl

  again-pick : (c : Bool) {x x' : Option A} {y y' : Option B} → Again R x y → Again R x' y' → Again R (pick c x x') (pick c y y')
  again-pick true h k = h
  again-pick false h k = k

  again-only : (c d : Bool) (a : A) (b : B) → (c ≡ true → d ≡ true) → R a b → Again R (only_if c a) (only_if d b)
  again-only true true a b h r = again r
  again-only true false a b h r = absurd (false≢true (h refl))
  again-only false d a b h r = absent

  again-onward : {C D : Type 0} {S : C → D → Type 0} (f : A → Option C) (g : B → Option D) → ((a : A) (b : B) → R a b → Again S (f a) (g b)) → (x : Option A) (y : Option B) → Again R x y → Again S (onward f x) (onward g y)
  again-onward f g k none y h = absent
  again-onward f g k (some a) none h = absurd h.holds
  again-onward f g k (some a) (some b) h = k a b h.holds

  again-map : {C D : Type 0} {S : C → D → Type 0} (f : A → C) (g : B → D) → ((a : A) (b : B) → R a b → S (f a) (g b)) → (x : Option A) (y : Option B) → Again R x y → Again S (Option.map f x) (Option.map g y)
  again-map f g k none y h = absent
  again-map f g k (some a) none h = absurd h.holds
  again-map f g k (some a) (some b) h = again (k a b h.holds)

abbrev Equal : {A : Type 0} → A → A → Type 0
Equal a b = a ≡ b

module _ {A : Type 0} {R : A → A → Type 0} (r : (a : A) → R a a) where
  again-same : (x : Option A) → Again R x x
  again-same none = absent
  again-same (some a) = again (r a)

  again-equal : (x y : Option A) → Again Equal x y → Again R x y
  again-equal none y h = absent
  again-equal (some a) none h = absurd h.holds
  again-equal (some a) (some b) h = again (subst (R a) h.holds (r a))

onward-some : {A B : Type 0} (f : A → Option B) (x : Option A) → is_some (onward f x) ≡ true → is_some x ≡ true
onward-some f none e = e
onward-some f (some a) e = refl

map-some : {A B : Type 0} (f : A → B) (x : Option A) → is_some x ≡ true → is_some (Option.map f x) ≡ true
map-some f none e = e
map-some f (some a) e = refl

-- lists of the same length, each to the one at its place
abbrev Pairs : {A B : Type 0} → (A → B → Type 0) → List A → List B → Type 0
Pairs R [] [] = Unit {0}
Pairs R [] (y ∷ ys) = ⊥
Pairs R (x ∷ xs) [] = ⊥
Pairs R (x ∷ xs) (y ∷ ys) = R x y × Pairs R xs ys

pairs-length : {A B : Type 0} (R : A → B → Type 0) (xs : List A) (ys : List B) → Pairs R xs ys → length xs ≡ length ys
pairs-length R [] [] h = refl
pairs-length R [] (y ∷ ys) h = absurd h
pairs-length R (x ∷ xs) [] h = absurd h
pairs-length R (x ∷ xs) (y ∷ ys) h = ap suc (pairs-length R xs ys h.1)

module _ {A B C : Type 0} (R : B → C → Type 0) (f : A → Option B) (g : A → Option C) where
  pairs-keep : (x : Option B) (y : Option C) (xs : List B) (ys : List C) → is_some x ≡ true → Again R x y → Pairs R xs ys → Pairs R (keep x xs) (keep y ys)
  pairs-keep none y xs ys e h p = absurd (false≢true e)
  pairs-keep (some a) none xs ys e h p = absurd h.holds
  pairs-keep (some a) (some b) xs ys e h p = (h.holds, p)

  pairs-kept : (vs : List A) → Each (λ (v : A). (is_some (f v) ≡ true) × Again R (f v) (g v)) vs → Pairs R (kept f vs) (kept g vs)
  pairs-kept [] h = tt
  pairs-kept (v ∷ vs) h = pairs-keep (f v) (g v) (kept f vs) (kept g vs) h.0.0 h.0.1 (pairs-kept vs h.1)

-- tests

if_yes : (b c : Bool) → (not b || c) ≡ true → b ≡ true → c ≡ true
if_yes true c h e = h
if_yes false c h e = absurd (false≢true e)

not-no : (b : Bool) → not b ≡ true → b ≡ false
not-no true e = absurd (false≢true e)
not-no false e = refl

and-sooner : (a b c : Bool) → (a ≡ true → b ≡ true) → (a && c) ≡ true → (b && c) ≡ true
and-sooner true b c h e = ap (λ (x : Bool). x && c) (h refl) ∙ e
and-sooner false b c h e = absurd (false≢true e)

or-each : (a b c d : Bool) → (a ≡ true → b ≡ true) → (c ≡ true → d ≡ true) → (a || c) ≡ true → (b || d) ≡ true
or-each true b c d h k e = ap (λ (x : Bool). x || d) (h refl)
or-each false true c d h k e = refl
or-each false false c d h k e = k e

pub or_later : (a b c : Bool) → (b ≡ true → c ≡ true) → (a || b) ≡ true → (a || c) ≡ true
or_later a b c h e = or-each a a b c (λ x. x) h e

all_from : {A : Type 0} (p q t : A → Bool) → ((x : A) → p x ≡ true → q x ≡ true → t x ≡ true) → (xs : List A) → all p xs ≡ true → all q xs ≡ true → all t xs ≡ true
all_from p q t h xs e f =
    each_all t xs (each-imp (λ x. (p x ≡ true) × (q x ≡ true)) (λ x. t x ≡ true) (λ x k. h x k.0 k.1) xs (each_both (λ x. p x ≡ true) (λ x. q x ≡ true) xs (all-each p xs e) (all-each q xs f)))

all_same : {A : Type 0} (p q t : A → Bool) → ((x : A) → p x ≡ true → q x ≡ t x) → (xs : List A) → all p xs ≡ true → all q xs ≡ all t xs
all_same p q t h [] e = refl
all_same p q t h (x ∷ xs) e = let k = (and-eq-true_iff (p x) (all p xs)).0 e in (λ i. h x k.0 i && all_same p q t h xs k.1 i)

-- the five tests of a descriptor's types
five : (a b c d e : Bool) → (a && b && c && d && e) ≡ true → (a ≡ true) × (b ≡ true) × (c ≡ true) × (d ≡ true) × (e ≡ true)
five true true true true e h = (refl, refl, refl, refl, h)
five true true true false e h = absurd (false≢true h)
five true true false d e h = absurd (false≢true h)
five true false c d e h = absurd (false≢true h)
five false b c d e h = absurd (false≢true h)

-- the first type of those that name a field, and the others
counted-by : (b : Bounds) (c : Bool) (t : TypeRule) (ts : List TypeRule) → all (λ (k : Kind). is_some (span_of b k)) (map (λ (x : TypeRule). x.kind) (pick c (t ∷ ts) ts)) ≡ (pick c (is_some (span_of b t.kind)) true && all (λ (k : Kind). is_some (span_of b k)) (map (λ (x : TypeRule). x.kind) ts))
counted-by b true t ts = refl
counted-by b false t ts = refl

module _ (n w : Bounds) (wide : Wider n w) where
  -- ints

  at-most-more : (k l m : ℕ) → l ≤ m → leb k l ≡ true → leb k m ≡ true
  at-most-more k l m h e = le-leb k m (omega (arith, leb-true k l e))

  up-to-again : (l m : ℕ) → l ≤ m → (sign : ℕ → Int) (x : Option ℕ) → Again Equal (up_to l sign x) (up_to m sign x)
  up-to-again l m h sign none = absent
  up-to-again l m h sign (some k) = again-only (leb k l) (leb k m) (sign k) (sign k) (at-most-more k l m h) refl

  int-again : (s : Bytes) → Again Equal (int_of n s) (int_of w s)
  int-again s =
      again-pick (eqb (get_or s 0 0) 45)
      (up-to-again n.least w.least wide.least minus (unsigned (drop 1 s)))
      (up-to-again n.greatest w.greatest wide.greatest plus (unsigned s))

  number-again : (s : Bytes) → Again Equal (number_of n s) (number_of w s)
  number-again s =
      again-onward not_below0 not_below0
      (λ x y e. subst (λ (z : Int). Again Equal (not_below0 x) (not_below0 z)) e (again-same (λ a. refl) (not_below0 x)))
      (int_of n s) (int_of w s) (int-again s)

  -- a lower end that is no higher, and an upper one that is no lower

  abbrev Lower : Int → Int → Type 0
  Lower a b = (x : Int) → is_at_most a x ≡ true → is_at_most b x ≡ true

  abbrev Upper : Int → Int → Type 0
  Upper a b = (x : Int) → is_at_most x a ≡ true → is_at_most x b ≡ true

  lower-min : Lower (minus n.least) (minus w.least)
  lower-min (minus m) e = at-most-more m n.least w.least wide.least e
  lower-min (plus m) e = refl

  upper-max : Upper (plus n.greatest) (plus w.greatest)
  upper-max (minus m) e = refl
  upper-max (plus m) e = at-most-more m n.greatest w.greatest wide.greatest e

  low_again : (v : Bytes) → same v (text "MAX") ≡ false → Again Lower (end_of n v) (end_of w v)
  low_again v e =
      again-pick (same v (text "MIN")) (again lower-min)
      (again-if (same v (text "MAX")) (λ t. absurd (false≢true (sym e ∙ t))) (λ f. again-equal (λ a x h. h) (int_of n v) (int_of w v) (int-again v)))

  high-again : (v : Bytes) → same v (text "MIN") ≡ false → Again Upper (end_of n v) (end_of w v)
  high-again v e =
      again-if (same v (text "MIN")) (λ t. absurd (false≢true (sym e ∙ t)))
      (λ f. again-pick (same v (text "MAX")) (again upper-max) (again-equal (λ a x h. h) (int_of n v) (int_of w v) (int-again v)))

  -- types: every value that meets the one under the narrower ints meets the other under the wider ones, and both or neither are of ints

  abbrev Covers : Kind → Kind → Type 0
  Covers k l = ((v : Bytes) → meets n k v ≡ true → meets w l v ≡ true) × (is_some (span_of n k) ≡ is_some (span_of w l))

  abbrev CoversTyped : Typed → Typed → Type 0
  CoversTyped (Typed.kind k) (Typed.kind l) = Covers k l
  CoversTyped (Typed.kind k) (Typed.alias b) = ⊥
  CoversTyped (Typed.alias a) (Typed.kind l) = ⊥
  CoversTyped (Typed.alias a) (Typed.alias b) = a ≡ b

  int-covers : Covers Kind.int Kind.int
  int-covers = (λ v e. again-some (int_of n (trim v)) (int_of w (trim v)) (int-again (trim v)) e, refl)

  size-covers : (k m : ℕ) → k ≡ m → Covers (Kind.size k) (Kind.size m)
  size-covers k m h = (λ v e. subst (λ (x : ℕ). leb (size_count v) x ≡ true) h e, refl)

  in-range : (a b c d : Int) → Lower a c → Upper b d → (x y : Option Int) → Again Equal x y → is_in_range a b x ≡ true → is_in_range c d y ≡ true
  in-range a b c d l u none y h e = absurd (false≢true e)
  in-range a b c d l u (some x) none h e = absurd h.holds
  in-range a b c d l u (some x) (some y) h e =
      let k = (and-eq-true_iff (is_at_most a x) (is_at_most x b)).0 e in
      subst (λ (z : Int). is_in_range c d (some z) ≡ true) h.holds ((and-eq-true_iff (is_at_most c x) (is_at_most x d)).1 (l x k.0, u x k.1))

  range-covers : (a b c d : Int) → Lower a c → Upper b d → Covers (Kind.range a b) (Kind.range c d)
  range-covers a b c d l u = (λ v e. in-range a b c d l u (int_of n (trim v)) (int_of w (trim v)) (int-again (trim v)) e, refl)

  ranged-again : (a b c d : Option Int) → Again Lower a c → Again Upper b d → Again CoversTyped (ranged a b) (ranged c d)
  ranged-again a b c d l u =
      again-onward (λ (x : Int). Option.map (λ (y : Int). Typed.kind (Kind.range x y)) b) (λ (x : Int). Option.map (λ (y : Int). Typed.kind (Kind.range x y)) d)
      (λ x y h. again-map (λ (z : Int). Typed.kind (Kind.range x z)) (λ (z : Int). Typed.kind (Kind.range y z)) (λ p q k. range-covers x p y q h k) b d u)
      a c l

  range-again : (ws : List Bytes) → ends_widen ws ≡ true → Again CoversTyped (range_of n ws) (range_of w ws)
  range-again [] h = absent
  range-again (v ∷ []) h = ranged-again (some (plus 0)) (end_of n v) (some (plus 0)) (end_of w v) (again (λ x e. e)) (high-again v (not-no (same v (text "MIN")) h))
  range-again (u ∷ v ∷ []) h =
      let k = (and-eq-true_iff (not (same u (text "MAX"))) (not (same v (text "MIN")))).0 h in
      ranged-again (end_of n u) (end_of n v) (end_of w u) (end_of w v) (low_again u (not-no (same u (text "MAX")) k.0)) (high-again v (not-no (same v (text "MIN")) k.1))
  range-again (u ∷ v ∷ t ∷ ts) h = absent

  size-again : (ws : List Bytes) → Again CoversTyped (size_of n ws) (size_of w ws)
  size-again [] = absent
  size-again (v ∷ []) = again-map (λ (k : ℕ). Typed.kind (Kind.size k)) (λ (k : ℕ). Typed.kind (Kind.size k)) size-covers (number_of n v) (number_of w v) (number-again v)
  size-again (v ∷ u ∷ us) = absent

  only-again : (c : Bool) (t : Typed) → CoversTyped t t → Again CoversTyped (only_if c t) (only_if c t)
  only-again c t r = again-only c c t t (λ e. e) r

  bare-again : (k : Kind) (ws : List Bytes) → Covers k k → Again CoversTyped (bare k ws) (bare k ws)
  bare-again k ws h = only-again (not (is_filled ws)) (Typed.kind k) h

  plain-again : (ws : List Bytes) → type_widens ws ≡ true → Again CoversTyped (plain_kind n ws) (plain_kind w ws)
  plain-again [] h = absent
  plain-again (v ∷ ws) h =
      again-pick (same v (text "int")) (bare-again Kind.int ws int-covers)
      (again-if (same v (text "range")) (λ e. range-again ws (if_yes (same v (text "range")) (ends_widen ws) h e)) (λ e.
      again-pick (same v (text "real")) (bare-again Kind.real ws (λ x e. e, refl))
      (again-pick (same v (text "line")) (bare-again Kind.line ws (λ x e. e, refl))
      (again-pick (same v (text "size")) (size-again ws)
      (again-pick (same v (text "bool")) (bare-again Kind.bool ws (λ x e. e, refl))
      (again-pick (same v (text "field")) (bare-again Kind.field ws (λ x e. e, refl))
      (again-pick (same v (text "uuid")) (bare-again Kind.uuid ws (λ x e. e, refl))
      (only-again (not (is_filled ws) && is_type_name v) (Typed.alias v) refl))))))))

  enum-again : (s : Bytes) → Again CoversTyped (enum_in s) (enum_in s)
  enum-again s = only-again (is_filled (words s) && all is_symbol (words s)) (Typed.kind (Kind.enum (words s))) (λ x e. e, refl)

  enums-again : (x : Option Bytes) → Again CoversTyped (onward enum_in x) (onward enum_in x)
  enums-again none = absent
  enums-again (some s) = enum-again s

  type-again : (s : Bytes) → type_widens (words s) ≡ true → Again CoversTyped (type_of n s) (type_of w s)
  type-again s h =
      again-pick (same (front before_comment (behind is_gap s)) (text "enum"))
      (enums-again (uncomment false (behind before_comment (behind is_gap s))))
      (plain-again (words s) h)

  -- typedefs: an alias leads to the same place

  abbrev CoversDef : Typedef → Typedef → Type 0
  CoversDef d e = (d.name ≡ e.name) × CoversTyped d.type e.type

  lookup-again : (m : Bytes) (ds es : List Typedef) → Pairs CoversDef ds es → Again CoversTyped (lookup m ds) (lookup m es)
  lookup-again m [] [] p = absent
  lookup-again m [] (e ∷ es) p = absurd p
  lookup-again m (d ∷ ds) [] p = absurd p
  lookup-again m (d ∷ ds) (e ∷ es) p =
      subst (λ (x : Bytes). Again CoversTyped (lookup m (d ∷ ds)) (pick (same m x) (some e.type) (lookup m es))) p.0.0
      (again-pick (same m d.name) (again p.0.1) (lookup-again m ds es p.1))

  module _ (ds es : List Typedef) (p : Pairs CoversDef ds es) where
    follow-again : (left : ℕ) (t u : Typed) → CoversTyped t u → Again Covers (follow left ds t) (follow left es u)
    follow-again zero (Typed.kind k) (Typed.kind l) h = again h
    follow-again zero (Typed.kind k) (Typed.alias b) h = absurd h
    follow-again zero (Typed.alias a) u h = absent
    follow-again (suc left) (Typed.kind k) (Typed.kind l) h = again h
    follow-again (suc left) (Typed.kind k) (Typed.alias b) h = absurd h
    follow-again (suc left) (Typed.alias a) (Typed.kind l) h = absurd h
    follow-again (suc left) (Typed.alias a) (Typed.alias b) h =
        again-onward (follow left ds) (follow left es) (follow-again left)
        (lookup a ds) (lookup b es) (subst (λ (x : Bytes). Again CoversTyped (lookup a ds) (lookup x es)) h (lookup-again a ds es p))

    kind-again : (t u : Typed) → CoversTyped t u → Again Covers (kind_of ds t) (kind_of es u)
    kind-again t u h = subst (λ (k : ℕ). Again Covers (follow (length ds) ds t) (follow k es u)) (pairs-length CoversDef ds es p) (follow-again (length ds) t u h)

    end-again : (v : Bytes) → value_widens v ≡ true → Again Covers (end_kind n ds v) (end_kind w es v)
    end-again v h = again-onward (kind_of ds) (kind_of es) kind-again (type_of n (after_word v)) (type_of w (after_word v)) (type-again (after_word v) h)

  -- the types of a descriptor

  def-again : (v : Bytes) → value_widens v ≡ true → Again CoversDef (typedef_of n v) (typedef_of w v)
  def-again v h =
      again-map (λ (t : Typed). record { name = first_word v; type = t }) (λ (t : Typed). record { name = first_word v; type = t }) (λ t u k. (refl, k))
      (type_of n (after_word v)) (type_of w (after_word v)) (type-again (after_word v) h)

  abbrev CoversRule : TypeRule → TypeRule → Type 0
  CoversRule t u = (t.names ≡ u.names) × Covers t.kind u.kind

  abbrev defs : Record → List Bytes
  defs r = values_of (text "%typedef") r

  abbrev types : Record → List Bytes
  types r = values_of (text "%type") r

  abbrev ends : Record → Bytes → Bool
  ends r v = is_some (end_kind n (typedefs_of n r) v)

  module _ (r : Record) (widen : rules_widen r ≡ true) (defined : are_types_defined n r ≡ true) where
    widened : (all value_widens (defs r) ≡ true) × (all value_widens (types r) ≡ true)
    widened = (and-eq-true_iff (all value_widens (defs r)) (all value_widens (types r))).0 widen

    parts : (all (λ (v : Bytes). is_typedef_name (first_word v)) (defs r) ≡ true) × (all (ends r) (defs r) ≡ true) × (distinct (map first_word (defs r)) ≡ true) × (all (λ (v : Bytes). all is_name (typed_names v)) (types r) ≡ true) × (all (ends r) (types r) ≡ true)
    parts = five (all (λ (v : Bytes). is_typedef_name (first_word v)) (defs r)) (all (ends r) (defs r)) (distinct (map first_word (defs r))) (all (λ (v : Bytes). all is_name (typed_names v)) (types r)) (all (ends r) (types r)) defined

    defs-pair : Pairs CoversDef (typedefs_of n r) (typedefs_of w r)
    defs-pair =
        pairs-kept CoversDef (typedef_of n) (typedef_of w) (defs r)
        (each-imp (λ v. (ends r v ≡ true) × (value_widens v ≡ true)) (λ v. (is_some (typedef_of n v) ≡ true) × Again CoversDef (typedef_of n v) (typedef_of w v))
        (λ v k. (map-some (λ (t : Typed). record { name = first_word v; type = t }) (type_of n (after_word v)) (onward-some (kind_of (typedefs_of n r)) (type_of n (after_word v)) k.0), def-again v k.1))
        (defs r) (each_both (λ v. ends r v ≡ true) (λ v. value_widens v ≡ true) (defs r) (all-each (ends r) (defs r) parts.1) (all-each value_widens (defs r) widened.0)))

    ends-again : (v : Bytes) → value_widens v ≡ true → Again Covers (end_kind n (typedefs_of n r) v) (end_kind w (typedefs_of w r) v)
    ends-again v h = end-again (typedefs_of n r) (typedefs_of w r) defs-pair v h

    ends_stay : (vs : List Bytes) → all (ends r) vs ≡ true → all value_widens vs ≡ true → all (λ (v : Bytes). is_some (end_kind w (typedefs_of w r) v)) vs ≡ true
    ends_stay vs e h =
        all_from (ends r) value_widens (λ (v : Bytes). is_some (end_kind w (typedefs_of w r) v))
        (λ v f k. again-some (end_kind n (typedefs_of n r) v) (end_kind w (typedefs_of w r) v) (ends-again v k) f) vs e h

    types-defined : are_types_defined w r ≡ true
    types-defined = (λ i. parts.0 i && ends_stay (defs r) parts.1 widened.0 i && parts.2 i && parts.3 i && ends_stay (types r) parts.4 widened.1 i)

    rule-again : (v : Bytes) → value_widens v ≡ true → Again CoversRule (type_rule_of n (typedefs_of n r) v) (type_rule_of w (typedefs_of w r) v)
    rule-again v h =
        again-map (λ (k : Kind). record { names = typed_names v; kind = k }) (λ (k : Kind). record { names = typed_names v; kind = k }) (λ k l c. (refl, c))
        (end_kind n (typedefs_of n r) v) (end_kind w (typedefs_of w r) v) (ends-again v h)

    rules-pair : Pairs CoversRule (type_rules n r) (type_rules w r)
    rules-pair =
        pairs-kept CoversRule (type_rule_of n (typedefs_of n r)) (type_rule_of w (typedefs_of w r)) (types r)
        (each-imp (λ v. (ends r v ≡ true) × (value_widens v ≡ true)) (λ v. (is_some (type_rule_of n (typedefs_of n r) v) ≡ true) × Again CoversRule (type_rule_of n (typedefs_of n r) v) (type_rule_of w (typedefs_of w r) v))
        (λ v k. (map-some (λ (l : Kind). record { names = typed_names v; kind = l }) (end_kind n (typedefs_of n r) v) k.0, rule-again v k.1))
        (types r) (each_both (λ v. ends r v ≡ true) (λ v. value_widens v ≡ true) (types r) (all-each (ends r) (types r) parts.4) (all-each value_widens (types r) widened.1)))

  typed-again : (ts us : List TypeRule) → Pairs CoversRule ts us → (f : Field) → is_typed n ts f ≡ true → is_typed w us f ≡ true
  typed-again [] [] p f e = refl
  typed-again [] (u ∷ us) p f e = absurd p
  typed-again (t ∷ ts) [] p f e = absurd p
  typed-again (t ∷ ts) (u ∷ us) p f e =
      let k = (and-eq-true_iff (not (among f.name t.names) || meets n t.kind f.value) (is_typed n ts f)).0 e in
      let a = or_later (not (among f.name t.names)) (meets n t.kind f.value) (meets w u.kind f.value) (p.0.1.0 f.value) k.0 in
      let b = subst (λ (ms : List Bytes). (not (among f.name ms) || meets w u.kind f.value) ≡ true) p.0.0 a in
      (and-eq-true_iff (not (among f.name u.names) || meets w u.kind f.value) (is_typed w us f)).1 (b, typed-again ts us p.1 f k.1)

  -- the kinds of a name are as before of ints

  counted-again : (ts us : List TypeRule) → Pairs CoversRule ts us → (m : Bytes) → is_counted n ts m ≡ is_counted w us m
  counted-again [] [] p m = refl
  counted-again [] (u ∷ us) p m = absurd p
  counted-again (t ∷ ts) [] p m = absurd p
  counted-again (t ∷ ts) (u ∷ us) p m =
      counted-by n (among m t.names) t (filter (λ (x : TypeRule). among m x.names) ts)
      ∙ (λ i. pick (among m (p.0.0 i)) (p.0.1.1 i) true && counted-again ts us p.1 m i)
      ∙ sym (counted-by w (among m u.names) u (filter (λ (x : TypeRule). among m x.names) us))

  typed-well : (r : Record) → rules_widen r ≡ true → is_typed_well n r ≡ true → is_typed_well w r ≡ true
  typed-well r widen well =
      let k = (and-eq-true_iff (are_types_defined n r) (autos_counted n r)).0 well in
      let counted : autos_counted n r ≡ autos_counted w r = λ i. all (λ (m : Bytes). counted-again (type_rules n r) (type_rules w r) (rules-pair r widen k.0) m i) (auto r) in
      (and-eq-true_iff (are_types_defined w r) (autos_counted w r)).1 (types-defined r widen k.0, sym counted ∙ k.1)

  -- sizes

  size-by-again : (o : Option (ℕ → ℕ → Bool)) (x y : Option ℕ) → Again Equal x y → Again Equal (size_by o x) (size_by o y)
  size-by-again none x y h = absent
  size-by-again (some o) x y h =
      let f : ℕ → ℕ → Bool = λ (k m : ℕ). o m k in
      again-map f f (λ a b e. ap f e) x y h

  size-rule-again : (ws : List Bytes) → Again Equal (size_rule n ws) (size_rule w ws)
  size-rule-again [] = absent
  size-rule-again (v ∷ []) = size-by-again (some (λ m k. eqb m k)) (number_of n v) (number_of w v) (number-again v)
  size-rule-again (u ∷ v ∷ []) = size-by-again (order_of u) (number_of n v) (number_of w v) (number-again v)
  size-rule-again (u ∷ v ∷ t ∷ ts) = absent

  abbrev CoversShape : Bytes → Shape → Shape → Type 0
  CoversShape v x y = (x.name ≡ y.name) × (x.fits v ≡ true → y.fits v ≡ true)

  shape-again : (m v : Bytes) (xs ys : List Shape) → Pairs (CoversShape v) xs ys → any (λ (x : Shape). same m x.name && x.fits v) xs ≡ true → any (λ (x : Shape). same m x.name && x.fits v) ys ≡ true
  shape-again m v [] [] p e = e
  shape-again m v [] (y ∷ ys) p e = absurd p
  shape-again m v (x ∷ xs) [] p e = absurd p
  shape-again m v (x ∷ xs) (y ∷ ys) p e =
      or-each (same m x.name && x.fits v) (same m y.name && y.fits v) (any (λ (z : Shape). same m z.name && z.fits v) xs) (any (λ (z : Shape). same m z.name && z.fits v) ys)
      (λ h. let k = (and-eq-true_iff (same m x.name) (x.fits v)).0 h in (and-eq-true_iff (same m y.name) (y.fits v)).1 (subst (λ (z : Bytes). same m z ≡ true) p.0.0 k.0, p.0.1 k.1))
      (shape-again m v xs ys p.1) e

  shapes-pair : (v : Bytes) → Pairs (CoversShape v) (shapes n) (shapes w)
  shapes-pair v =
      let sized = again-some (size_rule n (words v)) (size_rule w (words v)) (size-rule-again (words v)) in
      ((refl, λ e. e), ((refl, λ e. e), ((refl, λ e. e), ((refl, λ e. e), ((refl, λ e. e), ((refl, λ e. e), ((refl, λ e. e), ((refl, sized), ((refl, λ e. e), ((refl, λ e. e), ((refl, λ e. e), ((refl, λ e. e), tt))))))))))))

  shaped-again : (f : Field) → is_shaped n f ≡ true → is_shaped w f ≡ true
  shaped-again f e =
      or_later (not (is_special f.name)) (any (λ (x : Shape). same f.name x.name && x.fits f.value) (shapes n)) (any (λ (x : Shape). same f.name x.name && x.fits f.value) (shapes w))
      (shape-again f.name f.value (shapes n) (shapes w) (shapes-pair f.value)) e

  well-again : (r : Record) → is_well_formed n r ≡ true → is_well_formed w r ≡ true
  well-again r e =
      let keyed : Bool = leb (length (values_of (text "%key") r)) 1 in
      and-sooner (all (is_shaped n) r && keyed) (all (is_shaped w) r && keyed) (leb (length (values_of (text "%size") r)) 1)
      (λ h. and-sooner (all (is_shaped n) r) (all (is_shaped w) r) keyed (λ k. all-imp (is_shaped n) (is_shaped w) shaped-again r k) h) e

  -- a `%size` field that is well formed has a number
  sized-by : (f : Field) → text "%size" ≡ f.name → is_shaped n f ≡ true → is_some (size_rule n (words f.value)) ≡ true
  sized-by f e h =
      sym (or-false (is_some (size_rule n (words f.value))))
      ∙ subst (λ (m : Bytes). (not (is_special m) || any (λ (x : Shape). same m x.name && x.fits f.value) (shapes n)) ≡ true) (sym e) h

  abbrev is_sized : Bytes → Bool
  is_sized v = is_some (size_rule n (words v))

  sized : (r : Record) → all (is_shaped n) r ≡ true → all is_sized (values_of (text "%size") r) ≡ true
  sized [] e = refl
  sized (f ∷ fs) e =
      let k = (and-eq-true_iff (is_shaped n f) (all (is_shaped n) fs)).0 e in
      go (same (text "%size") f.name) refl k.0 (sized fs k.1)
    where
      go : (b : Bool) → same (text "%size") f.name ≡ b → is_shaped n f ≡ true → all is_sized (values_of (text "%size") fs) ≡ true → all is_sized (pick b (f.value ∷ values_of (text "%size") fs) (values_of (text "%size") fs)) ≡ true
      go true h k l = (and-eq-true_iff (is_sized f.value) (all is_sized (values_of (text "%size") fs))).1 (sized-by f (same_true (text "%size") f.name h) k, l)
      go false h k l = l

  meets-alike : (m : ℕ) (x y : Option (ℕ → Bool)) → Again Equal x y → is_some x ≡ true → meets_size x m ≡ meets_size y m
  meets-alike m none y h s = absurd (false≢true s)
  meets-alike m (some p) none h s = absurd h.holds
  meets-alike m (some p) (some q) h s = ap (λ (t : ℕ → Bool). t m) h.holds

  size-alike : (s : RecSet) → is_well_formed n s.rules ≡ true → size_met n s ≡ size_met w s
  size-alike s h =
      let r : Record = s.rules in
      let k = (and-eq-true_iff (all (is_shaped n) r && leb (length (values_of (text "%key") r)) 1) (leb (length (values_of (text "%size") r)) 1)).0 h in
      let l = (and-eq-true_iff (all (is_shaped n) r) (leb (length (values_of (text "%key") r)) 1)).0 k.0 in
      all_same is_sized (λ (v : Bytes). meets_size (size_rule n (words v)) (length s.members)) (λ (v : Bytes). meets_size (size_rule w (words v)) (length s.members))
      (λ v a. meets-alike (length s.members) (size_rule n (words v)) (size_rule w (words v)) (size-rule-again (words v)) a)
      (values_of (text "%size") r) (sized r l.0)

  members-again : (s : RecSet) → (rules_widen s.rules && is_typed_well n s.rules) ≡ true → all (all_typed n s.rules) s.members ≡ true → all (all_typed w s.rules) s.members ≡ true
  members-again s h e =
      let rules : Record = s.rules in
      let k = (and-eq-true_iff (rules_widen rules) (is_typed_well n rules)).0 h in
      let defined = ((and-eq-true_iff (are_types_defined n rules) (autos_counted n rules)).0 k.1).0 in
      let field-again = typed-again (type_rules n rules) (type_rules w rules) (rules-pair rules k.0 defined) in
      all-imp (all_typed n rules) (all_typed w rules) (λ r t. all-imp (is_typed n (type_rules n rules)) (is_typed w (type_rules w rules)) field-again r t) s.members e

  -- the questions

  module _ (ss : List RecSet) (widen : ranges_widen ss ≡ true) where
    describes-again : describes_well n ss ≡ true → describes_well w ss ≡ true
    describes-again e =
        let rules : Bounds → RecSet → Bool = λ (b : Bounds) (s : RecSet). is_well_formed b s.rules in
        and-sooner (all (rules n) ss) (all (rules w) ss) (distinct (map name_of ss)) (λ h. all-imp (rules n) (rules w) (λ s k. well-again s.rules k) ss h) e

    types-again : types_well n ss ≡ true → types_well w ss ≡ true
    types-again e =
        all_from (λ (s : RecSet). rules_widen s.rules) (λ (s : RecSet). is_typed_well n s.rules) (λ (s : RecSet). is_typed_well w s.rules)
        (λ s a b. typed-well s.rules a b) ss widen e

    records-again : types_well n ss ≡ true → each_record (all_typed n) ss ≡ true → each_record (all_typed w) ss ≡ true
    records-again e f =
        all_from (λ (s : RecSet). rules_widen s.rules && is_typed_well n s.rules) (λ (s : RecSet). all (all_typed n s.rules) s.members) (λ (s : RecSet). all (all_typed w s.rules) s.members)
        members-again ss (all_both (λ (s : RecSet). rules_widen s.rules) (λ (s : RecSet). is_typed_well n s.rules) ss ∙ (and-eq-true_iff (ranges_widen ss) (types_well n ss)).1 (widen, e)) f

    sizes-alike : describes_well n ss ≡ true → all (size_met n) ss ≡ all (size_met w) ss
    sizes-alike e =
        let k = (and-eq-true_iff (all (λ (s : RecSet). is_well_formed n s.rules) ss) (distinct (map name_of ss))).0 e in
        all_same (λ (s : RecSet). is_well_formed n s.rules) (size_met n) (size_met w) size-alike ss k.0

-- a question that answers alike, and one that says yes again where it said yes; each is asked where those before it say yes
eased-alike : (a : Bool) (k i j : ℕ) → (a ≡ true → Eased i j) → Eased (pick a i k) (pick a j k)
eased-alike true k i j h = h refl
eased-alike false k i j h = inl refl

eased-asked : (a b : Bool) (k i j : ℕ) → asks_ints k ≡ true → Above k j → (a ≡ true → b ≡ true) → (a ≡ true → Eased i j) → Eased (pick a i k) (pick b j k)
eased-asked true true k i j q l g h = h refl
eased-asked true false k i j q l g h = absurd (false≢true (g refl))
eased-asked false true k i j q l g h = inr (q, l)
eased-asked false false k i j q l g h = inl refl

-- questions 5 to 14 and 30, and the number of the first no from the j-th of them on
abbrev rows_from : ℕ → Bounds → List (Row (List RecSet))
rows_from j b = drop j (descriptor_rows b ++ rule_rows b)

abbrev number_from : ℕ → Bounds → List RecSet → ℕ
number_from j b ss = first_no (rows_from j b) ss

-- a file's number under wider ints, by that under narrower ones
pub wider-number : (n w : Bounds) → Wider n w → (buffer : Bytes) (used : ℕ) → ranges_widen (file_of buffer used).sets ≡ true → Eased (verdict_in n buffer used) (verdict_in w buffer used)
unfolding verdict_in
wider-number n w wide buffer used widen =
    let f : File = file_of buffer used in
    let ss : List RecSet = f.sets in
    let rise : Rise 6 (rows_from 2 w) = (omega arith, (omega arith, (omega arith, (omega arith, (omega arith, (omega arith, (omega arith, (omega arith, (omega arith, tt))))))))) in
    eased-alike (leb f.used f.room && leb f.used file_bytes) 1 _ _ (λ q1.
    eased-alike (all is_allowed f.content && is_ended f.content) 2 _ _ (λ q2.
    eased-alike (is_some f.reads) 3 _ _ (λ q3.
    eased-alike (fits_limits ss) 4 (number_from 0 n ss) (number_from 0 w ss) (λ q4.
    eased-alike (describes_once ss) 5 (number_from 1 n ss) (number_from 1 w ss) (λ q5.
    eased-asked (describes_well n ss) (describes_well w ss) 6 (number_from 2 n ss) (number_from 2 w ss) refl (first_above (rows_from 2 w) 6 rise ss) (describes-again n w wide ss widen) (λ q6.
    eased-asked (types_well n ss) (types_well w ss) 7 (number_from 3 n ss) (number_from 3 w ss) refl (first_above (rows_from 3 w) 7 rise.1 ss) (types-again n w wide ss widen) (λ q7.
    eased-alike (each_record none_prohibited ss) 8 (number_from 4 n ss) (number_from 4 w ss) (λ q8.
    eased-alike (each_record all_allowed ss) 9 (number_from 5 n ss) (number_from 5 w ss) (λ q9.
    eased-alike (each_record all_present ss) 10 (number_from 6 n ss) (number_from 6 w ss) (λ q10.
    eased-alike (each_record none_repeated ss) 11 (number_from 7 n ss) (number_from 7 w ss) (λ q11.
    eased-asked (each_record (all_typed n) ss) (each_record (all_typed w) ss) 12 (number_from 8 n ss) (number_from 8 w ss) refl (first_above (rows_from 8 w) 12 rise.1.1.1.1.1.1 ss) (records-again n w wide ss widen q7) (λ q12.
    eased-alike (keys_distinct ss) 13 (number_from 9 n ss) (number_from 9 w ss) (λ q13.
    inl (sym (ap (λ (b : Bool). pick b (pick (all singular_met ss) 0 30) 14) (sizes-alike n w wide ss widen q6))))))))))))))))

eased-pass : (k m : ℕ) → k ≡ 0 → Eased k m → m ≡ 0
eased-pass k m e (inl h) = h ∙ e
eased-pass k m e (inr h) = absurd (false≢true (sym (ap asks_ints e) ∙ h.0))

-- "each file that passed under the narrower ints passes under these, if no range in it has `MAX` as its lower end or `MIN` as its upper"
pub wider-passes : (n w : Bounds) → Wider n w → (buffer : Bytes) (used : ℕ) → ranges_widen (file_of buffer used).sets ≡ true → verdict_in n buffer used ≡ 0 → verdict_in w buffer used ≡ 0
wider-passes n w wide buffer used widen e = eased-pass (verdict_in n buffer used) (verdict_in w buffer used) e (wider-number n w wide buffer used widen)

-- ints of 32 bits, and the law of these

abbrev pub narrow_bounds : Bounds
narrow_bounds = record { least = 2147483648; greatest = 2147483647 }

pub ints-wider : Wider narrow_bounds int_bounds
ints-wider = record { least = omega arith; greatest = omega arith }

pub narrow-number : (buffer : Bytes) (used : ℕ) → ranges_widen (file_of buffer used).sets ≡ true → Eased (verdict_in narrow_bounds buffer used) (verdict buffer used)
unfolding verdict
narrow-number buffer used widen = wider-number narrow_bounds int_bounds ints-wider buffer used widen

pub narrow-passes : (buffer : Bytes) (used : ℕ) → ranges_widen (file_of buffer used).sets ≡ true → verdict_in narrow_bounds buffer used ≡ 0 → verdict buffer used ≡ 0
unfolding verdict
narrow-passes buffer used widen e = wider-passes narrow_bounds int_bounds ints-wider buffer used widen e

-- Computed: a file, its number under ints of 32 bits, and its number.
pub record Moved : Type 0 where
  pub file : Bytes
  pub narrow : ℕ
  pub wide : ℕ

abbrev moves : Moved → Bool
moves m = eqb (verdict_in narrow_bounds m.file (length m.file)) m.narrow && eqb (verdict m.file (length m.file)) m.wide

-- a set T with a descriptor's line and a field A
abbrev moved : ℕ → ℕ → String → String → Moved
moved k m rule value = record { file = text "%rec: T\n" ++ text rule ++ text "\n\nA: " ++ text value ++ text "\n"; narrow = k; wide = m }

-- each of the two conditions is needed, be the range used directly or by a typedef
conditions-needed : all moves (
    moved 0 12 "%type: A range MAX 2147483647" "2147483647" ∷
    moved 0 12 "%type: A range MAX MAX" "2147483647" ∷
    moved 0 12 "%type: A range -2147483648 MIN" "-2147483648" ∷
    moved 0 12 "%type: A range MIN MIN" "-2147483648" ∷
    moved 0 12 "%typedef: N range MIN MIN\n%type: A N" "-0x80000000" ∷ []) ≡ true
unfolding pieces sets_of file_of verdict_in verdict
conditions-needed = refl

-- the converse fails at each of the three questions, and a file that fails there may fail a later one
converse-fails : all moves (
    moved 6 0 "%size: < 2147483648" "" ∷
    moved 6 14 "%size: 2147483648" "" ∷
    moved 7 0 "%type: A range 2147483648" "1" ∷
    moved 7 0 "%typedef: N size 4294967296" "" ∷
    moved 7 12 "%type: A range 2147483648 MAX" "1" ∷
    moved 12 0 "%type: A int" "123456789012" ∷
    moved 12 0 "%type: A range MIN MAX" "-2147483649" ∷
    moved 12 14 "%type: A range 1 MAX\n%size: 2" "2147483648" ∷ []) ≡ true
unfolding pieces sets_of file_of verdict_in verdict
converse-fails = refl
