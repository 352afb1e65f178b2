-- The number of a name by its floor and its limit, and the fields that are added by those numbers.
use Prim.Native.Nat.{ℕ, suc, ◌≤◌, min, max}
use native.Mathlib.Omega.{arith}
use mathlib.Core.Path.{◌≡◌, refl, sym, ap, ap₂, ◌∙◌}
use mathlib.Core.Bool.{Bool, true, false, ◌&&◌}
use mathlib.Core.List.{List, [], ◌∷◌, ◌++◌, map}
use mathlib.Core.Option
use mathlib.Core.Option.{Option, none, some}
use borrow.Author.Tests.{ltb-true, ltb-false, leb-true, leb-false, lt-ltb, le-ltb, eqb-true, eqb-false}
use lib.Dec.{leb, ltb, eqb}
use Rattle.format.specs.Bytes.{Bytes, text, pick, all, same, among}
use Rattle.format.specs.Lists.{only_if, onward, filter, flat, keep, kept}
use Rattle.format.specs.Numbers.{Int, plus, minus, int_bounds, int_of, is_at_most}
use Rattle.format.specs.Pieces.{read_of}
use Rattle.format.specs.Records.{Record}
use Rattle.format.specs.Questions.{values_in}
use Rattle.format.specs.Sets.{values_of}
use Rattle.format.specs.Types.{Kind}
use Rattle.format.specs.Rules.{TypeRule, typed_names, type_rule_of, typedefs_of, Span, span_of, kinds_of}
use Rattle.format.specs.Words.{trim}
use Rattle.format.specs.Numbering.{above, from, largest, ints_of, next_number}
use Rattle.format.proofs.Records.{records}
use Rattle.format.proofs.Walking.{ruled}
use Rattle.records.specs.Walk.{record_in}
use Rattle.records.specs.Named.{values_from}
use Rattle.records.proofs.Cuts.{fields-records}
use Rattle.columns.specs.Meets.{kind_of}
use Rattle.numbering.specs.Types.{type_span}
use Rattle.numbering.specs.Bounds.{numbers, floor_in, limit_in, above_in, type_floor, type_limit, field_floor, lowest, floor_of, limit_of}

pub max-zero : (x : ℕ) → max 0 x ≡ x
max-zero x = omega arith

pub lowest-most : (d n : Bytes) (vs : List Bytes) → lowest (type_limit d n) vs ≤ numbers
lowest-most d n [] = omega arith
lowest-most d n (v ∷ vs) = omega (arith, lowest-most d n vs)

pub lowest-least : (d n : Bytes) (vs : List Bytes) → min numbers (lowest (type_limit d n) vs) ≡ lowest (type_limit d n) vs
lowest-least d n vs = omega (arith, lowest-most d n vs)

-- the floor by the fields: the largest number above an int there

ints-floor : (n : Bytes) (r : Record) → largest above (kept (λ (v : Bytes). int_of int_bounds (trim v)) (values_of n r)) ≡ largest (field_floor n) r
ints-floor n [] = refl
ints-floor n (f ∷ r) = go (same n f.name) (ints-floor n r)
  where
    keep-above : (x : Option Int) (is : List Int) → largest above (keep x is) ≡ max (above_in x) (largest above is)
    keep-above none is = sym (max-zero (largest above is))
    keep-above (some x) is = refl

    go : (t : Bool) → largest above (kept (λ (v : Bytes). int_of int_bounds (trim v)) (values_of n r)) ≡ largest (field_floor n) r
        → largest above (kept (λ (v : Bytes). int_of int_bounds (trim v)) (pick t (f.value ∷ values_of n r) (values_of n r))) ≡ max (pick t (above_in (int_of int_bounds (trim f.value))) 0) (largest (field_floor n) r)
    go true e = keep-above (int_of int_bounds (trim f.value)) (kept (λ (v : Bytes). int_of int_bounds (trim v)) (values_of n r)) ∙ ap (max (above_in (int_of int_bounds (trim f.value)))) e
    go false e = e ∙ sym (max-zero (largest (field_floor n) r))

-- the values of a name in a part's records are those in the part

values-append : (w : Bytes) (a b : Record) → values_of w (a ++ b) ≡ values_of w a ++ values_of w b
values-append w [] b = refl
values-append w (f ∷ a) b = go (same w f.name) (values-append w a b)
  where
    go : (t : Bool) → values_of w (a ++ b) ≡ values_of w a ++ values_of w b → pick t (f.value ∷ values_of w (a ++ b)) (values_of w (a ++ b)) ≡ pick t (f.value ∷ values_of w a) (values_of w a) ++ values_of w b
    go true e = ap (λ (vs : List Bytes). f.value ∷ vs) e
    go false e = e

values-flat : (w : Bytes) (ms : List Record) → values_of w (flat ms) ≡ values_in w ms
values-flat w [] = refl
values-flat w (m ∷ ms) = values-append w m (flat ms) ∙ ap (λ (vs : List Bytes). values_of w m ++ vs) (values-flat w ms)

values-part : (w s : Bytes) → values_in w (records (read_of s)) ≡ values_of w (record_in s)
values-part w s = sym (ap (values_of w) (fields-records (read_of s)) ∙ values-flat w (records (read_of s)))

-- the spans of a name, type by type
module _ (d n : Bytes) where
  abbrev spans : List Bytes → List Span
  spans vs = kept (span_of int_bounds) (kinds_of n (kept (type_rule_of int_bounds (typedefs_of int_bounds (record_in d))) vs))

  -- of one type more
  spans-more : (v : Bytes) (vs : List Bytes) → spans (v ∷ vs) ≡ pick (among n (typed_names v)) (keep (type_span d v) (spans vs)) (spans vs)
  spans-more v vs = go (kind_of d v)
    where
      rules : List TypeRule
      rules = kept (type_rule_of int_bounds (typedefs_of int_bounds (record_in d))) vs

      named : (t : Bool) (k : Kind) → kept (span_of int_bounds) (map (λ (r : TypeRule). r.kind) (pick t (record { names = typed_names v; kind = k } ∷ filter (λ (r : TypeRule). among n r.names) rules) (filter (λ (r : TypeRule). among n r.names) rules)))
          ≡ pick t (keep (span_of int_bounds k) (kept (span_of int_bounds) (kinds_of n rules))) (kept (span_of int_bounds) (kinds_of n rules))
      named true k = refl
      named false k = refl

      idle : (t : Bool) (ss : List Span) → ss ≡ pick t ss ss
      idle true ss = refl
      idle false ss = refl

      go : (x : Option Kind) → kept (span_of int_bounds) (kinds_of n (keep (Option.map (λ (k : Kind). record { names = typed_names v; kind = k }) x) rules)) ≡ pick (among n (typed_names v)) (keep (onward (span_of int_bounds) x) (spans vs)) (spans vs)
      go none = idle (among n (typed_names v)) (spans vs)
      go (some k) = named (among n (typed_names v)) k

  low-floor : (vs : List Bytes) → largest (λ (s : Span). from s.low) (spans vs) ≡ largest (type_floor d n) vs
  low-floor [] = refl
  low-floor (v ∷ vs) = ap (largest (λ (s : Span). from s.low)) (spans-more v vs) ∙ go (among n (typed_names v)) (type_span d v) ∙ ap (max (type_floor d n v)) (low-floor vs)
    where
      go : (t : Bool) (x : Option Span) → largest (λ (s : Span). from s.low) (pick t (keep x (spans vs)) (spans vs)) ≡ max (pick t (floor_in x) 0) (largest (λ (s : Span). from s.low) (spans vs))
      go true none = sym (max-zero (largest (λ (s : Span). from s.low) (spans vs)))
      go true (some s) = refl
      go false x = sym (max-zero (largest (λ (s : Span). from s.low) (spans vs)))

  -- a number is within all upper ends where it is below all limits
  module _ (m : ℕ) where
    below-above : (x : Int) → is_at_most (plus m) x ≡ ltb m (above x)
    below-above (plus k) = go (leb m k) refl
      where
        go : (t : Bool) → leb m k ≡ t → t ≡ ltb m (suc k)
        go true e = sym (lt-ltb m (suc k) (let h = leb-true m k e in omega (arith, h)))
        go false e = sym (le-ltb m (suc k) (let h = leb-false m k e in omega (arith, h)))
    below-above (minus k) = go (eqb k 0) (eqb m 0) refl
      where
        go : (t z : Bool) → eqb m 0 ≡ z → (z && t) ≡ ltb m (pick t 1 0)
        go true true e = sym (lt-ltb m 1 (let h = eqb-true m 0 e in omega (arith, h)))
        go true false e = sym (le-ltb m 1 (let h = eqb-false m 0 e in one h))
          where
            one : (m ≡ 0 → ⊥) → 1 ≤ m
            one h = omega (arith, h)
        go false true e = sym (le-ltb m 0 (omega arith))
        go false false e = sym (le-ltb m 0 (omega arith))

    below-min : (a b : ℕ) → ltb m (min a b) ≡ (ltb m a && ltb m b)
    below-min a b = go (ltb m a) refl (ltb m b) refl
      where
        go : (x : Bool) → ltb m a ≡ x → (y : Bool) → ltb m b ≡ y → ltb m (min a b) ≡ (x && y)
        go true e true f = lt-ltb m (min a b) (let h = ltb-true m a e in let k = ltb-true m b f in omega (arith, h, k))
        go true e false f = le-ltb m (min a b) (let k = ltb-false m b f in omega (arith, k))
        go false e y f = le-ltb m (min a b) (let h = ltb-false m a e in omega (arith, h))

    abbrev ends : List Span → Bool
    ends ss = all (λ (s : Span). is_at_most (plus m) s.high) ss

    high-limit : (vs : List Bytes) → (leb m int_bounds.greatest && ends (spans vs)) ≡ ltb m (lowest (type_limit d n) vs)
    high-limit [] = last (leb m int_bounds.greatest) ∙ below-above (plus int_bounds.greatest)
      where
        last : (a : Bool) → (a && true) ≡ a
        last true = refl
        last false = refl
    high-limit (v ∷ vs) =
        ap (λ (ss : List Span). leb m int_bounds.greatest && ends ss) (spans-more v vs) ∙ go (among n (typed_names v)) (type_span d v)
        ∙ ap (λ (t : Bool). ltb m (type_limit d n v) && t) (high-limit vs) ∙ sym (below-min (type_limit d n v) (lowest (type_limit d n) vs))
      where
        twice : (a b : Bool) → (a && b) ≡ (a && (a && b))
        twice true b = refl
        twice false b = refl

        turn : (a b c : Bool) → (a && (c && b)) ≡ (c && (a && b))
        turn true b true = refl
        turn true b false = refl
        turn false b true = refl
        turn false b false = refl

        whole : (leb m int_bounds.greatest && ends (spans vs)) ≡ (ltb m numbers && (leb m int_bounds.greatest && ends (spans vs)))
        whole = twice (leb m int_bounds.greatest) (ends (spans vs)) ∙ ap (λ (t : Bool). t && (leb m int_bounds.greatest && ends (spans vs))) (below-above (plus int_bounds.greatest))

        go : (t : Bool) (x : Option Span) → (leb m int_bounds.greatest && ends (pick t (keep x (spans vs)) (spans vs))) ≡ (ltb m (pick t (limit_in x) numbers) && (leb m int_bounds.greatest && ends (spans vs)))
        go true none = whole
        go true (some s) = turn (leb m int_bounds.greatest) (ends (spans vs)) (is_at_most (plus m) s.high) ∙ ap (λ (t : Bool). t && (leb m int_bounds.greatest && ends (spans vs))) (below-above s.high)
        go false x = whole

-- the number of a name in a set
pub number_is : (d part n : Bytes) → next_number int_bounds (ruled (record_in d) (records (read_of part))) n ≡ only_if (ltb (floor_of d (record_in part) n) (limit_of d n)) (floor_of d (record_in part) n)
number_is d part n =
    let vs : List Bytes = values_from d (text "%type") 0 in
    let is : List Int = ints_of int_bounds n (records (read_of part)) in
    let a : largest above is ≡ largest (field_floor n) (record_in part) = ap (λ (ws : List Bytes). largest above (kept (λ (v : Bytes). int_of int_bounds (trim v)) ws)) (values-part n part) ∙ ints-floor n (record_in part) in
    let b : max 0 (largest (λ (s : Span). from s.low) (spans d n vs)) ≡ largest (type_floor d n) vs = max-zero (largest (λ (s : Span). from s.low) (spans d n vs)) ∙ low-floor d n vs in
    let f : max (largest above is) (max 0 (largest (λ (s : Span). from s.low) (spans d n vs))) ≡ floor_of d (record_in part) n = ap₂ max a b in
    ap (λ (m : ℕ). only_if (leb m int_bounds.greatest && ends d n m (spans d n vs)) m) f ∙ ap (λ (t : Bool). only_if t (floor_of d (record_in part) n)) (high-limit d n (floor_of d (record_in part) n) vs)
