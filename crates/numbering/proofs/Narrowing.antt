-- The walks that bound numbers: over the types of a descriptor, and over the fields of a part.
use Prim.Native.Nat.{ℕ, ◌≤◌, min, max}
use native.Mathlib.Omega.{arith}
use mathlib.Core.Path.{◌≡◌, refl, sym, ap, ◌∙◌, subst}
use mathlib.Core.Bool.{Bool, true, false, and-eq-true_iff}
use mathlib.Core.List.{List, [], ◌∷◌}
use mathlib.Core.Option.{Option}
use borrow.Author.Tests.{leb-true}
use denote.Enum.Declared.{tag_of}
use types.Run.{OneOf, miss}
use lib.ListN.{length, drop}
use Rattle.format.specs.Bytes.{Bytes, text, pick, all, same, among}
use Rattle.format.specs.Numbers.{int_bounds, int_of}
use Rattle.format.specs.Records.{Field, Record}
use Rattle.format.specs.Rules.{typed_names, Span}
use Rattle.format.specs.Words.{trim}
use Rattle.format.specs.Numbering.{largest}
use Rattle.values.specs.Value.{value_from}
use Rattle.words.specs.Spans.{span}
use Rattle.words.specs.RuleNames.{place_in}
use Rattle.records.specs.Walk.{record_in}
use Rattle.records.specs.Fields.{fields_from, field_between, FieldHere}
use Rattle.records.specs.Named.{values_from, ValueHere}
use Rattle.typing.specs.declared.Shape.{Shape}
use Rattle.typing.specs.contracts.Shape.{the_type}
use Rattle.numbering.specs.Types.{span_in, type_span, fits_in}
use Rattle.numbering.specs.Bounds.{numbers, floor_in, limit_in, above_in, type_floor, type_limit, field_floor, lowest, joined_at, Joins, AreLimits}
use Rattle.numbering.proofs.Bounding.{Left, left-start, left-ok, left_step, left_end, joins_at, AnyFloor, IsLimit, max-unit, min-unit, max-keeps, min-keeps, max-more, min-more}

-- a kind other than a range bounds nothing
abbrev others : List ℕ
others = 0 ∷ 2 ∷ 3 ∷ 4 ∷ 5 ∷ 6 ∷ 7 ∷ 8 ∷ 9 ∷ []

pub unbounded : (k : Shape) → OneOf (0 ∷ 2 ∷ 3 ∷ 4 ∷ 5 ∷ 6 ∷ 7 ∷ 8 ∷ 9 ∷ []) (tag_of the_type k) → (floor_in (span_in k) ≡ 0) × (limit_in (span_in k) ≡ numbers)
unbounded Shape.Int h = (refl, refl)
unbounded (Shape.Range a b) h = absurd (miss others 1 tt h)
unbounded Shape.Real h = (refl, refl)
unbounded Shape.Line h = (refl, refl)
unbounded (Shape.Size n) h = (refl, refl)
unbounded (Shape.Enum a e) h = (refl, refl)
unbounded Shape.Bool h = (refl, refl)
unbounded Shape.Field h = (refl, refl)
unbounded Shape.Uuid h = (refl, refl)
unbounded (Shape.Alias a e) h = (refl, refl)

pub max-idle : (b : Bool) (x y : ℕ) → x ≡ 0 → y ≡ max y (pick b x 0)
max-idle true x y h = omega arith
max-idle false x y h = omega arith

pub min-idle : (b : Bool) (x y : ℕ) → x ≡ numbers → y ≤ numbers → y ≡ min y (pick b x numbers)
min-idle true x y h l = omega arith
min-idle false x y h l = omega arith

-- the types from byte i on
module _ (d : Bytes) (ws : List Bytes) (floors limits : List ℕ) where
  abbrev low : ℕ → Bytes → ℕ
  low i n = largest (type_floor d n) (values_from d (text "%type") i)

  abbrev high : ℕ → Bytes → ℕ
  high i n = lowest (type_limit d n) (values_from d (text "%type") i)

  pub record TypesLeft (i : ℕ) (fs ls : List ℕ) : Type 0 where
    pub raised : Left max 0 AnyFloor max-unit max-keeps ws floors (low 0) fs (low i)
    pub lowered : Left min numbers IsLimit min-unit min-keeps ws limits (high 0) ls (high i)

  pub types-start : AreLimits ws limits → TypesLeft 0 floors limits
  types-start h =
      record {
        raised = left-start max 0 AnyFloor max-unit max-keeps ws floors (low 0) (λ n q. tt);
        lowered = left-start min numbers IsLimit min-unit min-keeps ws limits (high 0) h;
      }

  module _ (i : ℕ) (fs ls : List ℕ) (p : TypesLeft i fs ls) where
    pub types-limits : AreLimits ws ls
    types-limits = left-ok min numbers IsLimit min-unit min-keeps ws limits (high 0) ls (high i) p.lowered

    pub types-end : values_from d (text "%type") i ≡ [] → Joins max ws (low 0) floors fs × Joins min ws (high 0) limits ls
    types-end e = (
      left_end max 0 AnyFloor max-unit max-keeps ws floors (low 0) fs (low i) p.raised (λ n. ap (largest (type_floor d n)) e),
      left_end min numbers IsLimit min-unit min-keeps ws limits (high 0) ls (high i) p.lowered (λ n. ap (lowest (type_limit d n)) e),
    )

    module _ (v e : ℕ) (f : ValueHere d (text "%type") i v e) (k : Shape) (q : span_in k ≡ type_span d (value_from (drop v d))) (gs hs : List ℕ) where
      abbrev value : Bytes
      value = value_from (drop v d)

      cut : values_from d (text "%type") i ≡ value ∷ values_from d (text "%type") e
      cut = f.values ∙ ap (λ (x : Bytes). x ∷ values_from d (text "%type") e) (sym f.ends-itself)

      pub types-on : Joins max ws (λ (n : Bytes). pick (among n (typed_names value)) (floor_in (span_in k)) 0) fs gs → Joins min ws (λ (n : Bytes). pick (among n (typed_names value)) (limit_in (span_in k)) numbers) ls hs
          → TypesLeft e gs hs
      types-on a b =
          record {
            raised =
                left_step max 0 AnyFloor max-unit max-keeps ws floors (low 0) fs (low i) p.raised (λ (n : Bytes). pick (among n (typed_names value)) (floor_in (span_in k)) 0) gs (low e) a
                (λ n y h.
                ap (λ (vs : List Bytes). max y (largest (type_floor d n) vs)) cut ∙ max-more (type_floor d n value) (low e n) y
                ∙ ap (λ (x : Option Span). max (max y (pick (among n (typed_names value)) (floor_in x) 0)) (low e n)) (sym q));
            lowered =
                left_step min numbers IsLimit min-unit min-keeps ws limits (high 0) ls (high i) p.lowered (λ (n : Bytes). pick (among n (typed_names value)) (limit_in (span_in k)) numbers) hs (high e) b
                (λ n y h.
                ap (λ (vs : List Bytes). min y (lowest (type_limit d n) vs)) cut ∙ min-more (type_limit d n value) (high e n) y
                ∙ ap (λ (x : Option Span). min (min y (pick (among n (typed_names value)) (limit_in x) numbers)) (high e n)) (sym q));
          }

-- the fields from byte i on
module _ (s : Bytes) (ws : List Bytes) (floors : List ℕ) where
  abbrev least : ℕ → Bytes → ℕ
  least i n = largest (field_floor n) (fields_from s i)

  pub record FieldsLeft (i : ℕ) (fs : List ℕ) : Type 0 where
    pub raised : Left max 0 AnyFloor max-unit max-keeps ws floors (least 0) fs (least i)

  pub fields-start : FieldsLeft 0 floors
  fields-start = record { raised = left-start max 0 AnyFloor max-unit max-keeps ws floors (least 0) (λ n q. tt) }

  module _ (i : ℕ) (fs : List ℕ) (p : FieldsLeft i fs) where
    pub fields-end : fields_from s i ≡ [] → Joins max ws (λ (n : Bytes). largest (field_floor n) (record_in s)) floors fs
    fields-end e = left_end max 0 AnyFloor max-unit max-keeps ws floors (least 0) fs (least i) p.raised (λ n. ap (largest (field_floor n)) e)

    pub fields-on : (a m v e : ℕ) → FieldHere s i a m v e → (count k : ℕ) → length ws ≤ length fs → count ≡ length ws → k ≡ place_in (span a m s) ws
        → (gs : List ℕ) → gs ≡ joined_at max count k (above_in (int_of int_bounds (trim (value_from (drop v s))))) fs → FieldsLeft e gs
    fields-on a m v e f count k room c q gs u =
        let x : ℕ = above_in (int_of int_bounds (trim (value_from (drop v s)))) in
        let here : Field = field_between s a m v e in
        record {
          raised =
              left_step max 0 AnyFloor max-unit max-keeps ws floors (least 0) fs (least i) p.raised (λ (n : Bytes). pick (same n (span a m s)) x 0) gs (least e)
              (subst (Joins max ws (λ (n : Bytes). pick (same n (span a m s)) x 0) fs) (sym u) (joins_at max 0 AnyFloor max-unit max-keeps ws fs (span a m s) count k x room (λ n h. tt) c q))
              (λ n y h.
              ap (λ (r : Record). max y (largest (field_floor n) r)) f.fields ∙ max-more (field_floor n here) (least e n) y
              ∙ ap (λ (z : Bytes). max (max y (pick (same n (span a m s)) (above_in (int_of int_bounds (trim z))) 0)) (least e n)) (sym f.ends-itself));
        }

-- the next field's value fits, and so do those behind it
pub fits-here : (m : ℕ) (f : Field) (fs r : Record) → r ≡ f ∷ fs → all (fits_in m) r ≡ true → (length f.value ≤ m) × (all (fits_in m) fs ≡ true)
fits-here m f fs r e h =
    let k = (and-eq-true_iff (fits_in m f) (all (fits_in m) fs)).0 (sym (ap (all (fits_in m)) e) ∙ h) in
    (leb-true (length f.value) m k.0, k.1)
