-- Where the type of a value ends: in its own text, or in that of the typedef to which its names lead.
use Prim.Native.Nat.{ℕ, zero, suc, ◌≤◌, ◌<◌}
use native.Mathlib.Omega.{arith}
use mathlib.Core.Path.{◌≡◌, refl, sym, ap, ◌∙◌, subst}
use mathlib.Core.Bool.{true, false, false≢true}
use mathlib.Core.List.{List, [], ◌∷◌, map}
use mathlib.Core.Option.{Option, none}
use lib.ListN.{length, drop, get_or}
use Rattle.format.specs.Bytes.{Bytes, text, all, is_some}
use Rattle.format.specs.Limits.{value_bytes}
use Rattle.format.specs.Words.{first_word, after_word}
use Rattle.format.specs.Numbers.{int_bounds}
use Rattle.format.specs.Types.{Kind, Typed, Typedef as Defined, type_of}
use Rattle.values.specs.Value.{value_from}
use Rattle.records.specs.Named.{values_from}
use Rattle.typing.specs.Meaning.{Told}
use Rattle.typedefs.specs.Names.{AreNames}
use Rattle.typedefs.specs.Targets.{target_in, targets_in, follow_of}
use Rattle.typedefs.specs.Typedefs.{type_text, IsTypedef, AreTypedefs, row_of, row_by, end_row}
use Rattle.typedefs.specs.declared.Followed.{Followed}
use Rattle.typedefs.specs.declared.Names.{Names}
use Rattle.typedefs.specs.declared.Target.{Target}
use Rattle.typedefs.specs.declared.Typedef.{Typedef}
use Rattle.typedefs.specs.declared.Typedefs.{Typedefs}
use Rattle.typedefs.proofs.Chains.{targets-length}
use Rattle.typedefs.proofs.Following.{type_at as type_of_number, kind_only, kind_by, kind_to}
use Rattle.typedefs.proofs.Defined.{is_typed, defs_of, cut-typed, typed-all, kind-by}
use Rattle.dictionary.specs.Known.{Described}
use Rattle.enums.specs.Enums.{type_at}
use Rattle.columns.specs.Meets.{kind_of}
use Rattle.columns.proofs.Granted.{fits-at, typedefs-end}

-- a typedef that has a kind, by its number
number-type : (vs : List Bytes) → all is_typed vs ≡ true → (j : ℕ) → is_some (kind_only (type_of_number (defs_of vs) j)) ≡ true
    → (j < length vs) × (type_of_number (defs_of vs) j ≡ type_of int_bounds (after_word (get_or vs j [])))
number-type [] h j k = absurd (false≢true k)
number-type (v ∷ vs) h zero k = let c = cut-typed v vs h in (omega arith, ap (λ (ds : List Defined). type_of_number ds 0) c.defs ∙ sym c.is)
number-type (v ∷ vs) h (suc j) k =
    let c = cut-typed v vs h in
    let e : type_of_number (defs_of (v ∷ vs)) (suc j) ≡ type_of_number (defs_of vs) j = ap (λ (ds : List Defined). type_of_number ds (suc j)) c.defs in
    let r = number-type vs c.others j (sym (ap (λ (x : Option Typed). is_some (kind_only x)) e) ∙ k) in
    (omega (arith, r.0), e ∙ r.1)

-- the type of the value at v ends in the kind that r holds
pub record Ended (d : Bytes) (v : ℕ) (r : Typedef) : Type 0 where
  pub there : r.value < length d
  pub fits : length (value_from (drop r.value d)) ≤ value_bytes
  pub told : Told (type_text d r.value) (type_of int_bounds (type_text d r.value)) r.kind
  pub ends : kind_of d (value_from (drop v d)) ≡ kind_only (type_at d r.value)

module _ (d : Bytes) (h : Described d) (names : Names) (are : AreNames d names) (defs : Typedefs) (table : AreTypedefs d names.places defs) (v : ℕ) (there : v < length d)
    (fits : length (value_from (drop v d)) ≤ value_bytes) (own : Typedef) (is : IsTypedef d v own) (some-kind : is_some (kind_of d (value_from (drop v d))) ≡ true) where
  abbrev vs : List Bytes
  vs = values_from d (text "%typedef") 0

  abbrev ts : List Target
  ts = map (target_in (map first_word vs)) vs

  abbrev value : Bytes
  value = value_from (drop v d)

  typed : all is_typed vs ≡ true
  typed = typed-all (defs_of vs) vs (typedefs-end d h)

  -- by the place that a typedef was read at
  ended_at : (p : ℕ) (r : Typedef) → IsTypedef d p r → p < length d → length (value_from (drop p d)) ≤ value_bytes → kind_of d value ≡ kind_only (type_at d p) → Ended d v r
  ended_at p r q l f e =
      record {
        there = omega (arith, q.place);
        fits = subst (λ (x : ℕ). length (value_from (drop x d)) ≤ value_bytes) (sym q.place) f;
        told = subst (λ (x : ℕ). Told (type_text d x) (type_of int_bounds (type_text d x)) r.kind) (sym q.place) q.told;
        ends = subst (λ (x : ℕ). kind_of d value ≡ kind_only (type_at d x)) (sym q.place) e;
      }

  no_kind : kind_of d value ≡ none → ⊥
  no_kind e = false≢true (sym (ap is_some e) ∙ some-kind)

  count-is : defs.targets.count ≡ length ts
  count-is = sym (targets-length defs.targets table.bounded) ∙ ap length table.targets-are

  kind-is : (t : Target) → own.target ≡ t → kind_of d value ≡ kind_to (defs_of vs) ts (length ts) (type_of int_bounds (after_word value)) t
  kind-is t e = kind-by vs typed (type_of int_bounds (after_word value)) ∙ ap (kind_to (defs_of vs) ts (length ts) (type_of int_bounds (after_word value))) (sym is.target_is ∙ e)

  -- the chain of an alias
  chain-ended : (f : Followed) → kind_of d value ≡ kind_by (defs_of vs) f → Ended d v (row_of defs.rows own f)
  chain-ended (Followed.End k) e =
      let r = number-type vs typed k (sym (ap is_some e) ∙ some-kind) in
      let l : k < names.count = omega (arith, r.0, are.values.count) in
      let p = are.values.places k l in
      ended_at (get_or names.places k 0) (get_or defs.rows k own) (table.row k own (omega (arith, r.0, count-is, length-ts vs))) p.0
      (omega (arith, ap length p.1, fits-at d h (text "%typedef") k))
      (e ∙ ap kind_only r.1 ∙ ap (λ (x : Bytes). kind_only (type_of int_bounds (after_word x))) (sym p.1))
    where
      length-ts : (ws : List Bytes) → length (map (target_in (map first_word vs)) ws) ≡ length ws
      length-ts [] = refl
      length-ts (w ∷ ws) = ap suc (length-ts ws)
  chain-ended Followed.Missing e = absurd (no_kind e)
  chain-ended Followed.Loop e = absurd (no_kind e)

  ended_by : (t : Target) → own.target ≡ t → Ended d v (row_by defs own t)
  ended_by Target.Kind e = ended_at v own is there fits (kind-is Target.Kind e)
  ended_by (Target.Alias j) e =
      chain-ended (follow_of defs.targets.count (targets_in defs.targets) j)
      (kind-is (Target.Alias j) e ∙ ap (λ (m : ℕ). kind_by (defs_of vs) (follow_of m ts j)) (sym count-is)
      ∙ ap (λ (us : List Target). kind_by (defs_of vs) (follow_of defs.targets.count us j)) (sym table.targets-are))
  ended_by Target.Missing e = absurd (no_kind (kind-is Target.Missing e))

  pub type-ended : Ended d v (end_row defs own)
  type-ended = ended_by own.target refl
