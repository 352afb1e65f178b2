-- The table of kinds, filled row by row.
use Rattle.std.specs.Prelude.{Option as Maybe, Some, None}
use Prim.Native.Nat.{ℕ, ◌+◌, ◌≤◌, ◌<◌}
use native.Mathlib.Omega.{arith}
use mathlib.Core.Path.{◌≡◌, refl, sym, ap, ◌∙◌, subst}
use mathlib.Core.Bool.{true}
use mathlib.Core.List.{List, []}
use mathlib.Core.Option.{Option, none, some}
use borrow.Author.Tests.{eqb-true, eqb-false}
use lib.Dec.{eqb}
use lib.ListN.{length, drop, get_or, set}
use lib.Seq.{get_or-set_same, get_or-set_other}
use Rattle.format.specs.Bytes.{Bytes, text, is_some}
use Rattle.format.specs.Types.{Typed}
use Rattle.values.specs.Value.{value_from}
use Rattle.records.specs.Walk.{record_in}
use Rattle.values.proofs.Tests.{by_bool}
use Rattle.typing.specs.Meaning.{typed_in, type_answer}
use Rattle.typing.specs.declared.Shape.{Shape}
use Rattle.records.specs.Named.{ValueHere}
use Rattle.typedefs.specs.Names.{AreNames}
use Rattle.typedefs.specs.Typedefs.{type_text, IsTypedef, AreTypedefs, end_row}
use Rattle.typedefs.specs.declared.Names.{Names}
use Rattle.typedefs.specs.declared.Typedef.{Typedef}
use Rattle.typedefs.specs.declared.Typedefs.{Typedefs}
use Rattle.typedefs.proofs.Following.{kind_only}
use Rattle.dictionary.specs.Known.{Described, type_value}
use Rattle.typedefs.proofs.Placing.{Passed, passed-inside, passed-value}
use Rattle.enums.specs.Enums.{type_at}
use Rattle.columns.specs.Meets.{kind_of}
use Rattle.columns.specs.Rows.{text_of, IsKind, any_row}
use Rattle.columns.specs.declared.Row.{Row}
use Rattle.columns.proofs.Shapes.{kind-is}
use Rattle.columns.proofs.Granted.{fits-at, type-ends}
use Rattle.columns.proofs.Ends.{Ended, type-ended}

-- the `%type` field behind `count` others
module _ (d : Bytes) (h : Described d) (count i v e : ℕ) (b : Passed d (text "%type") count i) (f : ValueHere d (text "%type") i v e) where
  value-is : value_from (drop v d) ≡ type_value (record_in d) count
  value-is = passed-value d (text "%type") count i (record { inside = b.inside; readable = b.readable; values = b.values }) v e f

  ends : is_some (kind_of d (type_value (record_in d) count)) ≡ true
  ends = type-ends d h count (passed-inside d (text "%type") count i b v e f)

  pub type-fits : length (value_from (drop v d)) ≤ 4096
  type-fits = omega (arith, ap length value-is, fits-at d h (text "%type") count)

  -- the typedef in which it ends
  module _ (names : Names) (are : AreNames d names) (defs : Typedefs) (table : AreTypedefs d names.places defs) (own : Typedef) (is : IsTypedef d v own) where
    ended : Ended d v (end_row defs own)
    ended = type-ended d h names are defs table v f.value_there type-fits own is (ap (λ (w : Bytes). is_some (kind_of d w)) value-is ∙ ends)

    module _ (r : Typedef) (q : r ≡ end_row defs own) where
      at-end : Ended d v r
      at-end = subst (Ended d v) (sym q) ended

      end_is : kind_of d (type_value (record_in d) count) ≡ kind_only (type_at d r.value)
      end_is = sym (ap (kind_of d) value-is) ∙ at-end.ends

      pub end-typed : is_some (type_answer [] r.kind) ≡ true
      end-typed = typed-is r.kind (ap is_some at-end.told.answers ∙ kind-typed (type_at d r.value) (sym (ap is_some end_is) ∙ ends))
        where
          kind-typed : (x : Option Typed) → is_some (kind_only x) ≡ true → is_some x ≡ true
          kind-typed none z = z
          kind-typed (some t) z = refl

          typed-is : (t : Maybe Shape) → is_some (type_answer (type_text d r.value) t) ≡ true → is_some (type_answer [] t) ≡ true
          typed-is (Some k) z = refl
          typed-is None z = z

      pub row-kind : (k : Shape) (t : ℕ) → ((s : Bytes) → type_answer s r.kind ≡ some (typed_in s k)) → t ≡ text_of k r.value → IsKind d (kind_of d (type_value (record_in d) count)) k t
      row-kind k t g z =
          subst (IsKind d (kind_of d (type_value (record_in d) count)) k) (sym z)
          (kind-is d r.value (omega (arith, at-end.there, h.short)) (omega (arith, at-end.there)) at-end.fits (kind_of d (type_value (record_in d) count)) end_is ends k
          (sym at-end.told.answers ∙ g (type_text d r.value)))

-- the first n rows of the table
abbrev pub Filled : Bytes → List Row → List ℕ → ℕ → Type 0
Filled d rows texts n = (k : ℕ) → k < n → IsKind d (kind_of d (type_value (record_in d) k)) (get_or rows k any_row).kind (get_or texts k 0)

-- one row more
pub filled_more : (d : Bytes) (rows : List Row) (texts : List ℕ) (n : ℕ) (x : Row) (t : ℕ) → n < length rows → n < length texts → IsKind d (kind_of d (type_value (record_in d) n)) x.kind t
    → Filled d rows texts n → Filled d (set rows n x) (set texts n t) (n + 1)
filled_more d rows texts n x t p q h f k l = by_bool (eqb k n) (λ e. here (eqb-true k n e)) (λ e. there (eqb-false k n e))
  where
    is : Row → ℕ → Type 0
    is y s = IsKind d (kind_of d (type_value (record_in d) k)) y.kind s

    here : k ≡ n → is (get_or (set rows n x) k any_row) (get_or (set texts n t) k 0)
    here e =
        subst (λ (j : ℕ). IsKind d (kind_of d (type_value (record_in d) j)) (get_or (set rows n x) j any_row).kind (get_or (set texts n t) j 0)) (sym e)
        (subst (λ (y : Row). IsKind d (kind_of d (type_value (record_in d) n)) y.kind (get_or (set texts n t) n 0)) (sym (get_or-set_same rows n x any_row p))
        (subst (λ (s : ℕ). IsKind d (kind_of d (type_value (record_in d) n)) x.kind s) (sym (get_or-set_same texts n t 0 q)) h))

    there : (k ≡ n → ⊥) → is (get_or (set rows n x) k any_row) (get_or (set texts n t) k 0)
    there o =
        subst (λ (y : Row). is y (get_or (set texts n t) k 0)) (sym (get_or-set_other rows n k x any_row o))
        (subst (λ (s : ℕ). is (get_or rows k any_row) s) (sym (get_or-set_other texts n k t 0 o)) (f k (omega (arith, o))))
