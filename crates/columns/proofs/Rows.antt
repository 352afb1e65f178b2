-- A value against rows, one after the other.
use Prim.Native.Nat.{ℕ, zero, suc, ◌+◌, ◌-◌, ◌≤◌, ◌<◌}
use native.Mathlib.Numerals.{add-one}
use native.Mathlib.Omega.{arith}
use mathlib.Core.Path.{◌≡◌, refl, sym, ap, ap₂, ◌∙◌}
use mathlib.Core.Bool.{Bool, true, false, ◌&&◌, ◌||◌, not}
use borrow.Author.Tests.{lt-ltb}
use lib.ListN.{length, get_or}
use Rattle.format.specs.Bytes.{Bytes, among}
use Rattle.format.specs.Words.{trim}
use Rattle.terms.specs.Sets.{in_set}
use Rattle.typedefs.proofs.Ending.{any-default}
use Rattle.columns.specs.Readings.{met_by}
use Rattle.enums.specs.Enums.{enum_in}
use Rattle.enums.specs.Rows.{leader_of, Found}
use Rattle.columns.specs.Meets.{row_met, rows_met}
use Rattle.columns.specs.Rows.{IsKinds, is_symbol, any_row, row_asks, rows_ask}
use Rattle.columns.specs.declared.Row.{Row}
use Rattle.columns.specs.declared.Kinds.{Kinds}

-- the rows from k on before the next
module _ (r : Kinds) (from x tags : ℕ) (v : Bytes) (k next : ℕ) where
  pub rows_end : next ≤ k → rows_ask r from x tags v k (next - k) ≡ true
  rows_end h = let z : next - k ≡ 0 = omega arith in ap (rows_ask r from x tags v k) z

  module _ (h : k < next) where
    row_cut : rows_ask r from x tags v k (next - k) ≡ (not (in_set k tags) || row_asks r from x v k) && rows_ask r from x tags v (k + 1) (next - (k + 1))
    row_cut =
        let z : next - k ≡ suc (next - (k + 1)) = omega arith in
        ap (rows_ask r from x tags v k) z ∙ ap (λ (j : ℕ). (not (in_set k tags) || row_asks r from x v k) && rows_ask r from x tags v j (next - (k + 1))) (sym (add-one k))

    pub row-passed : in_set k tags ≡ false → rows_ask r from x tags v k (next - k) ≡ rows_ask r from x tags v (k + 1) (next - (k + 1))
    row-passed e = row_cut ∙ ap (λ (t : Bool). (not t || row_asks r from x v k) && rows_ask r from x tags v (k + 1) (next - (k + 1))) e

    -- b is what the row says
    module _ (e : in_set k tags ≡ true) (b : Bool) (q : b ≡ row_asks r from x v k) where
      asked : rows_ask r from x tags v k (next - k) ≡ b && rows_ask r from x tags v (k + 1) (next - (k + 1))
      asked =
          row_cut ∙ ap (λ (t : Bool). (not t || row_asks r from x v k) && rows_ask r from x tags v (k + 1) (next - (k + 1))) e
          ∙ ap (λ (t : Bool). t && rows_ask r from x tags v (k + 1) (next - (k + 1))) (sym q)

      pub row-met : b ≡ true → rows_ask r from x tags v k (next - k) ≡ rows_ask r from x tags v (k + 1) (next - (k + 1))
      row-met t = asked ∙ ap (λ (y : Bool). y && rows_ask r from x tags v (k + 1) (next - (k + 1))) t

      pub row-fails : b ≡ false → rows_ask r from x tags v k (next - k) ≡ false
      row-fails t = asked ∙ ap (λ (y : Bool). y && rows_ask r from x tags v (k + 1) (next - (k + 1))) t

-- the row that was read at k, whatever would stand behind the last
pub row-said : (r : Kinds) (from x : ℕ) (v : Bytes) (k : ℕ) (other : Row) (b symbol : Bool) → k < length r.rows → b ≡ met_by (get_or r.rows k other).kind symbol v → symbol ≡ is_symbol r.texts from x k → b ≡ row_asks r from x v k
row-said r from x v k other b symbol h q e =
    q ∙ ap (λ (y : Row). met_by y.kind symbol v) (any-default r.rows k other any_row h) ∙ ap (λ (t : Bool). met_by (get_or r.rows k any_row).kind t v) e

-- what the rows ask is what the kinds ask, if x tells of which texts the value is a symbol
module _ (d : Bytes) (r : Kinds) (h : IsKinds d r) (from next x tags : ℕ) (v : Bytes) (few : next ≤ r.count) (f : Found d r.texts from next (trim v) x) where
  symbol-is : (k : ℕ) → from ≤ k → k < next → get_or r.texts k 0 < 65536 → is_symbol r.texts from x k ≡ among (trim v) (enum_in d (get_or r.texts k 0))
  unfolding is_symbol
  symbol-is k b l low = ap (λ (t : Bool). t && in_set (leader_of r.texts from k) x) (lt-ltb (get_or r.texts k 0) 65536 low) ∙ f.tells k b l low

  row_is : (k : ℕ) → from ≤ k → k < next → row_asks r from x v k ≡ row_met d k v
  row_is k b l = (h.row k (omega arith)).asks v (is_symbol r.texts from x k) (symbol-is k b l)

  rows_are : (k m : ℕ) → from ≤ k → k + m ≤ next → rows_ask r from x tags v k m ≡ rows_met d tags k m v
  rows_are k zero b l = refl
  rows_are k (suc m) b l = ap₂ ◌&&◌ (ap (λ (t : Bool). not (in_set k tags) || t) (row_is k b (omega arith))) (rows_are (suc k) m (omega arith) (omega arith))

  pub all_asked : from ≤ next → rows_ask r from x tags v from (next - from) ≡ rows_met d tags from (next - from) v
  all_asked b = rows_are from (next - from) (omega arith) (omega arith)
