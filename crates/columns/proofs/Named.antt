-- The types of a field, row by row: what a dictionary knows of its name is which rows ask, and all rows together are the rules.
use Prim.Native.Nat.{ℕ, zero, suc, ◌+◌, ◌-◌, ◌≤◌}
use native.Mathlib.Omega.{arith}
use mathlib.Core.Path.{◌≡◌, refl, sym, ap, ap₂, ◌∙◌}
use mathlib.Core.Bool.{Bool, true, false, ◌&&◌, ◌||◌, not, and_assoc}
use mathlib.Core.List.{List, [], ◌∷◌}
use mathlib.Core.Option.{Option, none, some, map}
use lib.ListN.{length, drop, drop_of_length-le}
use lib.Seq.{drop-cons}
use Rattle.format.specs.Lists.{keep, kept}
use Rattle.format.specs.Bytes.{Bytes, text, all, among}
use Rattle.format.specs.Numbers.{int_bounds}
use Rattle.format.specs.Records.{Field}
use Rattle.format.specs.Types.{Kind}
use Rattle.format.specs.Rules.{TypeRule, typed_names, type_rule_of, typedefs_of, is_typed, type_rules}
use Rattle.records.specs.Walk.{record_in}
use Rattle.records.specs.Named.{values_from}
use Rattle.dictionary.specs.Known.{Known}
use Rattle.enums.specs.Rows.{Texts}
use Rattle.columns.specs.Meets.{meets_kind, kind_of, row_met, rows_met, is_named, typed_between}
use Rattle.columns.specs.Rows.{IsKinds}
use Rattle.columns.specs.declared.Kinds.{Kinds}

-- the texts of a table are those of `enum` types
pub kinds-texts : (d : Bytes) (r : Kinds) → IsKinds d r → Texts d r.texts r.count
kinds-texts d r h k l low = (h.row k l).texts low

-- by the tags of a name
module _ (d : Bytes) (from next : ℕ) (name : Bytes) (x : ℕ) (h : Known (record_in d) from next name x) (v : Bytes) where
  known_from : (k m : ℕ) → from ≤ k → k + m ≤ next → rows_met d x k m v ≡ typed_between d k m name v
  known_from k zero b l = refl
  known_from k (suc m) b l = ap₂ ◌&&◌ (ap (λ (t : Bool). not t || row_met d k v) (h.typed-is k b (omega arith))) (known_from (suc k) m (omega arith) (omega arith))

  pub rows-known : (to : ℕ) → from ≤ to → to ≤ next → rows_met d x from (to - from) v ≡ typed_between d from (to - from) name v
  rows-known to b l = known_from from (to - from) (omega arith) (omega arith)

module _ (d name v : Bytes) where
  abbrev between : ℕ → ℕ → Bool
  between k m = typed_between d k m name v

  -- some rows and those behind them
  pub between_split : (k m n : ℕ) → between k (m + n) ≡ between k m && between (k + m) n
  between_split k zero n =
      let z : zero + n ≡ n = omega arith in
      let y : k ≡ k + zero = omega arith in
      ap (between k) z ∙ ap (λ (j : ℕ). between j n) y
  between_split k (suc m) n =
      let z : suc m + n ≡ suc (m + n) = omega arith in
      let y : suc k + m ≡ k + suc m = omega arith in
      let here : Bool = not (is_named d k name) || row_met d k v in
      ap (between k) z
      ∙ ap (λ (t : Bool). here && t) (between_split (suc k) m n)
      ∙ sym (and_assoc here (between (suc k) m) (between (suc k + m) n))
      ∙ ap (λ (j : ℕ). (here && between (suc k) m) && between j n) y

-- one `%type` value
abbrev rule_met : Bytes → Bytes → Bytes → Bytes → Bool
rule_met d name v w = not (among name (typed_names w)) || meets_kind (kind_of d w) v

or-true : (b : Bool) → b || true ≡ true
or-true true = refl
or-true false = refl

module _ (d : Bytes) (f : Field) where
  abbrev met : Bytes → Bool
  met w = rule_met d f.name f.value w

  abbrev rules_of : List Bytes → List TypeRule
  rules_of ws = kept (type_rule_of int_bounds (typedefs_of int_bounds (record_in d))) ws

  rules-met : (ws : List Bytes) → is_typed int_bounds (rules_of ws) f ≡ all met ws
  rules-met [] = refl
  rules-met (w ∷ ws) = go (kind_of d w) (rules-met ws)
    where
      go : (x : Option Kind) → is_typed int_bounds (rules_of ws) f ≡ all met ws
          → is_typed int_bounds (keep (map (λ (k : Kind). record { names = typed_names w; kind = k }) x) (rules_of ws)) f ≡ (not (among f.name (typed_names w)) || meets_kind x f.value) && all met ws
      go none ih = ih ∙ sym (ap (λ (b : Bool). b && all met ws) (or-true (not (among f.name (typed_names w)))))
      go (some k) ih = ap (λ (b : Bool). (not (among f.name (typed_names w)) || meets_kind (some k) f.value) && b) ih

  abbrev types : List Bytes
  types = values_from d (text "%type") 0

  between-all : (k m : ℕ) → k + m ≡ length types → all met (drop k types) ≡ typed_between d k m f.name f.value
  between-all k zero e = let l : length types ≤ k = omega arith in ap (all met) (drop_of_length-le types l)
  between-all k (suc m) e =
      ap (all met) (drop-cons types k [] (omega arith)) ∙ ap (λ (b : Bool). (not (is_named d k f.name) || row_met d k f.value) && b) (between-all (suc k) m (omega arith))

  -- question 12 of a field
  pub typed-rows : is_typed int_bounds (type_rules int_bounds (record_in d)) f ≡ typed_between d 0 (length types) f.name f.value
  typed-rows = rules-met types ∙ between-all 0 (length types) (omega arith)
