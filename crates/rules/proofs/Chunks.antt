-- The number of records by some `%type` fields, by those behind them, and by all.
use Prim.Native.Nat.{ℕ, zero, suc, ◌+◌, ◌-◌, ◌≤◌}
use native.Mathlib.Omega.{arith}
use mathlib.Core.Path.{◌≡◌, refl, sym, ap, ◌∙◌}
use mathlib.Core.Bool.{Bool, true, false, ◌&&◌}
use mathlib.Core.List.{List, [], ◌∷◌, map}
use lib.Dec.{eqb}
use lib.ListN.{length, take}
use borrow.Author.Tests.{ne_eqb}
use Rattle.format.specs.Refusals.{no_of}
use Rattle.format.specs.Bytes.{Bytes, text, pick, all}
use Rattle.format.specs.Records.{Field, Record}
use Rattle.format.specs.Numbers.{int_bounds}
use Rattle.format.specs.Rules.{type_rules, is_typed}
use Rattle.format.specs.Questions.{Row, first_no, none_prohibited, all_allowed, all_present, none_repeated, all_typed}
use Rattle.format.proofs.Elements.{all_both, all_alike}
use Rattle.format.proofs.Least.{least, leasts, each_of, first-leasts, first-append}
use Rattle.format.proofs.Judging.{record_rows, record_no}
use Rattle.records.specs.Walk.{record_in}
use Rattle.records.specs.Named.{values_from}
use Rattle.columns.proofs.Named.{between_split, typed-rows}
use Rattle.rules.proofs.Leasts.{least-assoc}
use Rattle.rules.specs.Members.{names_no, is_met, part_no}
use Rattle.rules.specs.Chunks.{Chunked}
use Rattle.rules.specs.declared.Chunk.{Chunk}

least-swap : (a b : ℕ) → least a b ≡ least b a
least-swap zero zero = refl
least-swap zero (suc b) = refl
least-swap (suc a) zero = refl
least-swap (suc a) (suc b) = omega arith

least-same : (a : ℕ) → least a a ≡ a
least-same zero = refl
least-same (suc a) = omega arith

-- two numbers that have one in common
least-both : (n p q : ℕ) → least (least n p) (least n q) ≡ least n (least p q)
least-both n p q =
    least-assoc (least n p) n q
    ∙ ap (λ (x : ℕ). least x q) (sym (least-assoc n p n) ∙ ap (least n) (least-swap p n) ∙ least-assoc n n p ∙ ap (λ (x : ℕ). least x p) (least-same n))
    ∙ sym (least-assoc n p q)

both-types : (a b : Bool) → least (pick a 0 12) (pick b 0 12) ≡ pick (a && b) 0 12
both-types true b = refl
both-types false true = refl
both-types false false = refl

module _ (d : Bytes) (rs : List Record) where
  abbrev names : ℕ
  names = leasts (map (names_no (record_in d)) rs)

  abbrev met : ℕ → ℕ → Bool
  met from m = all (all (is_met d from m)) rs

  field-split : (from m n : ℕ) (f : Field) → is_met d from (m + n) f ≡ (is_met d from m f && is_met d (from + m) n f)
  unfolding is_met
  field-split from m n f = between_split d f.name f.value from m n

  met-split : (from m n : ℕ) → met from (m + n) ≡ (met from m && met (from + m) n)
  met-split from m n =
      let a : Field → Bool = is_met d from m in
      let b : Field → Bool = is_met d (from + m) n in
      all_alike (all (is_met d from (m + n))) (λ (r : Record). all a r && all b r) (λ r. all_alike (is_met d from (m + n)) (λ (f : Field). a f && b f) (field-split from m n) r ∙ all_both a b r) rs
      ∙ all_both (all a) (all b) rs

  part-split : (from m n : ℕ) → part_no d from (m + n) rs ≡ least (part_no d from m rs) (part_no d (from + m) n rs)
  unfolding part_no
  part-split from m n =
      ap (λ (b : Bool). least names (pick b 0 12)) (met-split from m n)
      ∙ ap (least names) (sym (both-types (met from m) (met (from + m) n)))
      ∙ sym (least-both names (pick (met from m) 0 12) (pick (met (from + m) n) 0 12))

  -- worst is the least by the `%type` fields before one; a chunk of those from there on
  module _ (count worst from : ℕ) (h : least worst (part_no d from (count - from) rs) ≡ part_no d 0 count rs) (c : Chunk) (k : Chunked d from count rs c) (best : ℕ) (b : best ≡ least worst (no_of c.answer)) where
    pub chunk-more : least best (part_no d c.next (count - c.next) rs) ≡ part_no d 0 count rs
    chunk-more =
        let m : ℕ = c.next - from in
        let n : ℕ = count - c.next in
        let whole : count - from ≡ m + n = omega (arith, k.begins, k.within) in
        let there : from + m ≡ c.next = omega (arith, k.begins) in
        ap (λ (x : ℕ). least x (part_no d c.next n rs)) (b ∙ ap (least worst) k.number_is)
        ∙ sym (least-assoc worst (part_no d from m rs) (part_no d c.next n rs))
        ∙ ap (λ (j : ℕ). least worst (least (part_no d from m rs) (part_no d j n rs))) (sym there)
        ∙ ap (least worst) (sym (part-split from m n))
        ∙ ap (λ (j : ℕ). least worst (part_no d from j rs)) (sym whole)
        ∙ h

    pub chunk-last : count ≤ c.next → best ≡ part_no d 0 count rs
    chunk-last l =
        let all_of : c.next - from ≡ count - from = omega (arith, k.within) in
        b ∙ ap (least worst) (k.number_is ∙ ap (λ (j : ℕ). part_no d from j rs) all_of) ∙ h

  -- by all `%type` fields: the number of the records
  low : (p a c e : Bool) → pick p (pick a (pick c (pick e 0 11) 10) 9) 8 ≤ 11
  low true true true true = omega arith
  low true true true false = omega arith
  low true true false e = omega arith
  low true false c e = omega arith
  low false a c e = omega arith

  least-low : (n : ℕ) (b : Bool) → suc n ≤ 11 → least (suc n) (pick b 0 12) ≡ suc n
  least-low n true h = refl
  least-low n false h = omega arith

  by-least : (n : ℕ) (b : Bool) → n ≤ 11 → least n (pick b 0 12) ≡ pick (eqb n 0) (pick b 0 12) n
  by-least zero b h = refl
  by-least (suc n) b h = least-low n b h ∙ ap (λ (t : Bool). pick t (pick b 0 12) (suc n)) (sym (ne_eqb (suc n) 0 (λ z. omega arith)))

  abbrev rules : Record
  rules = record_in d

  abbrev rows : List (Row Record)
  rows = record_rows int_bounds rules

  names-first : names ≡ first_no (each_of (take 4 rows)) rs
  unfolding names_no
  names-first = sym (first-leasts (take 4 rows) (omega arith) rs)

  names-low : names ≤ 11
  names-low = omega (arith, names-first, low (all (none_prohibited rules) rs) (all (all_allowed rules) rs) (all (all_present rules) rs) (all (none_repeated rules) rs))

  types-all : met 0 (length (values_from d (text "%type") 0)) ≡ all (all_typed int_bounds rules) rs
  unfolding is_met
  types-all =
      all_alike (all (is_met d 0 (length (values_from d (text "%type") 0)))) (all_typed int_bounds rules)
      (λ r. all_alike (is_met d 0 (length (values_from d (text "%type") 0))) (is_typed int_bounds (type_rules int_bounds rules)) (λ f. sym (typed-rows d f)) r) rs

  pub part-all : (count : ℕ) → count ≡ length (values_from d (text "%type") 0) → part_no d 0 count rs ≡ leasts (map (record_no int_bounds rules) rs)
  unfolding part_no record_no
  part-all count e =
      ap (λ (n : ℕ). least names (pick (met 0 n) 0 12)) e
      ∙ ap (λ (b : Bool). least names (pick b 0 12)) types-all
      ∙ by-least names (all (all_typed int_bounds rules) rs) names-low
      ∙ ap (λ (k : ℕ). pick (eqb k 0) (pick (all (all_typed int_bounds rules) rs) 0 12) k) names-first
      ∙ sym (first-append (each_of (take 4 rows)) (record { number = 12; asks = all (all_typed int_bounds rules) } ∷ []) rs (omega arith))
      ∙ first-leasts rows (omega arith) rs
