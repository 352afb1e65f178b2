-- The number of a set from the least of its records and from its own questions.
use Prim.Native.Nat.{ℕ}
use mathlib.Core.Path.{◌≡◌, sym, ap, ◌∙◌}
use mathlib.Core.Bool.{Bool, true, false}
use mathlib.Core.List.{List, map}
use lib.Dec.{eqb}
use lib.ListN.{length}
use borrow.Author.Tests.{eq-eqb, ne_eqb}
use Rattle.format.specs.Bytes.{Bytes, text, pick, all}
use Rattle.format.specs.Words.{words}
use Rattle.format.specs.Records.{Record}
use Rattle.format.specs.Numbers.{int_bounds}
use Rattle.format.specs.Sets.{RecSet, values_of}
use Rattle.format.specs.Rules.{distinct, size_rule, meets_size}
use Rattle.format.specs.Questions.{first_no, keys_of, size_met, singular_met}
use Rattle.format.proofs.Least.{leasts}
use Rattle.format.proofs.Judging.{record_no, whole_rows, set_no}
use Rattle.format.proofs.Walking.{ruled}

-- n is the least number of the records
module _ (rules : Record) (ms : List Record) (n : ℕ) (e : n ≡ leasts (map (record_no int_bounds rules) ms)) where
  abbrev whole_no : ℕ
  whole_no = first_no (whole_rows int_bounds) (ruled rules ms)

  set-by : set_no int_bounds (ruled rules ms) ≡ pick (eqb n 0) whole_no n
  unfolding set_no
  set-by = ap (λ (j : ℕ). pick (eqb j 0) whole_no j) (sym e)

  pub set-stops : (n ≡ 0 → ⊥) → n ≡ set_no int_bounds (ruled rules ms)
  set-stops h = sym (set-by ∙ ap (λ (b : Bool). pick b whole_no n) (ne_eqb n 0 h))

  pub set-whole : n ≡ 0 → (k : ℕ) → k ≡ whole_no → k ≡ set_no int_bounds (ruled rules ms)
  set-whole h k g = g ∙ sym (set-by ∙ ap (λ (b : Bool). pick b whole_no n) (eq-eqb n 0 h))

-- the whole set: t tells whether its keys are distinct
module _ (rules : Record) (ms : List Record) (t : Bool) (k : t ≡ distinct (keys_of (ruled rules ms))) where
  abbrev s : RecSet
  s = ruled rules ms

  abbrev singular_no : ℕ
  singular_no = pick (singular_met s) 0 30

  by-keys : first_no (whole_rows int_bounds) s ≡ pick t (pick (size_met int_bounds s) singular_no 14) 13
  by-keys = ap (λ (b : Bool). pick b (pick (size_met int_bounds s) singular_no 14) 13) (sym k)

  pub keys-stop : t ≡ false → 13 ≡ first_no (whole_rows int_bounds) s
  keys-stop h = sym (by-keys ∙ ap (λ (b : Bool). pick b (pick (size_met int_bounds s) singular_no 14) 13) h)

  module _ (h : t ≡ true) where
    by_size : first_no (whole_rows int_bounds) s ≡ pick (size_met int_bounds s) singular_no 14
    by_size = by-keys ∙ ap (λ (b : Bool). pick b (pick (size_met int_bounds s) singular_no 14) 13) h

    -- n records were counted, and u tells whether that meets the size
    module _ (n : ℕ) (c : n ≡ length ms) (u : Bool) (q : u ≡ all (λ (v : Bytes). meets_size (size_rule int_bounds (words v)) n) (values_of (text "%size") rules)) where
      size-by : u ≡ size_met int_bounds s
      size-by = q ∙ ap (λ (j : ℕ). all (λ (v : Bytes). meets_size (size_rule int_bounds (words v)) j) (values_of (text "%size") rules)) c

      pub size-stop : u ≡ false → 14 ≡ first_no (whole_rows int_bounds) s
      size-stop g = sym (by_size ∙ ap (λ (b : Bool). pick b singular_no 14) (sym size-by ∙ g))

      -- it does, and z tells whether no singular name has a value twice
      module _ (g : u ≡ true) (z : Bool) (y : z ≡ singular_met s) where
        by-singular : first_no (whole_rows int_bounds) s ≡ pick z 0 30
        by-singular = by_size ∙ ap (λ (b : Bool). pick b singular_no 14) (sym size-by ∙ g) ∙ ap (λ (b : Bool). pick b 0 30) (sym y)

        pub singular-stop : z ≡ false → 30 ≡ first_no (whole_rows int_bounds) s
        singular-stop f = sym (by-singular ∙ ap (λ (b : Bool). pick b 0 30) f)

        pub whole-passes : z ≡ true → 0 ≡ first_no (whole_rows int_bounds) s
        whole-passes f = sym (by-singular ∙ ap (λ (b : Bool). pick b 0 30) f)
