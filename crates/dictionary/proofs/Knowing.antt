-- What a table of the terms of a descriptor says of a name, tag by tag.
use Prim.Native.Nat.{ℕ, ◌+◌, ◌-◌, ◌≤◌, ◌<◌}
use native.Mathlib.Omega.{arith}
use mathlib.Core.Path.{◌≡◌, sym, ap, ◌∙◌}
use mathlib.Core.Bool.{Bool, ◌||◌}
use mathlib.Core.List.{List, [], ◌++◌}
use lib.ListN.{length, get_or, drop, length-drop}
use lib.Seq.{get_or-drop}
use Rattle.format.specs.Bytes.{Bytes, text, among}
use Rattle.format.specs.Records.{Record}
use Rattle.format.specs.Sets.{values_of}
use Rattle.format.specs.Rules.{typed_names}
use Rattle.terms.specs.Sets.{Term, tagged, Answers}
use Rattle.terms.proofs.Tests.{or-none, tagged-append}
use Rattle.dictionary.specs.Terms.{list_terms, row_terms}
use Rattle.dictionary.specs.Known.{type_value, Known}
use Rattle.dictionary.proofs.Rows.{row-above, row_below, row_at}
use Rattle.dictionary.proofs.Listing.{list-low, tagged-mandatory, tagged-prohibited, tagged-allowed, tagged-unique, tagged-key}

module _ (rules : Record) (from next : ℕ) (ts : List Term) where
  abbrev vs : List Bytes
  vs = values_of (text "%type") rules

  -- the terms and those of the fields from the next on are the lists' and those from the first on
  abbrev pub Terms : Type 0
  Terms = (w : Bytes) (k : ℕ) → tagged w k (ts ++ row_terms next (drop next vs)) ≡ tagged w k (list_terms rules ++ row_terms from (drop from vs))

  module _ (f : Terms) (few : length vs ≤ 32) (begins : from ≤ next) (within : next ≤ length vs) (w : Bytes) where
    both : (k : ℕ) → tagged w k ts || tagged w k (row_terms next (drop next vs)) ≡ tagged w k (list_terms rules) || tagged w k (row_terms from (drop from vs))
    both k = sym (tagged-append w k ts (row_terms next (drop next vs))) ∙ f w k ∙ tagged-append w k (list_terms rules) (row_terms from (drop from vs))

    -- a tag of a list
    in_list : (k : ℕ) → 32 ≤ k → tagged w k ts ≡ tagged w k (list_terms rules)
    in_list k h =
        sym (or-none (tagged w k ts))
        ∙ ap (λ (t : Bool). tagged w k ts || t) (sym (row_below w k next (drop next vs) (omega (arith, length-drop next vs))))
        ∙ both k
        ∙ ap (λ (t : Bool). tagged w k (list_terms rules) || t) (row_below w k from (drop from vs) (omega (arith, length-drop from vs)))
        ∙ or-none (tagged w k (list_terms rules))

    -- one of a `%type` field
    in_row : (k : ℕ) → from ≤ k → k < next → tagged w k ts ≡ among w (typed_names (type_value rules k))
    in_row k h g =
        let e : from + (k - from) ≡ k = omega arith in
        sym (or-none (tagged w k ts))
        ∙ ap (λ (t : Bool). tagged w k ts || t) (sym (row-above w k next (drop next vs) g))
        ∙ both k
        ∙ ap (λ (t : Bool). t || tagged w k (row_terms from (drop from vs))) (list-low w k (omega arith) rules)
        ∙ row_at w k from (drop from vs) h (omega (arith, length-drop from vs))
        ∙ ap (λ (v : Bytes). among w (typed_names v)) (get_or-drop from vs (k - from) [] ∙ ap (λ (j : ℕ). get_or vs j []) e)

    pub knows : (x : ℕ) → Answers w ts x → Known rules from next w x
    knows x q = record {
      mandatory-is = q 32 ∙ in_list 32 (omega arith) ∙ tagged-mandatory w rules;
      prohibited-is = q 33 ∙ in_list 33 (omega arith) ∙ tagged-prohibited w rules;
      allowed-is = q 34 ∙ in_list 34 (omega arith) ∙ tagged-allowed w rules;
      unique-is = q 35 ∙ in_list 35 (omega arith) ∙ tagged-unique w rules;
      key-is = q 36 ∙ in_list 36 (omega arith) ∙ tagged-key w rules;
      typed-is = λ k h g. q k ∙ in_row k h g;
    }
