-- The words of a descriptor's lists are few, and they are names, since questions 4 and 6 say yes of it.
use Prim.Native.Nat.{ℕ, ◌≤◌}
use mathlib.Core.Path.{◌≡◌, sym, ◌∙◌}
use mathlib.Core.Bool.{true, or-false}
use lib.ListN.{length}
use Rattle.format.specs.Bytes.{Bytes, text}
use Rattle.format.specs.Limits.{list_words}
use Rattle.format.specs.Lines.{is_name}
use Rattle.format.specs.Numbers.{int_bounds}
use Rattle.format.specs.Records.{Record}
use Rattle.format.specs.Rules.{listed, name_list, is_shaped}
use Rattle.format.proofs.Limits.{Few, rules-few}
use Rattle.format.proofs.Listing.{listed-all, auto-names}
use Rattle.records.specs.Walk.{record_in}
use Rattle.dictionary.specs.Known.{Described}
use Rattle.dictionary.specs.Numbered.{Lists}
use Rattle.dictionary.proofs.Typing.{all-shaped}

module _ (d : Bytes) (h : Described d) where
  abbrev rules : Record
  rules = record_in d

  few : Few rules
  few = rules-few rules h.few

  -- a list whose fields have names for words
  lists : (n : Bytes) → length (listed n rules) ≤ list_words → ((v : Bytes) (k : ℕ) → is_shaped int_bounds (record { name = n; value = v; count = k }) ≡ true → name_list v ≡ true) → Lists n rules
  lists n l g = record { few = l; names = listed-all int_bounds n is_name g rules (all-shaped d h) }

  pub mandatory-lists : Lists (text "%mandatory") rules
  mandatory-lists = lists (text "%mandatory") few.mandatory-few (λ v k e. sym (or-false (name_list v)) ∙ e)

  pub unique-lists : Lists (text "%unique") rules
  unique-lists = lists (text "%unique") few.unique-few (λ v k e. sym (or-false (name_list v)) ∙ e)

  pub singular-lists : Lists (text "%singular") rules
  singular-lists = lists (text "%singular") few.singular-few (λ v k e. sym (or-false (name_list v)) ∙ e)

  pub auto-lists : Lists (text "%auto") rules
  auto-lists = record { few = few.auto-few; names = auto-names int_bounds rules h.well }
