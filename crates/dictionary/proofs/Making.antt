-- The table of all terms, at the front of the lent array.
use Prim.Native.Nat.{ℕ, ◌+◌, ◌≤◌}
use native.Mathlib.Omega.{arith}
use mathlib.Core.Path.{◌≡◌, sym, ap, ◌∙◌}
use mathlib.Core.Bool.{Bool, ◌||◌}
use mathlib.Core.List.{List, [], ◌++◌, append-nil}
use lib.ListN.{length, take, drop}
use Rattle.format.specs.Bytes.{Bytes, text}
use Rattle.records.specs.Walk.{record_in}
use Rattle.records.specs.Named.{values_from}
use Rattle.terms.specs.Sets.{Term, tagged}
use Rattle.terms.specs.Entries.{terms_of, Entries}
use Rattle.terms.specs.Order.{Holds}
use Rattle.terms.specs.declared.Table.{Table}
use Rattle.terms.proofs.Tests.{tagged-append}
use Rattle.terms.proofs.Prints.{entries-front}
use Rattle.terms.proofs.Tables.{table-front, front-terms}
use Rattle.terms.specs.Adding.{Adding}
use Rattle.dictionary.specs.Terms.{list_terms, row_terms, RowsAdded}
use Rattle.dictionary.specs.Known.{IsDictionary}
use Rattle.dictionary.specs.declared.Added.{Added}

module _ (d : Bytes) (from : ℕ) (l k : List ℕ) (n : ℕ) (a : Adding d l 0 (list_terms (record_in d)) [] k n) (m : List ℕ) (r : Added) (b : RowsAdded d from k n m r) where
  abbrev vs : List Bytes
  vs = values_from d (text "%type") 0

  pub all-entries : Entries d (length (take r.count m)) (take r.count m)
  all-entries = entries-front d m r.count b.room (b.adding.entries (a.entries (λ i h. absurd (omega arith))))

  all-terms : terms_of d (take r.count m) ++ row_terms r.next (drop r.next vs) ≡ list_terms (record_in d) ++ row_terms from (drop from vs)
  all-terms = b.adding.terms ∙ ap (λ (ts : List Term). ts ++ row_terms from (drop from vs)) (sym (append-nil (terms_of d (take n k))) ∙ a.terms)

  pub made : (p : List ℕ) (t : Table) → Holds d (take r.count m) p t → n + 4097 ≤ length k → IsDictionary d (p ++ drop r.count m) (record { table = t; from = from; next = r.next })
  made p t h room = record {
    table = table-front d p (drop r.count m) t h.table;
    begins = b.begins;
    within = b.within;
    some = b.some room;
    terms =
        λ w j.
        let rest : List Term = row_terms r.next (drop r.next vs) in
        tagged-append w j (terms_of d (take t.count (p ++ drop r.count m))) rest
        ∙ ap (λ (y : Bool). y || tagged w j rest) (front-terms d (take r.count m) p (drop r.count m) t h w j)
        ∙ sym (tagged-append w j (terms_of d (take r.count m)) rest)
        ∙ ap (tagged w j) all-terms;
  }
