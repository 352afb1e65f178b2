-- The table of all symbols, at the front of the lent array.
use Prim.Native.Nat.{ℕ, ◌≤◌}
use native.Mathlib.Omega.{arith}
use mathlib.Core.Path.{◌≡◌, refl, sym, ap, ◌∙◌}
use mathlib.Core.Bool.{Bool, ◌||◌}
use mathlib.Core.List.{List, ◌++◌}
use lib.ListN.{length, take, drop}
use Rattle.format.specs.Bytes.{Bytes}
use Rattle.terms.specs.Sets.{Term, tagged}
use Rattle.terms.specs.Entries.{terms_of, Entries}
use Rattle.terms.specs.Order.{Holds}
use Rattle.terms.specs.declared.Table.{Table}
use Rattle.terms.proofs.Tests.{tagged-append}
use Rattle.terms.proofs.Prints.{entries-front}
use Rattle.terms.proofs.Tables.{table-front, front-terms}
use Rattle.enums.specs.Rows.{rows_left, RowsAdded, IsSymbols, Reaches}
use Rattle.enums.specs.declared.Added.{Added}
use Rattle.enums.specs.declared.Symbols.{Symbols}
use Rattle.enums.proofs.Rows.{in_row}

module _ (d : Bytes) (texts : List ℕ) (from to : ℕ) (l m : List ℕ) (r : Added) (b : RowsAdded d texts from to l m r) where
  pub all-entries : Entries d (length (take r.count m)) (take r.count m)
  all-entries = entries-front d m r.count b.room (b.adding.entries (λ i h. absurd (omega arith)))

  module _ (p : List ℕ) (t : Table) (h : Holds d (take r.count m) p t) where
    abbrev pub symbols_of : Symbols
    symbols_of = record { table = t; from = from; next = r.next }

    with_rest : (w : Bytes) (j : ℕ) → tagged w j (terms_of d (take t.count (p ++ drop r.count m)) ++ rows_left d texts from to r.next) ≡ tagged w j (rows_left d texts from to from)
    with_rest w j =
        let rest : List Term = rows_left d texts from to r.next in
        tagged-append w j (terms_of d (take t.count (p ++ drop r.count m))) rest
        ∙ ap (λ (y : Bool). y || tagged w j rest) (front-terms d (take r.count m) p (drop r.count m) t h w j)
        ∙ sym (tagged-append w j (terms_of d (take r.count m)) rest)
        ∙ ap (tagged w j) b.adding.terms

    pub made : to ≤ length texts → IsSymbols d texts (p ++ drop r.count m) symbols_of
    made short = record {
      table = table-front d p (drop r.count m) t h.table;
      begins = b.begins;
      short = omega (arith, b.within);
      terms = λ w. in_row d texts from w to r.next (terms_of d (take t.count (p ++ drop r.count m))) b.within (with_rest w);
    }

    pub reaches : 4097 ≤ length l → Reaches from to symbols_of
    reaches room = record { from_is = refl; within = b.within; some = b.some room }
