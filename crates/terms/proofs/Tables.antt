-- A table at the front of a list.
use Prim.Native.Nat.{ℕ, ◌-◌, ◌<◌}
use native.Mathlib.Omega.{arith}
use mathlib.Core.Path.{◌≡◌, sym, ap, ◌∙◌, subst}
use mathlib.Core.List.{List, ◌++◌}
use lib.ListN.{get_or, take, length-append, get_or-append}
use lib.Seq.{take-append-le}
use Rattle.format.specs.Bytes.{Bytes}
use Rattle.terms.specs.Sets.{tagged}
use Rattle.terms.specs.Entries.{word_at, terms_of, IsEntry}
use Rattle.terms.specs.Order.{NotBehind, IsTable, Holds}
use Rattle.terms.specs.declared.Table.{Table}

-- what stands behind a table does not matter
module _ (s : Bytes) (m x : List ℕ) (t : Table) (h : IsTable s m t) where
  same_at : (i : ℕ) → i < t.count → get_or (m ++ x) i 0 ≡ get_or m i 0
  same_at i g = let r = h.room in get_or-append m x 0 i (omega arith)

  pub table-front : IsTable s (m ++ x) t
  table-front = record {
    room = let r = h.room in omega (arith, length-append m x);
    entries = λ i g. subst (IsEntry s) (sym (same_at i g)) (h.entries i g);
    rising =
        λ e q g z.
        subst (λ (a : ℕ). NotBehind (word_at s a) (word_at s (get_or (m ++ x) q 0))) (sym (same_at (q - 1) (omega arith)))
        (subst (λ (b : ℕ). NotBehind (word_at s (get_or m (q - 1) 0)) (word_at s b)) (sym (same_at q g)) (h.rising e q g z));
  }

-- and it has the terms of the entries that it was made of
pub front-terms : (s : Bytes) (l m x : List ℕ) (t : Table) → Holds s l m t → (w : Bytes) (k : ℕ) → tagged w k (terms_of s (take t.count (m ++ x))) ≡ tagged w k (terms_of s l)
front-terms s l m x t h w k = ap (λ (y : List ℕ). tagged w k (terms_of s y)) (take-append-le t.count m x h.table.room) ∙ h.kept w k
