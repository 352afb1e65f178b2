-- After an edit a name has the values that were kept, and among them the fresh ones.
use Prim.Native.Nat.{ℕ, zero, suc}
use mathlib.Core.Path.{◌≡◌, refl, sym, ap, ◌∙◌}
use mathlib.Core.Bool.{Bool, true, ◌&&◌}
use mathlib.Core.List.{List, [], ◌∷◌, ◌++◌, map, append-nil}
use mathlib.Core.Option.{Option, none, some}
use Rattle.format.specs.Bytes.{Bytes}
use Rattle.format.specs.Lists.{is_filled, filter, always, nth, before}
use Rattle.format.specs.Records.{Field, Record}
use Rattle.format.specs.Sets.{values_of}
use Rattle.format.specs.Rules.{distinct}
use Rattle.format.specs.Questions.{values_in}
use Rattle.format.specs.Written.{new_field}
use Rattle.format.specs.Numbering.{or_else}
use Rattle.format.specs.Edits.{Change, Act, Edit, is_named, change_field, in_record, in_members}
use Rattle.spoiling.specs.Effects.{kth_of, fresh_of, fresh_by, kept_of, kept_by, are_apart}
use Rattle.spoiling.proofs.Distinct.{Joins, joins-distinct, joins-behind, joins-before, Within, within-self, within-nothing, within_both, within-distinct, values-joined, record-values-joined, values-fewer}
use Rattle.spoiling.proofs.Kth.{behind_kth, replaced-parts, removed-within}

module _ (n : Bytes) where
  -- of one record
  values-parts : (a m b : Record) → values_of n (a ++ (m ++ b)) ≡ values_of n a ++ (values_of n m ++ values_of n b)
  values-parts a m b = values-joined n a (m ++ b) ∙ ap (λ (vs : List Bytes). values_of n a ++ vs) (values-joined n m b)

  -- the field of an occurrence and what a change makes of it
  change-joins : (a b : Record) (c : Change) (x : Option Field) → Joins (values_of n (a ++ (or_else [] (change_field Change.dropped) x ++ b))) (values_of n (or_else [] (change_field c) x)) (values_of n (a ++ (or_else [] (change_field c) x ++ b)))
  change-joins a b c none = record { front = values_of n a; back = values_of n b; stays = values-joined n a b; makes = values-joined n a b }
  change-joins a b c (some f) = record { front = values_of n a; back = values_of n b; stays = values-joined n a b; makes = values-parts a (change_field c f) b }

  pub act-joins : (a : Act) (r : Record) → Joins (values_of n (kept_of a r)) (values_of n (fresh_of a r)) (values_of n (in_record a r))
  act-joins Act.delete r = record { front = []; back = []; stays = refl; makes = refl }
  act-joins (Act.add p) r = record {
    front = values_of n r;
    back = [];
    stays = sym (append-nil (values_of n r));
    makes = values-joined n r (new_field p ∷ []) ∙ ap (λ (vs : List Bytes). values_of n r ++ vs) (sym (append-nil (values_of n (new_field p ∷ []))));
  }
  act-joins (Act.change m o c) r =
      let t : Field → Bool = is_named m in
      rw (replaced-parts t (change_field Change.dropped) r o, replaced-parts t (change_field c) r o) (change-joins (before t o r) (behind_kth t o r) c (kth_of t o r))

  -- of a set's records
  values-if-filled : (r : Record) → values_in n (filter is_filled (r ∷ [])) ≡ values_of n r ++ []
  values-if-filled [] = refl
  values-if-filled (f ∷ r) = refl

  record-values-parts : (a m b : List Record) → values_in n (a ++ (m ++ b)) ≡ values_in n a ++ (values_in n m ++ values_in n b)
  record-values-parts a m b = record-values-joined n a (m ++ b) ∙ ap (λ (vs : List Bytes). values_in n a ++ vs) (record-values-joined n m b)

  record-joins : (a : Act) (x : Option Record) → Joins (values_in n (or_else [] (λ (r : Record). kept_of a r ∷ []) x)) (values_of n (or_else [] (fresh_of a) x)) (values_in n (or_else [] (λ (r : Record). filter is_filled (in_record a r ∷ [])) x))
  record-joins a none = record { front = []; back = []; stays = refl; makes = refl }
  record-joins a (some r) = rw (values-if-filled (in_record a r)) (joins-before (values_of n (kept_of a r)) (values_of n (fresh_of a r)) (values_of n (in_record a r)) [] (act-joins a r))

  pub edit-joins : (e : Edit) (ms : List Record) → Joins (values_in n (kept_by e ms)) (values_of n (fresh_by e ms)) (values_in n (in_members e ms))
  edit-joins (Edit.insert new) ms = record { front = values_in n ms; back = []; stays = sym (append-nil (values_in n ms)); makes = record-values-joined n ms (map new_field new ∷ []) }
  edit-joins (Edit.on j a) ms =
      let keep : Record → List Record = λ (r : Record). kept_of a r ∷ [] in
      let make : Record → List Record = λ (r : Record). filter is_filled (in_record a r ∷ []) in
      let x : Option Record = kth_of always j ms in
      let front : List Record = before always j ms in
      let back : List Record = behind_kth always j ms in
      let inner : Joins (values_in n (or_else [] keep x) ++ values_in n back) (values_of n (or_else [] (fresh_of a) x)) (values_in n (or_else [] make x) ++ values_in n back) =
      joins-before (values_in n (or_else [] keep x)) (values_of n (or_else [] (fresh_of a) x)) (values_in n (or_else [] make x)) (values_in n back) (record-joins a x) in
      let outer = joins-behind (values_in n (or_else [] keep x) ++ values_in n back) (values_of n (or_else [] (fresh_of a) x)) (values_in n (or_else [] make x) ++ values_in n back) (values_in n front) inner in
      rw (replaced-parts always keep ms j, replaced-parts always make ms j, record-values-parts front (or_else [] keep x) back, record-values-parts front (or_else [] make x) back) outer

  -- what is kept was there before
  kept-within : (a : Act) (r : Record) → Within (kept_of a r) r
  kept-within Act.delete r = within-nothing r
  kept-within (Act.add p) r = within-self r
  kept-within (Act.change m o c) r = removed-within (is_named m) r o

  members-within : (a : Act) (ms : List Record) (j : ℕ) → Within (values_in n (nth j (kept_of a) ms)) (values_in n ms)
  members-within a [] j = Within.nothing
  members-within a (r ∷ ms) zero = within_both (values_in n ms) (values_in n ms) (values-fewer n (kept-within a r)) (within-self (values_in n ms))
  members-within a (r ∷ ms) (suc j) = within_both (values_in n (nth j (kept_of a) ms)) (values_in n ms) (within-self (values_of n r)) (members-within a ms j)

  edit-keeps : (e : Edit) (ms : List Record) → Within (values_in n (kept_by e ms)) (values_in n ms)
  edit-keeps (Edit.insert new) ms = within-self (values_in n ms)
  edit-keeps (Edit.on j a) ms = members-within a ms j

  -- Distinct values of a name stay distinct exactly if the fresh ones are distinct and none of them is among the kept ones.
  pub distinct-after : (e : Edit) (ms : List Record) → distinct (values_in n ms) ≡ true → distinct (values_in n (in_members e ms)) ≡ (distinct (values_of n (fresh_by e ms)) && are_apart (values_of n (fresh_by e ms)) (values_in n (kept_by e ms)))
  distinct-after e ms d =
      let new : List Bytes = values_of n (fresh_by e ms) in
      let stay : List Bytes = values_in n (kept_by e ms) in
      joins-distinct stay new (values_in n (in_members e ms)) (edit-joins e ms) ∙ ap (λ (b : Bool). b && (distinct new && are_apart new stay)) (within-distinct (edit-keeps e ms) d)
