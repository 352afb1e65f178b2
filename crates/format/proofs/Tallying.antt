-- A set's number of records after a request: one more for an insert, one less for a delete.
use Prim.Native.Nat.{ℕ, zero, suc, ◌+◌}
use native.Mathlib.Omega.{arith}
use mathlib.Core.Path.{◌≡◌, refl, ap, ◌∙◌, subst}
use mathlib.Core.Logic.{◌≢◌}
use mathlib.Core.Bool.{Bool, true, false, false≢true}
use mathlib.Core.List.{List, [], ◌∷◌, ◌++◌, map}
use mathlib.Core.Option.{Option, some}
use lib.Dec.{ltb}
use lib.ListN.{length, length-append, get_or}
use borrow.Author.Tests.{ltb-true}
use Rattle.format.specs.Bytes.{Bytes}
use Rattle.format.specs.Lists.{only_if, is_filled, filter, keep, kept, turn, at, always, nth}
use Rattle.format.specs.Records.{Field, Record, fields_of}
use Rattle.format.specs.Sets.{Group, groups, is_member, member_of, RecSet, set_of, sets_of}
use Rattle.format.specs.Written.{new_field}
use Rattle.format.specs.Edits.{Change, Act, Edit, is_named, change_field, in_record, in_members, in_set}
use Rattle.format.specs.Requests.{Request}
use Rattle.format.specs.Plain.{Plain, index_of, apply_in, apply, of_some, members_at, members_in, record_in, Asked, row_of, leaves_field}
use Rattle.format.specs.Demand.{inserted, deleted}
use Rattle.format.proofs.Elements.{Each, Filled, Has, below-has}
use Rattle.format.proofs.Grouping.{member-record}
use Rattle.format.proofs.Applying.{Agrees, agrees-sets, Granted, index-has}

-- the records of each set have a field

abbrev FilledIn : RecSet → Type 0
FilledIn s = Each Filled s.members

filled_is : {A : Type 0} (xs : List A) → is_filled xs ≡ true → Filled xs
filled_is [] e = absurd (false≢true e)
filled_is (x ∷ xs) e = tt

kept-filled : (g : Group) → Each Filled (kept member_of g)
kept-filled [] = tt
kept-filled (b ∷ g) = go (is_member b) refl (kept-filled g)
  where
    go : (t : Bool) → is_member b ≡ t → Each Filled (kept member_of g) → Each Filled (keep (only_if t (fields_of b)) (kept member_of g))
    go true e h = (filled_is (fields_of b) (member-record b e), h)
    go false e h = h

sets-filled : (gs : List Group) → Each FilledIn (map set_of gs)
sets-filled [] = tt
sets-filled (g ∷ gs) = (kept-filled g, sets-filled gs)

filled_at : (i : ℕ) (ss : List RecSet) → Each FilledIn ss → Each Filled (members_at i ss)
filled_at i [] h = tt
filled_at zero (s ∷ ss) h = h.0
filled_at (suc i) (s ∷ ss) h = filled_at i ss h.1

agrees-filled : (p : Plain) → Agrees p → (i : ℕ) → Each Filled (members_at i p.sets)
unfolding sets_of
agrees-filled p a i = filled_at i p.sets (subst (Each FilledIn) (agrees-sets p a) (sets-filled (groups p.pieces)))

-- what an act leaves of a record has a field: the occurrence is there, and another field if that one goes

filled-append : {A : Type 0} (xs : List A) (y : A) (ys : List A) → Filled (xs ++ (y ∷ ys))
filled-append [] y ys = tt
filled-append (x ∷ xs) y ys = tt

two-filled : (b : Bool) (k : ℕ) (n : Bytes) (c : Change) (f g : Field) (r : Record) → Filled (turn b k (change_field c f ++ (g ∷ r)) (λ (j : ℕ). f ∷ at (is_named n) j (change_field c) (g ∷ r)))
two-filled true zero n c f g r = filled-append (change_field c f) g r
two-filled true (suc k) n c f g r = tt
two-filled false k n c f g r = tt

module _ (n : Bytes) (o j : ℕ) where
  abbrev changes : Change → Record → Record
  changes c r = at (is_named n) o (change_field c) r

  kept-turn : (b : Bool) (k : ℕ) (c : Change) (f : Field) (r : Record) → Filled (change_field c f ++ r) → Filled (turn b k (change_field c f ++ r) (λ (i : ℕ). f ∷ at (is_named n) i (change_field c) r))
  kept-turn true zero c f r h = h
  kept-turn true (suc k) c f r h = tt
  kept-turn false k c f r h = tt

  change-filled : (c : Change) (r : Record) → Filled r → leaves_field (Edit.on j (Act.change n o c)) r ≡ true → Filled (changes c r)
  change-filled c [] h l = absurd h
  change-filled (Change.value w) (f ∷ r) h l = kept-turn (is_named n f) o (Change.value w) f r tt
  change-filled Change.dropped (f ∷ []) h l = absurd (omega (arith, ltb-true 1 1 l))
  change-filled Change.dropped (f ∷ g ∷ r) h l = two-filled (is_named n f) o n Change.dropped f g r
  change-filled (Change.name m) (f ∷ r) h l = kept-turn (is_named n f) o (Change.name m) f r tt

abbrev Leaves : Act → Record → Type 0
Leaves Act.delete r = Unit {0}
Leaves (Act.add p) r = Filled (in_record (Act.add p) r)
Leaves (Act.change n o c) r = Filled (in_record (Act.change n o c) r)

leaves : (j : ℕ) (a : Act) (r : Record) → Filled r → leaves_field (Edit.on j a) r ≡ true → Leaves a r
leaves j Act.delete r h l = tt
leaves j (Act.add p) r h l = filled-append r (new_field p) []
leaves j (Act.change n o c) r h l = change-filled n o j c r h l

-- what comes in the place of one record

at-number : (f : Record → List Record) (j : ℕ) (ms : List Record) → Has ms j → suc (length (at always j f ms)) ≡ length (f (get_or ms j [])) + length ms
at-number f j [] h = absurd h
at-number f zero (m ∷ ms) h = omega (arith, length-append (f m) ms)
at-number f (suc j) (m ∷ ms) h = omega (arith, at-number f j ms h)

filled-one : (r : Record) → Filled r → length (filter is_filled (r ∷ [])) ≡ 1
filled-one [] h = absurd h
filled-one (f ∷ r) h = refl

act-number : (j : ℕ) (a : Act) (r : Record) → Leaves a r → length (filter is_filled (in_record a r ∷ [])) + deleted (Edit.on j a) ≡ 1
act-number j Act.delete r h = refl
act-number j (Act.add p) r h = omega (arith, filled-one (in_record (Act.add p) r) h)
act-number j (Act.change n o c) r h = omega (arith, filled-one (in_record (Act.change n o c) r) h)

filled_row : (ms : List Record) (j : ℕ) → Each Filled ms → Has ms j → Filled (get_or ms j [])
filled_row [] j f h = absurd h
filled_row (m ∷ ms) zero f h = f.0
filled_row (m ∷ ms) (suc j) f h = filled_row ms j f.1 h

edit-number : (e : Edit) (ms : List Record) → Each Filled ms → of_some (λ (j : ℕ). ltb j (length ms)) (row_of e) ≡ true → leaves_field e (record_in ms (row_of e)) ≡ true → length (in_members e ms) + deleted e ≡ length ms + inserted e
edit-number (Edit.insert new) ms f h l = omega (arith, length-append ms (map new_field new ∷ []))
edit-number (Edit.on j a) ms f h l =
    let k : Has ms j = below-has ms j (ltb-true j (length ms) h) in
    let r : Record = get_or ms j [] in
    omega (arith, at-number (λ (x : Record). filter is_filled (in_record a x ∷ [])) j ms k, act-number j a r (leaves j a r (filled_row ms j f k) l))

-- the set that the request names, and every other

members-here : (i : ℕ) (e : Edit) (ss : List RecSet) → Has ss i → members_at i (nth i (in_set e) ss) ≡ in_members e (members_at i ss)
members-here i e [] h = absurd h
members-here zero e (s ∷ ss) h = refl
members-here (suc i) e (s ∷ ss) h = members-here i e ss h

members-other : (k i : ℕ) (e : Edit) (ss : List RecSet) → k ≢ i → members_at i (nth k (in_set e) ss) ≡ members_at i ss
members-other k i e [] h = refl
members-other zero zero e (s ∷ ss) h = absurd (h refl)
members-other zero (suc i) e (s ∷ ss) h = refl
members-other (suc k) zero e (s ∷ ss) h = refl
members-other (suc k) (suc i) e (s ∷ ss) h = members-other k i e ss (λ (q : k ≡ i). h (ap suc q))

pub apply-sets : (q : Request) (p : Plain) (i : ℕ) → index_of q.set p.sets ≡ some i → (apply q p).sets ≡ nth i (in_set q.edit) p.sets
unfolding apply
apply-sets q p i e = ap (λ (x : Option ℕ). (apply_in x q.edit p).sets) e

pub apply-number : (a : Asked) → Granted a → Agrees a.file → (i : ℕ) → index_of a.request.set a.file.sets ≡ some i → length (members_at i (apply a.request a.file).sets) + deleted a.request.edit ≡ length (members_at i a.file.sets) + inserted a.request.edit
apply-number a g s i e =
    let q : Request = a.request in
    let ss : List RecSet = a.file.sets in
    let here = ap (members_at i) (apply-sets q a.file i e) ∙ members-here i q.edit ss (index-has q.set ss i e) in
    let row = subst (λ (x : Option ℕ). of_some (λ (j : ℕ). ltb j (length (members_in ss x))) (row_of q.edit) ≡ true) e g.found.1.0 in
    let left = subst (λ (x : Option ℕ). leaves_field q.edit (record_in (members_in ss x) (row_of q.edit)) ≡ true) e g.left in
    ap (λ (ms : List Record). length ms + deleted q.edit) here ∙ edit-number q.edit (members_at i ss) (agrees-filled a.file s i) row left

pub apply-others : (q : Request) (p : Plain) (k : ℕ) → index_of q.set p.sets ≡ some k → (i : ℕ) → k ≢ i → members_at i (apply q p).sets ≡ members_at i p.sets
apply-others q p k e i d = ap (members_at i) (apply-sets q p k e) ∙ members-other k i q.edit p.sets d
