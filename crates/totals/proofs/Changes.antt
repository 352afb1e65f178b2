-- The values of a name in a set's records after an edit: those that it takes off, replaced by those that it puts there.
use Prim.Native.Nat.{ℕ, zero, suc, ◌<◌}
use native.Mathlib.Omega.{arith}
use mathlib.Core.Path.{◌≡◌, refl, sym, ap, ◌∙◌, subst}
use mathlib.Core.Bool.{Bool, true, false}
use mathlib.Core.List.{List, [], ◌∷◌, ◌++◌, append_assoc, append-nil, map}
use lib.ListN.{length, get_or}
use borrow.Author.Tests.{ltb-true}
use Rattle.format.specs.Bytes.{Bytes, pick, same}
use Rattle.format.specs.Lists.{is_filled, filter, turn, at, always}
use Rattle.format.specs.Records.{Field, Record}
use Rattle.format.specs.Sets.{values_of}
use Rattle.format.specs.Written.{new_field}
use Rattle.format.specs.Edits.{Change, Act, Edit, is_named, change_field, in_record, in_members}
use Rattle.format.specs.Questions.{occurrences, values_in}
use Rattle.format.proofs.Listing.{same_true}
use Rattle.totals.proofs.Sums.{Replaces}
use Rattle.totals.proofs.Edited.{IsFound}

-- values of lists one behind the other
pub values-append : (m : Bytes) (r s : Record) → values_of m (r ++ s) ≡ values_of m r ++ values_of m s
values-append m [] s = refl
values-append m (f ∷ r) s = go (same m f.name) (values-append m r s)
  where
    go : (t : Bool) → values_of m (r ++ s) ≡ values_of m r ++ values_of m s → pick t (f.value ∷ values_of m (r ++ s)) (values_of m (r ++ s)) ≡ pick t (f.value ∷ values_of m r) (values_of m r) ++ values_of m s
    go true e = ap {B = List Bytes} (λ (vs : List Bytes). f.value ∷ vs) e
    go false e = e

pub in-append : (m : Bytes) (rs ss : List Record) → values_in m (rs ++ ss) ≡ values_in m rs ++ values_in m ss
in-append m [] ss = refl
in-append m (r ∷ rs) ss = ap (λ (vs : List Bytes). values_of m r ++ vs) (in-append m rs ss) ∙ sym (append_assoc (values_of m r) (values_in m rs) (values_in m ss))

-- replacing within a longer list
within-longer : (old new xs ys u w : List Bytes) → Replaces old new xs ys → Replaces old new (u ++ (xs ++ w)) (u ++ (ys ++ w))
within-longer old new xs ys u w (a, b, p, q) =
    let longer : (z : List Bytes) → u ++ ((a ++ (z ++ b)) ++ w) ≡ (u ++ a) ++ (z ++ (b ++ w)) =
    λ z. ap (λ (l : List Bytes). u ++ l) (append_assoc a (z ++ b) w ∙ ap (λ (l : List Bytes). a ++ l) (append_assoc z b w)) ∙ sym (append_assoc u a (z ++ (b ++ w))) in
    (u ++ a, b ++ w, ap (λ (l : List Bytes). u ++ (l ++ w)) p ∙ longer old, ap (λ (l : List Bytes). u ++ (l ++ w)) q ∙ longer new)

whole-list : (xs ys : List Bytes) → Replaces xs ys xs ys
whole-list xs ys = ([], [], sym (append-nil xs), sym (append-nil ys))

-- what a change makes of the field that it names: the record around it stays
record Cut (n : Bytes) (o : ℕ) (g : Field → Record) (r : Record) : Type 0 where
  before : Record
  field : Field
  behind : Record
  parts : r ≡ before ++ (field ∷ behind)
  changed : at (is_named n) o g r ≡ before ++ (g field ++ behind)
  named : n ≡ field.name
  valued : field.value ≡ get_or (values_of n r) o []

cut_on : (n : Bytes) (o : ℕ) (g : Field → Record) (f : Field) (r : Record) → Cut n o g r → (k : ℕ) → at (is_named n) k g (f ∷ r) ≡ f ∷ at (is_named n) o g r → get_or (values_of n (f ∷ r)) k [] ≡ get_or (values_of n r) o [] → Cut n k g (f ∷ r)
cut_on n o g f r c k e h = record {
  before = f ∷ c.before;
  field = c.field;
  behind = c.behind;
  parts = ap {B = Record} (λ (x : Record). f ∷ x) c.parts;
  changed = e ∙ ap {B = Record} (λ (x : Record). f ∷ x) c.changed;
  named = c.named;
  valued = c.valued ∙ sym h;
}

cut_at : (n : Bytes) (g : Field → Record) (r : Record) (o : ℕ) → o < occurrences n r → Cut n o g r
cut_at n g [] o h = absurd (omega arith)
cut_at n g (f ∷ r) o h = go (same n f.name) refl (cut_at n g r) o h
  where
    turned : (t : Bool) (k : ℕ) → same n f.name ≡ t → at (is_named n) k g (f ∷ r) ≡ turn t k (g f ++ r) (λ (j : ℕ). f ∷ at (is_named n) j g r)
    turned t k e = ap (λ (b : Bool). turn b k (g f ++ r) (λ (j : ℕ). f ∷ at (is_named n) j g r)) e

    listed : (t : Bool) (k : ℕ) → same n f.name ≡ t → get_or (values_of n (f ∷ r)) k [] ≡ get_or (pick t (f.value ∷ values_of n r) (values_of n r)) k []
    listed t k e = ap (λ (b : Bool). get_or (pick b (f.value ∷ values_of n r) (values_of n r)) k []) e

    fewer : (t : Bool) (k : ℕ) → same n f.name ≡ t → k < occurrences n (f ∷ r) → k < length (pick t (f.value ∷ values_of n r) (values_of n r))
    fewer t k e h = subst (λ (b : Bool). k < length (pick b (f.value ∷ values_of n r) (values_of n r))) e h

    go : (t : Bool) → same n f.name ≡ t → ((k : ℕ) → k < occurrences n r → Cut n k g r) → (k : ℕ) → k < occurrences n (f ∷ r) → Cut n k g (f ∷ r)
    go true e ih zero h = record { before = []; field = f; behind = r; parts = refl; changed = turned true zero e; named = same_true n f.name e; valued = sym (listed true zero e) }
    go true e ih (suc k) h = cut_on n k g f r (ih k (let q = fewer true (suc k) e h in omega arith)) (suc k) (turned true (suc k) e) (listed true (suc k) e)
    go false e ih k h = cut_on n k g f r (ih k (fewer false k e h)) k (turned false k e) (listed false k e)

-- The values of a name that an act takes off a record, and those that it puts there.
abbrev pub if_named : Bytes → Bytes → Bytes → List Bytes
if_named m n v = pick (same m n) (v ∷ []) []

abbrev pub taken_off : Bytes → Act → Record → List Bytes
taken_off m Act.delete r = values_of m r
taken_off m (Act.add p) r = []
taken_off m (Act.change n o c) r = if_named m n (get_or (values_of n r) o [])

abbrev pub changed_to : Bytes → Change → Bytes → Bytes → List Bytes
changed_to m (Change.value w) n v = if_named m n w
changed_to m Change.dropped n v = []
changed_to m (Change.name k) n v = if_named m k v

abbrev pub put_there : Bytes → Act → Record → List Bytes
put_there m Act.delete r = []
put_there m (Act.add p) r = if_named m p.name p.value
put_there m (Act.change n o c) r = changed_to m c n (get_or (values_of n r) o [])

-- the record and the occurrence that an act names are there
abbrev OnField : Act → Record → Type 0
OnField Act.delete r = Unit {0}
OnField (Act.add p) r = Unit {0}
OnField (Act.change n o c) r = o < occurrences n r

changed-values : (m : Bytes) (c : Change) (f : Field) → values_of m (change_field c f) ≡ changed_to m c f.name f.value
changed-values m (Change.value w) f = refl
changed-values m Change.dropped f = refl
changed-values m (Change.name k) f = refl

act-replaces : (m : Bytes) (a : Act) (r : Record) → OnField a r → Replaces (taken_off m a r) (put_there m a r) (values_of m r) (values_of m (in_record a r))
act-replaces m Act.delete r h = whole-list (values_of m r) []
act-replaces m (Act.add p) r h = (values_of m r, [], sym (append-nil (values_of m r)), values-append m r (new_field p ∷ []) ∙ ap (λ (vs : List Bytes). values_of m r ++ vs) (sym (append-nil (if_named m p.name p.value))))
act-replaces m (Act.change n o c) r h =
    let k = cut_at n (change_field c) r o h in
    let split : (x : Record) → values_of m (k.before ++ (x ++ k.behind)) ≡ values_of m k.before ++ (values_of m x ++ values_of m k.behind) =
    λ x. values-append m k.before (x ++ k.behind) ∙ ap (λ (vs : List Bytes). values_of m k.before ++ vs) (values-append m x k.behind) in
    let v : List Bytes → List Bytes = λ vs. values_of m k.before ++ (vs ++ values_of m k.behind) in (
      values_of m k.before,
      values_of m k.behind,
      ap (values_of m) k.parts ∙ split (k.field ∷ []) ∙ (λ i. v (if_named m (sym k.named i) (k.valued i))),
      ap (values_of m) k.changed ∙ split (change_field c k.field) ∙ ap v (changed-values m c k.field ∙ (λ i. changed_to m c (sym k.named i) (k.valued i))),
    )

-- the same of a set's records
abbrev pub taken : Bytes → Edit → List Record → List Bytes
taken m (Edit.insert new) ms = []
taken m (Edit.on j a) ms = taken_off m a (get_or ms j [])

abbrev pub given : Bytes → Edit → List Record → List Bytes
given m (Edit.insert new) ms = values_of m (map new_field new)
given m (Edit.on j a) ms = put_there m a (get_or ms j [])

left-values : (m : Bytes) (r : Record) → values_in m (filter is_filled (r ∷ [])) ≡ values_of m r
left-values m [] = refl
left-values m (f ∷ r) = append-nil (values_of m (f ∷ r))

member-parts : (g : Record → List Record) (j : ℕ) (ms : List Record) → j < length ms → (a b : List Record) × (ms ≡ a ++ (get_or ms j [] ∷ b)) × (at always j g ms ≡ a ++ (g (get_or ms j []) ++ b))
member-parts g j [] h = absurd (omega arith)
member-parts g zero (r ∷ ms) h = ([], ms, refl, refl)
member-parts g (suc j) (r ∷ ms) h =
    let k = member-parts g j ms (omega arith) in
    (r ∷ k.0, k.1, ap {B = List Record} (λ (x : List Record). r ∷ x) k.2, ap {B = List Record} (λ (x : List Record). r ∷ x) k.3)

-- the field that an edit's act names is there
on-field : (j : ℕ) (a : Act) (ms : List Record) → IsFound (Edit.on j a) ms → OnField a (get_or ms j [])
on-field j Act.delete ms h = tt
on-field j (Act.add p) ms h = tt
on-field j (Act.change n o c) ms h = ltb-true o (occurrences n (get_or ms j [])) h.1

pub edit-replaces : (m : Bytes) (e : Edit) (ms : List Record) → IsFound e ms → Replaces (taken m e ms) (given m e ms) (values_in m ms) (values_in m (in_members e ms))
edit-replaces m (Edit.insert new) ms h = (values_in m ms, [], sym (append-nil (values_in m ms)), in-append m ms (map new_field new ∷ []))
edit-replaces m (Edit.on j a) ms h =
    let r : Record = get_or ms j [] in
    let g : Record → List Record = λ (x : Record). filter is_filled (in_record a x ∷ []) in
    let k = member-parts g j ms (ltb-true j (length ms) h.0) in
    let c = within-longer (taken_off m a r) (put_there m a r) (values_of m r) (values_of m (in_record a r)) (values_in m k.0) (values_in m k.1) (act-replaces m a r (on-field j a ms h)) in (
      c.0,
      c.1,
      ap (values_in m) k.2 ∙ in-append m k.0 (r ∷ k.1) ∙ c.2,
      ap (values_in m) k.3 ∙ in-append m k.0 (g r ++ k.1) ∙ ap (λ (vs : List Bytes). values_in m k.0 ++ vs) (in-append m (g r) k.1 ∙ ap (λ (vs : List Bytes). vs ++ values_in m k.1) (left-values m (in_record a r))) ∙ c.3,
    )
