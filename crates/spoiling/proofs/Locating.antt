-- What an edit touches and brings, by the record and the field that it names.
use Prim.Native.Nat.{ℕ, zero, suc, ◌<◌}
use native.Mathlib.Omega.{arith}
use mathlib.Core.Path.{◌≡◌, refl, sym, ap, ◌∙◌}
use mathlib.Core.Bool.{Bool, true, false, ◌&&◌}
use mathlib.Core.List.{List, [], ◌∷◌, map}
use mathlib.Core.Option.{Option, none, some}
use lib.Dec.{eqb}
use lib.ListN.{length, get_or}
use Rattle.format.specs.Bytes.{Bytes, pick, all, same}
use Rattle.format.specs.Lists.{is_filled, filter, flat, turn, always}
use Rattle.format.specs.Records.{Field, Record}
use Rattle.format.specs.Sets.{values_of, RecSet}
use Rattle.format.specs.Rules.{key, singular, distinct}
use Rattle.format.specs.Questions.{fits_record, occurrences, values_in}
use Rattle.format.specs.Numbers.{Bounds}
use Rattle.format.specs.Numbering.{or_else}
use Rattle.format.specs.Edits.{Change, Act, Edit, is_named, change_field, in_record}
use Rattle.format.proofs.Elements.{all_yes}
use Rattle.format.proofs.Listing.{same_true}
use Rattle.format.proofs.Least.{leasts}
use Rattle.format.proofs.Judging.{record_no}
use Rattle.spoiling.specs.Effects.{kth_of, touched_by, fresh_of, fresh_by, kept_by, are_apart, keys_stay_apart, size_stays_met, singular_stay_apart, spoiled_no}
use Rattle.spoiling.proofs.Kth.{kth-element}

-- an act on a record of the set
module _ (j : ℕ) (a : Act) (ms : List Record) (l : j < length ms) where
  pub touched-record : touched_by (Edit.on j a) ms ≡ filter is_filled (in_record a (get_or ms j []) ∷ [])
  touched-record = ap (or_else [] (λ (r : Record). filter is_filled (in_record a r ∷ []))) (kth-element [] ms j l)

  pub fresh-record : fresh_by (Edit.on j a) ms ≡ fresh_of a (get_or ms j [])
  fresh-record = ap (or_else [] (fresh_of a)) (kth-element [] ms j l)

-- an occurrence of a name in a record: the field, its name and its value
pub record Occurs (n : Bytes) (o : ℕ) (r : Record) : Type 0 where
  pub field : Field
  pub here : kth_of (is_named n) o r ≡ some field
  pub name-is : field.name ≡ n
  pub value-is : field.value ≡ get_or (values_of n r) o []

pub occurs-there : (n : Bytes) (r : Record) (o : ℕ) → o < occurrences n r → Occurs n o r
occurs-there n [] o h = absurd (omega arith)
occurs-there n (f ∷ r) o h = go (same n f.name) refl o h (occurs-there n r)
  where
    later : (k o : ℕ) (b : Bool) → same n f.name ≡ b → turn b o (some f) (λ (j : ℕ). kth_of (is_named n) j r) ≡ kth_of (is_named n) k r → get_or (pick b (f.value ∷ values_of n r) (values_of n r)) o [] ≡ get_or (values_of n r) k [] → Occurs n k r → Occurs n o (f ∷ r)
    later k o b e p q x = record {
      field = x.field;
      here = ap (λ (t : Bool). turn t o (some f) (λ (j : ℕ). kth_of (is_named n) j r)) e ∙ p ∙ x.here;
      name-is = x.name-is;
      value-is = x.value-is ∙ sym q ∙ ap (λ (t : Bool). get_or (pick t (f.value ∷ values_of n r) (values_of n r)) o []) (sym e);
    }

    go : (b : Bool) → same n f.name ≡ b → (o : ℕ) → o < length (pick (same n f.name) (f.value ∷ values_of n r) (values_of n r)) → ((k : ℕ) → k < occurrences n r → Occurs n k r) → Occurs n o (f ∷ r)
    go true e zero h ih = record {
      field = f;
      here = ap (λ (t : Bool). turn t 0 (some f) (λ (j : ℕ). kth_of (is_named n) j r)) e;
      name-is = sym (same_true n f.name e);
      value-is = ap (λ (t : Bool). get_or (pick t (f.value ∷ values_of n r) (values_of n r)) 0 []) (sym e);
    }
    go true e (suc k) h ih = later k (suc k) true e refl refl (ih k (omega (arith, ap (λ (t : Bool). length (pick t (f.value ∷ values_of n r) (values_of n r))) e)))
    go false e o h ih = later o o false e refl refl (ih o (omega (arith, ap (λ (t : Bool). length (pick t (f.value ∷ values_of n r) (values_of n r))) e)))

-- What a change brings of a name m: a set its new value, a rename the old value, each where the field is called m afterwards.
module _ (n : Bytes) (o : ℕ) (r : Record) (h : o < occurrences n r) where
  change-fresh : (m : Bytes) (c : Change) → values_of m (fresh_of (Act.change n o c) r) ≡ values_of m (change_field c (occurs-there n r o h).field)
  change-fresh m c = ap (λ (x : Option Field). values_of m (or_else [] (change_field c) x)) (occurs-there n r o h).here

  pub set-fresh : (m w : Bytes) → values_of m (fresh_of (Act.change n o (Change.value w)) r) ≡ pick (same m n) (w ∷ []) []
  set-fresh m w = change-fresh m (Change.value w) ∙ ap (λ (x : Bytes). pick (same m x) (w ∷ []) []) (occurs-there n r o h).name-is

  pub rename-fresh : (m k : Bytes) → values_of m (fresh_of (Act.change n o (Change.name k)) r) ≡ pick (same m k) (get_or (values_of n r) o [] ∷ []) []
  rename-fresh m k = change-fresh m (Change.name k) ∙ ap (λ (v : Bytes). pick (same m k) (v ∷ []) []) (occurs-there n r o h).value-is

-- drop and delete bring no field, and no record is left of a deleted one

none_of : {A B : Type 0} (x : Option A) → or_else {A = A} {B = List B} [] (λ y. []) x ≡ []
none_of none = refl
none_of (some a) = refl

pub drop-fresh : (j : ℕ) (n : Bytes) (o : ℕ) (ms : List Record) → fresh_by (Edit.on j (Act.change n o Change.dropped)) ms ≡ []
drop-fresh j n o ms = go (kth_of always j ms)
  where
    go : (x : Option Record) → or_else [] (fresh_of (Act.change n o Change.dropped)) x ≡ []
    go none = refl
    go (some r) = none_of (kth_of (is_named n) o r)

pub delete-fresh : (j : ℕ) (ms : List Record) → fresh_by (Edit.on j Act.delete) ms ≡ []
delete-fresh j ms = none_of (kth_of always j ms)

pub delete-touched : (j : ℕ) (ms : List Record) → touched_by (Edit.on j Act.delete) ms ≡ []
delete-touched j ms = none_of (kth_of always j ms)

-- an edit that brings no field keeps keys and singular values apart

flat-nothing : (ns : List Bytes) → flat (map (λ (n : Bytes). values_of n []) ns) ≡ []
flat-nothing [] = refl
flat-nothing (n ∷ ns) = flat-nothing ns

pub nothing-spoiled : (e : Edit) (s : RecSet) → fresh_by e s.members ≡ [] → (keys_stay_apart e s ≡ true) × (singular_stay_apart e s ≡ true)
nothing-spoiled e s h =
    let stays : Bytes → List Bytes = λ (n : Bytes). values_in n (kept_by e s.members) in
    let keys : Record → List Bytes = λ (f : Record). flat (map (λ (n : Bytes). values_of n f) (key s.rules)) in
    let rest : List Bytes = flat (map stays (key s.rules)) in (
      ap (λ (f : Record). are_apart (keys f) rest) h ∙ ap (λ (vs : List Bytes). are_apart vs rest) (flat-nothing (key s.rules)),
      ap (λ (f : Record). all (λ (n : Bytes). distinct (values_of n f) && are_apart (values_of n f) (stays n)) (singular s.rules)) h ∙ all_yes (singular s.rules),
    )

-- A delete can spoil the size alone.
pub delete-asks-size : (b : Bounds) (j : ℕ) (s : RecSet) → spoiled_no b (Edit.on j Act.delete) s ≡ pick (size_stays_met b (Edit.on j Act.delete) s) 0 14
unfolding spoiled_no
delete-asks-size b j s =
    let e : Edit = Edit.on j Act.delete in
    let n = nothing-spoiled e s (delete-fresh j s.members) in
    ap (λ (ts : List Record). pick (all fits_record ts) (pick (eqb (leasts (map (record_no b s.rules) ts)) 0) (pick (keys_stay_apart e s) (pick (size_stays_met b e s) (pick (singular_stay_apart e s) 0 30) 14) 13) (leasts (map (record_no b s.rules) ts))) 4) (delete-touched j s.members)
    ∙ (λ i. pick (n.0 i) (pick (size_stays_met b e s) (pick (n.1 i) 0 30) 14) 13)
