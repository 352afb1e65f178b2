-- How many records a set has after an edit.
use Prim.Native.Nat.{ℕ, zero, suc, ◌+◌, ◌-◌, ◌≤◌, ◌<◌}
use native.Mathlib.Omega.{arith}
use mathlib.Core.Path.{◌≡◌, refl, ap, ◌∙◌, subst}
use mathlib.Core.Bool.{Bool, true, false}
use mathlib.Core.List.{List, [], ◌∷◌, ◌++◌, map}
use mathlib.Core.Option.{some}
use lib.Dec.{ltb}
use lib.ListN.{length, get_or, length-append}
use borrow.Author.Tests.{ltb-true}
use Rattle.format.specs.Bytes.{Bytes, text, all}
use Rattle.format.specs.Lists.{is_filled, filter, turn, at, always}
use Rattle.format.specs.Words.{words}
use Rattle.format.specs.Records.{Field, Record}
use Rattle.format.specs.Sets.{values_of, RecSet}
use Rattle.format.specs.Numbers.{Bounds}
use Rattle.format.specs.Rules.{size_rule, meets_size}
use Rattle.format.specs.Questions.{occurrences, size_met}
use Rattle.format.specs.Written.{new_field}
use Rattle.format.specs.Edits.{Change, Act, Edit, is_named, change_field, in_record, in_members, in_set}
use Rattle.format.specs.Plain.{set_at, of_some, Occurrence, members_at, members_in, record_in, row_of, occurrence_of, leaves_field, Asked, index_of}
use Rattle.format.proofs.Applying.{Granted}
use Rattle.spoiling.specs.Effects.{count_after, size_stays_met}

-- an edit that questions 22 to 24 let pass, in a set of these records
pub record Applies (e : Edit) (ms : List Record) : Type 0 where
  pub row : of_some (λ (j : ℕ). ltb j (length ms)) (row_of e) ≡ true
  pub field : of_some (λ (o : Occurrence). ltb o.number (occurrences o.name (record_in ms (row_of e)))) (occurrence_of e) ≡ true
  pub left : leaves_field e (record_in ms (row_of e)) ≡ true

-- as they do where the edit's place is granted
members-of : (ss : List RecSet) (i : ℕ) → members_at i ss ≡ (set_at i ss).members
members-of [] i = refl
members-of (s ∷ ss) zero = refl
members-of (s ∷ ss) (suc i) = members-of ss i

pub granted-applies : (a : Asked) (i : ℕ) → Granted a → index_of a.request.set a.file.sets ≡ some i → Applies a.request.edit (set_at i a.file.sets).members
granted-applies a i g e =
    let q : Edit = a.request.edit in
    let ms : members_in a.file.sets (index_of a.request.set a.file.sets) ≡ (set_at i a.file.sets).members = ap (members_in a.file.sets) e ∙ members-of a.file.sets i in
    subst (Applies q) ms (record { row = g.found.1.0; field = g.found.1.1.0; left = g.left })

-- one record replaced by so many
replaced-count : (f : Record → List Record) (c : ℕ) (ms : List Record) (j : ℕ) → j < length ms → length (f (get_or ms j [])) ≡ c → length (at always j f ms) + 1 ≡ length ms + c
replaced-count f c [] j l h = absurd (omega arith)
replaced-count f c (r ∷ ms) zero l h = omega (arith, length-append (f r) ms)
replaced-count f c (r ∷ ms) (suc j) l h = omega (arith, replaced-count f c ms j (omega arith) h)

abbrev left : Act → Record → List Record
left a r = filter is_filled (in_record a r ∷ [])

filled-one : (r : Record) → 0 < length r → length (filter is_filled (r ∷ [])) ≡ 1
filled-one [] h = absurd (omega arith)
filled-one (f ∷ r) h = refl

-- a change leaves the other fields
change-length : (t : Field → Bool) (g : Field → Record) (c : ℕ) → ((f : Field) → length (g f) ≡ c) → (r : Record) (o : ℕ) → length r ≤ length (at t o g r) + (1 - c)
change-length t g c h [] o = omega arith
change-length t g c h (f ∷ r) o = go (t f) o (change-length t g c h r)
  where
    go : (b : Bool) (k : ℕ) → ((j : ℕ) → length r ≤ length (at t j g r) + (1 - c)) → suc (length r) ≤ length (turn b k (g f ++ r) (λ (j : ℕ). f ∷ at t j g r)) + (1 - c)
    go true zero ih = omega (arith, h f, length-append (g f) r)
    go true (suc k) ih = omega (arith, ih k)
    go false k ih = omega (arith, ih k)

-- a record in which a name occurs has a field
occurs-nonempty : (n : Bytes) (r : Record) (o : ℕ) → o < occurrences n r → 0 < length r
occurs-nonempty n [] o h = absurd (omega arith)
occurs-nonempty n (f ∷ r) o h = omega arith

change-leaves : (n : Bytes) (o : ℕ) (c : Change) (r : Record) (j : ℕ) → o < occurrences n r → leaves_field (Edit.on j (Act.change n o c)) r ≡ true → 0 < length (in_record (Act.change n o c) r)
change-leaves n o (Change.value w) r j h l = omega (arith, occurs-nonempty n r o h, change-length (is_named n) (change_field (Change.value w)) 1 (λ f. refl) r o)
change-leaves n o Change.dropped r j h l = omega (arith, ltb-true 1 (length r) l, change-length (is_named n) (change_field Change.dropped) 0 (λ f. refl) r o)
change-leaves n o (Change.name m) r j h l = omega (arith, occurs-nonempty n r o h, change-length (is_named n) (change_field (Change.name m)) 1 (λ f. refl) r o)

-- An insert makes one more, a delete one less, any other edit keeps the count.
pub members-after : (e : Edit) (ms : List Record) → Applies e ms → length (in_members e ms) ≡ count_after e (length ms)
members-after (Edit.insert new) ms h = omega (arith, length-append ms (map new_field new ∷ []))
members-after (Edit.on j Act.delete) ms h = omega (arith, replaced-count (left Act.delete) 0 ms j (ltb-true j (length ms) h.row) refl)
members-after (Edit.on j (Act.add p)) ms h =
    let r : Record = get_or ms j [] in
    omega (arith, replaced-count (left (Act.add p)) 1 ms j (ltb-true j (length ms) h.row) (filled-one (r ++ (new_field p ∷ [])) (omega (arith, length-append r (new_field p ∷ [])))))
members-after (Edit.on j (Act.change n o c)) ms h =
    let r : Record = get_or ms j [] in
    omega (arith, replaced-count (left (Act.change n o c)) 1 ms j (ltb-true j (length ms) h.row) (filled-one (in_record (Act.change n o c) r) (change-leaves n o c r j (ltb-true o (occurrences n r) h.field) h.left)))

pub size-met-after : (b : Bounds) (e : Edit) (s : RecSet) → Applies e s.members → size_met b (in_set e s) ≡ size_stays_met b e s
size-met-after b e s h = ap (λ (n : ℕ). all (λ (v : Bytes). meets_size (size_rule b (words v)) n) (values_of (text "%size") s.rules)) (members-after e s.members h)
