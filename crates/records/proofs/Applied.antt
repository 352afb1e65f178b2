-- What an accepted request does to the bytes, by the answers of the searches.
use Rattle.std.specs.Prelude.{Some}
use Prim.Native.Nat.{ℕ, ◌+◌}
use mathlib.Core.Path.{◌≡◌, refl, sym, ◌∙◌, subst}
use mathlib.Core.Bool.{true}
use mathlib.Core.List.{List, []}
use mathlib.Core.Option.{some}
use lib.ListN.{length, drop}
use Rattle.format.specs.Bytes.{Bytes}
use Rattle.format.specs.Pieces.{bytes_of, read_of}
use Rattle.format.specs.Sets.{sets_of}
use Rattle.format.specs.Written.{Pair, written}
use Rattle.format.specs.Edits.{Change, Act, Edit, edit_pieces}
use Rattle.format.specs.Requests.{Request}
use Rattle.format.specs.Plain.{plain_of, index_of, apply_in, apply}
use Rattle.format.proofs.Splices.{spliced}
use Rattle.records.specs.Places.{is_readable, places_of, head_place, record_place, field_place}
use Rattle.records.specs.Sets.{set_end}
use Rattle.records.specs.declared.Place.{Place}
use Rattle.records.specs.declared.Head.{Head}
use Rattle.records.proofs.Members.{head-told}
use Rattle.records.proofs.Unfielding.{left_of}
use Rattle.records.proofs.RecordEdits.{own_part, add-found, delete-found, value_found, dropped-found, name-found}
use Rattle.records.proofs.SetInserts.{InsertTold, insert-told}

-- the bytes after a request
abbrev pub applied_to : Bytes → Request → Bytes
applied_to s r = bytes_of (apply r (plain_of (read_of s))).pieces

-- the head of the request's set is found
module _ (s : Bytes) (r : Request) (head : Head) (e : is_readable s ≡ true) (f : head_place r.set (places_of s) ≡ Some head) where
  index : (i : ℕ) × (index_of r.set (sets_of (read_of s)) ≡ some i)
  index = let m = head-told s r.set (Some head) e (sym f) refl in (m.set.index, m.set.there)

  abbrev i : ℕ
  i = index.0

  applied-at : (edit : Edit) → r.edit ≡ edit → applied_to s r ≡ bytes_of (edit_pieces i edit (read_of s))
  unfolding apply plain_of
  applied-at edit h = (λ j. bytes_of (apply_in (index.1 j) (h j) (plain_of (read_of s))).pieces)

  pub insert-applied : (new : List Pair) → r.edit ≡ Edit.insert new → InsertTold s (head.begin + set_end 0 (places_of (drop head.begin s))) new (applied_to s r)
  insert-applied new h = subst (InsertTold s (head.begin + set_end 0 (places_of (drop head.begin s))) new) (sym (applied-at (Edit.insert new) h)) (insert-told s new e r.set head i f index.1)

  -- its record at q from there on
  module _ (row : ℕ) (q : Place) (g : record_place (places_of (drop head.begin s)) row ≡ Some q) where
    pub add-applied : (new : Pair) → r.edit ≡ Edit.on row (Act.add new) → applied_to s r ≡ spliced s (head.begin + q.end) (head.begin + q.end) (written new.name new.value)
    add-applied new h = applied-at (Edit.on row (Act.add new)) h ∙ add-found s r.set head row i q e f g index.1 new

    pub delete-applied : r.edit ≡ Edit.on row Act.delete → applied_to s r ≡ spliced s (head.begin + q.start) (head.begin + q.end) (left_of (own_part s head.begin q))
    delete-applied h = applied-at (Edit.on row Act.delete) h ∙ delete-found s r.set head row i q e f g index.1

    -- its field from x to z in the record's own part
    module _ (n : Bytes) (o x v z : ℕ) (k : field_place n (own_part s head.begin q) o ≡ Some (record { start = x; value = v; end = z })) where
      pub value-applied : (w : Bytes) → r.edit ≡ Edit.on row (Act.change n o (Change.value w)) → applied_to s r ≡ spliced s (head.begin + q.start + x) (head.begin + q.start + z) (written n w)
      value-applied w h = applied-at (Edit.on row (Act.change n o (Change.value w))) h ∙ value_found s r.set head row i q e f g index.1 n o x v z k w

      pub dropped-applied : r.edit ≡ Edit.on row (Act.change n o Change.dropped) → applied_to s r ≡ spliced s (head.begin + q.start + x) (head.begin + q.start + z) []
      dropped-applied h = applied-at (Edit.on row (Act.change n o Change.dropped)) h ∙ dropped-found s r.set head row i q e f g index.1 n o x v z k

      pub name-applied : (m : Bytes) → r.edit ≡ Edit.on row (Act.change n o (Change.name m)) → applied_to s r ≡ spliced s (head.begin + q.start + x) (head.begin + q.start + x + length n) m
      name-applied m h = applied-at (Edit.on row (Act.change n o (Change.name m))) h ∙ name-found s r.set head row i q e f g index.1 n o x v z k m
