-- The six kinds, and what a request that was read stands for.
use Rattle.requests.specs.declared.kinds.Changed.{Changed}
use Rattle.requests.specs.declared.kinds.Request.{Request}
use Rattle.std.specs.Prelude.{ℕ, ◌<◌, ◌≡◌, true, List, [], ◌∷◌, length, Option as Maybe, Some, None}
use Rattle.std.proofs.Math.Option.{Option, none, some}
use Rattle.format.specs.Lists.{onward}
use Rattle.format.specs.Bytes.{Bytes, is_some}
use Rattle.format.specs.Requests.{Tagged, Request as Asked, with_text, with_number, ends, pairs_of, inserts, changes, by_kind}
use Rattle.format.specs.Edits.{Change, Act, Edit}
use Rattle.requests.specs.declared.kinds.Change.{Change as ReadChange}
use Rattle.requests.specs.declared.kinds.Act.{Act as ReadAct}
use Rattle.requests.specs.declared.kinds.Edit.{Edit as ReadEdit}
use Rattle.requests.specs.declared.kinds.Kind.{Kind as ReadKind}
use Rattle.requests.specs.declared.kinds.Means.{Means}
use Rattle.requests.specs.Fields.{bytes_of, InSpan, fields_from}
use Rattle.requests.specs.Pairs.{pairs_from, pairs_at, with_pair}

-- the fields behind the kind and the set, of each kind
abbrev pub Kind : Type 0
Kind = List Tagged → Option Edit

abbrev pub insert_kind : Kind
insert_kind fs = onward inserts (pairs_of fs)

abbrev pub deletes : ℕ → List Tagged → Option Edit
deletes r = ends (Edit.on r Act.delete)

abbrev pub delete_kind : Kind
delete_kind fs = with_number 3 deletes fs

abbrev pub adds : ℕ → Bytes → Bytes → List Tagged → Option Edit
adds r n v = ends (Edit.on r (Act.add (record { name = n; value = v })))

abbrev pub add_kind : Kind
add_kind fs = with_number 3 (λ (r : ℕ). with_pair (adds r)) fs

-- the fields behind the place of a field, of the kinds that change one
abbrev pub sets : List Tagged → Option Change
sets fs = with_text 6 (λ (v : Bytes). ends (Change.value v)) fs

abbrev pub drops : List Tagged → Option Change
drops fs = ends Change.dropped fs

abbrev pub renames : List Tagged → Option Change
renames fs = with_text 7 (λ (m : Bytes). ends (Change.name m)) fs

abbrev pub change_kind : Means → List Tagged → Option Change
change_kind Means.Set = sets
change_kind Means.Drop = drops
change_kind Means.Rename = renames

-- the fields of a kind, and the kind of a number
abbrev pub kind_fields : ReadKind → Kind
kind_fields ReadKind.Insert = insert_kind
kind_fields ReadKind.Delete = delete_kind
kind_fields ReadKind.Add = add_kind
kind_fields (ReadKind.Change m) = changes (change_kind m)

abbrev pub KindOf : ℕ → Maybe ReadKind → Type 0
KindOf n (Some k) = (fs : List Tagged) → by_kind (n ∷ []) fs ≡ kind_fields k fs
KindOf n None = (fs : List Tagged) → by_kind (n ∷ []) fs ≡ none

-- what a request that was read stands for
abbrev pub change_of : Bytes → ReadChange → Change
change_of s (ReadChange.Value v) = Change.value (bytes_of s v)
change_of s ReadChange.Dropped = Change.dropped
change_of s (ReadChange.Name m) = Change.name (bytes_of s m)

abbrev pub act_of : Bytes → ReadAct → Act
act_of s ReadAct.Delete = Act.delete
act_of s (ReadAct.Add n v) = Act.add (record { name = bytes_of s n; value = bytes_of s v })
act_of s (ReadAct.Change n o c) = Act.change (bytes_of s n) o (change_of s c)

abbrev pub edit_of : Bytes → ReadEdit → Edit
edit_of s (ReadEdit.Insert i) = Edit.insert (pairs_at s i)
edit_of s (ReadEdit.On r a) = Edit.on r (act_of s a)

abbrev pub edit_answer : Bytes → Maybe ReadEdit → Option Edit
edit_answer s (Some e) = some (edit_of s e)
edit_answer s None = none

abbrev pub request_answer : Bytes → Maybe Request → Option Asked
request_answer s (Some q) = some (record { set = bytes_of s q.set; edit = edit_of s q.edit })
request_answer s None = none

-- all its parts lie in the request, and an insert's fields are pairs
abbrev pub InChange : Bytes → ReadChange → Type 0
InChange s (ReadChange.Value v) = InSpan s v
InChange s ReadChange.Dropped = Unit {0}
InChange s (ReadChange.Name m) = InSpan s m

abbrev pub InAct : Bytes → ReadAct → Type 0
InAct s ReadAct.Delete = Unit {0}
InAct s (ReadAct.Add n v) = InSpan s n × InSpan s v
InAct s (ReadAct.Change n o c) = InSpan s n × InChange s c

abbrev pub InEdit : Bytes → ReadEdit → Type 0
InEdit s (ReadEdit.Insert i) = (i < length s) × (is_some (pairs_from s i) ≡ true)
InEdit s (ReadEdit.On r a) = InAct s a

abbrev pub Formed : Bytes → Maybe ReadEdit → Type 0
Formed s (Some e) = InEdit s e
Formed s None = Unit {0}

abbrev pub Inside : Bytes → Maybe Request → Type 0
Inside s (Some q) = InSpan s q.set × InEdit s q.edit
Inside s None = Unit {0}

-- a change of a kind, by its fields from a place on: what follows is what its last field ends with
abbrev pub ChangeAt : Means → Bytes → ℕ → Maybe Changed → Type 0
ChangeAt k s i (Some cx) = (onward (change_kind k) (fields_from s i) ≡ onward (ends (change_of s cx.change)) (fields_from s cx.end)) × InChange s cx.change
ChangeAt k s i None = onward (change_kind k) (fields_from s i) ≡ none

-- an edit of a kind, by its fields from a place on
abbrev pub Reads : Kind → Bytes → ℕ → Maybe ReadEdit → Type 0
Reads kind s i r = (edit_answer s r ≡ onward kind (fields_from s i)) × Formed s r

-- an edit whose last field ends at k
abbrev pub Ends : Bytes → ReadEdit → ℕ → Maybe ReadEdit → Type 0
Ends s e k r = Reads (ends (edit_of s e)) s k r

-- an edit of a set, where there is one
abbrev pub of_set : Bytes → Option Edit → Option Asked
of_set b x = onward (λ (e : Edit). some (record { set = b; edit = e })) x
