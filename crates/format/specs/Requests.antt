-- Requests: tagged fields and the six kinds.
use Rattle.std.specs.Prelude.{ℕ, zero, suc, ◌+◌, ◌*◌, ◌/◌, ◌%◌, ◌&&◌, List, [], ◌∷◌, ◌++◌, map, leb, eqb, length, take, drop, get_or}
use Rattle.std.proofs.Math.Option.{Option, none, some}
use Rattle.format.specs.Bytes.{Bytes, pick, same}
use Rattle.format.specs.Lists.{onward, flat}
use Rattle.format.specs.Limits.{file_bytes}
use Rattle.format.specs.Written.{Pair}
use Rattle.format.specs.Edits.{Change, Act, Edit}

-- "one-byte tag, two-byte length (high byte first), contents"
pub record Tagged : Type 0 where
  pub tag : ℕ
  pub contents : Bytes

-- the number of the two bytes that a text begins with
abbrev pub short_at : Bytes → ℕ
short_at s = get_or s 0 0 * 256 + get_or s 1 0

-- the fields of a text, behind so many bytes that a field before it has
abbrev pub tagged_from : ℕ → Bytes → Option (List Tagged)
tagged_from zero [] = some []
tagged_from (suc k) [] = none
tagged_from zero (t ∷ s) = onward (λ (fs : List Tagged). some (record { tag = t; contents = take (short_at s) (drop 2 s) } ∷ fs)) (tagged_from (suc (suc (short_at s))) s)
tagged_from (suc k) (c ∷ s) = tagged_from k s

unfoldable pub tagged : Bytes → Option (List Tagged)
tagged s = tagged_from zero s

-- an edit of the set of a name
pub record Request : Type 0 where
  pub set : Bytes
  pub edit : Edit

-- the next field has a tag, and what follows from its contents
abbrev pub with_text : {A : Type 0} → ℕ → (Bytes → List Tagged → Option A) → List Tagged → Option A
with_text t k [] = none
with_text t k (f ∷ fs) = pick (eqb t f.tag) (k f.contents fs) none

-- "record (two bytes, from 0)", "occurrence of that name (two bytes, from 0)"
abbrev pub with_number : {A : Type 0} → ℕ → (ℕ → List Tagged → Option A) → List Tagged → Option A
with_number t k fs = with_text t (λ (c : Bytes) (gs : List Tagged). pick (eqb (length c) 2) (k (short_at c) gs) none) fs

abbrev pub ends : {A : Type 0} → A → List Tagged → Option A
ends a [] = some a
ends a (f ∷ fs) = none

-- "one or more pairs 4 6"
abbrev pub pairs_of : List Tagged → Option (List Pair)
pairs_of [] = some []
pairs_of (f ∷ []) = none
pairs_of (f ∷ g ∷ fs) = pick (eqb 4 f.tag && eqb 6 g.tag) (onward (λ (ps : List Pair). some (record { name = f.contents; value = g.contents } ∷ ps)) (pairs_of fs)) none

abbrev pub inserts : List Pair → Option Edit
inserts [] = none
inserts (p ∷ ps) = some (Edit.insert (p ∷ ps))

-- record, name and occurrence, and then the change
abbrev pub changes : (List Tagged → Option Change) → List Tagged → Option Edit
changes k fs =
    with_number 3 (λ (r : ℕ). with_text 4 (λ (n : Bytes). with_number 5 (λ (o : ℕ) (gs : List Tagged). onward (λ (c : Change). some (Edit.on r (Act.change n o c))) (k gs)))) fs

-- "1 insert 1 2 then one or more pairs 4 6; 2 delete 1 2 3; 3 add 1 2 3 4 6; 4 set 1 2 3 4 5 6; 5 drop 1 2 3 4 5; 6 rename 1 2 3 4 5 7"
abbrev pub by_kind : Bytes → List Tagged → Option Edit
by_kind k fs =
    pick (same k (1 ∷ [])) (onward inserts (pairs_of fs))
    (pick (same k (2 ∷ [])) (with_number 3 (λ (r : ℕ). ends (Edit.on r Act.delete)) fs)
    (pick (same k (3 ∷ [])) (with_number 3 (λ (r : ℕ). with_text 4 (λ (n : Bytes). with_text 6 (λ (v : Bytes). ends (Edit.on r (Act.add (record { name = n; value = v })))))) fs)
    (pick (same k (4 ∷ [])) (changes (with_text 6 (λ (v : Bytes). ends (Change.value v))) fs)
    (pick (same k (5 ∷ [])) (changes (ends Change.dropped) fs)
    (pick (same k (6 ∷ [])) (changes (with_text 7 (λ (m : Bytes). ends (Change.name m))) fs)
    none)))))

abbrev pub asks_for : List Tagged → Option Request
asks_for fs = with_text 1 (λ (k : Bytes). with_text 2 (λ (s : Bytes) (gs : List Tagged). onward (λ (e : Edit). some (record { set = s; edit = e })) (by_kind k gs))) fs

-- "request of the form above, at most 65,536 bytes?"
unfoldable pub request_of : Bytes → Option Request
unfolding tagged
request_of s = pick (leb (length s) file_bytes) (onward asks_for (tagged s)) none

-- "A run of requests, each after its length (two bytes, high first)": the requests of a text, behind so many bytes that a request before it has
abbrev pub requests_from : ℕ → Bytes → Option (List Bytes)
requests_from zero [] = some []
requests_from (suc k) [] = none
requests_from zero (c ∷ s) = let n : ℕ = short_at (c ∷ s) in onward (λ (qs : List Bytes). some (take n (drop 1 s) ∷ qs)) (requests_from (suc n) s)
requests_from (suc k) (c ∷ s) = requests_from k s

unfoldable pub requests_in : Bytes → Option (List Bytes)
requests_in s = requests_from zero s

-- The same the other way: the fields of a request, and their bytes.

abbrev pub short : ℕ → Bytes
short n = n / 256 ∷ n % 256 ∷ []

abbrev pub tag : ℕ → Bytes → Tagged
tag t c = record { tag = t; contents = c }

abbrev pub pair_fields : Pair → List Tagged
pair_fields p = tag 4 p.name ∷ tag 6 p.value ∷ []

abbrev pub change_fields : Change → List Tagged
change_fields (Change.value v) = tag 6 v ∷ []
change_fields Change.dropped = []
change_fields (Change.name m) = tag 7 m ∷ []

abbrev pub edit_fields : Edit → List Tagged
edit_fields (Edit.insert new) = flat (map pair_fields new)
edit_fields (Edit.on r Act.delete) = tag 3 (short r) ∷ []
edit_fields (Edit.on r (Act.add p)) = tag 3 (short r) ∷ pair_fields p
edit_fields (Edit.on r (Act.change n o c)) = tag 3 (short r) ∷ tag 4 n ∷ tag 5 (short o) ∷ change_fields c

abbrev pub kind_of : Edit → ℕ
kind_of (Edit.insert new) = 1
kind_of (Edit.on r Act.delete) = 2
kind_of (Edit.on r (Act.add p)) = 3
kind_of (Edit.on r (Act.change n o (Change.value v))) = 4
kind_of (Edit.on r (Act.change n o Change.dropped)) = 5
kind_of (Edit.on r (Act.change n o (Change.name m))) = 6

abbrev pub tagged_bytes : Tagged → Bytes
tagged_bytes f = f.tag ∷ (short (length f.contents) ++ f.contents)

unfoldable pub encoded : Request → Bytes
encoded q = flat (map tagged_bytes (tag 1 (kind_of q.edit ∷ []) ∷ tag 2 q.set ∷ edit_fields q.edit))

abbrev pub run_bytes : List Bytes → Bytes
run_bytes qs = flat (map (λ (q : Bytes). short (length q) ++ q) qs)
