-- The tagged fields of a request: reading them behind so many bytes, and the law that what the encoder makes of a request reads as that request.
use Prim.Native.Nat.{ℕ, zero, suc, ◌+◌, ◌≤◌, ◌<◌}
use native.Mathlib.Nat.{not-suc-le-zero, div-add-mod', div-lt_iff_lt-mul, mod-lt}
use native.Mathlib.Omega.{arith}
use mathlib.Core.Path.{◌≡◌, refl, ap, ◌∙◌}
use mathlib.Core.Bool.{Bool}
use mathlib.Core.List.{List, [], ◌∷◌, ◌++◌, map}
use mathlib.Core.Option.{Option, none, some}
use lib.ListN.{length, take, drop, length-append}
use lib.Seq.{take-append_seam, drop-append_seam}
use borrow.Author.Tests.{le-leb}
use Rattle.format.specs.Bytes.{Bytes, pick}
use Rattle.format.specs.Lists.{onward, flat}
use Rattle.format.specs.Limits.{file_bytes}
use Rattle.format.specs.Written.{Pair}
use Rattle.format.specs.Edits.{Change, Act, Edit}
use Rattle.format.specs.Requests.{Tagged, tagged_from, tagged, short_at, Request, pairs_of, inserts, asks_for, request_of, short, tag, pair_fields, change_fields, edit_fields, kind_of, tagged_bytes, encoded}
use Rattle.format.proofs.Elements.{Each, each_append}
use Rattle.format.proofs.Grouping.{HasPairs}

-- the fields behind so many bytes: those of the rest, and none where there are fewer bytes
pub tagged-behind : (k : ℕ) (s : Bytes) → k ≤ length s → tagged_from k s ≡ tagged_from zero (drop k s)
tagged-behind zero s h = refl
tagged-behind (suc k) [] h = absurd (not-suc-le-zero h)
tagged-behind (suc k) (c ∷ s) h = tagged-behind k s (omega arith)

pub tagged-cut-off : (k : ℕ) (s : Bytes) → length s < k → tagged_from k s ≡ none
tagged-cut-off zero s h = absurd (not-suc-le-zero h)
tagged-cut-off (suc k) [] h = refl
tagged-cut-off (suc k) (c ∷ s) h = tagged-cut-off k s (omega arith)

-- two bytes hold a number
pub short_back : (n : ℕ) → short_at (short n) ≡ n
short_back n = div-add-mod' n 256

-- fields

field_back : (t : ℕ) (c s : Bytes) (fs : List Tagged) → tagged_from zero s ≡ some fs → tagged_from zero (tagged_bytes (tag t c) ++ s) ≡ some (tag t c ∷ fs)
field_back t c s fs h = go (short_at (short (length c))) (short_back (length c))
  where
    go : (n : ℕ) → n ≡ length c → onward (λ (gs : List Tagged). some (record { tag = t; contents = take n (c ++ s) } ∷ gs)) (tagged_from n (c ++ s)) ≡ some (tag t c ∷ fs)
    go n e =
        let x : tagged_from n (c ++ s) ≡ some fs = ap (λ (k : ℕ). tagged_from k (c ++ s)) e ∙ tagged-behind (length c) (c ++ s) (simp length-append (omega arith)) ∙ ap (tagged_from zero) (drop-append_seam c s) ∙ h in
        let w : take n (c ++ s) ≡ c = ap (λ (k : ℕ). take k (c ++ s)) e ∙ take-append_seam c s in
        rw (x, w)

pub fields_back : (fs : List Tagged) → tagged (flat (map tagged_bytes fs)) ≡ some fs
unfolding tagged
fields_back [] = refl
fields_back (f ∷ fs) = field_back f.tag f.contents (flat (map tagged_bytes fs)) fs (fields_back fs)

-- and what they say

pairs-back : (ps : List Pair) → pairs_of (flat (map pair_fields ps)) ≡ some ps
pairs-back [] = refl
pairs-back (p ∷ ps) = ap (onward (λ (qs : List Pair). some (p ∷ qs))) (pairs-back ps)

abbrev pub request_fields : Request → List Tagged
request_fields q = tag 1 (kind_of q.edit ∷ []) ∷ tag 2 q.set ∷ edit_fields q.edit

abbrev by : Bytes → Edit → Request
by s e = record { set = s; edit = e }

asks_back : (s : Bytes) (e : Edit) → HasPairs e → asks_for (request_fields (by s e)) ≡ some (by s e)
asks_back s (Edit.insert []) h = absurd h
asks_back s (Edit.insert (p ∷ ps)) h = ap (λ (x : Option (List Pair)). onward (λ (e : Edit). some (by s e)) (onward inserts x)) (pairs-back (p ∷ ps))
asks_back s (Edit.on r Act.delete) h = ap (λ (k : ℕ). some (by s (Edit.on k Act.delete))) (short_back r)
asks_back s (Edit.on r (Act.add p)) h = ap (λ (k : ℕ). some (by s (Edit.on k (Act.add p)))) (short_back r)
asks_back s (Edit.on r (Act.change n o (Change.value v))) h = λ i. some (by s (Edit.on (short_back r i) (Act.change n (short_back o i) (Change.value v))))
asks_back s (Edit.on r (Act.change n o Change.dropped)) h = λ i. some (by s (Edit.on (short_back r i) (Act.change n (short_back o i) Change.dropped)))
asks_back s (Edit.on r (Act.change n o (Change.name m))) h = λ i. some (by s (Edit.on (short_back r i) (Act.change n (short_back o i) (Change.name m))))

-- A request that can be encoded: an insert has a pair, and the whole is not too long (so no name or value is).
abbrev pub Encodable : Request → Type 0
Encodable q = HasPairs q.edit × (length (encoded q) ≤ file_bytes)

pub encoded-reads : (q : Request) → Encodable q → request_of (encoded q) ≡ some q
unfolding encoded request_of
encoded-reads q h =
    ap (λ (t : Bool). pick t (onward asks_for (tagged (encoded q))) none) (le-leb (length (encoded q)) file_bytes h.1)
    ∙ ap (onward asks_for) (fields_back (request_fields q))
    ∙ asks_back q.set q.edit h.0

-- Its bytes are bytes where the contents of its fields are; those of a number are, below 65,536.

abbrev pub IsByte : ℕ → Type 0
IsByte c = c < 256

pub short-bytes : (n : ℕ) → n < 65536 → Each IsByte (short n)
short-bytes n h = ((div-lt_iff_lt-mul {k = 256} {x = n} {y = 256} (omega arith)).1 h, (mod-lt n (omega arith), tt))

fields-bytes : (fs : List Tagged) → Each (λ (f : Tagged). IsByte f.tag) fs → Each (λ (f : Tagged). Each IsByte f.contents) fs → length (flat (map tagged_bytes fs)) ≤ file_bytes → Each IsByte (flat (map tagged_bytes fs))
fields-bytes [] t h l = tt
fields-bytes (f ∷ fs) t h l =
    let c : Bytes = f.contents in
    let s : Bytes = flat (map tagged_bytes fs) in
    let n : length (c ++ s) ≡ length c + length s = length-append c s in
    let b = short-bytes (length c) (omega arith) in
    (t.0, (b.0, (b.1.0, each_append IsByte c s h.0 (fields-bytes fs t.1 h.1 (omega arith)))))

pair-tags : (ps : List Pair) → Each (λ (f : Tagged). IsByte f.tag) (flat (map pair_fields ps))
pair-tags [] = tt
pair-tags (p ∷ ps) = (omega arith, (omega arith, pair-tags ps))

change-tags : (c : Change) → Each (λ (f : Tagged). IsByte f.tag) (change_fields c)
change-tags (Change.value v) = (omega arith, tt)
change-tags Change.dropped = tt
change-tags (Change.name m) = (omega arith, tt)

edit-tags : (e : Edit) → Each (λ (f : Tagged). IsByte f.tag) (edit_fields e)
edit-tags (Edit.insert new) = pair-tags new
edit-tags (Edit.on r Act.delete) = (omega arith, tt)
edit-tags (Edit.on r (Act.add p)) = (omega arith, pair-tags (p ∷ []))
edit-tags (Edit.on r (Act.change n o c)) = (omega arith, (omega arith, (omega arith, change-tags c)))

pub encoded-bytes : (q : Request) → Encodable q → Each (λ (f : Tagged). Each IsByte f.contents) (request_fields q) → Each IsByte (encoded q)
unfolding encoded
encoded-bytes q h k = fields-bytes (request_fields q) (omega arith, (omega arith, edit-tags q.edit)) k h.1
