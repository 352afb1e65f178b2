-- A request built field by field: the buffer after each, and the law that what is built in the order of a kind reads as that request.
use Prim.Native.Nat.{ℕ, ◌+◌, ◌-◌, ◌/◌, ◌%◌, ◌≤◌, ◌<◌}
use native.Mathlib.Nat.{add-zero, zero-add}
use native.Mathlib.Omega.{arith}
use mathlib.Core.Path.{◌≡◌, refl, sym, ap, ◌∙◌}
use mathlib.Core.Bool.{Bool, true, false, and-eq-true_iff, and-false}
use mathlib.Core.List.{List, [], ◌∷◌, ◌++◌, map, append_assoc}
use mathlib.Core.Option.{some}
use lib.Dec.{leb}
use lib.ListN.{length, take, drop, set, length-append, length-set}
use lib.Seq.{sets, sets-eq, length-sets, drop-drop, take-append_seam}
use borrow.Author.Tests.{le-leb, lt-leb, leb-true, leb-false}
use Rattle.format.specs.Bytes.{Bytes}
use Rattle.format.specs.Lists.{flat}
use Rattle.format.specs.Limits.{file_bytes}
use Rattle.format.specs.Requests.{Tagged, Request, request_of, tag, tagged_bytes, encoded}
use Rattle.format.specs.Calls.{over, Built, has_room, field_answer, built}
use Rattle.format.proofs.Elements.{Each}
use Rattle.format.proofs.Grouping.{HasPairs}
use Rattle.format.proofs.Encoding.{request_fields, Encodable, encoded-reads}
use borrow.Rule.Slice.PartMut.{put_mid, mid_of}
use Rattle.lines.proofs.Over.{over-sets}
use Rattle.writing.proofs.Texts.{sets-append, part-sets}

-- room, as the code asks for it
module _ (room at n : ℕ) where
  pub room-long : 65535 < n → false ≡ has_room room at n
  room-long h = rw (lt-leb n 65535 h)

  pub room-beyond : n ≤ 65535 → room < at → false ≡ has_room room at n
  room-beyond h k = rw (le-leb n 65535 h, lt-leb (at + (3 + n)) room (omega arith))

  pub room-rest : n ≤ 65535 → at ≤ room → leb (3 + n) (room - at) ≡ has_room room at n
  room-rest h k = rw (le-leb n 65535 h) (go (leb (3 + n) (room - at)) refl)
    where
      go : (t : Bool) → leb (3 + n) (room - at) ≡ t → t ≡ leb (at + (3 + n)) room
      go true e = sym (le-leb (at + (3 + n)) room (omega (arith, leb-true (3 + n) (room - at) e)))
      go false e = sym (lt-leb (at + (3 + n)) room (omega (arith, leb-false (3 + n) (room - at) e)))

  pub is-room : n ≤ 65535 → at + (3 + n) ≤ room → has_room room at n ≡ true
  is-room h k = rw (le-leb n 65535 h, le-leb (at + (3 + n)) room k)

  no_room : room < at → has_room room at n ≡ false
  no_room h = rw (lt-leb (at + (3 + n)) room (omega arith)) (and-false (leb n 65535))

  pub room-is : has_room room at n ≡ true → (n ≤ 65535) × (at + (3 + n) ≤ room)
  room-is h =
      let k = (and-eq-true_iff (leb n 65535) (leb (at + (3 + n)) room)).0 h in
      (leb-true n 65535 k.0, leb-true (at + (3 + n)) room k.1)

-- a field's bytes at the front of a buffer: its head, and then its contents in the part behind that
abbrev headed : Bytes → ℕ → ℕ → Bytes
headed b t n = set (set (set b 0 t) 1 (n / 256)) 2 (n % 256)

pub length-head : (b : Bytes) (t n : ℕ) → length (headed b t n) ≡ length b
length-head b t n = length-set (set (set b 0 t) 1 (n / 256)) 2 (n % 256) ∙ length-set (set b 0 t) 1 (n / 256) ∙ length-set b 0 t

pub tagged-over : (b : Bytes) (t k : ℕ) (c p : Bytes) → 3 + length c ≤ length b → k ≡ length (headed b t (length c)) - 3 → p ≡ over c (mid_of 3 k (headed b t (length c))) → put_mid 3 k (headed b t (length c)) p ≡ over (tagged_bytes (tag t c)) b
tagged-over b t k c p h e o =
    let l = length-head b t (length c) in
    ap (put_mid 3 k (headed b t (length c))) o ∙ part-sets (headed b t (length c)) c 3 k (omega arith) e ∙ over-sets (tagged_bytes (tag t c)) b (omega arith)

-- and at a place of it
pub sets_over : (b t : Bytes) (at : ℕ) → at + length t ≤ length b → sets b at t ≡ take at b ++ over t (drop at b)
sets_over b t at h = sets-eq t b at h ∙ append_assoc (take at b) t (drop (at + length t) b) ∙ ap (λ (r : Bytes). take at b ++ (t ++ r)) (sym (drop-drop (length t) at b))

-- one field more, with room and without
pub field_put : (b : Bytes) (at : ℕ) (f : Tagged) → has_room (length b) at (length f.contents) ≡ true → field_answer b at f ≡ record { next = at + length (tagged_bytes f); out = sets b at (tagged_bytes f) }
unfolding field_answer
field_put b at f h =
    let r = room-is (length b) at (length f.contents) h in
    rw (h, sets_over b (tagged_bytes f) at (omega (arith, r.1)))

pub field-left : (b : Bytes) (at : ℕ) (f : Tagged) → has_room (length b) at (length f.contents) ≡ false → field_answer b at f ≡ record { next = length b + 1; out = b }
unfolding field_answer
field-left b at f h = rw h

pub field-built : (b : Bytes) (at t : ℕ) (c p : Bytes) → has_room (length b) at (length c) ≡ true → p ≡ over (tagged_bytes (tag t c)) (mid_of at (length b - at) b)
    → record { next = at + 3 + length c; out = put_mid at (length b - at) b p } ≡ field_answer b at (tag t c)
field-built b at t c p h o =
    let r = room-is (length b) at (length c) h in
    let e : put_mid at (length b - at) b p ≡ sets b at (tagged_bytes (tag t c)) = ap (put_mid at (length b - at) b) o ∙ part-sets b (tagged_bytes (tag t c)) at (length b - at) (omega (arith, r.1)) refl in
    let n : at + 3 + length c ≡ at + length (tagged_bytes (tag t c)) = omega arith in
    (λ i. record { next = n i; out = e i }) ∙ sym (field_put b at (tag t c) h)

-- Fields one after another.

abbrev pub from : ℕ → Bytes → Built
from at b = record { next = at; out = b }

abbrev text_of : List Tagged → Bytes
text_of fs = flat (map tagged_bytes fs)

-- the first of them put, and then the others behind it
put_on : (f : Tagged) (fs : List Tagged) (b : Bytes) (at : ℕ) → has_room (length b) at (length f.contents) ≡ true
    → built fs (from (at + length (tagged_bytes f)) (sets b at (tagged_bytes f))) ≡ from (at + length (tagged_bytes f) + length (text_of fs)) (sets (sets b at (tagged_bytes f)) (at + length (tagged_bytes f)) (text_of fs))
    → built (f ∷ fs) (from at b) ≡ from (at + length (text_of (f ∷ fs))) (sets b at (text_of (f ∷ fs)))
put_on f fs b at r h =
    let n : at + length (tagged_bytes f) + length (text_of fs) ≡ at + length (text_of (f ∷ fs)) = omega (arith, length-append (tagged_bytes f) (text_of fs)) in
    let e : sets (sets b at (tagged_bytes f)) (at + length (tagged_bytes f)) (text_of fs) ≡ sets b at (text_of (f ∷ fs)) = sym (sets-append b at (tagged_bytes f) (text_of fs)) in
    ap (built fs) (field_put b at f r) ∙ h ∙ (λ i. from (n i) (e i))

-- all that have room are put
pub built-all : (fs : List Tagged) (b : Bytes) (at : ℕ) → Each (λ (f : Tagged). length f.contents ≤ 65535) fs → at + length (text_of fs) ≤ length b → built fs (from at b) ≡ from (at + length (text_of fs)) (sets b at (text_of fs))
built-all [] b at h l = ap (λ (k : ℕ). from k b) (sym (add-zero at))
built-all (f ∷ fs) b at h l =
    let n = length-append (tagged_bytes f) (text_of fs) in
    let k = length-sets b at (tagged_bytes f) in
    put_on f fs b at (is-room (length b) at (length f.contents) h.0 (omega arith)) (built-all fs (sets b at (tagged_bytes f)) (at + length (tagged_bytes f)) h.1 (omega arith))

-- behind one that has no room none has
built-left : (fs : List Tagged) (b : Bytes) → built fs (from (length b + 1) b) ≡ from (length b + 1) b
built-left [] b = refl
built-left (f ∷ fs) b = ap (built fs) (field-left b (length b + 1) f (no_room (length b) (length b + 1) (length f.contents) (omega arith))) ∙ built-left fs b

-- so that one look at the last place tells whether all were put
abbrev Whole : List Tagged → Bytes → ℕ → Type 0
Whole fs b at = (built fs (from at b) ≡ from (at + length (text_of fs)) (sets b at (text_of fs))) × (at + length (text_of fs) ≤ length b)

module _ (f : Tagged) (fs : List Tagged) (b : Bytes) (at : ℕ) (h : (built (f ∷ fs) (from at b)).next ≤ length b) where
  abbrev next : ℕ
  next = at + length (tagged_bytes f)

  abbrev out : Bytes
  out = sets b at (tagged_bytes f)

  whole-on : (next ≤ length out → (built fs (from next out)).next ≤ length out → Whole fs out next) → (t : Bool) → has_room (length b) at (length f.contents) ≡ t → Whole (f ∷ fs) b at
  whole-on w true r =
      let k : length out ≡ length b = length-sets b at (tagged_bytes f) in
      let e : (built (f ∷ fs) (from at b)).next ≡ (built fs (from next out)).next = ap (λ (x : Built). (built fs x).next) (field_put b at f r) in
      let m = w (omega (arith, k, (room-is (length b) at (length f.contents) r).1)) (omega (arith, k, e, h)) in
      (put_on f fs b at r m.0, omega (arith, k, m.1, length-append (tagged_bytes f) (text_of fs)))
  whole-on w false r =
      let e : (built (f ∷ fs) (from at b)).next ≡ length b + 1 = ap (λ (x : Built). (built fs x).next) (field-left b at f r) ∙ ap (λ (x : Built). x.next) (built-left fs b) in
      absurd (omega (arith, e, h))

pub built-whole : (fs : List Tagged) (b : Bytes) (at : ℕ) → at ≤ length b → (built fs (from at b)).next ≤ length b → Whole fs b at
built-whole [] b at l h = (ap (λ (k : ℕ). from k b) (sym (add-zero at)), omega arith)
built-whole (f ∷ fs) b at l h = whole-on f fs b at h (built-whole fs (sets b at (tagged_bytes f)) (at + length (tagged_bytes f))) (has_room (length b) at (length f.contents)) refl

-- A request: its fields in the order of its kind.

contents-short : (fs : List Tagged) → length (text_of fs) ≤ file_bytes → Each (λ (f : Tagged). length f.contents ≤ 65535) fs
contents-short [] h = tt
contents-short (f ∷ fs) h =
    let n = length-append (tagged_bytes f) (text_of fs) in
    (omega arith, contents-short fs (omega arith))

pub built-encoded : (q : Request) (b : Bytes) → Encodable q → length (encoded q) ≤ length b → built (request_fields q) (from 0 b) ≡ from (length (encoded q)) (over (encoded q) b)
unfolding encoded
built-encoded q b h l =
    let fs : List Tagged = request_fields q in
    built-all fs b 0 (contents-short fs h.1) (omega arith) ∙ (λ i. from (zero-add (length (text_of fs)) i) (over-sets (text_of fs) b l i))

-- "what it builds in the order of a kind reads as that request": where the last place is in the buffer and the whole no longer than a request may be
pub built-reads : (q : Request) (b : Bytes) → HasPairs q.edit → (built (request_fields q) (from 0 b)).next ≤ length b → (built (request_fields q) (from 0 b)).next ≤ file_bytes
    → request_of (take (built (request_fields q) (from 0 b)).next (built (request_fields q) (from 0 b)).out) ≡ some q
unfolding encoded
built-reads q b p l s =
    let fs : List Tagged = request_fields q in
    let w = built-whole fs b 0 (omega arith) l in
    let n : (built fs (from 0 b)).next ≡ length (text_of fs) = ap (λ (x : Built). x.next) w.0 ∙ zero-add (length (text_of fs)) in
    let o : (built fs (from 0 b)).out ≡ text_of fs ++ drop (length (text_of fs)) b = ap (λ (x : Built). x.out) w.0 ∙ over-sets (text_of fs) b (omega (arith, w.1)) in
    ap request_of ((λ i. take (n i) (o i)) ∙ take-append_seam (text_of fs) (drop (length (text_of fs)) b)) ∙ encoded-reads q (p, omega (arith, n, s))
