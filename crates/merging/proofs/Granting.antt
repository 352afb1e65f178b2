-- When records are granted: 20 and 25 ask each alone, 21 is granted by 36, 31 asks each as it is completed, and 26 the end only, since the length never falls.
use Prim.Native.Nat.{ℕ, zero, suc, ◌≤◌, ◌<◌}
use native.Mathlib.Omega.{arith}
use mathlib.Core.Path.{◌≡◌, refl, sym, ◌∙◌, subst}
use mathlib.Core.Bool.{Bool, true, false, ◌&&◌, not, and-eq-true_iff, false≢true}
use mathlib.Core.List.{List, [], ◌∷◌, map}
use mathlib.Core.Option
use mathlib.Core.Option.{Option, none, some}
use lib.Dec.{leb}
use lib.ListN.{length}
use borrow.Author.Tests.{leb-true, le-leb}
use Rattle.format.specs.Bytes.{Bytes, pick, all, is_some}
use Rattle.format.specs.Lists.{is_filled, only_if, onward, sum, kept, keep, nth}
use Rattle.format.specs.Pieces.{Piece}
use Rattle.format.specs.Records.{Record, fields_of}
use Rattle.format.specs.Sets.{Group, groups, is_descriptor, is_member, member_of, RecSet, set_of, sets_of}
use Rattle.format.specs.Limits.{file_bytes}
use Rattle.format.specs.Numbers.{int_bounds}
use Rattle.format.specs.Written.{Pair, new_field, is_legal_pair}
use Rattle.format.specs.Numbering.{completed}
use Rattle.format.specs.Questions.{verdict}
use Rattle.format.specs.Edits.{Edit, in_set}
use Rattle.format.specs.Requests.{Request, tagged, asks_for, request_of}
use Rattle.format.specs.Plain.{Plain, record_count, length_of, set_at, index_of, apply_in, apply, completed_at, completed_by, request_or}
use Rattle.format.specs.Calls.{edit_answer}
use Rattle.format.proofs.Elements.{Each, Filled, each_map, each-imp}
use Rattle.format.proofs.Lists.{each-flat, sum-append}
use Rattle.format.proofs.Encoding.{encoded-reads}
use Rattle.format.proofs.Answers.{refused_edit, answer-fault}
use Rattle.merging.specs.Merging.{SpareRecord, pair_of, records_in, records_of, insert_for, request_for}
use Rattle.merging.specs.Appending.{with_insert, with_inserts}
use Rattle.merging.proofs.Named.{named-kept}
use Rattle.merging.proofs.Again.{there-named}
use Rattle.merging.proofs.Falling.{AllGranted}

-- 20: a record of a file has a field, so its request is one exactly if it has at most 65,536 bytes

abbrev HasPair : SpareRecord → Type 0
HasPair x = Filled x.pairs

filled-both : (r : Record) (t : Bool) → (is_filled r && t) ≡ true → Filled (map pair_of r)
filled-both [] t e = absurd (false≢true e)
filled-both (f ∷ r) t e = tt

kept-filled : (g : Group) → Each (λ (r : Record). Filled (map pair_of r)) (kept member_of g)
kept-filled [] = tt
kept-filled (b ∷ g) = go (is_member b) refl (kept-filled g)
  where
    go : (t : Bool) → is_member b ≡ t → Each (λ (r : Record). Filled (map pair_of r)) (kept member_of g) → Each (λ (r : Record). Filled (map pair_of r)) (keep (only_if t (fields_of b)) (kept member_of g))
    go true e h = (filled-both (fields_of b) (not (is_descriptor b)) e, h)
    go false e h = h

sets-filled : (gs : List Group) → Each HasPair (records_of (map set_of gs))
sets-filled gs = each-flat HasPair (map records_in (map set_of gs)) (go gs)
  where
    go : (hs : List Group) → Each (Each HasPair) (map records_in (map set_of hs))
    go [] = tt
    go (h ∷ hs) = (each_map HasPair (λ (r : Record). record { set = (set_of h).name; pairs = map pair_of r }) (kept member_of h) (kept-filled h), go hs)

pub records-filled : (ps : List Piece) → Each (λ (x : SpareRecord). Filled x.pairs) (records_of (sets_of ps))
unfolding sets_of
records-filled ps = sets-filled (groups ps)

pub filled-reads : (x : SpareRecord) → Filled x.pairs → length (request_for x) ≤ file_bytes → request_of (request_for x) ≡ some (insert_for x)
filled-reads x f l = encoded-reads (insert_for x) (f, l)

pub too_long : (s : Bytes) → file_bytes < length s → request_of s ≡ none
unfolding request_of
too_long s l = go (leb (length s) file_bytes) refl
  where
    go : (t : Bool) → leb (length s) file_bytes ≡ t → pick t (onward asks_for (tagged s)) none ≡ none
    go true e = let k = leb-true (length s) file_bytes e in absurd (omega arith)
    go false e = refl

-- a longer one is refused with 20
pub long-refused : (x : SpareRecord) (buffer : Bytes) (used : ℕ) → verdict buffer used ≡ 0 → file_bytes < length (request_for x) → edit_answer buffer used (request_for x) ≡ refused_edit 20 buffer
long-refused x buffer used v l = answer-fault buffer used (request_for x) v (too_long (request_for x) l)

-- 26: an insert never shortens a file

abbrev set_count : RecSet → ℕ
set_count s = sum record_count s.members

insert-sum : (new : List Pair) (i : ℕ) (ss : List RecSet) → sum set_count ss ≤ sum set_count (nth i (in_set (Edit.insert new)) ss)
insert-sum new i [] = omega arith
insert-sum new zero (s ∷ ss) = omega (arith, sum-append record_count s.members (map new_field new ∷ []))
insert-sum new (suc i) (s ∷ ss) = omega (arith, insert-sum new i ss)

length-in : (o : Option ℕ) (new : List Pair) (p : Plain) → length_of p ≤ length_of (apply_in o (Edit.insert new) p)
unfolding length_of
length-in none new p = omega arith
length-in (some i) new p = omega (arith, insert-sum new i p.sets)

insert-request : (x : SpareRecord) (p : Plain) → (new : List Pair) × ((request_or (completed_by int_bounds p (insert_for x))).edit ≡ Edit.insert new)
unfolding completed_by
insert-request x p = go (index_of x.set p.sets)
  where
    by : (c : Option (List Pair)) → (new : List Pair) × ((request_or (Option.map (λ (e : Edit). record { set = x.set; edit = e }) (Option.map (λ (ps : List Pair). Edit.insert ps) c))).edit ≡ Edit.insert new)
    by none = ([], refl)
    by (some ps) = (ps, refl)

    go : (o : Option ℕ) → (new : List Pair) × ((request_or (completed_at int_bounds p.sets o (insert_for x))).edit ≡ Edit.insert new)
    go none = (x.pairs, refl)
    go (some i) = by (completed int_bounds (set_at i p.sets) x.pairs)

pub insert-length : (x : SpareRecord) (p : Plain) → length_of p ≤ length_of (with_insert x p)
unfolding apply
insert-length x p =
    let w : Request = request_or (completed_by int_bounds p (insert_for x)) in
    let c = insert-request x p in
    subst (λ (e : Edit). length_of p ≤ length_of (apply_in (index_of w.set p.sets) e p)) (sym c.1) (length-in (index_of w.set p.sets) c.0 p)

-- so the last length is the largest
pub inserts-length : (xs : List SpareRecord) (p : Plain) → length_of p ≤ length_of (with_inserts xs p)
inserts-length [] p = omega arith
inserts-length (x ∷ xs) p = omega (arith, insert-length x p, inserts-length xs (with_insert x p))

-- 21: an insert removes no set
insert-there : (x : SpareRecord) (p : Plain) (n : Bytes) → is_some (index_of n p.sets) ≡ true → is_some (index_of n (with_insert x p).sets) ≡ true
unfolding apply
insert-there x p n e = let w : Request = request_or (completed_by int_bounds p (insert_for x)) in go w (index_of w.set p.sets)
  where
    go : (w : Request) (o : Option ℕ) → is_some (index_of n (apply_in o w.edit p).sets) ≡ true
    go w none = e
    go w (some i) = there-named n (nth i (in_set w.edit) p.sets) ∙ named-kept (λ (s : RecSet). true) n w.edit (λ s h. h) i p.sets (sym (there-named n p.sets) ∙ e)

-- what each is asked alone, and what each is asked on the sets that the ones before left
pub record GrantedAlone (p : Plain) (x : SpareRecord) : Type 0 where
  pub reads : request_of (request_for x) ≡ some (insert_for x)
  pub legal : all is_legal_pair x.pairs ≡ true
  pub there : is_some (index_of x.set p.sets) ≡ true

abbrev pub AllNumbered : List SpareRecord → Plain → Type 0
AllNumbered [] p = Unit {0}
AllNumbered (x ∷ xs) p = (is_some (completed_by int_bounds p (insert_for x)) ≡ true) × AllNumbered xs (with_insert x p)

pub granted-by-parts : (room : ℕ) (xs : List SpareRecord) (p : Plain) → Each (GrantedAlone p) xs → AllNumbered xs p → length_of (with_inserts xs p) ≤ room → length_of (with_inserts xs p) ≤ file_bytes → AllGranted room xs p
granted-by-parts room [] p h c l k = tt
granted-by-parts room (x ∷ xs) p h c l k =
    let q : Plain = with_insert x p in
    let n : ℕ = length_of q in
    let m = inserts-length xs q in
    let fits = (and-eq-true_iff (leb n room) (leb n file_bytes)).1 (le-leb n room (omega (arith, m, l)), le-leb n file_bytes (omega (arith, m, k))) in
    let later = each-imp (GrantedAlone p) (GrantedAlone q) (λ y a. record { reads = a.reads; legal = a.legal; there = insert-there x p y.set a.there }) xs h.1 in
    (record { reads = h.0.reads; yes = (refl, (h.0.there, (refl, (refl, (refl, (h.0.legal, (c.0, (fits, tt)))))))) }, granted-by-parts room xs q later c.1 l k)
