-- The directory of sets: it has one entry a set, with that set's count, and every edit that is given it leaves there what filling would put.
use Prim.Native.Nat.{ℕ, zero, suc, ◌+◌, ◌≤◌, ◌<◌, max}
use native.Mathlib.Omega.{arith}
use mathlib.Core.Path.{◌≡◌, refl, sym, ap, ◌∙◌, subst}
use mathlib.Core.Bool.{Bool, true, false, ◌||◌, not, and-eq-true_iff, false≢true}
use mathlib.Core.List.{List, [], ◌∷◌, ◌++◌, map}
use mathlib.Core.Option.{Option, some}
use lib.Dec.{leb, ltb}
use lib.ListN.{length, take, drop, get_or, length-map, length-append, length-drop}
use lib.Seq.{drop_at}
use borrow.Author.Tests.{eq-eqb, lt-ltb, le-ltb, le-leb, lt-leb}
use Rattle.format.specs.Bytes.{Bytes, pick, all, same, among, is_some}
use Rattle.format.specs.Lists.{filter, only_if, keep, kept, onward}
use Rattle.format.specs.Pieces.{Piece, bytes_of, read_of}
use Rattle.format.specs.Records.{Record, Block, fields_of}
use Rattle.format.specs.Sets.{Group, groups, is_member, member_of, RecSet, set_of, sets_of}
use Rattle.format.specs.Rules.{distinct, is_well_formed}
use Rattle.format.specs.Numbers.{int_bounds}
use Rattle.format.specs.Questions.{name_of, verdict}
use Rattle.format.specs.Plain.{Plain, plain_of, length_of, index_of, members_at, members_in, Step, step}
use Rattle.format.specs.Calls.{Answer, answer, value_or, then_no, Filled, leaves, over, edited, sets_in, count_answer, edit_answer}
use Rattle.format.specs.Directory.{group_size, entries_from, entries_in, directory_of, list_no, Listed, fill_answer, refused_by, listed_step, listed_answer, kept_answer, count_at_answer}
use Rattle.format.specs.Runs.{Single, single_answer, single_step, Ran, singly, entries_by, entries_after}
use Rattle.format.specs.declared.Entry.{Entry}
use Rattle.format.proofs.Listing.{same_true}
use Rattle.format.proofs.Applying.{agrees-sets}
use Rattle.format.proofs.Passing.{verdict-read, verdict-passes, reads_as, holds-start, holds-agrees}
use Rattle.format.proofs.Running.{Stands, stands-start, single-stands}
use Rattle.format.proofs.Demand.{single-names}

-- one entry a set, with its count

counted-by : (t : Bool) (b : Block) (r : Record) (bs : List Block) (rs : List Record) → length bs ≡ length rs → length (pick t (b ∷ bs) bs) ≡ length (keep (only_if t r) rs)
counted-by true b r bs rs e = ap suc e
counted-by false b r bs rs e = e

members-counted : (g : Group) → length (filter is_member g) ≡ length (kept member_of g)
members-counted [] = refl
members-counted (b ∷ g) = counted-by (is_member b) b (fields_of b) (filter is_member g) (kept member_of g) (members-counted g)

abbrev pub count_in : Entry → ℕ
count_in e = e.count

abbrev pub member_count : RecSet → ℕ
member_count s = length s.members

counts-from : (at : ℕ) (gs : List Group) → map count_in (entries_from at gs) ≡ map member_count (map set_of gs)
counts-from at [] = refl
counts-from at (g ∷ gs) = λ i. members-counted g i ∷ counts-from (at + group_size g) gs i

counts-in : (gs : List Group) → map count_in (entries_in gs) ≡ map member_count (map set_of gs)
counts-in [] = refl
counts-in (g ∷ gs) = λ i. members-counted g i ∷ counts-from (group_size g) gs i

pub directory-counts : (ps : List Piece) → map count_in (directory_of ps) ≡ map member_count (sets_of ps)
unfolding directory_of sets_of
directory-counts ps = counts-in (groups ps)

pub directory-length : (ps : List Piece) → length (directory_of ps) ≡ length (sets_of ps)
directory-length ps = sym (length-map (directory_of ps) count_in) ∙ ap length (directory-counts ps) ∙ length-map (sets_of ps) member_count

-- the directory of a buffer's file

abbrev pub list_in : Bytes → ℕ → List Entry
list_in buffer used = directory_of (read_of (take used buffer))

abbrev filled_list : ℕ → List Entry → List Entry → Listed
filled_list k new old = let a : Answer = answer k (length new) in record { result = a; entries = leaves a (over new old) old }

-- filling, where the file passes and the list is long enough
pub fill-passes : (buffer : Bytes) (used : ℕ) (old : List Entry) → verdict buffer used ≡ 0 → length (list_in buffer used) ≤ length old
    → fill_answer buffer used old ≡ record { result = Answer.value (length (list_in buffer used)); entries = over (list_in buffer used) old }
unfolding fill_answer
fill-passes buffer used old v h =
    let new : List Entry = list_in buffer used in
    ap (λ (k : ℕ). filled_list (then_no k (list_no (length old) (length new))) new old) v ∙ ap (λ (b : Bool). filled_list (pick b 0 28) new old) (le-leb (length new) (length old) h)

over-over : (xs ys old : List Entry) → length xs ≡ length ys → over xs (over ys old) ≡ over xs old
over-over xs ys old e = ap (λ (zs : List Entry). xs ++ zs) (drop_at ys (drop (length ys) old) (length xs) (sym e) ∙ ap (λ (n : ℕ). drop n old) (sym e))

over-length : (xs old : List Entry) → length xs ≤ length old → length (over xs old) ≡ length old
over-length xs old h = simp (length-append, length-drop) (omega arith)

-- an edit given a list: what it answers where the file fails, where the list is too short, and otherwise

abbrev listed_by : ℕ → ℕ → Plain → Bytes → Bytes → ℕ → Filled
listed_by v k p request buffer used = let s : Step = refused_by k p (step (length buffer) p request) in edited (then_no v s.number) (bytes_of s.file.pieces) buffer used

module _ (n : ℕ) (buffer : Bytes) (used : ℕ) (request : Bytes) where
  abbrev file_in : Plain
  file_in = plain_of (read_of (take used buffer))

  listed_by_lem : (b : Bool) → leb (length (list_in buffer used)) n ≡ b → listed_answer n buffer used request ≡ listed_by (verdict buffer used) (pick b 0 28) file_in request buffer used
  unfolding listed_answer listed_step plain_of
  listed_by_lem b e = ap (λ (k : ℕ). listed_by (verdict buffer used) k file_in request buffer used) (ap (λ (m : ℕ). list_no n m) (sym (directory-length (read_of (take used buffer)))) ∙ ap (λ (x : Bool). pick x 0 28) e)

  pub listed-fails : (k : ℕ) → verdict buffer used ≡ suc k → listed_answer n buffer used request ≡ record { result = Answer.refusal (suc k); out = buffer }
  unfolding listed_answer
  listed-fails k v = let s : Step = listed_step n (length buffer) file_in request in ap (λ (x : ℕ). edited (then_no x s.number) (bytes_of s.file.pieces) buffer used) v

  pub listed-short : verdict buffer used ≡ 0 → n < length (list_in buffer used) → listed_answer n buffer used request ≡ record { result = Answer.refusal 28; out = buffer }
  listed-short v h = listed_by_lem false (lt-leb (length (list_in buffer used)) n h) ∙ ap (λ (x : ℕ). listed_by x 28 file_in request buffer used) v

  pub listed-edits : length (list_in buffer used) ≤ n → listed_answer n buffer used request ≡ edit_answer buffer used request
  unfolding edit_answer
  listed-edits h = listed_by_lem true (le-leb (length (list_in buffer used)) n h)

-- an edit of a file that passes, accepted or refused, leaves one that passes and has as many sets
module _ (buffer : Bytes) (used : ℕ) (v : verdict buffer used ≡ 0) (c : Single) where
  abbrev first : Plain
  first = plain_of (read_of (take used buffer))

  abbrev after : Step
  after = single_step (length buffer) first c

  abbrev left : Filled
  left = single_answer c buffer used

  abbrev left_length : ℕ
  left_length = value_or used left.result

  left-stands : Stands buffer (max used (length_of after.file)) left.out left_length after.file
  left-stands = single-stands buffer used buffer used first (stands-start buffer used first (holds-start buffer used (read_of (take used buffer)) v (verdict-read buffer used v))) c

  pub left-passes : verdict left.out left_length ≡ 0
  left-passes = left-stands.holds.passes

  pub left-sets : length (list_in left.out left_length) ≡ length (list_in buffer used)
  unfolding plain_of
  left-sets =
      let h = left-stands.holds in
      let names : length after.file.sets ≡ length first.sets = sym (length-map after.file.sets name_of) ∙ ap length (single-names (length buffer) first c) ∙ length-map first.sets name_of in
      directory-length (read_of (take left_length left.out))
      ∙ ap (λ (ps : List Piece). length (sets_of ps)) (reads_as (take left_length left.out) after.file.pieces h.reads)
      ∙ ap length (agrees-sets after.file (holds-agrees left.out left_length after.file h))
      ∙ names ∙ sym (directory-length (read_of (take used buffer)))

-- an edit that is given a list is given its length
entries-given : (n : ℕ) (q buffer : Bytes) (used : ℕ) (es : List Entry) → n ≡ length es → entries_by (Single.listed n q) buffer used es ≡ (fill_answer buffer used es).entries
entries-given n q buffer used es e = ap (λ (b : Bool). pick b (fill_answer buffer used es).entries es) (eq-eqb n (length es) e)

-- An edit given the list answers as one of a list of edits does, and leaves the entries that a list of it alone leaves.
pub kept-listed : (buffer : Bytes) (used : ℕ) (q : Bytes) (old : List Entry) → let c : Single = Single.listed (length old) q in let a : Filled = single_answer c buffer used in
    kept_answer buffer used q old ≡ record { result = a.result; out = a.out; entries = entries_after (c ∷ []) buffer used old }
unfolding kept_answer entries_after
kept-listed buffer used q old =
    let a : Filled = single_answer (Single.listed (length old) q) buffer used in
    sym (λ i. record { result = a.result; out = a.out; entries = entries-given (length old) q a.out (value_or used a.result) old refl i })

-- "An edit given the list, on a file that passes, accepted or refused (28 aside), leaves there what filling would put", whatever stood in the list.
pub listed-fills : (buffer : Bytes) (used : ℕ) (q : Bytes) (old : List Entry) → verdict buffer used ≡ 0 → length (list_in buffer used) ≤ length old
    → let c : Single = Single.listed (length old) q in let a : Filled = single_answer c buffer used in
    entries_after (c ∷ []) buffer used old ≡ over (list_in a.out (value_or used a.result)) old
unfolding entries_after
listed-fills buffer used q old v h =
    let c : Single = Single.listed (length old) q in
    let a : Filled = single_answer c buffer used in
    entries-given (length old) q a.out (value_or used a.result) old refl
    ∙ ap (λ (x : Listed). x.entries) (fill-passes a.out (value_or used a.result) old (left-passes buffer used v c) (subst (λ (k : ℕ). k ≤ length old) (sym (left-sets buffer used v c)) h))

entries-on : (qs : List Bytes) (buffer : Bytes) (used : ℕ) (old : List Entry) → verdict buffer used ≡ 0 → length (list_in buffer used) ≤ length old
    → let cs : List Single = map (Single.listed (length old)) qs in let r : Ran = singly cs buffer used in
    (verdict r.buffer r.length ≡ 0) × ((length (list_in r.buffer r.length) ≡ length (list_in buffer used))
    × (entries_after cs buffer used (over (list_in buffer used) old) ≡ over (list_in r.buffer r.length) old))
unfolding singly entries_after
entries-on [] buffer used old v h = (v, (refl, refl))
entries-on (q ∷ qs) buffer used old v h =
    let c : Single = Single.listed (length old) q in
    let a : Filled = single_answer c buffer used in
    let m : ℕ = value_or used a.result in
    let new : List Entry = list_in a.out m in
    let es : List Entry = over (list_in buffer used) old in
    let w : verdict a.out m ≡ 0 = left-passes buffer used v c in
    let e : length new ≡ length (list_in buffer used) = left-sets buffer used v c in
    let g : length new ≤ length old = subst (λ (k : ℕ). k ≤ length old) (sym e) h in
    let l : length es ≡ length old = over-length (list_in buffer used) old h in
    let there = entries-on qs a.out m old w g in
    let fresh : entries_by c a.out m es ≡ over new old =
    entries-given (length old) q a.out m es (sym l) ∙ ap (λ (x : Listed). x.entries) (fill-passes a.out m es w (subst (λ (k : ℕ). length new ≤ k) (sym l) g)) ∙ over-over new (list_in buffer used) old e in
    (there.0, (there.1.0 ∙ e, ap (entries_after (map (Single.listed (length old)) qs) a.out m) fresh ∙ there.1.1))

-- After every list of edits, each given the directory, from a freshly filled one, its entries are those of a fresh filling.
pub entries-fresh : (buffer : Bytes) (used : ℕ) (old : List Entry) (qs : List Bytes) → verdict buffer used ≡ 0 → length (list_in buffer used) ≤ length old
    → let cs : List Single = map (Single.listed (length old)) qs in let r : Ran = singly cs buffer used in
    entries_after cs buffer used (fill_answer buffer used old).entries ≡ (fill_answer r.buffer r.length old).entries
entries-fresh buffer used old qs v h =
    let cs : List Single = map (Single.listed (length old)) qs in
    let r : Ran = singly cs buffer used in
    let there = entries-on qs buffer used old v h in
    ap (λ (x : Listed). entries_after cs buffer used x.entries) (fill-passes buffer used old v h) ∙ there.1.1
    ∙ sym (ap (λ (x : Listed). x.entries) (fill-passes r.buffer r.length old there.0 (subst (λ (k : ℕ). k ≤ length old) (sym there.1.0) h)))

-- The count at a position is the count that reads everything, of that set's name: no two sets of a file that passes have one name.

pub same_self : (x : Bytes) → same x x ≡ true
same_self [] = refl
same_self (x ∷ s) = rw (eq-eqb x x refl) (same_self s)

among_there : (xs : List Bytes) (j : ℕ) → j < length xs → among (get_or xs j []) xs ≡ true
among_there [] j h = absurd (omega arith)
among_there (x ∷ xs) zero h = rw (same_self x) refl
among_there (x ∷ xs) (suc j) h = or_right (same (get_or xs j []) x) (among_there xs j (omega arith))
  where
    or_right : (a : Bool) {b : Bool} → b ≡ true → (a || b) ≡ true
    or_right true e = refl
    or_right false e = e

name_at : List RecSet → ℕ → Bytes
name_at ss i = get_or (map name_of ss) i []

index-there : (ss : List RecSet) (i : ℕ) → distinct (map name_of ss) ≡ true → i < length ss → index_of (name_at ss i) ss ≡ some i
unfolding name_at
index-there [] i d h = absurd (omega arith)
index-there (s ∷ ss) zero d h = ap (λ (b : Bool). pick b (some zero) (onward (λ (k : ℕ). some (suc k)) (index_of s.name ss))) (same_self s.name)
index-there (s ∷ ss) (suc j) d h =
    let n : Bytes = get_or (map name_of ss) j [] in
    let both = (and-eq-true_iff (not (among s.name (map name_of ss))) (distinct (map name_of ss))).0 d in
    let there : among n (map name_of ss) ≡ true = among_there (map name_of ss) j (subst (λ (k : ℕ). j < k) (sym (length-map ss name_of)) (omega arith)) in
    let other : same n s.name ≡ false = other_name n s.name (map name_of ss) there both.0 (same n s.name) refl in
    ap (λ (b : Bool). pick b (some zero) (onward (λ (k : ℕ). some (suc k)) (index_of n ss))) other ∙ ap (onward (λ (k : ℕ). some (suc k))) (index-there ss j both.1 (omega arith))
  where
    other_name : (n m : Bytes) (ns : List Bytes) → among n ns ≡ true → not (among m ns) ≡ true → (b : Bool) → same n m ≡ b → same n m ≡ false
    other_name n m ns a e true q = absurd (false≢true (sym (ap not (ap (λ (x : Bytes). among x ns) (sym (same_true n m q)) ∙ a)) ∙ e))
    other_name n m ns a e false q = q

counted : ℕ → List RecSet → Option ℕ → Answer
counted v ss x = answer (then_no v (pick (is_some x) 0 21)) (length (members_in ss x))

pub count_at : (buffer : Bytes) (used : ℕ) (old : List Entry) → verdict buffer used ≡ 0 → length (list_in buffer used) ≤ length old
    → (i : ℕ) → i < length (sets_in buffer used) → count_at_answer (fill_answer buffer used old).entries i ≡ count_answer buffer used (get_or (map name_of (sets_in buffer used)) i [])
unfolding count_at_answer count_answer counted name_at
count_at buffer used old v h i l =
    let ss : List RecSet = sets_in buffer used in
    let new : List Entry = list_in buffer used in
    let k : i < length new = subst (λ (n : ℕ). i < n) (sym (directory-length (read_of (take used buffer)))) l in
    let once : distinct (map name_of ss) ≡ true = ((and-eq-true_iff (all (λ (s : RecSet). is_well_formed int_bounds s.rules) ss) (distinct (map name_of ss))).0 (verdict-passes buffer used (read_of (take used buffer)) v (verdict-read buffer used v)).sets.1.1.0).1 in
    let inside : ltb i (length (over new old)) ≡ true = lt-ltb i (length (over new old)) (subst (λ (n : ℕ). i < n) (sym (over-length new old h)) (omega arith)) in
    let count : get_or (map count_in (over new old)) i 0 ≡ length (members_at i ss) =
    count-front new (drop (length new) old) i k ∙ ap (λ (ns : List ℕ). get_or ns i 0) (directory-counts (read_of (take used buffer)))
    ∙ member-count ss i in
    ap (λ (x : Listed). count_at_answer x.entries i) (fill-passes buffer used old v h)
    ∙ ap (λ (b : Bool). answer (pick b 0 21) (get_or (map count_in (over new old)) i 0)) inside ∙ ap Answer.value count
    ∙ sym (ap (counted (verdict buffer used) ss) (index-there ss i once l) ∙ ap (λ (n : ℕ). counted n ss (some i)) v)
  where
    count-front : (xs ys : List Entry) (j : ℕ) → j < length xs → get_or (map count_in (xs ++ ys)) j 0 ≡ get_or (map count_in xs) j 0
    count-front [] ys j h = absurd (omega arith)
    count-front (x ∷ xs) ys zero h = refl
    count-front (x ∷ xs) ys (suc j) h = count-front xs ys j (omega arith)

    member-count : (ss : List RecSet) (j : ℕ) → get_or (map member_count ss) j 0 ≡ length (members_at j ss)
    member-count [] j = refl
    member-count (s ∷ ss) zero = refl
    member-count (s ∷ ss) (suc j) = member-count ss j

-- "For every list of edits, each given the directory, from a freshly filled one, that count equals the one that reads everything": at each position, of the name that the set there has.
pub count-after : (buffer : Bytes) (used : ℕ) (old : List Entry) (qs : List Bytes) → verdict buffer used ≡ 0 → length (list_in buffer used) ≤ length old
    → let cs : List Single = map (Single.listed (length old)) qs in let r : Ran = singly cs buffer used in let ss : List RecSet = sets_in r.buffer r.length in
    (i : ℕ) → i < length ss → count_at_answer (entries_after cs buffer used (fill_answer buffer used old).entries) i ≡ count_answer r.buffer r.length (get_or (map name_of ss) i [])
count-after buffer used old qs v h i l =
    let r : Ran = singly (map (Single.listed (length old)) qs) buffer used in
    let there = entries-on qs buffer used old v h in
    ap (λ (es : List Entry). count_at_answer es i) (entries-fresh buffer used old qs v h) ∙ count_at r.buffer r.length old there.0 (subst (λ (k : ℕ). k ≤ length old) (sym there.1.0) h) i l

-- "21 past the list's end"
pub count_past : (entries : List Entry) (i : ℕ) → length entries ≤ i → count_at_answer entries i ≡ Answer.refusal 21
unfolding count_at_answer
count_past entries i h = ap (λ (b : Bool). answer (pick b 0 21) (get_or (map count_in entries) i 0)) (le-ltb i (length entries) h)
