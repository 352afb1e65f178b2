-- A fingerprint is below 65536, so an entry can be taken apart into its place and its fingerprint; the entries of a part of a list, and of a list
-- with one more.
use Prim.Native.Nat.{ℕ, ◌+◌, ◌-◌, ◌/◌, ◌%◌, ◌<◌, ◌≤◌}
use native.Mathlib.Numerals.{add-one}
use native.Mathlib.Omega.{arith}
use mathlib.Core.Path.{◌≡◌, sym, ap, ◌∙◌, subst}
use mathlib.Core.List.{List, [], ◌∷◌, ◌++◌, map-append}
use borrow.Author.Count.{below_more}
use lib.ListN.{length, get_or, set, take, drop, length-drop}
use lib.Seq.{get_or-set_same, get_or-set_other, take-suc-set, get_or-take, get_or-drop, length-take-le}
use Rattle.format.specs.Bytes.{Bytes}
use Rattle.format.specs.Rules.{distinct}
use Rattle.values.specs.Value.{value_from}
use Rattle.lines.proofs.Cuts.{rest}
use Rattle.keys.specs.Marks.{mark_at, marks_of, Inside}
use Rattle.keys.specs.Keys.{print_of, entry_of, key_at, keys_of, IsEntry, Entries}
use Rattle.keys.specs.Order.{value_in}
use Rattle.keys.proofs.Apart.{bool_same, apart_distinct, distinct_apart}

-- the entry of the key at a place
module _ (s : Bytes) (at : ℕ) (low : at < 65536) where
  pub entry_place : entry_of at (value_from (drop at s)) % 65536 ≡ at
  entry_place = omega arith

  pub entry_key : key_at s (entry_of at (value_from (drop at s))) ≡ value_from (drop at s)
  entry_key = ap (λ (k : ℕ). value_from (drop k s)) entry_place

  pub entry-is : at ≤ length s → IsEntry s (entry_of at (value_from (drop at s)))
  entry-is h = record {
    inside = omega arith;
    print = (let p : entry_of at (value_from (drop at s)) / 65536 ≡ print_of (value_from (drop at s)) = omega arith in p) ∙ ap print_of (sym entry_key);
  }

-- the value at an entry's place, in the part that begins there
pub value-part : (s : Bytes) (a e : ℕ) → a ≡ e % 65536 → value_from (take (length s - a) (drop a s)) ≡ value_in (mark_at s e)
value-part s a e q = ap value_from (rest s a) ∙ ap (λ (k : ℕ). value_from (drop k s)) q

-- places of entries up to one, and from one on
pub inside-front : (s : Bytes) (l : List ℕ) (n : ℕ) → n ≤ length l → Inside s n l → Inside s (length (take n l)) (take n l)
inside-front s l n h e = rw (length-take-le n l h) (λ i g. rw get_or-take (e i g))

pub inside-rest : (s : Bytes) (l : List ℕ) (i : ℕ) → Inside s (length l) l → Inside s (length (take (length l - i) (drop i l))) (take (length l - i) (drop i l))
inside-rest s l i h = rw (rest l i) (λ p g. rw get_or-drop (h (i + p) (omega (arith, length-drop i l))))

-- entries of keys stand for their keys: two of one key have one fingerprint
pub entries-inside : (s : Bytes) (n : ℕ) (l : List ℕ) → Entries s n l → Inside s n l
entries-inside s n l e i h = (e i h).inside

pub marks-keys : (s : Bytes) (l : List ℕ) → Entries s (length l) l → distinct (marks_of s l) ≡ distinct (keys_of s l)
marks-keys s l e =
    bool_same (distinct (marks_of s l)) (distinct (keys_of s l))
    (λ q. apart_distinct (key_at s) l (λ j g i k same. distinct_apart (mark_at s) l q j g i k (one i j (omega arith) g same)))
    (λ q. apart_distinct (mark_at s) l (λ j g i k same. distinct_apart (key_at s) l q j g i k (ap value_in same)))
  where
    one : (i j : ℕ) → i < length l → j < length l → key_at s (get_or l i 0) ≡ key_at s (get_or l j 0) → mark_at s (get_or l i 0) ≡ mark_at s (get_or l j 0)
    one i j h g same =
        let p : get_or l i 0 / 65536 ≡ get_or l j 0 / 65536 = (e i h).print ∙ ap print_of same ∙ sym (e j g).print in
        λ k. p k ∷ same k

pub entries-front : (s : Bytes) (l : List ℕ) (n : ℕ) → n ≤ length l → Entries s n l → Entries s (length (take n l)) (take n l)
entries-front s l n h e = rw (length-take-le n l h) (λ i g. rw get_or-take (e i g))

-- no entries yet, and one more, stored behind the first n
pub entries_none : (s : Bytes) (l : List ℕ) → Entries s 0 l
entries_none s l i h = absurd (omega arith)

module _ (s : Bytes) (l : List ℕ) (n e : ℕ) (room : n < length l) where
  pub entries-more : Entries s n l → IsEntry s e → Entries s (n + 1) (set l n e)
  entries-more h k =
      below_more (λ (i : ℕ). IsEntry s (get_or (set l n e) i 0)) n
      (λ i g. subst (IsEntry s) (sym (get_or-set_other l n i e 0 (omega arith))) (h i g))
      (subst (IsEntry s) (sym (get_or-set_same l n e 0 room)) k)

  pub keys-more : keys_of s (take (n + 1) (set l n e)) ≡ keys_of s (take n l) ++ (key_at s e ∷ [])
  keys-more = ap (λ (k : ℕ). keys_of s (take k (set l n e))) (add-one n) ∙ ap (keys_of s) (take-suc-set l n e room) ∙ map-append (key_at s) (take n l) (e ∷ [])
