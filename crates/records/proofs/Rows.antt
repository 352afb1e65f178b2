-- The rows of a file's descriptors: the descriptors from a row on, and the part where the members of a row's set stand.
use Prim.Native.Nat.{ℕ, ◌+◌, ◌≤◌, ◌<◌}
use native.Mathlib.Numerals.{add-one}
use native.Mathlib.Omega.{arith}
use mathlib.Core.Path.{◌≡◌, refl, sym, ap, ◌∙◌, subst}
use mathlib.Core.Bool.{Bool, true, false, ◌&&◌, ◌||◌, not}
use mathlib.Core.List.{List, [], ◌∷◌, ◌++◌, append-nil}
use lib.ListN.{length, drop, get_or}
use Rattle.format.specs.Bytes.{Bytes, pick, all}
use Rattle.format.specs.Pieces.{read_of}
use Rattle.format.specs.Records.{Record}
use Rattle.format.proofs.Records.{records}
use Rattle.format.proofs.Walking.{is_head, heads, before}
use Rattle.lines.proofs.Cuts.{rest}
use Rattle.words.specs.Spans.{span}
use Rattle.records.specs.Places.{is_readable}
use Rattle.records.specs.Walk.{record_in}
use Rattle.records.specs.Heads.{HeadHere, HeadRows, row_from}
use Rattle.records.proofs.Cuts.{records_from}

-- records with no descriptor among them, in front of others

not_some : (r : Record) (rs : List Record) → r ∷ rs ≡ [] → ⊥
not_some r rs e = omega (arith, ap (λ (xs : List Record). length xs) e)

pub plain_by : (b : Bool) (r : Record) (rs : List Record) → pick b (r ∷ rs) rs ≡ [] → (b ≡ false) × (rs ≡ [])
plain_by true r rs e = absurd (not_some r rs e)
plain_by false r rs e = (refl, e)

pub heads-plain : (xs ys : List Record) → heads xs ≡ [] → heads (xs ++ ys) ≡ heads ys
heads-plain [] ys e = refl
heads-plain (x ∷ xs) ys e =
    let h = plain_by (is_head x) x (heads xs) e in
    ap (λ (b : Bool). pick b (x ∷ heads (xs ++ ys)) (heads (xs ++ ys))) h.0 ∙ heads-plain xs ys h.1

pub before-plain : (xs ys : List Record) → heads xs ≡ [] → before (xs ++ ys) ≡ xs ++ before ys
before-plain [] ys e = refl
before-plain (x ∷ xs) ys e =
    let h = plain_by (is_head x) x (heads xs) e in
    ap (λ (b : Bool). pick b [] (x ∷ before (xs ++ ys))) h.0 ∙ ap {B = List Record} (λ rs. x ∷ rs) (before-plain xs ys h.1)

pub before-all : (xs : List Record) → heads xs ≡ [] → before xs ≡ xs
before-all [] e = refl
before-all (x ∷ xs) e =
    let h = plain_by (is_head x) x (heads xs) e in
    ap (λ (b : Bool). pick b [] (x ∷ before xs)) h.0 ∙ ap {B = List Record} (λ rs. x ∷ rs) (before-all xs h.1)

-- what is asked of descriptors alone
asked_by : (p : Record → Bool) (b : Bool) (r : Record) (rs : List Record) → ((not b || p r) && all p rs) ≡ all p (pick b (r ∷ rs) rs)
asked_by p true r rs = refl
asked_by p false r rs = refl

pub heads-asked : (p : Record → Bool) (rs : List Record) → all (λ (r : Record). not (is_head r) || p r) rs ≡ all p (heads rs)
heads-asked p [] = refl
heads-asked p (r ∷ rs) = ap (λ (b : Bool). (not (is_head r) || p r) && b) (heads-asked p rs) ∙ asked_by p (is_head r) r (heads rs)

-- the part from n to e holds the members of the set whose descriptor's block ends at n
pub record MembersAt (s : Bytes) (n e : ℕ) : Type 0 where
  pub ordered : n ≤ e
  pub inside : e ≤ length s
  pub reads : is_readable (span n e s) ≡ true
  pub plain : heads (records (read_of (span n e s))) ≡ []
  pub all : records (read_of (span n e s)) ≡ before (records_from s n)

-- the next descriptor behind a byte: it comes first of those from there on, and the members before it stand in the part up to it
module _ (s : Bytes) (p a e n : ℕ) (h : HeadHere s p a e n) where
  plain : List Record
  plain = records (read_of (span p a s))

  pub head_first : heads (records_from s p) ≡ record_in (span a e s) ∷ heads (records_from s n)
  unfolding plain
  head_first =
      ap (λ (rs : List Record). heads rs) h.cut
      ∙ heads-plain plain (record_in (span a e s) ∷ records_from s n) h.plain
      ∙ ap (λ (b : Bool). pick b (record_in (span a e s) ∷ heads (records_from s n)) (heads (records_from s n))) h.head

  pub members-next : MembersAt s p a
  unfolding plain
  members-next =
      let r : Record = record_in (span a e s) in
      record {
        ordered = h.begins;
        inside = omega (arith, h.filled, h.within, h.inside);
        reads = h.before;
        plain = h.plain;
        all = sym (
            ap before h.cut
            ∙ before-plain plain (r ∷ records_from s n) h.plain
            ∙ ap (λ (b : Bool). plain ++ pick b [] (r ∷ before (records_from s n))) h.head
            ∙ append-nil plain);
      }

-- behind the last one all records are members
pub members-last : (s : Bytes) (n : ℕ) → n ≤ length s → is_readable (drop n s) ≡ true → heads (records_from s n) ≡ [] → MembersAt s n (length s)
members-last s n h r e =
    let t : span n (length s) s ≡ drop n s = rest s n in
    record {
      ordered = h;
      inside = omega arith;
      reads = ap (λ (x : Bytes). is_readable x) t ∙ r;
      plain = ap (λ (x : Bytes). heads (records (read_of x))) t ∙ e;
      all = ap (λ (x : Bytes). records (read_of x)) t ∙ sym (before-all (records_from s n) e);
    }

-- row by row
pub row_next : (afters : List ℕ) (k : ℕ) → row_from afters (k + 1) ≡ get_or afters k 0
row_next afters k = rw (add-one k)

module _ {s : Bytes} {starts ends afters : List ℕ} {n : ℕ} (r : HeadRows s starts ends afters n) where
  -- the descriptors from row k on
  abbrev pub row_heads : ℕ → List Record
  row_heads k = heads (records_from s (row_from afters k))

  pub row-heads : (k : ℕ) → k < n → row_heads k ≡ record_in (span (get_or starts k 0) (get_or ends k 0) s) ∷ row_heads (k + 1)
  row-heads k h =
      head_first s (row_from afters k) (get_or starts k 0) (get_or ends k 0) (get_or afters k 0) (r.row k h)
      ∙ ap {B = List Record} (λ rs. record_in (span (get_or starts k 0) (get_or ends k 0) s) ∷ rs) (ap (λ (j : ℕ). heads (records_from s j)) (sym (row_next afters k)))

  -- the members of the set of row k, which another row follows, or none
  pub row-members : (k : ℕ) → k + 1 < n → MembersAt s (get_or afters k 0) (get_or starts (k + 1) 0)
  row-members k h =
      subst (λ (j : ℕ). MembersAt s j (get_or starts (k + 1) 0)) (row_next afters k)
      (members-next s (row_from afters (k + 1)) (get_or starts (k + 1) 0) (get_or ends (k + 1) 0) (get_or afters (k + 1) 0) (r.row (k + 1) h))

  pub row-rest : (k : ℕ) → k + 1 ≡ n → MembersAt s (get_or afters k 0) (length s)
  row-rest k h =
      let e : row_from afters n ≡ get_or afters k 0 = ap (λ (j : ℕ). row_from afters j) (sym h) ∙ row_next afters k in
      let here = r.row k (omega arith) in
      members-last s (get_or afters k 0) here.inside here.behind (ap (λ (j : ℕ). heads (records_from s j)) (sym e) ∙ r.last)
