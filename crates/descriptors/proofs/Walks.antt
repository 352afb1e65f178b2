-- Question 6 over the rows of descriptors: what holds when n of count were met, whose names stand where from and to say.
use Rattle.std.specs.Prelude.{Option, Some, None}
use Rattle.words.specs.declared.Span.{Span}
use Prim.Native.Nat.{ℕ, ◌+◌, ◌≤◌, ◌<◌}
use native.Mathlib.Omega.{arith}
use mathlib.Core.Path.{◌≡◌, sym, ap, ◌∙◌, subst}
use mathlib.Core.Bool.{true, false, and-eq-true_iff}
use mathlib.Core.List.{List, ◌∷◌}
use lib.ListN.{length, take, get_or, set, length-set}
use Rattle.format.specs.Pieces.{read_of}
use Rattle.format.proofs.Records.{records}
use Rattle.format.specs.Bytes.{Bytes, all}
use Rattle.format.specs.Limits.{descriptors}
use Rattle.format.specs.Numbers.{int_bounds}
use Rattle.format.specs.Questions.{fits_record}
use Rattle.format.specs.Records.{Record}
use Rattle.format.proofs.Walking.{heads, walk_fits, walk_well}
use Rattle.records.specs.Walk.{record_in}
use Rattle.records.specs.Heads.{HeadHere, HeadRows, HeadParts, row_from}
use Rattle.records.proofs.Cuts.{records_from}
use Rattle.records.proofs.Rows.{row-heads}
use Rattle.words.specs.Spans.{span}
use Rattle.descriptors.specs.Names.{name_at, names_at, Inside, Told}
use Rattle.descriptors.proofs.Names.{inside-more, names_more}
use Rattle.descriptors.proofs.Judging.{well_from, well-start, well-stop, well-more, walk-fit}

pub record WalkAt (s : Bytes) (starts ends : List ℕ) (count n : ℕ) (from to : List ℕ) : Type 0 where
  pub afters : List ℕ
  pub rows : HeadRows s starts ends afters count
  pub few : count ≤ descriptors
  pub fit : all fits_record (heads (records_from s (row_from afters n))) ≡ true
  pub met : n ≤ count
  pub room : length from ≡ descriptors
  pub room-beside : length to ≡ descriptors
  pub places : Inside s (take n from) (take n to)
  pub judged : walk_well int_bounds (records (read_of s)) ≡ well_from (names_at s (take n from) (take n to)) (heads (records_from s (row_from afters n)))

pub walk-starts : (s : Bytes) (starts ends : List ℕ) (count : ℕ) (from to : List ℕ) → length from ≡ descriptors → length to ≡ descriptors → HeadParts s starts ends count → count ≤ descriptors → walk_fits (records (read_of s)) ≡ true → WalkAt s starts ends count 0 from to
walk-starts s starts ends count from to h k r few f =
    record {
      afters = r.0;
      rows = r.1;
      few = few;
      fit = walk-fit (records (read_of s)) f;
      met = omega arith;
      room = h;
      room-beside = k;
      places = tt;
      judged = well-start (records (read_of s));
    }

module _ (s : Bytes) (starts ends : List ℕ) (count n : ℕ) (from to : List ℕ) (w : WalkAt s starts ends count n from to) where
  pub walk-done : count ≤ n → walk_well int_bounds (records (read_of s)) ≡ true
  walk-done h =
      let e : n ≡ count = omega (arith, w.met) in
      w.judged ∙ ap (well_from (names_at s (take n from) (take n to))) (ap (λ (j : ℕ). heads (records_from s (row_from w.afters j))) e ∙ w.rows.last)

  module _ (h : n < count) where
    here : Record
    here = record_in (span (get_or starts n 0) (get_or ends n 0) s)

    later : List Record
    later = heads (records_from s (row_from w.afters (n + 1)))

    pub row : HeadHere s (row_from w.afters n) (get_or starts n 0) (get_or ends n 0) (get_or w.afters n 0)
    row = w.rows.row n h

    both : (fits_record here ≡ true) × (all fits_record later ≡ true)
    unfolding here later
    both = (and-eq-true_iff (fits_record here) (all fits_record later)).0 (ap (all fits_record) (sym (row-heads w.rows n h)) ∙ w.fit)

    pub part-fits : fits_record (record_in (span (get_or starts n 0) (get_or ends n 0) s)) ≡ true
    unfolding here
    part-fits = both.0

    module _ (x : Option Span) (t : Told s (record_in (span (get_or starts n 0) (get_or ends n 0) s)) (names_at s (take n from) (take n to)) x) where
      told : {y : Option Span} → x ≡ y → Told s here (names_at s (take n from) (take n to)) y
      unfolding here
      told e = subst (Told s here (names_at s (take n from) (take n to))) e t

      judged-here : walk_well int_bounds (records (read_of s)) ≡ well_from (names_at s (take n from) (take n to)) (here ∷ later)
      unfolding here later
      judged-here = w.judged ∙ ap (well_from (names_at s (take n from) (take n to))) (row-heads w.rows n h)

      pub walk-stops : x ≡ None → walk_well int_bounds (records (read_of s)) ≡ false
      walk-stops e = judged-here ∙ well-stop (names_at s (take n from) (take n to)) here later (told e)

      pub walk-head : (a b : ℕ) → x ≡ Some (record { start = a; end = b }) → WalkAt s starts ends count (n + 1) (set from n a) (set to n b)
      unfolding later
      walk-head a b e =
          let f = told e in
          let i : n < length from = omega (arith, h, w.few, w.room) in
          let j : n < length to = omega (arith, h, w.few, w.room-beside) in
          record {
            afters = w.afters;
            rows = w.rows;
            few = w.few;
            fit = both.1;
            met = omega (arith, h);
            room = length-set from n a ∙ w.room;
            room-beside = length-set to n b ∙ w.room-beside;
            places = inside-more s from to n a b i j w.places f.1 f.2;
            judged =
                judged-here
                ∙ well-more (names_at s (take n from) (take n to)) here later (name_at s a b) f.0 f.3
                ∙ ap (λ (ns : List Bytes). well_from ns later) (sym (names_more s from to n a b i j w.places));
          }
