-- A walk that enters the fields of listed names: n are entered, those from byte i on are to come.
use Rattle.std.specs.Prelude.{Some, None}
use Prim.Native.Nat.{ℕ, ◌+◌, ◌*◌, ◌/◌, ◌%◌, ◌≤◌, ◌<◌}
use native.Mathlib.Numerals.{add-one}
use native.Mathlib.Omega.{arith}
use mathlib.Core.Path.{◌≡◌, refl, sym, ap, ◌∙◌, subst}
use mathlib.Core.Bool.{Bool, true, false}
use mathlib.Core.List.{List, [], ◌∷◌, ◌++◌, append_assoc, append-nil, map-append}
use borrow.Author.Count.{below_more}
use borrow.Author.Tests.{lt-ltb, le-ltb}
use lib.ListN.{length, get_or, take, drop, set, length-set, length-append, length-map}
use lib.Seq.{get_or-set_same, get_or-set_other, take-suc-set, length-take-le}
use Rattle.format.specs.Bytes.{Bytes, pick, among}
use Rattle.format.specs.Records.{Field, Record}
use Rattle.values.specs.Value.{value_from}
use Rattle.words.specs.Spans.{span}
use Rattle.words.specs.RuleNames.{place_in}
use Rattle.words.proofs.RuleNames.{place-among}
use Rattle.records.specs.Places.{is_readable}
use Rattle.records.specs.Walk.{record_in}
use Rattle.records.specs.Fields.{fields_from, field_between, FieldHere}
use Rattle.keys.specs.Marks.{mark_at, marks_of, Inside}
use Rattle.singulars.specs.Marks.{rank_of, mark_of, marks, entry_of}
use Rattle.singulars.specs.Gathered.{GatheredAs}

pub record Enters (ws : List Bytes) (s : Bytes) (entries : List ℕ) (n i : ℕ) : Type 0 where
  pub inside : i ≤ length s
  pub readable : is_readable (drop i s) ≡ true
  pub room : n ≤ length entries
  pub entered : Inside s n entries
  pub all : marks_of s (take n entries) ++ marks ws (fields_from s i) ≡ marks ws (fields_from s 0)

-- the mark of an entry
entry-mark : (s : Bytes) (at rank x : ℕ) → at < 65536 → x ≡ at + 65536 * rank → mark_at s x ≡ rank ∷ value_from (drop at s)
entry-mark s at rank x h e =
    let p : x / 65536 ≡ rank = omega arith in
    let q : x % 65536 ≡ at = omega arith in
    λ i. p i ∷ value_from (drop (q i) s)

module _ (ws : List Bytes) (s : Bytes) where
  pub enters-start : (l : List ℕ) → is_readable s ≡ true → Enters ws s l 0 0
  enters-start l e = record { inside = omega arith; readable = e; room = omega arith; entered = λ i h. absurd (omega arith); all = refl }

  module _ (l : List ℕ) (n i : ℕ) (g : Enters ws s l n i) where
    pub enters-end : fields_from s i ≡ [] → GatheredAs ws s (record_in s) l (Some n)
    enters-end e = (g.room, g.entered, sym (append-nil (marks_of s (take n l))) ∙ ap (λ (r : Record). marks_of s (take n l) ++ marks ws r) (sym e) ∙ g.all)

    -- a field from a to e, whose name has place k in the list
    module _ (a m v e : ℕ) (f : FieldHere s i a m v e) (k : ℕ) (p : k ≡ place_in (span a m s) ws) where
      abbrev here : Field
      here = field_between s a m v e

      told : (b : Bool) → among (span a m s) ws ≡ b → marks ws (fields_from s i) ≡ pick b (mark_of ws here ∷ marks ws (fields_from s e)) (marks ws (fields_from s e))
      told b q = ap (marks ws) f.fields ∙ ap (λ (t : Bool). pick t (mark_of ws here ∷ marks ws (fields_from s e)) (marks ws (fields_from s e))) q

      unlisted : length ws ≤ k → marks ws (fields_from s i) ≡ marks ws (fields_from s e)
      unlisted h = told false (sym (place-among (span a m s) ws) ∙ le-ltb (place_in (span a m s) ws) (length ws) (omega (arith, p, h)))

      listed : k < length ws → marks ws (fields_from s i) ≡ mark_of ws here ∷ marks ws (fields_from s e)
      listed h = told true (sym (place-among (span a m s) ws) ∙ lt-ltb (place_in (span a m s) ws) (length ws) (omega (arith, p, h)))

      -- it is passed over
      pub enters-skip : length ws ≤ k → Enters ws s l n e
      enters-skip h =
          record { inside = f.inside; readable = f.readable; room = g.room; entered = g.entered; all = ap (λ (xs : List Bytes). marks_of s (take n l) ++ xs) (sym (unlisted h)) ∙ g.all }

      -- there is no room for it
      pub enters-full : k < length ws → length l ≤ n → GatheredAs ws s (record_in s) l None
      enters-full h full =
          let long : length (marks_of s (take n l)) ≡ n = length-map (take n l) (mark_at s) ∙ length-take-le n l g.room in
          omega (arith, long, ap length (listed h), ap length (sym g.all), length-append (marks_of s (take n l)) (marks ws (fields_from s i)))

      -- it is entered
      module _ (h : k < length ws) (room : n < length l) (short : length s ≤ 65536) (x : ℕ) (y : x ≡ entry_of v k (value_from (drop v s))) where
        mark-is : mark_at s x ≡ mark_of ws here
        mark-is =
            entry-mark s v (rank_of k (value_from (drop v s))) x (omega (arith, f.value_there, short)) y
            ∙ (λ j. rank_of (p j) (f.ends-itself j) ∷ f.ends-itself j)

        place_inside : x % 65536 ≤ length s
        place_inside = omega (arith, y, f.value_there, short)

        marks-more : marks_of s (take (n + 1) (set l n x)) ≡ marks_of s (take n l) ++ (mark_at s x ∷ [])
        marks-more = ap (λ (j : ℕ). marks_of s (take j (set l n x))) (add-one n) ∙ ap (marks_of s) (take-suc-set l n x room) ∙ map-append (mark_at s) (take n l) (x ∷ [])

        pub enters-more : Enters ws s (set l n x) (n + 1) e
        enters-more =
            let later : List Bytes = marks ws (fields_from s e) in
            record {
              inside = f.inside;
              readable = f.readable;
              room = omega (arith, room, length-set l n x);
              entered =
                  below_more (λ (j : ℕ). get_or (set l n x) j 0 % 65536 ≤ length s) n
                  (λ j q. subst (λ (z : ℕ). z % 65536 ≤ length s) (sym (get_or-set_other l n j x 0 (omega arith))) (g.entered j q))
                  (subst (λ (z : ℕ). z % 65536 ≤ length s) (sym (get_or-set_same l n x 0 room)) place_inside);
              all =
                  ap (λ (xs : List Bytes). xs ++ later) marks-more
                  ∙ append_assoc (marks_of s (take n l)) (mark_at s x ∷ []) later
                  ∙ ap (λ (z : Bytes). marks_of s (take n l) ++ (z ∷ later)) mark-is
                  ∙ ap (λ (xs : List Bytes). marks_of s (take n l) ++ xs) (sym (listed h))
                  ∙ g.all;
            }
