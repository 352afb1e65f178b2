-- The records that are appended before anything is judged: they are a granted front of those that are not skipped, and what stops them is the merge's number if the front passes.
use Prim.Native.Nat.{ℕ, zero, suc, ◌≤◌, ◌<◌}
use native.Mathlib.Omega.{arith}
use mathlib.Core.Path.{◌≡◌, refl, sym, ap, ◌∙◌}
use mathlib.Core.Bool.{Bool, true, false, false≢true}
use mathlib.Core.List.{List, [], ◌∷◌, ◌++◌}
use mathlib.Core.Option
use mathlib.Core.Option.{Option, none, some}
use lib.Dec.{leb, eqb}
use lib.ListN.{length, take, drop}
use borrow.Author.Tests.{leb-true, leb-false, ne_eqb}
use Rattle.format.specs.Bytes.{pick, all, is_some}
use Rattle.format.specs.Limits.{file_bytes}
use Rattle.format.specs.Numbers.{int_bounds}
use Rattle.format.specs.Questions.{first_no, fits_limits}
use Rattle.format.specs.Written.{Pair}
use Rattle.format.specs.Numbering.{completed}
use Rattle.format.specs.Edits.{Edit}
use Rattle.format.specs.Requests.{Request}
use Rattle.format.specs.Plain.{Plain, length_of, set_at, index_of, apply, completed_by, request_or, Asked, edit_questions, step_by, step_of, step}
use Rattle.format.specs.Calls.{then_no}
use Rattle.format.proofs.Elements.{Each, Filled}
use Rattle.format.proofs.Least.{first-append}
use Rattle.format.proofs.Completing.{completed-insert}
use Rattle.format.proofs.Overlong.{is_short, overlong-limits}
use Rattle.format.proofs.Questions.{first-yes, asked}
use Rattle.format.proofs.Results.{place_rows}
use Rattle.merging.specs.Merging.{SpareRecord, insert_for, request_for, is_skipped}
use Rattle.merging.specs.Appending.{with_insert, with_inserts, inserted_unless, left_unless, left_by, new_pairs, has_short_names, is_room_for, grant_no, Front, front_by, front_of}
use Rattle.merging.proofs.Falling.{Granted, AllGranted}
use Rattle.merging.proofs.Granting.{filled-reads, too_long}

then-both : (a b : ℕ) → then_no a b ≡ 0 → (a ≡ 0) × (b ≡ 0)
then-both zero b e = (refl, e)
then-both (suc k) b e = absurd (omega arith)

picked-yes : (t : Bool) (n k : ℕ) → pick t n (suc k) ≡ 0 → (t ≡ true) × (n ≡ 0)
picked-yes true n k e = (refl, e)
picked-yes false n k e = absurd (omega arith)

step-told : (n : ℕ) (p q : Plain) → (step_by n p q).number ≡ n
step-told zero p q = refl
step-told (suc n) p q = refl

-- the questions of an edit, by those of its place
questions-cut : (a : Asked) → a.formed ≡ true → first_no (edit_questions int_bounds) a ≡ pick (eqb (first_no place_rows a) 0) (first_no (drop 7 (edit_questions int_bounds)) a) (first_no place_rows a)
questions-cut a f = ap (λ (b : Bool). pick b (first_no (drop 1 (edit_questions int_bounds)) a) 20) f ∙ first-append place_rows (drop 7 (edit_questions int_bounds)) a (omega arith)

module _ (room : ℕ) (x : SpareRecord) (p : Plain) (filled : Filled x.pairs) where
  abbrev a : Asked
  a = asked room p (insert_for x)

  -- a record that nothing speaks against is granted
  pub grant-yes : grant_no room x p ≡ 0 → Granted room x p
  grant-yes e =
      let short = picked-yes (leb (length (request_for x)) file_bytes) (then_no (first_no place_rows a) (pick (is_room_for room (length_of (with_insert x p))) (pick (has_short_names x p) 0 104) 26)) 19 e in
      let both = then-both (first_no place_rows a) (pick (is_room_for room (length_of (with_insert x p))) (pick (has_short_names x p) 0 104) 26) short.1 in
      let y = first-yes place_rows a refl both.0 in
      let fits = (picked-yes (is_room_for room (length_of (with_insert x p))) (pick (has_short_names x p) 0 104) 25 both.1).0 in
      record {
        reads = filled-reads x filled (leb-true (length (request_for x)) file_bytes short.0);
        yes = (refl, (y.0, (y.1.0, (y.1.1.0, (y.1.1.1.0, (y.1.1.1.1.0, (y.1.1.1.1.1.0, (fits, tt))))))));
      }

  -- what speaks against one is its number

  step-number : length (request_for x) ≤ file_bytes → (step room p (request_for x)).number ≡ first_no (edit_questions int_bounds) (asked room p (insert_for x))
  unfolding step
  step-number l = ap (λ (o : Option Request). (step_of int_bounds room p o).number) (filled-reads x filled l) ∙ step-told (first_no (edit_questions int_bounds) a) p (with_insert x p)

  step-long : file_bytes < length (request_for x) → (step room p (request_for x)).number ≡ 20
  unfolding step
  step-long l = ap (λ (o : Option Request). (step_of int_bounds room p o).number) (too_long (request_for x) l)

  place-number : (k : ℕ) → length (request_for x) ≤ file_bytes → first_no place_rows (asked room p (insert_for x)) ≡ suc k → (step room p (request_for x)).number ≡ suc k
  place-number k l e =
      step-number l
      ∙ questions-cut a refl
      ∙ ap (λ (n : ℕ). pick (eqb n 0) (first_no (drop 7 (edit_questions int_bounds)) a) n) e
      ∙ ap (λ (b : Bool). pick b (first_no (drop 7 (edit_questions int_bounds)) a) (suc k)) (ne_eqb (suc k) 0 (λ z. omega arith))

  rest-number : length (request_for x) ≤ file_bytes → first_no place_rows (asked room p (insert_for x)) ≡ 0 → (step room p (request_for x)).number ≡ first_no (drop 7 (edit_questions int_bounds)) (asked room p (insert_for x))
  rest-number l e = step-number l ∙ questions-cut a refl ∙ ap (λ (n : ℕ). pick (eqb n 0) (first_no (drop 7 (edit_questions int_bounds)) a) n) e

  -- a name that is longer than a field's may be
  set_there : (o : Option ℕ) → is_some o ≡ true → (i : ℕ) × (o ≡ some i)
  set_there none e = absurd (false≢true e)
  set_there (some i) e = (i, refl)

  pairs-there : (f : Edit → Request) (c : Option (List Pair)) → is_some (Option.map f (Option.map (λ (ps : List Pair). Edit.insert ps) c)) ≡ true → (ps : List Pair) × (c ≡ some ps)
  pairs-there f none e = absurd (false≢true e)
  pairs-there f (some ps) e = (ps, refl)

  overlong : first_no place_rows (asked room p (insert_for x)) ≡ 0 → has_short_names x p ≡ false → fits_limits (with_insert x p).sets ≡ false
  overlong e s =
      let y = first-yes place_rows a refl e in
      let f : Edit → Request = λ (g : Edit). record { set = x.set; edit = g } in
      let i = set_there (index_of x.set p.sets) y.0 in
      let c : Option (List Pair) = completed int_bounds (set_at i.0 p.sets) x.pairs in
      let by : completed_by int_bounds p (insert_for x) ≡ Option.map f (Option.map (λ (ps : List Pair). Edit.insert ps) c) = completed-insert p (insert_for x) x.pairs i.0 i.1 refl in
      let ps = pairs-there f c (ap is_some (sym by) ∙ y.1.1.1.1.1.0) in
      let whole : completed_by int_bounds p (insert_for x) ≡ some (f (Edit.insert ps.0)) = by ∙ ap (λ (d : Option (List Pair)). Option.map f (Option.map (λ (qs : List Pair). Edit.insert qs) d)) ps.1 in
      let long : all is_short ps.0 ≡ false = sym (ap (λ (o : Option Request). all is_short (new_pairs (request_or o).edit)) whole) ∙ s in
      ap (λ (o : Option Request). fits_limits (apply (request_or o) p).sets) whole ∙ overlong-limits (f (Edit.insert ps.0)) p i.0 ps.0 i.1 refl long

  pub grant-number : (k : ℕ) → grant_no room x p ≡ suc k → (step room p (request_for x)).number ≡ suc k
  grant-number k e = long-by (leb (length (request_for x)) file_bytes) refl e
    where
      limits-by : (t : Bool) → first_no place_rows (asked room p (insert_for x)) ≡ 0 → has_short_names x p ≡ t → length (request_for x) ≤ file_bytes → is_room_for room (length_of (with_insert x p)) ≡ true → pick t 0 104 ≡ suc k → (step room p (request_for x)).number ≡ suc k
      limits-by true z h l r e = absurd (omega arith)
      limits-by false z h l r e =
          rest-number l z
          ∙ (λ i. pick (r i) (pick (overlong z h i) (first_no (drop 9 (edit_questions int_bounds)) a) 104) 26)
          ∙ e

      room_by : (t : Bool) → first_no place_rows (asked room p (insert_for x)) ≡ 0 → is_room_for room (length_of (with_insert x p)) ≡ t → length (request_for x) ≤ file_bytes → pick t (pick (has_short_names x p) 0 104) 26 ≡ suc k → (step room p (request_for x)).number ≡ suc k
      room_by true z r l e = limits-by (has_short_names x p) z refl l r e
      room_by false z r l e = rest-number l z ∙ (λ i. pick (r i) (first_no (drop 8 (edit_questions int_bounds)) a) 26) ∙ e

      place-by : (n : ℕ) → first_no place_rows (asked room p (insert_for x)) ≡ n → length (request_for x) ≤ file_bytes → then_no n (pick (is_room_for room (length_of (with_insert x p))) (pick (has_short_names x p) 0 104) 26) ≡ suc k → (step room p (request_for x)).number ≡ suc k
      place-by zero z l e = room_by (is_room_for room (length_of (with_insert x p))) z refl l e
      place-by (suc n) z l e = place-number n l z ∙ e

      long-by : (t : Bool) → leb (length (request_for x)) file_bytes ≡ t → pick t (then_no (first_no place_rows (asked room p (insert_for x))) (pick (is_room_for room (length_of (with_insert x p))) (pick (has_short_names x p) 0 104) 26)) 20 ≡ suc k → (step room p (request_for x)).number ≡ suc k
      long-by true l e = place-by (first_no place_rows (asked room p (insert_for x))) refl (leb-true (length (request_for x)) file_bytes l) e
      long-by false l e = step-long (leb-false (length (request_for x)) file_bytes l) ∙ e

-- What the front is: of the records that are not skipped, granted ones; what stops it, if a number does; and nothing is left behind it if none does and there was room for more.
pub record IsFront (room most : ℕ) (xs : List SpareRecord) (p : Plain) (f : Front) : Type 0 where
  pub rest : List SpareRecord
  pub cut : left_by is_skipped xs p ≡ f.taken ++ rest
  pub granted : AllGranted room f.taken p
  pub stops : (k : ℕ) → f.number ≡ suc k → (y : SpareRecord) × ((ys : List SpareRecord) × ((rest ≡ y ∷ ys) × ((step room (with_inserts f.taken p) (request_for y)).number ≡ suc k)))
  pub ends : f.number ≡ 0 → length f.taken < most → rest ≡ []

module _ (room : ℕ) where
  abbrev Fronts : List SpareRecord → Type 0
  Fronts xs = (most : ℕ) (p : Plain) → IsFront room most xs p (front_of room most xs p)

  front_by_lem : (x : SpareRecord) (xs : List SpareRecord) → Filled x.pairs → Fronts xs → (most : ℕ) (p : Plain) (t : Bool) (n : ℕ) → is_skipped x p.sets ≡ t → grant_no room x p ≡ n
      → IsFront room (suc most) (x ∷ xs) p (front_by t n x (front_of room (suc most) xs p) (front_of room most xs (with_insert x p)))
  front_by_lem x xs filled ih most p true n s g =
      let f = ih (suc most) p in
      record { rest = f.rest; cut = ap (λ (t : Bool). left_unless t x (left_by is_skipped xs (inserted_unless t x p))) s ∙ f.cut; granted = f.granted; stops = f.stops; ends = f.ends }
  front_by_lem x xs filled ih most p false zero s g =
      let f = ih most (with_insert x p) in
      record {
        rest = f.rest;
        cut = ap (λ (t : Bool). left_unless t x (left_by is_skipped xs (inserted_unless t x p))) s ∙ ap {B = List SpareRecord} (λ ys. x ∷ ys) f.cut;
        granted = (grant-yes room x p filled g, f.granted);
        stops = f.stops;
        ends = λ z l. f.ends z (omega arith);
      }
  front_by_lem x xs filled ih most p false (suc n) s g =
      record {
        rest = x ∷ left_by is_skipped xs (with_insert x p);
        cut = ap (λ (t : Bool). left_unless t x (left_by is_skipped xs (inserted_unless t x p))) s;
        granted = tt;
        stops = λ k e. (x, (left_by is_skipped xs (with_insert x p), (refl, grant-number room x p filled k (g ∙ e))));
        ends = λ z l. absurd (omega arith);
      }

  pub front-is : (xs : List SpareRecord) → Each (λ (x : SpareRecord). Filled x.pairs) xs → Fronts xs
  unfolding front_of
  front-is [] h most p = record { rest = []; cut = refl; granted = tt; stops = λ k e. absurd (omega arith); ends = λ z l. refl }
  front-is (x ∷ xs) h zero p = record { rest = left_by is_skipped (x ∷ xs) p; cut = refl; granted = tt; stops = λ k e. absurd (omega arith); ends = λ z l. absurd (omega arith) }
  front-is (x ∷ xs) h (suc most) p = front_by_lem x xs h.0 (front-is xs h.1) most p (is_skipped x p.sets) (grant_no room x p) refl refl

  -- With fewer at most, it is a front part of itself.
  abbrev Fewer : List SpareRecord → Type 0
  Fewer xs = (k most : ℕ) (p : Plain) → k ≤ most → (front_of room k xs p).taken ≡ take k (front_of room most xs p).taken

  fewer-by : (x : SpareRecord) (xs : List SpareRecord) → Fewer xs → (k most : ℕ) (p : Plain) (t : Bool) (n : ℕ) → k ≤ most
      → (front_by t n x (front_of room (suc k) xs p) (front_of room k xs (with_insert x p))).taken ≡ take (suc k) (front_by t n x (front_of room (suc most) xs p) (front_of room most xs (with_insert x p))).taken
  fewer-by x xs ih k most p true n l = ih (suc k) (suc most) p (omega arith)
  fewer-by x xs ih k most p false zero l = ap {B = List SpareRecord} (λ ys. x ∷ ys) (ih k most (with_insert x p) l)
  fewer-by x xs ih k most p false (suc n) l = refl

  pub front-fewer : (xs : List SpareRecord) (k most : ℕ) (p : Plain) → k ≤ most → (front_of room k xs p).taken ≡ take k (front_of room most xs p).taken
  unfolding front_of
  front-fewer [] zero most p l = refl
  front-fewer [] (suc k) most p l = refl
  front-fewer (x ∷ xs) zero most p l = refl
  front-fewer (x ∷ xs) (suc k) zero p l = absurd (omega arith)
  front-fewer (x ∷ xs) (suc k) (suc most) p l = fewer-by x xs (front-fewer xs) k most p (is_skipped x p.sets) (grant_no room x p) (omega arith)
