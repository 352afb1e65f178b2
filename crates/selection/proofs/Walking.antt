-- The walk over the records of a set, piece by piece: the record that goes on has its comparisons marked, and of those before it the list has the numbers that were found.
use Prim.Native.Nat.{ℕ, zero, suc, ◌+◌, ◌-◌, ◌≤◌, ◌<◌}
use native.Mathlib.Omega.{arith}
use native.Mathlib.Numerals.{add-one}
use mathlib.Core.Path.{◌≡◌, refl, sym, ap, ◌∙◌, subst}
use mathlib.Core.Bool.{Bool, true, false, ◌&&◌, ◌||◌, or-false}
use mathlib.Core.List.{List, [], ◌∷◌, ◌++◌, map, append-nil}
use lib.Dec.{ltb}
use lib.ListN.{length, take, drop, set, get_or, length-append, length-take, length-drop}
use lib.Seq.{take_all, take-nil, take-append-le, length-take-le, get_or-take, set_at, append_snoc, drop-cons}
use borrow.Author.Tests.{ne_eqb, eq-eqb, lt-ltb, ltb-true, ltb-false}
use Rattle.format.specs.Bytes.{Bytes, pick, any, same}
use Rattle.format.specs.Lines.{Line}
use Rattle.format.specs.Pieces.{Piece, read_of}
use Rattle.format.specs.Records.{Field, Record}
use Rattle.format.specs.Sets.{values_of}
use Rattle.format.specs.Calls.{over}
use Rattle.format.proofs.Records.{close, records}
use Rattle.values.specs.Value.{value_from}
use Rattle.values.proofs.Tests.{by_bool}
use Rattle.records.specs.Places.{is_readable}
use Rattle.records.proofs.Steps.{Passed, FieldAt}
use Rattle.records.proofs.Cuts.{records_from}
use Rattle.records.proofs.Going.{going_from, going-none, going_end, going-blank, going-comment, going-field}
use Rattle.terms.specs.Sets.{in_set}
use Rattle.terms.proofs.Sets.{in-none}
use Rattle.selection.specs.Expressions.{Expression}
use Rattle.selection.specs.Meaning.{satisfies, holds}
use Rattle.selection.specs.Found.{numbers_from}
use Rattle.selection.specs.Programs.{Test, no_test, meets, Told, run_answer, IsProgram}
use Rattle.selection.specs.Rows.{test_in, test_at, tests_in, codes_in, no_comparison, name_at, satisfies_at, Filled}
use Rattle.selection.specs.Walks.{closed_number, closed_found, closed_list}
use Rattle.selection.specs.declared.programs.Comparison.{Comparison}
use Rattle.selection.specs.declared.programs.Program.{Program}
use Rattle.selection.proofs.Ints.{pick_true, pick-false}
use Rattle.selection.proofs.Turning.{count-tests}

-- a record with one field more

abbrev field_meets : Test → Field → Bool
field_meets t f = same t.name f.name && satisfies t.operator t.operand f.value

meets-more : (t : Test) (r : Record) (f : Field) → meets (r ++ (f ∷ [])) t ≡ (meets r t || field_meets t f)
meets-more t [] f = go (same t.name f.name)
  where
    go : (b : Bool) → any (satisfies t.operator t.operand) (pick b (f.value ∷ []) []) ≡ (b && satisfies t.operator t.operand f.value)
    go true = or-false (satisfies t.operator t.operand f.value)
    go false = refl
meets-more t (g ∷ r) f = go (same t.name g.name) (meets-more t r f)
  where
    or-or : (a b c : Bool) → (a || (b || c)) ≡ ((a || b) || c)
    or-or true b c = refl
    or-or false b c = refl

    go : (b : Bool) → meets (r ++ (f ∷ [])) t ≡ (meets r t || field_meets t f) → any (satisfies t.operator t.operand) (pick b (g.value ∷ values_of t.name (r ++ (f ∷ []))) (values_of t.name (r ++ (f ∷ [])))) ≡ (any (satisfies t.operator t.operand) (pick b (g.value ∷ values_of t.name r) (values_of t.name r)) || field_meets t f)
    go true h = ap (λ (x : Bool). satisfies t.operator t.operand g.value || x) h ∙ or-or (satisfies t.operator t.operand g.value) (meets r t) (field_meets t f)
    go false h = h

-- numbers put into a list, as far as it has room

over-more : (ns d : List ℕ) (i n : ℕ) → length ns ≡ i → i < length d → set (over ns d) i n ≡ over (ns ++ (n ∷ [])) d
over-more ns d i n e h =
    let k : length (ns ++ (n ∷ [])) ≡ suc i = omega (arith, length-append ns (n ∷ []), e) in
    rw (e, k, drop-cons d i 0 h) (set_at ns (get_or d i 0) (drop (suc i) d) n i e ∙ sym (append_snoc ns n (drop (suc i) d)))

abbrev pub listed : List ℕ → List ℕ → List ℕ
listed fs old = over (take (length old) fs) old

listed-long : (fs old : List ℕ) → length (listed fs old) ≡ length old
listed-long fs old =
    let a = take (length old) fs in
    omega (arith, length-append a (drop (length a) old), length-drop (length a) old, length-take (length old) fs)

pub listed_more : (fs old list : List ℕ) (n : ℕ) → list ≡ listed fs old → pick (ltb (length fs) (length list)) (set list (length fs) n) list ≡ listed (fs ++ (n ∷ [])) old
listed_more fs old list n e = ap (λ (l : List ℕ). pick (ltb (length fs) (length l)) (set l (length fs) n) l) e ∙ by_bool (ltb (length fs) (length (listed fs old))) there past
  where
    there : ltb (length fs) (length (listed fs old)) ≡ true → pick (ltb (length fs) (length (listed fs old))) (set (listed fs old) (length fs) n) (listed fs old) ≡ listed (fs ++ (n ∷ [])) old
    there t =
        let h = ltb-true (length fs) (length (listed fs old)) t in
        let l = listed-long fs old in
        pick_true (ltb (length fs) (length (listed fs old))) _ _ t
        ∙ ap (λ (x : List ℕ). set (over x old) (length fs) n) (take_all (length old) fs (omega arith))
        ∙ over-more fs old (length fs) n refl (omega arith)
        ∙ ap (λ (x : List ℕ). over x old) (sym (take_all (length old) (fs ++ (n ∷ [])) (omega (arith, length-append fs (n ∷ [])))))

    past : ltb (length fs) (length (listed fs old)) ≡ false → pick (ltb (length fs) (length (listed fs old))) (set (listed fs old) (length fs) n) (listed fs old) ≡ listed (fs ++ (n ∷ [])) old
    past t =
        let h = ltb-false (length fs) (length (listed fs old)) t in
        pick-false (ltb (length fs) (length (listed fs old))) _ _ t
        ∙ ap (λ (x : List ℕ). over x old) (sym (take-append-le (length old) fs (n ∷ []) (omega (arith, listed-long fs old))))

-- The walk

module _ (e : Bytes) (p : Program) (s : Bytes) (old : List ℕ) where
  abbrev Bits : Record → ℕ → Type 0
  Bits r bits = (k : ℕ) → in_set k bits ≡ (ltb k p.count && meets r (test_at e p.rows k))

  -- what was found so far, and what is found from a list of records on
  abbrev Finds : Expression → ℕ → ℕ → List ℕ → List Record → Type 0
  Finds x met found list rs = (fs : List ℕ) × (found ≡ length fs) × (numbers_from (holds x) 0 (records (read_of s)) ≡ fs ++ numbers_from (holds x) met rs) × (list ≡ listed fs old)

  abbrev FindsAll : ℕ → ℕ → List ℕ → List Record → Type 0
  FindsAll met found list rs = (x : Expression) → IsProgram x (tests_in e p) (codes_in p) → Finds x met found list rs

  pub record Walked (bits fields met found : ℕ) (list : List ℕ) (i : ℕ) : Type 0 where
    pub inside : i ≤ length s
    pub readable : is_readable (drop i s) ≡ true
    pub opened : Record
    pub counted : fields ≡ length opened
    pub marked : Bits opened bits
    pub few : met + fields ≤ i
    pub fewer : found ≤ met
    pub finds : FindsAll met found list (going_from opened s i)

  none-marked : Bits [] 0
  none-marked k = in-none k ∙ go (ltb k p.count)
    where
      go : (b : Bool) → false ≡ (b && false)
      go true = refl
      go false = refl

  pub walk_start : is_readable s ≡ true → Walked 0 0 0 0 old 0
  walk_start h =
      record {
        inside = omega arith;
        readable = h;
        opened = [];
        counted = refl;
        marked = none-marked;
        few = omega arith;
        fewer = omega arith;
        finds = λ x _. ([], refl, ap (numbers_from (holds x) 0) (sym (going-none (read_of s))), ap (λ (l : List ℕ). over l old) (sym (take-nil (length old))));
      }

  told-by : Filled p → (r : Record) (bits : ℕ) → Bits r bits → Told r (tests_in e p) bits
  told-by f r bits m k h =
      let c = count-tests e p f in
      let l : k < p.count = omega (arith, c) in
      m k ∙ ap (λ (b : Bool). b && meets r (test_at e p.rows k)) (lt-ltb k p.count l)
      ∙ ap (meets r) (sym (test_at_lem (take p.count p.rows) k (omega (arith, length-take-le p.count p.rows (omega (arith, f.rows_long, f.few)))) ∙ ap (test_in e) (get_or-take p.count p.rows k no_comparison l)))
    where
      test_at_lem : (cs : List Comparison) (j : ℕ) → j < length cs → get_or (map (test_in e) cs) j no_test ≡ test_in e (get_or cs j no_comparison)
      test_at_lem [] j h = absurd (omega arith)
      test_at_lem (c ∷ cs) zero h = refl
      test_at_lem (c ∷ cs) (suc j) h = test_at_lem cs j (omega arith)

  module _ (bits fields met found : ℕ) (list : List ℕ) (i : ℕ) (w : Walked bits fields met found list i) where
    pub walk-comment : (l : Line) (k : ℕ) → Passed s i (Piece.comment l) k → Walked bits fields met found list (i + k)
    walk-comment l k q =
        record {
          inside = q.inside;
          readable = q.readable;
          opened = w.opened;
          counted = w.counted;
          marked = w.marked;
          few = omega (arith, w.few);
          fewer = w.fewer;
          finds = subst (FindsAll met found list) (going-comment w.opened s i l k q) w.finds;
        }

    -- a record closed
    close-by : Filled p → (rs : List Record) → FindsAll met found list (close w.opened rs) →
        let b : Bool = run_answer (codes_in p) bits in FindsAll (closed_number fields met) (closed_found fields b found) (closed_list fields b met found list) rs
    close-by f rs g x h = go w.opened w.counted w.marked (g x h)
      where
        go : (r : Record) → fields ≡ length r → Bits r bits → Finds x met found list (close r rs) → Finds x (closed_number fields met) (closed_found fields (run_answer (codes_in p) bits) found) (closed_list fields (run_answer (codes_in p) bits) met found list) rs
        go [] c m y =
            subst (λ (t : Bool). Finds x (pick t met (met + 1)) (pick t found (pick (run_answer (codes_in p) bits) (found + 1) found)) (pick t list (pick (run_answer (codes_in p) bits) (pick (ltb found (length list)) (set list found met) list) list)) rs) (sym (eq-eqb fields 0 c)) y
        go (d ∷ r) c m y =
            subst (λ (t : Bool). Finds x (pick t met (met + 1)) (pick t found (pick (run_answer (codes_in p) bits) (found + 1) found)) (pick t list (pick (run_answer (codes_in p) bits) (pick (ltb found (length list)) (set list found met) list) list)) rs) (sym (ne_eqb fields 0 (λ z. omega (arith, c))))
            (subst (λ (t : Bool). Finds x (met + 1) (pick t (found + 1) found) (pick t (pick (ltb found (length list)) (set list found met) list) list) rs) (sym (h (d ∷ r) bits (told-by f (d ∷ r) bits m))) (by (holds x (d ∷ r)) refl))
          where
            by : (t : Bool) → holds x (d ∷ r) ≡ t → Finds x (met + 1) (pick (holds x (d ∷ r)) (found + 1) found) (pick (holds x (d ∷ r)) (pick (ltb found (length list)) (set list found met) list) list) rs
            by true t =
                subst (λ (a : Bool). Finds x (met + 1) (pick a (found + 1) found) (pick a (pick (ltb found (length list)) (set list found met) list) list) rs) (sym t) (
                  y.0 ++ (met ∷ []),
                  omega (arith, y.1, length-append y.0 (met ∷ [])),
                  y.2 ∙ ap (λ (a : Bool). y.0 ++ pick a (met ∷ numbers_from (holds x) (suc met) rs) (numbers_from (holds x) (suc met) rs)) t ∙ sym (append_snoc y.0 met (numbers_from (holds x) (suc met) rs)) ∙ ap (λ (j : ℕ). (y.0 ++ (met ∷ [])) ++ numbers_from (holds x) j rs) (sym (add-one met)),
                  ap (λ (j : ℕ). pick (ltb j (length list)) (set list j met) list) y.1 ∙ listed_more y.0 old list met y.3,
                )
            by false t =
                subst (λ (a : Bool). Finds x (met + 1) (pick a (found + 1) found) (pick a (pick (ltb found (length list)) (set list found met) list) list) rs) (sym t)
                (y.0, y.1, y.2 ∙ ap (λ (a : Bool). y.0 ++ pick a (met ∷ numbers_from (holds x) (suc met) rs) (numbers_from (holds x) (suc met) rs)) t ∙ ap (λ (j : ℕ). y.0 ++ numbers_from (holds x) j rs) (sym (add-one met)), y.3)

    closed-few : (b : Bool) → (closed_number fields met ≤ met + fields) × (closed_found fields b found ≤ closed_number fields met)
    closed-few b = go fields b w.fewer
      where
        go : (n : ℕ) (b : Bool) → found ≤ met → (closed_number n met ≤ met + n) × (closed_found n b found ≤ closed_number n met)
        go zero b h = (omega arith, h)
        go (suc n) true h =
            let z = ne_eqb (suc n) 0 (λ q. omega arith) in
            (omega (arith, ap (λ (t : Bool). pick t met (met + 1)) z), omega (arith, ap (λ (t : Bool). pick t met (met + 1)) z, ap (λ (t : Bool). pick t found (found + 1)) z))
        go (suc n) false h =
            let z = ne_eqb (suc n) 0 (λ q. omega arith) in
            (omega (arith, ap (λ (t : Bool). pick t met (met + 1)) z), omega (arith, ap (λ (t : Bool). pick t met (met + 1)) z, ap (λ (t : Bool). pick t found found) z))

    pub walk-blank : Filled p → (l : Line) (k : ℕ) → Passed s i (Piece.blank l) k →
        let b : Bool = run_answer (codes_in p) bits in Walked 0 0 (closed_number fields met) (closed_found fields b found) (closed_list fields b met found list) (i + k)
    walk-blank f l k q =
        let b : Bool = run_answer (codes_in p) bits in
        record {
          inside = q.inside;
          readable = q.readable;
          opened = [];
          counted = refl;
          marked = none-marked;
          few = omega (arith, w.few, (closed-few b).0);
          fewer = (closed-few b).1;
          finds = subst (FindsAll (closed_number fields met) (closed_found fields b found) (closed_list fields b met found list)) (sym (going-none (read_of (drop (i + k) s))))
              (close-by f (records_from s (i + k)) (subst (FindsAll met found list) (going-blank w.opened s i l k q) w.finds));
        }

    pub walk_field : (n v k : ℕ) → FieldAt s i n v k → (next : ℕ) →
        ((j : ℕ) → in_set j next ≡ (in_set j bits || (ltb j p.count && (same (name_at e p.rows j) (take ((i + n) - i) (drop i s)) && satisfies_at e p.rows j (value_from (take ((i + k) - (i + v)) (drop (i + v) s))))))) →
        Walked next (fields + 1) met found list (i + k)
    walk_field n v k a next h =
        let f : Field = record { name = take ((i + n) - i) (drop i s); value = value_from (take ((i + k) - (i + v)) (drop (i + v) s)); count = k } in
        record {
          inside = a.passed.inside;
          readable = a.passed.readable;
          opened = w.opened ++ (f ∷ []);
          counted = omega (arith, w.counted, length-append w.opened (f ∷ []));
          marked = λ j.
              let t = test_at e p.rows j in
              h j ∙ ap (λ (b : Bool). b || (ltb j p.count && field_meets t f)) (w.marked j)
              ∙ either (ltb j p.count) (meets w.opened t) (field_meets t f)
              ∙ ap (λ (b : Bool). ltb j p.count && b) (sym (meets-more t w.opened f));
          few = omega (arith, w.few, a.passed.moves);
          fewer = w.fewer;
          finds = subst (FindsAll met found list) (going-field w.opened s i n v k a) w.finds;
        }
      where
        either : (a b c : Bool) → ((a && b) || (a && c)) ≡ (a && (b || c))
        either true b c = refl
        either false b c = refl

    pub walk_end : Filled p → read_of (drop i s) ≡ [] → (x : Expression) → IsProgram x (tests_in e p) (codes_in p) →
        let b : Bool = run_answer (codes_in p) bits in
        let ns : List ℕ = numbers_from (holds x) 0 (records (read_of s)) in
        (closed_found fields b found ≡ length ns) × (closed_list fields b met found list ≡ listed ns old)
    walk_end f z x h =
        let y = close-by f [] (subst (FindsAll met found list) (going_end w.opened s i z) w.finds) x h in
        let q : y.0 ≡ numbers_from (holds x) 0 (records (read_of s)) = sym (y.2 ∙ append-nil y.0) in
        (y.1 ∙ ap length q, y.3 ∙ ap (λ (l : List ℕ). listed l old) q)

  -- the same of equal numbers and lists
  pub walked_as : (bits fields met found : ℕ) (list : List ℕ) (i met₁ found₁ : ℕ) (list₁ : List ℕ) → met₁ ≡ met → found₁ ≡ found → list₁ ≡ list → Walked bits fields met found list i → Walked bits fields met₁ found₁ list₁ i
  walked_as bits fields met found list i met₁ found₁ list₁ a b c w =
      subst (λ (l : List ℕ). Walked bits fields met₁ found₁ l i) (sym c) (subst (λ (k : ℕ). Walked bits fields met₁ k list i) (sym b) (subst (λ (k : ℕ). Walked bits fields k found list i) (sym a) w))
