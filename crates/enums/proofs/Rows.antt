-- Rows and their first ones, and which symbols have a row's tag.
use Prim.Native.Nat.{ℕ, zero, suc, ◌+◌, ◌-◌, ◌≤◌, ◌<◌}
use native.Mathlib.Numerals.{add-one}
use native.Mathlib.Omega.{arith}
use mathlib.Core.Path.{◌≡◌, refl, sym, ap, ap₂, ◌∙◌}
use mathlib.Core.Bool.{Bool, true, false, ◌&&◌, ◌||◌, and-eq-true_iff, false≢true}
use mathlib.Core.List.{List, [], ◌∷◌, ◌++◌, map}
use borrow.Author.Tests.{eqb-true, eq-eqb, ne_eqb, lt-ltb, le-ltb}
use lib.Dec.{ltb, eqb}
use lib.ListN.{length, get_or, drop, length-drop}
use lib.Seq.{get_or-drop}
use Rattle.format.specs.Bytes.{Bytes, pick, among}
use Rattle.lines.proofs.Cuts.{at-cons}
use Rattle.values.proofs.Tests.{by_bool, dec-lt}
use Rattle.terms.specs.Sets.{Term, term_of, in_set, tagged, Answers}
use Rattle.terms.specs.Adding.{Adding}
use Rattle.terms.proofs.Tests.{or-none, tagged-append}
use Rattle.terms.proofs.Adding.{adding-rest, adding-many}
use Rattle.dictionary.proofs.Rows.{same_tag, other_tag}
use Rattle.enums.specs.Enums.{enum_in}
use Rattle.enums.specs.Rows.{place_of, leader_of, is_first, symbol_row, symbol_rows, rows_left, Found}

-- the search for the first row with a text
module _ (texts : List ℕ) (v i : ℕ) (h : i < length texts) where
  pub place_here : get_or texts i 0 ≡ v → place_of v (drop i texts) ≡ 0
  unfolding place_of
  place_here e = rw (at-cons texts i h, eq-eqb _ _ e)

  pub place-on : (get_or texts i 0 ≡ v → ⊥) → place_of v (drop i texts) ≡ suc (place_of v (drop (i + 1) texts))
  unfolding place_of
  place-on e = rw (at-cons texts i h, ne_eqb _ _ e)

module _ (texts : List ℕ) (from row : ℕ) where
  pub leader-start : leader_of texts from row ≡ from + place_of (get_or texts row 0) (drop from texts)
  unfolding leader_of
  leader-start = refl

-- the place found has the value, and stands no later than any that has it
found_at : (v : ℕ) (l : List ℕ) (i : ℕ) → i < length l → get_or l i 0 ≡ v → (place_of v l ≤ i) × (get_or l (place_of v l) 0 ≡ v)
unfolding place_of
found_at v [] i h e = absurd (omega arith)
found_at v (x ∷ l) zero h e = rw (eq-eqb x v e) (omega arith, e)
found_at v (x ∷ l) (suc i) h e =
    by_bool (eqb x v) (λ q. rw q (omega arith, eqb-true x v q))
    (λ q. let r = found_at v l i (omega arith) e in rw q (omega (arith, r.0), r.1))

module _ (texts : List ℕ) (from row : ℕ) (begins : from ≤ row) (h : row < length texts) where
  abbrev v : ℕ
  v = get_or texts row 0

  found : (place_of v (drop from texts) ≤ row - from) × (get_or (drop from texts) (place_of v (drop from texts)) 0 ≡ v)
  found =
      let e : from + (row - from) ≡ row = omega arith in
      found_at v (drop from texts) (row - from) (omega (arith, length-drop from texts)) (get_or-drop from texts (row - from) 0 ∙ ap (λ (j : ℕ). get_or texts j 0) e)

  pub leader-most : leader_of texts from row ≤ row
  leader-most = let f = found.0 in omega (arith, leader-start texts from row)

  pub leader-least : from ≤ leader_of texts from row
  leader-least = omega (arith, leader-start texts from row)

  pub leader-text : get_or texts (leader_of texts from row) 0 ≡ v
  leader-text = ap (λ (j : ℕ). get_or texts j 0) (leader-start texts from row) ∙ sym (get_or-drop from texts (place_of v (drop from texts)) 0) ∙ found.1

  pub leader-self : leader_of texts from (leader_of texts from row) ≡ leader_of texts from row
  leader-self = leader-start texts from (leader_of texts from row) ∙ ap (λ (x : ℕ). from + place_of x (drop from texts)) leader-text ∙ sym (leader-start texts from row)

-- the tags of rows are their numbers
module _ (d : Bytes) (texts : List ℕ) (from : ℕ) (w : Bytes) where
  row_cut : (k row m : ℕ) → tagged w k (symbol_rows d texts from row (suc m)) ≡ tagged w k (symbol_row d texts from row) || tagged w k (symbol_rows d texts from (suc row) m)
  row_cut k row m = tagged-append w k (symbol_row d texts from row) (symbol_rows d texts from (suc row) m)

  row_other : (k row : ℕ) → (k ≡ row → ⊥) → tagged w k (symbol_row d texts from row) ≡ false
  row_other k row n = go (is_first texts from row)
    where
      go : (t : Bool) → tagged w k (pick t (map (term_of row) (enum_in d (get_or texts row 0))) []) ≡ false
      go true = other_tag w k row n (enum_in d (get_or texts row 0))
      go false = refl

  row-above : (k row m : ℕ) → k < row → tagged w k (symbol_rows d texts from row m) ≡ false
  row-above k row zero h = refl
  row-above k row (suc m) h = row_cut k row m ∙ ap₂ ◌||◌ (row_other k row (λ e. omega arith)) (row-above k (suc row) m (omega arith))

  row_at : (k row m : ℕ) → row ≤ k → k < row + m → tagged w k (symbol_rows d texts from row m) ≡ tagged w k (symbol_row d texts from k)
  row_at k row zero h g = absurd (omega arith)
  row_at k row (suc m) h g =
      row_cut k row m
      ∙ dec-lt row k (λ l. ap₂ ◌||◌ (row_other k row (λ e. omega arith)) (row_at k (suc row) m l (omega arith)))
      (λ l.
      let e : row ≡ k = omega arith in
      ap₂ ◌||◌ (ap (λ (j : ℕ). tagged w k (symbol_row d texts from j)) e) (row-above k (suc row) m (omega arith)) ∙ or-none (tagged w k (symbol_row d texts from k)))

  -- the symbols of a row that is the first with its text
  own : (k : ℕ) → is_first texts from k ≡ true → tagged w k (symbol_row d texts from k) ≡ among w (enum_in d (get_or texts k 0))
  own k e = ap (λ (t : Bool). tagged w k (pick t (map (term_of k) (enum_in d (get_or texts k 0))) [])) e ∙ same_tag w k (enum_in d (get_or texts k 0))

  -- terms that are the symbols of the rows before another, whatever those from there on have
  pub in_row : (to next : ℕ) (ts : List Term) → next ≤ to → ((k : ℕ) → tagged w k (ts ++ rows_left d texts from to next) ≡ tagged w k (rows_left d texts from to from)) → (k : ℕ) → from ≤ k → k < next → tagged w k ts ≡ tagged w k (symbol_row d texts from k)
  in_row to next ts within f k h g =
      sym (or-none (tagged w k ts))
      ∙ ap (λ (t : Bool). tagged w k ts || t) (sym (row-above k next (to - next) g))
      ∙ sym (tagged-append w k ts (rows_left d texts from to next))
      ∙ f k
      ∙ row_at k from (to - from) h (omega arith)

  module _ (next : ℕ) (ts : List Term) (short : next ≤ length texts) (f : (k : ℕ) → from ≤ k → k < next → tagged w k ts ≡ tagged w k (symbol_row d texts from k)) where
    tells-by : (x : ℕ) → Answers w ts x → (k : ℕ) → from ≤ k → k < next → get_or texts k 0 < 65536 → in_set (leader_of texts from k) x ≡ among w (enum_in d (get_or texts k 0))
    tells-by x q k h g low =
        let r : ℕ = leader_of texts from k in
        let l = leader-most texts from k h (omega arith) in
        let t = leader-text texts from k h (omega arith) in
        let e : is_first texts from r ≡ true = (and-eq-true_iff (ltb (get_or texts r 0) 65536) (eqb (leader_of texts from r) r)).1 (lt-ltb (get_or texts r 0) 65536 (omega arith), eq-eqb (leader_of texts from r) r (leader-self texts from k h (omega arith))) in
        q r ∙ f r (leader-least texts from k h (omega arith)) (omega arith) ∙ own r e ∙ ap (λ (v : ℕ). among w (enum_in d v)) t

    -- a row that is not the first with its text has no symbols of its own
    first_by : (k : ℕ) (t : Bool) → is_first texts from k ≡ t → tagged w k (symbol_row d texts from k) ≡ true → leader_of texts from k ≡ k
    first_by k true e h = eqb-true (leader_of texts from k) k ((and-eq-true_iff (ltb (get_or texts k 0) 65536) (eqb (leader_of texts from k) k)).0 e).1
    first_by k false e h = absurd (false≢true (ap (λ (t : Bool). tagged w k (pick t (map (term_of k) (enum_in d (get_or texts k 0))) [])) (sym e) ∙ h))

    pub finds : (x : ℕ) → Answers w ts x → Found d texts from next w x
    finds x q = record { tells = tells-by x q; leads = λ k h g i. first_by k (is_first texts from k) refl (sym (f k h g) ∙ sym (q k) ∙ i) }

-- one row further
module _ (d : Bytes) (texts : List ℕ) (from to row : ℕ) (h : row < to) where
  left_cut : rows_left d texts from to row ≡ symbol_row d texts from row ++ rows_left d texts from to (row + 1)
  left_cut =
      let e : to - row ≡ suc (to - (row + 1)) = omega arith in
      ap (symbol_rows d texts from row) e ∙ ap (λ (j : ℕ). symbol_row d texts from row ++ symbol_rows d texts from j (to - (row + 1))) (sym (add-one row))

  module _ (l : List ℕ) (m : List ℕ) (n : ℕ) (a : Adding d l 0 (rows_left d texts from to from) (rows_left d texts from to row) m n) where
    pub row-skip : is_first texts from row ≡ false → Adding d l 0 (rows_left d texts from to from) (rows_left d texts from to (row + 1)) m n
    row-skip e =
        adding-rest (rows_left d texts from to row) (rows_left d texts from to (row + 1))
        (left_cut ∙ ap (λ (t : Bool). pick t (map (term_of row) (enum_in d (get_or texts row 0))) [] ++ rows_left d texts from to (row + 1)) e) a

    pub row_more : is_first texts from row ≡ true → (p : List ℕ) (r : ℕ) → Adding d m n (map (term_of row) (enum_in d (get_or texts row 0))) [] p r → Adding d l 0 (rows_left d texts from to from) (rows_left d texts from to (row + 1)) p r
    row_more e p r b =
        let ts : List Term = map (term_of row) (enum_in d (get_or texts row 0)) in
        adding-many d l 0 (rows_left d texts from to from) ts (rows_left d texts from to (row + 1)) m n p r
        (adding-rest (rows_left d texts from to row) (ts ++ rows_left d texts from to (row + 1))
        (left_cut ∙ ap (λ (t : Bool). pick t ts [] ++ rows_left d texts from to (row + 1)) e) a) b

-- is a row the first with its text
module _ (texts : List ℕ) (from row : ℕ) where
  pub first-is : get_or texts row 0 < 65536 → leader_of texts from row ≡ row → is_first texts from row ≡ true
  first-is h e = (and-eq-true_iff (ltb (get_or texts row 0) 65536) (eqb (leader_of texts from row) row)).1 (lt-ltb (get_or texts row 0) 65536 h, eq-eqb (leader_of texts from row) row e)

  pub first-later : (leader_of texts from row ≡ row → ⊥) → is_first texts from row ≡ false
  first-later n = ap (λ (t : Bool). ltb (get_or texts row 0) 65536 && t) (ne_eqb (leader_of texts from row) row n) ∙ and_none (ltb (get_or texts row 0) 65536)
    where
      and_none : (t : Bool) → t && false ≡ false
      and_none true = refl
      and_none false = refl

  pub first-none : 65536 ≤ get_or texts row 0 → is_first texts from row ≡ false
  first-none h = ap (λ (t : Bool). t && eqb (leader_of texts from row) row) (le-ltb (get_or texts row 0) 65536 h)
