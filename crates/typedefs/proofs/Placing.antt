-- The walk over the typedefs of a descriptor: so many values are passed, their places are known, and their names are put into entries with their numbers.
use Prim.Native.Nat.{ℕ, zero, suc, ◌+◌, ◌≤◌, ◌<◌}
use native.Mathlib.Numerals.{add-one}
use native.Mathlib.Omega.{arith}
use mathlib.Core.Path.{◌≡◌, refl, sym, ap, ◌∙◌, subst}
use mathlib.Core.Bool.{true, and-eq-true_iff, false≢true}
use mathlib.Core.List.{List, [], ◌∷◌, ◌++◌, map, append-nil}
use borrow.Author.Tests.{eqb-true, eqb-false, leb-true}
use lib.Dec.{eqb}
use lib.ListN.{length, take, drop, get_or, set, length-drop, length-set}
use lib.Seq.{drop-nil, get_or-drop, get_or-set_same, get_or-set_other}
use Rattle.format.specs.Lists.{front, behind}
use Rattle.format.specs.Bytes.{Bytes, text, all}
use Rattle.format.specs.Words.{is_gap, not_gap, first_word, is_type_name}
use Rattle.values.specs.Value.{value_from}
use Rattle.values.proofs.Decoding.{nothing-at}
use Rattle.words.specs.Spans.{span}
use Rattle.records.specs.Places.{is_readable}
use Rattle.sorting.specs.Texts.{text_at}
use Rattle.values.proofs.Tests.{by_bool, dec-lt}
use Rattle.terms.specs.Sets.{term_of, tagged}
use Rattle.terms.specs.Entries.{term_at, terms_of, IsEntry, Entries}
use Rattle.terms.specs.Order.{Holds}
use Rattle.terms.specs.Adding.{Adding}
use Rattle.terms.specs.declared.Table.{Table}
use Rattle.terms.proofs.Adding.{adding-start, adding-rest, adding-one}
use Rattle.terms.proofs.Prints.{entries-front}
use Rattle.terms.proofs.Tables.{table-front, front-terms}
use Rattle.records.specs.Named.{values_from, ValueHere}
use Rattle.typedefs.specs.Walks.{names_from, fits, fit_from}
use Rattle.typedefs.specs.Names.{numbered, PlacesTo, ArePlaces, AreNames}
use Rattle.typedefs.specs.declared.Names.{Names}
use Rattle.typedefs.proofs.Texts.{text-word, type-name}

-- a list that is cut at a place
next-rest : (vs : List Bytes) (k : ℕ) (v : Bytes) (ws : List Bytes) → drop k vs ≡ v ∷ ws → drop (suc k) vs ≡ ws
next-rest [] k v ws e = absurd (let p : ◌≡◌ {A = List Bytes} [] (v ∷ ws) = sym (drop-nil k) ∙ e in let z : ◌≡◌ {A = ℕ} 0 1 = cc in omega arith)
next-rest (u ∷ vs) zero v ws e = ap (drop 1) e
next-rest (u ∷ vs) (suc k) v ws e = next-rest vs k v ws e

-- `count` values of a name are passed, and byte i is behind them
pub record Passed (d name : Bytes) (count i : ℕ) : Type 0 where
  pub inside : i ≤ length d
  pub readable : is_readable (drop i d) ≡ true
  pub values : values_from d name i ≡ drop count (values_from d name 0)

pub passed_start : (d name : Bytes) → is_readable d ≡ true → Passed d name 0 0
passed_start d name r = record { inside = omega arith; readable = r; values = refl }

module _ (d name : Bytes) (count i : ℕ) (b : Passed d name count i) where
  pub passed-all : count ≤ length (values_from d name 0) → values_from d name i ≡ [] → count ≡ length (values_from d name 0)
  passed-all h e = omega (arith, ap length (sym b.values ∙ e), length-drop count (values_from d name 0))

  module _ (v e : ℕ) (f : ValueHere d name i v e) where
    abbrev here : Bytes
    here = value_from (span v e d)

    cut : drop count (values_from d name 0) ≡ here ∷ values_from d name e
    cut = sym b.values ∙ f.values

    pub passed-inside : count < length (values_from d name 0)
    passed-inside = omega (arith, ap length cut, length-drop count (values_from d name 0))

    pub passed-more : Passed d name (count + 1) e
    passed-more =
        record {
          inside = f.inside;
          readable = f.readable;
          values = sym (ap (λ (k : ℕ). drop k (values_from d name 0)) (add-one count) ∙ next-rest (values_from d name 0) count here (values_from d name e) cut);
        }

    -- the value of that number
    pub passed-value : value_from (drop v d) ≡ get_or (values_from d name 0) count []
    passed-value =
        let z : count + 0 ≡ count = omega arith in
        f.ends-itself ∙ ap (λ (vs : List Bytes). get_or vs 0 []) (sym cut) ∙ get_or-drop count (values_from d name 0) 0 [] ∙ ap (λ (m : ℕ). get_or (values_from d name 0) m []) z

-- the places of the values passed, and the names in entries
pub record Placed (d : Bytes) (l rows m : List ℕ) (count i : ℕ) : Type 0 where
  pub passed : Passed d (text "%typedef") count i
  pub long : length rows ≡ 32
  pub places : PlacesTo d rows count
  pub names : all is_type_name (names_from d i) ≡ true
  pub adding : Adding d l 0 (numbered 0 (names_from d 0)) (numbered count (names_from d i)) m count

pub placed-start : (d : Bytes) (l rows : List ℕ) → is_readable d ≡ true → length rows ≡ 32 → all is_type_name (names_from d 0) ≡ true → Placed d l rows l 0 0
placed-start d l rows r h e =
    record { passed = passed_start d (text "%typedef") r; long = h; places = λ k g. absurd (omega arith); names = e; adding = adding-start d l 0 (numbered 0 (names_from d 0)) }

module _ (d : Bytes) (l rows m : List ℕ) (count i : ℕ) (p : Placed d l rows m count i) where
  pub placed_end : length (values_from d (text "%typedef") 0) ≤ 32 → count ≤ length (values_from d (text "%typedef") 0) → values_from d (text "%typedef") i ≡ []
      → ArePlaces d rows count × Adding d l 0 (numbered 0 (names_from d 0)) [] m count
  placed_end few h e = (
    record { few = omega arith; long = p.long; count = passed-all d (text "%typedef") count i p.passed h e; places = p.places },
    adding-rest (numbered count (names_from d i)) [] (ap (λ (vs : List Bytes). numbered count (map first_word vs)) e) p.adding,
  )

  module _ (v e : ℕ) (f : ValueHere d (text "%typedef") i v e) (at : ℕ) (start : value_from (drop at d) ≡ behind is_gap (value_from (drop v d))) where
    abbrev name : Bytes
    name = first_word (value_from (span v e d))

    abbrev word : Bytes
    word = front not_gap (value_from (drop at d))

    names-cut : names_from d i ≡ name ∷ names_from d e
    names-cut = ap (map first_word) f.values

    word-is : word ≡ name
    word-is = ap (front not_gap) start ∙ ap first_word f.ends-itself

    named : (is_type_name name ≡ true) × (all is_type_name (names_from d e) ≡ true)
    named = (and-eq-true_iff (is_type_name name) (all is_type_name (names_from d e))).0 (sym (ap (all is_type_name) names-cut) ∙ p.names)

    word-named : is_type_name word ≡ true
    word-named = ap is_type_name word-is ∙ named.0

    pub start-inside : at < length d
    start-inside = dec-lt at (length d) (λ h. h) (λ h. absurd (false≢true (sym (ap (λ (x : Bytes). is_type_name (front not_gap x)) (nothing-at d at h)) ∙ word-named)))

    pub placed-more : count < length m → count < 32 → (x : ℕ) → IsEntry d x → term_at d x ≡ term_of count (text_at true d at) → Placed d l (set rows count v) (set m count x) (count + 1) e
    placed-more room few x is same =
        record {
          passed = passed-more d (text "%typedef") count i p.passed v e f;
          long = length-set rows count v ∙ p.long;
          places = λ k g. by_bool (eqb k count) (λ q. new k (eqb-true k count q)) (λ q. old k (eqb-false k count q) g);
          names = named.1;
          adding =
              adding-rest (numbered (suc count) (names_from d e)) (numbered (count + 1) (names_from d e)) (ap (λ (j : ℕ). numbered j (names_from d e)) (sym (add-one count)))
              (adding-one d l 0 (numbered 0 (names_from d 0)) (numbered (suc count) (names_from d e)) (term_of count name) m count x
              (adding-rest (numbered count (names_from d i)) (term_of count name ∷ numbered (suc count) (names_from d e)) (ap (numbered count) names-cut) p.adding)
              room is (same ∙ ap (term_of count) (text-word d at (type-name word word-named) ∙ word-is)));
        }
      where
        At : ℕ → ℕ → Type 0
        At k y = (y < length d) × (value_from (drop y d) ≡ get_or (values_from d (text "%typedef") 0) k [])

        new : (k : ℕ) → k ≡ count → At k (get_or (set rows count v) k 0)
        new k q =
            subst (λ (j : ℕ). At j (get_or (set rows count v) j 0)) (sym q)
            (subst (At count) (sym (get_or-set_same rows count v 0 (omega (arith, p.long)))) (f.value_there, passed-value d (text "%typedef") count i p.passed v e f))

        old : (k : ℕ) → (k ≡ count → ⊥) → k < count + 1 → At k (get_or (set rows count v) k 0)
        old k q g = subst (At k) (sym (get_or-set_other rows count k v 0 q)) (p.places k (omega (arith, q)))

-- the table of the names, at the front of the entries
module _ (d : Bytes) (l m rows : List ℕ) (count : ℕ) (are : ArePlaces d rows count) (a : Adding d l 0 (numbered 0 (names_from d 0)) [] m count) (long : 32 ≤ length l) where
  pub names-room : count ≤ length m
  names-room = omega (arith, are.few, a.long)

  pub names-entries : Entries d (length (take count m)) (take count m)
  names-entries = entries-front d m count names-room (a.entries (λ i h. absurd (omega arith)))

  pub names-made : (p : List ℕ) (t : Table) → Holds d (take count m) p t → AreNames d (record { places = rows; entries = p ++ drop count m; table = t; count = count })
  names-made p t h =
      record {
        values = are;
        table = table-front d p (drop count m) t h.table;
        terms = λ w k. front-terms d (take count m) p (drop count m) t h w k ∙ ap (tagged w k) (sym (append-nil (terms_of d (take count m))) ∙ a.terms);
      }

-- the value of a typedef, and its name
module _ (d : Bytes) (r : Names) (h : AreNames d r) (k : ℕ) (l : k < r.count) where
  pub place-fits : (m : ℕ) → fit_from m d (text "%typedef") 0 ≡ true → length (value_from (drop (get_or r.places k 0) d)) ≤ m
  place-fits m f = omega (arith, ap length (h.values.places k l).1, fit_at (values_from d (text "%typedef") 0) k f (omega (arith, h.values.count)))
    where
      fit_at : (vs : List Bytes) (j : ℕ) → all (fits m) vs ≡ true → j < length vs → length (get_or vs j []) ≤ m
      fit_at [] j e g = absurd (omega arith)
      fit_at (v ∷ vs) zero e g = leb-true (length v) m ((and-eq-true_iff (fits m v) (all (fits m) vs)).0 e).0
      fit_at (v ∷ vs) (suc j) e g = fit_at vs j ((and-eq-true_iff (fits m v) (all (fits m) vs)).0 e).1 (omega arith)

  pub place-name : first_word (value_from (drop (get_or r.places k 0) d)) ≡ get_or (names_from d 0) k []
  place-name = ap first_word (h.values.places k l).1 ∙ word_at (values_from d (text "%typedef") 0) k
    where
      word_at : (vs : List Bytes) (j : ℕ) → first_word (get_or vs j []) ≡ get_or (map first_word vs) j []
      word_at [] j = refl
      word_at (v ∷ vs) zero = refl
      word_at (v ∷ vs) (suc j) = word_at vs j
