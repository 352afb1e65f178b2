-- How far each walk over a descriptor has come, and what one step more does: over the words of a value, over the names of its first word, over the fields.
use Rattle.std.specs.Prelude.{Some, None}
use Prim.Native.Nat.{ℕ, ◌+◌, ◌≤◌, ◌<◌}
use native.Mathlib.Omega.{arith}
use mathlib.Core.Path.{◌≡◌, sym, ap, ◌∙◌}
use mathlib.Core.Bool.{Bool, true, false, ◌||◌, and-eq-true_iff}
use mathlib.Core.List.{List, [], ◌∷◌, ◌++◌, map}
use borrow.Author.Tests.{eq-eqb, ne_eqb}
use lib.Dec.{eqb}
use lib.ListN.{length, set, drop, length-map, length-append}
use Rattle.format.specs.Lists.{front, behind}
use Rattle.format.specs.Bytes.{Bytes, pick, all}
use Rattle.format.specs.Lines.{is_name}
use Rattle.format.specs.Words.{is_gap, not_gap, split, words}
use Rattle.format.specs.Rules.{typed_names}
use Rattle.format.proofs.Parts.{split-cut}
use Rattle.values.specs.Value.{value_from}
use Rattle.words.specs.Spans.{span}
use Rattle.records.specs.Places.{is_readable}
use Rattle.records.specs.Walk.{record_in}
use Rattle.records.specs.Fields.{fields_from, field_between, FieldHere}
use Rattle.values.specs.Words.{word_from, Cuts, is_comma, name_from, others_from, Behind}
use Rattle.sorting.specs.Texts.{text_at}
use Rattle.terms.specs.Sets.{Term, term_of}
use Rattle.terms.specs.Entries.{term_at, IsEntry}
use Rattle.dictionary.specs.Tags.{list_tag}
use Rattle.terms.specs.Adding.{Adding}
use Rattle.dictionary.specs.Terms.{terms_by, list_terms, are_names}
use Rattle.terms.proofs.Adding.{adding-start, adding-rest, adding-one, adding-many}
use Rattle.typedefs.proofs.Texts.{text-word}
use Rattle.dictionary.proofs.Names.{text-name, name-there}
use Rattle.dictionary.proofs.Listing.{list-none, list-cons, tag-most}

-- what an entry says of itself
abbrev pub Stands : Bytes → ℕ → ℕ → ℕ → Type 0
Stands d at tag e = IsEntry d e × (term_at d e ≡ term_of tag (text_at true d at))

-- the words of the value at i, as far as `from`
pub record WordsLeft (d : Bytes) (l : List ℕ) (n tag i : ℕ) (m : List ℕ) (k from : ℕ) : Type 0 where
  pub inside : from ≤ length d
  pub room : n + length (words (value_from (drop i d))) ≤ length l
  pub names : all is_name (words (value_from (drop from d))) ≡ true
  pub adding : Adding d l n (map (term_of tag) (words (value_from (drop i d)))) (map (term_of tag) (words (value_from (drop from d)))) m k

pub words-start : (d : Bytes) (l : List ℕ) (n tag i : ℕ) → i ≤ length d → n + length (words (value_from (drop i d))) ≤ length l → all is_name (words (value_from (drop i d))) ≡ true → WordsLeft d l n tag i l n i
words-start d l n tag i h r e = record { inside = h; room = r; names = e; adding = adding-start d l n (map (term_of tag) (words (value_from (drop i d)))) }

module _ (d : Bytes) (l : List ℕ) (n tag i : ℕ) (m : List ℕ) (k from : ℕ) (w : WordsLeft d l n tag i m k from) where
  pub words-end : Cuts d from None → Adding d l n (map (term_of tag) (words (value_from (drop i d)))) [] m k
  words-end e = adding-rest (map (term_of tag) (words (value_from (drop from d)))) [] (ap (map (term_of tag)) e) w.adding

  module _ (a b : ℕ) (c : Cuts d from (Some (record { start = a; rest = b }))) where
    abbrev first : Bytes
    first = front not_gap (value_from (drop a d))

    abbrev others : List Bytes
    others = words (value_from (drop b d))

    named : (is_name first ≡ true) × (all is_name others ≡ true)
    named = (and-eq-true_iff (is_name first) (all is_name others)).0 (sym (ap (all is_name) c.0) ∙ w.names)

    on : Adding d l n (map (term_of tag) (words (value_from (drop i d)))) (term_of tag first ∷ map (term_of tag) others) m k
    on = adding-rest (map (term_of tag) (words (value_from (drop from d)))) (term_of tag first ∷ map (term_of tag) others) (ap (map (term_of tag)) c.0) w.adding

    pub words-room : k < length m
    words-room = omega (arith, w.room, on.count, on.long, length-map (words (value_from (drop i d))) (term_of tag))

    pub words_more : (e : ℕ) → Stands d a tag e → WordsLeft d l n tag i (set m k e) (k + 1) b
    words_more e s =
        record {
          inside = c.3;
          room = w.room;
          names = named.1;
          adding = adding-one d l n (map (term_of tag) (words (value_from (drop i d)))) (map (term_of tag) others) (term_of tag first) m k e on words-room s.0 (s.1 ∙ ap (term_of tag) (text-word d a named.0));
        }

-- the names of the first word of the value at i, as far as `at`
pub record NamesLeft (d : Bytes) (l : List ℕ) (n tag i : ℕ) (m : List ℕ) (k at : ℕ) : Type 0 where
  pub inside : at ≤ length d
  pub room : n + length (typed_names (value_from (drop i d))) ≤ length l
  pub names : all is_name (split 44 (word_from d at)) ≡ true
  pub adding : Adding d l n (map (term_of tag) (typed_names (value_from (drop i d)))) (map (term_of tag) (split 44 (word_from d at))) m k

pub names-start : (d : Bytes) (l : List ℕ) (n tag i at : ℕ) → at ≤ length d → value_from (drop at d) ≡ behind is_gap (value_from (drop i d)) → n + length (typed_names (value_from (drop i d))) ≤ length l → all is_name (typed_names (value_from (drop i d))) ≡ true → NamesLeft d l n tag i l n at
names-start d l n tag i at h v r e =
    let q : split 44 (word_from d at) ≡ typed_names (value_from (drop i d)) = ap (λ (x : Bytes). split 44 (front not_gap x)) v in
    record {
      inside = h;
      room = r;
      names = ap (all is_name) q ∙ e;
      adding = adding-rest (map (term_of tag) (typed_names (value_from (drop i d)))) (map (term_of tag) (split 44 (word_from d at))) (ap (map (term_of tag)) (sym q)) (adding-start d l n (map (term_of tag) (typed_names (value_from (drop i d)))));
    }

module _ (d : Bytes) (l : List ℕ) (n tag i : ℕ) (m : List ℕ) (k at : ℕ) (w : NamesLeft d l n tag i m k at) where
  abbrev later : List Bytes
  later = others_from d at

  name-cut : split 44 (word_from d at) ≡ name_from d at ∷ later
  name-cut = split-cut is_comma (word_from d at)

  name-good : (is_name (name_from d at) ≡ true) × (all is_name later ≡ true)
  name-good = (and-eq-true_iff (is_name (name_from d at)) (all is_name later)).0 (sym (ap (all is_name) name-cut) ∙ w.names)

  name-left : Adding d l n (map (term_of tag) (typed_names (value_from (drop i d)))) (term_of tag (name_from d at) ∷ map (term_of tag) later) m k
  name-left = adding-rest (map (term_of tag) (split 44 (word_from d at))) (term_of tag (name_from d at) ∷ map (term_of tag) later) (ap (map (term_of tag)) name-cut) w.adding

  pub names-there : at < length d
  names-there = name-there d at name-good.0

  pub names-room : k < length m
  names-room = omega (arith, w.room, name-left.count, name-left.long, length-map (typed_names (value_from (drop i d))) (term_of tag))

  module _ (e : ℕ) (s : Stands d at tag e) where
    put : Adding d l n (map (term_of tag) (typed_names (value_from (drop i d)))) (map (term_of tag) later) (set m k e) (k + 1)
    put = adding-one d l n (map (term_of tag) (typed_names (value_from (drop i d)))) (map (term_of tag) later) (term_of tag (name_from d at)) m k e name-left names-room s.0 (s.1 ∙ ap (term_of tag) (text-name d at name-good.0))

    pub names-end : Behind d at None → Adding d l n (map (term_of tag) (typed_names (value_from (drop i d)))) [] (set m k e) (k + 1)
    names-end b = adding-rest (map (term_of tag) later) [] (ap (map (term_of tag)) b) put

    pub names_more : (next : ℕ) → Behind d at (Some next) → NamesLeft d l n tag i (set m k e) (k + 1) next
    names_more next b =
        record {
          inside = b.1;
          room = w.room;
          names = sym (ap (all is_name) b.2) ∙ name-good.1;
          adding = adding-rest (map (term_of tag) later) (map (term_of tag) (split 44 (word_from d next))) (ap (map (term_of tag)) b.2) put;
        }

-- the lists of a descriptor, as far as byte i
pub record ListsLeft (d : Bytes) (l : List ℕ) (m : List ℕ) (n i : ℕ) : Type 0 where
  pub inside : i ≤ length d
  pub readable : is_readable (drop i d) ≡ true
  pub room : length (list_terms (record_in d)) ≤ length l
  pub names : all are_names (fields_from d i) ≡ true
  pub adding : Adding d l 0 (list_terms (record_in d)) (list_terms (fields_from d i)) m n

pub lists-start : (d : Bytes) (l : List ℕ) → is_readable d ≡ true → length (list_terms (record_in d)) ≤ length l → all are_names (record_in d) ≡ true → ListsLeft d l l 0 0
lists-start d l r h e = record { inside = omega arith; readable = r; room = h; names = e; adding = adding-start d l 0 (list_terms (record_in d)) }

module _ (d : Bytes) (l m : List ℕ) (n i : ℕ) (w : ListsLeft d l m n i) where
  pub lists-end : fields_from d i ≡ [] → Adding d l 0 (list_terms (record_in d)) [] m n
  lists-end e = adding-rest (list_terms (fields_from d i)) [] (ap list_terms e ∙ list-none) w.adding

  module _ (a nm v e : ℕ) (f : FieldHere d i a nm v e) (tag : ℕ) (t : tag ≡ list_tag (span a nm d)) where
    abbrev here : List Bytes
    here = words (value_from (span v e d))

    value_same : words (value_from (drop v d)) ≡ here
    value_same = ap words f.ends-itself

    parted : (are_names (field_between d a nm v e) ≡ true) × (all are_names (fields_from d e) ≡ true)
    parted = (and-eq-true_iff (are_names (field_between d a nm v e)) (all are_names (fields_from d e))).0 (sym (ap (all are_names) f.fields) ∙ w.names)

    terms-cut : list_terms (fields_from d i) ≡ terms_by tag here ++ list_terms (fields_from d e)
    terms-cut = ap list_terms f.fields ∙ list-cons (field_between d a nm v e) (fields_from d e) ∙ ap (λ (j : ℕ). terms_by j here ++ list_terms (fields_from d e)) (sym t)

    -- a field of no list
    pub lists-skip : 64 ≤ tag → ListsLeft d l m n e
    lists-skip h =
        let q : tag ≡ 64 = omega (arith, tag-most (span a nm d)) in
        let none : terms_by tag here ≡ [] = ap (λ (x : Bool). pick x [] (map (term_of tag) here)) (eq-eqb tag 64 q) in
        record {
          inside = f.inside;
          readable = f.readable;
          room = w.room;
          names = parted.1;
          adding = adding-rest (list_terms (fields_from d i)) (list_terms (fields_from d e)) (terms-cut ∙ ap (λ (ts : List Term). ts ++ list_terms (fields_from d e)) none) w.adding;
        }

    module _ (h : tag < 64) where
      not_none : eqb tag 64 ≡ false
      not_none = ne_eqb tag 64 (λ q. omega arith)

      all_here : terms_by tag here ≡ map (term_of tag) here
      all_here = ap (λ (x : Bool). pick x [] (map (term_of tag) here)) not_none

      cut : list_terms (fields_from d i) ≡ map (term_of tag) (words (value_from (drop v d))) ++ list_terms (fields_from d e)
      cut = terms-cut ∙ ap (λ (ts : List Term). ts ++ list_terms (fields_from d e)) (all_here ∙ ap (map (term_of tag)) (sym value_same))

      pub lists-room : n + length (words (value_from (drop v d))) ≤ length m
      lists-room =
          let ts = map (term_of tag) (words (value_from (drop v d))) in
          omega (arith, w.room, w.adding.count, w.adding.long, ap length cut, length-append ts (list_terms (fields_from d e)), length-map (words (value_from (drop v d))) (term_of tag))

      pub lists-names : all is_name (words (value_from (drop v d))) ≡ true
      lists-names =
          ap (all is_name) value_same
          ∙ sym (ap (λ (x : Bool). x || all is_name here) (ap (λ (j : ℕ). eqb j 64) (sym t) ∙ not_none))
          ∙ parted.0

      pub lists-more : (p : List ℕ) (r : ℕ) → Adding d m n (map (term_of tag) (words (value_from (drop v d)))) [] p r → ListsLeft d l p r e
      lists-more p r b =
          record {
            inside = f.inside;
            readable = f.readable;
            room = w.room;
            names = parted.1;
            adding =
                adding-many d l 0 (list_terms (record_in d)) (map (term_of tag) (words (value_from (drop v d)))) (list_terms (fields_from d e)) m n p r
                (adding-rest (list_terms (fields_from d i)) (map (term_of tag) (words (value_from (drop v d))) ++ list_terms (fields_from d e)) cut w.adding) b;
          }
