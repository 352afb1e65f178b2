-- How far the walks over the words of a value and over the fields of a name have come, and what one step more does.
use Rattle.std.specs.Prelude.{Some, None}
use Prim.Native.Nat.{ℕ, suc, ◌+◌, ◌≤◌, ◌<◌}
use native.Mathlib.Numerals.{add-one}
use native.Mathlib.Omega.{arith}
use mathlib.Core.Path.{◌≡◌, sym, ap, ◌∙◌}
use mathlib.Core.Bool.{true, and-eq-true_iff}
use mathlib.Core.List.{List, [], ◌∷◌, ◌++◌, append-nil, map}
use lib.ListN.{length, set, take, drop, length-append}
use Rattle.format.specs.Lists.{front, flat}
use Rattle.format.specs.Bytes.{Bytes, all}
use Rattle.format.specs.Lines.{is_name}
use Rattle.format.specs.Words.{not_gap, words}
use Rattle.format.specs.Rules.{listed}
use Rattle.format.proofs.Lines.{all_append}
use Rattle.values.specs.Value.{value_from}
use Rattle.records.specs.Places.{is_readable}
use Rattle.records.specs.Walk.{record_in}
use Rattle.values.specs.Words.{Cuts}
use Rattle.records.specs.Named.{values_from, ValueHere}
use Rattle.terms.specs.Sets.{Term, term_of, tagged}
use Rattle.terms.specs.Entries.{terms_of, Entries}
use Rattle.terms.specs.Order.{IsTable, Holds}
use Rattle.terms.specs.Joined.{IsJoined}
use Rattle.terms.specs.Adding.{Adding}
use Rattle.terms.specs.declared.Table.{Table}
use Rattle.terms.proofs.Adding.{adding-start, adding-rest, adding-one, adding-many}
use Rattle.terms.proofs.Prints.{entries-front}
use Rattle.terms.proofs.Tables.{table-front, front-terms}
use Rattle.typedefs.proofs.Texts.{text-word}
use Rattle.dictionary.proofs.Reading.{Stands}
use Rattle.dictionary.specs.Numbered.{numbered, IsWords}
use Rattle.dictionary.proofs.Numbering.{numbered-length, numbered-append}

-- the words of the value at i, as far as `from`
pub record ValueLeft (d : Bytes) (l : List ℕ) (n i : ℕ) (m : List ℕ) (k from : ℕ) : Type 0 where
  pub inside : from ≤ length d
  pub few : n + length (words (value_from (drop i d))) ≤ 64
  pub room : 64 ≤ length l
  pub names : all is_name (words (value_from (drop from d))) ≡ true
  pub adding : Adding d l n (numbered n (words (value_from (drop i d)))) (numbered k (words (value_from (drop from d)))) m k

pub value-start : (d : Bytes) (l : List ℕ) (n i : ℕ) → i ≤ length d → n + length (words (value_from (drop i d))) ≤ 64 → 64 ≤ length l → all is_name (words (value_from (drop i d))) ≡ true → ValueLeft d l n i l n i
value-start d l n i h f r e = record { inside = h; few = f; room = r; names = e; adding = adding-start d l n (numbered n (words (value_from (drop i d)))) }

module _ (d : Bytes) (l : List ℕ) (n i : ℕ) (m : List ℕ) (k from : ℕ) (w : ValueLeft d l n i m k from) where
  abbrev whole : List Term
  whole = numbered n (words (value_from (drop i d)))

  abbrev left : List Term
  left = numbered k (words (value_from (drop from d)))

  pub value-end : Cuts d from None → Adding d l n whole [] m k
  value-end e = adding-rest left [] (ap (numbered k) e) w.adding

  module _ (a b : ℕ) (c : Cuts d from (Some (record { start = a; rest = b }))) where
    abbrev first : Bytes
    first = front not_gap (value_from (drop a d))

    abbrev others : List Bytes
    others = words (value_from (drop b d))

    named : (is_name first ≡ true) × (all is_name others ≡ true)
    named = (and-eq-true_iff (is_name first) (all is_name others)).0 (sym (ap (all is_name) c.0) ∙ w.names)

    on : Adding d l n whole (term_of k first ∷ numbered (suc k) others) m k
    on = adding-rest left (term_of k first ∷ numbered (suc k) others) (ap (numbered k) c.0) w.adding

    pub value-few : k < 64
    value-few = omega (arith, w.few, on.count, numbered-length n (words (value_from (drop i d))))

    pub value_room : k < length m
    value_room = omega (arith, w.room, value-few, on.long)

    pub value-more : (e : ℕ) → Stands d a k e → ValueLeft d l n i (set m k e) (k + 1) b
    value-more e s =
        record {
          inside = c.3;
          few = w.few;
          room = w.room;
          names = named.1;
          adding =
              adding-rest (numbered (suc k) others) (numbered (k + 1) others) (ap (λ (j : ℕ). numbered j others) (sym (add-one k)))
              (adding-one d l n whole (numbered (suc k) others) (term_of k first) m k e on value_room s.0 (s.1 ∙ ap (term_of k) (text-word d a named.0)));
        }

-- the words of the fields of a name from byte i on
abbrev pub listed_from : Bytes → Bytes → ℕ → List Bytes
listed_from d name i = flat (map words (values_from d name i))

-- the fields of a name, as far as byte i
pub record ListLeft (d name : Bytes) (l m : List ℕ) (n i : ℕ) : Type 0 where
  pub inside : i ≤ length d
  pub readable : is_readable (drop i d) ≡ true
  pub few : length (listed name (record_in d)) ≤ 64
  pub room : 64 ≤ length l
  pub names : all is_name (listed_from d name i) ≡ true
  pub adding : Adding d l 0 (numbered 0 (listed name (record_in d))) (numbered n (listed_from d name i)) m n

pub list-start : (d name : Bytes) (l : List ℕ) → is_readable d ≡ true → length (listed name (record_in d)) ≤ 64 → 64 ≤ length l → all is_name (listed name (record_in d)) ≡ true → ListLeft d name l l 0 0
list-start d name l r f h e = record { inside = omega arith; readable = r; few = f; room = h; names = e; adding = adding-start d l 0 (numbered 0 (listed name (record_in d))) }

module _ (d name : Bytes) (l m : List ℕ) (n i : ℕ) (w : ListLeft d name l m n i) where
  abbrev all-terms : List Term
  all-terms = numbered 0 (listed name (record_in d))

  pub list-end : values_from d name i ≡ [] → Adding d l 0 all-terms [] m n
  list-end e = adding-rest (numbered n (listed_from d name i)) [] (ap (λ (vs : List Bytes). numbered n (flat (map words vs))) e) w.adding

  module _ (v e : ℕ) (f : ValueHere d name i v e) where
    abbrev here : List Bytes
    here = words (value_from (drop v d))

    cut : listed_from d name i ≡ here ++ listed_from d name e
    cut = ap (λ (vs : List Bytes). flat (map words vs)) f.values ∙ ap (λ (x : Bytes). words x ++ listed_from d name e) (sym f.ends-itself)

    good : (all is_name here ≡ true) × (all is_name (listed_from d name e) ≡ true)
    good = (and-eq-true_iff (all is_name here) (all is_name (listed_from d name e))).0 (sym (ap (all is_name) cut ∙ all_append is_name here (listed_from d name e)) ∙ w.names)

    pub list-names : all is_name here ≡ true
    list-names = good.0

    on_list : Adding d l 0 all-terms (numbered n here ++ numbered (n + length here) (listed_from d name e)) m n
    on_list = adding-rest (numbered n (listed_from d name i)) (numbered n here ++ numbered (n + length here) (listed_from d name e)) (ap (numbered n) cut ∙ numbered-append n here (listed_from d name e)) w.adding

    pub list-few : n + length here ≤ 64
    list-few =
        omega (
          arith,
          w.few,
          on_list.count,
          length-append (numbered n here) (numbered (n + length here) (listed_from d name e)),
          numbered-length n here,
          numbered-length 0 (listed name (record_in d)),
        )

    pub list-room : 64 ≤ length m
    list-room = omega (arith, w.room, w.adding.long)

    pub list-more : (p : List ℕ) (r : ℕ) → Adding d m n (numbered n here) [] p r → ListLeft d name l p r e
    list-more p r a =
        let q : n + length here ≡ r = omega (arith, a.count, numbered-length n here) in
        record {
          inside = f.inside;
          readable = f.readable;
          few = w.few;
          room = w.room;
          names = good.1;
          adding =
              adding-rest (numbered (n + length here) (listed_from d name e)) (numbered r (listed_from d name e)) (ap (λ (j : ℕ). numbered j (listed_from d name e)) q)
              (adding-many d l 0 all-terms (numbered n here) (numbered (n + length here) (listed_from d name e)) m n p r on_list a);
        }

-- the table of all of them, at the front of the lent array
module _ (d : Bytes) (ws : List Bytes) (l m : List ℕ) (n : ℕ) (few : length ws ≤ 64) (room : 64 ≤ length l) (a : Adding d l 0 (numbered 0 ws) [] m n) where
  pub read-few : n ≤ 64
  read-few = omega (arith, few, a.count, numbered-length 0 ws)

  pub read-room : n ≤ length m
  read-room = omega (arith, read-few, room, a.long)

  pub read-entries : Entries d (length (take n m)) (take n m)
  read-entries = entries-front d m n read-room (a.entries (λ i h. absurd (omega arith)))

  module _ (p : List ℕ) (t : Table) (h : Holds d (take n m) p t) where
    pub read_table : IsTable d (p ++ drop n m) t
    read_table = table-front d p (drop n m) t h.table

    pub read-words : (sets : List ℕ) → IsJoined d (p ++ drop n m) sets t → IsWords d ws (p ++ drop n m) sets (record { table = t; count = n })
    read-words sets j = record {
      few = few;
      count = omega (arith, a.count, numbered-length 0 ws);
      table = j;
      terms = λ w k. front-terms d (take n m) p (drop n m) t h w k ∙ ap (λ (ts : List Term). tagged w k ts) (sym (append-nil (terms_of d (take n m))) ∙ a.terms);
    }
