-- The symbols from a place on, one byte or one symbol further.
use Prim.Native.Nat.{ℕ, ◌+◌, ◌≤◌, ◌<◌}
use native.Mathlib.Omega.{arith}
use mathlib.Core.Path.{◌≡◌, refl, sym, ap, ◌∙◌}
use mathlib.Core.Bool.{Bool, true, false, ◌||◌, and-eq-true_iff, false≢true}
use mathlib.Core.List.{List, [], ◌∷◌, map}
use mathlib.Core.Option.{Option, none, some}
use borrow.Author.Tests.{eqb-true, lt-leb, ne_eqb}
use lib.Dec.{eqb}
use lib.ListN.{length, set, drop, length-map}
use Rattle.format.specs.Lists.{front, behind}
use Rattle.format.specs.Bytes.{Bytes, all, is_some, is_letter, is_digit}
use Rattle.format.specs.Words.{is_gap, after_word}
use Rattle.format.specs.Types.{uncomment, is_symbol_byte, is_symbol}
use Rattle.values.specs.Value.{value_from}
use Rattle.lines.specs.Line.{run}
use Rattle.words.proofs.Finding.{front-run, behind-run}
use Rattle.typing.specs.Symbols.{is_plain, words_in, with_word}
use Rattle.typing.proofs.Comments.{gap-open, gap-close, words-gap, comment-on, symbols-word}
use Rattle.values.specs.Stretches.{is_word_byte, not_paren}
use Rattle.sorting.specs.Texts.{text_at}
use Rattle.values.proofs.Tests.{by_bool, dec-lt}
use Rattle.sorting.proofs.Texts.{front-on, front-narrow, behind-on, behind-stop, behind-narrow}
use Rattle.terms.specs.Sets.{Term, term_of}
use Rattle.terms.specs.Entries.{term_at, IsEntry}
use Rattle.terms.specs.Adding.{Adding}
use Rattle.terms.proofs.Adding.{adding-start, adding-rest, adding-one}
use Rattle.typedefs.proofs.Texts.{gap-no-word, high_word}
use Rattle.enums.specs.Enums.{listed, is_enum_at, enum_in, symbols_from, Starts}
use Rattle.enums.proofs.Enums.{body, enum-body}

-- words of a text, comments read as blanks: by its first byte
abbrev S : Bytes → Option (List Bytes)
S t = words_in (uncomment false t)

gap-passed : (c : ℕ) (t : Bytes) → is_gap c ≡ true → S (c ∷ t) ≡ S t
gap-passed c t g = rw (gap-open c g, gap-close c g) (words-gap c (uncomment false t) g)

open-passed : (t : Bytes) → S (40 ∷ t) ≡ words_in (uncomment true t)
open-passed t = words-gap 32 (uncomment true t) refl

close-wrong : (t : Bytes) → S (41 ∷ t) ≡ none
close-wrong t = refl

-- a word, and what is behind it
plain-front : (c : ℕ) (t : Bytes) → is_plain c ≡ true → S (c ∷ t) ≡ with_word (front is_plain (c ∷ t)) (S (behind is_plain (c ∷ t)))
unfolding run
plain-front c t g =
    let s : Bytes = c ∷ t in
    let h : 0 < run is_plain s = rw g (omega arith) in
    symbols-word s h ∙ (λ j. with_word (sym (front-run is_plain s) j) (S (sym (behind-run is_plain s) j)))

-- a comment, as far as its end
abbrev T : Bytes → Option (List Bytes)
T t = words_in (uncomment true t)

comment-behind : (t : Bytes) → T t ≡ T (behind not_paren t)
comment-behind t = ap words_in (comment-on t ∙ ap (uncomment true) (sym (behind-run not_paren t)))

behind-paren : (t u : Bytes) (c : ℕ) → behind not_paren t ≡ c ∷ u → not_paren c ≡ false
behind-paren [] u c e = absurd (let z : ◌≡◌ {A = ℕ} 0 1 = cc in omega arith)
behind-paren (b ∷ t) u c e =
    by_bool (not_paren b) (λ g. behind-paren t u c (sym (behind-on not_paren t b g) ∙ e))
    (λ g. let q = sym (behind-stop not_paren t b g) ∙ e in ap not_paren (let z : c ≡ b = cc in z) ∙ g)

closes : (c : ℕ) (u : Bytes) → not_paren c ≡ false → is_some (T (c ∷ u)) ≡ true → T (c ∷ u) ≡ S u
closes c u n e = go (eqb c 40) refl (eqb c 41) refl
  where
    go : (a : Bool) → eqb c 40 ≡ a → (b : Bool) → eqb c 41 ≡ b → T (c ∷ u) ≡ S u
    go true p b q = absurd (false≢true (let z : is_some (T (c ∷ u)) ≡ false = rw p in sym z ∙ e))
    go false p true q = rw (p, q)
    go false p false q = absurd (false≢true (sym n ∙ (let z : not_paren c ≡ true = rw (p, q) in z)))

module _ (d : Bytes) (i close : ℕ) (v : value_from (drop close d) ≡ behind not_paren (value_from (drop i d))) (e : is_some (T (value_from (drop i d))) ≡ true) where
  here : T (value_from (drop i d)) ≡ T (value_from (drop close d))
  here = comment-behind (value_from (drop i d)) ∙ ap T (sym v)

  pub never-open : value_from (drop close d) ≡ [] → ⊥
  never-open q = false≢true (sym (ap (λ (t : Bytes). is_some (T t)) q) ∙ sym (ap is_some here) ∙ e)

  pub comment-ends : (c next : ℕ) → value_from (drop close d) ≡ c ∷ value_from (drop next d) → T (value_from (drop i d)) ≡ symbols_from d next
  unfolding symbols_from
  comment-ends c next q =
      let n = behind-paren (value_from (drop i d)) (value_from (drop next d)) c (sym v ∙ q) in
      let h : is_some (T (c ∷ value_from (drop next d))) ≡ true = sym (ap is_some (here ∙ ap T q)) ∙ e in
      here ∙ ap T q ∙ closes c (value_from (drop next d)) n h

-- bytes of symbols are bytes of words, and those are plain
low-symbol : (c : ℕ) → c ≤ 44 → is_symbol_byte c ≡ false
low-symbol c h = rw (lt-leb 65 c (omega arith), lt-leb 97 c (omega arith), lt-leb 48 c (omega arith), ne_eqb c 95 (λ e. omega arith), ne_eqb c 45 (λ e. omega arith))

symbol-word : (c : ℕ) → is_symbol_byte c ≡ true → is_word_byte c ≡ true
symbol-word c e = dec-lt 44 c (high_word c) (λ h. absurd (false≢true (sym (low-symbol c h) ∙ e)))

low_first : (c : ℕ) → c ≤ 44 → (is_letter c || is_digit c) ≡ false
low_first c h = rw (lt-leb 65 c (omega arith), lt-leb 97 c (omega arith), lt-leb 48 c (omega arith))

first_word : (c : ℕ) → (is_letter c || is_digit c) ≡ true → is_word_byte c ≡ true
first_word c e = dec-lt 44 c (high_word c) (λ h. absurd (false≢true (sym (low_first c h) ∙ e)))

bytes_word : (w : Bytes) → all is_symbol_byte w ≡ true → all is_word_byte w ≡ true
bytes_word [] e = refl
bytes_word (c ∷ w) e =
    let h = (and-eq-true_iff (is_symbol_byte c) (all is_symbol_byte w)).0 e in
    (and-eq-true_iff (is_word_byte c) (all is_word_byte w)).1 (symbol-word c h.0, bytes_word w h.1)

symbol-words : (w : Bytes) → is_symbol w ≡ true → all is_word_byte w ≡ true
symbol-words [] e = absurd (false≢true e)
symbol-words (c ∷ w) e =
    let h = (and-eq-true_iff (is_letter c || is_digit c) (all is_symbol_byte w)).0 e in
    (and-eq-true_iff (is_word_byte c) (all is_word_byte w)).1 (first_word c h.0, bytes_word w h.1)

word-plain : (c : ℕ) → is_word_byte c ≡ true → is_plain c ≡ true
word-plain c e =
    let g : is_gap c ≡ false = by_bool (is_gap c) (λ q. absurd (false≢true (sym (gap-no-word c q) ∙ e))) (λ q. q) in
    let a : eqb c 40 ≡ false = by_bool (eqb c 40) (λ q. absurd (false≢true (sym (ap is_word_byte (eqb-true c 40 q)) ∙ e))) (λ q. q) in
    let b : eqb c 41 ≡ false = by_bool (eqb c 41) (λ q. absurd (false≢true (sym (ap is_word_byte (eqb-true c 41 q)) ∙ e))) (λ q. q) in
    rw (g, a, b)

not_plain : (c : ℕ) → is_plain c ≡ false → is_word_byte c ≡ false
not_plain c e = by_bool (is_word_byte c) (λ q. absurd (false≢true (sym e ∙ word-plain c q))) (λ q. q)

-- where the symbols of a value begin
pub starts : (d : Bytes) (v r : ℕ) → is_enum_at d v ≡ true → value_from (drop r d) ≡ body (after_word (value_from (drop v d))) → r ≤ length d → Starts d v r
unfolding is_enum_at enum_in symbols_from
starts d v r e q h =
    let b = enum-body (after_word (value_from (drop v d))) e in
    let z : S (value_from (drop r d)) ≡ S (body (after_word (value_from (drop v d)))) = ap S q in
    record { inside = h; sound = ap is_some z ∙ b.sound; symbols = ap (λ (o : Option (List Bytes)). all is_symbol (listed o)) z ∙ b.good; are = ap listed z ∙ b.are }

-- what an entry says of itself
abbrev pub Stands : Bytes → ℕ → ℕ → ℕ → Type 0
Stands d at tag e = IsEntry d e × (term_at d e ≡ term_of tag (text_at true d at))

-- the symbols of the `enum` at v, as far as `at`
abbrev pub left : Bytes → ℕ → List Bytes
left d at = listed (symbols_from d at)

pub record SymbolsLeft (d : Bytes) (l : List ℕ) (n tag v : ℕ) (m : List ℕ) (k at : ℕ) : Type 0 where
  pub inside : at ≤ length d
  pub room : n + length (enum_in d v) ≤ length l
  pub sound : is_some (symbols_from d at) ≡ true
  pub symbols : all is_symbol (left d at) ≡ true
  pub adding : Adding d l n (map (term_of tag) (enum_in d v)) (map (term_of tag) (left d at)) m k

pub symbols-start : (d : Bytes) (l : List ℕ) (n tag v at : ℕ) → Starts d v at → n + length (enum_in d v) ≤ length l → SymbolsLeft d l n tag v l n at
symbols-start d l n tag v at s r =
    record {
      inside = s.inside;
      room = r;
      sound = s.sound;
      symbols = s.symbols;
      adding = adding-rest (map (term_of tag) (enum_in d v)) (map (term_of tag) (left d at)) (ap (map (term_of tag)) (sym s.are)) (adding-start d l n (map (term_of tag) (enum_in d v)));
    }

with-sound : (w : Bytes) (o : Option (List Bytes)) → is_some (with_word w o) ≡ true → is_some o ≡ true
with-sound w none e = e
with-sound w (some ws) e = refl

with-listed : (w : Bytes) (o : Option (List Bytes)) → is_some (with_word w o) ≡ true → listed (with_word w o) ≡ w ∷ listed o
with-listed w none e = absurd (false≢true e)
with-listed w (some ws) e = refl

module _ (d : Bytes) (l : List ℕ) (n tag v : ℕ) (m : List ℕ) (k at : ℕ) (w : SymbolsLeft d l n tag v m k at) where
  abbrev all-terms : List Term
  all-terms = map (term_of tag) (enum_in d v)

  -- the same symbols are left from another place on
  moved : (at' : ℕ) → at' ≤ length d → symbols_from d at ≡ symbols_from d at' → SymbolsLeft d l n tag v m k at'
  moved at' h e =
      record {
        inside = h;
        room = w.room;
        sound = sym (ap is_some e) ∙ w.sound;
        symbols = sym (ap (λ (o : Option (List Bytes)). all is_symbol (listed o)) e) ∙ w.symbols;
        adding = adding-rest (map (term_of tag) (left d at)) (map (term_of tag) (left d at')) (ap (λ (o : Option (List Bytes)). map (term_of tag) (listed o)) e) w.adding;
      }

  none_left : value_from (drop at d) ≡ [] → left d at ≡ []
  unfolding symbols_from
  none_left e = ap (λ (t : Bytes). listed (S t)) e

  pub symbols-end : value_from (drop at d) ≡ [] → Adding d l n all-terms [] m k
  symbols-end e = adding-rest (map (term_of tag) (left d at)) [] (ap (map (term_of tag)) (none_left e)) w.adding

  module _ (b next : ℕ) (u : value_from (drop at d) ≡ b ∷ value_from (drop next d)) (h : next ≤ length d) where
    from_byte : symbols_from d at ≡ S (b ∷ value_from (drop next d))
    unfolding symbols_from
    from_byte = ap S u

    gap_same : is_gap b ≡ true → symbols_from d at ≡ symbols_from d next
    unfolding symbols_from
    gap_same g = from_byte ∙ gap-passed b (value_from (drop next d)) g

    pub symbols-gap : is_gap b ≡ true → SymbolsLeft d l n tag v m k next
    symbols-gap g = moved next h (gap_same g)

    opens : b ≡ 40 → symbols_from d at ≡ T (value_from (drop next d))
    opens q = from_byte ∙ ap (λ (c : ℕ). S (c ∷ value_from (drop next d))) q ∙ open-passed (value_from (drop next d))

    pub comment-sound : b ≡ 40 → is_some (T (value_from (drop next d))) ≡ true
    comment-sound q = sym (ap is_some (opens q)) ∙ w.sound

    pub symbols-comment : b ≡ 40 → (r : ℕ) → r ≤ length d → T (value_from (drop next d)) ≡ symbols_from d r → SymbolsLeft d l n tag v m k r
    symbols-comment q r i e = moved r i (opens q ∙ e)

    -- a symbol
    module _ (g : is_gap b ≡ false) (q : b ≡ 40 → ⊥) where
      not-close : b ≡ 41 → ⊥
      not-close c = false≢true (sym (ap is_some (from_byte ∙ ap (λ (x : ℕ). S (x ∷ value_from (drop next d))) c ∙ close-wrong (value_from (drop next d)))) ∙ w.sound)

      plain : is_plain b ≡ true
      plain = rw (g, ne_eqb b 40 q, ne_eqb b 41 not-close)

      abbrev t : Bytes
      t = b ∷ value_from (drop next d)

      cut : symbols_from d at ≡ with_word (front is_plain t) (S (behind is_plain t))
      cut = from_byte ∙ plain-front b (value_from (drop next d)) plain

      cut-sound : is_some (with_word (front is_plain t) (S (behind is_plain t))) ≡ true
      cut-sound = sym (ap is_some cut) ∙ w.sound

      cut-listed : left d at ≡ front is_plain t ∷ listed (S (behind is_plain t))
      cut-listed = ap listed cut ∙ with-listed (front is_plain t) (S (behind is_plain t)) cut-sound

      both : (is_symbol (front is_plain t) ≡ true) × (all is_symbol (listed (S (behind is_plain t))) ≡ true)
      both = (and-eq-true_iff (is_symbol (front is_plain t)) (all is_symbol (listed (S (behind is_plain t))))).0 (sym (ap (all is_symbol) cut-listed) ∙ w.symbols)

      word_bytes : all is_word_byte (front is_plain t) ≡ true
      word_bytes = symbol-words (front is_plain t) both.0

      first_byte : is_word_byte b ≡ true
      first_byte = ((and-eq-true_iff (is_word_byte b) (all is_word_byte (front is_plain (value_from (drop next d))))).0 (sym (ap (all is_word_byte) (front-on is_plain t (value_from (drop next d)) b refl plain)) ∙ word_bytes)).0

      text_same : text_at true d at ≡ front is_plain t
      unfolding text_at
      text_same = ap (front is_word_byte) u ∙ front-narrow is_word_byte is_plain not_plain t word_bytes

      on : Adding d l n all-terms (term_of tag (front is_plain t) ∷ map (term_of tag) (listed (S (behind is_plain t)))) m k
      on = adding-rest (map (term_of tag) (left d at)) (term_of tag (front is_plain t) ∷ map (term_of tag) (listed (S (behind is_plain t)))) (ap (map (term_of tag)) cut-listed) w.adding

      pub symbols-room : k < length m
      symbols-room = omega (arith, w.room, on.count, on.long, length-map (enum_in d v) (term_of tag))

      rest-same : (r : ℕ) → value_from (drop r d) ≡ behind is_word_byte (value_from (drop next d)) → symbols_from d r ≡ S (behind is_plain t)
      unfolding symbols_from
      rest-same r e = ap S (e ∙ sym (behind-on is_word_byte (value_from (drop next d)) b first_byte) ∙ behind-narrow is_word_byte is_plain not_plain t word_bytes)

      pub symbols-more : (e r : ℕ) → Stands d at tag e → r ≤ length d → value_from (drop r d) ≡ behind is_word_byte (value_from (drop next d)) → SymbolsLeft d l n tag v (set m k e) (k + 1) r
      symbols-more e r s i x =
          let z = rest-same r x in
          record {
            inside = i;
            room = w.room;
            sound = ap is_some z ∙ with-sound (front is_plain t) (S (behind is_plain t)) cut-sound;
            symbols = ap (λ (o : Option (List Bytes)). all is_symbol (listed o)) z ∙ both.1;
            adding =
                adding-rest (map (term_of tag) (listed (S (behind is_plain t)))) (map (term_of tag) (left d r)) (ap (λ (o : Option (List Bytes)). map (term_of tag) (listed o)) (sym z))
                (adding-one d l n all-terms (map (term_of tag) (listed (S (behind is_plain t)))) (term_of tag (front is_plain t)) m k e on symbols-room s.0 (s.1 ∙ ap (term_of tag) text_same));
          }
