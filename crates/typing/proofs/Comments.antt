-- The words of the text behind the word `enum`, from an index on: gaps and comments passed over, a word, the end, or a parenthesis that is wrong.
use Prim.Native.Nat.{ℕ, zero, suc, ◌+◌, ◌≤◌, ◌<◌}
use native.Mathlib.Nat.{add-sub_cancel_left}
use native.Mathlib.Omega.{arith}
use mathlib.Core.Path.{◌≡◌, refl, sym, ap, ◌∙◌, subst}
use mathlib.Core.Bool.{Bool, true, false, ◌&&◌, ◌||◌, not, false≢true, and-false, and-eq-true_iff}
use mathlib.Core.List.{List, [], ◌∷◌, ◌++◌}
use mathlib.Core.Option.{Option, none, some}
use borrow.Author.Tests.{eqb-true, eq-eqb, ne_eqb, not-true}
use lib.Dec.{eqb}
use lib.ListN.{length, take, drop, get_or, drop_of_length-le, length-drop}
use lib.Seq.{drop-drop, length-take-le, get_or-drop}
use Rattle.format.specs.Lists.{only_if, onward, is_filled, front, behind}
use Rattle.format.specs.Bytes.{Bytes, pick, all, same, among}
use Rattle.format.specs.Words.{is_gap, not_gap, words}
use Rattle.format.specs.Types.{Kind, Typed, cons_to, uncomment, is_symbol, enum_in}
use Rattle.format.proofs.Parts.{words-cut}
use Rattle.lines.specs.Line.{run}
use Rattle.lines.proofs.Cuts.{at-cons, rest}
use Rattle.lines.proofs.Heads.{run_more}
use Rattle.words.specs.Spans.{span}
use Rattle.words.proofs.Finding.{run-le, run-passes, run_ends, byte_inside}
use Rattle.typing.specs.Meaning.{is_read, symbols_in}
use Rattle.values.specs.Stretches.{not_paren}
use Rattle.typing.specs.Symbols.{is_plain, words_in, symbols_of, with_word, NextSymbol, are_symbols, is_enum}
use Rattle.typing.specs.declared.symbols.Symbol.{Symbol}

-- the words from an index on, and the end of the run of bytes that pass a test from there on
abbrev pub symbols_at : Bytes → ℕ → Option (List Bytes)
symbols_at s i = symbols_of (drop i s)

abbrev run_end : (ℕ → Bool) → Bytes → ℕ → ℕ
run_end p s i = i + run p (drop i s)

pub end-at : (p : ℕ → Bool) (s : Bytes) (i n : ℕ) → n ≡ run p (span i (length s) s) → i + n ≡ run_end p s i
end-at p s i n e = ap (λ (k : ℕ). i + k) (e ∙ ap (run p) (rest s i))

pub end-le : (p : ℕ → Bool) (s : Bytes) (i : ℕ) → i ≤ length s → run_end p s i ≤ length s
end-le p s i h = omega (arith, run-le p (drop i s), length-drop i s)

ends_at : (p : ℕ → Bool) (s : Bytes) (i : ℕ) → run_end p s i < length s → p (get_or s (run_end p s i) 0) ≡ false
ends_at p s i h =
    ap p (sym (get_or-drop i s (run p (drop i s)) 0)) ∙ run_ends p (drop i s) (omega (arith, length-drop i s))

-- what a byte that is a gap, or plain, or neither, is not
pub gap-open : (c : ℕ) → is_gap c ≡ true → eqb c 40 ≡ false
gap-open c e = go (eqb c 40) refl
  where
    go : (t : Bool) → eqb c 40 ≡ t → t ≡ false
    go true q = sym (ap is_gap (sym (eqb-true c 40 q)) ∙ e)
    go false q = refl

pub gap-close : (c : ℕ) → is_gap c ≡ true → eqb c 41 ≡ false
gap-close c e = go (eqb c 41) refl
  where
    go : (t : Bool) → eqb c 41 ≡ t → t ≡ false
    go true q = sym (ap is_gap (sym (eqb-true c 41 q)) ∙ e)
    go false q = refl

-- a gap in front does not matter
pub words-gap : (c : ℕ) (o : Option Bytes) → is_gap c ≡ true → words_in (cons_to c o) ≡ words_in o
words-gap c none e = refl
words-gap c (some s) e = rw e

gaps-behind : (s : Bytes) → words_in (uncomment false s) ≡ words_in (uncomment false (drop (run is_gap s) s))
unfolding run
gaps-behind [] = refl
gaps-behind (c ∷ s) = go (is_gap c) refl (gaps-behind s)
  where
    go : (t : Bool) → is_gap c ≡ t → words_in (uncomment false s) ≡ words_in (uncomment false (drop (run is_gap s) s))
        → words_in (uncomment false (c ∷ s)) ≡ words_in (uncomment false (drop (pick t (suc (run is_gap s)) 0) (c ∷ s)))
    go true q e = rw (gap-open c q, gap-close c q) (words-gap c (uncomment false s) q ∙ e)
    go false q e = refl

symbols-behind : (s : Bytes) (i : ℕ) → symbols_at s i ≡ symbols_at s (run_end is_gap s i)
symbols-behind s i = gaps-behind (drop i s) ∙ rw drop-drop

-- a comment: as far as the first parenthesis
not-open : (c : ℕ) → not_paren c ≡ true → eqb c 40 ≡ false
not-open c e = go (eqb c 40) (eqb c 41) e
  where
    go : (a b : Bool) → not (a || b) ≡ true → a ≡ false
    go true b e = sym e
    go false b e = refl

not-close : (c : ℕ) → not_paren c ≡ true → eqb c 41 ≡ false
not-close c e = go (eqb c 40) (eqb c 41) e
  where
    go : (a b : Bool) → not (a || b) ≡ true → b ≡ false
    go true b e = absurd (false≢true e)
    go false true e = sym e
    go false false e = refl

pub comment-on : (s : Bytes) → uncomment true s ≡ uncomment true (drop (run not_paren s) s)
unfolding run
comment-on [] = refl
comment-on (c ∷ s) = go (not_paren c) refl (comment-on s)
  where
    go : (t : Bool) → not_paren c ≡ t → uncomment true s ≡ uncomment true (drop (run not_paren s) s)
        → uncomment true (c ∷ s) ≡ uncomment true (drop (pick t (suc (run not_paren s)) 0) (c ∷ s))
    go true q e = rw (not-open c q, not-close c q) e
    go false q e = refl

comment-at : (s : Bytes) (i : ℕ) → uncomment true (drop i s) ≡ uncomment true (drop (run_end not_paren s i) s)
comment-at s i = comment-on (drop i s) ∙ rw drop-drop

module _ (s : Bytes) (i : ℕ) (h : i < length s) where
  opened : get_or s i 0 ≡ 40 → symbols_at s i ≡ words_in (uncomment true (drop (run_end not_paren s (i + 1)) s))
  opened q =
      let a : uncomment false (drop i s) ≡ cons_to 32 (uncomment true (drop (i + 1) s)) = rw (at-cons s i h, eq-eqb _ _ q) in
      ap words_in a ∙ (words-gap 32 (uncomment true (drop (i + 1) s)) refl ∙ ap words_in (comment-at s (i + 1)))

  comment-closed : get_or s i 0 ≡ 40 → get_or s (run_end not_paren s (i + 1)) 0 ≡ 41 → run_end not_paren s (i + 1) < length s → symbols_at s i ≡ symbols_at s (run_end not_paren s (i + 1) + 1)
  comment-closed q e l =
      let j = run_end not_paren s (i + 1) in
      let a : uncomment true (drop j s) ≡ uncomment false (drop (j + 1) s) = rw (at-cons s j l, e) in
      opened q ∙ ap words_in a

  symbols-closed : get_or s i 0 ≡ 41 → symbols_at s i ≡ none
  symbols-closed q = rw (at-cons s i h, q)

-- a comment that is not closed: at the text's end or at another `(`
paren-open : (c : ℕ) → not_paren c ≡ false → (c ≡ 41 → ⊥) → eqb c 40 ≡ true
paren-open c e n = go (eqb c 40) (eqb c 41) e (ne_eqb c 41 n)
  where
    go : (a b : Bool) → not (a || b) ≡ false → b ≡ false → a ≡ true
    go true b e q = refl
    go false true e q = absurd (false≢true (sym q))
    go false false e q = sym e

unclosed : (s : Bytes) (j : ℕ) → (j < length s → not_paren (get_or s j 0) ≡ false) → (get_or s j 0 ≡ 41 → ⊥) → uncomment true (drop j s) ≡ none
unclosed [] zero e n = refl
unclosed [] (suc j) e n = refl
unclosed (c ∷ s) zero e n = rw (paren-open c (e (omega arith)) n)
unclosed (c ∷ s) (suc j) e n = unclosed s j (λ l. e (omega arith)) n

comment-unclosed : (s : Bytes) (i : ℕ) → i < length s → get_or s i 0 ≡ 40 → (get_or s (run_end not_paren s (i + 1)) 0 ≡ 41 → ⊥) → symbols_at s i ≡ none
comment-unclosed s i h q n = opened s i h q ∙ ap words_in (unclosed s (run_end not_paren s (i + 1)) (λ l. ends_at not_paren s (i + 1) l) n)

-- a word: its bytes stay, and what is behind it begins with a gap
abbrev onto : Bytes → Option Bytes → Option Bytes
onto w none = none
onto w (some s) = some (w ++ s)

onto-more : (c : ℕ) (w : Bytes) (o : Option Bytes) → cons_to c (onto w o) ≡ onto (c ∷ w) o
onto-more c w none = refl
onto-more c w (some s) = refl

onto-none : (o : Option Bytes) → o ≡ onto [] o
onto-none none = refl
onto-none (some s) = refl

plain-paren : (c : ℕ) → is_plain c ≡ true → not_paren c ≡ true
plain-paren c e = ((and-eq-true_iff (not_gap c) (not_paren c)).0 e).1

plain-gap : (c : ℕ) → is_plain c ≡ true → not_gap c ≡ true
plain-gap c e = ((and-eq-true_iff (not_gap c) (not_paren c)).0 e).0

plain-on : (s : Bytes) → uncomment false s ≡ onto (take (run is_plain s) s) (uncomment false (drop (run is_plain s) s))
unfolding run
plain-on [] = refl
plain-on (c ∷ s) = go (is_plain c) refl (plain-on s)
  where
    go : (t : Bool) → is_plain c ≡ t → uncomment false s ≡ onto (take (run is_plain s) s) (uncomment false (drop (run is_plain s) s))
        → uncomment false (c ∷ s) ≡ onto (take (pick t (suc (run is_plain s)) 0) (c ∷ s)) (uncomment false (drop (pick t (suc (run is_plain s)) 0) (c ∷ s)))
    go true q e =
        let p = plain-paren c q in
        rw (not-open c p, not-close c p) (ap (cons_to c) e ∙ onto-more c (take (run is_plain s) s) (uncomment false (drop (run is_plain s) s)))
    go false q e = onto-none (uncomment false (c ∷ s))

abbrev GapLed : Option Bytes → Type 0
GapLed none = Unit {0}
GapLed (some []) = Unit {0}
GapLed (some (c ∷ s)) = is_gap c ≡ true

led-cons : (c : ℕ) (o : Option Bytes) → is_gap c ≡ true → GapLed (cons_to c o)
led-cons c none e = tt
led-cons c (some s) e = e

led-byte : (c : ℕ) (s : Bytes) → is_plain c ≡ false → GapLed (uncomment false (c ∷ s))
led-byte c s e = go (eqb c 40) (eqb c 41) (is_gap c) refl e
  where
    go : (a b g : Bool) → is_gap c ≡ g → (not g && not (a || b)) ≡ false → GapLed (pick a (cons_to 32 (uncomment true s)) (pick b none (cons_to c (uncomment false s))))
    go true b g q e = led-cons 32 (uncomment true s) refl
    go false true g q e = tt
    go false false true q e = led-cons c (uncomment false s) q
    go false false false q e = absurd (false≢true (sym e))

led-at : (s : Bytes) (j : ℕ) → (j < length s → is_plain (get_or s j 0) ≡ false) → GapLed (uncomment false (drop j s))
led-at [] zero e = tt
led-at [] (suc j) e = tt
led-at (c ∷ s) zero e = led-byte c s (e (omega arith))
led-at (c ∷ s) (suc j) e = led-at s j (λ l. e (omega arith))

no_gap : (c : ℕ) (w : Bytes) → all is_plain (c ∷ w) ≡ true → is_gap c ≡ false
no_gap c w e = not-true (is_gap c) (plain-gap c ((and-eq-true_iff (is_plain c) (all is_plain w)).0 e).0)

all-behind : (c : ℕ) (w : Bytes) → all is_plain (c ∷ w) ≡ true → all is_plain w ≡ true
all-behind c w e = ((and-eq-true_iff (is_plain c) (all is_plain w)).0 e).1

front-led : (w s : Bytes) → all is_plain w ≡ true → GapLed (some s) → (front not_gap (w ++ s) ≡ w) × (behind not_gap (w ++ s) ≡ s)
front-led [] [] e l = (refl, refl)
front-led [] (d ∷ s) e l = (rw l, rw l)
front-led (c ∷ w) s e l =
    let h = front-led w s (all-behind c w e) l in
    (rw (no_gap c w e) (ap (λ (x : Bytes). c ∷ x) h.0), rw (no_gap c w e) h.1)

words-led : (w s : Bytes) (c : ℕ) → all is_plain (c ∷ w) ≡ true → GapLed (some s) → words ((c ∷ w) ++ s) ≡ (c ∷ w) ∷ words s
words-led w s c e l =
    let h = front-led w s (all-behind c w e) l in
    words-cut c (w ++ s) (no_gap c w e) ∙ (λ i. (c ∷ h.0 i) ∷ words (h.1 i))

words-onto : (w : Bytes) (o : Option Bytes) → 0 < length w → all is_plain w ≡ true → GapLed o → words_in (onto w o) ≡ with_word w (words_in o)
words-onto [] o h e l = absurd (omega arith)
words-onto (c ∷ w) none h e l = refl
words-onto (c ∷ w) (some s) h e l = ap some (words-led w s c e l)

pub symbols-word : (s : Bytes) → 0 < run is_plain s → symbols_of s ≡ with_word (take (run is_plain s) s) (symbols_of (drop (run is_plain s) s))
symbols-word s h =
    let n = run is_plain s in
    let p : 0 < length (take n s) = rw (length-take-le n s (run-le is_plain s)) h in
    ap words_in (plain-on s) ∙ words-onto (take n s) (uncomment false (drop n s)) p (run-passes is_plain s) (led-at s n (λ l. run_ends is_plain s l))

-- the byte that a word begins with
plain_byte : (c : ℕ) → is_gap c ≡ false → (c ≡ 40 → ⊥) → (c ≡ 41 → ⊥) → is_plain c ≡ true
plain_byte c g a b = rw (g, ne_eqb c 40 a, ne_eqb c 41 b)

symbols-end : (s : Bytes) (i : ℕ) → length s ≤ i → symbols_at s i ≡ some []
symbols-end s i h = rw (drop_of_length-le s)

-- The place that the search for a word has reached: no word is passed over, and no gap stands there.
pub record Reached (s : Bytes) (i at : ℕ) : Type 0 where
  pub high : at ≤ length s
  pub passed : symbols_at s i ≡ symbols_at s at
  pub free : at < length s → is_gap (get_or s at 0) ≡ false

pub gaps-reached : (s : Bytes) (i at : ℕ) → i ≤ length s → at ≡ run_end is_gap s i → Reached s i at
gaps-reached s i at h e =
    rw e
    (record {
      high = end-le is_gap s i h;
      passed = symbols-behind s i;
      free = λ l. ends_at is_gap s i l;
    })

module _ (s : Bytes) (at : ℕ) (r : Reached s 0 at) (h : at < length s) where
  -- behind a comment
  pub comment-reached : (close to : ℕ) → get_or s at 0 ≡ 40 → close ≡ run_end not_paren s (at + 1) → get_or s close 0 ≡ 41 → to ≡ run_end is_gap s (close + 1) → Reached s 0 to
  comment-reached close to q c e b =
      let l : close < length s = byte_inside s close (omega arith) in
      let p : symbols_at s at ≡ symbols_at s (close + 1) = rw c (comment-closed s at h q (rw (← c) e) (rw (← c) l)) in
      let n : Reached s (close + 1) to = gaps-reached s (close + 1) to (omega arith) b in
      record {
        high = n.high;
        passed = r.passed ∙ (p ∙ n.passed);
        free = n.free;
      }

  pub comment-wrong : (close : ℕ) → get_or s at 0 ≡ 40 → close ≡ run_end not_paren s (at + 1) → (get_or s close 0 ≡ 41 → ⊥) → symbols_of s ≡ none
  comment-wrong close q c n = r.passed ∙ comment-unclosed s at h q (rw (← c) n)

  pub close-wrong : get_or s at 0 ≡ 41 → symbols_of s ≡ none
  close-wrong q = r.passed ∙ symbols-closed s at h q

  pub word-reached : (e : ℕ) → (get_or s at 0 ≡ 41 → ⊥) → (get_or s at 0 ≡ 40 → ⊥) → e ≡ run_end is_plain s at → NextSymbol s (Symbol.At at e)
  word-reached e a b q =
      let l : 0 < run is_plain (drop at s) = omega (arith, run_more is_plain s at h (plain_byte (get_or s at 0) (r.free h) b a)) in
      rw q (omega (arith, l), end-le is_plain s at r.high, r.passed ∙ symbols-word (drop at s) l ∙ rw (drop-drop, add-sub_cancel_left, rest))

pub end-reached : (s : Bytes) (at : ℕ) → Reached s 0 at → length s ≤ at → symbols_of s ≡ some []
end-reached s at r h = r.passed ∙ symbols-end s at h

-- what is found, by its case
pub told-by : (s : Bytes) {r t : Symbol} → NextSymbol s r → r ≡ t → NextSymbol s t
told-by s h e = subst (NextSymbol s) e h

-- what the loops over the words ask
are-with : (w : Bytes) (o : Option (List Bytes)) → are_symbols (with_word w o) ≡ is_symbol w && are_symbols o
are-with w none = sym (and-false (is_symbol w))
are-with w (some ws) = refl

enum-some : (w : Bytes) (o : Option (List Bytes)) → is_enum (with_word w o) ≡ are_symbols (with_word w o)
enum-some w none = refl
enum-some w (some ws) = refl

-- is one among the words
abbrev pub among_in : Bytes → Option (List Bytes) → Bool
among_in v none = false
among_in v (some ws) = among v ws

abbrev pub are_read : Option (List Bytes) → Bool
are_read none = false
are_read (some ws) = true

pub among_in_lem : (v : Bytes) (o : Option Bytes) → among v (symbols_in o) ≡ among_in v (words_in o)
among_in_lem v none = refl
among_in_lem v (some s) = refl

pub read-in : (o : Option Bytes) → are_read (words_in o) ≡ is_read o
read-in none = refl
read-in (some s) = refl

read_more : (w : Bytes) (o : Option (List Bytes)) → are_read (with_word w o) ≡ are_read o
read_more w none = refl
read_more w (some ws) = refl

among-more : (v w : Bytes) (o : Option (List Bytes)) → same v w ≡ false → among_in v (with_word w o) ≡ among_in v o
among-more v w none e = refl
among-more v w (some ws) e = rw e

among-found : (v w : Bytes) (o : Option (List Bytes)) → same v w ≡ true → are_read (with_word w o) ≡ true → among_in v (with_word w o) ≡ true
among-found v w none e r = r
among-found v w (some ws) e r = rw e

-- the same of a word from a to e that is found first
module _ (s : Bytes) (a e : ℕ) (t : NextSymbol s (Symbol.At a e)) where
  abbrev later : Option (List Bytes)
  later = symbols_of (span e (length s) s)

  pub are-more : is_symbol (span a e s) ≡ true → are_symbols (symbols_of s) ≡ are_symbols later
  are-more h = ap are_symbols t.2 ∙ (are-with (span a e s) later ∙ rw h)

  pub are-stop : is_symbol (span a e s) ≡ false → are_symbols (symbols_of s) ≡ false
  are-stop h = ap are_symbols t.2 ∙ (are-with (span a e s) later ∙ rw h)

  pub enum-word : is_enum (symbols_of s) ≡ are_symbols (symbols_of s)
  enum-word = ap is_enum t.2 ∙ (enum-some (span a e s) later ∙ ap are_symbols (sym t.2))

  pub read-on : are_read (symbols_of s) ≡ true → are_read later ≡ true
  read-on h = sym (read_more (span a e s) later) ∙ (ap are_read (sym t.2) ∙ h)

  pub among-on : (v : Bytes) → same v (span a e s) ≡ false → among_in v (symbols_of s) ≡ among_in v later
  among-on v h = ap (among_in v) t.2 ∙ among-more v (span a e s) later h

  pub among-here : (v : Bytes) → same v (span a e s) ≡ true → are_read (symbols_of s) ≡ true → among_in v (symbols_of s) ≡ true
  among-here v h r = ap (among_in v) t.2 ∙ among-found v (span a e s) later h (ap are_read (sym t.2) ∙ r)

-- where no word is found there is none, or a parenthesis is wrong
pub no-enum : (s : Bytes) (r : Symbol) → NextSymbol s r → ((a e : ℕ) → r ≡ Symbol.At a e → ⊥) → is_enum (symbols_of s) ≡ false
no-enum s (Symbol.At a e) h n = absurd (n a e refl)
no-enum s Symbol.End h n = ap is_enum h
no-enum s Symbol.Fault h n = ap is_enum h

pub among-none : (v s : Bytes) (r : Symbol) → NextSymbol s r → ((a e : ℕ) → r ≡ Symbol.At a e → ⊥) → among_in v (symbols_of s) ≡ false
among-none v s (Symbol.At a e) h n = absurd (n a e refl)
among-none v s Symbol.End h n = ap (among_in v) h
among-none v s Symbol.Fault h n = ap (among_in v) h

-- an enum's symbols
pub enum-by : (o : Option Bytes) → onward enum_in o ≡ only_if (is_enum (words_in o)) (Typed.kind (Kind.enum (symbols_in o)))
enum-by none = refl
enum-by (some s) = go (words s)
  where
    go : (ws : List Bytes) → only_if (is_filled ws && all is_symbol ws) (Typed.kind (Kind.enum ws)) ≡ only_if (is_enum (some ws)) (Typed.kind (Kind.enum ws))
    go [] = refl
    go (w ∷ ws) = refl

pub enum-read : (o : Option Bytes) → is_enum (words_in o) ≡ true → is_read o ≡ true
enum-read none e = e
enum-read (some s) e = refl
