-- A number in decimal: it reads back as itself, is not trimmed, and is a legal value.
use Prim.Native.Nat.{ℕ, zero, suc, ◌+◌, ◌-◌, ◌/◌, ◌%◌, ◌^◌, ◌≤◌, ◌<◌}
use native.Mathlib.Nat.{div-add-mod', mod-eq_of_lt, pow-succ'}
use native.Mathlib.Omega.{arith}
use mathlib.Core.Path.{◌≡◌, refl, sym, ap, ◌∙◌, subst}
use mathlib.Core.Bool.{Bool, true, false, and-eq-true_iff}
use mathlib.Core.List.{List, [], ◌∷◌, ◌++◌, reverse, reverse-append, reverse-reverse}
use mathlib.Core.Option.{Option, none, some}
use lib.Dec.{leb}
use lib.ListN.{length, get_or}
use borrow.Author.Tests.{leb-true, leb-false, le-leb, lt-ltb, ne_eqb}
use Rattle.format.specs.Lists.{only_if, behind, onto}
use Rattle.format.specs.Bytes.{Bytes, is_allowed, all}
use Rattle.format.specs.Lines.{last}
use Rattle.format.specs.Limits.{value_bytes}
use Rattle.format.specs.Words.{is_gap, split, trim}
use Rattle.format.specs.Numbers.{plus, Bounds, digit, is_digit_of, numeral, are_digits, unsigned, int_of}
use Rattle.format.specs.Written.{none_joins, is_legal_value}
use Rattle.format.specs.Numbering.{before_last, or_else, digits_onto, decimal}
use Rattle.format.proofs.Elements.{Each, each_append, each_all}

-- by whether there is more than one digit
pub before-by : (P : Bytes → Type 0) (n : ℕ) (t : Bytes) (f : ℕ → Bytes) → (n < 10 → P t) → (10 ≤ n → P (f (n / 10))) → P (or_else t f (before_last n))
before-by P n t f one more = go (leb 10 n) refl
  where
    go : (c : Bool) → leb 10 n ≡ c → P (or_else t f (only_if c (n / 10)))
    go true e = more (leb-true 10 n e)
    go false e = one (leb-false 10 n e)

-- digit by digit from the last one: `left` does not matter where it is large enough, and what stands behind stays there

before-both : (n : ℕ) (t : Bytes) (f g : ℕ → Bytes) → (10 ≤ n → f (n / 10) ≡ g (n / 10)) → or_else t f (before_last n) ≡ or_else t g (before_last n)
before-both n t f g h = go (leb 10 n) refl
  where
    go : (c : Bool) → leb 10 n ≡ c → or_else t f (only_if c (n / 10)) ≡ or_else t g (only_if c (n / 10))
    go true e = h (leb-true 10 n e)
    go false e = refl

onto-alone : (left n : ℕ) (s : Bytes) → n < 10 → digits_onto left n s ≡ (48 + n % 10) ∷ s
onto-alone zero n s h = refl
onto-alone (suc left) n s h =
    let t : Bytes = (48 + n % 10) ∷ s in
    before-by (λ (x : Bytes). x ≡ t) n t (λ (m : ℕ). digits_onto left m t) (λ l. refl) (λ l. absurd (omega arith))

onto-enough : (a b n : ℕ) (s : Bytes) → n ≤ a → n ≤ b → digits_onto a n s ≡ digits_onto b n s
onto-enough zero b n s h k = sym (onto-alone b n s (omega arith))
onto-enough (suc a) zero n s h k = onto-alone (suc a) n s (omega arith)
onto-enough (suc a) (suc b) n s h k =
    let t : Bytes = (48 + n % 10) ∷ s in
    before-both n t (λ (m : ℕ). digits_onto a m t) (λ (m : ℕ). digits_onto b m t) (λ l. onto-enough a b (n / 10) t (omega arith) (omega arith))

or-else-append : (x : Option ℕ) (s t : Bytes) (f g : ℕ → Bytes) → ((m : ℕ) → g m ≡ f m ++ t) → or_else (s ++ t) g x ≡ or_else s f x ++ t
or-else-append none s t f g h = refl
or-else-append (some m) s t f g h = h m

onto-append : (left n : ℕ) (s t : Bytes) → digits_onto left n (s ++ t) ≡ digits_onto left n s ++ t
onto-append zero n s t = refl
onto-append (suc left) n s t =
    let d : Bytes = (48 + n % 10) ∷ s in
    or-else-append (before_last n) d t (λ (m : ℕ). digits_onto left m d) (λ (m : ℕ). digits_onto left m (d ++ t)) (λ m. onto-append left m d t)

pub decimal-one : (n : ℕ) → n < 10 → decimal n ≡ (48 + n) ∷ []
unfolding decimal
decimal-one n h = onto-alone n n [] h ∙ ap {B = Bytes} (λ (d : ℕ). (48 + d) ∷ []) (mod-eq_of_lt h)

pub decimal-more : (n : ℕ) → 10 ≤ n → decimal n ≡ decimal (n / 10) ++ ((48 + n % 10) ∷ [])
unfolding decimal
decimal-more zero h = absurd (omega arith)
decimal-more (suc k) h =
    let n : ℕ = suc k in
    let t : Bytes = (48 + n % 10) ∷ [] in
    before-by (λ (x : Bytes). x ≡ digits_onto k (n / 10) t) n t (λ (m : ℕ). digits_onto k m t) (λ l. absurd (omega arith)) (λ l. refl)
    ∙ onto-enough k (n / 10) (n / 10) t (omega arith) (omega arith)
    ∙ onto-append (n / 10) (n / 10) [] t

-- every byte is a digit

abbrev pub Digit : ℕ → Type 0
Digit c = (48 ≤ c) × (c ≤ 57)

last-is-digit : (n : ℕ) → Digit (48 + n % 10)
last-is-digit n = (omega arith, omega arith)

onto-digits : (left n : ℕ) (s : Bytes) → Each Digit s → Each Digit (digits_onto left n s)
onto-digits zero n s h = (last-is-digit n, h)
onto-digits (suc left) n s h =
    let t : Bytes = (48 + n % 10) ∷ s in
    before-by (Each Digit) n t (λ (m : ℕ). digits_onto left m t) (λ l. (last-is-digit n, h)) (λ l. onto-digits left (n / 10) t (last-is-digit n, h))

pub decimal-digits : (n : ℕ) → Each Digit (decimal n)
unfolding decimal
decimal-digits n = onto-digits n n [] tt

-- the first one is not 0, but of 0

abbrev Leads : Bytes → Type 0
Leads s = (48 < get_or s 0 0) × (get_or s 0 0 ≤ 57)

leads-last : (n : ℕ) (s : Bytes) → 0 < n → n < 10 → Leads ((48 + n % 10) ∷ s)
leads-last n s p h = let e : n % 10 ≡ n = mod-eq_of_lt h in (omega (arith, e), omega (arith, e))

onto-leads : (left n : ℕ) (s : Bytes) → 0 < n → n ≤ left → Leads (digits_onto left n s)
onto-leads zero n s p h = absurd (omega arith)
onto-leads (suc left) n s p h =
    let t : Bytes = (48 + n % 10) ∷ s in
    before-by Leads n t (λ (m : ℕ). digits_onto left m t) (λ l. leads-last n s p l) (λ l. onto-leads left (n / 10) t (omega arith) (omega arith))

-- they stand for the number

digit-back : (d : ℕ) → d < 10 → digit (48 + d) ≡ d
digit-back d h = let e : 48 + d ≤ 57 = omega arith in rw (le-leb 48 (48 + d) (omega arith), le-leb (48 + d) 57 e) (omega arith)

last-back : (m n : ℕ) (s : Bytes) → m ≡ n / 10 → numeral 10 m ((48 + n % 10) ∷ s) ≡ numeral 10 n s
last-back m n s e =
    let d = digit-back (n % 10) (omega arith) in
    ap (λ (k : ℕ). numeral 10 k s) (omega (arith, e, d, div-add-mod' n 10))

onto-back : (left n : ℕ) (s : Bytes) → n ≤ left → numeral 10 0 (digits_onto left n s) ≡ numeral 10 n s
onto-back zero n s h = last-back 0 n s (omega arith)
onto-back (suc left) n s h =
    let t : Bytes = (48 + n % 10) ∷ s in
    before-by (λ (x : Bytes). numeral 10 0 x ≡ numeral 10 n s) n t (λ (m : ℕ). digits_onto left m t)
    (λ l. last-back 0 n s (omega arith))
    (λ l. onto-back left (n / 10) t (omega arith) ∙ last-back (n / 10) n s refl)

is_digit : (c : ℕ) → Digit c → is_digit_of 10 c ≡ true
is_digit c h = let e : c - 48 < 10 = omega (arith, h.0, h.1) in rw (le-leb 48 c h.0, le-leb c 57 h.1, lt-ltb (c - 48) 10 e)

are-digits : (s : Bytes) → Leads s → Each Digit s → are_digits 10 s ≡ true
are-digits [] l h = absurd (omega (arith, l.0))
are-digits (c ∷ s) l h = each_all (is_digit_of 10) (c ∷ s) (is_digit c h.0, digits_of s h.1)
  where
    digits_of : (s : Bytes) → Each Digit s → Each (λ (c : ℕ). is_digit_of 10 c ≡ true) s
    digits_of [] h = tt
    digits_of (c ∷ s) h = (is_digit c h.0, digits_of s h.1)

unsigned_back : (n : ℕ) (s : Bytes) → Leads s → Each Digit s → numeral 10 0 s ≡ n → unsigned s ≡ some n
unsigned_back n s l h e = rw (ne_eqb (get_or s 0 0) 48 (λ q. omega (arith, q, l.0)), are-digits s l h, e)

int-back : (b : Bounds) (n : ℕ) (s : Bytes) → n ≤ b.greatest → Leads s → unsigned s ≡ some n → int_of b s ≡ some (plus n)
int-back b n s h l e = rw (ne_eqb (get_or s 0 0) 45 (λ q. omega (arith, q, l.0)), e, le-leb n b.greatest h)

-- a number that is an int reads back as it
pub decimal-back : (b : Bounds) (n : ℕ) → n ≤ b.greatest → int_of b (decimal n) ≡ some (plus n)
unfolding decimal
decimal-back b zero h = rw (le-leb 0 b.greatest h)
decimal-back b (suc n) h =
    let s : Bytes = digits_onto (suc n) (suc n) [] in
    let l : Leads s = onto-leads (suc n) (suc n) [] (omega arith) (omega arith) in
    int-back b (suc n) s h l (unsigned_back (suc n) s l (decimal-digits (suc n)) (onto-back (suc n) (suc n) [] (omega arith)))

-- there is nothing to trim

not-gap : (c : ℕ) → Digit c → is_gap c ≡ false
not-gap c h = rw (ne_eqb c 32 (λ q. omega (arith, q, h.0)), ne_eqb c 9 (λ q. omega (arith, q, h.0)), ne_eqb c 10 (λ q. omega (arith, q, h.0)))

behind-digits : (s : Bytes) → Each Digit s → behind is_gap s ≡ s
behind-digits [] h = refl
behind-digits (c ∷ s) h = rw (not-gap c h.0)

pub each-reverse : {A : Type 0} (P : A → Type 0) (xs : List A) → Each P xs → Each P (reverse xs)
each-reverse P [] h = tt
each-reverse P (x ∷ xs) h = subst (Each P) (sym (reverse-append (x ∷ []) xs)) (each_append P (reverse xs) (x ∷ []) (each-reverse P xs h.1) (h.0, tt))

pub trim_digits : (s : Bytes) → Each Digit s → trim s ≡ s
trim_digits s h =
    ap (λ (t : Bytes). reverse (behind is_gap (reverse t))) (behind-digits s h)
    ∙ ap reverse (behind-digits (reverse s) (each-reverse Digit s h))
    ∙ reverse-reverse s

-- a legal value

allowed : (c : ℕ) → Digit c → is_allowed c ≡ true
allowed c h = rw (ne_eqb c 9 (λ q. omega (arith, q, h.0)), ne_eqb c 10 (λ q. omega (arith, q, h.0)), le-leb 32 c (omega (arith, h.0)), le-leb c 126 (omega (arith, h.1)))

all-allowed : (s : Bytes) → Each Digit s → all is_allowed s ≡ true
all-allowed [] h = refl
all-allowed (c ∷ s) h = (and-eq-true_iff (is_allowed c) (all is_allowed s)).1 (allowed c h.0, all-allowed s h.1)

one_line : (s : Bytes) → Each Digit s → split 10 s ≡ s ∷ []
one_line [] h = refl
one_line (c ∷ s) h = rw (ne_eqb c 10 (λ q. omega (arith, q, h.0))) (ap (onto c) (one_line s h.1))

last-below : (d : ℕ) (s : Bytes) → d < 92 → Each Digit s → last d s < 92
last-below d [] p h = p
last-below d (c ∷ s) p h = last-below c s (omega (arith, h.0.1)) h.1

none-joins : (s : Bytes) → Each Digit s → none_joins (split 10 s) ≡ true
none-joins s h = rw (one_line s h, ne_eqb (last 0 s) 92 (λ q. omega (arith, q, last-below 0 s (omega arith) h)))

onto-length : (k left n : ℕ) (s : Bytes) → n < 10 ^ suc k → length (digits_onto left n s) ≤ suc k + length s
onto-length k zero n s h = omega arith
onto-length zero (suc left) n s h =
    let t : Bytes = (48 + n % 10) ∷ s in
    before-by (λ (x : Bytes). length x ≤ 1 + length s) n t (λ (m : ℕ). digits_onto left m t) (λ l. omega arith) (λ l. absurd (omega arith))
onto-length (suc k) (suc left) n s h =
    let t : Bytes = (48 + n % 10) ∷ s in
    before-by (λ (x : Bytes). length x ≤ suc (suc k) + length s) n t (λ (m : ℕ). digits_onto left m t)
    (λ l. omega arith)
    (λ l. omega (arith, onto-length k left (n / 10) t (omega (arith, h, pow-succ' 10 (suc k)))))

pub decimal-length : (k n : ℕ) → n < 10 ^ suc k → length (decimal n) ≤ suc k
unfolding decimal
decimal-length k n h = omega (arith, onto-length k n n [] h)

pub decimal-legal : (k n : ℕ) → n < 10 ^ suc k → suc k ≤ value_bytes → is_legal_value (decimal n) ≡ true
decimal-legal k n h l =
    let d : Each Digit (decimal n) = decimal-digits n in
    rw (le-leb (length (decimal n)) value_bytes (omega (arith, decimal-length k n h, l)), all-allowed (decimal n) d, none-joins (decimal n) d)
