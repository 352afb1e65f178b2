-- One word of the lists more: it has a field already, it gets one, or it has no number.
use Prim.Native.Nat.{ℕ, suc, ◌+◌, ◌≤◌, ◌<◌}
use native.Mathlib.Omega.{arith}
use mathlib.Core.Path.{◌≡◌, refl, sym, ap, ap₂, ◌∙◌, subst}
use mathlib.Core.Bool.{Bool, true, false, ◌&&◌, ◌||◌, and-eq-true_iff}
use mathlib.Core.List.{List, [], ◌∷◌, ◌++◌, append_assoc, append-nil}
use mathlib.Core.Option.{Option, none, some, map}
use borrow.Author.Tests.{ltb-true, lt-ltb, le-ltb, leb-true}
use lib.Dec.{leb, ltb}
use lib.ListN.{length, take, get_or, length-append}
use Rattle.format.specs.Bytes.{Bytes, pick, all, same, among}
use Rattle.format.specs.Limits.{name_bytes}
use Rattle.format.specs.Lists.{only_if}
use Rattle.format.specs.Written.{written, Pair, written_all}
use Rattle.format.specs.Numbering.{decimal}
use Rattle.format.proofs.Lines.{all_append}
use Rattle.words.specs.RuleNames.{place_in}
use Rattle.words.proofs.RuleNames.{place-among}
use Rattle.terms.specs.Sets.{in_set}
use Rattle.writing.proofs.Texts.{written-length}
use Rattle.numbering.specs.Bounds.{numbers, AreLimits}
use Rattle.format.proofs.Overlong.{is_short}
use Rattle.numbering.specs.Adding.{pair_by, State, behind_all, stepped, Marked, Sums}
use Rattle.numbering.specs.declared.adding.Sum.{Sum}
use Rattle.numbering.proofs.Digits.{indent-decimal, number_short}

written-append : (ps qs : List Pair) → written_all (ps ++ qs) ≡ written_all ps ++ written_all qs
written-append [] qs = refl
written-append (p ∷ ps) qs = ap (λ (t : Bytes). written p.name p.value ++ t) (written-append ps qs) ∙ sym (append_assoc (written p.name p.value) (written_all ps) (written_all qs))

written_one : (ps : List Pair) (p : Pair) → written_all (ps ++ (p ∷ [])) ≡ written_all ps ++ written p.name p.value
written_one ps p = written-append ps (p ∷ []) ∙ ap (λ (t : Bytes). written_all ps ++ t) (append-nil (written p.name p.value))

-- the text of a number's field
pub number-text : (n : Bytes) (x : ℕ) → x < numbers → length (written n (decimal x)) ≤ length n + 22
number-text n x h = omega (arith, written-length n (decimal x), ap length (indent-decimal x), number_short x h)

-- a listed name has a place
pub place_inside : (ws : List Bytes) (n : Bytes) (k : ℕ) → k ≡ place_in n ws → among n ws ≡ true → k < length ws
place_inside ws n k e h = let l = ltb-true (place_in n ws) (length ws) (place-among n ws ∙ h) in omega (arith, e, l)

-- what is below a limit is a number
pub small-floor : (ws : List Bytes) (limits : List ℕ) → AreLimits ws limits → (n : Bytes) → among n ws ≡ true → (k : ℕ) → k ≡ place_in n ws → (x : ℕ) → x < get_or limits k 0 → x < numbers
small-floor ws limits h n l k e x b = omega (arith, b, h n l, ap (λ (j : ℕ). get_or limits j 0) e)

-- the number at a place, by its bounds
module _ (ws : List Bytes) (floors limits : List ℕ) (n : Bytes) (k : ℕ) (e : k ≡ place_in n ws) where
  by : (t : Bool) → ltb (get_or floors k 0) (get_or limits k 0) ≡ t → pair_by ws floors limits n ≡ map (λ (x : ℕ). record { name = n; value = decimal x }) (only_if t (get_or floors k 0))
  by t q =
      ap (λ (j : ℕ). map (λ (x : ℕ). record { name = n; value = decimal x }) (only_if (ltb (get_or floors j 0) (get_or limits j 0)) (get_or floors j 0))) (sym e)
      ∙ ap (λ (b : Bool). map (λ (x : ℕ). record { name = n; value = decimal x }) (only_if b (get_or floors k 0))) q

  pub pair-none : get_or limits k 0 ≤ get_or floors k 0 → pair_by ws floors limits n ≡ none
  pair-none h = by false (le-ltb (get_or floors k 0) (get_or limits k 0) h)

  pub pair-some : get_or floors k 0 < get_or limits k 0 → pair_by ws floors limits n ≡ some (record { name = n; value = decimal (get_or floors k 0) })
  pair-some h = by true (lt-ltb (get_or floors k 0) (get_or limits k 0) h)

module _ (f : Bytes → Option Pair) (s : State) (n : Bytes) where
  pub stepped_by : (t : Bool) → among n s.seen ≡ t → stepped f s n ≡ record { passed = suc s.passed; seen = pick t s.seen (n ∷ s.seen); pairs = pick t s.pairs (behind_all s.pairs (f n)) }
  stepped_by t e = ap (λ (b : Bool). record { passed = suc s.passed; seen = pick b s.seen (n ∷ s.seen); pairs = pick b s.pairs (behind_all s.pairs (f n)) }) e

-- the word n, whose place is k
module _ (ws : List Bytes) (f : Bytes → Option Pair) (s : State) (out : Bytes) (r : Sum) (h : Sums ws s out r) (n : Bytes) (l : among n ws ≡ true) (k : ℕ) (p : k ≡ place_in n ws) where
  seen-is : (t : Bool) → in_set k r.seen ≡ t → among n s.seen ≡ t
  seen-is t e = sym (h.marks n l) ∙ ap (λ (j : ℕ). in_set j r.seen) (sym p) ∙ e

  -- it has a field
  pub sums-seen : in_set k r.seen ≡ true → Sums ws (stepped f s n) out r
  sums-seen e =
      subst (λ (t : State). Sums ws t out r) (sym (stepped_by f s n true (seen-is true e)))
      (record {
        added = h.added;
        are = h.are;
        few = omega (arith, h.few);
        marks = h.marks;
        len_is = h.len_is;
        len-most = h.len-most;
        short-is = h.short-is;
        text = h.text;
      })

  -- it has no number
  pub sums_none : in_set k r.seen ≡ false → f n ≡ none → (stepped f s n).pairs ≡ none
  sums_none e q = ap (λ (t : State). t.pairs) (stepped_by f s n false (seen-is false e)) ∙ ap₂ behind_all h.are q

  -- it gets one
  module _ (e : in_set k r.seen ≡ false) (x : ℕ) (small : x < numbers) (q : f n ≡ some (record { name = n; value = decimal x })) (size : length n ≤ 4096) (long : ℕ) (g : long ≡ r.len + length (written n (decimal x)))
      (short : Bool) (z : short ≡ (r.short && leb (length n) name_bytes)) (seen : ℕ) (m : Marked ws n r.seen seen) (now : Bytes)
      (text : short ≡ true → take long now ≡ take r.len out ++ written n (decimal x)) where
    abbrev pair : Pair
    pair = record { name = n; value = decimal x }

    pub both : short ≡ true → (r.short ≡ true) × (length n ≤ 64)
    both y = let b = (and-eq-true_iff r.short (leb (length n) name_bytes)).0 (sym z ∙ y) in (b.0, leb-true (length n) 64 b.1)

    more : length (h.added ++ (pair ∷ [])) ≡ suc (length h.added)
    more = length-append h.added (pair ∷ []) ∙ (let w : length h.added + 1 ≡ suc (length h.added) = omega arith in w)

    pub sums-more : Sums ws (stepped f s n) now (record { len = long; short = short; seen = seen })
    sums-more =
        subst (λ (t : State). Sums ws t now (record { len = long; short = short; seen = seen })) (sym (stepped_by f s n false (seen-is false e)))
        (record {
          added = h.added ++ (pair ∷ []);
          are = ap₂ behind_all h.are q;
          few = omega (arith, more, h.few);
          marks = λ w y. m w y ∙ ap (λ (t : Bool). same w n || t) (h.marks w y);
          len_is = g ∙ ap (λ (t : ℕ). t + length (written n (decimal x))) h.len_is ∙ sym (length-append (written_all h.added) (written n (decimal x))) ∙ ap length (sym (written_one h.added pair));
          len-most = omega (arith, g, h.len-most, more, number-text n x small, size);
          short-is = z ∙ ap (λ (t : Bool). t && leb (length n) name_bytes) h.short-is ∙ last (all is_short h.added) (leb (length n) name_bytes) ∙ sym (all_append is_short h.added (pair ∷ []));
          text = λ y. (
            text y ∙ ap (λ (t : Bytes). t ++ written n (decimal x)) (h.text (both y).0).0 ∙ sym (written_one h.added pair),
            omega (arith, g, (h.text (both y).0).1, more, number-text n x small, (both y).1),
          );
        })
      where
        last : (a b : Bool) → (a && b) ≡ (a && (b && true))
        last a true = refl
        last a false = refl

-- there is room for one more, if fewer than 64 words were passed
module _ (ws : List Bytes) (s : State) (out : Bytes) (r : Sum) (h : Sums ws s out r) (few : s.passed < 64) (n : Bytes) (x : ℕ) (small : x < numbers) where
  pub room_most : r.len ≤ 263552
  room_most = omega (arith, h.len-most, h.few, few)

  pub room-more : (short : Bool) → short ≡ (r.short && leb (length n) name_bytes) → 5504 ≤ length out → short ≡ true → r.len + length (written n (decimal x)) ≤ length out
  room-more short z l y =
      let b = (and-eq-true_iff r.short (leb (length n) name_bytes)).0 (sym z ∙ y) in
      omega (arith, (h.text b.0).1, h.few, few, number-text n x small, leb-true (length n) 64 b.1, l)
