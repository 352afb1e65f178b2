-- The tally of no field, and of one field more.
use Prim.Native.Nat.{ℕ, zero, suc, ◌+◌}
use native.Mathlib.Omega.{arith}
use mathlib.Core.Path.{◌≡◌, refl, sym, ap, ap₂, ◌∙◌, subst}
use mathlib.Core.Bool.{Bool, true, false, ◌&&◌, ◌||◌, not, or-true, or-false}
use mathlib.Core.List.{List, [], ◌∷◌, ◌++◌}
use borrow.Author.Tests.{le-leb, lt-leb, lt-ltb, le-ltb}
use lib.Bits.{bit_and, bit_or}
use lib.Dec.{leb, ltb}
use lib.ListN.{length, get_or}
use Rattle.format.specs.Bytes.{Bytes, pick, all, same, among}
use Rattle.format.specs.Records.{Field, Record}
use Rattle.format.specs.Rules.{mandatory, prohibited, allowed, unique}
use Rattle.format.specs.Questions.{occurrences}
use Rattle.format.proofs.Lines.{all_append}
use Rattle.format.proofs.Listing.{same-swap, occurrences-cons}
use Rattle.values.proofs.Tests.{dec-lt, or-first, or-second}
use Rattle.terms.specs.Sets.{in_set}
use Rattle.terms.proofs.Sets.{in-none, in-or}
use Rattle.dictionary.specs.Known.{Known}
use Rattle.dictionary.specs.Numbered.{Places}
use Rattle.dictionary.proofs.Sets.{in_and}
use Rattle.rules.specs.Tallies.{empty, counted, Tallied}
use Rattle.rules.specs.Tables.{Stands}
use Rattle.rules.specs.declared.tallies.Tally.{Tally}
use Rattle.rules.specs.declared.tables.Seen.{Seen}

-- a test that fails of no field
none_so_far : (k n : ℕ) (b : Bool) → in_set k 0 ≡ (b && leb (suc n) 0)
none_so_far k n true = in-none k ∙ sym (lt-leb (suc n) 0 (omega arith))
none_so_far k n false = in-none k

pub tallied-none : (rules : Record) → Tallied rules [] empty
tallied-none rules =
    record {
      prohibited-is = refl;
      other-is = refl;
      present-is = λ k. none_so_far k 0 (ltb k (length (mandatory rules)));
      once_is = λ k. none_so_far k 0 (ltb k (length (unique rules)));
      twice-is = λ k. none_so_far k 1 (ltb k (length (unique rules)));
      keys-is = λ w e. refl;
    }

-- one field more behind others
pub occurrences-more : (n : Bytes) (fs : Record) (f : Field) → occurrences n (fs ++ (f ∷ [])) ≡ occurrences n fs + pick (same n f.name) 1 0
occurrences-more n [] f = omega (arith, occurrences-cons n f [])
occurrences-more n (g ∷ fs) f = omega (arith, occurrences-cons n g (fs ++ (f ∷ [])), occurrences-cons n g fs, occurrences-more n fs f)

not-both : (a b : Bool) → not (a && (b && true)) ≡ not a || not b
not-both true true = refl
not-both true false = refl
not-both false b = refl

all_more : (p : Field → Bool) (fs : Record) (f : Field) → not (all p (fs ++ (f ∷ []))) ≡ not (all p fs) || not (p f)
all_more p fs f = ap not (all_append p fs (f ∷ [])) ∙ not-both (all p fs) (p f)

not-not : (t : Bool) → not (not t) ≡ t
not-not true = refl
not-not false = refl

-- a word that occurs n times, and once more where s says so
once_by : (b s : Bool) (n : ℕ) → (b && leb 1 n) || (b && s) ≡ b && leb 1 (n + pick s 1 0)
once_by false s n = refl
once_by true true n = or-true (leb 1 n) ∙ sym (le-leb 1 (n + 1) (omega arith))
once_by true false n = or-false (leb 1 n) ∙ ap (leb 1) (let e : n ≡ n + 0 = omega arith in e)

twice-by : (b s : Bool) (n : ℕ) → (b && leb 2 n) || ((b && leb 1 n) && (b && s)) ≡ b && leb 2 (n + pick s 1 0)
twice-by false s n = refl
twice-by true true zero = refl
twice-by true true (suc zero) = refl
twice-by true true (suc (suc n)) = ap (λ (t : Bool). t || (leb 1 (suc (suc n)) && true)) (le-leb 2 (suc (suc n)) (omega arith)) ∙ sym (le-leb 2 (suc (suc n) + 1) (omega arith))
twice-by true false n = ap (λ (t : Bool). leb 2 n || t) (and-false (leb 1 n)) ∙ or-false (leb 2 n) ∙ ap (leb 2) (let e : n ≡ n + 0 = omega arith in e)
  where
    and-false : (t : Bool) → t && false ≡ false
    and-false true = refl
    and-false false = refl

module _ (fs : Record) (f : Field) (ws : List Bytes) (m : ℕ) (p : Places ws f.name m) (k : ℕ) where
  abbrev w : Bytes
  w = get_or ws k []

  place : in_set k m ≡ (ltb k (length ws) && same w f.name)
  place = p k ∙ ap (λ (t : Bool). ltb k (length ws) && t) (same-swap f.name w)

  set_more : (x : ℕ) → in_set k x ≡ (ltb k (length ws) && leb 1 (occurrences w fs)) → in_set k (bit_or x m) ≡ (ltb k (length ws) && leb 1 (occurrences w (fs ++ (f ∷ []))))
  set_more x e =
      in-or k x m ∙ ap₂ ◌||◌ e place
      ∙ once_by (ltb k (length ws)) (same w f.name) (occurrences w fs)
      ∙ ap (λ (n : ℕ). ltb k (length ws) && leb 1 n) (sym (occurrences-more w fs f))

  set-again : (x y : ℕ) → in_set k x ≡ (ltb k (length ws) && leb 2 (occurrences w fs)) → in_set k y ≡ (ltb k (length ws) && leb 1 (occurrences w fs)) → in_set k (bit_or x (bit_and y m)) ≡ (ltb k (length ws) && leb 2 (occurrences w (fs ++ (f ∷ []))))
  set-again x y e g =
      in-or k x (bit_and y m) ∙ ap₂ ◌||◌ e (in_and k y m ∙ ap₂ ◌&&◌ g place)
      ∙ twice-by (ltb k (length ws)) (same w f.name) (occurrences w fs)
      ∙ ap (λ (n : ℕ). ltb k (length ws) && leb 2 n) (sym (occurrences-more w fs f))

tallied-more : (rules fs : Record) (f : Field) (t : Tally) (from next x m u : ℕ) → Tallied rules fs t → Known rules from next f.name x → Places (mandatory rules) f.name m → Places (unique rules) f.name u
    → Tallied rules (fs ++ (f ∷ [])) (counted t (in_set 33 x) (in_set 34 x) (in_set 36 x) m u)
tallied-more rules fs f t from next x m u h kn pm pu =
    record {
      prohibited-is =
          ap₂ ◌||◌ h.prohibited-is (kn.prohibited-is ∙ sym (not-not (among f.name (prohibited rules))))
          ∙ sym (all_more (λ (g : Field). not (among g.name (prohibited rules))) fs f);
      other-is =
          ap₂ ◌||◌ h.other-is (ap not kn.allowed-is)
          ∙ sym (all_more (λ (g : Field). among g.name (allowed rules)) fs f);
      present-is = λ k. set_more fs f (mandatory rules) m pm k t.present (h.present-is k);
      once_is = λ k. set_more fs f (unique rules) u pu k t.once (h.once_is k);
      twice-is = λ k. set-again fs f (unique rules) u pu k t.twice t.once (h.twice-is k) (h.once_is k);
      keys-is =
          λ w e.
          let q : in_set 36 x ≡ same w f.name = kn.key-is ∙ ap (among f.name) e ∙ or-false (same f.name w) ∙ same-swap f.name w in
          let p : pick {A = ℕ} (in_set 36 x) 1 0 ≡ pick (same w f.name) 1 0 = ap (λ (b : Bool). pick {A = ℕ} b 1 0) q in
          let n = h.keys-is w e in
          let r = occurrences-more w fs f in
          omega arith;
    }

-- a name that is none of some words stands at no place among them
among-place : (w : Bytes) (ws : List Bytes) (k : ℕ) → among w ws ≡ false → (ltb k (length ws) && same w (get_or ws k [])) ≡ false
among-place w [] k e = ap (λ (t : Bool). t && same w []) (no_less k)
  where
    no_less : (k : ℕ) → ltb k 0 ≡ false
    no_less k = le-ltb k 0 (omega arith)
among-place w (v ∷ ws) zero e = ap (λ (t : Bool). ltb 0 (suc (length ws)) && t) (or-first (same w v) (among w ws) e) ∙ and-off (ltb 0 (suc (length ws)))
  where
    and-off : (t : Bool) → t && false ≡ false
    and-off true = refl
    and-off false = refl
among-place w (v ∷ ws) (suc k) e = ap (λ (t : Bool). t && same w (get_or ws k [])) (less-suc k (length ws)) ∙ among-place w ws k (or-second (same w v) (among w ws) e)
  where
    less-suc : (a b : ℕ) → ltb (suc a) (suc b) ≡ ltb a b
    less-suc a b = dec-lt a b (λ h. lt-ltb (suc a) (suc b) (omega arith) ∙ sym (lt-ltb a b h)) (λ h. le-ltb (suc a) (suc b) (omega arith) ∙ sym (le-ltb a b h))

pub no-places : (w : Bytes) (ws : List Bytes) → among w ws ≡ false → Places ws w 0
no-places w ws e k = in-none k ∙ sym (among-place w ws k e)

-- by what was seen of the field's name
pub stands-more : (rules fs : Record) (f : Field) (from next : ℕ) (t s : Tally) (x : Seen) → Stands rules from next f.name x → Tallied rules fs t
    → s ≡ counted t (in_set 33 x.known) (in_set 34 x.known) (in_set 36 x.known) x.mandatory x.unique → Tallied rules (fs ++ (f ∷ [])) s
stands-more rules fs f from next t s x h g e =
    subst (Tallied rules (fs ++ (f ∷ []))) (sym e) (tallied-more rules fs f t from next x.known x.mandatory x.unique g h.tags h.mandatory-at h.unique-at)
