-- The length of the text that a splice makes, and whether it fits.
use Prim.Native.Nat.{ℕ, zero, suc, ◌+◌, ◌-◌, ◌≤◌, ◌<◌}
use native.Mathlib.Omega.{arith}
use mathlib.Core.Path.{◌≡◌, refl, sym, ap, ◌∙◌, subst}
use mathlib.Core.Bool.{Bool, true, false, ◌&&◌}
use mathlib.Core.List.{[], ◌∷◌, append-nil}
use lib.Dec.{leb, eqb}
use lib.ListN.{length, drop, length-append, length-drop}
use lib.Seq.{length-take-le}
use borrow.Author.Tests.{lt-leb, le-leb, ne_eqb}
use Rattle.format.specs.Bytes.{Bytes, pick}
use Rattle.format.specs.Limits.{file_bytes}
use Rattle.format.specs.Calls.{placed}
use Rattle.format.proofs.Splices.{spliced-length}
use Rattle.words.specs.Spans.{span}
use Rattle.records.specs.Places.{is_readable}
use Rattle.records.proofs.Unfielding.{left_of, left_le}
use Rattle.splices.specs.Space.{spliced, inserted}
use Rattle.edits.specs.declared.Splice.{Splice}
use Rattle.edits.specs.Splices.{made_by, Sound, is_within, made_len}

-- a length by the two tests
module _ (room n : ℕ) where
  pub in-room : n ≤ room → is_within room n ≡ leb n file_bytes
  in-room h = ap (λ (t : Bool). t && leb n file_bytes) (le-leb n room h)

  pub not-longer : (m : ℕ) → n ≤ m → m ≤ room → m ≤ file_bytes → is_within room n ≡ true
  not-longer m h k l = in-room (omega arith) ∙ le-leb n file_bytes (omega arith)

  pub over-file : file_bytes < n → is_within room n ≡ false
  over-file h = go (leb n room)
    where
      go : (t : Bool) → (t && leb n file_bytes) ≡ false
      go true = lt-leb n file_bytes h
      go false = refl

-- a text with a part exchanged
pub exchanged-length : (s : Bytes) (at old : ℕ) (t : Bytes) → at + old ≤ length s → length (spliced s at old t) ≡ (length s - old) + length t
exchanged-length s at old t h = spliced-length s at (at + old) t (omega arith) h ∙ omega arith

-- a text with a record put in: a newline more unless the text was empty
alone-length : (s : Bytes) (at : ℕ) (t : Bytes) → length s ≡ 0 → at ≤ length s → length (inserted s at t) ≡ length t
unfolding inserted
alone-length [] zero t h k = ap length (append-nil t)
alone-length [] (suc at) t h k = absurd (omega arith)
alone-length (c ∷ s) at t h k = absurd (omega arith)

behind-length : (s : Bytes) (at : ℕ) (t : Bytes) → 0 < length s → at ≤ length s → length (inserted s at t) ≡ length s + length t + 1
unfolding inserted
behind-length [] at t h k = absurd (omega arith)
behind-length (c ∷ s) zero t h k = omega (arith, length-append t (10 ∷ c ∷ s))
behind-length (c ∷ s) (suc at) t h k = omega (arith, exchanged-length (c ∷ s) (suc at) 0 (10 ∷ t) (omega arith))

pub inserted-length : (s : Bytes) (at : ℕ) (t : Bytes) → at ≤ length s → length (inserted s at t) ≡ made_len (length s) (length t)
inserted-length [] at t k = alone-length [] at t refl k
inserted-length (c ∷ s) at t k = behind-length (c ∷ s) at t (omega arith) k ∙ sym (ap (λ (b : Bool). pick b (length t) (length (c ∷ s) + length t + 1)) (ne_eqb (length (c ∷ s)) 0 (λ e. omega arith)))

pub made-least : (used len : ℕ) → len ≤ made_len used len
made-least used len = go (eqb used 0)
  where
    go : (b : Bool) → len ≤ pick b len (used + len + 1)
    go true = omega arith
    go false = omega arith

pub inserted-least : (s : Bytes) (at : ℕ) (t : Bytes) → at ≤ length s → length t ≤ length (inserted s at t)
inserted-least s at t k = omega (arith, inserted-length s at t k, made-least (length s) (length t))

-- a text without the fields of a part
pub unfielded-length : (s : Bytes) (start end : ℕ) → start ≤ end → end ≤ length s → is_readable (span start end s) ≡ true → length (spliced s start (end - start) (left_of (span start end s))) ≤ length s
unfielded-length s start end h k r =
    let l : length (span start end s) ≡ end - start = length-take-le (end - start) (drop start s) (omega (arith, length-drop start s)) in
    omega (arith, exchanged-length s start (end - start) (left_of (span start end s)) (omega arith), left_le (span start end s) r)

-- The same of a splice, once its form is known.
module _ (s req added : Bytes) {x y : Splice} (e : x ≡ y) where
  pub sound-as : Sound s req added x → Sound s req added y
  sound-as h = subst (Sound s req added) e h

  pub fits-as : (room : ℕ) {t : Bool} → is_within room (length (made_by s req added y)) ≡ t → t ≡ is_within room (length (made_by s req added x))
  fits-as room h = sym (ap (λ (z : Splice). is_within room (length (made_by s req added z))) e ∙ h)

  pub length-as : (m : ℕ) → length (made_by s req added x) ≤ m → length (made_by s req added y) ≤ m
  length-as m h = subst (λ (z : Splice). length (made_by s req added z) ≤ m) e h

  pub carried-as : (used r : ℕ) (b b' : Bytes) → (r ≡ length (made_by s req added y)) × (b' ≡ placed (made_by s req added y) used b) → (r ≡ length (made_by s req added x)) × (b' ≡ placed (made_by s req added x) used b)
  carried-as used r b b' h = subst (λ (z : Splice). (r ≡ length (made_by s req added z)) × (b' ≡ placed (made_by s req added z) used b)) (sym e) h
