-- The text of a field: a value's text byte by byte, texts one behind the other in a buffer.
use Prim.Native.Nat.{ℕ, suc, ◌+◌, ◌-◌, ◌*◌, ◌≤◌, ◌<◌}
use native.Mathlib.Nat.{add-zero, zero-add}
use native.Mathlib.Numerals.{add-one, add-two}
use native.Mathlib.Omega.{arith}
use mathlib.Core.Path.{◌≡◌, sym, ap, ◌∙◌}
use mathlib.Core.Bool.{Bool, true, false}
use mathlib.Core.List.{[], ◌∷◌, ◌++◌, append-nil, append_assoc}
use lib.ListN.{length, take, drop, get_or, set, length-append, length-drop, length-set, drop_of_length-le}
use lib.Seq.{sets, sets-eq, length-sets, take_all, drop-drop}
use borrow.Author.Tests.{eq-eqb, ne_eqb}
use borrow.Rule.Slice.PartMut.{put_mid, mid_of, post_of}
use Rattle.std.proofs.lemmas.List.Sums.{sum_by-cons}
use Rattle.std.specs.Prelude.{count_by, cond, ◌==◌}
use Rattle.format.specs.Bytes.{Bytes, is_newline, pick}
use Rattle.format.specs.Written.{indent, written}
use Rattle.format.specs.Calls.{over}
use Rattle.lines.proofs.Cuts.{at-cons}
use Rattle.lines.proofs.Over.{over-sets}

-- a value's text from an index on
module _ (v : Bytes) (i : ℕ) where
  pub indent-more : i < length v → (get_or v i 0 ≡ 10 → ⊥) → indent (drop i v) ≡ get_or v i 0 ∷ indent (drop (i + 1) v)
  indent-more h e = rw (at-cons v i h, ne_eqb _ _ e)

  pub indent-newline : i < length v → get_or v i 0 ≡ 10 → indent (drop i v) ≡ get_or v i 0 ∷ 43 ∷ 32 ∷ indent (drop (i + 1) v)
  indent-newline h e = rw (at-cons v i h, eq-eqb _ _ e)

  pub indent-some : i < length v → 0 < length (indent (drop i v))
  indent-some h = rw (at-cons v i h) (omega arith)

  pub indent-end : length v ≤ i → indent (drop i v) ≡ []
  indent-end h = rw (drop_of_length-le v)

-- it has at most three bytes for each byte of the value
pub indent-length : (v : Bytes) → length (indent v) ≤ 3 * length v
indent-length [] = omega arith
indent-length (c ∷ v) = go (is_newline c) (indent-length v)
  where
    go : (t : Bool) → length (indent v) ≤ 3 * length v → length (c ∷ pick t (43 ∷ 32 ∷ indent v) (indent v)) ≤ 3 * suc (length v)
    go true h = omega arith
    go false h = omega arith

-- its length is the value's, and two for each newline
pub indent-count : (v : Bytes) → length v + 2 * count_by (λ b. b == 10) v ≡ length (indent v)
indent-count [] = omega arith
indent-count (c ∷ v) = go (is_newline c) (indent-count v) (sum_by-cons (λ (b : ℕ). cond (b == 10) 1 0) c v)
  where
    go : (t : Bool) → length v + 2 * count_by (λ b. b == 10) v ≡ length (indent v) → count_by (λ b. b == 10) (c ∷ v) ≡ cond t 1 0 + count_by (λ b. b == 10) v
        → length (c ∷ v) + 2 * count_by (λ b. b == 10) (c ∷ v) ≡ length (c ∷ pick t (43 ∷ 32 ∷ indent v) (indent v))
    go true h e = omega (arith, h, e)
    go false h e = omega (arith, h, e)

-- the length of a field's text
pub written-length : (n v : Bytes) → length (written n v) ≡ length n + length (indent v) + 3
unfolding written
written-length n v = simp length-append (omega arith)

-- a text and another one behind it
pub sets-append : (b : Bytes) (i : ℕ) (s t : Bytes) → sets b i (s ++ t) ≡ sets (sets b i s) (i + length s) t
sets-append b i [] t = ap (λ (k : ℕ). sets b k t) (sym (add-zero i))
sets-append b i (c ∷ s) t = sets-append (set b i c) (suc i) s t ∙ ap (λ (k : ℕ). sets (sets (set b i c) (suc i) s) k t) (omega arith)

-- a text's first bytes stored, and then the rest of it
pub sets-byte : (b : Bytes) (n c : ℕ) (t : Bytes) → sets (set b n c) (n + 1) t ≡ sets b n (c ∷ t)
sets-byte b n c t = rw (add-one n)

pub sets-newline : (b : Bytes) (n c : ℕ) (t : Bytes) → sets (set (set (set b n c) (n + 1) 43) (n + 1 + 1) 32) (n + 1 + 2) t ≡ sets b n (c ∷ 43 ∷ 32 ∷ t)
sets-newline b n c t = rw (add-one n, add-one (suc n), add-two (suc n))

-- the stages of a field's text, one after the other
field-stages : (b n v : Bytes) → set (sets (set (set (sets b 0 n) (length n) 58) (length n + 1) 32) (length n + 2) (indent v)) (length n + 2 + length (indent v)) 10 ≡ sets b 0 (written n v)
unfolding written
field-stages b n v =
    let l : ℕ = length n in
    sym (sets-append b 0 n (58 ∷ 32 ∷ (indent v ++ (10 ∷ [])))
    ∙ rw (zero-add l, add-one l, add-two l) (sets-append (set (set (sets b 0 n) l 58) (suc l) 32) (suc (suc l)) (indent v) (10 ∷ [])))

-- storing changes no length
pub length-put : (p b : Bytes) (i : ℕ) (t : Bytes) → p ≡ sets b i t → length p ≡ length b
length-put p b i t e = ap length e ∙ length-sets b i t

pub length-headed : (q p : Bytes) (i j k x y : ℕ) (t : Bytes) → q ≡ sets (set (set p i x) j y) k t → length q ≡ length p
length-headed q p i j k x y t e = length-put q (set (set p i x) j y) k t e ∙ length-set (set p i x) j y ∙ length-set p i x

pub length_over : (p b t : Bytes) → length t ≤ length b → p ≡ over t b → length p ≡ length b
length_over p b t h e = length-put p b 0 t (e ∙ sym (over-sets t b h))

pub field-text : (b n v p q : Bytes) (end : ℕ) → length (written n v) ≤ length b → p ≡ over n b → end ≡ length n + 2 + length (indent v)
    → q ≡ sets (set (set p (length n) 58) (length n + 1) 32) (length n + 2) (indent v) → set q end 10 ≡ over (written n v) b
field-text b n v p q end room ep ee eq =
    let e : p ≡ sets b 0 n = ep ∙ sym (over-sets n b (omega (arith, written-length n v))) in
    rw (eq, ee, e) (field-stages b n v ∙ over-sets (written n v) b room)

-- `f(&mut b[at..])`, where f writes a text over the front of its part
pub part-sets : (b text : Bytes) (at k : ℕ) → at + length text ≤ length b → k ≡ length b - at → put_mid at k b (over text (mid_of at k b)) ≡ sets b at text
part-sets b text at k h e =
    let m : mid_of at k b ≡ drop at b = take_all k (drop at b) (simp length-drop (omega arith)) in
    let p : post_of at k b ≡ [] = drop_of_length-le (drop at b) {i = k} (simp length-drop (omega arith)) in
    rw (m, p, append-nil, drop-drop) (sym (sets-eq text b at h ∙ append_assoc (take at b) text (drop (at + length text) b)))
