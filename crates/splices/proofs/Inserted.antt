-- The text of a record laid into a buffer: in front of a text, or behind a newline within it.
use Prim.Native.Nat.{ℕ, zero, suc, ◌+◌, ◌-◌, ◌≤◌, ◌<◌, max}
use native.Mathlib.Numerals.{add-one}
use native.Mathlib.Omega.{arith}
use mathlib.Core.Path.{◌≡◌, refl, sym, ap, ◌∙◌}
use mathlib.Core.List.{List, [], ◌∷◌, ◌++◌, append_assoc, append-nil}
use lib.ListN.{length, take, drop, get_or, set, length-append}
use lib.Seq.{take-suc, drop-cons, drop-drop, set_at, length-take-le, append_snoc, take-append_seam, drop-append_seam}
use Rattle.format.specs.Bytes.{Bytes}
use Rattle.format.specs.Written.{Pair, written_all}
use Rattle.format.specs.Calls.{over, placed}
use Rattle.records.proofs.SetInserts.{InsertTold}
use Rattle.splices.specs.Space.{spliced, inserted}
use Rattle.splices.proofs.Opening.{spliced-length}

-- a newline stored at `at`, before a text that was laid behind it
pub over-newline : (b w : Bytes) (at : ℕ) → at < length b → set (take (at + 1) b ++ over w (drop (at + 1) b)) at 10 ≡ take at b ++ over (10 ∷ w) (drop at b)
over-newline b w at h =
    let l : length (take at b) ≡ at = length-take-le at b (omega arith) in
    rw (add-one at, take-suc b at 0 h, append_assoc (take at b), drop-cons b at 0 h) (set_at (take at b) (get_or b at 0) (over w (drop (suc at) b)) 10 at l)

-- a newline stored behind a text that was laid in front
pub over-ended : (b w : Bytes) (n : ℕ) → n ≡ length w → n < length b → set (over w b) n 10 ≡ over (w ++ (10 ∷ [])) b
over-ended b w n e h =
    let k : length (w ++ (10 ∷ [])) ≡ suc n = omega (arith, length-append w (10 ∷ [])) in
    rw (k, ← e, drop-cons b n 0 h) (set_at w (get_or b n 0) (drop (suc n) b) 10 n (sym e) ∙ sym (append_snoc w 10 (drop (suc n) b)))

module _ (b : Bytes) (used len : ℕ) (w : Bytes) (fits : used ≤ length b) (size : len ≡ length w) where
  -- in an empty buffer's front
  pub front-alone : used ≡ 0 → over w b ≡ placed (inserted (take used b) 0 w) used b
  unfolding inserted
  front-alone z =
      let m : max 0 (length w) ≡ length w = omega arith in
      let d : 0 - length w ≡ 0 = omega arith in
      rw (z, append-nil w, m, d)

  gap-text : (s : Bytes) → 0 < length s → inserted s 0 w ≡ spliced s 0 0 (w ++ (10 ∷ []))
  unfolding inserted
  gap-text [] h = absurd (omega arith)
  gap-text (c ∷ s) h = sym (append_assoc w (10 ∷ []) (c ∷ s))

  pub front-text : 0 < used → inserted (take used b) 0 w ≡ spliced (take used b) 0 0 (w ++ (10 ∷ []))
  front-text h = gap-text (take used b) (omega (arith, length-take-le used b fits))

  pub front_length : 0 < used → length (inserted (take used b) 0 w) ≡ used + (len + 1)
  front_length h = ap length (front-text h) ∙ spliced-length b used 0 0 (w ++ (10 ∷ [])) (omega arith) fits ∙ omega (arith, length-append w (10 ∷ []))

  pub alone-length : used ≡ 0 → length (inserted (take used b) 0 w) ≡ len
  unfolding inserted
  alone-length z = rw (z, append-nil w) (sym size)

pub behind-text : (w s : Bytes) (at : ℕ) → 0 < at → inserted s at w ≡ spliced s at 0 (10 ∷ w)
unfolding inserted
behind-text w s zero h = absurd (omega arith)
behind-text w s (suc k) h = refl

-- what the laws of the definitions tell of an insert
pub told-inserted : (s : Bytes) (z : ℕ) (ps : List Pair) (t : Bytes) → InsertTold s z ps t → t ≡ inserted s z (written_all ps)
unfolding inserted
told-inserted s zero ps t h = h.front refl
told-inserted s (suc k) ps t h = h.behind (omega arith) ∙ ap (λ (e : ℕ). take (suc k) s ++ ((10 ∷ written_all ps) ++ drop e s)) (let e : suc k ≡ suc k + 0 = omega arith in e)

-- a text laid over the front, and another behind it
pub over-both : (b v w : Bytes) → take (length v) (over v b) ++ over w (drop (length v) (over v b)) ≡ over (v ++ w) b
over-both b v w =
    let t : take (length v) (over v b) ≡ v = take-append_seam v (drop (length v) b) in
    let d : drop (length v) (over v b) ≡ drop (length v) b = drop-append_seam v (drop (length v) b) in
    (λ i. t i ++ over w (d i))
    ∙ ap (λ (x : Bytes). v ++ (w ++ x)) (drop-drop (length w) (length v) b ∙ ap (λ (n : ℕ). drop n b) (sym (length-append v w)))
    ∙ sym (append_assoc v w (drop (length (v ++ w)) b))
