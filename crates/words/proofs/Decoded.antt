-- A text v that was decoded into the front of a scratch: x is the scratch behind that, whose first n bytes are v, and out is what it held before.
use Prim.Native.Nat.{ℕ, ◌-◌, ◌≤◌}
use native.Mathlib.Omega.{arith}
use mathlib.Core.Path.{◌≡◌, sym, ap, ◌∙◌, subst}
use lib.ListN.{length, take, drop, length-append, length-drop}
use lib.Seq.{take_at, drop-append-le}
use Rattle.format.specs.Bytes.{Bytes}
use Rattle.format.specs.Calls.{over}
use Rattle.format.specs.Words.{after_word}

module _ (v out x : Bytes) (n : ℕ) (e : n ≡ length v) (q : x ≡ over v out) where
  pub decoded-all : take n x ≡ v
  decoded-all = ap (take n) q ∙ take_at v (drop (length v) out) n (sym e)

  pub decoded-length : n ≡ length (take n x)
  decoded-length = e ∙ sym (ap length decoded-all)

  decoded-part : (a : ℕ) → a ≤ n → take (n - a) (drop a x) ≡ drop a v
  decoded-part a h =
      ap (λ (y : Bytes). take (n - a) (drop a y)) q
      ∙ ap (take (n - a)) (drop-append-le a v (drop (length v) out) (omega arith))
      ∙ take_at (drop a v) (drop (length v) out) (n - a) (omega (arith, length-drop a v))

  pub decoded-after : (a : ℕ) → a ≤ n → drop a (take n x) ≡ after_word (take n x) → take (n - a) (drop a x) ≡ after_word v
  decoded-after a h g = decoded-part a h ∙ subst (λ (y : Bytes). drop a y ≡ after_word y) decoded-all g

  -- the scratch keeps its length
  pub scratch-length : length v ≤ length out → length x ≡ length out
  scratch-length h = ap length q ∙ simp (length-append, length-drop) (omega arith)

  pub decoded-inside : length v ≤ length out → n ≤ length x
  decoded-inside h = omega (arith, scratch-length h)
