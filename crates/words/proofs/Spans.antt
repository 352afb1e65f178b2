-- The bytes from one place of a text to another.
use Prim.Native.Nat.{ℕ, ◌-◌, ◌≤◌}
use native.Mathlib.Omega.{arith}
use mathlib.Core.Path.{◌≡◌}
use lib.ListN.{length, drop, length-drop}
use lib.Seq.{length-take-le}
use Rattle.format.specs.Bytes.{Bytes}
use Rattle.words.specs.Spans.{span}

pub span-length : (s : Bytes) (a e : ℕ) → a ≤ e → e ≤ length s → length (span a e s) ≡ e - a
span-length s a e h g = length-take-le (e - a) (drop a s) (omega (arith, length-drop a s))
