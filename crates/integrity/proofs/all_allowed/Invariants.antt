-- `integrity::all_allowed` meets its contract. The invariant: all bytes are allowed where ok says so and those from i on are.
use Prim.Native.Nat.{◌≤◌}
use mathlib.Core.Path.{◌≡◌}
use mathlib.Core.Bool.{◌&&◌}
use lib.ListN.{length, drop}
use Rattle.format.specs.Bytes.{is_allowed, all}
use Rattle.integrity.proofs.all_allowed.Given as goal

abbrev pub invariant-loop-b : goal.invariant-loop-b
invariant-loop-b l = (l.b-index ≤ length l.s) × (all is_allowed l.s ≡ (l.ok && all is_allowed (drop l.b-index l.s)))
