-- Names by their places in a list.
use Prim.Native.Nat.{ℕ, ◌≤◌, ◌<◌}
use native.Mathlib.Omega.{arith}
use mathlib.Core.Path.{◌≡◌, sym, ◌∙◌}
use mathlib.Core.Bool.{true, false}
use mathlib.Core.List.{List}
use borrow.Author.Tests.{lt-ltb, le-ltb}
use lib.ListN.{length}
use Rattle.format.specs.Bytes.{Bytes, among}
use Rattle.words.specs.RuleNames.{place_in}
use Rattle.words.proofs.RuleNames.{place-among}

-- a name whose place is one of the list's is listed, and no other is
pub placed-listed : (n : Bytes) (ws : List Bytes) (k : ℕ) → k ≡ place_in n ws → k < length ws → among n ws ≡ true
placed-listed n ws k e h = sym (place-among n ws) ∙ lt-ltb (place_in n ws) (length ws) (omega (arith, e, h))

pub unplaced : (n : Bytes) (ws : List Bytes) (k : ℕ) → k ≡ place_in n ws → length ws ≤ k → among n ws ≡ false
unplaced n ws k e h = sym (place-among n ws) ∙ le-ltb (place_in n ws) (length ws) (omega (arith, e, h))
