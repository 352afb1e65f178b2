-- A set of tags that has none below 32 names no `%type` field.
use Prim.Native.Nat.{ℕ, zero, suc, ◌+◌, ◌*◌, ◌/◌, ◌%◌, ◌≤◌, ◌<◌}
use native.Mathlib.Omega.{arith}
use mathlib.Core.Path.{◌≡◌, refl, ap, ◌∙◌}
use mathlib.Core.Bool.{true, false, ◌&&◌, ◌||◌, not}
use borrow.Author.Tests.{ne_eqb}
use Rattle.format.specs.Bytes.{Bytes}
use Rattle.terms.specs.Sets.{in_set}
use Rattle.columns.specs.Meets.{row_met, rows_met}

-- doubled j times, a number has no tag below j
abbrev doubled : ℕ → ℕ → ℕ
doubled zero q = q
doubled (suc j) q = 2 * doubled j q

none-doubled : (j k q : ℕ) → k < j → in_set k (doubled j q) ≡ false
unfolding in_set
none-doubled zero k q h = absurd (omega arith)
none-doubled (suc j) zero q h = ne_eqb (2 * doubled j q % 2) 1 (λ e. omega arith)
none-doubled (suc j) (suc k) q h =
    let half : 2 * doubled j q / 2 ≡ doubled j q = omega arith in
    ap (in_set k) half ∙ none-doubled j k q (omega arith)

none_below : (k x : ℕ) → k < 32 → x % 4294967296 ≡ 0 → in_set k x ≡ false
none_below k x h e =
    let q : ℕ = x / 4294967296 in
    let whole : x ≡ doubled 32 q = omega arith in
    ap (in_set k) whole ∙ none-doubled 32 k q h

-- so no kind is asked for
pub none-met : (d : Bytes) (x k m : ℕ) (v : Bytes) → k + m ≤ 32 → x % 4294967296 ≡ 0 → rows_met d x k m v ≡ true
none-met d x k zero v h e = refl
none-met d x k (suc m) v h e =
    (λ i. (not (none_below k x (omega arith) e i) || row_met d k v) && rows_met d x (suc k) m v) ∙ none-met d x (suc k) m v (omega arith) e
