-- A buffer in use: the file's bytes, zeros up to the largest length so far, and from there on what was there at the start.
use Prim.Native.Nat.{ℕ, zero, suc, ◌+◌, ◌-◌, ◌≤◌, max}
use native.Mathlib.Omega.{arith}
use mathlib.Core.Path.{◌≡◌, sym, ap, ◌∙◌}
use mathlib.Core.List.{◌++◌, append_assoc}
use lib.ListN.{length, take, drop, replicate, take-append-drop, length-append, length-drop, length-replicate, replicate-append-replicate}
use lib.Seq.{length-take-le, drop-append-add, drop-drop}
use Rattle.format.specs.Bytes.{Bytes}
use Rattle.format.specs.Calls.{placed}

abbrev pub padded : Bytes → ℕ → Bytes → Bytes
padded s most start = s ++ (replicate (most - length s) 0 ++ drop most start)

pub padded-length : (s : Bytes) (most : ℕ) (start : Bytes) → length s ≤ most → most ≤ length start → length (padded s most start) ≡ length start
padded-length s most start a b = simp (length-append, length-replicate, length-drop) (omega arith)

pub padded-self : (used : ℕ) (buffer : Bytes) → used ≤ length buffer → padded (take used buffer) used buffer ≡ buffer
padded-self used buffer h =
    let z : used - length (take used buffer) ≡ 0 = omega (arith, length-take-le used buffer h) in
    ap (λ (n : ℕ). take used buffer ++ (replicate n 0 ++ drop used buffer)) z ∙ take-append-drop used buffer

-- zeros and a rest
fill-eq : {a b c d : ℕ} (t : Bytes) → a ≡ b → c ≡ d → replicate a 0 ++ drop c t ≡ replicate b 0 ++ drop d t
fill-eq t p q = λ i. replicate (p i) 0 ++ drop (q i) t

drop-zeros : (d z : ℕ) (t : Bytes) → drop d (replicate z 0 ++ t) ≡ replicate (z - d) 0 ++ drop (d - z) t
drop-zeros zero z t = fill-eq {a = z} {b = z - 0} {c = 0} {d = 0 - z} t (omega arith) (omega arith)
drop-zeros (suc d) zero t = fill-eq {a = 0} {b = 0 - suc d} {c = suc d} {d = suc d - 0} t (omega arith) (omega arith)
drop-zeros (suc d) (suc z) t = drop-zeros d z t ∙ fill-eq {a = z - d} {b = suc z - suc d} {c = d - z} {d = suc d - suc z} t (omega arith) (omega arith)

drop-padded : (s : Bytes) (most : ℕ) (start : Bytes) (m : ℕ) → length s ≤ m → length s ≤ most → drop m (padded s most start) ≡ replicate (most - m) 0 ++ drop (max most m) start
drop-padded s most start m a b =
    let n : ℕ = length s in
    let d : ℕ = m - n in
    let z : ℕ = most - n in
    let e : m ≡ n + d = omega arith in
    ap (λ (x : ℕ). drop x (padded s most start)) e
    ∙ drop-append-add s (replicate z 0 ++ drop most start) d
    ∙ drop-zeros d z (drop most start)
    ∙ ap (λ (x : Bytes). replicate (z - d) 0 ++ x) (drop-drop (d - z) most start)
    ∙ fill-eq {a = z - d} {b = most - m} {c = most + (d - z)} {d = max most m} start (omega arith) (omega arith)

-- other bytes in the place of the file's
pub placed-padded : (s t : Bytes) (most : ℕ) (start : Bytes) → length s ≤ most → placed t (length s) (padded s most start) ≡ padded t (max most (length t)) start
placed-padded s t most start a =
    let n : ℕ = length s in
    let l : ℕ = length t in
    let m : ℕ = max n l in
    let rest : Bytes = drop (max most m) start in
    ap (λ (x : Bytes). t ++ x)
    (ap (λ (x : Bytes). replicate (n - l) 0 ++ x) (drop-padded s most start m (omega arith) a)
    ∙ sym (append_assoc (replicate (n - l) 0) (replicate (most - m) 0) rest)
    ∙ ap (λ (x : Bytes). x ++ rest) (replicate-append-replicate (n - l) (most - m) 0)
    ∙ fill-eq {a = (n - l) + (most - m)} {b = max most l - l} {c = max most m} {d = max most l} start (omega arith) (omega arith))
