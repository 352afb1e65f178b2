-- A turn of a loop that moves a run of a list within the list: down with the first element first, or up with the last one first.
use Prim.Native.Nat.{ℕ, ◌+◌, ◌-◌, ◌≤◌, ◌<◌}
use native.Mathlib.Nat.{add-zero, add-suc, add-sub_of_le}
use native.Mathlib.Numerals.{add-one}
use native.Mathlib.Omega.{arith}
use mathlib.Core.Path.{◌≡◌, sym, ◌∙◌}
use mathlib.Core.List.{◌++◌, append_assoc}
use lib.ListN.{length, take, drop, get_or, set, length-take, length-drop, take-append-drop, drop_of_length-le, get_or-append}
use lib.Seq.{paste, paste-suc, drop-paste, get_or-drop, get_or-take, take-suc, drop-cons, set_at, length-take-le}
use Rattle.format.specs.Bytes.{Bytes}

-- behind what was pasted the list is as it was
paste-keeps : (d : Bytes) (at : ℕ) (s : Bytes) (n k : ℕ) → at ≤ length d → n ≤ length s → at + n ≤ k → get_or (paste d at s n) k 0 ≡ get_or d k 0
paste-keeps d at s n k a b h =
    rw (← add-sub_of_le h, ← get_or-drop {A = ℕ} (at + n) _ (k - (at + n)) 0, drop-paste d at s n a b, get_or-drop)

pub moved_down : (b : Bytes) (from to n i : ℕ) → to ≤ from → from + n ≤ length b → i < n
    → set (paste b to (drop from b) i) (to + i) (get_or (paste b to (drop from b) i) (from + i) 0) ≡ paste b to (drop from b) (i + 1)
moved_down b from to n i low room more =
    let s : Bytes = drop from b in
    let l : i < length s = simp length-drop (omega arith) in
    let e : get_or (paste b to s i) (from + i) 0 ≡ get_or s i 0 =
    paste-keeps b to s i (from + i) (omega arith) (omega arith) (omega arith) ∙ sym (get_or-drop from b i 0) in
    rw (e, add-one i) (paste-suc b to s i 0 (omega arith) l)

-- b with the run s from `to` on, but for the run's first i elements
abbrev pub hung : Bytes → ℕ → Bytes → ℕ → Bytes
hung b to s i = take (to + i) b ++ (drop i s ++ drop (to + length s) b)

pub hung-none : (b : Bytes) (to : ℕ) (s : Bytes) → b ≡ hung b to s (length s)
hung-none b to s = rw (drop_of_length-le s {i = length s} (omega arith)) (sym (take-append-drop (to + length s) b))

pub hung-all : (b : Bytes) (to : ℕ) (s : Bytes) (n : ℕ) → length s ≡ n → hung b to s 0 ≡ take to b ++ s ++ drop (to + n) b
hung-all b to s n e = rw (e, add-zero to) (sym (append_assoc (take to b) s (drop (to + n) b)))

hung-more : (b : Bytes) (to : ℕ) (s : Bytes) (i : ℕ) → to + length s ≤ length b → i < length s → set (hung b to s (i + 1)) (to + i) (get_or s i 0) ≡ hung b to s i
hung-more b to s i room more =
    rw (add-one i, add-suc to i, take-suc b (to + i) 0 (omega arith), append_assoc (take (to + i) b))
    (set_at (take (to + i) b) _ _ _ (to + i) (length-take-le (to + i) b (omega arith)) ∙ sym (rw (drop-cons s i 0 more)))

pub moved_up : (b : Bytes) (from to n i : ℕ) → from ≤ to → to + n ≤ length b → i < n
    → set (hung b to (take n (drop from b)) (i + 1)) (to + i) (get_or (hung b to (take n (drop from b)) (i + 1)) (from + i) 0) ≡ hung b to (take n (drop from b)) i
moved_up b from to n i low room more =
    let s : Bytes = take n (drop from b) in
    let l : length s ≡ n = simp (length-take, length-drop) (omega arith) in
    let k : length (take (to + (i + 1)) b) ≡ to + (i + 1) = length-take-le (to + (i + 1)) b (omega arith) in
    let e : get_or (hung b to s (i + 1)) (from + i) 0 ≡ get_or s i 0 =
    get_or-append (take (to + (i + 1)) b) _ 0 (from + i) (omega arith)
    ∙ get_or-take (to + (i + 1)) b (from + i) 0 (omega arith)
    ∙ sym (get_or-take n (drop from b) i 0 more ∙ get_or-drop from b i 0) in
    rw e (hung-more b to s i (omega arith) (omega arith))
