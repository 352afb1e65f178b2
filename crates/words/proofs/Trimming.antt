-- Trimming at the end, byte by byte: a gap at the end goes, any other byte stays and all before it with it.
use Prim.Native.Nat.{ℕ, ◌-◌, ◌≤◌}
use native.Mathlib.Omega.{arith}
use mathlib.Core.Path.{◌≡◌, sym, ap, ◌∙◌}
use mathlib.Core.List.{reverse, reverse-append, reverse-reverse, ◌++◌}
use lib.ListN.{length, take, drop, length-drop, length-reverse, take-append-drop}
use Rattle.std.proofs.lemmas.List.{take_at}
use Rattle.format.specs.Lists.{behind}
use Rattle.format.specs.Bytes.{Bytes}
use Rattle.format.specs.Words.{is_gap, trim}
use Rattle.lines.specs.Line.{run}
use Rattle.words.specs.Spans.{span}
use Rattle.words.proofs.Finding.{behind-run, run-le}

-- a text without the gaps at its end
abbrev pub strip : Bytes → Bytes
strip s = reverse (behind is_gap (reverse s))

-- what stays of a text without its last bytes
stays : (s : Bytes) (n : ℕ) → reverse (drop n (reverse s)) ≡ take (length s - n) s
stays s n =
    let r : Bytes = reverse s in
    let whole : reverse (drop n r) ++ reverse (take n r) ≡ s = sym (reverse-append (take n r) (drop n r)) ∙ ap reverse (take-append-drop n r) ∙ reverse-reverse s in
    let long : length (reverse (drop n r)) ≡ length s - n = length-reverse (drop n r) ∙ length-drop n r ∙ ap (λ (k : ℕ). k - n) (length-reverse s) in
    sym (ap (take (length s - n)) (sym whole) ∙ take_at (reverse (drop n r)) (reverse (take n r)) (length s - n) long)

-- the gaps before and behind are counted
pub trimmed_to : (s : Bytes) (a n : ℕ) → a ≡ run is_gap s → n ≡ run is_gap (reverse (drop a s)) → (a ≤ length s - n) × (length s - n ≤ length s) × (span a (length s - n) s ≡ trim s)
trimmed_to s a n ha hn =
    let r : Bytes = drop a s in
    let le : n ≤ length s - a = omega (arith, hn, run-le is_gap (reverse r), length-reverse r, length-drop a s) in
    let in_text : a ≤ length s = omega (arith, ha, run-le is_gap s) in
    let same : length s - n - a ≡ length r - n = omega (arith, length-drop a s) in
    let cut : span a (length s - n) s ≡ take (length r - n) r = ap (λ (k : ℕ). take k r) same in
    (omega arith, omega arith, cut ∙ sym (stays r n) ∙ ap (λ (k : ℕ). reverse (drop k (reverse r))) hn ∙ ap reverse (sym (behind-run is_gap (reverse r))) ∙ ap strip (ap (λ (k : ℕ). drop k s) ha ∙ sym (behind-run is_gap s)))
