-- A file of which the check says 0: what those ask for who look inside.
use Prim.Native.Nat.{ℕ, ◌≤◌}
use native.Mathlib.Omega.{arith}
use mathlib.Core.Path.{◌≡◌, sym, ap, ◌∙◌}
use mathlib.Core.Bool.{true, and-eq-true_iff}
use lib.ListN.{length, take}
use lib.Seq.{length-take-le}
use Rattle.format.specs.Bytes.{Bytes, is_some}
use Rattle.format.specs.Lines.{is_ended}
use Rattle.format.specs.Pieces.{pieces, read_of}
use Rattle.format.specs.Sets.{sets_of}
use Rattle.format.specs.Limits.{file_bytes}
use Rattle.format.specs.Questions.{verdict}
use Rattle.format.specs.Calls.{check_answer}
use Rattle.format.proofs.Passing.{SetsPass, verdict-read, verdict-passes}
use Rattle.records.specs.Places.{is_readable}

pub record Checked (buffer : Bytes) (used : ℕ) : Type 0 where
  pub fits : used ≤ length buffer
  pub long : length (take used buffer) ≡ used
  pub short : length (take used buffer) ≤ file_bytes
  pub readable : is_readable (take used buffer) ≡ true
  pub passes : SetsPass (sets_of (read_of (take used buffer)))

pub checked : (buffer : Bytes) (used : ℕ) → verdict buffer used ≡ 0 → Checked buffer used
unfolding is_readable
checked buffer used v =
    let s : Bytes = take used buffer in
    let p = verdict-passes buffer used (read_of s) v (verdict-read buffer used v) in
    let l : length (take used buffer) ≡ used = length-take-le used buffer p.fits in
    record {
      fits = p.fits;
      long = l;
      short = omega (arith, l, p.small);
      readable = (and-eq-true_iff (is_ended s) (is_some (pieces s))).1 (p.ended, ap is_some p.reads);
      passes = p.sets;
    }

-- the same by the check's answer
pub answer-checked : (buffer : Bytes) (used k : ℕ) → k ≡ check_answer buffer used → k ≡ 0 → Checked buffer used
unfolding check_answer
answer-checked buffer used k e z = checked buffer used (sym e ∙ z)
