-- A part that can be walked can be walked without its bare joints, and has the same names and values.
use mathlib.Core.Path.{◌≡◌, ap, ◌∙◌}
use mathlib.Core.Bool.{true, and-eq-true_iff}
use Rattle.format.specs.Bytes.{Bytes, is_some}
use Rattle.format.specs.Lines.{is_ended}
use Rattle.format.specs.Pieces.{pieces, some_of, read_of}
use Rattle.format.specs.Records.{Record, fields_of}
use Rattle.format.proofs.Uncounted.{bare}
use Rattle.format.proofs.Dense.{dense, Denser, denser, dense-ended, dense-fields}
use Rattle.records.specs.Places.{is_readable}
use Rattle.records.specs.Walk.{record_in}
use Rattle.records.proofs.Readings.{readable-pieces}

module _ (s : Bytes) (r : is_readable s ≡ true) where
  denses : Denser s (read_of s)
  denses = denser s (read_of s) (readable-pieces s r)

  pub dense-readable : is_readable (dense s) ≡ true
  unfolding is_readable
  dense-readable = (and-eq-true_iff (is_ended (dense s)) (is_some (pieces (dense s)))).1 (dense-ended s, ap is_some denses.reads)

  -- what does not ask how many bytes fields take
  pub dense-same : {A : Type 0} (f : Record → A) → ((x : Record) → f (bare x) ≡ f x) → f (record_in (dense s)) ≡ f (record_in s)
  unfolding read_of denses
  dense-same f h = ap (λ x. f (fields_of (some_of x))) denses.reads ∙ dense-fields f h s (read_of s) (readable-pieces s r)
