-- `limits::rules_held` meets its contract. The invariant: the limits of all descriptors are held where those from row k on are.
use Prim.Native.Nat.{◌≤◌}
use mathlib.Core.Path.{◌≡◌}
use Rattle.format.specs.Bytes.{all}
use Rattle.format.specs.Pieces.{read_of}
use Rattle.format.specs.Questions.{fits_rules}
use Rattle.format.proofs.Records.{records}
use Rattle.format.proofs.Walking.{heads}
use Rattle.records.specs.Heads.{HeadParts, row_from}
use Rattle.records.proofs.Cuts.{records_from}
use Rattle.limits.proofs.rules_held.Given as goal

abbrev pub invariant-loop-k : goal.invariant-loop-k
invariant-loop-k l = (h : HeadParts l.s l.starts l.ends l.count) × (l.k ≤ l.count) × (all fits_rules (heads (records (read_of l.s))) ≡ all fits_rules (heads (records_from l.s (row_from h.0 l.k))))
