-- `rules::judge_whole` meets its contract: the keys' number, else the size's, else that of the singular names.
use native.Mathlib.Omega.{arith}
use mathlib.Core.Path.{◌∙◌}
use borrow.Author.Tests.{not-true, not-false}
use Rattle.format.specs.Pieces.{read_of}
use Rattle.format.proofs.Records.{records}
use Rattle.records.specs.Walk.{record_in}
use Rattle.rules.proofs.Granted.{described-by}
use Rattle.rules.proofs.Keys.{singular-part}
use Rattle.rules.proofs.Whole.{keys-stop, size-stop, singular-stop, whole-passes}
use borrow.Author.Rules.{rules}
use mathlib.Core.Bool.{not}
use mathlib.Core.Path.{ap}
use Rattle.rules.proofs.judge_whole.Goals as goal

pub keys_apart-requires : goal.keys_apart-requires
keys_apart-requires c =
    record { rules = (c.requires.rules.0, c.requires.rules.1); part_value = c.requires.part_value; value_bytes_in_bounds = c.requires.value_bytes_in_bounds }

pub returns-then-not-keys_apart : goal.returns-then-not-keys_apart
returns-then-not-keys_apart c =
    keys-stop (record_in c.args.d.now) (records (read_of c.args.part.now)) c.keys_apart.result c.keys_apart.ensures (not-true c.keys_apart.result (ap not c.if-not-keys_apart.true))

pub size_met-requires : goal.size_met-requires
size_met-requires c =
    record { d_value = c.requires.rules.0.reads; d_value_2 = c.requires.rules.0.fits; value_bytes_in_bounds = omega (arith, c.keys_apart.auto.scratch, c.requires.value_bytes_in_bounds.0) }

pub returns-then-not-size_met : goal.returns-then-not-size_met
returns-then-not-size_met c =
    size-stop (record_in c.args.d.now) (records (read_of c.args.part.now)) c.keys_apart.result c.keys_apart.ensures (not-false c.keys_apart.result (ap not c.if-not-keys_apart.false)) c.args.count c.requires.rules.2 c.size_met.result c.size_met.ensures.0 (not-true c.size_met.result (ap not c.if-not-size_met.true))

pub values_apart-requires : goal.values_apart-requires
values_apart-requires c =
    record { described = described-by c.args.d.now c.requires.rules.0 c.requires.rules.1; s_value = (c.requires.part_value.0, c.requires.part_value.1); entries_room_in_bounds = omega (arith, c.keys_apart.auto.entries, c.requires.value_bytes_in_bounds.1) }

pub returns-then-not-values_apart : goal.returns-then-not-values_apart
returns-then-not-values_apart c =
    singular-stop (record_in c.args.d.now) (records (read_of c.args.part.now)) c.keys_apart.result c.keys_apart.ensures (not-false c.keys_apart.result (ap not c.if-not-keys_apart.false)) c.args.count c.requires.rules.2 c.size_met.result c.size_met.ensures.0 (not-false c.size_met.result (ap not c.if-not-size_met.false)) c.values_apart.result (c.values_apart.ensures ∙ singular-part (record_in c.args.d.now) c.args.part.now) (not-true c.values_apart.result (ap not c.if-not-values_apart.true))

pub returns : goal.returns
returns c =
    whole-passes (record_in c.args.d.now) (records (read_of c.args.part.now)) c.keys_apart.result c.keys_apart.ensures (not-false c.keys_apart.result (ap not c.if-not-keys_apart.false)) c.args.count c.requires.rules.2 c.size_met.result c.size_met.ensures.0 (not-false c.size_met.result (ap not c.if-not-size_met.false)) c.values_apart.result (c.values_apart.ensures ∙ singular-part (record_in c.args.d.now) c.args.part.now) (not-false c.values_apart.result (ap not c.if-not-values_apart.false))
