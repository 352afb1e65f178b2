-- `rules::judge_set` meets its contract: the records' number, else the set's.
use Rattle.format.specs.Refusals.{no_of}
use borrow.Author.Rules.{rules}
use native.Mathlib.Omega.{arith}
use mathlib.Core.Path.{ap, ◌∙◌}
use lib.ListN.{length}
use Rattle.format.specs.Pieces.{read_of}
use Rattle.format.proofs.Records.{records}
use Rattle.records.specs.Walk.{record_in}
use Rattle.rules.proofs.Leasts.{errs, handed}
use Rattle.rules.proofs.Granted.{described-by, values-fit}
use Rattle.rules.proofs.Keys.{have-keys}
use Rattle.rules.proofs.Whole.{set-stops, set-whole}
use Rattle.rules.proofs.judge_set.Goals as goal

pub judge_members-a-requires : goal.judge_members-a-requires
judge_members-a-requires c =
    record { described = described-by c.args.d.now c.requires.rules.0 c.requires.rules.1; part_value = (c.requires.part_value.0, c.requires.part_value.1, values-fit (length c.args.scratch.now) c.requires.value_bytes_in_bounds.0 c.args.part.now c.requires.part_value.2); value_bytes_in_bounds = c.requires.value_bytes_in_bounds }

pub returns-in_err-a : goal.returns-in_err-a
returns-in_err-a c =
    let a = c.judge_members-a.result.answer in
    let q = c.in_err-a.field-0.0 in
    handed a q c.in_err-a.was c.from_residual.result c.from_residual.ensures.1
    ∙ set-stops (record_in c.args.d.now) (records (read_of c.args.part.now)) (no_of a) c.judge_members-a.ensures.number_is (errs a q c.in_err-a.was)

pub judge_whole-requires : goal.judge_whole-requires
judge_whole-requires c =
    record { rules = (c.requires.rules.0, c.requires.rules.1, c.judge_members-a.ensures.count-is); part_value = (c.requires.part_value.0, c.requires.part_value.1, have-keys (record_in c.args.d.now) (records (read_of c.args.part.now)) (no_of c.judge_members-a.result.answer) c.judge_members-a.ensures.number_is (ap no_of c.in_ok-a.was)); value_bytes_in_bounds = (omega (arith, c.judge_members-a.auto.scratch, c.requires.value_bytes_in_bounds.0), omega (arith, c.judge_members-a.auto.entries, c.requires.value_bytes_in_bounds.1)) }

pub returns : goal.returns
returns c =
    set-whole (record_in c.args.d.now) (records (read_of c.args.part.now)) (no_of c.judge_members-a.result.answer) c.judge_members-a.ensures.number_is (ap no_of c.in_ok-a.was) (no_of c.judge_whole.result) c.judge_whole.ensures
