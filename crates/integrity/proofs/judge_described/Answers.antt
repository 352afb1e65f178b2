-- `integrity::judge_described` meets its contract, question by question.
use borrow.Author.Tests.{not-true, not-false}
use native.Mathlib.Omega.{arith}
use mathlib.Core.Path.{sym, ◌∙◌}
use Rattle.format.specs.Pieces.{read_of}
use Rattle.format.proofs.Records.{records}
use Rattle.integrity.proofs.Staging.{well-no, types-no, sets-no}
use mathlib.Core.Bool.{not}
use mathlib.Core.Path.{ap}
use Rattle.integrity.proofs.judge_described.Goals as goal

pub described_well-requires : goal.described_well-requires
described_well-requires c =
    record { head_parts = ((c.args.afters.now, c.requires.head_rows.0), c.requires.head_rows.1); s_value = c.requires.s_value.0; value_bytes_in_bounds = omega arith }

pub returns-then-not-described_well : goal.returns-then-not-described_well
returns-then-not-described_well c =
    well-no (records (read_of c.args.s.now)) c.requires.s_value.0 c.requires.s_value.1 (sym c.described_well.ensures.0 ∙ not-true c.described_well.result (ap not c.if-not-described_well.true))

pub types_defined-requires : goal.types_defined-requires
types_defined-requires c =
    record { head_parts = ((c.args.afters.now, c.requires.head_rows.0), c.requires.s_len_bound); s_value = (c.requires.s_value.0, sym c.described_well.ensures.0 ∙ not-false c.described_well.result (ap not c.if-not-described_well.false)); value_bytes_in_bounds = omega (arith, c.described_well.ensures.1) }

pub returns-then-not-types_defined : goal.returns-then-not-types_defined
returns-then-not-types_defined c =
    types-no (records (read_of c.args.s.now)) c.requires.s_value.0 c.requires.s_value.1 (sym c.described_well.ensures.0 ∙ not-false c.described_well.result (ap not c.if-not-described_well.false)) (sym c.types_defined.ensures ∙ not-true c.types_defined.result (ap not c.if-not-types_defined.true))

pub judge_sets-requires : goal.judge_sets-requires
judge_sets-requires c =
    record { s_len_bound = c.requires.s_len_bound; granted = record { fit = c.requires.s_value.0; well = (sym c.described_well.ensures.0 ∙ not-false c.described_well.result (ap not c.if-not-described_well.false)); types = sym c.types_defined.ensures ∙ not-false c.types_defined.result (ap not c.if-not-types_defined.false) }; head_rows = c.requires.head_rows.0; value_bytes_in_bounds = omega (arith, c.described_well.ensures.1) }

pub returns : goal.returns
returns c =
    c.judge_sets.ensures ∙ sets-no (records (read_of c.args.s.now)) c.requires.s_value.0 c.requires.s_value.1 (sym c.described_well.ensures.0 ∙ not-false c.described_well.result (ap not c.if-not-described_well.false)) (sym c.types_defined.ensures ∙ not-false c.types_defined.result (ap not c.if-not-types_defined.false))
