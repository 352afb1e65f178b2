-- `selection::walks::closed` meets its contract.
use mathlib.Core.Path.{sym, ◌∙◌}
use mathlib.Core.List.{map}
use lib.ListN.{take}
use lib.Seq.{length-take-le}
use Rattle.selection.specs.Programs.{code_no, run_answer}
use Rattle.selection.proofs.Closing.{closed_none, closed-found, closed-passed}
use Rattle.selection.proofs.walks.closed.Goals as goal

pub returns-then-fields-eq0 : goal.returns-then-fields-eq0
returns-then-fields-eq0 c =
    closed_none c.args.fields c.args.t.met c.args.t.found (run_answer (map code_no (take c.args.size c.args.codes.now)) c.args.set) c.args.list.now c.if-fields-eq0.true

pub slice_bounds-run-end : goal.slice_bounds-run-end
slice_bounds-run-end c =
    sym (length-take-le c.args.size c.args.codes.now c.requires.0)

pub returns-then-run : goal.returns-then-run
returns-then-run c =
    closed-found c.args.fields c.args.t.met c.args.t.found (run_answer (map code_no (take c.args.size c.args.codes.now)) c.args.set) c.args.list.now c.if-fields-eq0.false _ (sym c.run.ensures ∙ c.if-run.true) c.put.ensures

pub returns : goal.returns
returns c =
    closed-passed c.args.fields c.args.t.met c.args.t.found (run_answer (map code_no (take c.args.size c.args.codes.now)) c.args.set) c.args.list.now c.if-fields-eq0.false (sym c.run.ensures ∙ c.if-run.false)
