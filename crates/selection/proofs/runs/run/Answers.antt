use Prim.Native.Nat.{◌+◌}
use mathlib.Core.Path.{refl, sym, ap, ◌∙◌}
use mathlib.Core.List.{List, map}
use lib.ListN.{drop, drop_of_length-le}
use Rattle.selection.specs.declared.runs.Code.{Code}
use Rattle.selection.specs.declared.runs.Machine.{Machine}
use Rattle.selection.specs.Programs.{code_no, whole_answer, runs, run_answer}
use Rattle.selection.proofs.Running.{code-next}
use Rattle.selection.proofs.runs.run.Goals as goal

pub loop-c-init : goal.loop-c-init
loop-c-init c = refl

pub loop-c-preserved : goal.loop-c-preserved
loop-c-preserved c =
    c.loop-c.invariant ∙ code-next c.args.codes.now c.loop-c.c-index c.loop-c.m c.loop-c-test.true ∙ ap (runs (map code_no (drop (c.loop-c.c-index + 1) c.args.codes.now))) (sym c.on_code-m.ensures)

pub returns : goal.returns
unfolding run_answer
returns c =
    c.whole_answer.ensures ∙ ap (λ (m : Machine). whole_answer m.level) (sym (c.loop-c.invariant ∙ ap (λ (cs : List Code). runs (map code_no cs) c.loop-c.m) (drop_of_length-le c.args.codes.now c.loop-c-test.false)))
