-- `selection::runs::on_code` meets its contract.
use mathlib.Core.Path.{refl, ap}
use Rattle.selection.specs.Programs.{code_no}
use Rattle.selection.proofs.Running.{on-test, on-other, on-join, on-close}
use Rattle.selection.proofs.runs.on_code.Goals as goal

pub returns-in-Test : goal.returns-in-Test
returns-in-Test c =
    on-test c.args.m (code_no c.args.c) c.answered_by.result (ap code_no c.in-Test.is) c.answered_by.ensures

pub returns-in-Not : goal.returns-in-Not
returns-in-Not c =
    on-other c.args.m (code_no c.args.c) 1 _ (ap code_no c.in-Not.is) refl

pub returns-in-Or : goal.returns-in-Or
returns-in-Or c =
    on-join c.args.m (code_no c.args.c) c.joined.result (ap code_no c.in-Or.is) c.joined.ensures

pub returns-in-Open : goal.returns-in-Open
returns-in-Open c =
    on-other c.args.m (code_no c.args.c) 3 _ (ap code_no c.in-Open.is) refl

pub returns-in-Close : goal.returns-in-Close
returns-in-Close c =
    on-close c.args.m (code_no c.args.c) c.answered_by-in-Close.result c.whole_answer.result (ap code_no c.in-Close.is) c.whole_answer.ensures c.answered_by-in-Close.ensures
