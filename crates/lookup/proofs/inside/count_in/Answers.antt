-- `lookup::inside::count_in` meets its contract: what the search for the set tells is what question 21 asks.
use mathlib.Core.Path.{sym}
use Rattle.records.proofs.SetOf.{set_told}
use Rattle.lookup.proofs.Looking.{count-missing, count-found}
use Rattle.lookup.proofs.inside.count_in.Goals as goal

pub returns-in_default : goal.returns-in_default
returns-in_default c =
    sym (count-missing c.args.s.now c.args.set.now (set_told c.args.s.now c.args.set.now c.find_set.result c.requires c.find_set.ensures c.in_default.is))

pub returns : goal.returns
returns c =
    sym (count-found c.args.s.now c.args.set.now c.in-Some.p (set_told c.args.s.now c.args.set.now c.find_set.result c.requires c.find_set.ensures c.in-Some.is))
