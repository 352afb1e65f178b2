-- `typedefs::target_ends` meets its contract.
use mathlib.Core.Path.{sym, ap}
use Rattle.typedefs.specs.Targets.{targets_in, leads}
use Rattle.typedefs.proofs.Ending.{leads-alias, leads-not}
use Rattle.typedefs.proofs.target_ends.Goals as goal

pub returns-in-Kind : goal.returns-in-Kind
returns-in-Kind c =
    sym (ap (leads (targets_in c.args.targets)) c.in-Kind.is)

pub returns-in-End : goal.returns-in-End
returns-in-End c =
    leads-alias c.args.targets c.requires c.args.t c.in-Alias.j c.follow.result _ c.in-Alias.is c.follow.ensures c.in-End.is

pub returns-in_default : goal.returns-in_default
returns-in_default c =
    leads-not c.args.targets c.requires c.args.t c.in-Alias.j c.follow.result c.in-Alias.is c.follow.ensures c.in_default.not-End

pub returns-in-Missing : goal.returns-in-Missing
returns-in-Missing c =
    sym (ap (leads (targets_in c.args.targets)) c.in-Missing.is)
