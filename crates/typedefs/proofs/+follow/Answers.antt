-- `typedefs::follow` meets its contract: a chain stops, goes past the table or goes on, as the definition says.
use Rattle.std.proofs.Common.{sym, ◌∙◌}
use Rattle.typedefs.proofs.Chains.{chain-stops, chain-past, chain-goes}
use Rattle.typedefs.proofs.+follow.Goals as goal

pub returns-then-left-eq0 : goal.returns-then-left-eq0
returns-then-left-eq0 t c = sym (chain-stops c.args.targets c.requires c.args.i c.args.left c.if-left-eq0.true)

pub returns-then-targets-i : goal.returns-then-targets-i
returns-then-targets-i t c =
    sym (chain-past c.args.targets c.requires c.args.i c.args.left c.if-left-eq0.false c.if-targets-i.true)

pub returns-in-Kind : goal.returns-in-Kind
returns-in-Kind t c =
    sym (chain-goes c.args.targets c.requires c.args.i c.args.left c.if-left-eq0.false c.if-targets-i.false _ _ c.in-Kind.is)

pub returns-in-Alias : goal.returns-in-Alias
returns-in-Alias t c =
    c.follow.ensures
    ∙ sym (chain-goes c.args.targets c.requires c.args.i c.args.left c.if-left-eq0.false c.if-targets-i.false _ _ c.in-Alias.is)

pub returns-in-Missing : goal.returns-in-Missing
returns-in-Missing t c =
    sym (chain-goes c.args.targets c.requires c.args.i c.args.left c.if-left-eq0.false c.if-targets-i.false _ _ c.in-Missing.is)
