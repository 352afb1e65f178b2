-- `records::find_set` meets its contract: the set behind the head that is found.
use Rattle.std.specs.Prelude.{Some}
use mathlib.Core.Path.{sym, ap, ◌∙◌}
use Rattle.records.specs.Sets.{set_found, set_place}
use Rattle.records.proofs.Members.{head-told}
use Rattle.records.proofs.find_set.Goals as goal

pub set_behind-requires : goal.set_behind-requires
set_behind-requires c =
    let t = head-told c.args.s.now c.args.name.now c.find_head.result c.requires c.find_head.ensures c.in_ok-head.was in (t.set.inside, t.set.readable)

pub returns : goal.returns
unfolding set_place
returns c =
    ap Some c.set_behind.ensures ∙ ap (set_found c.args.s.now) (sym c.in_ok-head.was ∙ c.find_head.ensures)

pub returns-in_err-head : goal.returns-in_err-head
unfolding set_place
returns-in_err-head c =
    c.from_residual.ensures ∙ ap (set_found c.args.s.now) (sym c.in_err-head.was ∙ c.find_head.ensures)
