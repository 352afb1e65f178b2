-- `requests::kinds::change_at` meets its contract: the place of a field, and its change.
use Rattle.requests.proofs.Kinding.{change-reads}
use Rattle.requests.proofs.kinds.change_at.Goals as goal

pub returns : goal.returns
returns c =
    change-reads c.args.req.now c.args.i c.args.means c.in_ok-place.place.row c.in_ok-place.place.name c.in_ok-place.place.occurrence c.in_ok-place.place.next c.in_ok-place.ensures c.in_ok-changed.changed.change c.in_ok-changed.changed.end c.in_ok-changed.ensures c.ending.result c.ending.ensures
