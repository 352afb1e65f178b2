use mathlib.Core.Path.{sym}
use lib.Seq.{length-take-le}
use Rattle.lookup.proofs.Names.{name-inside}
use Rattle.listing.proofs.list_sets.Goals as goal

pub slice_bounds-list_set-end : goal.slice_bounds-list_set-end
slice_bounds-list_set-end c =
    name-inside c.args.s.now c.loop-k.k c.loop-k.name c.name_in.result _ c.name_in.ensures c.in-Ok.is

pub slice_bounds-list_set-end-in-loop-k : goal.slice_bounds-list_set-end-in-loop-k
slice_bounds-list_set-end-in-loop-k c =
    sym (length-take-le c.in-Ok.n _ (name-inside c.args.s.now c.loop-k.k c.loop-k.name c.name_in.result _ c.name_in.ensures c.in-Ok.is))
