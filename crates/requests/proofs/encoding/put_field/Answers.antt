-- `requests::encoding::put_field` meets its contract: with room, the part that begins at the place gets the field.
use borrow.Author.Tests.{not-true, not-false}
use native.Mathlib.Omega.{arith}
use mathlib.Core.Path.{sym, ◌∙◌}
use lib.ListN.{length, length-take, length-drop}
use Rattle.format.specs.Requests.{tag}
use Rattle.requests.proofs.Building.{room-is, field-left, field-built}
use mathlib.Core.Bool.{not}
use mathlib.Core.Path.{ap}
use Rattle.requests.proofs.encoding.put_field.Goals as goal

pub returns-then-not-has_room : goal.returns-then-not-has_room
returns-then-not-has_room c =
    sym (field-left c.args.request.now c.args.at (tag c.args.tag c.args.contents.now) (sym c.has_room.ensures ∙ not-true c.has_room.result (ap not c.if-not-has_room.true)))

pub slice_bounds-put_tagged-count : goal.slice_bounds-put_tagged-count
slice_bounds-put_tagged-count c =
    omega (arith, (room-is (length c.args.request.now) c.args.at (length c.args.contents.now) (sym c.has_room.ensures ∙ not-false c.has_room.result (ap not c.if-not-has_room.false))).1)

pub slice_bounds-put_tagged-start : goal.slice_bounds-put_tagged-start
slice_bounds-put_tagged-start c =
    omega (arith, (room-is (length c.args.request.now) c.args.at (length c.args.contents.now) (sym c.has_room.ensures ∙ not-false c.has_room.result (ap not c.if-not-has_room.false))).1)

pub put_tagged-requires : goal.put_tagged-requires
put_tagged-requires c =
    let r = room-is (length c.args.request.now) c.args.at (length c.args.contents.now) (sym c.has_room.ensures ∙ not-false c.has_room.result (ap not c.if-not-has_room.false)) in (r.0, simp (length-take, length-drop) (omega (arith, r.1)))

pub overflow_add-result-2 : goal.overflow_add-result-2
overflow_add-result-2 c =
    omega (arith, (room-is (length c.args.request.now) c.args.at (length c.args.contents.now) (sym c.has_room.ensures ∙ not-false c.has_room.result (ap not c.if-not-has_room.false))).1)

pub overflow_add-result-3 : goal.overflow_add-result-3
overflow_add-result-3 c =
    omega (arith, (room-is (length c.args.request.now) c.args.at (length c.args.contents.now) (sym c.has_room.ensures ∙ not-false c.has_room.result (ap not c.if-not-has_room.false))).1)

pub returns : goal.returns
returns c =
    field-built c.args.request.now c.args.at c.args.tag c.args.contents.now _ (sym c.has_room.ensures ∙ not-false c.has_room.result (ap not c.if-not-has_room.false)) c.put_tagged.ensures
