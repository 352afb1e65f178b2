-- `merging::inserts::put` meets its contract.
use native.Mathlib.Omega.{arith}
use mathlib.Core.Path.{sym}
use mathlib.Core.Bool.{true, false}
use lib.Seq.{length-take-le}
use borrow.Author.Tests.{not-true, not-false}
use Rattle.merging.proofs.Rooms.{put-numberless, put-long, put_full, put-done, text-length, made-fits, own-short, own-inside}
use mathlib.Core.Bool.{not}
use mathlib.Core.Path.{ap}
use Rattle.merging.proofs.inserts.put.Goals as goal

pub returns-in-Numberless : goal.returns-in-Numberless
returns-in-Numberless c =
    put-numberless c.args.text.now c.args.used c.args.room c.args.at c.args.len c.args.request.now c.args.added.now c.args.a c.in-Numberless.is

pub returns-then-has_room : goal.returns-then-has_room
returns-then-has_room c =
    put-long c.args.text.now c.args.used c.args.room c.args.at c.args.len c.args.request.now c.args.added.now c.args.a c.in-Long.own c.has_room.result c.has_room.ensures c.in-Long.is true c.if-has_room.true

pub returns-else-has_room : goal.returns-else-has_room
returns-else-has_room c =
    put-long c.args.text.now c.args.used c.args.room c.args.at c.args.len c.args.request.now c.args.added.now c.args.a c.in-Long.own c.has_room.result c.has_room.ensures c.in-Long.is false c.if-has_room.false

pub returns-then-not-has_room : goal.returns-then-not-has_room
returns-then-not-has_room c =
    put_full c.args.text.now c.args.used c.args.room c.args.at c.args.len c.args.request.now c.args.added.now c.args.a c.in-Text.own c.has_room-in-Text.result c.has_room-in-Text.ensures c.in-Text.is (not-true c.has_room-in-Text.result (ap not c.if-not-has_room.true))

pub overflow_add-new : goal.overflow_add-new
overflow_add-new c =
    omega (arith, own-short c.args.text.now c.args.used c.args.room c.args.at c.args.len c.args.request.now c.args.added.now c.args.a c.in-Text.own c.has_room-in-Text.result c.has_room-in-Text.ensures (own-inside c.args.added.now c.args.a c.in-Text.own c.requires.request_value.2 c.in-Text.is) c.requires.request_value.1 (not-false c.has_room-in-Text.result (ap not c.if-not-has_room.false)))

pub slice_bounds-put_record-end : goal.slice_bounds-put_record-end
slice_bounds-put_record-end c =
    sym (length-take-le c.in-Text.own c.args.added.now (own-inside c.args.added.now c.args.a c.in-Text.own c.requires.request_value.2 c.in-Text.is))

pub put_record-n-requires : goal.put_record-n-requires
put_record-n-requires c =
    record { at_le_used = (c.requires.at_le_used.0, omega (arith, c.requires.at_le_used.1, c.requires.at_le_used.2), omega (arith, c.requires.at_le_used.2, made-fits c.args.text.now c.args.used c.args.room c.args.at c.args.len c.args.request.now c.args.added.now c.args.a c.in-Text.own c.has_room-in-Text.result c.has_room-in-Text.ensures (own-inside c.args.added.now c.args.a c.in-Text.own c.requires.request_value.2 c.in-Text.is) c.requires.request_value.1 (not-false c.has_room-in-Text.result (ap not c.if-not-has_room.false)) c.requires.at_le_used.0 (omega (arith, c.requires.at_le_used.1, c.requires.at_le_used.2)))); from_value = c.requires.request_value.0; len_value = text-length c.args.text.now c.args.used c.args.room c.args.at c.args.len c.args.request.now c.args.added.now c.args.a c.in-Text.own c.has_room-in-Text.result c.has_room-in-Text.ensures (own-inside c.args.added.now c.args.a c.in-Text.own c.requires.request_value.2 c.in-Text.is) c.requires.request_value.1 }

pub returns-else-not-has_room : goal.returns-else-not-has_room
returns-else-not-has_room c =
    put-done c.args.text.now c.args.used c.args.room c.args.at c.args.len c.args.request.now c.args.added.now c.args.a c.in-Text.own c.has_room-in-Text.result c.has_room-in-Text.ensures c.in-Text.is (not-false c.has_room-in-Text.result (ap not c.if-not-has_room.false)) c.put_record-n.result c.put_record-n.new.buf c.put_record-n.ensures.0 c.put_record-n.ensures.1
