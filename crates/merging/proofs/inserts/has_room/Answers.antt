-- `merging::inserts::has_room` meets its contract: a record that is longer than a file has no room.
use native.Mathlib.Omega.{arith}
use Prim.Native.Nat.{◌+◌}
use mathlib.Core.Path.{refl}
use Rattle.merging.proofs.Rooms.{room-over, room-alone, room-behind}
use Rattle.merging.proofs.inserts.has_room.Goals as goal

pub returns-then-own-gt-BYTES : goal.returns-then-own-gt-BYTES
returns-then-own-gt-BYTES c =
    room-over c.args.room c.args.used (c.args.own + c.args.len) (omega (arith, c.if-own-gt-BYTES.true))

pub returns-then-len-gt-BYTES : goal.returns-then-len-gt-BYTES
returns-then-len-gt-BYTES c =
    room-over c.args.room c.args.used (c.args.own + c.args.len) (omega (arith, c.if-len-gt-BYTES.true))

pub returns-then-used-eq0 : goal.returns-then-used-eq0
returns-then-used-eq0 c =
    room-alone c.args.room c.args.used (c.args.own + c.args.len) (c.args.own + c.args.len) c.new-f.result.used c.fits.result c.fits.ensures c.new-f.ensures (omega (arith, c.if-used-eq0.true)) refl

pub returns : goal.returns
returns c =
    room-behind c.args.room c.args.used (c.args.own + c.args.len) (c.args.used + (c.args.own + c.args.len) + 1) c.new-f-2.result.used c.fits-2.result c.fits-2.ensures c.new-f-2.ensures (λ z. omega (arith, c.if-used-eq0.false)) refl
