-- `splices::inserts::put_fields` meets its contract: the pairs' text is laid behind that of the first fields.
use Prim.Native.Nat.{◌-◌}
use native.Mathlib.Omega.{arith}
use mathlib.Core.Path.{refl}
use lib.ListN.{length, length-append}
use Rattle.format.specs.Bytes.{Bytes}
use Rattle.format.specs.Written.{written_all}
use Rattle.requests.specs.Pairs.{pairs_at}
use Rattle.splices.proofs.Opening.{over-part}
use Rattle.splices.proofs.Inserted.{over-both}
use Rattle.splices.proofs.inserts.put_fields.Goals as goal

pub put_bytes-requires : goal.put_bytes-requires
put_bytes-requires c =
    let a = c.args in
    omega (arith, c.requires.from_in_bounds, length-append a.first.now (written_all (pairs_at a.req.now a.from)))

pub slice_bounds-put_pairs-count : goal.slice_bounds-put_pairs-count
slice_bounds-put_pairs-count c =
    let a = c.args in
    omega (arith, c.requires.from_in_bounds, length-append a.first.now (written_all (pairs_at a.req.now a.from)))

pub slice_bounds-put_pairs-start : goal.slice_bounds-put_pairs-start
slice_bounds-put_pairs-start c =
    let a = c.args in
    omega (arith, c.requires.from_in_bounds, length-append a.first.now (written_all (pairs_at a.req.now a.from)))

pub put_pairs-requires : goal.put_pairs-requires
put_pairs-requires c =
    let a = c.args in
    record { from_value = c.requires.from_value; from_in_bounds = omega (arith, c.requires.from_in_bounds, length-append a.first.now (written_all (pairs_at a.req.now a.from))) }

pub returns : goal.returns
returns c =
    let a = c.args in
    let v : Bytes = a.first.now in
    let w : Bytes = written_all (pairs_at a.req.now a.from) in
    let b' : Bytes = c.put_bytes.new.out in
    rw (c.put_pairs.ensures.1, over-part b' w (length v) (length b' - length v) (omega (arith, c.requires.from_in_bounds, length-append v w)) refl, c.put_bytes.ensures) (over-both a.out.now v w)
