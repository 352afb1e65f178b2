-- `splices::inserts::put_record` meets its contract: at 0 the record goes in front, else behind a newline.
use native.Mathlib.Omega.{arith}
use mathlib.Core.Path.{ap}
use mathlib.Core.List.{◌∷◌}
use lib.ListN.{length, take}
use Rattle.format.specs.Bytes.{Bytes}
use Rattle.splices.specs.Space.{record_text}
use Rattle.splices.proofs.Opening.{spliced-length}
use Rattle.splices.proofs.Inserted.{behind-text}
use Rattle.splices.proofs.inserts.put_record.Goals as goal

pub put_front-requires : goal.put_front-requires
put_front-requires c =
    let a = c.args in
    let e = c.if-r-eq0.true in
    record { used_in_bounds = (omega arith, rw e at c.requires.at_le_used.2); from_value = c.requires.from_value; len_value = c.requires.len_value }

pub returns-then-r-eq0 : goal.returns-then-r-eq0
returns-then-r-eq0 c =
    let a = c.args in
    rw c.if-r-eq0.true c.put_front.ensures

pub put_behind-requires : goal.put_behind-requires
put_behind-requires c =
    let a = c.args in
    let b : Bytes = a.buf.now in
    let w : Bytes = record_text a.first.now a.req.now a.r.from in
    let t = behind-text w (take a.used b) a.r.at (omega (arith, c.if-r-eq0.false)) in
    let l = spliced-length b a.used a.r.at 0 (10 ∷ w) (omega arith) (omega arith) in
    record { at_le_used = omega (arith, c.requires.at_le_used.2, c.requires.len_value, ap length t, l); from_value = c.requires.from_value; len_value = c.requires.len_value }

pub returns : goal.returns
returns c =
    let a = c.args in
    let b : Bytes = a.buf.now in
    let w : Bytes = record_text a.first.now a.req.now a.r.from in
    rw (behind-text w (take a.used b) a.r.at (omega (arith, c.if-r-eq0.false))) c.put_behind.ensures
