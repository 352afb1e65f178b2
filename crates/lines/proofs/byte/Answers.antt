-- `lines::byte` meets its contract: past the end the list's default stands.
use mathlib.Core.Path.{sym}
use lib.ListN.{get_or-eq_default}
use Rattle.lines.proofs.byte.Goals as goal

pub returns-else-i-s : goal.returns-else-i-s
returns-else-i-s c =
    let s = c.args.s.now in
    sym (get_or-eq_default s 0 c.if-i-s.false)
