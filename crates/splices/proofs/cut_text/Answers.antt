-- `splices::cut_text` meets its contract: a room of no bytes takes the place of the old ones.
use native.Mathlib.Omega.{arith}
use mathlib.Core.Path.{sym, ◌∙◌}
use mathlib.Core.List.{[]}
use Rattle.format.specs.Bytes.{Bytes}
use Rattle.splices.proofs.Opening.{spliced-length, placed-cut}
use Rattle.splices.proofs.cut_text.Goals as goal

pub returns : goal.returns
returns c =
    let a = c.args in
    let b : Bytes = a.buf.now in
    (sym (spliced-length b a.used a.at a.old [] (omega arith) (omega arith) ∙ omega arith), placed-cut b a.used a.at a.old c.open_space.new.buf (omega arith) (omega arith) c.open_space.ensures)
