-- `requests::encoding::put_tagged` meets its contract: the head, and the contents in the part behind it.
use native.Mathlib.Omega.{arith}
use mathlib.Core.Path.{refl}
use lib.ListN.{length-take, length-drop, length-set}
use Rattle.format.specs.Requests.{tag, tagged_bytes}
use Rattle.writing.proofs.Texts.{length_over}
use Rattle.requests.proofs.Building.{tagged-over}
use Rattle.requests.proofs.encoding.put_tagged.Goals as goal

pub bounds-out-1 : goal.bounds-out-1
bounds-out-1 c = simp length-set (omega arith)

pub bounds-out-2 : goal.bounds-out-2
bounds-out-2 c = simp length-set (omega arith)

pub slice_bounds-put_bytes-count : goal.slice_bounds-put_bytes-count
slice_bounds-put_bytes-count c = simp length-set (omega arith)

pub slice_bounds-put_bytes-start : goal.slice_bounds-put_bytes-start
slice_bounds-put_bytes-start c = simp length-set (omega arith)

pub put_bytes-requires : goal.put_bytes-requires
put_bytes-requires c = simp (length-take, length-drop, length-set) (omega arith)

pub shape_of-out : goal.shape_of-out
shape_of-out c =
    length_over _ c.args.out.now (tagged_bytes (tag c.args.tag c.args.contents.now)) (omega arith) (tagged-over c.args.out.now c.args.tag _ c.args.contents.now _ c.requires.1 refl c.put_bytes.ensures)

pub returns : goal.returns
returns c =
    tagged-over c.args.out.now c.args.tag _ c.args.contents.now _ c.requires.1 refl c.put_bytes.ensures
