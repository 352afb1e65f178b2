-- `requests::pairs::put_pair` meets its contract: the field writer gets the part that begins at the place.
use Prim.Native.Nat.{◌+◌, ◌-◌}
use native.Mathlib.Omega.{arith}
use mathlib.Core.Path.{refl, ap}
use lib.ListN.{length, length-take, length-drop}
use Rattle.format.specs.Written.{written}
use Rattle.requests.specs.Fields.{bytes_of}
use Rattle.writing.proofs.Texts.{part-sets}
use Rattle.requests.proofs.pairs.put_pair.Goals as goal

pub put_field-n-requires : goal.put_field-n-requires
put_field-n-requires c = simp (length-take, length-drop) (omega arith)

pub returns : goal.returns
returns c =
    (ap (λ n. c.args.at + n) c.put_field-n.ensures.0, rw c.put_field-n.ensures.1 (part-sets c.args.out.now (written (bytes_of c.args.req.now c.args.name) (bytes_of c.args.req.now c.args.value)) c.args.at (length c.args.out.now - c.args.at) c.requires.value_in_bounds refl))
