-- `joints::put_dense` meets its contract: the text is copied, and the copy made dense where it stands.
use native.Mathlib.Omega.{arith}
use mathlib.Core.Path.{◌≡◌, sym, ap, ◌∙◌, subst}
use mathlib.Core.Bool.{true}
use lib.ListN.{length, take, drop}
use lib.Seq.{take-append_seam}
use Rattle.format.specs.Bytes.{Bytes}
use Rattle.format.specs.Lines.{is_ended}
use Rattle.format.proofs.Dense.{dense}
use Rattle.joints.proofs.put_dense.Goals as goal

pub make_dense-requires : goal.make_dense-requires
make_dense-requires c =
    let s : Bytes = c.args.s.now in
    let t : take (length s) c.put_bytes.new.out ≡ s = ap (take (length s)) c.put_bytes.ensures ∙ take-append_seam s (drop (length s) c.args.out.now) in
    (omega (arith, c.requires.0), subst (λ (x : Bytes). is_ended x ≡ true) (sym t) c.requires.1)

pub returns : goal.returns
returns c =
    let s : Bytes = c.args.s.now in
    let t : take (length s) c.put_bytes.new.out ≡ s = ap (take (length s)) c.put_bytes.ensures ∙ take-append_seam s (drop (length s) c.args.out.now) in
    (c.make_dense.ensures.0, c.make_dense.ensures.1 ∙ ap (λ (x : Bytes). length (dense x)) t, c.make_dense.ensures.2 ∙ ap dense t)
