-- `editor::result_no` meets its contract: the copy begins with the text, so what is made of it is what is made of the text.
use native.Mathlib.Omega.{arith}
use mathlib.Core.Path.{ap, ◌∙◌}
use lib.ListN.{length}
use Rattle.format.proofs.Judging.{text_no}
use Rattle.editor.proofs.Making.{copied-sound, copied-made, copied-judged}
use Rattle.editor.proofs.result_no.Goals as goal

pub carry_out-n-requires : goal.carry_out-n-requires
carry_out-n-requires c =
    record { used_in_bounds = (omega arith, copied-sound c.args.s.now _ c.put_bytes.new.out c.args.req.now c.args.added.now c.args.x c.put_bytes.ensures c.requires.sound); x_in_bounds = omega (arith, ap length (copied-made c.args.s.now _ c.put_bytes.new.out c.args.req.now c.args.added.now c.args.x c.put_bytes.ensures), c.requires.file_bytes_in_bounds, c.requires.s_len_bound.1) }

pub judge_spent-requires : goal.judge_spent-requires
judge_spent-requires c =
    let n = c.carry_out-n.ensures.0 ∙ ap length (copied-made c.args.s.now _ c.put_bytes.new.out c.args.req.now c.args.added.now c.args.x c.put_bytes.ensures) in ((omega (arith, n, c.requires.file_bytes_in_bounds, c.requires.s_len_bound.1), omega (arith, n, c.requires.s_len_bound.1)))

pub returns : goal.returns
returns c =
    c.judge_spent.ensures ∙ ap text_no (copied-judged c.args.s.now _ c.put_bytes.new.out c.args.req.now c.args.added.now c.args.x c.put_bytes.ensures c.carry_out-n.result c.carry_out-n.new.buf c.carry_out-n.ensures.0 c.carry_out-n.ensures.1)
