-- `joints::keep_line` meets its contract: a line that is a backslash alone stays out.
use Prim.Native.Nat.{◌+◌, ◌-◌}
use mathlib.Core.Path.{sym, ◌∙◌}
use lib.ListN.{drop}
use lib.Seq.{paste}
use Rattle.format.proofs.Dense.{is_joint}
use Rattle.words.specs.Spans.{span}
use Rattle.joints.proofs.Joints.{joint-stays, line-moves}
use Rattle.joints.proofs.keep_line.Goals as goal

pub returns-then-same_bytes : goal.returns-then-same_bytes
returns-then-same_bytes c =
    let k = joint-stays (is_joint (span c.args.from (c.args.end - 1) c.args.text.now)) c.args.to (c.args.to + (c.args.end - c.args.from)) c.args.text.now (paste c.args.text.now c.args.to (drop c.args.from c.args.text.now) (c.args.end - c.args.from)) (sym c.same_bytes.ensures ∙ c.if-same_bytes.true) in
    record { value = k.0; text_after = k.1 }

pub returns : goal.returns
returns c =
    let k = line-moves (is_joint (span c.args.from (c.args.end - 1) c.args.text.now)) c.args.to (c.args.to + (c.args.end - c.args.from)) c.args.text.now (paste c.args.text.now c.args.to (drop c.args.from c.args.text.now) (c.args.end - c.args.from)) (sym c.same_bytes.ensures ∙ c.if-same_bytes.false) in record { value = k.0; text_after = c.move_down.ensures ∙ k.1 }
