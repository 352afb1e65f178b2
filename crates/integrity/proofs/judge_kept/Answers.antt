-- `integrity::judge_kept` meets its contract: the copy is the text.
use mathlib.Core.Path.{refl, ap, ◌∙◌}
use lib.ListN.{length, take, drop}
use lib.Seq.{take_at}
use Rattle.format.specs.Bytes.{Bytes}
use Rattle.format.proofs.Judging.{text_no}
use Rattle.integrity.proofs.judge_kept.Goals as goal

pub returns-then-may_join : goal.returns-then-may_join
returns-then-may_join c =
    c.judge_dense.ensures ∙ ap (λ (t : Bytes). text_no (take (length c.args.s.now) t)) c.put_bytes.ensures ∙ ap text_no (take_at c.args.s.now (drop (length c.args.s.now) c.args.copy.now) (length c.args.s.now) refl)
