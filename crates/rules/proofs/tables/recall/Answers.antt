-- `rules::tables::recall` meets its contract: what was seen before, if it is of the same name, else what is found.
use mathlib.Core.Path.{sym, ◌∙◌, subst}
use Rattle.format.specs.Bytes.{Bytes}
use Rattle.format.proofs.Listing.{same_true}
use Rattle.words.specs.Spans.{span}
use Rattle.records.specs.Walk.{record_in}
use Rattle.rules.specs.Tables.{Stands}
use Rattle.rules.proofs.tables.recall.Goals as goal

pub returns-then-same_bytes : goal.returns-then-same_bytes
returns-then-same_bytes c =
    let old = c.args.n.before in
    subst (λ (w : Bytes). Stands (record_in c.args.d.now) c.args.t.names.from c.args.t.names.next w old.seen) (same_true (span old.at old.end c.args.s.now) (span c.args.n.at c.args.n.end c.args.s.now) (sym c.same_bytes.ensures ∙ c.if-same_bytes.true)) c.requires.seen_at.stands
