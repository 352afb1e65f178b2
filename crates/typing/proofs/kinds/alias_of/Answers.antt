-- `typing::kinds::alias_of` meets its contract.
use mathlib.Core.Path.{sym, ap, ◌∙◌}
use lib.ListN.{length}
use Rattle.words.specs.Spans.{span}
use Rattle.words.proofs.Finding.{found, not_found}
use Rattle.format.specs.Types.{alias_of}
use Rattle.typing.proofs.TypeHeads.{told-fault}
use Rattle.typing.proofs.kinds.alias_of.Goals as goal

pub returns-in_default : goal.returns-in_default
returns-in_default c =
    let k = found (span c.args.end (length c.args.s.now) c.args.s.now) c.next_word.ensures c.in_default.is in
    told-fault c.args.s.now (ap (alias_of (span c.args.start c.args.end c.args.s.now)) k.2)

pub returns-then-is_type_name : goal.returns-then-is_type_name
returns-then-is_type_name c =
    let n = not_found (span c.args.end (length c.args.s.now) c.args.s.now) c.next_word.ensures c.in-None.is in
    record { answers = sym (ap (alias_of (span c.args.start c.args.end c.args.s.now)) n ∙ rw (← c.is_type_name.ensures, c.if-is_type_name.true)); sound = c.requires }

pub returns-else-is_type_name : goal.returns-else-is_type_name
returns-else-is_type_name c =
    let n = not_found (span c.args.end (length c.args.s.now) c.args.s.now) c.next_word.ensures c.in-None.is in
    told-fault c.args.s.now (ap (alias_of (span c.args.start c.args.end c.args.s.now)) n ∙ rw (← c.is_type_name.ensures, c.if-is_type_name.false))
