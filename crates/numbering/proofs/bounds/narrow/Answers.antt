-- `numbering::bounds::narrow` meets its contract: only a range bounds the numbers.
use Prim.Native.Nat.{min, max}
use mathlib.Core.Path.{sym, ap, ◌∙◌}
use lib.ListN.{get_or}
use Rattle.format.specs.Bytes.{pick, among}
use Rattle.format.specs.Rules.{typed_names, auto}
use Rattle.words.specs.RuleNames.{place_in}
use Rattle.records.specs.Walk.{record_in}
use Rattle.typing.specs.declared.Shape.{Shape}
use Rattle.numbering.specs.Types.{span_in}
use Rattle.numbering.specs.Bounds.{numbers, floor_in, limit_in}
use Rattle.numbering.proofs.Narrowing.{unbounded, max-idle, min-idle}
use borrow.Enum.Refused.{opened}
use Rattle.numbering.proofs.bounds.narrow.Goals as goal

pub returns-in_default : goal.returns-in_default
returns-in_default c =
    let u = unbounded c.args.kind (opened c.in_default.in_default-own.keys2) in
    let ws = auto (record_in c.args.d.now) in
    let ns = typed_names c.args.s.now in
    (λ n h. max-idle (among n ns) (floor_in (span_in c.args.kind)) (get_or c.args.floors.now (place_in n ws) 0) u.0, λ n h. min-idle (among n ns) (limit_in (span_in c.args.kind)) (get_or c.args.limits.now (place_in n ws) 0) u.1 (c.requires.list_words_in_bounds.2 n h))

pub returns : goal.returns
returns c =
    let ws = auto (record_in c.args.d.now) in
    let ns = typed_names c.args.s.now in
    (λ n h. c.narrow_names.ensures.0 n h ∙ sym (ap (λ (k : Shape). max (get_or c.args.floors.now (place_in n ws) 0) (pick (among n ns) (floor_in (span_in k)) 0)) c.in-Range.is), λ n h. c.narrow_names.ensures.1 n h ∙ sym (ap (λ (k : Shape). min (get_or c.args.limits.now (place_in n ws) 0) (pick (among n ns) (limit_in (span_in k)) numbers)) c.in-Range.is))
