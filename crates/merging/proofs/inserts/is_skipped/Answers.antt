-- `merging::inserts::is_skipped` meets its contract: a set without a `%key` has no key.
use native.Mathlib.Omega.{arith}
use mathlib.Core.Path.{sym, ap, ◌∙◌}
use mathlib.Core.Bool.{Bool, ◌&&◌}
use mathlib.Core.List.{map}
use Rattle.format.specs.Bytes.{any}
use Rattle.format.specs.Pieces.{read_of}
use Rattle.format.proofs.Records.{records}
use Rattle.words.specs.Spans.{span}
use Rattle.records.specs.Walk.{record_in}
use Rattle.merging.specs.Merging.{pair_of, is_twin}
use Rattle.merging.proofs.Placing.{set-stands, set-described, key-found}
use Rattle.merging.proofs.inserts.is_skipped.Goals as goal

pub slice_bounds-next_named-count : goal.slice_bounds-next_named-count
slice_bounds-next_named-count c =
    let f = set-stands c.args.s.now c.requires.0 c.requires.1.1.0 c.requires.1.0 c.requires.1.1.1.0 c.args.p c.requires.1.1.1.1 in omega (arith, f.ordered, f.within, f.begins, f.inside)

pub slice_bounds-next_named-start : goal.slice_bounds-next_named-start
slice_bounds-next_named-start c =
    let f = set-stands c.args.s.now c.requires.0 c.requires.1.1.0 c.requires.1.0 c.requires.1.1.1.0 c.args.p c.requires.1.1.1.1 in omega (arith, f.ordered, f.within, f.begins, f.inside)

pub slice_bounds-next_named-end : goal.slice_bounds-next_named-end
slice_bounds-next_named-end c =
    let f = set-stands c.args.s.now c.requires.0 c.requires.1.1.0 c.requires.1.0 c.requires.1.1.1.0 c.args.p c.requires.1.1.1.1 in omega (arith, f.ordered, f.within, f.begins, f.inside)

pub next_named-requires : goal.next_named-requires
next_named-requires c =
    let f = set-stands c.args.s.now c.requires.0 c.requires.1.1.0 c.requires.1.0 c.requires.1.1.1.0 c.args.p c.requires.1.1.1.1 in f.rules-readable

pub returns-in_default : goal.returns-in_default
returns-in_default c =
    sym (ap (λ (b : Bool). b && any (is_twin (map pair_of (record_in c.args.own.now))) (records (read_of (span c.args.p.begin c.args.p.after c.args.s.now)))) (key-found (span c.args.p.start c.args.p.end c.args.s.now) (set-described c.args.s.now c.requires.0 c.requires.1.1.0 c.requires.1.0 c.requires.1.1.1.0 c.args.p c.requires.1.1.1.1) c.next_named.result c.next_named.ensures c.in_default.is))

pub slice_bounds-is_among-count : goal.slice_bounds-is_among-count
slice_bounds-is_among-count c =
    let f = set-stands c.args.s.now c.requires.0 c.requires.1.1.0 c.requires.1.0 c.requires.1.1.1.0 c.args.p c.requires.1.1.1.1 in omega (arith, f.begins, f.inside)

pub slice_bounds-is_among-start : goal.slice_bounds-is_among-start
slice_bounds-is_among-start c =
    let f = set-stands c.args.s.now c.requires.0 c.requires.1.1.0 c.requires.1.0 c.requires.1.1.1.0 c.args.p c.requires.1.1.1.1 in omega (arith, f.begins, f.inside)

pub slice_bounds-is_among-end : goal.slice_bounds-is_among-end
slice_bounds-is_among-end c =
    let f = set-stands c.args.s.now c.requires.0 c.requires.1.1.0 c.requires.1.0 c.requires.1.1.1.0 c.args.p c.requires.1.1.1.1 in omega (arith, f.begins, f.inside)

pub is_among-requires : goal.is_among-requires
is_among-requires c =
    let f = set-stands c.args.s.now c.requires.0 c.requires.1.1.0 c.requires.1.0 c.requires.1.1.1.0 c.args.p c.requires.1.1.1.1 in (c.requires.2, f.members-readable)

pub returns : goal.returns
returns c =
    c.is_among.ensures ∙ sym (ap (λ (b : Bool). b && any (is_twin (map pair_of (record_in c.args.own.now))) (records (read_of (span c.args.p.begin c.args.p.after c.args.s.now)))) (key-found (span c.args.p.start c.args.p.end c.args.s.now) (set-described c.args.s.now c.requires.0 c.requires.1.1.0 c.requires.1.0 c.requires.1.1.1.0 c.args.p c.requires.1.1.1.1) c.next_named.result c.next_named.ensures c.in-Some.is))
