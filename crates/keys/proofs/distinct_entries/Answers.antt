-- `keys::distinct_entries` meets its contract: the sort only moves entries, and what answers afterwards is right in any order.
use mathlib.Core.Path.{sym, subst, ◌∙◌}
use Rattle.format.specs.Rules.{distinct}
use Rattle.std.specs.declared.cmp.Ordering.{Ordering}
use Rattle.keys.specs.Marks.{mark_at, marks_of}
use Rattle.keys.specs.Order.{Tells}
use Rattle.keys.proofs.Moves.{moved-distinct, moved_inside}
use Rattle.keys.proofs.distinct_entries.Goals as goal

pub neighbours-requires : goal.neighbours-requires
neighbours-requires c =
    moved_inside c.args.s.now c.sort.ensures c.requires

pub distinct_pairs-requires : goal.distinct_pairs-requires
distinct_pairs-requires c =
    moved_inside c.args.s.now c.sort.ensures c.requires

pub returns-in-Equal : goal.returns-in-Equal
returns-in-Equal c =
    let d = distinct (marks_of c.args.s.now c.sort.new.entries) in
    sym (subst (λ (r : Ordering). Tells r d) c.in-Equal.is c.neighbours.ensures) ∙ moved-distinct (mark_at c.args.s.now) c.sort.ensures

pub returns-in-Less : goal.returns-in-Less
returns-in-Less c =
    let d = distinct (marks_of c.args.s.now c.sort.new.entries) in
    sym (subst (λ (r : Ordering). Tells r d) c.in-Less.is c.neighbours.ensures) ∙ moved-distinct (mark_at c.args.s.now) c.sort.ensures

pub returns-in-Greater : goal.returns-in-Greater
returns-in-Greater c =
    c.distinct_pairs.ensures ∙ moved-distinct (mark_at c.args.s.now) c.sort.ensures
