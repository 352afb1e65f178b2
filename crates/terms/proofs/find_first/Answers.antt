-- `terms::find_first` meets its contract: the first entry that is not before the word has it, or none has.
use native.Mathlib.Omega.{arith}
use mathlib.Core.Path.{sym, ◌∙◌}
use Rattle.terms.proofs.Search.{left-low, left-none, left-stop}
use Rattle.terms.proofs.Joining.{found_first}
use Rattle.terms.proofs.Order.{equal-only, greater-left}
use Rattle.terms.proofs.find_first.Goals as goal

pub first_of-i-requires : goal.first_of-i-requires
first_of-i-requires c =
    record { entries = c.requires.entries; print_value = c.requires.print_value }

pub returns-then-i-entries : goal.returns-then-i-entries
returns-then-i-entries c =
    let e = c.if-i-entries.true in
    left-none c.args.s.now c.args.entries.now c.args.w.now 0 c.first_of-i.result (omega arith) (left-low c.args.s.now c.args.entries.now c.args.w.now c.first_of-i.result c.first_of-i.ensures.0 c.first_of-i.ensures.1)

pub bounds-entries-i : goal.bounds-entries-i
bounds-entries-i c =
    let h = c.first_of-i.ensures.0 in
    let e = c.if-i-entries.false in
    omega arith

pub compare-requires : goal.compare-requires
compare-requires c =
    let h = c.first_of-i.ensures.0 in
    let e = c.if-i-entries.false in
    (c.requires.entries c.first_of-i.result (omega arith), c.requires.print_value.0)

pub bounds-sets-i : goal.bounds-sets-i
bounds-sets-i c =
    let h = c.first_of-i.ensures.0 in
    let e = c.if-i-entries.false in
    let r = c.requires.entries_in_bounds.0 in
    omega arith

pub returns-then-is_eq : goal.returns-then-is_eq
returns-then-is_eq c =
    let h = c.first_of-i.ensures.0 in
    let e = c.if-i-entries.false in
    found_first c.args.s.now c.args.entries.now c.args.w.now c.args.sets.now c.first_of-i.result (omega arith) c.requires.entries_in_bounds.1 c.first_of-i.ensures.1 (sym c.compare.ensures ∙ equal-only c.compare.result (sym c.is_eq.ensures ∙ c.if-is_eq.true))

pub returns-else-is_eq : goal.returns-else-is_eq
returns-else-is_eq c =
    let h = c.first_of-i.ensures.0 in
    let e = c.if-i-entries.false in
    let n = c.first_of-i.ensures.2 (omega arith) in
    left-stop c.args.s.now c.args.entries.now c.args.w.now c.requires.print_value.1 0 c.first_of-i.result (left-low c.args.s.now c.args.entries.now c.args.w.now c.first_of-i.result c.first_of-i.ensures.0 c.first_of-i.ensures.1) (sym c.compare.ensures ∙ greater-left c.compare.result (sym c.is_eq.ensures ∙ c.if-is_eq.false) (λ q. n (sym c.compare.ensures ∙ q)))
