-- `typedefs::names_well` meets its contract.
use native.Mathlib.Omega.{arith}
use mathlib.Core.Path.{sym, ap, ◌∙◌}
use Rattle.format.specs.Bytes.{Bytes, all}
use Rattle.format.specs.Lines.{is_name}
use Rattle.format.specs.Words.{split}
use Rattle.words.proofs.Finding.{found}
use Rattle.typedefs.proofs.Good.{first_found, first-none}
use Rattle.typedefs.proofs.names_well.Goals as goal

pub returns-in_default : goal.returns-in_default
returns-in_default c =
    sym (ap (λ (w : Bytes). all is_name (split 44 w)) (first-none c.args.s.now c.next_word.result c.next_word.ensures c.in_default.is))

pub slice_bounds-parts_named-count : goal.slice_bounds-parts_named-count
slice_bounds-parts_named-count c =
    let f = found c.args.s.now c.next_word.ensures c.in-Some.is in
    omega arith

pub slice_bounds-parts_named-start : goal.slice_bounds-parts_named-start
slice_bounds-parts_named-start c =
    let f = found c.args.s.now c.next_word.ensures c.in-Some.is in
    omega arith

pub slice_bounds-parts_named-end : goal.slice_bounds-parts_named-end
slice_bounds-parts_named-end c =
    let f = found c.args.s.now c.next_word.ensures c.in-Some.is in
    omega arith

pub parts_named-requires : goal.parts_named-requires
parts_named-requires c =
    c.requires

pub returns : goal.returns
returns c =
    c.parts_named.ensures ∙ sym (ap (λ (w : Bytes). all is_name (split 44 w)) (first_found c.args.s.now c.next_word.result c.in-Some.field-0.start c.in-Some.field-0.end c.next_word.ensures c.in-Some.is))
