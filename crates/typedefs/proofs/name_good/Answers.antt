-- `typedefs::name_good` meets its contract.
use mathlib.Core.Path.{sym, ap, ◌∙◌}
use mathlib.Core.Bool.{Bool, ◌&&◌, not}
use native.Mathlib.Omega.{arith}
use Rattle.format.specs.Bytes.{among}
use Rattle.format.specs.Rules.{reserved, is_typedef_name}
use Rattle.words.specs.Spans.{span}
use Rattle.words.proofs.Finding.{found}
use Rattle.typedefs.proofs.Good.{first_found, first-none}
use Rattle.typedefs.proofs.name_good.Goals as goal

pub returns-in_default : goal.returns-in_default
returns-in_default c =
    sym (ap is_typedef_name (first-none c.args.s.now c.next_word.result c.next_word.ensures c.in_default.is))

pub slice_bounds-is_type_name-count : goal.slice_bounds-is_type_name-count
slice_bounds-is_type_name-count c =
    let f = found c.args.s.now c.next_word.ensures c.in-Some.is in omega arith

pub slice_bounds-is_type_name-start : goal.slice_bounds-is_type_name-start
slice_bounds-is_type_name-start c =
    let f = found c.args.s.now c.next_word.ensures c.in-Some.is in omega arith

pub slice_bounds-is_type_name-end : goal.slice_bounds-is_type_name-end
slice_bounds-is_type_name-end c =
    let f = found c.args.s.now c.next_word.ensures c.in-Some.is in omega arith

pub is_type_name-requires : goal.is_type_name-requires
is_type_name-requires c =
    c.requires

pub returns-else-is_type_name : goal.returns-else-is_type_name
returns-else-is_type_name c =
    let n = span c.in-Some.field-0.start c.in-Some.field-0.end c.args.s.now in
    let e = first_found c.args.s.now c.next_word.result c.in-Some.field-0.start c.in-Some.field-0.end c.next_word.ensures c.in-Some.is in
    c.if-is_type_name.false ∙ sym (ap is_typedef_name e ∙ ap (λ (t : Bool). t && not (among n reserved)) (sym c.is_type_name.ensures ∙ c.if-is_type_name.false))

pub slice_bounds-is_reserved-count : goal.slice_bounds-is_reserved-count
slice_bounds-is_reserved-count c =
    let f = found c.args.s.now c.next_word.ensures c.in-Some.is in omega arith

pub slice_bounds-is_reserved-start : goal.slice_bounds-is_reserved-start
slice_bounds-is_reserved-start c =
    let f = found c.args.s.now c.next_word.ensures c.in-Some.is in omega arith

pub slice_bounds-is_reserved-end : goal.slice_bounds-is_reserved-end
slice_bounds-is_reserved-end c =
    let f = found c.args.s.now c.next_word.ensures c.in-Some.is in omega arith

pub returns-then-is_type_name : goal.returns-then-is_type_name
returns-then-is_type_name c =
    let n = span c.in-Some.field-0.start c.in-Some.field-0.end c.args.s.now in
    let e = first_found c.args.s.now c.next_word.result c.in-Some.field-0.start c.in-Some.field-0.end c.next_word.ensures c.in-Some.is in
    ap not c.is_reserved.ensures ∙ sym (ap is_typedef_name e ∙ ap (λ (t : Bool). t && not (among n reserved)) (sym c.is_type_name.ensures ∙ c.if-is_type_name.true))
