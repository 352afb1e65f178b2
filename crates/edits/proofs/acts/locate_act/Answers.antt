-- `edits::acts::locate_act` meets its contract: the record and the field stand where the searches find them, and what is not found is refused by questions 22 and 23.
use Prim.Native.Nat.{◌+◌}
use native.Mathlib.Omega.{arith}
use mathlib.Core.Path.{sym, ◌∙◌, subst}
use borrow.Author.Tests.{not-true, not-false}
use Rattle.records.proofs.Readings.{part-readable}
use Rattle.format.specs.Edits.{Edit}
use Rattle.requests.specs.Fields.{bytes_of}
use Rattle.requests.specs.declared.kinds.Act.{Act as ReadAct}
use Rattle.requests.specs.Pairs.{pair_of}
use Rattle.requests.specs.Kinds.{act_of, change_of, InAct}
use Rattle.format.specs.declared.refusals.Refusal.{Refusal}
use Rattle.edits.specs.declared.Located.{Located}
use Rattle.edits.specs.declared.Splice.{Splice}
use Rattle.edits.specs.Places.{LocatesIn}
use Rattle.edits.proofs.Acting.{act-as, record-placed, record-missing, record-inside, record-readable, delete-located, add-illegal, add-located, field-missing, field-inside, change-located}
use mathlib.Core.Bool.{not}
use mathlib.Core.Path.{ap}
use Rattle.edits.proofs.acts.locate_act.Goals as goal

pub find_record-requires : goal.find_record-requires
find_record-requires c =
    (part-readable c.args.s.now c.args.head.begin c.requires.s_value.2)

pub returns-in_default : goal.returns-in_default
returns-in_default c =
    let a = c.args in
    let p = c.requires.s_value in
    let g = record-placed a.s.now a.head.begin a.row c.find_record.result c.find_record.ensures c.in_default.is in
    record-missing a.s.now a.head a.row p.0 p.1 p.2 a.req.now (act_of a.req.now a.act) g

pub overflow_add-first : goal.overflow_add-first
overflow_add-first c =
    let a = c.args in
    let p = c.requires.s_value in
    let g = record-placed a.s.now a.head.begin a.row c.find_record.result c.find_record.ensures c.in-Some.is in
    let i = record-inside a.s.now a.head a.row p.0 p.1 p.2 c.in-Some.p g in
    omega (arith, c.well_formed.1.0.0, i.0, i.1)

pub overflow_add-last : goal.overflow_add-last
overflow_add-last c =
    let a = c.args in
    let p = c.requires.s_value in
    let g = record-placed a.s.now a.head.begin a.row c.find_record.result c.find_record.ensures c.in-Some.is in
    let i = record-inside a.s.now a.head a.row p.0 p.1 p.2 c.in-Some.p g in
    omega (arith, c.well_formed.1.0.0, i.0, i.1)

pub returns-in-Delete : goal.returns-in-Delete
returns-in-Delete c =
    let a = c.args in
    let p = c.requires.s_value in
    let g = record-placed a.s.now a.head.begin a.row c.find_record.result c.find_record.ensures c.in-Some.is in
    act-as a.s.now a.req.now a.head a.row (Located.At (Splice.Unfield (a.head.begin + c.in-Some.p.start) (a.head.begin + c.in-Some.p.end))) c.in-Delete.is (delete-located a.s.now a.head a.row p.0 p.1 p.2 c.in-Some.p g a.req.now)

pub is_legal_pair-requires : goal.is_legal_pair-requires
is_legal_pair-requires c =
    (subst (InAct c.args.req.now) c.in-Add.is c.requires.req_len_bound.1)

pub returns-then-not-is_legal_pair : goal.returns-then-not-is_legal_pair
returns-then-not-is_legal_pair c =
    let a = c.args in
    let p = c.requires.s_value in
    let g = record-placed a.s.now a.head.begin a.row c.find_record.result c.find_record.ensures c.in-Some.is in
    act-as a.s.now a.req.now a.head a.row (Located.Refused Refusal.Illegal) c.in-Add.is (add-illegal a.s.now a.head a.row p.0 p.1 p.2 c.in-Some.p g a.req.now (pair_of a.req.now c.in-Add.name c.in-Add.value) (sym c.is_legal_pair.ensures ∙ not-true c.is_legal_pair.result (ap not c.if-not-is_legal_pair.true)))

pub returns-else-not-is_legal_pair : goal.returns-else-not-is_legal_pair
returns-else-not-is_legal_pair c =
    let a = c.args in
    let p = c.requires.s_value in
    let g = record-placed a.s.now a.head.begin a.row c.find_record.result c.find_record.ensures c.in-Some.is in
    let i = subst (InAct a.req.now) c.in-Add.is c.requires.req_len_bound.1 in
    act-as a.s.now a.req.now a.head a.row (Located.At (Splice.Field (a.head.begin + c.in-Some.p.end) 0 c.in-Add.name c.in-Add.value)) c.in-Add.is (add-located a.s.now a.head a.row p.0 p.1 p.2 c.in-Some.p g a.req.now c.in-Add.name c.in-Add.value c.requires.req_len_bound.0 i.0 i.1 (sym c.is_legal_pair.ensures ∙ not-false c.is_legal_pair.result (ap not c.if-not-is_legal_pair.false)))

pub slice_bounds-own-count : goal.slice_bounds-own-count
slice_bounds-own-count c =
    let a = c.args in
    let p = c.requires.s_value in
    let g = record-placed a.s.now a.head.begin a.row c.find_record.result c.find_record.ensures c.in-Some.is in
    let i = record-inside a.s.now a.head a.row p.0 p.1 p.2 c.in-Some.p g in
    omega (arith, i.0)

pub slice_bounds-own-start : goal.slice_bounds-own-start
slice_bounds-own-start c =
    let a = c.args in
    let p = c.requires.s_value in
    let g = record-placed a.s.now a.head.begin a.row c.find_record.result c.find_record.ensures c.in-Some.is in
    let i = record-inside a.s.now a.head a.row p.0 p.1 p.2 c.in-Some.p g in
    omega (arith, i.0)

pub slice_bounds-own-end : goal.slice_bounds-own-end
slice_bounds-own-end c =
    let a = c.args in
    let p = c.requires.s_value in
    let g = record-placed a.s.now a.head.begin a.row c.find_record.result c.find_record.ensures c.in-Some.is in
    let i = record-inside a.s.now a.head a.row p.0 p.1 p.2 c.in-Some.p g in
    omega (arith, i.1)

pub slice_bounds-find_field-count : goal.slice_bounds-find_field-count
slice_bounds-find_field-count c =
    omega (arith, (subst (InAct c.args.req.now) c.in-Change.is c.requires.req_len_bound.1).0.0)

pub slice_bounds-find_field-start : goal.slice_bounds-find_field-start
slice_bounds-find_field-start c =
    omega (arith, (subst (InAct c.args.req.now) c.in-Change.is c.requires.req_len_bound.1).0.0)

pub slice_bounds-find_field-end : goal.slice_bounds-find_field-end
slice_bounds-find_field-end c =
    omega (arith, (subst (InAct c.args.req.now) c.in-Change.is c.requires.req_len_bound.1).0.1)

pub find_field-requires : goal.find_field-requires
find_field-requires c =
    let a = c.args in
    let p = c.requires.s_value in
    let g = record-placed a.s.now a.head.begin a.row c.find_record.result c.find_record.ensures c.in-Some.is in
    (record-readable a.s.now a.head a.row p.0 p.1 p.2 c.in-Some.p g)

pub returns-in_default-find_field : goal.returns-in_default-find_field
returns-in_default-find_field c =
    let a = c.args in
    let p = c.requires.s_value in
    let g = record-placed a.s.now a.head.begin a.row c.find_record.result c.find_record.ensures c.in-Some.is in
    act-as a.s.now a.req.now a.head a.row (Located.Refused Refusal.Field) c.in-Change.is (field-missing a.s.now a.head a.row p.0 p.1 p.2 c.in-Some.p g a.req.now (bytes_of a.req.now c.in-Change.name) c.in-Change.occurrence (change_of a.req.now c.in-Change.change) (sym c.find_field.ensures ∙ c.in_default-find_field.is))

pub overflow_add-field : goal.overflow_add-field
overflow_add-field c =
    let a = c.args in
    let p = c.requires.s_value in
    let g = record-placed a.s.now a.head.begin a.row c.find_record.result c.find_record.ensures c.in-Some.is in
    let i = field-inside a.s.now a.head a.row p.0 p.1 p.2 c.in-Some.p g (bytes_of a.req.now c.in-Change.name) c.in-Change.occurrence c.in-Some-find_field.v.start c.in-Some-find_field.v.value c.in-Some-find_field.v.end (sym c.find_field.ensures ∙ c.in-Some-find_field.is) in
    omega (arith, c.well_formed.1.0.0, i.0, i.1)

pub overflow_add-field-in-Change : goal.overflow_add-field-in-Change
overflow_add-field-in-Change c =
    let a = c.args in
    let p = c.requires.s_value in
    let g = record-placed a.s.now a.head.begin a.row c.find_record.result c.find_record.ensures c.in-Some.is in
    let i = field-inside a.s.now a.head a.row p.0 p.1 p.2 c.in-Some.p g (bytes_of a.req.now c.in-Change.name) c.in-Change.occurrence c.in-Some-find_field.v.start c.in-Some-find_field.v.value c.in-Some-find_field.v.end (sym c.find_field.ensures ∙ c.in-Some-find_field.is) in
    omega (arith, c.well_formed.1.0.0, i.0, i.1)

pub locate_change-requires : goal.locate_change-requires
locate_change-requires c =
    let a = c.args in
    let p = c.requires.s_value in
    let g = record-placed a.s.now a.head.begin a.row c.find_record.result c.find_record.ensures c.in-Some.is in
    let i = field-inside a.s.now a.head a.row p.0 p.1 p.2 c.in-Some.p g (bytes_of a.req.now c.in-Change.name) c.in-Change.occurrence c.in-Some-find_field.v.start c.in-Some-find_field.v.value c.in-Some-find_field.v.end (sym c.find_field.ensures ∙ c.in-Some-find_field.is) in
    let j = subst (InAct a.req.now) c.in-Change.is c.requires.req_len_bound.1 in
    record { own_value = (record-readable a.s.now a.head a.row p.0 p.1 p.2 c.in-Some.p g, omega (arith, i.0)); in_span = j }

pub returns-in-Some-find_field : goal.returns-in-Some-find_field
returns-in-Some-find_field c =
    let a = c.args in
    let p = c.requires.s_value in
    let g = record-placed a.s.now a.head.begin a.row c.find_record.result c.find_record.ensures c.in-Some.is in
    let j = subst (InAct a.req.now) c.in-Change.is c.requires.req_len_bound.1 in
    act-as a.s.now a.req.now a.head a.row c.locate_change.result c.in-Change.is (subst (LocatesIn a.s.now a.req.now a.head (Edit.on a.row (act_of a.req.now (ReadAct.Change c.in-Change.name c.in-Change.occurrence c.in-Change.change)))) (sym c.locate_change.ensures) (change-located a.s.now a.head a.row p.0 p.1 p.2 c.in-Some.p g a.req.now c.in-Change.name c.in-Change.occurrence c.in-Some-find_field.v.start c.in-Some-find_field.v.value c.in-Some-find_field.v.end j.0 (sym c.find_field.ensures ∙ c.in-Some-find_field.is) c.in-Change.change c.requires.req_len_bound.0 j.1))
