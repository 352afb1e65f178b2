-- `edits::places::locate` meets its contract: the set is found or refused by question 21, and each edit is located in it.
use native.Mathlib.Omega.{arith}
use mathlib.Core.Path.{sym, ◌∙◌, subst}
use Rattle.records.proofs.Members.{head-told}
use Rattle.requests.specs.Fields.{bytes_of}
use Rattle.requests.specs.Kinds.{InEdit}
use Rattle.edits.specs.Places.{asked_by}
use Rattle.edits.proofs.Acting.{set-missing, edit-as}
use Rattle.edits.proofs.places.locate.Goals as goal

pub returns-in_default : goal.returns-in_default
returns-in_default c =
    let a = c.args in
    set-missing a.s.now a.req.now (asked_by a.req.now a.q) c.requires.s_value.0 (sym c.find_head.ensures ∙ c.in_default.is) a.added.now

pub locate_insert-requires : goal.locate_insert-requires
locate_insert-requires c =
    let a = c.args in
    let s = a.s.now in
    let req = a.req.now in
    let set = bytes_of req a.q.set in
    let i = subst (InEdit req) c.in-Insert.is c.requires.inside.1 in
    record { s_value = (c.requires.s_value.0, c.requires.s_value.1, c.requires.s_value.2, (set, sym c.find_head.ensures ∙ c.in-Some.is)); req_len_bound = (c.requires.s_value.3, i); file_bytes_in_bounds = (omega (arith, c.requires.file_bytes_in_bounds.0), omega (arith, c.requires.file_bytes_in_bounds.1)) }

pub returns-in-Insert : goal.returns-in-Insert
returns-in-Insert c =
    let a = c.args in
    let req = a.req.now in
    let set = bytes_of req a.q.set in
    edit-as a.s.now req c.locate_insert.new.added set c.locate_insert.result c.in-Insert.is (c.locate_insert.ensures set (sym c.find_head.ensures ∙ c.in-Some.is))

pub locate_act-requires : goal.locate_act-requires
locate_act-requires c =
    let a = c.args in
    let s = a.s.now in
    let req = a.req.now in
    let set = bytes_of req a.q.set in
    let m = head-told s set c.find_head.result c.requires.s_value.0 c.find_head.ensures c.in-Some.is in
    let i = subst (InEdit req) c.in-On.is c.requires.inside.1 in
    record { s_value = (c.requires.s_value.0, m.set.inside, m.set.readable); req_len_bound = (c.requires.s_value.3, i) }

pub returns-in-On : goal.returns-in-On
returns-in-On c =
    let a = c.args in
    let req = a.req.now in
    let set = bytes_of req a.q.set in
    edit-as a.s.now req a.added.now set c.locate_act.result c.in-On.is (c.locate_act.ensures a.added.now set (sym c.find_head.ensures ∙ c.in-Some.is))
