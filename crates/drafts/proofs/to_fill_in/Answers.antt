-- `drafts::to_fill_in` meets its contract: the request, its kind, its set, and what is to fill by the set's descriptor.
use native.Mathlib.Omega.{arith}
use mathlib.Core.Path.{ap, ◌∙◌, subst}
use Rattle.format.specs.Bytes.{Bytes}
use Rattle.format.specs.Pieces.{read_of}
use Rattle.format.specs.Sets.{sets_of}
use Rattle.format.specs.Calls.{Answer}
use Rattle.records.proofs.Members.{head-told}
use Rattle.requests.specs.Fields.{bytes_of}
use Rattle.requests.specs.Pairs.{pairs_at}
use Rattle.requests.specs.Kinds.{InEdit}
use Rattle.requests.proofs.Filling.{request-bytes}
use Rattle.drafts.proofs.Asking.{draft-fault, draft-other, draft-insert, draft-missing, head-described, head-filled}
use Rattle.drafts.proofs.to_fill_in.Goals as goal

pub returns-in_default : goal.returns-in_default
returns-in_default c =
    draft-fault (sets_of (read_of c.args.s.now)) c.args.req.now c.in_default.ensures.0

pub returns-in_default-edit : goal.returns-in_default-edit
returns-in_default-edit c =
    draft-other (sets_of (read_of c.args.s.now)) c.args.req.now c.in-Some.q c.in-Some.ensures.0 c.in_default-edit.field-0 c.in_default-edit.field-1 c.in_default-edit.is

pub slice_bounds-find_head-count : goal.slice_bounds-find_head-count
slice_bounds-find_head-count c =
    omega (arith, c.in-Some.ensures.1.0)

pub slice_bounds-find_head-start : goal.slice_bounds-find_head-start
slice_bounds-find_head-start c =
    omega (arith, c.in-Some.ensures.1.0)

pub slice_bounds-find_head-end : goal.slice_bounds-find_head-end
slice_bounds-find_head-end c =
    omega (arith, c.in-Some.ensures.1.0)

pub returns-in_default-find_head : goal.returns-in_default-find_head
returns-in_default-find_head c =
    let s : Bytes = c.args.s.now in
    let req : Bytes = c.args.req.now in
    let n : Bytes = bytes_of req c.in-Some.q.set in
    let new = pairs_at req c.in-Insert.from in
    draft-missing (sets_of (read_of s)) (record { set = n; new = new }) (head-told s n c.find_head.result c.requires.s_value.0 c.find_head.ensures c.in_default-find_head.is)
    ∙ draft-insert (sets_of (read_of s)) req c.in-Some.q c.in-Some.ensures.0 c.in-Insert.from c.in-Insert.is

pub slice_bounds-count_by-count : goal.slice_bounds-count_by-count
slice_bounds-count_by-count c =
    let t = head-told c.args.s.now (bytes_of c.args.req.now c.in-Some.q.set) c.find_head.result c.requires.s_value.0 c.find_head.ensures c.in-Some-find_head.is in omega (arith, t.ordered)

pub slice_bounds-count_by-start : goal.slice_bounds-count_by-start
slice_bounds-count_by-start c =
    let t = head-told c.args.s.now (bytes_of c.args.req.now c.in-Some.q.set) c.find_head.result c.requires.s_value.0 c.find_head.ensures c.in-Some-find_head.is in omega (arith, t.ordered)

pub slice_bounds-count_by-end : goal.slice_bounds-count_by-end
slice_bounds-count_by-end c =
    let t = head-told c.args.s.now (bytes_of c.args.req.now c.in-Some.q.set) c.find_head.result c.requires.s_value.0 c.find_head.ensures c.in-Some-find_head.is in omega (arith, t.within, t.set.inside)

pub count_by-requires : goal.count_by-requires
count_by-requires c =
    let s : Bytes = c.args.s.now in
    let req : Bytes = c.args.req.now in
    let n : Bytes = bytes_of req c.in-Some.q.set in
    let t = head-told s n c.find_head.result c.requires.s_value.0 c.find_head.ensures c.in-Some-find_head.is in
    let h = subst (InEdit req) c.in-Insert.is c.in-Some.ensures.1.1 in
    record { described = (head-described s n c.in-Some-find_head.head t c.requires.s_value.1 c.requires.s_value.2, omega (arith, c.requires.file_bytes_in_bounds)); req_len_bound = (request-bytes req c.in-Some.q c.in-Some.ensures.0, omega (arith, h.0), h.1) }

pub returns : goal.returns
returns c =
    let s : Bytes = c.args.s.now in
    let req : Bytes = c.args.req.now in
    let n : Bytes = bytes_of req c.in-Some.q.set in
    let t = head-told s n c.find_head.result c.requires.s_value.0 c.find_head.ensures c.in-Some-find_head.is in
    ap Answer.value c.count_by.ensures
    ∙ head-filled s n c.in-Some-find_head.head t (pairs_at req c.in-Insert.from)
    ∙ draft-insert (sets_of (read_of s)) req c.in-Some.q c.in-Some.ensures.0 c.in-Insert.from c.in-Insert.is
