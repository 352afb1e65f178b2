-- `requests::write_record` meets its contract: the request, its pairs asked in order, and then their text.
use native.Mathlib.Omega.{arith}
use mathlib.Core.Path.{sym, subst, ◌∙◌}
use lib.ListN.{length}
use Rattle.std.proofs.lemmas.Result.{err_from_is_err_and}
use Rattle.format.specs.Written.{written_all}
use Rattle.requests.specs.Pairs.{pairs_at}
use Rattle.requests.specs.Kinds.{InEdit}
use Rattle.requests.specs.Writes.{write_no}
use Rattle.requests.proofs.Weighing.{asked-fits}
use Rattle.requests.proofs.Filling.{filled-refused, filled-written, write-fault, write-other, write-insert, request-bytes}
use Rattle.requests.proofs.write_record.Goals as goal

pub returns-in_default : goal.returns-in_default
returns-in_default c = write-fault c.args.req.now c.args.out.now c.in_default.ensures.0

pub returns-in_default-edit : goal.returns-in_default-edit
returns-in_default-edit c = write-other c.args.req.now c.args.out.now c.in-Some.request c.in-Some.ensures.0 c.in_default-edit.field-0 c.in_default-edit.field-1 c.in_default-edit.is

pub write_no-requires-clause-req_len_bound : goal.write_no-requires-clause-req_len_bound
write_no-requires-clause-req_len_bound c =
    (request-bytes c.args.req.now c.in-Some.request c.in-Some.ensures.0, omega (arith, (subst (InEdit c.args.req.now) c.in-Insert.is c.in-Some.ensures.1.1).0))

pub returns-in_err-write_no : goal.returns-in_err-write_no
returns-in_err-write_no c =
    let p = err_from_is_err_and c.from_residual.result c.from_residual.ensures.1 in
    rw (p.1, p.2) (filled-refused c.in_err-write_no.field-0.0 (write_no (pairs_at c.args.req.now c.in-Insert.start) (length c.args.out.now)) (written_all (pairs_at c.args.req.now c.in-Insert.start)) c.args.out.now c.in_err-write_no.ensures ∙ write-insert c.args.req.now c.args.out.now c.in-Some.request c.in-Some.ensures.0 c.in-Insert.start c.in-Insert.is)

pub put_pairs-requires-clause-from_in_bounds : goal.put_pairs-requires-clause-from_in_bounds
put_pairs-requires-clause-from_in_bounds c = asked-fits (pairs_at c.args.req.now c.in-Insert.start) (length c.args.out.now) (sym c.in_ok-write_no.ensures)

pub returns : goal.returns
returns c =
    filled-written (write_no (pairs_at c.args.req.now c.in-Insert.start) (length c.args.out.now)) c.put_pairs.result (written_all (pairs_at c.args.req.now c.in-Insert.start)) c.args.out.now c.put_pairs.new.out c.put_pairs.ensures.0 c.put_pairs.ensures.1 (sym c.in_ok-write_no.ensures) ∙ write-insert c.args.req.now c.args.out.now c.in-Some.request c.in-Some.ensures.0 c.in-Insert.start c.in-Insert.is
