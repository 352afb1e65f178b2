-- `merging::inserts::place` meets its contract.
use native.Mathlib.Omega.{arith}
use mathlib.Core.Path.{refl, sym}
use lib.ListN.{take}
use lib.Seq.{length-take-le}
use Rattle.format.specs.Pieces.{read_of}
use Rattle.format.specs.Numbers.{int_bounds}
use Rattle.format.specs.Numbering.{added as added_by}
use Rattle.format.proofs.Records.{records}
use Rattle.format.proofs.Walking.{ruled}
use Rattle.words.specs.Spans.{span}
use Rattle.records.specs.Walk.{record_in}
use Rattle.requests.specs.Pairs.{pairs_at}
use Rattle.merging.proofs.Placing.{set-stands, grant-illegal, placed-told, added-inside}
use Rattle.merging.proofs.inserts.place.Goals as goal

pub weigh-requires : goal.weigh-requires
weigh-requires c =
    record { req_len_bound = (c.requires.request_len_bound.0, omega arith); from_value = c.requires.request_len_bound.1 }

pub returns-in_default : goal.returns-in_default
returns-in_default c =
    λ set head found is. (grant-illegal (take c.args.used c.args.text.now) c.requires.appendable.0 head set found c.args.p is (pairs_at c.args.request.now 0) c.requires.request_len_bound.2 c.args.room c.in_default.ensures, refl)

pub slice_bounds-number-end : goal.slice_bounds-number-end
slice_bounds-number-end c =
    omega (arith, c.requires.appendable.1, c.requires.appendable.2)

pub slice_bounds-number-end-2 : goal.slice_bounds-number-end-2
slice_bounds-number-end-2 c =
    sym (length-take-le c.args.used c.args.text.now (omega (arith, c.requires.appendable.1, c.requires.appendable.2)))

pub number-a-requires : goal.number-a-requires
number-a-requires c =
    record { appendable = (c.requires.appendable.0, c.requires.appendable.3); request_len_bound = (c.requires.request_len_bound.0, c.requires.request_len_bound.1, c.requires.request_len_bound.3) }

pub put-requires : goal.put-requires
put-requires c =
    let f = set-stands (take c.args.used c.args.text.now) c.requires.appendable.0 c.requires.appendable.3.1.0 c.requires.appendable.3.0 c.requires.appendable.3.1.1.0 c.args.p c.requires.appendable.3.1.1.1 in let g = c.in-Some.ensures in record { at_le_used = (omega (arith, f.inside, length-take-le c.args.used c.args.text.now (omega (arith, c.requires.appendable.1, c.requires.appendable.2))), c.requires.appendable.1, c.requires.appendable.2); request_value = (c.requires.request_len_bound.1, g.1, added-inside (added_by int_bounds (ruled (record_in (span c.args.p.start c.args.p.end (take c.args.used c.args.text.now))) (records (read_of (span c.args.p.begin c.args.p.after (take c.args.used c.args.text.now))))) (pairs_at c.args.request.now 0)) c.number-a.new.added c.number-a.result c.number-a.ensures) }

pub returns : goal.returns
returns c =
    let g = c.in-Some.ensures in λ set head found is. placed-told c.args.text.now c.args.used c.args.room (omega (arith, c.requires.appendable.1, c.requires.appendable.2)) c.requires.appendable.0 head set found c.args.p is c.args.request.now c.number-a.new.added c.put.new.text c.requires.request_len_bound.2 g.0 c.in-Some.field-0.len g.1 c.number-a.result c.number-a.ensures c.put.result c.put.ensures
