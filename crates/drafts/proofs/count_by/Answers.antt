-- `drafts::count_by` meets its contract: what is to fill is the same by the dense descriptor.
use native.Mathlib.Omega.{arith}
use mathlib.Core.Path.{sym, ap, ◌∙◌, subst}
use lib.ListN.{length}
use lib.Seq.{length-take-le}
use Rattle.format.specs.Bytes.{Bytes}
use Rattle.format.proofs.Dense.{dense}
use Rattle.records.specs.Walk.{record_in}
use Rattle.records.proofs.Readings.{readable-ended}
use Rattle.requests.specs.Pairs.{pairs_at}
use Rattle.dictionary.specs.Known.{Described}
use Rattle.dictionary.proofs.Dense.{dense-described}
use Rattle.drafts.specs.Drafts.{to_fill}
use Rattle.drafts.proofs.Asking.{dense-filled}
use Rattle.drafts.proofs.count_by.Goals as goal

pub put_dense-n-requires : goal.put_dense-n-requires
put_dense-n-requires c =
    (omega (arith, c.requires.described.0.short, c.requires.described.1), readable-ended c.args.d.now c.requires.described.0.reads)

pub slice_bounds-count_to_fill-end : goal.slice_bounds-count_to_fill-end
slice_bounds-count_to_fill-end c =
    omega (arith, c.put_dense-n.ensures.0, c.requires.described.0.short, c.requires.described.1)

pub slice_bounds-count_to_fill-end-then-may_join : goal.slice_bounds-count_to_fill-end-then-may_join
slice_bounds-count_to_fill-end-then-may_join c =
    sym (length-take-le c.put_dense-n.result c.put_dense-n.new.out (omega (arith, c.put_dense-n.ensures.0, c.requires.described.0.short, c.requires.described.1)))

pub count_to_fill-requires : goal.count_to_fill-requires
count_to_fill-requires c =
    let h : Described (dense c.args.d.now) = dense-described c.args.d.now c.requires.described.0 (omega (arith, c.put_dense-n.ensures.0, c.put_dense-n.ensures.1)) in
    record { described = subst Described (sym c.put_dense-n.ensures.2) h; req_len_bound = c.requires.req_len_bound }

pub returns-then-may_join : goal.returns-then-may_join
returns-then-may_join c =
    let d : Bytes = c.args.d.now in
    let new = pairs_at c.args.req.now c.args.from in
    c.count_to_fill.ensures ∙ ap (λ (x : Bytes). length (to_fill (record_in x) new)) c.put_dense-n.ensures.2 ∙ ap length (dense-filled d c.requires.described.0 new)
