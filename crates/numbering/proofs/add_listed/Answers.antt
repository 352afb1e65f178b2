-- `numbering::add_listed` meets its contract: the bounds of all names, the names that the request has, and the fields of the others.
use native.Mathlib.Omega.{arith}
use mathlib.Core.Path.{subst}
use mathlib.Core.List.{List}
use mathlib.Core.Option.{Option}
use Rattle.format.specs.Written.{Pair}
use Rattle.format.specs.Numbering.{pair_names}
use Rattle.format.specs.Rules.{auto}
use Rattle.records.specs.Walk.{record_in}
use Rattle.requests.specs.Pairs.{pairs_at}
use Rattle.numbering.specs.Adding.{pair_by, unadded, step_all, AddedAs}
use Rattle.numbering.proofs.Stepping.{step-passed}
use Rattle.numbering.proofs.Completing.{added_is, limits-are}
use Rattle.numbering.proofs.add_listed.Goals as goal

pub bounds_of-b-requires : goal.bounds_of-b-requires
bounds_of-b-requires c =
    record { described = (c.requires.described.0, c.requires.described.1, omega arith); s_value = c.requires.part_value }

pub mark_pairs-seen-requires : goal.mark_pairs-seen-requires
mark_pairs-seen-requires c =
    record { listed = c.requires.described.1; req_len_bound = c.requires.req_len_bound }

pub add_lists-r-requires : goal.add_lists-r-requires
add_lists-r-requires c =
    record { listed = c.requires.described.1; described = (c.requires.described.0, omega (arith, c.bounds_of-b.auto.scratch), c.requires.described.2); limited = (c.bounds_of-b.ensures.floor-room, c.bounds_of-b.ensures.limit-room, limits-are c.args.d.now c.args.part.now c.bounds_of-b.result.floors c.bounds_of-b.result.limits c.bounds_of-b.ensures.floors c.bounds_of-b.ensures.limits); seen = (pair_names (pairs_at c.args.req.now c.args.from), c.mark_pairs-seen.ensures) }

pub returns : goal.returns
returns c =
    let ws = auto (record_in c.args.d.now) in
    let f = pair_by ws c.bounds_of-b.result.floors c.bounds_of-b.result.limits in
    let new = pairs_at c.args.req.now c.args.from in
    let s = step_all f (unadded (pair_names new)) ws in
    subst (λ (x : Option (List Pair)). AddedAs x c.add_lists-r.new.out c.told.result) (added_is c.args.d.now c.args.part.now c.bounds_of-b.result.floors c.bounds_of-b.result.limits c.bounds_of-b.ensures.floors c.bounds_of-b.ensures.limits new)
    (c.told.ensures ws s c.add_lists-r.new.out (c.add_lists-r.ensures (pair_names new) c.mark_pairs-seen.ensures) (omega (arith, step-passed f (unadded (pair_names new)) ws, c.requires.described.1.few)) (omega (arith, c.add_lists-r.auto.out, c.requires.described.2)))
