-- `records::set_behind` meets its contract: the records from where the head says up to the next descriptor.
use native.Mathlib.Omega.{arith}
use Rattle.records.proofs.Readings.{part-readable}
use Rattle.records.proofs.Sets.{members-inside, members-behind}
use Rattle.records.proofs.set_behind.Goals as goal

pub next_members-m-requires : goal.next_members-m-requires
next_members-m-requires c =
    part-readable c.args.s.now c.args.head.begin c.requires.1

pub overflow_add-after : goal.overflow_add-after
overflow_add-after c =
    omega (arith, c.well_formed.0.0, members-inside c.args.s.now c.args.head.begin c.next_members-m.result c.next_members-m.ensures c.requires.0 c.requires.1)

pub returns : goal.returns
returns c =
    members-behind c.args.s.now c.args.head c.next_members-m.result c.next_members-m.ensures
