-- `drafts::given::give_list` meets its contract. The invariant: the words of the fields passed are given, and those from i on are left. The measure is what is left of the descriptor.
use Prim.Native.Nat.{◌-◌, ◌≤◌}
use mathlib.Core.Path.{◌≡◌}
use mathlib.Core.Bool.{true}
use lib.ListN.{length, drop}
use Rattle.format.specs.Rules.{listed}
use Rattle.records.specs.Places.{is_readable}
use Rattle.records.specs.Walk.{record_in}
use Rattle.drafts.proofs.Giving.{Going}
use Rattle.drafts.proofs.Listing.{words_from, ShortFrom}
use Rattle.drafts.proofs.given.give_list.Given as goal

abbrev pub invariant-loop-value : goal.invariant-loop-value
invariant-loop-value l = (l.i ≤ length l.d) × (is_readable (drop l.i l.d) ≡ true) × ShortFrom l.d l.name l.i × (length l.scratch ≡ length l.initial.scratch) × Going l.d l.l (listed l.name (record_in l.d)) l.set l.given (words_from l.d l.name l.i)

abbrev pub decreases-loop-value : goal.decreases-loop-value
decreases-loop-value l = length l.d - l.i
