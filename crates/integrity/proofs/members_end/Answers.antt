-- `integrity::members_end` meets its contract, case by case.
use mathlib.Core.Path.{sym, ap}
use mathlib.Core.Bool.{Bool}
use native.Mathlib.Omega.{arith}
use borrow.Author.Tests.{lt-ltb, le-ltb}
use lib.ListN.{get_or}
use Rattle.format.specs.Bytes.{pick}
use Rattle.integrity.proofs.members_end.Goals as goal

pub bounds-starts-k : goal.bounds-starts-k
bounds-starts-k c =
    omega (arith, c.requires, c.if-k-count.true)

pub returns-then-k-count : goal.returns-then-k-count
returns-then-k-count c =
    sym (ap (λ (b : Bool). pick b (get_or c.args.starts.now c.args.k 0) c.args.len) (lt-ltb c.args.k c.args.count c.if-k-count.true))

pub returns : goal.returns
returns c =
    sym (ap (λ (b : Bool). pick b (get_or c.args.starts.now c.args.k 0) c.args.len) (le-ltb c.args.k c.args.count c.if-k-count.false))
