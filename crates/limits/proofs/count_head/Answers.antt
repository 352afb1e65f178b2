-- `limits::count_head` meets its contract, case by case; beyond the last row nothing is put.
use native.Mathlib.Omega.{arith}
use Rattle.limits.proofs.Opens.{number-none, put-none, number-one, put_in, put-out}
use Rattle.limits.proofs.count_head.Goals as goal

pub returns-then-o-eq0 : goal.returns-then-o-eq0
returns-then-o-eq0 c =
    record { value = number-none c.args.o c.if-o-eq0.true c.args.count; starts_after = put-none c.args.o c.if-o-eq0.true c.args.starts.now c.args.count c.args.o.start; ends_after = put-none c.args.o c.if-o-eq0.true c.args.ends.now c.args.count c.args.o.end; afters_after = put-none c.args.o c.if-o-eq0.true c.args.afters.now c.args.count c.args.at }

pub returns-then-count-ge-COUNT : goal.returns-then-count-ge-COUNT
returns-then-count-ge-COUNT c =
    record { value = number-one c.args.o c.if-o-eq0.false c.args.count; starts_after = put-out c.args.o c.if-o-eq0.false c.args.starts.now c.args.count c.args.o.start (omega (arith, c.requires.starts_len.0, c.if-count-ge-COUNT.true)); ends_after = put-out c.args.o c.if-o-eq0.false c.args.ends.now c.args.count c.args.o.end (omega (arith, c.requires.starts_len.1, c.if-count-ge-COUNT.true)); afters_after = put-out c.args.o c.if-o-eq0.false c.args.afters.now c.args.count c.args.at (omega (arith, c.requires.starts_len.2, c.if-count-ge-COUNT.true)) }

pub returns : goal.returns
returns c =
    record { value = number-one c.args.o c.if-o-eq0.false c.args.count; starts_after = put_in c.args.o c.if-o-eq0.false c.args.starts.now c.args.count c.args.o.start; ends_after = put_in c.args.o c.if-o-eq0.false c.args.ends.now c.args.count c.args.o.end; afters_after = put_in c.args.o c.if-o-eq0.false c.args.afters.now c.args.count c.args.at }
