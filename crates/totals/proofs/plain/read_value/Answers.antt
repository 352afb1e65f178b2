-- A plain value is told at once, any other byte by byte.
use native.Mathlib.Omega.{arith}
use Rattle.totals.proofs.Running.{plain-told, plain-counted}
use Rattle.totals.proofs.plain.read_value.Goals as goal

pub returns-in_default : goal.returns-in_default
returns-in_default c = c.value_millionths.ensures

pub signed_of-requires : goal.signed_of-requires
signed_of-requires c =
    omega (arith, (plain-told c.args.s.now c.plain_value.result c.plain_value.ensures c.in-Some.is).0)

pub returns : goal.returns
returns c =
    plain-counted c.args.s.now c.in-Some.m c.signed_of.result (plain-told c.args.s.now c.plain_value.result c.plain_value.ensures c.in-Some.is) c.signed_of.ensures
