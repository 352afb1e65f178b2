-- `typedefs::end_of` meets its contract.
use native.Mathlib.Omega.{arith}
use Rattle.typedefs.proofs.Ending.{end-own, end-open, end-there, end_row_lem}
use borrow.Enum.Refused.{opened}
use Rattle.typedefs.proofs.end_of.Goals as goal

pub returns-in_default : goal.returns-in_default
returns-in_default c =
    end-own c.args.defs c.args.t (opened c.in_default.in_default-own.keys2)

pub follow-requires : goal.follow-requires
follow-requires c =
    c.requires.0

pub returns-in_default-follow : goal.returns-in_default-follow
returns-in_default-follow c =
    end-open c.args.defs c.args.t c.in-Alias.j c.in-Alias.is c.follow.result c.follow.ensures (opened c.in_default-follow.in_default-follow-own.keys2)

pub offset_bounds-defs-number : goal.offset_bounds-defs-number
offset_bounds-defs-number c =
    let l = end-there c.args.defs c.args.t c.in-Alias.j c.in-Alias.is c.follow.result c.follow.ensures c.in-End.number c.in-End.is c.requires.0 in
    omega (arith, l, c.requires.0.0)

pub bounds-defs-number : goal.bounds-defs-number
bounds-defs-number c =
    let l = end-there c.args.defs c.args.t c.in-Alias.j c.in-Alias.is c.follow.result c.follow.ensures c.in-End.number c.in-End.is c.requires.0 in
    omega (arith, l, c.requires.0.0, c.requires.1)

pub returns : goal.returns
returns c =
    let l = end-there c.args.defs c.args.t c.in-Alias.j c.in-Alias.is c.follow.result c.follow.ensures c.in-End.number c.in-End.is c.requires.0 in
    end_row_lem c.args.defs c.args.t c.in-Alias.j c.in-Alias.is c.follow.result c.follow.ensures c.in-End.number _ c.in-End.is (omega (arith, l, c.requires.0.0, c.requires.1))
