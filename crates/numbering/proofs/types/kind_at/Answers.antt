-- `numbering::types::kind_at` meets its contract: the type is followed to the typedef in which it ends.
use native.Mathlib.Omega.{arith}
use Rattle.numbering.proofs.Counted.{span-read, span-fault}
use Rattle.numbering.proofs.types.kind_at.Goals as goal

pub read_typedef-own-requires : goal.read_typedef-own-requires
read_typedef-own-requires c =
    record { are_names = c.requires.described.1; value_in_bounds = (omega (arith, c.requires.has_type.0.there), omega (arith, c.requires.has_type.0.fits, c.requires.has_type.1)) }

pub end_of-t-requires : goal.end_of-t-requires
end_of-t-requires c =
    (c.requires.described.2.bounded, c.requires.described.2.long)

pub returns-in-None : goal.returns-in-None
returns-in-None c =
    span-fault c.args.d.now c.requires.described.0 c.args.names c.requires.described.1 c.args.defs c.requires.described.2 c.args.value c.requires.has_type.0 c.read_typedef-own.result c.read_typedef-own.ensures c.end_of-t.result c.end_of-t.ensures c.in-None.is

pub returns-in-Some : goal.returns-in-Some
returns-in-Some c =
    span-read c.args.d.now c.requires.described.0 c.args.names c.requires.described.1 c.args.defs c.requires.described.2 c.args.value c.requires.has_type.0 c.read_typedef-own.result c.read_typedef-own.ensures c.end_of-t.result c.end_of-t.ensures c.in-Some.shape c.in-Some.is
