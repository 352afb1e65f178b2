-- `columns::read` meets its contract.
use native.Mathlib.Omega.{arith}
use lib.ListN.{length}
use Rattle.columns.proofs.Granted.{typedefs-few, typedefs-fit, typedefs-named}
use Rattle.columns.proofs.read.Goals as goal

pub read_names-names-requires : goal.read_names-names-requires
read_names-names-requires c =
    record { d_value = (c.requires.described.reads, c.requires.described.short); text_len_bound = (typedefs-few c.args.d.now c.requires.described, typedefs-named c.args.d.now c.requires.described) }

pub read_typedefs-defs-requires : goal.read_typedefs-defs-requires
read_typedefs-defs-requires c =
    record { are_names = c.read_names-names.ensures; text_value = typedefs-fit c.args.d.now c.requires.described (length c.args.scratch.now) c.requires.value_bytes_in_bounds }

pub fill-requires : goal.fill-requires
fill-requires c =
    record { described = (c.requires.described, c.read_names-names.ensures, c.read_typedefs-defs.ensures); value_bytes_in_bounds = omega (arith, c.read_typedefs-defs.auto.scratch, c.requires.value_bytes_in_bounds) }
