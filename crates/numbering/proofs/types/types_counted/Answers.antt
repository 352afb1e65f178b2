-- `numbering::types::types_counted` meets its contract: the typedefs are read, and the types by them.
use native.Mathlib.Omega.{arith}
use lib.ListN.{length}
use Rattle.columns.proofs.Granted.{typedefs-few, typedefs-fit, typedefs-named}
use Rattle.numbering.proofs.types.types_counted.Goals as goal

pub read_names-names-requires : goal.read_names-names-requires
read_names-names-requires c =
    record { d_value = (c.requires.described.0.reads, c.requires.described.0.short); text_len_bound = (typedefs-few c.args.d.now c.requires.described.0, typedefs-named c.args.d.now c.requires.described.0) }

pub read_typedefs-defs-requires : goal.read_typedefs-defs-requires
read_typedefs-defs-requires c =
    record { are_names = c.read_names-names.ensures; text_value = typedefs-fit c.args.d.now c.requires.described.0 (length c.args.scratch.now) c.requires.described.1 }

pub all_counted-requires : goal.all_counted-requires
all_counted-requires c =
    record { listed = c.requires.listed; described = (c.requires.described.0, c.read_names-names.ensures, c.read_typedefs-defs.ensures); value_bytes_in_bounds = omega (arith, c.read_typedefs-defs.auto.scratch, c.requires.described.1) }
