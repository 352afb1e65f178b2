-- `limits::field_fits` meets its contract: the limits ask by a bound of the value's length.
use Prim.Native.Nat.{◌+◌}
use mathlib.Core.Path.{ap, ◌∙◌}
use mathlib.Core.Bool.{Bool, ◌&&◌}
use lib.Dec.{leb}
use Rattle.format.specs.Limits.{record_fields, name_bytes, value_bytes}
use Rattle.format.specs.declared.Record.{Record}
use Rattle.limits.proofs.field_fits.Goals as goal

pub returns : goal.returns
returns c =
    c.fits.ensures
    ∙ ap (λ (r : Record). leb r.fields record_fields && leb r.name name_bytes && leb r.value value_bytes) c.new-c.ensures
    ∙ ap (λ (b : Bool). leb (c.args.fields + 1) record_fields && leb c.args.name name_bytes && b) c.value_bound-len.ensures
