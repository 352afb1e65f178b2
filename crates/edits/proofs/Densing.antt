-- The fields that an insert gets are the same by a descriptor and by the dense one.
use mathlib.Core.Path.{◌≡◌}
use mathlib.Core.List.{List}
use Rattle.format.specs.Bytes.{Bytes}
use Rattle.format.specs.Records.{Record}
use Rattle.format.specs.Numbers.{int_bounds}
use Rattle.format.specs.Written.{Pair}
use Rattle.format.specs.Numbering.{added as added_by}
use Rattle.format.proofs.Dense.{dense}
use Rattle.format.proofs.Uncounted.{added-bare}
use Rattle.format.proofs.Walking.{ruled}
use Rattle.records.specs.Walk.{record_in}
use Rattle.joints.proofs.Fields.{dense-same}
use Rattle.dictionary.specs.Known.{Described}

pub dense-added : (d : Bytes) → Described d → (ms : List Record) (new : List Pair) → added_by int_bounds (ruled (record_in (dense d)) ms) new ≡ added_by int_bounds (ruled (record_in d) ms) new
dense-added d h ms new = dense-same d h.reads (λ (r : Record). added_by int_bounds (ruled r ms) new) (λ r. added-bare int_bounds r ms new)
