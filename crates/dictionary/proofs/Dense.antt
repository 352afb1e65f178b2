-- A descriptor without its bare joints is described as it was.
use Prim.Native.Nat.{◌≤◌}
use native.Mathlib.Omega.{arith}
use mathlib.Core.Path.{◌∙◌}
use lib.ListN.{length}
use Rattle.format.specs.Bytes.{Bytes}
use Rattle.format.specs.Numbers.{int_bounds}
use Rattle.format.specs.Rules.{is_well_formed, are_types_defined}
use Rattle.format.specs.Questions.{fits_record, fits_rules}
use Rattle.format.proofs.Dense.{dense}
use Rattle.format.proofs.Uncounted.{fits-bare, rules-bare, well-bare, defined-bare}
use Rattle.joints.proofs.Fields.{dense-readable, dense-same}
use Rattle.dictionary.specs.Known.{Described}

pub dense-described : (d : Bytes) → Described d → length (dense d) ≤ length d → Described (dense d)
dense-described d h l =
    record {
      reads = dense-readable d h.reads;
      short = omega (arith, h.short);
      fits = dense-same d h.reads fits_record fits-bare ∙ h.fits;
      few = dense-same d h.reads fits_rules rules-bare ∙ h.few;
      well = dense-same d h.reads (is_well_formed int_bounds) (well-bare int_bounds) ∙ h.well;
      typed = dense-same d h.reads (are_types_defined int_bounds) (defined-bare int_bounds) ∙ h.typed;
    }
