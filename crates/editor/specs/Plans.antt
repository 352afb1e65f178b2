-- What is planned of a request to a text: it is none, which is refused with 20, or where it acts was located.
use Rattle.std.specs.Prelude.{◌≡◌}
use Rattle.std.proofs.Math.Option.{Option, none, some}
use Rattle.format.specs.Bytes.{Bytes}
use Rattle.format.specs.Requests.{Request, request_of}
use Rattle.format.specs.declared.refusals.Refusal.{Refusal}
use Rattle.edits.specs.declared.Located.{Located}
use Rattle.edits.specs.Places.{Locates}

abbrev pub planned_by : Option Request → Bytes → Bytes → Bytes → Located → Type 0
planned_by none s req added x = Located.Refused Refusal.Form ≡ x
planned_by (some q) s req added x = Locates s req added q x

abbrev pub Planned : Bytes → Bytes → Bytes → Located → Type 0
Planned s req added x = planned_by (request_of req) s req added x
