-- Which set a request names.
use Rattle.std.specs.Prelude.{◌≡◌, ◌≢◌, ◌⊎◌, Bool, false, List}
use Rattle.std.proofs.Math.Option.{Option, none, some, map}
use Rattle.format.specs.Bytes.{Bytes, same}
use Rattle.format.specs.Lists.{filter}
use Rattle.format.specs.Requests.{Request, request_of}

-- a request of any bytes: one that isn't of the form names no set; the default set's name is empty
abbrev pub set_named : Bytes → Option Bytes
set_named q = map (λ (r : Request). r.set) (request_of q)

-- no set is named by both of two requests; one of two sets is named
abbrev pub Apart : Bytes → Bytes → Type 0
Apart q r = (n : Bytes) → set_named q ≡ some n → set_named r ≢ some n

abbrev pub NamesEither : Bytes → Bytes → Bytes → Type 0
NamesEither m n q = (set_named q ≡ some m) ⊎ (set_named q ≡ some n)

-- a set's own requests of a list, in their order
abbrev pub is_name : Bytes → Option Bytes → Bool
is_name n none = false
is_name n (some m) = same n m

abbrev pub own : Bytes → List Bytes → List Bytes
own n qs = filter (λ (q : Bytes). is_name n (set_named q)) qs
