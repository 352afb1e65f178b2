-- `dictionary::wordsets::place_in` meets its contract: the first of the name's places.
use mathlib.Core.Path.{◌∙◌}
use native.Mathlib.Omega.{arith}
use Rattle.dictionary.proofs.FirstPlaces.{place_found, none_found}
use Rattle.dictionary.proofs.wordsets.place_in.Goals as goal

pub returns-then-set-eq0 : goal.returns-then-set-eq0
returns-then-set-eq0 c =
    λ ws h. h.count ∙ none_found ws c.args.name.now c.places_in-set.result (c.places_in-set.ensures ws h) c.if-set-eq0.true

pub first_place-requires : goal.first_place-requires
first_place-requires c =
    omega (arith, c.requires.1.few, c.requires.1.count)

pub returns : goal.returns
returns c =
    λ ws h. place_found ws c.args.name.now c.places_in-set.result (c.places_in-set.ensures ws h) c.first_place.result (omega (arith, c.first_place.ensures.0, h.count)) (λ l. c.first_place.ensures.1 (omega (arith, l, h.count))) c.first_place.ensures.2
