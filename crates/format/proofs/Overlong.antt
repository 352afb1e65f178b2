-- "a name over 64 bytes that an insert gets from them fails 104" (document 02, order 6): what an insert makes with such a name is over a limit.
use Prim.Native.Nat.{ℕ, zero, suc}
use mathlib.Core.Path.{◌≡◌, refl, ap, ◌∙◌}
use mathlib.Core.Bool.{Bool, true, false, ◌&&◌, and-false}
use mathlib.Core.List.{List, [], ◌∷◌, ◌++◌, map}
use mathlib.Core.Option.{some}
use lib.Dec.{leb}
use lib.ListN.{length}
use Rattle.format.specs.Bytes.{all}
use Rattle.format.specs.Lists.{is_filled, filter, nth}
use Rattle.format.specs.Sets.{RecSet}
use Rattle.format.specs.Limits.{name_bytes, value_bytes, record_fields, descriptors}
use Rattle.format.specs.Written.{Pair, new_field}
use Rattle.format.specs.Edits.{Edit, in_set}
use Rattle.format.specs.Questions.{fits_field, fits_record, fits_rules, fits_limits}
use Rattle.format.specs.Requests.{Request}
use Rattle.format.specs.Plain.{Plain, index_of, apply}
use Rattle.format.proofs.Elements.{Has}
use Rattle.format.proofs.Lines.{all_append}
use Rattle.format.proofs.Applying.{index-has}
use Rattle.format.proofs.Tallying.{apply-sets}

-- a name that a field may have
abbrev pub is_short : Pair → Bool
is_short p = leb (length p.name) name_bytes

long-by : (s v rest others : Bool) → (s && rest) ≡ false → (rest ≡ false → others ≡ false) → ((s && v) && others) ≡ false
long-by true v rest others e h = ap (λ (x : Bool). v && x) (h e) ∙ and-false v
long-by false v rest others e h = refl

long-fields : (ps : List Pair) → all is_short ps ≡ false → all fits_field (map new_field ps) ≡ false
long-fields [] e = e
long-fields (p ∷ ps) e = long-by (is_short p) (leb (length p.value) value_bytes) (all is_short ps) (all fits_field (map new_field ps)) e (long-fields ps)

long-record : (ps : List Pair) → all is_short ps ≡ false → fits_record (map new_field ps) ≡ false
long-record ps e = ap (λ (x : Bool). leb (length (map new_field ps)) record_fields && x) (long-fields ps e) ∙ and-false (leb (length (map new_field ps)) record_fields)

-- a test that what becomes of one set fails
fails-at : (t : RecSet → Bool) (f : RecSet → RecSet) → ((s : RecSet) → t (f s) ≡ false) → (i : ℕ) (ss : List RecSet) → Has ss i → all t (nth i f ss) ≡ false
fails-at t f h i [] k = absurd k
fails-at t f h zero (s ∷ ss) k = ap (λ (x : Bool). x && all t ss) (h s)
fails-at t f h (suc i) (s ∷ ss) k = ap (λ (x : Bool). t s && x) (fails-at t f h i ss k) ∙ and-false (t s)

abbrev fits_set : RecSet → Bool
fits_set s = fits_record s.rules && all fits_record s.members && fits_rules s.rules

set_fails : (ps : List Pair) → all is_short ps ≡ false → (s : RecSet) → fits_set (in_set (Edit.insert ps) s) ≡ false
set_fails ps e s =
    let own : all fits_record (map new_field ps ∷ []) ≡ false = ap (λ (x : Bool). x && true) (long-record ps e) in
    let members : all fits_record (s.members ++ (map new_field ps ∷ [])) ≡ false = all_append fits_record s.members (map new_field ps ∷ []) ∙ ap (λ (x : Bool). all fits_record s.members && x) own ∙ and-false (all fits_record s.members) in
    ap (λ (x : Bool). (fits_record s.rules && x) && fits_rules s.rules) members
    ∙ ap (λ (x : Bool). x && fits_rules s.rules) (and-false (fits_record s.rules))

pub overlong-limits : (q : Request) (p : Plain) (i : ℕ) (ps : List Pair) → index_of q.set p.sets ≡ some i → q.edit ≡ Edit.insert ps → all is_short ps ≡ false → fits_limits (apply q p).sets ≡ false
overlong-limits q p i ps e f h =
    let count : List RecSet → Bool = λ (ss : List RecSet). leb (length (filter (λ (s : RecSet). is_filled s.rules) ss)) descriptors in
    ap fits_limits (apply-sets q p i e ∙ ap (λ (x : Edit). nth i (in_set x) p.sets) f)
    ∙ ap (λ (x : Bool). x && count (nth i (in_set (Edit.insert ps)) p.sets)) (fails-at fits_set (in_set (Edit.insert ps)) (set_fails ps h) i p.sets (index-has q.set p.sets i e))
