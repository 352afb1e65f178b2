-- The words of a list that are among some names, name by name; and how many distinct ones are not.
use Prim.Native.Nat.{ℕ}
use mathlib.Core.Path.{◌≡◌, refl, sym, ap, ap₂, ◌∙◌}
use mathlib.Core.Bool.{Bool, true, false, ◌&&◌, ◌||◌, not}
use mathlib.Core.List.{List, [], ◌∷◌}
use lib.Bits.{bit_and, bit_or}
use lib.Count.{ones}
use lib.Dec.{ltb}
use lib.ListN.{length, get_or}
use Rattle.format.specs.Bytes.{Bytes, same, among}
use Rattle.format.specs.Lists.{filter}
use Rattle.format.specs.Numbering.{firsts}
use Rattle.format.proofs.Listing.{same-swap}
use Rattle.terms.specs.Sets.{in_set}
use Rattle.terms.proofs.Sets.{in-none, in-or}
use Rattle.dictionary.specs.Numbered.{Places, Present, Firsts}
use Rattle.dictionary.proofs.Ones.{firsts-counted}

pub present-none : (ws : List Bytes) → Present ws [] 0
present-none ws k = in-none k ∙ sym (go (ltb k (length ws)))
  where
    go : (a : Bool) → (a && false) ≡ false
    go true = refl
    go false = refl

-- with one name more
pub present-more : (ws ns : List Bytes) (n : Bytes) (x y : ℕ) → Present ws ns x → Places ws n y → Present ws (n ∷ ns) (bit_or x y)
present-more ws ns n x y f p k =
    let w : Bytes = get_or ws k [] in
    in-or k x y ∙ ap₂ ◌||◌ (f k) (p k) ∙ ap (λ (t : Bool). (ltb k (length ws) && among w ns) || (ltb k (length ws) && t)) (same-swap n w) ∙ go (ltb k (length ws)) (among w ns) (same w n)
  where
    go : (a b c : Bool) → ((a && b) || (a && c)) ≡ (a && (c || b))
    go true true true = refl
    go true true false = refl
    go true false true = refl
    go true false false = refl
    go false b c = refl

-- m: the places that are missing, f: the first places; the ones in both are the distinct words that are not among the names
pub missing-counted : (ws ns : List Bytes) (x m f : ℕ) → Present ws ns x → ((k : ℕ) → in_set k m ≡ (ltb k (length ws) && not (in_set k x))) → Firsts ws f
    → ones (bit_and f m) ≡ length (filter (λ (n : Bytes). not (among n ns)) (firsts ws))
missing-counted ws ns x m f p g h =
    firsts-counted (λ (n : Bytes). not (among n ns)) ws f m h (λ k. g k ∙ ap (λ (t : Bool). ltb k (length ws) && not t) (p k) ∙ go (ltb k (length ws)) (among (get_or ws k []) ns))
  where
    go : (a b : Bool) → (a && not (a && b)) ≡ (a && not b)
    go true b = refl
    go false b = refl
