-- Places raised by a number of bytes: those of the same blocks further on.
use Prim.Native.Nat.{ℕ, ◌+◌}
use native.Mathlib.Omega.{arith}
use mathlib.Core.Path.{◌≡◌, refl, sym, ap, ◌∙◌}
use mathlib.Core.Bool.{Bool, true, false}
use mathlib.Core.List.{List, [], ◌∷◌, map}
use Rattle.format.specs.Lists.{is_filled}
use Rattle.format.specs.Records.{Record, Block, fields_of}
use Rattle.records.specs.Places.{Placed, size_in, placed_at, place_on, places_in}
use Rattle.records.proofs.Walks.{placed-path}

abbrev pub raise : ℕ → Placed → Placed
raise k p = record { start = k + p.start; end = k + p.end; after = k + p.after; fields = p.fields }

-- the records of places
abbrev pub fields_in : List Placed → List Record
fields_in ps = map (λ (p : Placed). p.fields) ps

raise-on : (k : ℕ) (t : Bool) (p : Placed) (ps : List Placed) → map (raise k) (place_on t p ps) ≡ place_on t (raise k p) (map (raise k) ps)
raise-on k true p ps = refl
raise-on k false p ps = refl

pub places-raised : (k at : ℕ) (bs : List Block) → places_in (k + at) bs ≡ map (raise k) (places_in at bs)
places-raised k at [] = refl
places-raised k at (b ∷ bs) =
    let t : Bool = is_filled (fields_of b) in
    let p = placed-path (placed_at (k + at) b) (raise k (placed_at at b)) (omega arith) (omega arith) (omega arith) refl in
    let e : k + at + size_in b ≡ k + (at + size_in b) = omega arith in
    ap (λ (q : Placed). place_on t q (places_in (k + at + size_in b) bs)) p
    ∙ ap (λ (xs : List Placed). place_on t (raise k (placed_at at b)) xs) (ap (λ (n : ℕ). places_in n bs) e ∙ places-raised k (at + size_in b) bs)
    ∙ sym (raise-on k t (placed_at at b) (places_in (at + size_in b) bs))

pub raise-none : (ps : List Placed) → map (raise 0) ps ≡ ps
raise-none [] = refl
raise-none (p ∷ ps) = λ i. placed-path (raise 0 p) p (omega arith) (omega arith) (omega arith) refl i ∷ raise-none ps i

pub raise-twice : (j k : ℕ) (ps : List Placed) → map (raise j) (map (raise k) ps) ≡ map (raise (j + k)) ps
raise-twice j k [] = refl
raise-twice j k (p ∷ ps) = λ i. placed-path (raise j (raise k p)) (raise (j + k) p) (omega arith) (omega arith) (omega arith) refl i ∷ raise-twice j k ps i

pub raise-fields : (k : ℕ) (ps : List Placed) → fields_in (map (raise k) ps) ≡ fields_in ps
raise-fields k [] = refl
raise-fields k (p ∷ ps) = ap {B = List Record} (λ rs. p.fields ∷ rs) (raise-fields k ps)
