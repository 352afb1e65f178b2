-- Where the records of a set end.
use Prim.Native.Nat.{ℕ, ◌+◌, ◌≤◌}
use native.Mathlib.Omega.{arith}
use mathlib.Core.Path.{◌≡◌, refl, ap, ◌∙◌}
use mathlib.Core.Bool.{Bool, true, false}
use mathlib.Core.List.{List, [], ◌∷◌, map}
use lib.ListN.{length, drop}
use Rattle.format.specs.Bytes.{Bytes, pick}
use Rattle.records.specs.Places.{is_readable, Placed, places_of, is_descriptor}
use Rattle.records.specs.Sets.{set_end}
use Rattle.records.specs.declared.Place.{Place}
use Rattle.records.proofs.Shifts.{raise}
use Rattle.records.proofs.Searches.{places_at, Met}
use Rattle.records.proofs.Members.{Stands, stands}

-- step by step, record by record
module _ (s : Bytes) (i : ℕ) where
  pub end-nothing : places_at s i ≡ [] → set_end i (places_at s i) ≡ i
  unfolding set_end
  end-nothing e = ap (set_end i) e

  module _ (q : Place) (m : Met s i q) where
    end_on : set_end i (places_at s i) ≡ pick q.descriptor i (set_end (i + q.after) (places_at s (i + q.after)))
    unfolding set_end
    end_on = ap (set_end i) m.places ∙ ap (λ (x : Place). pick x.descriptor i (set_end (i + x.after) (places_at s (i + q.after)))) m.is

    pub end-stops : q.descriptor ≡ true → set_end i (places_at s i) ≡ i
    end-stops d = end_on ∙ ap (λ (t : Bool). pick t i (set_end (i + q.after) (places_at s (i + q.after)))) d

    pub end_later : q.descriptor ≡ false → set_end i (places_at s i) ≡ set_end (i + q.after) (places_at s (i + q.after))
    end_later d = end_on ∙ ap (λ (t : Bool). pick t i (set_end (i + q.after) (places_at s (i + q.after)))) d

-- the end in a part, as a place of the whole
pub end-raised : (a at : ℕ) (ps : List Placed) → set_end (a + at) (map (raise a) ps) ≡ a + set_end at ps
unfolding set_end
end-raised a at [] = refl
end-raised a at (p ∷ ps) = go (is_descriptor p) (end-raised a p.after ps)
  where
    go : (t : Bool) → set_end (a + p.after) (map (raise a) ps) ≡ a + set_end p.after ps → pick t (a + at) (set_end (a + p.after) (map (raise a) ps)) ≡ a + pick t at (set_end p.after ps)
    go true e = refl
    go false e = e

pub end_whole : (s : Bytes) (a : ℕ) → set_end a (places_at s a) ≡ a + set_end 0 (places_of (drop a s))
end_whole s a = ap (λ (x : ℕ). set_end x (places_at s a)) (omega arith) ∙ end-raised a 0 (places_of (drop a s))

-- it lies in the part
end-within : (s : Bytes) (at : ℕ) (ps : List Placed) → at ≤ length s → Stands s ps → set_end at ps ≤ length s
unfolding set_end
end-within s at [] h f = h
end-within s at (p ∷ ps) h f = go (is_descriptor p) (end-within s p.after ps f.0.inside f.2)
  where
    go : (t : Bool) → set_end p.after ps ≤ length s → pick t at (set_end p.after ps) ≤ length s
    go true k = h
    go false k = k

pub end-inside : (s : Bytes) → is_readable s ≡ true → set_end 0 (places_of s) ≤ length s
end-inside s e = end-within s 0 (places_of s) (omega arith) (stands s e)
