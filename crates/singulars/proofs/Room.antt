-- How many fields of singular names a part can have: at most one of each name is empty, and the others take five bytes each.
use Prim.Native.Nat.{ℕ, suc, ◌+◌, ◌*◌, ◌≤◌, ◌<◌}
use native.Mathlib.Omega.{arith}
use mathlib.Core.Path.{◌≡◌, refl, sym}
use mathlib.Core.Bool.{Bool, true, false, ◌||◌, not, false≢true, and-eq-true_iff}
use mathlib.Core.List.{List, [], ◌∷◌}
use lib.ListN.{length}
use borrow.Author.Tests.{not-true}
use Rattle.format.specs.Lists.{is_filled}
use Rattle.format.specs.Bytes.{Bytes, pick, all, same, among}
use Rattle.format.specs.Lines.{Line}
use Rattle.format.specs.Pieces.{Piece, read_of}
use Rattle.format.specs.Records.{Field, Record, count_of, fields_of}
use Rattle.format.specs.Sets.{values_of}
use Rattle.format.specs.Rules.{distinct}
use Rattle.format.proofs.Elements.{Each}
use Rattle.format.proofs.Whole.{Sound}
use Rattle.format.proofs.Sizes.{field-size, filled-size}
use Rattle.format.proofs.Listing.{same-swap}
use Rattle.values.proofs.Tests.{by_bool}
use Rattle.records.specs.Places.{is_readable, size_in}
use Rattle.records.specs.Walk.{record_in}
use Rattle.records.proofs.Readings.{readable-reads, reads-length}
use Rattle.records.proofs.Walks.{size-piece}
use Rattle.singulars.specs.Marks.{mark_of, marks}

-- how many of some values are empty, and how many fields of listed names are
abbrev empties : List Bytes → ℕ
empties [] = 0
empties (v ∷ vs) = pick (is_filled v) 0 1 + empties vs

abbrev blanks : List Bytes → Record → ℕ
blanks ws [] = 0
blanks ws (f ∷ fs) = pick (among f.name ws) (pick (is_filled f.value) 0 1) 0 + blanks ws fs

none-empty : (vs : List Bytes) → among [] vs ≡ false → empties vs ≡ 0
none-empty [] e = refl
none-empty ([] ∷ vs) e = absurd (false≢true (sym e))
none-empty ((c ∷ v) ∷ vs) e = omega (arith, none-empty vs e)

one-empty : (vs : List Bytes) → distinct vs ≡ true → empties vs ≤ 1
one-empty [] e = omega arith
one-empty ([] ∷ vs) e = let h = (and-eq-true_iff (not (among [] vs)) (distinct vs)).0 e in omega (arith, none-empty vs (not-true (among [] vs) h.0))
one-empty ((c ∷ v) ∷ vs) e = let h = (and-eq-true_iff (not (among (c ∷ v) vs)) (distinct vs)).0 e in omega (arith, one-empty vs h.1)

-- one name more
blanks-one : (w : Bytes) (ws : List Bytes) (r : Record) → blanks (w ∷ ws) r ≤ empties (values_of w r) + blanks ws r
blanks-one w ws [] = omega arith
blanks-one w ws (f ∷ fs) = go (same w f.name) (same f.name w) (among f.name ws) (same-swap w f.name) (pick (is_filled f.value) 0 1) refl (blanks-one w ws fs)
  where
    go : (a b c : Bool) → a ≡ b → (e : ℕ) → pick (is_filled f.value) 0 1 ≡ e → blanks (w ∷ ws) fs ≤ empties (values_of w fs) + blanks ws fs
        → pick (b || c) e 0 + blanks (w ∷ ws) fs ≤ empties (pick a (f.value ∷ values_of w fs) (values_of w fs)) + (pick c e 0 + blanks ws fs)
    go true true true q e p h = omega (arith, p, h)
    go true true false q e p h = omega (arith, p, h)
    go true false c q e p h = absurd (false≢true (sym q))
    go false true c q e p h = absurd (false≢true q)
    go false false true q e p h = omega (arith, h)
    go false false false q e p h = omega (arith, h)

blanks-none : (r : Record) → blanks [] r ≡ 0
blanks-none [] = refl
blanks-none (f ∷ fs) = omega (arith, blanks-none fs)

blanks-few : (ws : List Bytes) (r : Record) → all (λ (n : Bytes). distinct (values_of n r)) ws ≡ true → blanks ws r ≤ length ws
blanks-few [] r e = omega (arith, blanks-none r)
blanks-few (w ∷ ws) r e =
    let h = (and-eq-true_iff (distinct (values_of w r)) (all (λ (n : Bytes). distinct (values_of n r)) ws)).0 e in
    omega (arith, blanks-one w ws r, one-empty (values_of w r) h.0, blanks-few ws r h.1)

-- the bytes that marked fields take
field-more : (ws : List Bytes) (n v : Bytes) (ls : List Line) (m k s : ℕ) → Sound (Piece.field n v ls) → 5 * m ≤ s + 2 * k → (a : Bool) → 5 * pick a (suc m) m ≤ count_of ls + s + 2 * (pick a (pick (is_filled v) 0 1) 0 + k)
field-more ws n v ls m k s h g false = omega (arith, g)
field-more ws n [] ls m k s h g true = omega (arith, g, field-size n [] ls h)
field-more ws n (c ∷ v) ls m k s h g true = omega (arith, g, filled-size n (c ∷ v) ls refl h)

marks-length : (a : Bool) (x : Bytes) (xs : List Bytes) → length (pick a (x ∷ xs) xs) ≡ pick a (suc (length xs)) (length xs)
marks-length true x xs = refl
marks-length false x xs = refl

sizes : (ws : List Bytes) (ps : List Piece) → Each Sound ps → 5 * length (marks ws (fields_of ps)) ≤ size_in ps + 2 * blanks ws (fields_of ps)
sizes ws [] h = omega arith
sizes ws (Piece.blank l ∷ ps) h = omega (arith, sizes ws ps h.1, size-piece (Piece.blank l) ps)
sizes ws (Piece.comment l ∷ ps) h = omega (arith, sizes ws ps h.1, size-piece (Piece.comment l) ps)
sizes ws (Piece.field n v ls ∷ ps) h =
    let f : Field = record { name = n; value = v; count = count_of ls } in
    omega (
      arith,
      marks-length (among n ws) (mark_of ws f) (marks ws (fields_of ps)),
      field-more ws n v ls (length (marks ws (fields_of ps))) (blanks ws (fields_of ps)) (size_in ps) h.0 (sizes ws ps h.1) (among n ws),
      size-piece (Piece.field n v ls) ps,
    )

-- so many that a table of 16,384 entries does not hold them are not distinct
pub many-alike : (ws : List Bytes) (s : Bytes) → is_readable s ≡ true → length s ≤ 65536 → length ws ≤ 64 → 16384 < length (marks ws (record_in s)) → all (λ (n : Bytes). distinct (values_of n (record_in s))) ws ≡ false
many-alike ws s e short few many =
    let r = readable-reads s e in
    by_bool (all (λ (n : Bytes). distinct (values_of n (record_in s))) ws)
    (λ q. absurd (omega (arith, sizes ws (read_of s) r.sound, reads-length r, blanks-few ws (record_in s) q)))
    (λ q. q)
