-- A walk over the pieces finds the places of the records: past what stands before the first field, then to the first blank line behind it.
use Prim.Native.Nat.{ℕ, ◌+◌}
use native.Mathlib.Omega.{arith}
use mathlib.Core.Path.{◌≡◌, refl, sym, ap, ◌∙◌}
use mathlib.Core.Bool.{Bool, true, false, ◌||◌, or_assoc, or-false}
use mathlib.Core.List.{List, [], ◌∷◌, ◌++◌, append-nil, map}
use lib.ListN.{length, length-append}
use Rattle.format.proofs.Records.{close, records_in, records}
use Rattle.format.specs.Lists.{is_filled, onto}
use Rattle.format.specs.Bytes.{Bytes, text, pick, same}
use Rattle.format.specs.Lines.{Line}
use Rattle.format.specs.Pieces.{Piece, lines_of, bytes_of}
use Rattle.format.specs.Records.{Record, Block, blocks, count_of, fields_of}
use Rattle.format.specs.Sets.{values_of}
use Rattle.format.specs.Calls.{lead, from_first, to_last}
use Rattle.format.proofs.Whole.{bytesOf-append}
use Rattle.format.proofs.Walking.{is_head}
use Rattle.records.specs.Places.{Placed, size_in, placed_at, place_on, places_in}
use Rattle.records.specs.Walk.{until_blank, from_blank, run_from}
use Rattle.records.specs.declared.Run.{Run}

-- sizes of pieces, one after another

pub size-append : (a b : List Piece) → size_in (a ++ b) ≡ size_in a + size_in b
size-append a b = ap length (bytesOf-append a b) ∙ length-append (bytes_of a) (bytes_of b)

pub size-piece : (p : Piece) (ps : List Piece) → size_in (p ∷ ps) ≡ count_of (lines_of p) + size_in ps
unfolding bytes_of
size-piece p ps = size-append (p ∷ []) ps ∙ ap (λ (x : List Line). count_of x + size_in ps) (append-nil (lines_of p))

pub size_none : size_in [] ≡ 0
unfolding bytes_of
size_none = refl

-- places with the same parts are the same
pub placed-path : (p q : Placed) → p.start ≡ q.start → p.end ≡ q.end → p.after ≡ q.after → p.fields ≡ q.fields → p ≡ q
placed-path p q a b c d = λ i. record { start = a i; end = b i; after = c i; fields = d i }

-- a piece that is no field
abbrev pub Loose : Piece → Type 0
Loose p = (b : Block) → (fields_of (p ∷ b) ≡ fields_of b) × (lead (p ∷ b) ≡ p ∷ lead b) × (from_first (p ∷ b) ≡ from_first b)

pub blank-loose : (l : Line) → Loose (Piece.blank l)
blank-loose l b = (refl, refl, refl)

pub comment-loose : (l : Line) → Loose (Piece.comment l)
comment-loose l b = (refl, refl, refl)

-- in front of blocks it moves them on
onto-loose : (at : ℕ) (p : Piece) (bs : List Block) → Loose p → places_in at (onto p bs) ≡ places_in (at + count_of (lines_of p)) bs
onto-loose at p [] h = ap (λ (r : Record). place_on (is_filled r) (placed_at at (p ∷ [])) []) (h []).0
onto-loose at p (b ∷ bs) h =
    let k : ℕ = at + count_of (lines_of p) in
    let x = size-piece p (lead b) in
    let y = size-piece p b in
    let z = ap size_in (h b).1 in
    let w = ap (λ (c : Block). size_in (to_last c)) (h b).2 in
    let q : placed_at at (p ∷ b) ≡ placed_at k b = placed-path (placed_at at (p ∷ b)) (placed_at k b) (omega arith) (omega arith) (omega arith) (h b).0 in
    let e : at + size_in (p ∷ b) ≡ k + size_in b = omega arith in
    λ i. place_on (is_filled ((h b).0 i)) (q i) (places_in (e i) bs)

-- an empty block has no place
places-empty : (at : ℕ) (bs : List Block) → places_in at ([] ∷ bs) ≡ places_in at bs
places-empty at bs = ap (λ (n : ℕ). places_in n bs) (omega (arith, size_none))

pub places-blank : (at : ℕ) (l : Line) (ps : List Piece) → places_in at (blocks (Piece.blank l ∷ ps)) ≡ places_in (at + count_of (l ∷ [])) (blocks ps)
places-blank at l ps = places-empty at (onto (Piece.blank l) (blocks ps)) ∙ onto-loose at (Piece.blank l) (blocks ps) (blank-loose l)

pub places-comment : (at : ℕ) (l : Line) (ps : List Piece) → places_in at (blocks (Piece.comment l ∷ ps)) ≡ places_in (at + count_of (l ∷ [])) (blocks ps)
places-comment at l ps = onto-loose at (Piece.comment l) (blocks ps) (comment-loose l)

-- the first block goes to the first blank line, and the others begin there
pub run-blocks : (ps : List Piece) → (bs : List Block) × (blocks ps ≡ until_blank ps ∷ bs) × (blocks (from_blank ps) ≡ [] ∷ bs)
run-blocks [] = ([], refl, refl)
run-blocks (Piece.blank l ∷ ps) = (onto (Piece.blank l) (blocks ps), refl, refl)
run-blocks (Piece.comment l ∷ ps) = let h = run-blocks ps in (h.0, ap (onto (Piece.comment l)) h.1, h.2)
run-blocks (Piece.field n v ls ∷ ps) = let h = run-blocks ps in (h.0, ap (onto (Piece.field n v ls)) h.1, h.2)

-- the place of the record that pieces begin with, and the pieces behind it
abbrev pub placed_run : ℕ → List Piece → Placed
placed_run at ps = record { start = at; end = at + size_in (to_last (until_blank ps)); after = at + size_in (until_blank ps); fields = fields_of (until_blank ps) }

abbrev pub places_run : ℕ → List Piece → List Placed
places_run at [] = []
places_run at (p ∷ ps) = placed_run at (p ∷ ps) ∷ places_in (at + size_in (until_blank (p ∷ ps))) (blocks (from_blank (p ∷ ps)))

pub places-field : (at : ℕ) (n v : Bytes) (ls : List Line) (ps : List Piece) → places_in at (blocks (Piece.field n v ls ∷ ps)) ≡ places_run at (Piece.field n v ls ∷ ps)
places-field at n v ls ps =
    let f : Piece = Piece.field n v ls in
    let h = run-blocks (f ∷ ps) in
    let u : Block = until_blank (f ∷ ps) in
    let z = size_none in
    let p : placed_at at u ≡ placed_run at (f ∷ ps) = placed-path (placed_at at u) (placed_run at (f ∷ ps)) (omega arith) (omega arith) refl refl in
    ap (places_in at) h.1 ∙ ap {B = List Placed} (λ q. q ∷ places_in (at + size_in u) h.0) p
    ∙ ap {B = List Placed} (λ xs. placed_run at (f ∷ ps) ∷ xs) (sym (ap (places_in (at + size_in u)) h.2 ∙ places-empty (at + size_in u) h.0))

-- the places of pieces, by what stands before the first field
pub places-walk : (at : ℕ) (ps : List Piece) → places_in at (blocks ps) ≡ places_run (at + size_in (lead ps)) (from_first ps)
places-walk at [] = refl
places-walk at (Piece.blank l ∷ ps) =
    places-blank at l ps ∙ places-walk (at + count_of (l ∷ [])) ps ∙ ap (λ (k : ℕ). places_run k (from_first ps)) (omega (arith, size-piece (Piece.blank l) (lead ps)))
places-walk at (Piece.comment l ∷ ps) =
    places-comment at l ps ∙ places-walk (at + count_of (l ∷ [])) ps ∙ ap (λ (k : ℕ). places_run k (from_first ps)) (omega (arith, size-piece (Piece.comment l) (lead ps)))
places-walk at (Piece.field n v ls ∷ ps) =
    places-field at n v ls ps ∙ ap (λ (k : ℕ). places_run k (Piece.field n v ls ∷ ps)) (omega (arith, size_none))

-- the fields of the places are the records
fields-on : (at : ℕ) (r : Record) (b : Block) (xs : List Placed) (rs : List Record) → fields_of b ≡ r → map (λ (p : Placed). p.fields) xs ≡ rs → map (λ (p : Placed). p.fields) (place_on (is_filled r) (placed_at at b) xs) ≡ close r rs
fields-on at [] b xs rs e h = h
fields-on at (f ∷ fs) b xs rs e h = λ i. e i ∷ h i

fields_in : (at : ℕ) (bs : List Block) → map (λ (p : Placed). p.fields) (places_in at bs) ≡ records_in bs
fields_in at [] = refl
fields_in at (b ∷ bs) = fields-on at (fields_of b) b (places_in (at + size_in b) bs) (records_in bs) refl (fields_in (at + size_in b) bs)

pub places-records : (at : ℕ) (ps : List Piece) → map (λ (p : Placed). p.fields) (places_in at (blocks ps)) ≡ records ps
unfolding records
places-records at ps = fields_in at (blocks ps)

-- The fold over a record's pieces finds where it ends, where its block ends, and whether it is a descriptor.

abbrev pub end_from : ℕ → ℕ → Block → ℕ
end_from at end b = pick (is_filled (fields_of b)) (at + size_in (to_last b)) end

there-on : (t : Bool) (v : Bytes) (vs : List Bytes) → is_filled (pick t (v ∷ vs) vs) ≡ (t || is_filled vs)
there-on true v vs = refl
there-on false v vs = refl

abbrev pub has_rec : Block → Bool
has_rec b = is_head (fields_of b)

run-path : (r q : Run) → r.end ≡ q.end → r.after ≡ q.after → r.descriptor ≡ q.descriptor → r ≡ q
run-path r q a b c = λ i. record { end = a i; after = b i; descriptor = c i }

abbrev pub run_told : ℕ → ℕ → Bool → Block → Run
run_told at end d b = record { end = end_from at end b; after = at + size_in b; descriptor = d || has_rec b }

end-comment : (at end : ℕ) (l : Line) (b : Block) → end_from (at + count_of (l ∷ [])) end b ≡ end_from at end (Piece.comment l ∷ b)
end-comment at end l b = go (is_filled (fields_of b))
  where
    go : (t : Bool) → pick t (at + count_of (l ∷ []) + size_in (to_last b)) end ≡ pick t (at + size_in (pick t (Piece.comment l ∷ to_last b) [])) end
    go true = omega (arith, size-piece (Piece.comment l) (to_last b))
    go false = refl

to_none : (b : Block) → is_filled (fields_of b) ≡ false → to_last b ≡ []
to_none [] e = refl
to_none (p ∷ b) e = ap (λ (t : Bool). pick t (p ∷ to_last b) []) e

end-field : (at end : ℕ) (n v : Bytes) (ls : List Line) (b : Block) → end_from (at + count_of ls) (at + count_of ls) b ≡ end_from at end (Piece.field n v ls ∷ b)
end-field at end n v ls b = go (is_filled (fields_of b)) refl
  where
    go : (t : Bool) → is_filled (fields_of b) ≡ t → pick t (at + count_of ls + size_in (to_last b)) (at + count_of ls) ≡ at + size_in (Piece.field n v ls ∷ to_last b)
    go true e = omega (arith, size-piece (Piece.field n v ls) (to_last b))
    go false e = omega (arith, size-piece (Piece.field n v ls) (to_last b), ap (λ (x : Block). size_in x) (to_none b e), size_none)

pub run-told : (at end : ℕ) (d : Bool) (ps : List Piece) → run_from at end d ps ≡ run_told at end d (until_blank ps)
unfolding run_from
run-told at end d [] = run-path _ _ refl (omega (arith, size_none)) (sym (or-false d))
run-told at end d (Piece.blank l ∷ ps) = run-path _ _ refl (omega (arith, size_none)) (sym (or-false d))
run-told at end d (Piece.comment l ∷ ps) =
    let b : Block = until_blank ps in
    run-told (at + count_of (l ∷ [])) end d ps ∙ run-path (run_told (at + count_of (l ∷ [])) end d b) (run_told at end d (Piece.comment l ∷ b)) (end-comment at end l b) (omega (arith, size-piece (Piece.comment l) b)) refl
run-told at end d (Piece.field n v ls ∷ ps) =
    let b : Block = until_blank ps in
    let k : ℕ = at + count_of ls in
    let t : Bool = same (text "%rec") n in
    run-told k k (d || t) ps ∙ run-path (run_told k k (d || t) b) (run_told at end d (Piece.field n v ls ∷ b)) (end-field at end n v ls b) (omega (arith, size-piece (Piece.field n v ls) b)) (or_assoc d t (has_rec b) ∙ ap (λ (x : Bool). d || x) (sym (there-on t v (values_of (text "%rec") (fields_of b)))))
