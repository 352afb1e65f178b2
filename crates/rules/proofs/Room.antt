-- How many records a part can have: each takes four bytes, a name, a colon, a newline and the newline of a blank line, but for that of the last.
use Prim.Native.Nat.{suc, ◌+◌, ◌*◌, ◌≤◌, ◌<◌}
use native.Mathlib.Omega.{arith}
use mathlib.Core.Path.{◌≡◌, refl, ap}
use mathlib.Core.Bool.{true}
use mathlib.Core.List.{List, [], ◌∷◌}
use lib.ListN.{length, length-append}
use Rattle.format.proofs.Records.{records_in, records}
use Rattle.format.specs.Lists.{onto}
use Rattle.format.specs.Bytes.{Bytes}
use Rattle.format.specs.Lines.{Line, bytes}
use Rattle.format.specs.Pieces.{Piece, read_of}
use Rattle.format.specs.Records.{Block, blocks, count_of}
use Rattle.format.proofs.Elements.{Each}
use Rattle.format.proofs.Whole.{Sound}
use Rattle.format.proofs.Sizes.{field-size}
use Rattle.records.specs.Places.{is_readable, size_in}
use Rattle.records.proofs.Readings.{readable-reads, reads-length}
use Rattle.records.proofs.Walks.{size-piece}

line-size : (l : Line) → 0 < count_of (l ∷ [])
line-size l = omega (arith, length-append l (10 ∷ []))

-- the blocks behind the first begin with a blank line
abbrev later : List Block → List Block
later [] = []
later (b ∷ bs) = bs

later-onto : (p : Piece) (bs : List Block) → later (onto p bs) ≡ later bs
later-onto p [] = refl
later-onto p (b ∷ bs) = refl

blank-onto : (l : Line) (bs : List Block) → records_in (onto (Piece.blank l) bs) ≡ records_in bs
blank-onto l [] = refl
blank-onto l (b ∷ bs) = refl

comment-onto : (l : Line) (bs : List Block) → records_in (onto (Piece.comment l) bs) ≡ records_in bs
comment-onto l [] = refl
comment-onto l (b ∷ bs) = refl

field-onto : (n v : Bytes) (ls : List Line) (bs : List Block) → length (records_in (onto (Piece.field n v ls) bs)) ≡ suc (length (records_in (later bs)))
field-onto n v ls [] = refl
field-onto n v ls (b ∷ bs) = refl

sizes : (ps : List Piece) → Each Sound ps → (4 * length (records_in (blocks ps)) ≤ size_in ps + 1) × (4 * length (records_in (later (blocks ps))) ≤ size_in ps)
sizes [] h = (omega arith, omega arith)
sizes (Piece.blank l ∷ ps) h =
    let k = sizes ps h.1 in
    let e = ap length (blank-onto l (blocks ps)) in
    (omega (arith, k.0, e, size-piece (Piece.blank l) ps, line-size l), omega (arith, k.0, e, size-piece (Piece.blank l) ps, line-size l))
sizes (Piece.comment l ∷ ps) h =
    let k = sizes ps h.1 in
    let e = ap length (comment-onto l (blocks ps)) in
    let g = ap (λ (bs : List Block). length (records_in bs)) (later-onto (Piece.comment l) (blocks ps)) in
    (omega (arith, k.0, e, size-piece (Piece.comment l) ps), omega (arith, k.1, g, size-piece (Piece.comment l) ps))
sizes (Piece.field n v ls ∷ ps) h =
    let k = sizes ps h.1 in
    let e = field-onto n v ls (blocks ps) in
    let g = ap (λ (bs : List Block). length (records_in bs)) (later-onto (Piece.field n v ls) (blocks ps)) in
    (omega (arith, k.1, e, size-piece (Piece.field n v ls) ps, field-size n v ls h.0), omega (arith, k.1, g, size-piece (Piece.field n v ls) ps))

pub records-few : (s : Bytes) → is_readable s ≡ true → 4 * length (records (read_of s)) ≤ length s + 1
unfolding records
records-few s e = let r = readable-reads s e in omega (arith, (sizes (read_of s) r.sound).0, reads-length r)
