-- The directory by a walk over blocks and pieces: the entries of the descriptors from a byte on.
use Rattle.std.specs.Prelude.{◌≡◌, ℕ, suc, ◌+◌, Bool, true, false, not, ◌&&◌, ◌||◌, List, [], ◌∷◌, length}
use native.Mathlib.Omega.{arith}
use mathlib.Core.Path.{refl, sym, ap, ◌∙◌}
use Rattle.format.specs.Bytes.{Bytes, pick, any}
use Rattle.format.specs.Lists.{is_filled, filter, flat, front, onto, cut_at, until_last}
use Rattle.format.specs.Lines.{Line}
use Rattle.format.specs.Pieces.{Piece}
use Rattle.format.specs.Records.{Record, Block, blocks, count_of, fields_of, is_record, is_blank_line}
use Rattle.format.specs.Sets.{Group, rec_values, is_descriptor, is_member}
use Rattle.format.specs.Directory.{group_size, entries_from, entries_in, directory_of}
use Rattle.format.specs.declared.Entry.{Entry}
use Rattle.format.specs.Calls.{lead, from_first}
use Rattle.records.specs.Places.{Placed, size_in, placed_at, place_on, places_in, count_before}
use Rattle.records.specs.Sets.{set_end}
use Rattle.records.specs.Walk.{until_blank, from_blank}
use Rattle.records.proofs.Walks.{size-append, size-piece, size_none, run-blocks}
use Rattle.directory.specs.Blocks.{block_from}

-- the entry of a descriptor: where its block begins and ends, and the records behind it
abbrev pub head_entry : ℕ → ℕ → List Placed → Entry
head_entry place after ps = record { place = place; count = count_before ps; end = set_end after ps }

abbrev pub head_on : Bool → Entry → List Entry → List Entry
head_on true e es = e ∷ es
head_on false e es = es

-- the entries of the descriptors among blocks, the first block at a place
abbrev pub heads_in : ℕ → List Block → List Entry
heads_in at [] = []
heads_in at (b ∷ bs) = head_on (is_descriptor b) (head_entry (at + size_in (front is_blank_line b)) (at + size_in b) (places_in (at + size_in b) bs)) (heads_in (at + size_in b) bs)

-- groups and blocks

group-size : (b : Block) (g : Group) → group_size (b ∷ g) ≡ size_in b + group_size g
group-size b g = size-append b (flat g)

until_none : (g : Group) → any is_record g ≡ false → until_last is_record g ≡ []
until_none [] e = refl
until_none (b ∷ g) e = ap (λ (t : Bool). pick t (b ∷ until_last is_record g) []) e

until-size : (g : Group) (at : ℕ) → pick (any is_record g) (at + group_size (until_last is_record g)) at ≡ at + group_size (until_last is_record g)
until-size g at = go (any is_record g) refl
  where
    go : (t : Bool) → any is_record g ≡ t → pick t (at + group_size (until_last is_record g)) at ≡ at + group_size (until_last is_record g)
    go true e = refl
    go false e = omega (arith, ap (λ (x : Group). group_size x) (until_none g e), size_none)

-- a descriptor has a field
filled-rec : (r : Record) → is_filled (rec_values r) ≡ true → is_filled r ≡ true
filled-rec [] e = e
filled-rec (f ∷ r) e = refl

-- what a group of blocks from a place on holds: how many records, where they end, and the entries behind it
record Told (at : ℕ) (bs : List Block) (g : Group) (gs : List Group) : Type 0 where
  count : length (filter is_member g) ≡ count_before (places_in at bs)
  ends : (e : ℕ) → pick (any is_record g) (at + group_size (until_last is_record g)) e ≡ set_end e (places_in at bs)
  later : entries_from (at + group_size g) gs ≡ heads_in at bs

told-head : (at : ℕ) (b : Block) (bs : List Block) (g : Group) (gs : List Group) → is_descriptor b ≡ true → Told (at + size_in b) bs g gs → Told at (b ∷ bs) [] ((b ∷ g) ∷ gs)
unfolding count_before set_end
told-head at b bs g gs d h =
    let k : ℕ = at + size_in b in
    let there : is_filled (fields_of b) ≡ true = filled-rec (fields_of b) d in
    let placed : places_in at (b ∷ bs) ≡ placed_at at b ∷ places_in k bs = ap (λ (t : Bool). place_on t (placed_at at b) (places_in k bs)) there in
    let z : at + group_size [] ≡ at = omega (arith, size_none) in
    let number : length (filter is_member (b ∷ g)) ≡ count_before (places_in k bs) =
    ap (λ (t : Bool). length (pick t (b ∷ filter is_member g) (filter is_member g))) (λ i. there i && not (d i)) ∙ h.count in
    let last : at + group_size (until_last is_record (b ∷ g)) ≡ set_end k (places_in k bs) =
    ap (λ (t : Bool). at + group_size (pick (t || any is_record g) (b ∷ until_last is_record g) [])) there
    ∙ omega (arith, group-size b (until_last is_record g), until-size g k, h.ends k) in
    let rest : entries_from (at + group_size (b ∷ g)) gs ≡ heads_in k bs = ap (λ (n : ℕ). entries_from n gs) (omega (arith, group-size b g)) ∙ h.later in
    record {
      count = sym (ap count_before placed ∙ ap (λ (t : Bool). pick t 0 (suc (count_before (places_in k bs)))) d);
      ends = λ e. sym (ap (set_end e) placed ∙ ap (λ (t : Bool). pick t e (set_end k (places_in k bs))) d);
      later = ap (λ (n : ℕ). entries_from n ((b ∷ g) ∷ gs)) z ∙ (λ i. record { place = at + size_in (front is_blank_line b); count = number i; end = last i } ∷ rest i)
          ∙ sym (ap (λ (t : Bool). head_on t (head_entry (at + size_in (front is_blank_line b)) k (places_in k bs)) (heads_in k bs)) d);
    }

told-on : (at : ℕ) (b : Block) (bs : List Block) (g : Group) (gs : List Group) → is_descriptor b ≡ false → Told (at + size_in b) bs g gs → Told at (b ∷ bs) (b ∷ g) gs
unfolding count_before set_end
told-on at b bs g gs d h =
    let k : ℕ = at + size_in b in
    record {
      count = ap (λ (t : Bool). length (pick (is_record b && not t) (b ∷ filter is_member g) (filter is_member g))) d ∙ number (is_filled (fields_of b));
      ends = last (is_filled (fields_of b));
      later = ap (λ (n : ℕ). entries_from n gs) (omega (arith, group-size b g)) ∙ h.later
          ∙ sym (ap (λ (t : Bool). head_on t (head_entry (at + size_in (front is_blank_line b)) k (places_in k bs)) (heads_in k bs)) d);
    }
  where
    number : (t : Bool) → length (pick (t && true) (b ∷ filter is_member g) (filter is_member g)) ≡ count_before (place_on t (placed_at at b) (places_in (at + size_in b) bs))
    number true = ap suc h.count ∙ sym (ap (λ (t : Bool). pick t 0 (suc (count_before (places_in (at + size_in b) bs)))) d)
    number false = h.count

    last : (t : Bool) (e : ℕ) → pick (t || any is_record g) (at + group_size (pick (t || any is_record g) (b ∷ until_last is_record g) [])) e ≡ set_end e (place_on t (placed_at at b) (places_in (at + size_in b) bs))
    last true e =
        omega (arith, group-size b (until_last is_record g), until-size g (at + size_in b), h.ends (at + size_in b)) ∙ sym (ap (λ (t : Bool). pick t e (set_end (at + size_in b) (places_in (at + size_in b) bs))) d)
    last false e = go (any is_record g) ∙ h.ends e
      where
        go : (t : Bool) → pick t (at + group_size (pick t (b ∷ until_last is_record g) [])) e ≡ pick t (at + size_in b + group_size (until_last is_record g)) e
        go true = omega (arith, group-size b (until_last is_record g))
        go false = refl

told : (at : ℕ) (bs : List Block) → (g : Group) × (gs : List Group) × (cut_at is_descriptor bs ≡ g ∷ gs) × Told at bs g gs
unfolding count_before set_end
told at [] = ([], [], refl, record { count = refl; ends = λ e. refl; later = refl })
told at (b ∷ bs) = go (is_descriptor b) refl (told (at + size_in b) bs)
  where
    go : (t : Bool) → is_descriptor b ≡ t → (g : Group) × (gs : List Group) × (cut_at is_descriptor bs ≡ g ∷ gs) × Told (at + size_in b) bs g gs
        → (g : Group) × (gs : List Group) × (pick t ([] ∷ onto b (cut_at is_descriptor bs)) (onto b (cut_at is_descriptor bs)) ≡ g ∷ gs) × Told at (b ∷ bs) g gs
    go true d (g, gs, e, h) = ([], (b ∷ g) ∷ gs, ap {B = List Group} (λ xs. [] ∷ onto b xs) e, told-head at b bs g gs d h)
    go false d (g, gs, e, h) = (b ∷ g, gs, ap (onto b) e, told-on at b bs g gs d h)

-- The directory of pieces: the default set's entry, and those of the descriptors.
pub directory-walk : (ps : List Piece) → directory_of ps ≡ record { place = 0; count = count_before (places_in 0 (blocks ps)); end = set_end 0 (places_in 0 (blocks ps)) } ∷ heads_in 0 (blocks ps)
unfolding directory_of
directory-walk ps =
    let t = told 0 (blocks ps) in
    let g : Group = t.0 in
    let gs : List Group = t.1 in
    let last : 0 + group_size (until_last is_record g) ≡ set_end 0 (places_in 0 (blocks ps)) = sym (until-size g 0) ∙ t.3.ends 0 in
    let rest : entries_from (group_size g) gs ≡ heads_in 0 (blocks ps) = ap (λ (n : ℕ). entries_from n gs) (omega arith) ∙ t.3.later in
    ap entries_in t.2 ∙ (λ i. record { place = 0; count = t.3.count i; end = last i } ∷ rest i)

-- Piece by piece: the first block, which goes to the first blank line, began at a byte, and what is left of it begins at another.
abbrev heads_open : ℕ → ℕ → List Block → List Entry
heads_open start at [] = []
heads_open start at (b ∷ bs) = head_on (is_descriptor b) (head_entry start (at + size_in b) (places_in (at + size_in b) bs)) (heads_in (at + size_in b) bs)

abbrev pub heads_run : ℕ → ℕ → List Piece → List Entry
heads_run start at [] = []
heads_run start at (p ∷ ps) =
    let k : ℕ = at + size_in (until_blank (p ∷ ps)) in
    head_on (is_descriptor (until_blank (p ∷ ps))) (head_entry start k (places_in k (blocks (from_blank (p ∷ ps))))) (heads_in k (blocks (from_blank (p ∷ ps))))

until_front : (ps : List Piece) → front is_blank_line (until_blank ps) ≡ []
until_front [] = refl
until_front (Piece.blank l ∷ ps) = refl
until_front (Piece.comment l ∷ ps) = refl
until_front (Piece.field n v ls ∷ ps) = refl

heads-open : (at : ℕ) (ps : List Piece) → heads_in at (blocks ps) ≡ heads_open at at (blocks ps)
heads-open at ps =
    let h = run-blocks ps in
    let u : Block = until_blank ps in
    ap (heads_in at) h.1
    ∙ ap (λ (n : ℕ). head_on (is_descriptor u) (head_entry n (at + size_in u) (places_in (at + size_in u) h.0)) (heads_in (at + size_in u) h.0)) (omega (arith, ap (λ (x : Block). size_in x) (until_front ps), size_none))
    ∙ sym (ap (heads_open at at) h.1)

-- an empty block has no entry and no place
heads-empty : (at : ℕ) (bs : List Block) → heads_in at ([] ∷ bs) ≡ heads_in at bs
heads-empty at bs = ap (λ (n : ℕ). heads_in n bs) (omega (arith, size_none))

places-empty : (at : ℕ) (bs : List Block) → places_in at ([] ∷ bs) ≡ places_in at bs
places-empty at bs = ap (λ (n : ℕ). places_in n bs) (omega (arith, size_none))

heads-blank : (start at : ℕ) (l : Line) (ps : List Piece) → heads_open start at (blocks (Piece.blank l ∷ ps)) ≡ heads_open (at + count_of (l ∷ [])) (at + count_of (l ∷ [])) (blocks ps)
heads-blank start at l ps =
    let p : Piece = Piece.blank l in
    let k : ℕ = at + count_of (l ∷ []) in
    let h = run-blocks ps in
    let u : Block = until_blank ps in
    let z : at + size_in [] ≡ at = omega (arith, size_none) in
    let a : at + size_in (p ∷ front is_blank_line u) ≡ k = omega (arith, size-piece p (front is_blank_line u), ap (λ (x : Block). size_in x) (until_front ps), size_none) in
    let b : at + size_in (p ∷ u) ≡ k + size_in u = omega (arith, size-piece p u) in
    ap (λ (n : ℕ). heads_in n (onto p (blocks ps))) z ∙ ap (λ (bs : List Block). heads_in at (onto p bs)) h.1
    ∙ (λ i. head_on (is_descriptor u) (head_entry (a i) (b i) (places_in (b i) h.0)) (heads_in (b i) h.0)) ∙ sym (ap (heads_open k k) h.1)

heads-comment : (start at : ℕ) (l : Line) (ps : List Piece) → heads_open start at (blocks (Piece.comment l ∷ ps)) ≡ heads_open start (at + count_of (l ∷ [])) (blocks ps)
heads-comment start at l ps =
    let p : Piece = Piece.comment l in
    let k : ℕ = at + count_of (l ∷ []) in
    let h = run-blocks ps in
    let u : Block = until_blank ps in
    let b : at + size_in (p ∷ u) ≡ k + size_in u = omega (arith, size-piece p u) in
    ap (λ (bs : List Block). heads_open start at (onto p bs)) h.1
    ∙ (λ i. head_on (is_descriptor u) (head_entry start (b i) (places_in (b i) h.0)) (heads_in (b i) h.0)) ∙ sym (ap (heads_open start k) h.1)

heads-field : (start at : ℕ) (n v : Bytes) (ls : List Line) (ps : List Piece) → heads_open start at (blocks (Piece.field n v ls ∷ ps)) ≡ heads_run start at (Piece.field n v ls ∷ ps)
heads-field start at n v ls ps =
    let f : Piece = Piece.field n v ls in
    let h = run-blocks (f ∷ ps) in
    let u : Block = until_blank (f ∷ ps) in
    let k : ℕ = at + size_in u in
    let places : places_in k h.0 ≡ places_in k (blocks (from_blank (f ∷ ps))) = sym (ap (places_in k) h.2 ∙ places-empty k h.0) in
    let heads : heads_in k h.0 ≡ heads_in k (blocks (from_blank (f ∷ ps))) = sym (ap (heads_in k) h.2 ∙ heads-empty k h.0) in
    ap (heads_open start at) h.1 ∙ (λ i. head_on (is_descriptor u) (head_entry start k (places i)) (heads i))

open-walk : (start at : ℕ) (ps : List Piece) → heads_open start at (blocks ps) ≡ heads_run (block_from start at ps) (at + size_in (lead ps)) (from_first ps)
unfolding block_from
open-walk start at [] = refl
open-walk start at (Piece.blank l ∷ ps) =
    let k : ℕ = at + count_of (l ∷ []) in
    heads-blank start at l ps ∙ open-walk k k ps ∙ ap (λ (n : ℕ). heads_run (block_from k k ps) n (from_first ps)) (omega (arith, size-piece (Piece.blank l) (lead ps)))
open-walk start at (Piece.comment l ∷ ps) =
    let k : ℕ = at + count_of (l ∷ []) in
    heads-comment start at l ps ∙ open-walk start k ps ∙ ap (λ (n : ℕ). heads_run (block_from start k ps) n (from_first ps)) (omega (arith, size-piece (Piece.comment l) (lead ps)))
open-walk start at (Piece.field n v ls ∷ ps) =
    heads-field start at n v ls ps ∙ ap (λ (k : ℕ). heads_run start k (Piece.field n v ls ∷ ps)) (omega (arith, size_none))

pub heads-walk : (at : ℕ) (ps : List Piece) → heads_in at (blocks ps) ≡ heads_run (block_from at at ps) (at + size_in (lead ps)) (from_first ps)
heads-walk at ps = heads-open at ps ∙ open-walk at at ps

-- where a block begins, counted from elsewhere
pub block-raised : (a start at : ℕ) (ps : List Piece) → block_from (a + start) (a + at) ps ≡ a + block_from start at ps
unfolding block_from
block-raised a start at [] = refl
block-raised a start at (Piece.blank l ∷ ps) = let k : ℕ = at + count_of (l ∷ []) in ap (λ (n : ℕ). block_from n n ps) (omega arith) ∙ block-raised a k k ps
block-raised a start at (Piece.comment l ∷ ps) = let k : ℕ = at + count_of (l ∷ []) in ap (λ (n : ℕ). block_from (a + start) n ps) (omega arith) ∙ block-raised a start k ps
block-raised a start at (Piece.field n v ls ∷ ps) = refl
