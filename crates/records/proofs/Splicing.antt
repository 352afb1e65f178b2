-- What an edit of the file's k-th record does to the bytes: one splice at the record's place.
use Rattle.std.specs.Prelude.{Some}
use Prim.Native.Nat.{ℕ, zero, suc, ◌+◌, ◌-◌, ◌<◌}
use native.Mathlib.Omega.{arith}
use mathlib.Core.Path.{◌≡◌, refl, sym, ap, ◌∙◌, subst}
use mathlib.Core.Bool.{Bool, true, false}
use mathlib.Core.List.{List, [], ◌∷◌, ◌++◌, append_assoc, append-nil, map}
use mathlib.Core.Option.{some, none-ne-some, some-injective}
use lib.ListN.{length, take, drop, get_elem?}
use lib.Seq.{drop-drop, drop-append-le}
use Rattle.format.proofs.Lists.{flat_append}
use Rattle.format.proofs.Fates.{fresh, flat-blocks}
use Rattle.format.proofs.Ordinals.{on_record}
use Rattle.format.specs.Lists.{flat, is_filled, turn}
use Rattle.format.specs.Bytes.{Bytes}
use Rattle.format.specs.Lines.{Line, bytes}
use Rattle.format.specs.Pieces.{Piece, bytes_of}
use Rattle.format.specs.Records.{Block, blocks, fields_of}
use Rattle.format.specs.Written.{Pair, written, written_all, new_piece}
use Rattle.format.specs.Edits.{Change, Act, change_piece, renamed_lines, unfielded, newline, in_block}
use Rattle.format.specs.Calls.{lead}
use Rattle.format.proofs.Elements.{Each, each-parts}
use Rattle.format.proofs.Whole.{Sound}
use Rattle.format.proofs.Splices.{spliced, splice, splice-from, splice-behind, piece_bytes, new-bytes, newline-bytes, rename-bytes}
use Rattle.records.specs.Places.{Placed, size_in, placed_at, place_on, places_in, field_in, field_place}
use Rattle.records.proofs.Walks.{size-append, size-piece, size_none}
use Rattle.records.proofs.Readings.{Reads, reads_of, reads-take, reads-drop}
use Rattle.records.proofs.Fields.{field-read}
use Rattle.records.proofs.Unfielding.{left_of}
use Rattle.records.proofs.Parting.{own_of, Parted, parted, Picked, Picks, picks, block-changed}

-- The k-th record of blocks, the first of them at a place: its block, the pieces before and behind it, and where an edit works.
record CutIn (bs : List Block) (at k : ℕ) (p : Placed) : Type 0 where
  before : List Piece
  block : Block
  behind : List Piece
  filled : is_filled (fields_of block) ≡ true
  all : before ++ (block ++ behind) ≡ flat bs
  is : placed_at (at + size_in before) block ≡ p
  edited : (f : Block → List Block) → flat (on_record k f bs) ≡ before ++ (flat (f block) ++ behind)

module _ (b : Block) (bs : List Block) (at : ℕ) (p : Placed) where
  cut_on : (k j : ℕ) → ((f : Block → List Block) → on_record k f (b ∷ bs) ≡ b ∷ on_record j f bs) → CutIn bs (at + size_in b) j p → CutIn (b ∷ bs) at k p
  cut_on k j e c =
      record {
        before = b ++ c.before;
        block = c.block;
        behind = c.behind;
        filled = c.filled;
        all = append_assoc b c.before (c.block ++ c.behind) ∙ ap (λ (x : List Piece). b ++ x) c.all;
        is = ap (λ (x : ℕ). placed_at x c.block) (omega (arith, size-append b c.before)) ∙ c.is;
        edited = λ f. ap flat (e f) ∙ ap (λ (x : List Piece). b ++ x) (c.edited f) ∙ sym (append_assoc b c.before (flat (f c.block) ++ c.behind));
      }

  cut-here : is_filled (fields_of b) ≡ true → placed_at at b ≡ p → CutIn (b ∷ bs) at 0 p
  cut-here e q =
      record {
        before = [];
        block = b;
        behind = flat bs;
        filled = e;
        all = refl;
        is = ap (λ (x : ℕ). placed_at x b) (omega (arith, size_none)) ∙ q;
        edited = λ f. ap (λ (t : Bool). flat (turn t 0 (f b ++ bs) (λ (j : ℕ). b ∷ on_record j f bs))) e ∙ flat_append (f b) bs;
      }

  cut_by : (t : Bool) (k : ℕ) → is_filled (fields_of b) ≡ t → ((j : ℕ) → get_elem? (places_in (at + size_in b) bs) j ≡ some p → CutIn bs (at + size_in b) j p)
      → get_elem? (place_on t (placed_at at b) (places_in (at + size_in b) bs)) k ≡ some p → CutIn (b ∷ bs) at k p
  cut_by false k e ih h = cut_on k k (λ f. ap (λ (t : Bool). turn t k (f b ++ bs) (λ (j : ℕ). b ∷ on_record j f bs)) e) (ih k h)
  cut_by true zero e ih h = cut-here e (some-injective (placed_at at b) p h)
  cut_by true (suc k) e ih h = cut_on (suc k) k (λ f. ap (λ (t : Bool). turn t (suc k) (f b ++ bs) (λ (j : ℕ). b ∷ on_record j f bs)) e) (ih k h)

cut_in : (bs : List Block) (at k : ℕ) (p : Placed) → get_elem? (places_in at bs) k ≡ some p → CutIn bs at k p
cut_in [] at k p h = absurd (none-ne-some p h)
cut_in (b ∷ bs) at k p h = cut_by b bs at p (is_filled (fields_of b)) k refl (λ j. cut_in bs (at + size_in b) j p) h

-- the same of pieces
pub record Cut (ps : List Piece) (k : ℕ) (p : Placed) : Type 0 where
  pub before : List Piece
  pub block : Block
  pub behind : List Piece
  pub filled : is_filled (fields_of block) ≡ true
  pub all : before ++ (block ++ behind) ≡ ps
  pub is : placed_at (size_in before) block ≡ p
  pub edited : (f : Block → List Block) → flat (on_record k f (blocks ps)) ≡ before ++ (flat (f block) ++ behind)

pub cut : (ps : List Piece) (k : ℕ) (p : Placed) → get_elem? (places_in 0 (blocks ps)) k ≡ some p → Cut ps k p
cut ps k p h =
    let c = cut_in (blocks ps) 0 k p h in
    record {
      before = c.before;
      block = c.block;
      behind = c.behind;
      filled = c.filled;
      all = c.all ∙ flat-blocks ps;
      is = ap (λ (x : ℕ). placed_at x c.block) (omega arith) ∙ c.is;
      edited = c.edited;
    }

-- pieces with the k-th record's block acted on
abbrev pub acted : ℕ → Act → List Piece → List Piece
acted k a ps = flat (on_record k (λ (b : Block). in_block a b ∷ []) (blocks ps))

regroup : (a l o n t z : List Piece) → a ++ (((l ++ (o ++ (n ++ t))) ++ []) ++ z) ≡ (a ++ (l ++ o)) ++ (n ++ (t ++ z))
regroup a l o n t z = simp (append_assoc, append-nil)

module _ {s : Bytes} {ps : List Piece} {k : ℕ} {p : Placed} (r : Reads s ps) (c : Cut ps k p) where
  -- the record's block and its parts
  abbrev b : Block
  b = c.block

  h : Parted b
  h = parted b c.filled

  starts : size_in c.before + size_in (lead b) ≡ p.start
  starts = ap (λ (x : Placed). x.start) c.is

  ends : size_in c.before + size_in (lead b) + size_in (own_of b) ≡ p.end
  ends = ap (λ (x : Placed). x.end) c.is

  -- pieces m of the block, from a to e: new ones in their place are a splice
  module _ (l o m t : List Piece) (a e : ℕ) (parts : l ++ (o ++ (m ++ t)) ≡ b) (begins : size_in c.before + size_in l + size_in o ≡ a) (closes : a + size_in m ≡ e) where
    whole : bytes_of ((c.before ++ (l ++ o)) ++ (m ++ (t ++ c.behind))) ≡ s
    whole = ap bytes_of (sym (regroup c.before l o m t c.behind) ∙ ap (λ (x : List Piece). c.before ++ (x ++ c.behind)) (append-nil (l ++ (o ++ (m ++ t))) ∙ parts) ∙ c.all) ∙ r.all

    front : size_in (c.before ++ (l ++ o)) ≡ a
    front = omega (arith, size-append c.before (l ++ o), size-append l o)

    in-block : (f : Block → List Block) (new : List Piece) → flat (f b) ≡ (l ++ (o ++ (new ++ t))) ++ [] → bytes_of (flat (on_record k f (blocks ps))) ≡ spliced s a e (bytes_of new)
    in-block f new e' =
        ap bytes_of (c.edited f ∙ ap (λ (x : List Piece). c.before ++ (x ++ c.behind)) e' ∙ regroup c.before l o new t c.behind)
        ∙ splice s (c.before ++ (l ++ o)) m (t ++ c.behind) a e whole front closes new

    in_place : drop a s ≡ bytes_of m ++ drop e s
    in_place =
        let x : List Piece = c.before ++ (l ++ o) in
        let y : List Piece = t ++ c.behind in
        splice-from s x m y a e whole front closes ∙ ap (λ (z : Bytes). bytes_of m ++ z) (sym (splice-behind s x m y a e whole front closes))

  -- insert: behind the block
  pub insert-bytes : (new : List Pair) → bytes_of (flat (on_record k (λ (x : Block). x ∷ fresh new ∷ []) (blocks ps))) ≡ spliced s p.after p.after (10 ∷ written_all new)
  insert-bytes new =
      let n : List Piece = newline ∷ map new_piece new in
      let x : size_in c.before + size_in b ≡ p.after = ap (λ (x : Placed). x.after) c.is in
      in-block b [] [] [] p.after p.after (append-nil b) (omega (arith, size_none)) (omega (arith, size_none)) (λ (x : Block). x ∷ fresh new ∷ []) n (sym (append-nil (b ++ (n ++ []))))
      ∙ ap (spliced s p.after p.after) (newline-bytes new)

  -- add: behind the last field
  pub add-bytes : (q : Pair) → bytes_of (acted k (Act.add q) ps) ≡ spliced s p.end p.end (written q.name q.value)
  add-bytes q =
      in-block (lead b) (own_of b) [] h.last p.end p.end h.all ends (omega (arith, size_none)) (λ (x : Block). in_block (Act.add q) x ∷ []) (new_piece q ∷ []) (ap (λ (x : Block). x ++ []) (h.added (new_piece q)))
      ∙ ap (spliced s p.end p.end) (new-bytes q)

  -- the record's own part reads as the pieces from its first field to its last
  pub own-reads : Reads (take (p.end - p.start) (drop p.start s)) (own_of b)
  own-reads =
      let e : (c.before ++ lead b) ++ (own_of b ++ (h.last ++ c.behind)) ≡ ps = regrouped ∙ c.all in
      let d : Reads (drop p.start s) (own_of b ++ (h.last ++ c.behind)) = reads-drop (c.before ++ lead b) (own_of b ++ (h.last ++ c.behind)) (subst (Reads s) (sym e) r) p.start (size-append c.before (lead b) ∙ starts) in
      reads-take (own_of b) (h.last ++ c.behind) d (p.end - p.start) (omega (arith, starts, ends))
    where
      regrouped : (c.before ++ lead b) ++ (own_of b ++ (h.last ++ c.behind)) ≡ c.before ++ (b ++ c.behind)
      regrouped =
          append_assoc c.before (lead b) (own_of b ++ (h.last ++ c.behind))
          ∙ ap (λ (x : List Piece). c.before ++ x) (ap (λ (x : List Piece). lead b ++ x) (sym (append_assoc (own_of b) h.last c.behind)) ∙ sym (append_assoc (lead b) (own_of b ++ h.last) c.behind) ∙ ap (λ (x : Block). x ++ c.behind) h.all)

  -- delete: the pieces from the first field to the last lose their fields
  pub delete-bytes : bytes_of (acted k Act.delete ps) ≡ spliced s p.start p.end (left_of (take (p.end - p.start) (drop p.start s)))
  delete-bytes =
      in-block (lead b) [] (own_of b) h.last p.start p.end h.all (omega (arith, starts, size_none)) (omega (arith, starts, ends)) (λ (x : Block). in_block Act.delete x ∷ []) (unfielded (own_of b)) (ap (λ (x : Block). x ++ []) h.deleted)
      ∙ ap (λ (x : Block). spliced s p.start p.end (bytes_of (unfielded x))) (sym (reads_of own-reads))

  -- a change of the o-th field of a name, which stands from a to e in the record's own part
  module _ (n : Bytes) (o a v e : ℕ) (found : field_place n (take (p.end - p.start) (drop p.start s)) o ≡ Some (record { start = a; value = v; end = e })) where
    -- the field among the record's pieces
    f : Picked n o (own_of b) 0 a e
    f = subst (Picks n o (own_of b) 0) (sym (ap (λ (x : Block). field_in n x 0 o) (reads_of own-reads)) ∙ sym (field-read n (take (p.end - p.start) (drop p.start s)) o) ∙ found) (picks n (own_of b) 0 o)

    abbrev field : Piece
    field = Piece.field n f.value f.own

    field-parts : lead b ++ (f.before ++ ((field ∷ []) ++ (f.behind ++ h.last))) ≡ b
    field-parts = ap (λ (x : Block). lead b ++ x) (sym (append_assoc f.before (field ∷ f.behind) h.last) ∙ ap (λ (x : Block). x ++ h.last) f.all) ∙ h.all

    field-begins : size_in c.before + size_in (lead b) + size_in f.before ≡ p.start + a
    field-begins = omega (arith, starts, f.begins)

    field-ends : p.start + a + size_in (field ∷ []) ≡ p.start + e
    field-ends = omega (arith, f.ends, size-piece field [], size_none)

    change-bytes : (d : Change) → bytes_of (acted k (Act.change n o d) ps) ≡ spliced s (p.start + a) (p.start + e) (bytes_of (change_piece d field))
    change-bytes d =
        in-block (lead b) f.before (field ∷ []) (f.behind ++ h.last) (p.start + a) (p.start + e) field-parts field-begins field-ends (λ (x : Block). in_block (Act.change n o d) x ∷ []) (change_piece d field)
        (ap (λ (x : Block). x ++ []) (block-changed n o (change_piece d) b 0 a e h f))

    pub value-bytes : (w : Bytes) → bytes_of (acted k (Act.change n o (Change.value w)) ps) ≡ spliced s (p.start + a) (p.start + e) (written n w)
    value-bytes w = change-bytes (Change.value w) ∙ ap (spliced s (p.start + a) (p.start + e)) (new-bytes (record { name = n; value = w }))

    pub dropped-bytes : bytes_of (acted k (Act.change n o Change.dropped) ps) ≡ spliced s (p.start + a) (p.start + e) []
    unfolding bytes_of
    dropped-bytes = change-bytes Change.dropped

    field-sound : Sound field
    field-sound = (each-parts Sound f.before (field ∷ f.behind) (subst (λ (x : List Piece). Each Sound x) (sym f.all) own-reads.sound)).1.0

    -- the name stands inside the field
    pub name-within : a + length n < e
    name-within = omega (arith, (rename-bytes n f.value f.own [] field-sound).0, f.ends)

    pub name-bytes : (m : Bytes) → bytes_of (acted k (Act.change n o (Change.name m)) ps) ≡ spliced s (p.start + a) (p.start + a + length n) m
    name-bytes m =
        let x : ℕ = p.start + a in
        let y : ℕ = p.start + e in
        let ls : List Line = f.own in
        let g = rename-bytes n f.value ls m field-sound in
        let d : drop (x + length n) s ≡ drop (length n) (bytes ls) ++ drop y s =
        sym (drop-drop (length n) x s) ∙ ap (drop (length n)) (in_place (lead b) f.before (field ∷ []) (f.behind ++ h.last) x y field-parts field-begins field-ends ∙ ap (λ (z : Bytes). z ++ drop y s) (piece_bytes field))
        ∙ drop-append-le (length n) (bytes ls) (drop y s) (omega (arith, g.0)) in
        change-bytes (Change.name m)
        ∙ ap (λ (z : Bytes). take x s ++ (z ++ drop y s)) (piece_bytes (Piece.field m f.value (renamed_lines n m ls)) ∙ g.1)
        ∙ ap (λ (z : Bytes). take x s ++ z) (append_assoc m (drop (length n) (bytes ls)) (drop y s) ∙ ap (λ (z : Bytes). m ++ z) (sym d))
