-- A file's pieces with a newline in front of them. Every block but the first then has a blank line at its head, and every edit, an insert into a default set without records too, is an edit of the one group that it names.
use Prim.Native.Nat.{ℕ, zero, suc}
use mathlib.Core.Path.{◌≡◌, refl, sym, ap, ◌∙◌, subst}
use mathlib.Core.Bool.{Bool, true, false, false≢true}
use mathlib.Core.List.{List, [], ◌∷◌, ◌++◌, map}
use lib.ListN.{get_or}
use Rattle.format.specs.Bytes.{Bytes, pick, any}
use Rattle.format.specs.Lists.{flat, filter, kept, onto, cut_at, turn, nth, behind_last}
use Rattle.format.specs.Pieces.{Piece, bytes_of}
use Rattle.format.specs.Records.{Block, is_field, is_loose, is_blank_line, blocks, fields_of, is_record}
use Rattle.format.specs.Sets.{is_descriptor, Group, groups, is_member, member_of, RecSet, set_of, sets_of}
use Rattle.format.specs.Written.{Pair, new_piece}
use Rattle.format.specs.Edits.{Change, Act, Edit, is_of, change_piece, in_block, newline, in_group, in_groups, in_front, edit_pieces}
use Rattle.format.specs.Calls.{from_first, to_last}
use Rattle.format.proofs.Elements.{Each, each_append, Filled, Has}
use Rattle.format.proofs.Lists.{None, each-filter, each-pick, each_on, each-behind, each-flat, flat-each, Starts, Parted, cut-parted, parted-filled, flat-cut, cut-flat, parted-nth}
use Rattle.format.proofs.Whole.{Sound, newline-sound}
use Rattle.format.proofs.Fates.{fresh, groups-pieces}
use Rattle.format.proofs.Named.{NewNames, NotRec}
use Rattle.format.proofs.Grouping.{SoundIn, member-record, starts-in, set_by}
use Rattle.format.proofs.Regrouping.{Place, new-unbroken, groups-parted, groups-each, others-place}
use Rattle.apart.specs.Looking.{texts_of}

-- a blank line at the head of a block and none behind it: an edit leaves it so

abbrev Unbroken : Piece → Type 0
Unbroken p = is_blank_line p ≡ false

abbrev Headed : Block → Type 0
Headed b = Starts is_blank_line false b

unbroken-change : (c : Change) (p : Piece) → Unbroken p → None is_blank_line (change_piece c p)
unbroken-change c (Piece.blank l) u = absurd (false≢true (sym u))
unbroken-change c (Piece.comment l) u = (refl, tt)
unbroken-change (Change.value w) (Piece.field n v ls) u = (refl, tt)
unbroken-change Change.dropped (Piece.field n v ls) u = tt
unbroken-change (Change.name m) (Piece.field n v ls) u = (refl, tt)

headed-in : (a : Act) (b : Block) → Headed b → Headed (in_block a b)
headed-in a [] h = absurd h
headed-in Act.delete (Piece.blank l ∷ b) h = (refl, each-filter Unbroken is_loose b h.1)
headed-in (Act.add p) (Piece.blank l ∷ b) h = (refl, each-pick Unbroken (any is_field b) (behind_last is_field (new_piece p) b) (new_piece p ∷ b) (each-behind Unbroken is_field (new_piece p) refl b h.1) (refl, h.1))
headed-in (Act.change n o c) (Piece.blank l ∷ b) h = (refl, each_on Unbroken (is_of n) (change_piece c) (λ p u e. unbroken-change c p u) b h.1 o)
headed-in a (Piece.comment l ∷ b) h = absurd (false≢true h.0)
headed-in a (Piece.field n v ls ∷ b) h = absurd (false≢true h.0)

headed-group : (e : Edit) (g : Group) → Each Headed g → Each Headed (in_group e g)
headed-group (Edit.insert new) g h = each-behind Headed is_record (fresh new) (refl, new-unbroken new) g h
headed-group (Edit.on j a) g h = each_on Headed is_member (λ (b : Block). in_block a b ∷ []) (λ b k e. (headed-in a b k, tt)) g h j

-- groups whose first block is empty and whose others all have such a head

abbrev Framed : List Group → Type 0
Framed [] = ⊥
Framed ([] ∷ gs) = ⊥
Framed (([] ∷ g) ∷ gs) = Each Headed g × Each (Each Headed) gs
Framed (((p ∷ b) ∷ g) ∷ gs) = ⊥

headed-nth : (e : Edit) (i : ℕ) (gs : List Group) → Each (Each Headed) gs → Each (Each Headed) (nth i (in_group e) gs)
headed-nth e i [] h = tt
headed-nth e zero (g ∷ gs) h = (headed-group e g h.0, h.1)
headed-nth e (suc i) (g ∷ gs) h = (h.0, headed-nth e i gs h.1)

framed-first : (e : Edit) (g : Group) (gs : List Group) → Each Headed g → Each (Each Headed) gs → Framed (in_group e ([] ∷ g) ∷ gs)
framed-first (Edit.insert new) g gs h k = (each-pick Headed (any is_record g) (in_group (Edit.insert new) g) (fresh new ∷ g) (headed-group (Edit.insert new) g h) ((refl, new-unbroken new), h), k)
framed-first (Edit.on j a) g gs h k = (headed-group (Edit.on j a) g h, k)

framed-nth : (e : Edit) (i : ℕ) (gs : List Group) → Framed gs → Framed (nth i (in_group e) gs)
framed-nth e i [] h = absurd h
framed-nth e i ([] ∷ gs) h = absurd h
framed-nth e zero (([] ∷ g) ∷ gs) h = framed-first e g gs h.0 h.1
framed-nth e (suc i) (([] ∷ g) ∷ gs) h = (h.0, headed-nth e i gs h.1)
framed-nth e i (((p ∷ b) ∷ g) ∷ gs) h = absurd h

headed-parted : (bs : List Block) → Each Headed bs → Parted is_blank_line false bs
headed-parted [] h = tt
headed-parted (b ∷ bs) h = (h.0, headed-parted bs h.1)

parted-headed : (bs : List Block) → Parted is_blank_line false bs → Each Headed bs
parted-headed [] h = tt
parted-headed (b ∷ bs) h = (h.0, parted-headed bs h.1)

framed-parted : (gs : List Group) → Framed gs → Parted is_blank_line true (flat gs)
framed-parted [] h = absurd h
framed-parted ([] ∷ gs) h = absurd h
framed-parted (([] ∷ g) ∷ gs) h = (tt, headed-parted (g ++ flat gs) (each_append Headed g (flat gs) h.0 (each-flat Headed gs h.1)))
framed-parted (((p ∷ b) ∷ g) ∷ gs) h = absurd h

-- those of pieces behind a newline
abbrev pub framed : List Piece → List Group
framed ps = groups (newline ∷ ps)

framed-onto : (gs : List Group) → Filled gs → Each (Each Headed) gs → Framed (onto [] gs)
framed-onto [] f h = absurd f
framed-onto (g ∷ gs) f h = h

framed_is : (ps : List Piece) → Framed (framed ps)
framed_is ps =
    let bs : List Block = onto newline (blocks ps) in
    let h : Each Headed bs = parted-headed bs (cut-parted is_blank_line (newline ∷ ps)).1 in
    framed-onto (cut_at is_descriptor bs) (parted-filled is_descriptor (cut_at is_descriptor bs) (cut-parted is_descriptor bs)) (flat-each Headed (cut_at is_descriptor bs) (subst (Each Headed) (sym (flat-cut is_descriptor bs)) h))

-- edited groups are cut again into themselves
groups-again : (e : Edit) → NewNames NotRec e → (i : ℕ) (ps : List Piece) → Each Sound ps → groups (in_groups i e (newline ∷ ps)) ≡ nth i (in_group e) (framed ps)
groups-again e names i ps sound =
    let gs : List Group = framed ps in
    ap (cut_at is_descriptor) (cut-flat is_blank_line (flat (nth i (in_group e) gs)) (framed-parted (nth i (in_group e) gs) (framed-nth e i gs (framed_is ps))))
    ∙ cut-flat is_descriptor (nth i (in_group e) gs) (parted-nth is_descriptor SoundIn (in_group e) (λ first g h k. starts-in e names first g h k) i true gs (groups-each Sound (newline ∷ ps) (newline-sound, sound)) (groups-parted (newline ∷ ps)))

-- The groups of a file whose first block is b, by those of the blocks behind it; and the same behind a newline.

abbrev plain_groups : Bool → Block → List Group → List Group
plain_groups t b cs = pick t ([] ∷ onto b cs) (onto b cs)

abbrev framed_groups : Bool → Block → List Group → List Group
framed_groups t b cs = onto [] (plain_groups t (newline ∷ b) cs)

-- an edit of the first group that has a block, behind a newline and without it
record-field : (b : Block) → is_record b ≡ true → any is_field b ≡ true
record-field [] e = e
record-field (Piece.blank l ∷ b) e = record-field b e
record-field (Piece.comment l ∷ b) e = record-field b e
record-field (Piece.field n v ls ∷ b) e = refl

newline-block : (a : Act) (b : Block) → is_member b ≡ true → in_block a (newline ∷ b) ≡ newline ∷ in_block a b
newline-block Act.delete b e = refl
newline-block (Act.add p) b e = ap (λ (t : Bool). newline ∷ pick t (behind_last is_field (new_piece p) b) (new_piece p ∷ b)) (record-field b (member-record b e))
newline-block (Act.change n o c) b e = refl

newline-group : (e : Edit) (b : Block) (g rest : Group) → flat (in_group e ((newline ∷ b) ∷ g) ++ rest) ≡ newline ∷ flat (in_group e (b ∷ g) ++ rest)
newline-group (Edit.insert new) b g rest = refl
newline-group (Edit.on j a) b g rest = go (is_member b) refl j
  where
    go : (t : Bool) → is_member b ≡ t → (j : ℕ) → flat (turn t j ((in_block a (newline ∷ b) ∷ []) ++ g) (λ (i : ℕ). (newline ∷ b) ∷ in_group (Edit.on i a) g) ++ rest) ≡ newline ∷ flat (turn t j ((in_block a b ∷ []) ++ g) (λ (i : ℕ). b ∷ in_group (Edit.on i a) g) ++ rest)
    go true m zero = ap (λ (x : Block). x ++ flat (g ++ rest)) (newline-block a b m)
    go true m (suc j) = refl
    go false m j = refl

empty-front : (e : Edit) (g : Group) → Place e g → in_group e ([] ∷ g) ≡ [] ∷ in_group e g
empty-front (Edit.insert new) g p = ap (λ (t : Bool). [] ∷ pick t (in_group (Edit.insert new) g) (fresh new ∷ g)) p
empty-front (Edit.on j a) g p = refl

-- an edit that has a block to go to, and an insert that has none
module _ (b : Block) (c : Group) (cs : List Group) where
  frame-placed : (e : Edit) (t : Bool) (i : ℕ) → Place e (get_or (plain_groups t b (c ∷ cs)) i []) → flat (flat (nth i (in_group e) (framed_groups t b (c ∷ cs)))) ≡ newline ∷ flat (flat (nth i (in_group e) (plain_groups t b (c ∷ cs))))
  frame-placed (Edit.insert new) true zero p = absurd (false≢true p)
  frame-placed (Edit.on j a) true zero p = refl
  frame-placed e true (suc zero) p = newline-group e b c (flat cs)
  frame-placed e true (suc (suc i)) p = refl
  frame-placed e false zero p = ap (λ (g : Group). flat (g ++ flat cs)) (empty-front e ((newline ∷ b) ∷ c) (place-newline e p)) ∙ newline-group e b c (flat cs)
    where
      place-newline : (e : Edit) → Place e (b ∷ c) → Place e ((newline ∷ b) ∷ c)
      place-newline (Edit.insert new) p = p
      place-newline (Edit.on j a) p = tt
  frame-placed e false (suc i) p = refl

  frame-front : (new : List Pair) (t : Bool) → any is_record (get_or (plain_groups t b (c ∷ cs)) 0 []) ≡ false
      → flat (flat (nth 0 (in_group (Edit.insert new)) (framed_groups t b (c ∷ cs)))) ≡ newline ∷ (map new_piece new ++ (newline ∷ flat (flat (plain_groups t b (c ∷ cs)))))
  frame-front new true e = refl
  frame-front new false e = ap (λ (t : Bool). flat (([] ∷ pick t (in_group (Edit.insert new) ((newline ∷ b) ∷ c)) (fresh new ∷ (newline ∷ b) ∷ c)) ++ flat cs)) e

-- the same of the blocks of any pieces
module _ (f : List Group → List Group → Type 0) (each : (b : Block) (t : Bool) (c : Group) (cs : List Group) → is_descriptor b ≡ t → f (framed_groups t b (c ∷ cs)) (plain_groups t b (c ∷ cs))) where
  by-rest : (b : Block) (cs : List Group) → Filled cs → f (framed_groups (is_descriptor b) b cs) (plain_groups (is_descriptor b) b cs)
  by-rest b [] h = absurd h
  by-rest b (c ∷ cs) h = each b (is_descriptor b) c cs refl

  by_blocks : (bs : List Block) → Filled bs → f (onto [] (cut_at is_descriptor (onto newline bs))) (cut_at is_descriptor bs)
  by_blocks [] h = absurd h
  by_blocks (b ∷ bs) h = by-rest b (cut_at is_descriptor bs) (parted-filled is_descriptor (cut_at is_descriptor bs) (cut-parted is_descriptor bs))

  by_first : (ps : List Piece) → f (framed ps) (groups ps)
  by_first ps = by_blocks (blocks ps) (parted-filled is_blank_line (blocks ps) (cut-parted is_blank_line ps))

edited-placed : (i : ℕ) (e : Edit) (ps : List Piece) → Place e (get_or (groups ps) i []) → in_groups i e (newline ∷ ps) ≡ newline ∷ in_groups i e ps
edited-placed i e ps = by_first (λ (gs hs : List Group). Place e (get_or hs i []) → flat (flat (nth i (in_group e) gs)) ≡ newline ∷ flat (flat (nth i (in_group e) hs))) (λ b t c cs d. frame-placed b c cs e t i) ps

edited-front : (new : List Pair) (ps : List Piece) → any is_record (get_or (groups ps) 0 []) ≡ false → in_groups 0 (Edit.insert new) (newline ∷ ps) ≡ newline ∷ (map new_piece new ++ (newline ∷ ps))
edited-front new ps e =
    by_first (λ (gs hs : List Group). any is_record (get_or hs 0 []) ≡ false → flat (flat (nth 0 (in_group (Edit.insert new)) gs)) ≡ newline ∷ (map new_piece new ++ (newline ∷ flat (flat hs)))) (λ b t c cs d. frame-front b c cs new t) ps e
    ∙ ap {B = List Piece} (λ (x : List Piece). newline ∷ (map new_piece new ++ (newline ∷ x))) (groups-pieces ps)

-- only the default set's group may have no record
others-filled : (gs : List Group) (i : ℕ) → Parted is_descriptor true gs → Has gs (suc i) → any is_record (get_or gs (suc i) []) ≡ true
others-filled [] i c h = absurd h
others-filled (g ∷ gs) i c h = others-place gs i c.1 h

insert-framed : (new : List Pair) (i : ℕ) (ps : List Piece) → Filled ps → Has (groups ps) i → (t : Bool) → any is_record (get_or (groups ps) i []) ≡ t → in_groups i (Edit.insert new) (newline ∷ ps) ≡ newline ∷ pick t (in_groups i (Edit.insert new) ps) (in_front new ps)
insert-framed new i ps f h true e = edited-placed i (Edit.insert new) ps e
insert-framed new i [] f h false e = absurd f
insert-framed new zero (p ∷ ps) f h false e = edited-front new (p ∷ ps) e
insert-framed new (suc i) (p ∷ ps) f h false e = absurd (false≢true (sym e ∙ others-filled (groups (p ∷ ps)) i (groups-parted (p ∷ ps)) h))

edit-framed : (i : ℕ) (e : Edit) (ps : List Piece) → Filled ps → Has (groups ps) i → in_groups i e (newline ∷ ps) ≡ newline ∷ edit_pieces i e ps
edit-framed i (Edit.insert new) ps f h = insert-framed new i ps f h (any is_record (get_or (groups ps) i [])) refl
edit-framed i (Edit.on j a) ps f h = edited-placed i (Edit.on j a) ps tt

-- An edit of a file that is not empty changes one of its groups behind a newline, that of the set that it names, and leaves the others.
pub edited-groups : (i : ℕ) (e : Edit) → NewNames NotRec e → (ps : List Piece) → Each Sound ps → Filled ps → Has (groups ps) i → framed (edit_pieces i e ps) ≡ nth i (in_group e) (framed ps)
edited-groups i e names ps sound f h = ap groups (sym (edit-framed i e ps f h)) ∙ groups-again e names i ps sound

-- the pieces, by these groups
pub framed-pieces : (ps qs : List Piece) → framed ps ≡ framed qs → ps ≡ qs
framed-pieces ps qs e = ap rest (sym (groups-pieces (newline ∷ ps)) ∙ ap (λ (gs : List Group). flat (flat gs)) e ∙ groups-pieces (newline ∷ qs))
  where
    rest : List Piece → List Piece
    rest [] = []
    rest (p ∷ ps) = ps

-- the sets, by these groups
pub framed-sets : (ps : List Piece) → map set_of (framed ps) ≡ sets_of ps
unfolding sets_of
framed-sets ps = by_first (λ (gs hs : List Group). map set_of gs ≡ map set_of hs) each ps
  where
    each : (b : Block) (t : Bool) (c : Group) (cs : List Group) → is_descriptor b ≡ t → map set_of (framed_groups t b (c ∷ cs)) ≡ map set_of (plain_groups t b (c ∷ cs))
    each b true c cs d = refl
    each b false c cs d = ap {B = List RecSet} (λ (t : Bool). set_by (pick t (fields_of b) []) (kept member_of (b ∷ c)) ∷ map set_of cs) (sym d)

-- the texts of records, by these groups
pub framed-texts : (ps : List Piece) → map texts_of (framed ps) ≡ map texts_of (groups ps)
framed-texts ps = by_first (λ (gs hs : List Group). map texts_of gs ≡ map texts_of hs) each ps
  where
    alike : (t : Bool) (b : Block) (g : Group) → map (λ (x : Block). bytes_of (to_last (from_first x))) (pick t ((newline ∷ b) ∷ g) g) ≡ map (λ (x : Block). bytes_of (to_last (from_first x))) (pick t (b ∷ g) g)
    alike true b g = refl
    alike false b g = refl

    each : (b : Block) (t : Bool) (c : Group) (cs : List Group) → is_descriptor b ≡ t → map texts_of (framed_groups t b (c ∷ cs)) ≡ map texts_of (plain_groups t b (c ∷ cs))
    each b true c cs d = ap {B = List (List Bytes)} (λ (x : List Bytes). [] ∷ x ∷ map texts_of cs) (alike (is_member b) b (filter is_member c))
    each b false c cs d = ap {B = List (List Bytes)} (λ (x : List Bytes). x ∷ map texts_of cs) (alike (is_member b) b (filter is_member c))
