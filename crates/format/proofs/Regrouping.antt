-- The pieces of edited groups are cut again into those groups, so the sets of edited pieces are the edited sets.
use Prim.Native.Nat.{ℕ, zero, suc}
use mathlib.Core.Path.{◌≡◌, refl, sym, ap, ◌∙◌, subst}
use mathlib.Core.Bool.{Bool, true, false, ◌||◌, false≢true}
use mathlib.Core.List.{List, [], ◌∷◌, ◌++◌, map}
use mathlib.Core.Option.{none}
use lib.ListN.{drop, get_or}
use Rattle.format.specs.Bytes.{Bytes, pick, any}
use Rattle.format.specs.Lists.{flat, keep, kept, onto, cut_at, turn, nth, behind_last}
use Rattle.format.specs.Pieces.{Piece}
use Rattle.format.specs.Records.{Record, Block, is_field, is_blank_line, blocks, fields_of, is_record}
use Rattle.format.specs.Sets.{is_descriptor, Group, groups, is_member, member_of, RecSet, rules_of, set_of, sets_of}
use Rattle.format.specs.Written.{Pair, new_field, new_piece}
use Rattle.format.specs.Edits.{Change, Act, Edit, is_of, change_piece, unfielded, in_block, newline, in_group, in_set, in_groups, in_front, edit_pieces}
use Rattle.format.proofs.Elements.{Each, each-imp, any_none, Filled, Has}
use Rattle.format.proofs.Lists.{None, kept-none, each_on, each-pick, each-behind, flat-each, map-nth, Starts, Parted, cut-parted, parted-filled, cut-front, cut-flat, parted-nth, parted-behind}
use Rattle.format.proofs.Whole.{Sound}
use Rattle.format.proofs.Named.{NewNames, NotRec}
use Rattle.format.proofs.Fates.{fresh, groups-blocks, groups-pieces}
use Rattle.format.proofs.Grouping.{HasPairs, SoundIn, fresh-member, fresh-plain, described-record, bare-member, bare-descriptor, rules-none, starts-in, set_by, set-in}

-- an edited block has a blank line where it had one: at its head, or nowhere

abbrev Unbroken : Piece → Type 0
Unbroken p = is_blank_line p ≡ false

pub new-unbroken : (ps : List Pair) → None is_blank_line (map new_piece ps)
new-unbroken [] = tt
new-unbroken (p ∷ ps) = (refl, new-unbroken ps)

loose-unbroken : (b : Block) → None is_blank_line b → None is_blank_line (unfielded b)
loose-unbroken [] h = tt
loose-unbroken (Piece.blank l ∷ b) h = (h.0, loose-unbroken b h.1)
loose-unbroken (Piece.comment l ∷ b) h = (refl, loose-unbroken b h.1)
loose-unbroken (Piece.field n v ls ∷ b) h = loose-unbroken b h.1

change-unbroken : (n : Bytes) (c : Change) (p : Piece) → is_of n p ≡ true → None is_blank_line (change_piece c p)
change-unbroken n c (Piece.blank l) e = absurd (false≢true e)
change-unbroken n c (Piece.comment l) e = absurd (false≢true e)
change-unbroken n (Change.value w) (Piece.field m v ls) e = (refl, tt)
change-unbroken n Change.dropped (Piece.field m v ls) e = tt
change-unbroken n (Change.name k) (Piece.field m v ls) e = (refl, tt)

block-unbroken : (a : Act) (b : Block) → None is_blank_line b → None is_blank_line (in_block a b)
block-unbroken Act.delete b h = loose-unbroken b h
block-unbroken (Act.add p) b h = each-behind Unbroken is_field (new_piece p) refl b h
block-unbroken (Act.change n o c) b h = each_on Unbroken (is_of n) (change_piece c) (λ x u e. change-unbroken n c x e) b h o

block-starts : (a : Act) (first : Bool) (b : Block) → Starts is_blank_line first b → Starts is_blank_line first (in_block a b)
block-starts a true b h = block-unbroken a b h
block-starts a false [] h = absurd h
block-starts Act.delete false (Piece.blank l ∷ b) h = (refl, loose-unbroken b h.1)
block-starts (Act.add p) false (Piece.blank l ∷ b) h = (refl, each-pick Unbroken (any is_field b) (behind_last is_field (new_piece p) b) (new_piece p ∷ b) (block-unbroken (Act.add p) b h.1) (refl, h.1))
block-starts (Act.change n o c) false (Piece.blank l ∷ b) h = (refl, block-unbroken (Act.change n o c) b h.1)
block-starts a false (Piece.comment l ∷ b) h = absurd (false≢true h.0)
block-starts a false (Piece.field n v ls ∷ b) h = absurd (false≢true h.0)

-- an insert has a block to go behind
abbrev pub Place : Edit → Group → Type 0
Place (Edit.insert new) g = any is_record g ≡ true
Place (Edit.on j a) g = Unit {0}

module _ (rest : List Block) where
  on-turn : (t : Bool) (j : ℕ) (a : Act) (first : Bool) (b : Block) (g : Group) → Starts is_blank_line first b → Parted is_blank_line false (g ++ rest) → ((i : ℕ) → Parted is_blank_line false (in_group (Edit.on i a) g ++ rest))
      → Parted is_blank_line first (turn t j ((in_block a b ∷ []) ++ g) (λ (i : ℕ). b ∷ in_group (Edit.on i a) g) ++ rest)
  on-turn true zero a first b g h c ih = (block-starts a first b h, c)
  on-turn true (suc j) a first b g h c ih = (h, ih j)
  on-turn false j a first b g h c ih = (h, ih j)

  on-parted : (a : Act) (first : Bool) (g : Group) → Parted is_blank_line first (g ++ rest) → (j : ℕ) → Parted is_blank_line first (in_group (Edit.on j a) g ++ rest)
  on-parted a first [] c j = c
  on-parted a first (b ∷ g) c j = on-turn (is_member b) j a first b g c.0 c.1 (on-parted a false g c.1)

  pick-parted : (t : Bool) (xs ys : List Block) → Parted is_blank_line false (xs ++ rest) → Parted is_blank_line false (ys ++ rest) → Parted is_blank_line false (pick t xs ys ++ rest)
  pick-parted true xs ys h k = h
  pick-parted false xs ys h k = k

  behind-parted : (new : List Pair) (g : Group) → Parted is_blank_line false (g ++ rest) → Parted is_blank_line false (behind_last is_record (fresh new) g ++ rest)
  behind-parted new [] c = ((refl, new-unbroken new), c)
  behind-parted new (b ∷ g) c = (c.0, pick-parted (any is_record g) (behind_last is_record (fresh new) g) (fresh new ∷ g) (behind-parted new g c.1) ((refl, new-unbroken new), c.1))

  group-parted : (e : Edit) (first : Bool) (g : Group) → Place e g → Parted is_blank_line first (g ++ rest) → Parted is_blank_line first (in_group e g ++ rest)
  group-parted (Edit.insert new) first [] p c = absurd (false≢true p)
  group-parted (Edit.insert new) first (b ∷ g) p c = (c.0, pick-parted (any is_record g) (behind_last is_record (fresh new) g) (fresh new ∷ g) (behind-parted new g c.1) ((refl, new-unbroken new), c.1))
  group-parted (Edit.on j a) first g p c = on-parted a first g c j

nth-parted : (e : Edit) (i : ℕ) (first : Bool) (gs : List Group) → Place e (get_or gs i []) → Parted is_blank_line first (flat gs) → Parted is_blank_line first (flat (nth i (in_group e) gs))
nth-parted e i first [] p c = c
nth-parted e zero first (g ∷ gs) p c = group-parted (flat gs) e first g p c
nth-parted e (suc i) first (g ∷ gs) p c = parted-behind is_blank_line (flat gs) (flat (nth i (in_group e) gs)) (λ t k. nth-parted e i t gs p k) first g c

-- the groups of pieces: a group has a descriptor at its head or none

pub groups-parted : (ps : List Piece) → Parted is_descriptor true (groups ps)
groups-parted ps = cut-parted is_descriptor (blocks ps)

pub groups-each : (P : Piece → Type 0) (ps : List Piece) → Each P ps → Each (Each (Each P)) (groups ps)
groups-each P ps h = flat-each (Each P) (groups ps) (flat-each P (flat (groups ps)) (subst (Each P) (sym (groups-pieces ps)) h))

-- with the group of set i edited
module _ (e : Edit) (pairs : HasPairs e) (names : NewNames NotRec e) (i : ℕ) (ps : List Piece) (sound : Each Sound ps) (place : Place e (get_or (groups ps) i [])) where
  groups-edited : groups (in_groups i e ps) ≡ nth i (in_group e) (groups ps)
  groups-edited =
      let gs : List Group = groups ps in
      let blank : Parted is_blank_line true (flat gs) = subst (Parted is_blank_line true) (sym (groups-blocks ps)) (cut-parted is_blank_line ps) in
      ap (cut_at is_descriptor) (cut-flat is_blank_line (flat (nth i (in_group e) gs)) (nth-parted e i true gs place blank))
      ∙ cut-flat is_descriptor (nth i (in_group e) gs) (parted-nth is_descriptor SoundIn (in_group e) (λ first g h k. starts-in e names first g h k) i true gs (groups-each Sound ps sound) (groups-parted ps))

  abbrev Ready : Group → Type 0
  Ready g = (first : Bool) × Starts is_descriptor first g × SoundIn g

  ready : (first : Bool) (gs : List Group) → Parted is_descriptor first gs → Each SoundIn gs → Each Ready gs
  ready first [] c h = tt
  ready first (g ∷ gs) c h = ((first, c.0, h.0), ready false gs c.1 h.1)

  sets-edited : sets_of (in_groups i e ps) ≡ nth i (in_set e) (sets_of ps)
  unfolding sets_of
  sets-edited =
      ap (map set_of) groups-edited
      ∙ map-nth Ready set_of (in_group e) (in_set e) (λ g r. set-in e pairs names r.0 g r.2 r.1) i (groups ps) (ready true (groups ps) (groups-parted ps) (groups-each Sound ps sound))

-- in front, into a default set without records

newline-by : (t : Bool) (b : Block) (gs : List Group) → map set_of (pick t ([] ∷ onto (newline ∷ b) gs) (onto (newline ∷ b) gs)) ≡ map set_of (pick t ([] ∷ onto b gs) (onto b gs))
newline-by true b [] = refl
newline-by true b (g ∷ gs) = refl
newline-by false b [] = refl
newline-by false b (g ∷ gs) = refl

newline-sets : (bs : List Block) → Filled bs → map set_of (cut_at is_descriptor (onto newline bs)) ≡ map set_of (cut_at is_descriptor bs)
newline-sets [] h = absurd h
newline-sets (b ∷ bs) h = newline-by (is_descriptor b) b (cut_at is_descriptor bs)

module _ (p : Pair) (new : List Pair) (names : Each (λ (q : Pair). NotRec q.name) (p ∷ new)) where
  abbrev written : Block
  written = map new_piece (p ∷ new)

  abbrev made : Record
  made = map new_field (p ∷ new)

  -- a group without a record has the set without rules and members
  bare-group : (g : Group) → any is_record g ≡ false → (rules_of g ≡ []) × (kept member_of g ≡ [])
  bare-group g e =
      let h = any_none is_record g e in
      (rules-none g (each-imp (λ (b : Block). is_record b ≡ false) (λ (b : Block). is_descriptor b ≡ false) bare-descriptor g h), kept-none member_of g (each-imp (λ (b : Block). is_record b ≡ false) (λ (b : Block). member_of b ≡ none) bare-member g h))

  inserted-bare : (g : Group) → any is_record g ≡ false → in_set (Edit.insert (p ∷ new)) (set_of g) ≡ set_by [] (made ∷ [])
  inserted-bare g e = let h = bare-group g e in λ i. set_by (h.0 i) (h.1 i ++ (made ∷ []))

  front-set : (s : RecSet) (g : Group) → set_of g ≡ s → s.members ≡ [] → set_of (written ∷ g) ≡ set_by [] (made ∷ [])
  front-set s g e k =
      let r : rules_of (written ∷ g) ≡ [] = ap (λ (t : Bool). pick t (fields_of written) []) (fresh-plain (p ∷ new) names) in
      let m : kept member_of (written ∷ g) ≡ made ∷ [] = (λ i. keep (fresh-member p new names i) ((ap (λ (x : RecSet). x.members) e ∙ k) i)) in
      λ i. set_by (r i) (m i)

  front-first : (gs hs : List Group) → Filled gs → map set_of hs ≡ map set_of gs → any is_record (get_or gs 0 []) ≡ false → map set_of (onto written hs) ≡ nth 0 (in_set (Edit.insert (p ∷ new))) (map set_of gs)
  front-first [] hs f e k = absurd f
  front-first (g ∷ gs) [] f e k = absurd (subst Filled (sym e) tt)
  front-first (g ∷ gs) (h ∷ hs) f e k =
      let first : set_of h ≡ set_of g = ap (λ (ss : List RecSet). get_or ss 0 (set_by [] [])) e in
      let others : map set_of hs ≡ map set_of gs = ap (λ (ss : List RecSet). drop 1 ss) e in
      λ i. (front-set (set_of g) h first (bare-group g k).1 ∙ sym (inserted-bare g k)) i ∷ others i

  front-groups : (ps : List Piece) (bs : List Block) → blocks ps ≡ [] ∷ bs → groups (written ++ ps) ≡ onto written (cut_at is_descriptor bs)
  front-groups ps bs e =
      ap (cut_at is_descriptor) (cut-front is_blank_line written ps bs (new-unbroken (p ∷ new)) e)
      ∙ ap (λ (t : Bool). pick t ([] ∷ onto written (cut_at is_descriptor bs)) (onto written (cut_at is_descriptor bs))) (fresh-plain (p ∷ new) names)

  pub sets-front : (ps : List Piece) → any is_record (get_or (groups ps) 0 []) ≡ false → sets_of (in_front (p ∷ new) ps) ≡ nth 0 (in_set (Edit.insert (p ∷ new))) (sets_of ps)
  unfolding sets_of
  sets-front [] k = ap (map set_of) (front-groups [] [] refl) ∙ front-first ([] ∷ []) ([] ∷ []) tt refl refl
  sets-front (q ∷ qs) k =
      let bs : List Block = blocks (q ∷ qs) in
      ap (map set_of) (front-groups (newline ∷ q ∷ qs) (onto newline bs) refl)
      ∙ front-first (groups (q ∷ qs)) (cut_at is_descriptor (onto newline bs)) (parted-filled is_descriptor (cut_at is_descriptor bs) (cut-parted is_descriptor bs)) (newline-sets bs (parted-filled is_blank_line bs (cut-parted is_blank_line (q ∷ qs)))) k

-- where the edit goes: only the default set's group may have no record

pub others-place : (gs : List Group) (i : ℕ) → Parted is_descriptor false gs → Has gs i → any is_record (get_or gs i []) ≡ true
others-place [] i c h = absurd h
others-place ([] ∷ gs) zero c h = absurd c.0
others-place ((b ∷ g) ∷ gs) zero c h = ap (λ (t : Bool). t || any is_record g) (described-record b c.0.0)
others-place (g ∷ gs) (suc i) c h = others-place gs i c.1 h

only-first : (gs : List Group) (i : ℕ) → Parted is_descriptor true gs → Has gs i → any is_record (get_or gs i []) ≡ false → i ≡ 0
only-first [] i c h e = absurd h
only-first (g ∷ gs) zero c h e = refl
only-first (g ∷ gs) (suc i) c h e = absurd (false≢true (sym e ∙ others-place gs i c.1 h))

-- the sets of edited pieces are the edited sets
pub edit-sets : (i : ℕ) (e : Edit) (ps : List Piece) → Each Sound ps → HasPairs e → NewNames NotRec e → Has (groups ps) i → sets_of (edit_pieces i e ps) ≡ nth i (in_set e) (sets_of ps)
edit-sets i (Edit.insert []) ps s f n h = absurd f
edit-sets i (Edit.insert (p ∷ new)) ps s f n h = go (any is_record (get_or (groups ps) i [])) refl
  where
    go : (t : Bool) → any is_record (get_or (groups ps) i []) ≡ t → sets_of (pick t (in_groups i (Edit.insert (p ∷ new)) ps) (in_front (p ∷ new) ps)) ≡ nth i (in_set (Edit.insert (p ∷ new))) (sets_of ps)
    go true e = sets-edited (Edit.insert (p ∷ new)) f n i ps s e
    go false e =
        let z : i ≡ 0 = only-first (groups ps) i (groups-parted ps) h e in
        sets-front p new n ps (subst (λ (k : ℕ). any is_record (get_or (groups ps) k []) ≡ false) z e) ∙ ap (λ (k : ℕ). nth k (in_set (Edit.insert (p ∷ new))) (sets_of ps)) (sym z)
edit-sets i (Edit.on j a) ps s f n h = sets-edited (Edit.on j a) f n i ps s tt
