-- What an edit does to the pieces, one after another: those that it neither names nor adds stand before and after it, the same and in the same order.
use Prim.Native.Nat.{ℕ, zero, suc}
use mathlib.Core.Path.{◌≡◌, refl, sym, ap, ◌∙◌, subst}
use mathlib.Core.Bool.{Bool, true, false}
use mathlib.Core.List.{List, [], ◌∷◌, ◌++◌, append_assoc, append-nil, map}
use lib.ListN.{get_or}
use Rattle.format.specs.Bytes.{pick, any}
use Rattle.format.specs.Lists.{flat, turn, at, always, nth, behind_last}
use Rattle.format.specs.Pieces.{Piece}
use Rattle.format.specs.Records.{Block, is_field, is_record, is_blank_line, blocks}
use Rattle.format.specs.Sets.{is_descriptor, Group, groups, is_member}
use Rattle.format.specs.Written.{Pair, new_piece}
use Rattle.format.specs.Edits.{Change, Act, Edit, is_of, change_piece, unfielded, in_block, newline, in_group, in_groups, newline_if, in_front, edit_pieces}
use Rattle.format.specs.Origins.{Fate, left_all, added_all, fates_at, fates_behind, one, block_fates, group_fates, in_group_fates, edit_fates}
use Rattle.format.proofs.Lists.{flat_append, flat-cut}

-- The pieces before and after: one that is left is the same on both sides, a named one stands before only, an added one after only.
abbrev pub Goes : List Fate → List Piece → List Piece → Type 0
Goes [] xs ys = xs ≡ ys
Goes (Fate.added p ∷ fs) xs [] = ⊥
Goes (Fate.added p ∷ fs) xs (y ∷ ys) = (p ≡ y) × Goes fs xs ys
Goes (Fate.left ∷ fs) [] ys = ⊥
Goes (Fate.left ∷ fs) (x ∷ xs) [] = ⊥
Goes (Fate.left ∷ fs) (x ∷ xs) (y ∷ ys) = (x ≡ y) × Goes fs xs ys
Goes (Fate.named ∷ fs) [] ys = ⊥
Goes (Fate.named ∷ fs) (x ∷ xs) ys = Goes fs xs ys

-- pieces that an edit does not come to are left
goes-rest : (fs : List Fate) (xs ys zs : List Piece) → Goes fs xs ys → Goes fs (xs ++ zs) (ys ++ zs)
goes-rest [] xs ys zs h = ap (λ (x : List Piece). x ++ zs) h
goes-rest (Fate.added p ∷ fs) xs [] zs h = absurd h
goes-rest (Fate.added p ∷ fs) xs (y ∷ ys) zs h = (h.0, goes-rest fs xs ys zs h.1)
goes-rest (Fate.left ∷ fs) [] ys zs h = absurd h
goes-rest (Fate.left ∷ fs) (x ∷ xs) [] zs h = absurd h
goes-rest (Fate.left ∷ fs) (x ∷ xs) (y ∷ ys) zs h = (h.0, goes-rest fs xs ys zs h.1)
goes-rest (Fate.named ∷ fs) [] ys zs h = absurd h
goes-rest (Fate.named ∷ fs) (x ∷ xs) ys zs h = goes-rest fs xs ys zs h

goes_left : (b : List Piece) (fs : List Fate) (xs ys : List Piece) → Goes fs xs ys → Goes (left_all b ++ fs) (b ++ xs) (b ++ ys)
goes_left [] fs xs ys h = h
goes_left (p ∷ b) fs xs ys h = (refl, goes_left b fs xs ys h)

goes-added : (new xs : List Piece) → Goes (added_all new) xs (new ++ xs)
goes-added [] xs = refl
goes-added (p ∷ new) xs = (refl, goes-added new xs)

-- Edits of a list whose elements have pieces of their own.
module _ {A : Type 0} (own : A → List Piece) where
  abbrev owns : List A → List Piece
  owns xs = flat (map own xs)

  owns-append : (xs ys : List A) → owns (xs ++ ys) ≡ owns xs ++ owns ys
  owns-append [] ys = refl
  owns-append (x ∷ xs) ys = ap (λ (z : List Piece). own x ++ z) (owns-append xs ys) ∙ sym (append_assoc (own x) (owns xs) (owns ys))

  -- the k-th that passes a test
  module _ (t : A → Bool) (f : A → List A) (g : A → List Fate) (goes : (x : A) → Goes (g x) (own x) (owns (f x))) where
    goes-turn : (b : Bool) (k : ℕ) (x : A) (xs : List A) → ((j : ℕ) → Goes (fates_at own t j g xs) (owns xs) (owns (at t j f xs)))
        → Goes (turn b k (g x) (λ (j : ℕ). left_all (own x) ++ fates_at own t j g xs)) (own x ++ owns xs) (owns (turn b k (f x ++ xs) (λ (j : ℕ). x ∷ at t j f xs)))
    goes-turn true zero x xs ih = subst (Goes (g x) (own x ++ owns xs)) (sym (owns-append (f x) xs)) (goes-rest (g x) (own x) (owns (f x)) (owns xs) (goes x))
    goes-turn true (suc k) x xs ih = goes_left (own x) (fates_at own t k g xs) (owns xs) (owns (at t k f xs)) (ih k)
    goes-turn false k x xs ih = goes_left (own x) (fates_at own t k g xs) (owns xs) (owns (at t k f xs)) (ih k)

    goes_at : (xs : List A) (k : ℕ) → Goes (fates_at own t k g xs) (owns xs) (owns (at t k f xs))
    goes_at [] k = refl
    goes_at (x ∷ xs) k = goes-turn (t x) k x xs (goes_at xs)

  -- one more behind the last
  module _ (t : A → Bool) (y : A) where
    goes-pick : (b : Bool) (xs : List A) → Goes (fates_behind own t (added_all (own y)) xs) (owns xs) (owns (behind_last t y xs))
        → Goes (pick b (fates_behind own t (added_all (own y)) xs) (added_all (own y))) (owns xs) (owns (pick b (behind_last t y xs) (y ∷ xs)))
    goes-pick true xs h = h
    goes-pick false xs h = goes-added (own y) (owns xs)

    goes-behind : (xs : List A) → Goes (fates_behind own t (added_all (own y)) xs) (owns xs) (owns (behind_last t y xs))
    goes-behind [] = goes-added (own y) []
    goes-behind (x ∷ xs) =
        goes_left (own x) (pick (any t xs) (fates_behind own t (added_all (own y)) xs) (added_all (own y))) (owns xs) (owns (pick (any t xs) (behind_last t y xs) (y ∷ xs))) (goes-pick (any t xs) xs (goes-behind xs))

-- a block's pieces are its own, a group's those of its blocks

owns-one : (b : Block) → owns one b ≡ b
owns-one [] = refl
owns-one (p ∷ b) = ap {B = Block} (λ x. p ∷ x) (owns-one b)

abbrev whole : Block → List Piece
whole b = b

owns-whole : (g : Group) → owns whole g ≡ flat g
owns-whole [] = refl
owns-whole (b ∷ g) = ap (λ (x : List Piece). b ++ x) (owns-whole g)

owns-flat : (gs : List Group) → owns flat gs ≡ flat (flat gs)
owns-flat [] = refl
owns-flat (g ∷ gs) = ap (λ (x : List Piece). flat g ++ x) (owns-flat gs) ∙ sym (flat_append g (flat gs))

along : (fs : List Fate) {xs ys xs' ys' : List Piece} → xs ≡ xs' → ys ≡ ys' → Goes fs xs ys → Goes fs xs' ys'
along fs {xs} {ys} {xs'} {ys'} p q h = subst (λ (x : List Piece). Goes fs x ys') p (subst (Goes fs xs) q h)

-- the groups of pieces, and their blocks: their pieces are those

pub groups-blocks : (ps : List Piece) → flat (groups ps) ≡ blocks ps
groups-blocks ps = flat-cut is_descriptor (blocks ps)

pub flat-blocks : (ps : List Piece) → flat (blocks ps) ≡ ps
flat-blocks ps = flat-cut is_blank_line ps

pub groups-pieces : (ps : List Piece) → flat (flat (groups ps)) ≡ ps
groups-pieces ps = ap flat (groups-blocks ps) ∙ flat-blocks ps

-- an act on a block

goes-unfielded : (b : Block) → Goes (block_fates Act.delete b) b (unfielded b)
goes-unfielded [] = refl
goes-unfielded (Piece.blank l ∷ b) = (refl, goes-unfielded b)
goes-unfielded (Piece.comment l ∷ b) = (refl, goes-unfielded b)
goes-unfielded (Piece.field n v ls ∷ b) = goes-unfielded b

goes-change : (c : Change) (p : Piece) → Goes (Fate.named ∷ added_all (change_piece c p)) (p ∷ []) (owns one (change_piece c p))
goes-change c p = subst (Goes (added_all (change_piece c p)) []) (append-nil (change_piece c p) ∙ sym (owns-one (change_piece c p))) (goes-added (change_piece c p) [])

goes-block : (a : Act) (b : Block) → Goes (block_fates a b) b (in_block a b)
goes-block Act.delete b = goes-unfielded b
goes-block (Act.add p) b = along (block_fates (Act.add p) b) (owns-one b) (owns-one (in_block (Act.add p) b)) (goes-behind one is_field (new_piece p) b)
goes-block (Act.change n o c) b =
    along (block_fates (Act.change n o c) b) (owns-one b) (owns-one (in_block (Act.change n o c) b)) (goes_at one (is_of n) (change_piece c) (λ (p : Piece). Fate.named ∷ added_all (change_piece c p)) (goes-change c) b o)

-- an edit of a group

-- the block that an insert writes
abbrev pub fresh : List Pair → Block
fresh new = newline ∷ map new_piece new

goes-act : (a : Act) (b : Block) → Goes (block_fates a b) b (owns whole (in_block a b ∷ []))
goes-act a b = subst (Goes (block_fates a b) b) (sym (append-nil (in_block a b))) (goes-block a b)

goes-group : (e : Edit) (g : Group) → Goes (group_fates e g) (flat g) (flat (in_group e g))
goes-group (Edit.insert new) g = along (group_fates (Edit.insert new) g) (owns-whole g) (owns-whole (in_group (Edit.insert new) g)) (goes-behind whole is_record (fresh new) g)
goes-group (Edit.on j a) g = along (group_fates (Edit.on j a) g) (owns-whole g) (owns-whole (in_group (Edit.on j a) g)) (goes_at whole is_member (λ (b : Block). in_block a b ∷ []) (block_fates a) (goes-act a) g j)

goes_one : (e : Edit) (g : Group) → Goes (group_fates e g) (flat g) (owns flat (in_group e g ∷ []))
goes_one e g = subst (Goes (group_fates e g) (flat g)) (sym (append-nil (flat (in_group e g)))) (goes-group e g)

-- an edit of a file's pieces

goes-groups : (i : ℕ) (e : Edit) (ps : List Piece) → Goes (in_group_fates i e ps) ps (in_groups i e ps)
goes-groups i e ps =
    along (in_group_fates i e ps) (owns-flat (groups ps) ∙ groups-pieces ps) (owns-flat (nth i (in_group e) (groups ps))) (goes_at flat always (λ (g : Group). in_group e g ∷ []) (group_fates e) (goes_one e) (groups ps) i)

goes-front : (new : List Pair) (ps : List Piece) → Goes (added_all (map new_piece new ++ newline_if ps)) ps (in_front new ps)
goes-front new ps = subst (Goes (added_all (map new_piece new ++ newline_if ps)) ps) (append_assoc (map new_piece new) (newline_if ps) ps) (goes-added (map new_piece new ++ newline_if ps) ps)

pub goes-edit : (i : ℕ) (e : Edit) (ps : List Piece) → Goes (edit_fates i e ps) ps (edit_pieces i e ps)
goes-edit i (Edit.insert new) ps = go (any is_record (get_or (groups ps) i []))
  where
    go : (t : Bool) → Goes (pick t (in_group_fates i (Edit.insert new) ps) (added_all (map new_piece new ++ newline_if ps))) ps (pick t (in_groups i (Edit.insert new) ps) (in_front new ps))
    go true = goes-groups i (Edit.insert new) ps
    go false = goes-front new ps
goes-edit i (Edit.on j a) ps = goes-groups i (Edit.on j a) ps
