-- Which pieces an edit names and which it adds, and where each piece comes from under a list of edits.
use Rattle.std.specs.Prelude.{ℕ, zero, suc, ◌≡◌, Bool, not, List, [], ◌∷◌, ◌++◌, map, eqb, length, get_or}
use Rattle.std.proofs.Math.Option.{Option, none, some}
use Rattle.format.specs.Bytes.{pick, up_from, any}
use Rattle.format.specs.Lists.{flat, filter, keep, kept, turn, always, onward}
use Rattle.format.specs.Pieces.{Piece}
use Rattle.format.specs.Records.{Block, is_field, is_record}
use Rattle.format.specs.Sets.{Group, groups, is_member}
use Rattle.format.specs.Written.{new_piece}
use Rattle.format.specs.Edits.{Act, Edit, is_of, change_piece, newline, newline_if}
use Rattle.format.specs.Requests.{Request, request_of}
use Rattle.format.specs.Numbers.{int_bounds}
use Rattle.format.specs.Plain.{Plain, index_of, completed_by}
use Rattle.format.specs.Runs.{Single, request_in, single_step}

-- What an accepted edit does to the pieces, one after another: it leaves a piece, it names one, it adds one. Where no more is said, the rest is left.
pub data Fate : Type 0 where
  left : Fate
  named : Fate
  added : Piece → Fate

abbrev pub left_all : List Piece → List Fate
left_all ps = map (λ (p : Piece). left) ps

abbrev pub added_all : List Piece → List Fate
added_all ps = map added ps

-- the fates of the k-th that passes a test, what stands before it left; and what comes behind the last that passes it
abbrev pub fates_at : {A : Type 0} → (A → List Piece) → (A → Bool) → ℕ → (A → List Fate) → List A → List Fate
fates_at own t k f [] = []
fates_at own t k f (x ∷ xs) = turn (t x) k (f x) (λ (j : ℕ). left_all (own x) ++ fates_at own t j f xs)

abbrev pub fates_behind : {A : Type 0} → (A → List Piece) → (A → Bool) → List Fate → List A → List Fate
fates_behind own t fs [] = fs
fates_behind own t fs (x ∷ xs) = left_all (own x) ++ pick (any t xs) (fates_behind own t fs xs) fs

-- "An edit names the lines of each field that it deletes, sets, drops or renames, and adds those that it writes."
abbrev pub one : Piece → List Piece
one p = p ∷ []

abbrev pub block_fates : Act → Block → List Fate
block_fates Act.delete b = map (λ (p : Piece). pick (is_field p) named left) b
block_fates (Act.add p) b = fates_behind one is_field (added_all (new_piece p ∷ [])) b
block_fates (Act.change n o c) b = fates_at one (is_of n) o (λ (p : Piece). named ∷ added_all (change_piece c p)) b

-- "each field it writes is a new piece, and so is the newline of an insert"
abbrev pub group_fates : Edit → Group → List Fate
group_fates (Edit.insert new) g = fates_behind (λ (b : Block). b) is_record (added_all (newline ∷ map new_piece new)) g
group_fates (Edit.on j a) g = fates_at (λ (b : Block). b) is_member j (block_fates a) g

abbrev pub in_group_fates : ℕ → Edit → List Piece → List Fate
in_group_fates i e ps = fates_at flat always i (group_fates e) (groups ps)

abbrev pub edit_fates : ℕ → Edit → List Piece → List Fate
edit_fates i (Edit.insert new) ps = pick (any is_record (get_or (groups ps) i [])) (in_group_fates i (Edit.insert new) ps) (added_all (map new_piece new ++ newline_if ps))
edit_fates i (Edit.on j a) ps = in_group_fates i (Edit.on j a) ps

abbrev pub set_fates : Option ℕ → Edit → List Piece → List Fate
set_fates none e ps = []
set_fates (some i) e ps = edit_fates i e ps

abbrev pub request_fates : Option Request → Plain → List Fate
request_fates none p = []
request_fates (some q) p = set_fates (index_of q.set p.sets) q.edit p.pieces

-- of a single edit, whose request is completed; a refused one names nothing and adds nothing
abbrev pub single_fates : Single → Plain → List Fate
single_fates c p = request_fates (onward (completed_by int_bounds p) (request_of (request_in c))) p

abbrev pub if_accepted : {A : Type 0} → ℕ → A → A → A
if_accepted zero a b = a
if_accepted (suc k) a b = b

unfoldable pub fates : ℕ → Plain → Single → List Fate
fates room p c = if_accepted (single_step room p c).number (single_fates c p) []

-- Where a piece comes from: it is the start's k-th, or an accepted edit added it.
pub data Origin : Type 0 where
  start : ℕ → Piece → Origin
  new : Piece → Origin

abbrev pub piece_of : Origin → Piece
piece_of (start k p) = p
piece_of (new p) = p

abbrev pub number_of : Origin → Option ℕ
number_of (start k p) = some k
number_of (new p) = none

-- the pieces as they stand, each with its origin, and the numbers of the start's pieces that were named
pub record Trace : Type 0 where
  pub standing : List Origin
  pub named : List ℕ

abbrev pub carried : List Fate → List Origin → List Origin
carried [] os = os
carried (added p ∷ fs) os = new p ∷ carried fs os
carried (left ∷ fs) [] = []
carried (left ∷ fs) (o ∷ os) = o ∷ carried fs os
carried (named ∷ fs) [] = []
carried (named ∷ fs) (o ∷ os) = carried fs os

abbrev pub named_of : List Fate → List Origin → List ℕ
named_of [] os = []
named_of (added p ∷ fs) os = named_of fs os
named_of (left ∷ fs) [] = []
named_of (left ∷ fs) (o ∷ os) = named_of fs os
named_of (named ∷ fs) [] = []
named_of (named ∷ fs) (o ∷ os) = keep (number_of o) (named_of fs os)

abbrev pub start_from : ℕ → List Piece → List Origin
start_from k [] = []
start_from k (p ∷ ps) = start k p ∷ start_from (suc k) ps

unfoldable pub traced : ℕ → List Single → Plain → Trace → Trace
traced room [] p t = t
traced room (c ∷ cs) p t =
    let fs : List Fate = fates room p c in
    traced room cs (single_step room p c).file (record { standing = carried fs t.standing; named = named_of fs t.standing ++ t.named })

-- "Every line that no accepted edit named or added has its bytes and its order."
pub record Stays (first : List Piece) (t : Trace) (last : List Piece) : Type 0 where
  -- each piece at the end is the start's piece that it comes from, lines and all, or one that an accepted edit added
  pub pieces : map piece_of t.standing ≡ last
  -- and those of the start are all that no accepted edit named, in their order
  pub order : kept number_of t.standing ≡ filter (λ (k : ℕ). not (any (eqb k) t.named)) (up_from (length first) 0)
