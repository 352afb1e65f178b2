-- Lengths: the bytes of a file are R and the counts of its records, and what an edit does to R.
use Prim.Native.Nat.{ℕ, zero, suc, ◌+◌}
use native.Mathlib.Omega.{arith}
use mathlib.Core.Path.{◌≡◌, refl, sym, ap, ◌∙◌}
use mathlib.Core.Bool.{Bool, true, false, ◌&&◌, not, false≢true}
use mathlib.Core.List.{List, [], ◌∷◌, ◌++◌, map}
use lib.ListN.{length, length-append, get_or}
use Rattle.format.specs.Bytes.{Bytes, pick, any}
use Rattle.format.specs.Lists.{only_if, is_filled, sum, flat, keep, kept, nth}
use Rattle.format.specs.Lines.{Line, bytes}
use Rattle.format.specs.Pieces.{Piece, all_lines, bytes_of}
use Rattle.format.specs.Records.{Record, Block, count_of, is_field, fields_of, is_record}
use Rattle.format.specs.Sets.{is_descriptor, Group, groups, is_member, member_of, RecSet, set_of, sets_of}
use Rattle.format.specs.Written.{Pair, new_piece}
use Rattle.format.specs.Edits.{Change, Act, Edit, is_of, change_piece, unfielded, in_block, newline, in_group, in_set, in_groups, newline_if, in_front, edit_pieces}
use Rattle.format.specs.Plain.{record_count, loose_count, rules_count, others_of, plain_of, length_of, newlines}
use Rattle.format.proofs.Elements.{Has}
use Rattle.format.proofs.Lists.{None, sum-append, sum-at, sum-behind, sum-flat, sum-nth, Starts, Parted}
use Rattle.format.proofs.Lines.{bytes-append}
use Rattle.format.proofs.Fates.{fresh, groups-pieces}
use Rattle.format.proofs.Regrouping.{groups-parted}

-- the bytes of pieces: those of comments and blank lines, and those of fields

abbrev own_count : Piece → ℕ
own_count (Piece.blank l) = 0
own_count (Piece.comment l) = 0
own_count (Piece.field n v ls) = count_of ls

count-append : (a b : List Line) → count_of (a ++ b) ≡ count_of a + count_of b
count-append a b = ap length (bytes-append a b) ∙ length-append (bytes a) (bytes b)

lines-count : (ps : List Piece) → count_of (all_lines ps) ≡ sum loose_count ps + sum own_count ps
lines-count [] = refl
lines-count (Piece.blank l ∷ ps) = omega (arith, count-append (l ∷ []) (all_lines ps), lines-count ps)
lines-count (Piece.comment l ∷ ps) = omega (arith, count-append (l ∷ []) (all_lines ps), lines-count ps)
lines-count (Piece.field n v ls ∷ ps) = omega (arith, count-append ls (all_lines ps), lines-count ps)

-- the bytes of fields are the counts of the records

fields-count : (b : Block) → record_count (fields_of b) ≡ sum own_count b
fields-count [] = refl
fields-count (Piece.blank l ∷ b) = omega (arith, fields-count b)
fields-count (Piece.comment l ∷ b) = omega (arith, fields-count b)
fields-count (Piece.field n v ls ∷ b) = ap (λ (x : ℕ). count_of ls + x) (fields-count b)

abbrev own_in : Block → ℕ
own_in b = sum own_count b

-- a block that is no descriptor is a member, or has no field
member-count : (r : Record) (d : Bool) (rs : List Record) → d ≡ false → sum record_count (keep (only_if (is_filled r && not d) r) rs) ≡ record_count r + sum record_count rs
member-count [] false rs e = omega arith
member-count (f ∷ fs) false rs e = refl
member-count r true rs e = absurd (false≢true (sym e))

described-count : (r : Record) (d : Bool) (rs : List Record) → d ≡ true → keep (only_if (is_filled r && not d) r) rs ≡ rs
described-count [] true rs e = refl
described-count (f ∷ fs) true rs e = refl
described-count r false rs e = absurd (false≢true e)

members-count : (g : Group) → None is_descriptor g → sum record_count (kept member_of g) ≡ sum own_in g
members-count [] h = refl
members-count (b ∷ g) h = omega (arith, member-count (fields_of b) (is_descriptor b) (kept member_of g) h.0, fields-count b, members-count g h.1)

abbrev members_count : RecSet → ℕ
members_count s = sum record_count s.members

group-count : (first : Bool) (g : Group) → Starts is_descriptor first g → rules_count (set_of g) + members_count (set_of g) ≡ sum own_in g
group-count true [] h = refl
group-count true (b ∷ g) h = omega (arith, ap (λ (t : Bool). record_count (pick t (fields_of b) [])) h.0, members-count (b ∷ g) h)
group-count false [] h = absurd h
group-count false (b ∷ g) h =
    omega (arith, ap (λ (t : Bool). record_count (pick t (fields_of b) [])) h.0, ap (sum record_count) (described-count (fields_of b) (is_descriptor b) (kept member_of g) h.0), fields-count b, members-count g h.1)

groups-count : (first : Bool) (gs : List Group) → Parted is_descriptor first gs → sum rules_count (map set_of gs) + sum members_count (map set_of gs) ≡ sum (λ (g : Group). sum own_in g) gs
groups-count true [] h = absurd h
groups-count false [] h = refl
groups-count first (g ∷ gs) h = omega (arith, group-count first g h.0, groups-count false gs h.1)

-- "Its length is R plus all counts."
pub length-bytes : (ps : List Piece) → length_of (plain_of ps) ≡ length (bytes_of ps)
unfolding length_of plain_of sets_of bytes_of
length-bytes ps =
    omega (arith, lines-count ps, groups-count true (groups ps) (groups-parted ps), sum-flat own_in (groups ps), sum-flat own_count (flat (groups ps)), ap (sum own_count) (groups-pieces ps))

-- the bytes of comments and blank lines under an edit: an insert writes a newline, and no other edit touches them

abbrev loose_in : Block → ℕ
loose_in b = sum loose_count b

abbrev loose_group : Group → ℕ
loose_group g = sum loose_in g

loose-new : (ps : List Pair) → loose_in (map new_piece ps) ≡ 0
loose-new [] = refl
loose-new (p ∷ ps) = omega (arith, loose-new ps)

loose-unfielded : (b : Block) → loose_in (unfielded b) ≡ loose_in b
loose-unfielded [] = refl
loose-unfielded (Piece.blank l ∷ b) = ap (λ (x : ℕ). count_of (l ∷ []) + x) (loose-unfielded b)
loose-unfielded (Piece.comment l ∷ b) = ap (λ (x : ℕ). count_of (l ∷ []) + x) (loose-unfielded b)
loose-unfielded (Piece.field n v ls ∷ b) = omega (arith, loose-unfielded b)

loose-change : (n : Bytes) (c : Change) (p : Piece) → is_of n p ≡ true → loose_in (change_piece c p) ≡ loose_count p
loose-change n c (Piece.blank l) e = absurd (false≢true e)
loose-change n c (Piece.comment l) e = absurd (false≢true e)
loose-change n (Change.value w) (Piece.field m v ls) e = refl
loose-change n Change.dropped (Piece.field m v ls) e = refl
loose-change n (Change.name k) (Piece.field m v ls) e = refl

loose-block : (a : Act) (b : Block) → loose_in (in_block a b) ≡ loose_in b
loose-block Act.delete b = loose-unfielded b
loose-block (Act.add p) b = omega (arith, sum-behind loose_count is_field (new_piece p) b)
loose-block (Act.change n o c) b = sum-at loose_count (is_of n) (change_piece c) (loose-change n c) b o

abbrev own_newlines : Edit → ℕ
own_newlines (Edit.insert new) = 1
own_newlines (Edit.on j a) = 0

loose-group : (e : Edit) (g : Group) → loose_group (in_group e g) ≡ own_newlines e + loose_group g
loose-group (Edit.insert new) g = omega (arith, sum-behind loose_in is_record (fresh new) g, loose-new new)
loose-group (Edit.on j a) g = omega (arith, sum-at loose_in is_member (λ (b : Block). in_block a b ∷ []) (λ b e. omega (arith, loose-block a b)) g j)

loose-flat : (gs : List Group) → loose_in (flat (flat gs)) ≡ sum loose_group gs
loose-flat gs = sum-flat loose_count (flat gs) ∙ sum-flat loose_in gs

loose-groups : (i : ℕ) (e : Edit) (ps : List Piece) → Has (groups ps) i → loose_in (in_groups i e ps) ≡ own_newlines e + loose_in ps
loose-groups i e ps h =
    loose-flat (nth i (in_group e) (groups ps)) ∙ sum-nth loose_group (in_group e) (own_newlines e) (loose-group e) i (groups ps) h ∙ ap (λ (x : ℕ). own_newlines e + x) (sym (loose-flat (groups ps)) ∙ ap loose_in (groups-pieces ps))

loose-front : (new : List Pair) (ps : List Piece) → loose_in (in_front new ps) ≡ length (newline_if ps) + loose_in ps
loose-front new [] = omega (arith, sum-append loose_count (map new_piece new) [], loose-new new)
loose-front new (p ∷ ps) = omega (arith, sum-append loose_count (map new_piece new) (newline ∷ p ∷ ps), loose-new new)

none-there : (i : ℕ) → any is_record (get_or (groups []) i []) ≡ false
none-there zero = refl
none-there (suc i) = refl

edit-loose : (i : ℕ) (e : Edit) (ps : List Piece) → Has (groups ps) i → loose_in (edit_pieces i e ps) ≡ newlines e ps + loose_in ps
edit-loose i (Edit.insert new) ps h = go (any is_record (get_or (groups ps) i [])) refl ps refl
  where
    go : (t : Bool) → any is_record (get_or (groups ps) i []) ≡ t → (qs : List Piece) → qs ≡ ps → loose_in (pick t (in_groups i (Edit.insert new) ps) (in_front new ps)) ≡ length (newline_if ps) + loose_in ps
    go true e [] q = absurd (false≢true (sym (none-there i) ∙ ap (λ (x : List Piece). any is_record (get_or (groups x) i [])) q ∙ e))
    go true e (p ∷ qs) q = loose-groups i (Edit.insert new) ps h ∙ ap (λ (x : List Piece). length (newline_if x) + loose_in ps) q
    go false e qs q = loose-front new ps
edit-loose i (Edit.on j a) ps h = loose-groups i (Edit.on j a) ps h

rules-nth : (i : ℕ) (e : Edit) (ss : List RecSet) → sum rules_count (nth i (in_set e) ss) ≡ sum rules_count ss
rules-nth i e [] = refl
rules-nth zero e (s ∷ ss) = refl
rules-nth (suc i) e (s ∷ ss) = ap (λ (x : ℕ). rules_count s + x) (rules-nth i e ss)

pub edit-others : (i : ℕ) (e : Edit) (ps : List Piece) → Has (groups ps) i → sets_of (edit_pieces i e ps) ≡ nth i (in_set e) (sets_of ps) → others_of (edit_pieces i e ps) (sets_of (edit_pieces i e ps)) ≡ others_of ps (sets_of ps) + newlines e ps
edit-others i e ps h k = omega (arith, ap (sum rules_count) k ∙ rules-nth i e (sets_of ps), edit-loose i e ps h)
