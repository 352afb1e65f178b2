-- An edit of a block and of a group: what it does to the record and to the set.
use Prim.Native.Nat.{ℕ}
use mathlib.Core.Path.{◌≡◌, refl, sym, ap, ◌∙◌, subst}
use mathlib.Core.Bool.{Bool, true, false, ◌&&◌, not, and-eq-true_iff, false≢true}
use mathlib.Core.List.{List, [], ◌∷◌, ◌++◌, map}
use mathlib.Core.Option.{Option, none, some}
use lib.ListN.{get_or}
use borrow.Author.Tests.{not-true}
use Rattle.format.specs.Bytes.{Bytes, pick, any}
use Rattle.format.specs.Lists.{only_if, is_filled, filter, keep, kept, turn, at, always, behind_last}
use Rattle.format.specs.Lines.{Line}
use Rattle.format.specs.Words.{first_word}
use Rattle.format.specs.Pieces.{Piece}
use Rattle.format.specs.Records.{Field, Record, Block, count_of, field_of, is_field, fields_of, is_record}
use Rattle.format.specs.Sets.{rec_values, is_descriptor, Group, is_member, member_of, RecSet, rules_of, set_of}
use Rattle.format.specs.Written.{Pair, new_field, new_piece}
use Rattle.format.specs.Edits.{Change, Act, Edit, is_named, is_of, change_piece, change_field, unfielded, in_block, in_record, in_group, in_members, in_set}
use Rattle.format.proofs.Elements.{Each, each-imp, Filled}
use Rattle.format.proofs.Lists.{None, kept_append, Mirrors, kept_at, kept-behind, each_at, each-pick, each-behind, Starts}
use Rattle.format.proofs.Fates.{fresh}
use Rattle.format.proofs.Whole.{Sound}
use Rattle.format.proofs.Writing.{written_count, fields-new}
use Rattle.format.proofs.Renaming.{count-rename}
use Rattle.format.proofs.Named.{NewName, NewNames, NotRec, Member, member-new, member-in}

pub fields-append : (a b : Block) → fields_of (a ++ b) ≡ fields_of a ++ fields_of b
fields-append a b = kept_append field_of a b

-- the fields of an edited block

fields-unfielded : (b : Block) → fields_of (unfielded b) ≡ []
fields-unfielded [] = refl
fields-unfielded (Piece.blank l ∷ b) = fields-unfielded b
fields-unfielded (Piece.comment l ∷ b) = fields-unfielded b
fields-unfielded (Piece.field n v ls ∷ b) = fields-unfielded b

no_field : (p : Piece) → is_field p ≡ false → field_of p ≡ none
no_field (Piece.blank l) e = refl
no_field (Piece.comment l) e = refl
no_field (Piece.field n v ls) e = absurd (false≢true (sym e))

field-new : (p : Pair) → field_of (new_piece p) ≡ some (new_field p)
field-new p = ap {B = Option Field} (λ k. some (record { name = p.name; value = p.value; count = k })) (written_count p)

field-change : (c : Change) (n v : Bytes) (ls : List Line) → Sound (Piece.field n v ls) → fields_of (change_piece c (Piece.field n v ls)) ≡ change_field c (record { name = n; value = v; count = count_of ls })
field-change (Change.value w) n v ls h = ap {B = Record} (λ (o : Option Field). keep o []) (field-new (record { name = n; value = w }))
field-change Change.dropped n v ls h = refl
field-change (Change.name m) n v ls h = ap {B = Record} (λ x. record { name = m; value = v; count = x } ∷ []) (count-rename n v ls m h)

changes-mirror : (n : Bytes) (c : Change) (b : Block) → Each Sound b → Each (λ (p : Piece). Mirrors field_of (is_of n) (is_named n) (change_piece c) (change_field c) p (field_of p)) b
changes-mirror n c [] h = tt
changes-mirror n c (Piece.blank l ∷ b) h = (refl, changes-mirror n c b h.1)
changes-mirror n c (Piece.comment l ∷ b) h = (refl, changes-mirror n c b h.1)
changes-mirror n c (Piece.field m v ls ∷ b) h = ((refl, λ e. field-change c m v ls h.0), changes-mirror n c b h.1)

pub fields_in : (a : Act) (b : Block) → Each Sound b → fields_of (in_block a b) ≡ in_record a (fields_of b)
fields_in Act.delete b h = fields-unfielded b
fields_in (Act.add p) b h = kept-behind field_of is_field no_field (new_piece p) b ∙ ap (λ (o : Option Field). fields_of b ++ keep o []) (field-new p)
fields_in (Act.change n o c) b h = kept_at field_of (is_of n) (is_named n) (change_piece c) (change_field c) b (changes-mirror n c b h) o

-- A block by its fields: a member, a descriptor, or without a field.

abbrev is_member_by : Record → Bool
is_member_by r = is_filled r && not (is_filled (rec_values r))

abbrev member_by : Record → Option Record
member_by r = only_if (is_member_by r) r

no-values : (vs : List Bytes) → is_filled vs ≡ false → vs ≡ []
no-values [] e = refl
no-values (v ∷ vs) e = absurd (false≢true (sym e))

pub member-block : (b : Block) → is_member b ≡ true → Member (fields_of b)
member-block b e = no-values (rec_values (fields_of b)) (not-true (is_descriptor b) ((and-eq-true_iff (is_record b) (not (is_descriptor b))).0 e).1)

pub member-record : (b : Block) → is_member b ≡ true → is_record b ≡ true
member-record b e = ((and-eq-true_iff (is_record b) (not (is_descriptor b))).0 e).0

-- what is left of a member is a member, or nothing
left-member : (r : Record) → Member r → keep (member_by r) [] ≡ filter is_filled (r ∷ [])
left-member [] m = refl
left-member (f ∷ fs) m = ap (λ (vs : List Bytes). keep (only_if (not (is_filled vs)) (f ∷ fs)) []) m

pub described-record : (b : Block) → is_descriptor b ≡ true → is_record b ≡ true
described-record b e = go (fields_of b) e
  where
    go : (r : Record) → is_filled (rec_values r) ≡ true → is_filled r ≡ true
    go [] e = e
    go (f ∷ r) e = refl

pub described-member : (b : Block) → is_descriptor b ≡ true → is_member b ≡ false
described-member b e = go (is_record b) (is_descriptor b) e
  where
    go : (r d : Bool) → d ≡ true → (r && not d) ≡ false
    go true true e = refl
    go false true e = refl
    go r false e = absurd (false≢true e)

-- a block that is no descriptor is a member where it is a record
pub record-member : (b : Block) → is_descriptor b ≡ false → is_member b ≡ is_record b
record-member b e = go (is_record b) (is_descriptor b) e
  where
    go : (r d : Bool) → d ≡ false → (r && not d) ≡ r
    go true false e = refl
    go false false e = refl
    go r true e = absurd (false≢true (sym e))

pub bare-member : (b : Block) → is_record b ≡ false → member_of b ≡ none
bare-member b e = ap (λ (t : Bool). only_if (t && not (is_descriptor b)) (fields_of b)) e

pub bare-descriptor : (b : Block) → is_record b ≡ false → is_descriptor b ≡ false
bare-descriptor b e = go (fields_of b) e
  where
    go : (r : Record) → is_filled r ≡ false → is_filled (rec_values r) ≡ false
    go [] e = refl
    go (f ∷ r) e = absurd (false≢true (sym e))

-- an act on a member's block
module _ (a : Act) (names : NewName NotRec a) (b : Block) (sound : Each Sound b) (m : is_member b ≡ true) where
  act-fields : fields_of (in_block a b) ≡ in_record a (fields_of b)
  act-fields = fields_in a b sound

  act-is : Member (in_record a (fields_of b))
  act-is = member-in a names (fields_of b) (member-block b m)

  act-member : kept member_of (in_block a b ∷ []) ≡ filter is_filled (in_record a (fields_of b) ∷ [])
  act-member = ap (λ (r : Record). keep (member_by r) []) act-fields ∙ left-member (in_record a (fields_of b)) act-is

  act-plain : is_descriptor (in_block a b) ≡ false
  act-plain = ap (λ (r : Record). is_filled (rec_values r)) act-fields ∙ ap is_filled act-is

-- the block that an insert writes

pub fresh-plain : (new : List Pair) → Each (λ (p : Pair). NotRec p.name) new → is_descriptor (map new_piece new) ≡ false
fresh-plain new h = ap (λ (r : Record). is_filled (rec_values r)) (fields-new new) ∙ ap is_filled (member-new new h)

pub fresh-member : (p : Pair) (new : List Pair) → Each (λ (q : Pair). NotRec q.name) (p ∷ new) → member_of (map new_piece (p ∷ new)) ≡ some (map new_field (p ∷ new))
fresh-member p new h = ap member_by (fields-new (p ∷ new)) ∙ ap (λ (vs : List Bytes). only_if (not (is_filled vs)) (map new_field (p ∷ new))) (member-new (p ∷ new) h)

-- an edit of a group

abbrev pub HasPairs : Edit → Type 0
HasPairs (Edit.insert new) = Filled new
HasPairs (Edit.on j a) = Unit {0}

abbrev pub SoundIn : Group → Type 0
SoundIn g = Each (Each Sound) g

acts-mirror : (a : Act) → NewName NotRec a → (g : Group) → SoundIn g → Each (λ (b : Block). Mirrors member_of is_member always (λ (x : Block). in_block a x ∷ []) (λ (r : Record). filter is_filled (in_record a r ∷ [])) b (member_of b)) g
acts-mirror a n [] h = tt
acts-mirror a n (b ∷ g) h = (go (is_member b) refl, acts-mirror a n g h.1)
  where
    go : (t : Bool) → is_member b ≡ t → Mirrors member_of is_member always (λ (x : Block). in_block a x ∷ []) (λ (r : Record). filter is_filled (in_record a r ∷ [])) b (only_if t (fields_of b))
    go false e = e
    go true e = (e, λ q. act-member a n b h.0 e)

members-in : (e : Edit) → HasPairs e → NewNames NotRec e → (g : Group) → SoundIn g → kept member_of (in_group e g) ≡ in_members e (kept member_of g)
members-in (Edit.insert []) f n g h = absurd f
members-in (Edit.insert (p ∷ new)) f n g h = kept-behind member_of is_record bare-member (fresh (p ∷ new)) g ∙ ap (λ (o : Option Record). kept member_of g ++ keep o []) (fresh-member p new n)
members-in (Edit.on j a) f n g h = kept_at member_of is_member always (λ (x : Block). in_block a x ∷ []) (λ (r : Record). filter is_filled (in_record a r ∷ [])) g (acts-mirror a n g h) j

abbrev Plain : Block → Type 0
Plain b = is_descriptor b ≡ false

plain_in : (e : Edit) → NewNames NotRec e → (g : Group) → SoundIn g → None is_descriptor g → None is_descriptor (in_group e g)
plain_in (Edit.insert new) n g h k = each-behind Plain is_record (fresh new) (fresh-plain new n) g k
plain_in (Edit.on j a) n g h k = each_at Plain is_member (λ (b : Block). in_block a b ∷ []) g k (each-imp (Each Sound) (λ (b : Block). is_member b ≡ true → Each Plain (in_block a b ∷ [])) (λ b s e. (act-plain a n b s e, tt)) g h) j

-- a descriptor stays at the head
head_in : (e : Edit) (d : Block) (g : Group) → NewNames NotRec e → SoundIn g → is_descriptor d ≡ true → None is_descriptor g → (g' : Group) × (in_group e (d ∷ g) ≡ d ∷ g') × None is_descriptor g'
head_in (Edit.insert new) d g n h t k =
    let more : Group = pick (any is_record g) (behind_last is_record (fresh new) g) (fresh new ∷ g) in
    (more, refl, each-pick Plain (any is_record g) (behind_last is_record (fresh new) g) (fresh new ∷ g) (plain_in (Edit.insert new) n g h k) (fresh-plain new n, k))
head_in (Edit.on j a) d g n h t k =
    let f : Block → List Block = λ (b : Block). in_block a b ∷ [] in
    (in_group (Edit.on j a) g, ap (λ (b : Bool). turn b j (f d ++ g) (λ (i : ℕ). d ∷ at is_member i f g)) (described-member d t), plain_in (Edit.on j a) n g h k)

pub starts-in : (e : Edit) → NewNames NotRec e → (first : Bool) (g : Group) → SoundIn g → Starts is_descriptor first g → Starts is_descriptor first (in_group e g)
starts-in e n true g h k = plain_in e n g h k
starts-in e n false [] h k = absurd k
starts-in e n false (d ∷ g) h k = let x = head_in e d g n h.1 k.0 k.1 in subst (Starts is_descriptor false) (sym x.1) (k.0, x.2)

pub rules-none : (g : Group) → None is_descriptor g → rules_of g ≡ []
rules-none [] k = refl
rules-none (b ∷ g) k = ap (λ (t : Bool). pick t (fields_of b) []) k.0

rules-in : (e : Edit) → NewNames NotRec e → (first : Bool) (g : Group) → SoundIn g → Starts is_descriptor first g → rules_of (in_group e g) ≡ rules_of g
rules-in e n true g h k = rules-none (in_group e g) (plain_in e n g h k) ∙ sym (rules-none g k)
rules-in e n false [] h k = absurd k
rules-in e n false (d ∷ g) h k = ap rules_of (head_in e d g n h.1 k.0 k.1).1

-- a set by its rules and its members
abbrev pub set_by : Record → List Record → RecSet
set_by rules members = record { name = first_word (get_or (rec_values rules) 0 []); rules = rules; members = members }

pub set-in : (e : Edit) → HasPairs e → NewNames NotRec e → (first : Bool) (g : Group) → SoundIn g → Starts is_descriptor first g → set_of (in_group e g) ≡ in_set e (set_of g)
set-in e f n first g h k = let r = rules-in e n first g h k in λ i. set_by (r i) (members-in e f n g h i)
