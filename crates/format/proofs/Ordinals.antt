-- An edit's place counted over the whole file: record j of set i is a record of the file's, descriptors counted, and an insert goes behind one.
use Prim.Native.Nat.{ℕ, zero, suc}
use mathlib.Core.Path.{◌≡◌, refl, sym, ap, ◌∙◌, subst}
use mathlib.Core.Bool.{Bool, true, false, ◌||◌, false≢true}
use mathlib.Core.List.{List, [], ◌∷◌, ◌++◌, append_assoc, map}
use lib.ListN.{get_or, take, drop}
use Rattle.format.specs.Bytes.{Bytes, pick, any}
use Rattle.format.specs.Lists.{only_if, is_filled, filter, flat, keep, kept, turn, at, nth, behind_last, before}
use Rattle.format.specs.Pieces.{Piece}
use Rattle.format.specs.Records.{Record, Block, blocks, fields_of, is_record}
use Rattle.format.specs.Sets.{rec_values, is_descriptor, Group, groups, is_member, member_of, RecSet, rules_of, set_of, sets_of}
use Rattle.format.specs.Written.{Pair}
use Rattle.format.specs.Edits.{Act, Edit, in_block, in_groups, in_front, edit_pieces}
use Rattle.format.specs.Plain.{members_at}
use Rattle.format.specs.Calls.{block_at, pieces_before}
use Rattle.format.proofs.Elements.{Each, Filled, Has}
use Rattle.format.proofs.Lists.{None, flat_append, Starts, Parted}
use Rattle.format.proofs.Fates.{fresh, groups-blocks}
use Rattle.format.proofs.Grouping.{described-record, described-member, record-member, rules-none}
use Rattle.format.proofs.Regrouping.{groups-parted}
use Rattle.format.proofs.Records.{close, Names, Described, GoodSets}

-- where record j of set i stands among all, and a set's last record, else its descriptor

abbrev pub past : List Record → ℕ → ℕ
past [] k = k
past (r ∷ rs) k = suc (past rs k)

abbrev pub ordinal : List RecSet → ℕ → ℕ → ℕ
ordinal [] i j = j
ordinal (s ∷ ss) zero j = past (close s.rules []) j
ordinal (s ∷ ss) (suc i) j = past (close s.rules []) (past s.members (ordinal ss i j))

abbrev pub last_at : List Record → ℕ
last_at [] = zero
last_at (r ∷ []) = zero
last_at (r ∷ q ∷ rs) = suc (last_at (q ∷ rs))

abbrev pub last_of : List RecSet → ℕ → ℕ
last_of [] i = zero
last_of (s ∷ ss) zero = last_at (close s.rules s.members)
last_of (s ∷ ss) (suc i) = past (close s.rules []) (past s.members (last_of ss i))

-- record j of set i is there
abbrev pub There : List RecSet → ℕ → ℕ → Type 0
There [] i j = ⊥
There (s ∷ ss) zero j = Has s.members j
There (s ∷ ss) (suc i) j = There ss i j

pub there-at : (ss : List RecSet) (i j : ℕ) → Has (members_at i ss) j → There ss i j
there-at [] i j h = h
there-at (s ∷ ss) zero j h = h
there-at (s ∷ ss) (suc i) j h = there-at ss i j h

-- a descriptor is one record, and no member

filled-close : (r : Record) (k : ℕ) → is_filled r ≡ true → past (close r []) k ≡ suc k
filled-close [] k e = absurd (false≢true e)
filled-close (x ∷ r) k e = refl

rules-of : (d : Block) (g : Group) → is_descriptor d ≡ true → rules_of (d ∷ g) ≡ fields_of d
rules-of d g e = ap (λ (t : Bool). pick t (fields_of d) []) e

members-of : (d : Block) (g : Group) → is_descriptor d ≡ true → kept member_of (d ∷ g) ≡ kept member_of g
members-of d g e = ap (λ (t : Bool). keep (only_if t (fields_of d)) (kept member_of g)) (described-member d e)

past-rules : (d : Block) (g : Group) (k : ℕ) → is_descriptor d ≡ true → past (close (rules_of (d ∷ g)) []) k ≡ suc k
past-rules d g k e = ap (λ (r : Record). past (close r []) k) (rules-of d g e) ∙ filled-close (fields_of d) k (described-record d e)

-- Walks over blocks to the k-th that passes a test: what is made of it and the blocks behind it, what passing a block adds, and what there is without one.
module _ {R : Type 0} (here : Block → List Block → R) (pass : Block → R → R) (nothing : R) where
  abbrev walk : (Block → Bool) → ℕ → List Block → R
  walk t k [] = nothing
  walk t k (b ∷ bs) = turn (t b) k (here b bs) (λ (j : ℕ). pass b (walk t j bs))

  abbrev pass_all : List Block → R → R
  pass_all [] r = r
  pass_all (b ∷ bs) r = pass b (pass_all bs r)

  pass-append : (xs ys : List Block) (r : R) → pass_all (xs ++ ys) r ≡ pass_all xs (pass_all ys r)
  pass-append [] ys r = refl
  pass-append (x ∷ xs) ys r = ap (pass x) (pass-append xs ys r)

  -- a block that is no record is passed; a record is, or is the one
  pass-bare : (b : Block) (bs : List Block) (k : ℕ) → is_record b ≡ false → walk is_record k (b ∷ bs) ≡ pass b (walk is_record k bs)
  pass-bare b bs k e = ap (λ (t : Bool). turn t k (here b bs) (λ (j : ℕ). pass b (walk is_record j bs))) e

  pass-record : (b : Block) (bs : List Block) (k : ℕ) → is_record b ≡ true → walk is_record (suc k) (b ∷ bs) ≡ pass b (walk is_record k bs)
  pass-record b bs k e = ap (λ (t : Bool). turn t (suc k) (here b bs) (λ (j : ℕ). pass b (walk is_record j bs))) e

  here-record : (b : Block) (bs : List Block) → is_record b ≡ true → walk is_record zero (b ∷ bs) ≡ here b bs
  here-record b bs e = ap (λ (t : Bool). turn t zero (here b bs) (λ (j : ℕ). pass b (walk is_record j bs))) e

  -- blocks without a descriptor
  members-passed : (g : Group) (bs : List Block) (k : ℕ) → None is_descriptor g → walk is_record (past (kept member_of g) k) (g ++ bs) ≡ pass_all g (walk is_record k bs)
  members-passed [] bs k h = refl
  members-passed (b ∷ g) bs k h = go (is_member b) refl (members-passed g bs k h.1)
    where
      go : (t : Bool) → is_member b ≡ t → walk is_record (past (kept member_of g) k) (g ++ bs) ≡ pass_all g (walk is_record k bs) → walk is_record (past (keep (only_if t (fields_of b)) (kept member_of g)) k) (b ∷ (g ++ bs)) ≡ pass b (pass_all g (walk is_record k bs))
      go true e ih = pass-record b (g ++ bs) (past (kept member_of g) k) (sym (record-member b h.0) ∙ e) ∙ ap (pass b) ih
      go false e ih = pass-bare b (g ++ bs) (past (kept member_of g) k) (sym (record-member b h.0) ∙ e) ∙ ap (pass b) ih

  -- the same walk to the j-th member of a group, other blocks behind it
  abbrev walk_in : ℕ → Group → List Block → R
  walk_in j [] bs = nothing
  walk_in j (b ∷ g) bs = turn (is_member b) j (here b (g ++ bs)) (λ (i : ℕ). pass b (walk_in i g bs))

  member-here : (g : Group) (bs : List Block) (j : ℕ) → None is_descriptor g → Has (kept member_of g) j → walk is_record j (g ++ bs) ≡ walk_in j g bs
  member-here [] bs j h k = absurd k
  member-here (b ∷ g) bs j h k = go (is_member b) refl j k (λ i l. member-here g bs i h.1 l)
    where
      go : (t : Bool) → is_member b ≡ t → (j : ℕ) → Has (keep (only_if t (fields_of b)) (kept member_of g)) j → ((i : ℕ) → Has (kept member_of g) i → walk is_record i (g ++ bs) ≡ walk_in i g bs) → walk is_record j (b ∷ (g ++ bs)) ≡ turn (is_member b) j (here b (g ++ bs)) (λ (i : ℕ). pass b (walk_in i g bs))
      go true e zero l ih = here-record b (g ++ bs) (sym (record-member b h.0) ∙ e) ∙ ap (λ (t : Bool). turn t zero (here b (g ++ bs)) (λ (i : ℕ). pass b (walk_in i g bs))) (sym e)
      go true e (suc j) l ih = pass-record b (g ++ bs) j (sym (record-member b h.0) ∙ e) ∙ ap (pass b) (ih j l) ∙ ap (λ (t : Bool). turn t (suc j) (here b (g ++ bs)) (λ (i : ℕ). pass b (walk_in i g bs))) (sym e)
      go false e j l ih = pass-bare b (g ++ bs) j (sym (record-member b h.0) ∙ e) ∙ ap (pass b) (ih j l) ∙ ap (λ (t : Bool). turn t j (here b (g ++ bs)) (λ (i : ℕ). pass b (walk_in i g bs))) (sym e)

  -- a group is passed, or has the record; its descriptor is one record
  group-passed : (first : Bool) (g : Group) (bs : List Block) (k : ℕ) → Starts is_descriptor first g → walk is_record (past (close (rules_of g) []) (past (kept member_of g) k)) (g ++ bs) ≡ pass_all g (walk is_record k bs)
  group-passed true g bs k h = ap (λ (r : Record). walk is_record (past (close r []) (past (kept member_of g) k)) (g ++ bs)) (rules-none g h) ∙ members-passed g bs k h
  group-passed false [] bs k h = absurd h
  group-passed false (d ∷ g) bs k h =
      ap (λ (n : ℕ). walk is_record n (d ∷ (g ++ bs))) (past-rules d g (past (kept member_of (d ∷ g)) k) h.0 ∙ ap (λ (ms : List Record). suc (past ms k)) (members-of d g h.0))
      ∙ pass-record d (g ++ bs) (past (kept member_of g) k) (described-record d h.0)
      ∙ ap (pass d) (members-passed g bs k h.1)

  group-has : (first : Bool) (g : Group) (bs : List Block) (j : ℕ) → Starts is_descriptor first g → Has (kept member_of g) j → walk is_record (past (close (rules_of g) []) j) (g ++ bs) ≡ walk_in j g bs
  group-has true g bs j h k = ap (λ (r : Record). walk is_record (past (close r []) j) (g ++ bs)) (rules-none g h) ∙ member-here g bs j h k
  group-has false [] bs j h k = absurd h
  group-has false (d ∷ g) bs j h k =
      ap (λ (n : ℕ). walk is_record n (d ∷ (g ++ bs))) (past-rules d g j h.0)
      ∙ pass-record d (g ++ bs) j (described-record d h.0)
      ∙ ap (pass d) (member-here g bs j h.1 (subst (λ (ms : List Record). Has ms j) (members-of d g h.0) k))
      ∙ ap (λ (t : Bool). turn t j (here d (g ++ bs)) (λ (i : ℕ). pass d (walk_in i g bs))) (sym (described-member d h.0))

  groups-have : (first : Bool) (gs : List Group) (i j : ℕ) → Parted is_descriptor first gs → There (map set_of gs) i j → walk is_record (ordinal (map set_of gs) i j) (flat gs) ≡ pass_all (flat (take i gs)) (walk_in j (get_or gs i []) (flat (drop (suc i) gs)))
  groups-have first [] i j c h = absurd h
  groups-have first (g ∷ gs) zero j c h = group-has first g (flat gs) j c.0 h
  groups-have first (g ∷ gs) (suc i) j c h =
      group-passed first g (flat gs) (ordinal (map set_of gs) i j) c.0 ∙ ap (pass_all g) (groups-have false gs i j c.1 h) ∙ sym (pass-append g (flat (take i gs)) (walk_in j (get_or gs i []) (flat (drop (suc i) gs))))

-- Such walks: the blocks with others in the place of the record, those before it, and its block.

turn-alike : {R : Type 0} (b : Bool) (k : ℕ) (x : R) (f g : ℕ → R) → ((j : ℕ) → f j ≡ g j) → turn b k x f ≡ turn b k x g
turn-alike true zero x f g h = refl
turn-alike true (suc k) x f g h = h k
turn-alike false k x f g h = h k

module _ (f : Block → List Block) where
  abbrev placing : (Block → Bool) → ℕ → List Block → List Block
  placing t k bs = walk (λ (b : Block) (more : List Block). f b ++ more) (λ (b : Block) (r : List Block). b ∷ r) [] t k bs

  walk_at : (t : Block → Bool) (k : ℕ) (bs : List Block) → placing t k bs ≡ at t k f bs
  walk_at t k [] = refl
  walk_at t k (b ∷ bs) = turn-alike (t b) k (f b ++ bs) (λ (j : ℕ). b ∷ placing t j bs) (λ (j : ℕ). b ∷ at t j f bs) (λ j. ap {B = List Block} (λ x. b ∷ x) (walk_at t j bs))

  abbrev placing_in : ℕ → Group → List Block → List Block
  placing_in j g bs = walk_in (λ (b : Block) (more : List Block). f b ++ more) (λ (b : Block) (r : List Block). b ∷ r) [] j g bs

  within-at : (g : Group) (bs : List Block) (j : ℕ) → Has (kept member_of g) j → placing_in j g bs ≡ at is_member j f g ++ bs
  within-at [] bs j h = absurd h
  within-at (b ∷ g) bs j h = go (is_member b) j h (λ i l. within-at g bs i l)
    where
      go : (t : Bool) (j : ℕ) → Has (keep (only_if t (fields_of b)) (kept member_of g)) j → ((i : ℕ) → Has (kept member_of g) i → placing_in i g bs ≡ at is_member i f g ++ bs) → turn t j (f b ++ (g ++ bs)) (λ (i : ℕ). b ∷ placing_in i g bs) ≡ turn t j (f b ++ g) (λ (i : ℕ). b ∷ at is_member i f g) ++ bs
      go true zero l ih = sym (append_assoc (f b) g bs)
      go true (suc j) l ih = ap {B = List Block} (λ x. b ∷ x) (ih j l)
      go false j l ih = ap {B = List Block} (λ x. b ∷ x) (ih j l)

cons-pass : (here : Block → List Block → List Block) (xs ys : List Block) → pass_all here (λ (b : Block) (r : List Block). b ∷ r) [] xs ys ≡ xs ++ ys
cons-pass here [] ys = refl
cons-pass here (x ∷ xs) ys = ap {B = List Block} (λ z. x ∷ z) (cons-pass here xs ys)

walk_before : (t : Block → Bool) (k : ℕ) (bs : List Block) → walk (λ (b : Block) (more : List Block). []) (λ (b : Block) (r : List Block). b ∷ r) [] t k bs ≡ before t k bs
walk_before t k [] = refl
walk_before t k (b ∷ bs) = turn-alike (t b) k [] (λ (j : ℕ). b ∷ walk (λ (b : Block) (more : List Block). []) (λ (b : Block) (r : List Block). b ∷ r) [] t j bs) (λ (j : ℕ). b ∷ before t j bs) (λ j. ap {B = List Block} (λ x. b ∷ x) (walk_before t j bs))

within-before : (g : Group) (bs : List Block) (j : ℕ) → walk_in (λ (b : Block) (more : List Block). []) (λ (b : Block) (r : List Block). b ∷ r) [] j g bs ≡ before is_member j g
within-before [] bs j = refl
within-before (b ∷ g) bs j =
    turn-alike (is_member b) j [] (λ (i : ℕ). b ∷ walk_in (λ (b : Block) (more : List Block). []) (λ (b : Block) (r : List Block). b ∷ r) [] i g bs) (λ (i : ℕ). b ∷ before is_member i g) (λ i. ap {B = List Block} (λ x. b ∷ x) (within-before g bs i))

turn-nth : (b : Bool) (k : ℕ) (x : Block) (xs : List Block) (f : ℕ → Block) → ((j : ℕ) → f j ≡ get_or xs j []) → turn b k x f ≡ get_or (pick b (x ∷ xs) xs) k []
turn-nth true zero x xs f h = refl
turn-nth true (suc k) x xs f h = h k
turn-nth false k x xs f h = h k

walk_block : (t : Block → Bool) (k : ℕ) (bs : List Block) → walk (λ (b : Block) (more : List Block). b) (λ (b r : Block). r) [] t k bs ≡ get_or (filter t bs) k []
walk_block t k [] = refl
walk_block t k (b ∷ bs) = turn-nth (t b) k b (filter t bs) (λ (j : ℕ). walk (λ (b : Block) (more : List Block). b) (λ (b r : Block). r) [] t j bs) (λ j. walk_block t j bs)

within_block : (g : Group) (bs : List Block) (j : ℕ) → walk_in (λ (b : Block) (more : List Block). b) (λ (b r : Block). r) [] j g bs ≡ get_or (filter is_member g) j []
within_block [] bs j = refl
within_block (b ∷ g) bs j = turn-nth (is_member b) j b (filter is_member g) (λ (i : ℕ). walk_in (λ (b : Block) (more : List Block). b) (λ (b r : Block). r) [] i g bs) (λ i. within_block g bs i)

skip-pass : (xs : List Block) (y : Block) → pass_all (λ (b : Block) (more : List Block). b) (λ (b r : Block). r) [] xs y ≡ y
skip-pass [] y = refl
skip-pass (x ∷ xs) y = skip-pass xs y

-- blocks with others in the place of the k-th record
abbrev pub on_record : ℕ → (Block → List Block) → List Block → List Block
on_record k f bs = at is_record k f bs

nth-flat : (h : Group → Group) (i : ℕ) (gs : List Group) → Has gs i → flat (nth i h gs) ≡ flat (take i gs) ++ (h (get_or gs i []) ++ flat (drop (suc i) gs))
nth-flat h i [] k = absurd k
nth-flat h zero (g ∷ gs) k = refl
nth-flat h (suc i) (g ∷ gs) k = ap (λ (x : List Block). g ++ x) (nth-flat h i gs k) ∙ sym (append_assoc g (flat (take i gs)) (h (get_or gs i []) ++ flat (drop (suc i) gs)))

there_has : (gs : List Group) (i j : ℕ) → There (map set_of gs) i j → Has gs i × Has (kept member_of (get_or gs i [])) j
there_has [] i j h = absurd h
there_has (g ∷ gs) zero j h = (tt, h)
there_has (g ∷ gs) (suc i) j h = there_has gs i j h

module _ (i j : ℕ) (ps : List Piece) (h : There (sets_of ps) i j) where
  abbrev gs : List Group
  gs = groups ps

  abbrev place : ℕ
  place = ordinal (sets_of ps) i j

  member-there : There (map set_of (groups ps)) i j
  unfolding sets_of
  member-there = h

  -- an act on record j of set i
  pub on-ordinal : (a : Act) → in_groups i (Edit.on j a) ps ≡ flat (on_record (ordinal (sets_of ps) i j) (λ (b : Block). in_block a b ∷ []) (blocks ps))
  unfolding sets_of
  on-ordinal a =
      let f : Block → List Block = λ (b : Block). in_block a b ∷ [] in
      let k = there_has gs i j member-there in
      let here : Block → List Block → List Block = λ (b : Block) (more : List Block). f b ++ more in
      ap flat (
      nth-flat (λ (g : Group). at is_member j f g) i gs k.0
      ∙ ap (λ (x : List Block). flat (take i gs) ++ x) (sym (within-at f (get_or gs i []) (flat (drop (suc i) gs)) j k.1))
      ∙ sym (cons-pass here (flat (take i gs)) (walk_in here (λ (b : Block) (r : List Block). b ∷ r) [] j (get_or gs i []) (flat (drop (suc i) gs))))
      ∙ sym (groups-have here (λ (b : Block) (r : List Block). b ∷ r) [] true gs i j (groups-parted ps) member-there)
      ∙ walk_at f is_record (ordinal (map set_of gs) i j) (flat gs)
      ∙ ap (on_record (ordinal (map set_of gs) i j) f) (groups-blocks ps))

  -- the pieces before its block, and its block
  pub before-ordinal : pieces_before (groups ps) i j ≡ flat (before is_record (ordinal (sets_of ps) i j) (blocks ps))
  unfolding sets_of
  before-ordinal =
      let here : Block → List Block → List Block = λ (b : Block) (more : List Block). [] in
      sym (flat_append (flat (take i gs)) (before is_member j (get_or gs i [])))
      ∙ ap flat (
      ap (λ (x : List Block). flat (take i gs) ++ x) (sym (within-before (get_or gs i []) (flat (drop (suc i) gs)) j))
      ∙ sym (cons-pass here (flat (take i gs)) (walk_in here (λ (b : Block) (r : List Block). b ∷ r) [] j (get_or gs i []) (flat (drop (suc i) gs))))
      ∙ sym (groups-have here (λ (b : Block) (r : List Block). b ∷ r) [] true gs i j (groups-parted ps) member-there)
      ∙ walk_before is_record (ordinal (map set_of gs) i j) (flat gs)
      ∙ ap (before is_record (ordinal (map set_of gs) i j)) (groups-blocks ps))

  pub block-ordinal : block_at (groups ps) i j ≡ get_or (filter is_record (blocks ps)) (ordinal (sets_of ps) i j) []
  unfolding sets_of
  block-ordinal =
      let here : Block → List Block → Block = λ (b : Block) (more : List Block). b in
      sym (within_block (get_or gs i []) (flat (drop (suc i) gs)) j)
      ∙ sym (skip-pass (flat (take i gs)) (walk_in here (λ (b r : Block). r) [] j (get_or gs i []) (flat (drop (suc i) gs))))
      ∙ sym (groups-have here (λ (b r : Block). r) [] true gs i j (groups-parted ps) member-there)
      ∙ walk_block is_record (ordinal (map set_of gs) i j) (flat gs)
      ∙ ap (λ (bs : List Block). get_or (filter is_record bs) (ordinal (map set_of gs) i j) []) (groups-blocks ps)

-- An insert behind the last of set i.

abbrev pub HasLast : List RecSet → ℕ → Type 0
HasLast [] i = ⊥
HasLast (s ∷ ss) zero = Filled (close s.rules s.members)
HasLast (s ∷ ss) (suc i) = HasLast ss i

-- a set has a record or a descriptor, but for the default set without records

last-described : (r : Record) (n : Bytes) (ms : List Record) → Names (rec_values r) n → Filled (close r ms)
last-described [] n ms h = absurd h
last-described (f ∷ fs) n ms h = tt

last-others : (ss : List RecSet) (i : ℕ) → Each Described ss → Has ss i → HasLast ss i
last-others [] i d h = absurd h
last-others (s ∷ ss) zero d h = last-described s.rules s.name s.members d.0.0
last-others (s ∷ ss) (suc i) d h = last-others ss i d.1 h

pub has_last : (ss : List RecSet) → GoodSets ss → (i : ℕ) → Has ss (suc i) → HasLast ss (suc i)
has_last [] g i h = absurd h
has_last (s ∷ ss) g i h = last-others ss i g.3 h

last-filled : (r : Record) (ms : List Record) → Filled ms → Filled (close r ms)
last-filled [] ms h = h
last-filled (f ∷ fs) ms h = tt

pub first-has-last : (ss : List RecSet) → Filled (members_at 0 ss) → HasLast ss 0
first-has-last [] h = h
first-has-last (s ∷ ss) h = last-filled s.rules s.members h

filled_is : (ms : List Record) → Filled ms → is_filled ms ≡ true
filled_is [] f = absurd f
filled_is (m ∷ ms) f = refl

any-kept : (g : Group) → None is_descriptor g → any is_record g ≡ is_filled (kept member_of g)
any-kept [] h = refl
any-kept (b ∷ g) h = go (is_record b) (is_member b) (sym (record-member b h.0)) (any-kept g h.1)
  where
    go : (r t : Bool) → r ≡ t → any is_record g ≡ is_filled (kept member_of g) → (r || any is_record g) ≡ is_filled (keep (only_if t (fields_of b)) (kept member_of g))
    go true true p ih = refl
    go true false p ih = absurd (false≢true (sym p))
    go false true p ih = absurd (false≢true p)
    go false false p ih = ih

-- a block of its own behind the k-th record
behind-bare : (y b : Block) (bs : List Block) (k : ℕ) → is_record b ≡ false → on_record k (λ (x : Block). x ∷ y ∷ []) (b ∷ bs) ≡ b ∷ on_record k (λ (x : Block). x ∷ y ∷ []) bs
behind-bare y b bs k e = ap (λ (t : Bool). turn t k (b ∷ y ∷ bs) (λ (j : ℕ). b ∷ on_record j (λ (x : Block). x ∷ y ∷ []) bs)) e

behind-record : (y b : Block) (bs : List Block) (k : ℕ) → is_record b ≡ true → on_record (suc k) (λ (x : Block). x ∷ y ∷ []) (b ∷ bs) ≡ b ∷ on_record k (λ (x : Block). x ∷ y ∷ []) bs
behind-record y b bs k e = ap (λ (t : Bool). turn t (suc k) (b ∷ y ∷ bs) (λ (j : ℕ). b ∷ on_record j (λ (x : Block). x ∷ y ∷ []) bs)) e

behind-here : (y b : Block) (bs : List Block) → is_record b ≡ true → on_record zero (λ (x : Block). x ∷ y ∷ []) (b ∷ bs) ≡ b ∷ y ∷ bs
behind-here y b bs e = ap (λ (t : Bool). turn t zero (b ∷ y ∷ bs) (λ (j : ℕ). b ∷ on_record j (λ (x : Block). x ∷ y ∷ []) bs)) e

module _ (y : Block) (bs : List Block) where
  abbrev behind : Block → List Block
  behind b = b ∷ y ∷ []

  abbrev Last : Group → Type 0
  Last g = on_record (last_at (kept member_of g)) behind (g ++ bs) ≡ behind_last is_record y g ++ bs

  -- a record, and blocks without a descriptor behind it
  last-from : (b : Block) (r : Record) (g : Group) → is_record b ≡ true → None is_descriptor g → (Filled (kept member_of g) → Last g) → on_record (last_at (r ∷ kept member_of g)) behind (b ∷ (g ++ bs)) ≡ behind_last is_record y (b ∷ g) ++ bs
  last-from b r g e h ih = go (kept member_of g) refl
    where
      go : (ms : List Record) → kept member_of g ≡ ms → on_record (last_at (r ∷ kept member_of g)) behind (b ∷ (g ++ bs)) ≡ behind_last is_record y (b ∷ g) ++ bs
      go [] k =
          ap (λ (ms : List Record). on_record (last_at (r ∷ ms)) behind (b ∷ (g ++ bs))) k ∙ behind-here y b (g ++ bs) e
          ∙ ap (λ (t : Bool). (b ∷ pick t (behind_last is_record y g) (y ∷ g)) ++ bs) (sym (any-kept g h ∙ ap is_filled k))
      go (m ∷ ms) k =
          ap (λ (xs : List Record). on_record (last_at (r ∷ xs)) behind (b ∷ (g ++ bs))) k ∙ behind-record y b (g ++ bs) (last_at (m ∷ ms)) e
          ∙ ap {B = List Block} (λ x. b ∷ x) (ap (λ (xs : List Record). on_record (last_at xs) behind (g ++ bs)) (sym k) ∙ ih (subst Filled (sym k) tt))
          ∙ ap (λ (t : Bool). (b ∷ pick t (behind_last is_record y g) (y ∷ g)) ++ bs) (sym (any-kept g h ∙ ap is_filled k))

  last-members : (g : Group) → None is_descriptor g → Filled (kept member_of g) → Last g
  last-members [] h f = absurd f
  last-members (b ∷ g) h f = go (is_member b) refl f (last-members g h.1)
    where
      go : (t : Bool) → is_member b ≡ t → Filled (keep (only_if t (fields_of b)) (kept member_of g)) → (Filled (kept member_of g) → Last g) → on_record (last_at (keep (member_of b) (kept member_of g))) behind (b ∷ (g ++ bs)) ≡ behind_last is_record y (b ∷ g) ++ bs
      go true e f ih = ap (λ (t : Bool). on_record (last_at (keep (only_if t (fields_of b)) (kept member_of g))) behind (b ∷ (g ++ bs))) e ∙ last-from b (fields_of b) g (sym (record-member b h.0) ∙ e) h.1 ih
      go false e f ih =
          ap (λ (t : Bool). on_record (last_at (keep (only_if t (fields_of b)) (kept member_of g))) behind (b ∷ (g ++ bs))) e
          ∙ behind-bare y b (g ++ bs) (last_at (kept member_of g)) (sym (record-member b h.0) ∙ e)
          ∙ ap {B = List Block} (λ x. b ∷ x) (ih f)
          ∙ ap (λ (t : Bool). (b ∷ pick t (behind_last is_record y g) (y ∷ g)) ++ bs) (sym (any-kept g h.1 ∙ filled_is (kept member_of g) f))

  filled-last : (r : Record) (ms : List Record) → is_filled r ≡ true → last_at (close r ms) ≡ last_at (r ∷ ms)
  filled-last [] ms e = absurd (false≢true e)
  filled-last (x ∷ r) ms e = refl

  group-last : (first : Bool) (g : Group) → Starts is_descriptor first g → Filled (close (rules_of g) (kept member_of g)) → on_record (last_at (close (rules_of g) (kept member_of g))) behind (g ++ bs) ≡ behind_last is_record y g ++ bs
  group-last true g h f =
      ap (λ (r : Record). on_record (last_at (close r (kept member_of g))) behind (g ++ bs)) (rules-none g h) ∙ last-members g h (subst (λ (r : Record). Filled (close r (kept member_of g))) (rules-none g h) f)
  group-last false [] h f = absurd h
  group-last false (d ∷ g) h f =
      (λ i. on_record (last_at (close (rules-of d g h.0 i) (members-of d g h.0 i))) behind (d ∷ (g ++ bs)))
      ∙ ap (λ (n : ℕ). on_record n behind (d ∷ (g ++ bs))) (filled-last (fields_of d) (kept member_of g) (described-record d h.0))
      ∙ last-from d (fields_of d) g (described-record d h.0) h.1 (last-members g h.1)

last-groups : (y : Block) (first : Bool) (gs : List Group) (i : ℕ) → Parted is_descriptor first gs → HasLast (map set_of gs) i → on_record (last_of (map set_of gs) i) (λ (b : Block). b ∷ y ∷ []) (flat gs) ≡ flat (nth i (behind_last is_record y) gs)
last-groups y first [] i c h = absurd h
last-groups y first (g ∷ gs) zero c h = group-last y (flat gs) first g c.0 h
last-groups y first (g ∷ gs) (suc i) c h =
    let behind : Block → List Block = λ (b : Block). b ∷ y ∷ [] in
    let here : Block → List Block → List Block = λ (b : Block) (more : List Block). behind b ++ more in
    (λ i'. sym (walk_at behind is_record (past (close (rules_of g) []) (past (kept member_of g) (last_of (map set_of gs) i))) (g ++ flat gs)) i')
    ∙ group-passed here (λ (b : Block) (r : List Block). b ∷ r) [] first g (flat gs) (last_of (map set_of gs) i) c.0
    ∙ cons-pass here g (walk here (λ (b : Block) (r : List Block). b ∷ r) [] is_record (last_of (map set_of gs) i) (flat gs))
    ∙ ap (λ (x : List Block). g ++ x) (walk_at behind is_record (last_of (map set_of gs) i) (flat gs) ∙ last-groups y false gs i c.1 h)

group-record : (first : Bool) (g : Group) → Starts is_descriptor first g → Filled (close (rules_of g) (kept member_of g)) → any is_record g ≡ true
group-record true g h f = any-kept g h ∙ filled_is (kept member_of g) (subst (λ (r : Record). Filled (close r (kept member_of g))) (rules-none g h) f)
group-record false [] h f = absurd h
group-record false (d ∷ g) h f = ap (λ (t : Bool). t || any is_record g) (described-record d h.0)

groups-record : (first : Bool) (gs : List Group) (i : ℕ) → Parted is_descriptor first gs → HasLast (map set_of gs) i → any is_record (get_or gs i []) ≡ true
groups-record first [] i c h = absurd h
groups-record first (g ∷ gs) zero c h = group-record first g c.0 h
groups-record first (g ∷ gs) (suc i) c h = groups-record false gs i c.1 h

pub insert-last : (new : List Pair) (i : ℕ) (ps : List Piece) → HasLast (sets_of ps) i → edit_pieces i (Edit.insert new) ps ≡ flat (on_record (last_of (sets_of ps) i) (λ (b : Block). b ∷ fresh new ∷ []) (blocks ps))
unfolding sets_of
insert-last new i ps h =
    ap (λ (t : Bool). pick t (in_groups i (Edit.insert new) ps) (in_front new ps)) (groups-record true (groups ps) i (groups-parted ps) h)
    ∙ ap flat (sym (last-groups (fresh new) true (groups ps) i (groups-parted ps) h)) ∙ ap (λ (bs : List Block). flat (on_record (last_of (map set_of (groups ps)) i) (λ (b : Block). b ∷ fresh new ∷ []) bs)) (groups-blocks ps)

-- and in front, where the default set has no record
none_first : (gs : List Group) → Parted is_descriptor true gs → members_at 0 (map set_of gs) ≡ [] → any is_record (get_or gs 0 []) ≡ false
none_first [] c e = absurd c
none_first (g ∷ gs) c e = any-kept g c.0 ∙ ap is_filled e

pub insert-front : (new : List Pair) (ps : List Piece) → members_at 0 (sets_of ps) ≡ [] → edit_pieces 0 (Edit.insert new) ps ≡ in_front new ps
unfolding sets_of
insert-front new ps e = ap (λ (t : Bool). pick t (in_groups 0 (Edit.insert new) ps) (in_front new ps)) (none_first (groups ps) (groups-parted ps) e)
