-- The part that view shows is the place that the searches find: the definitions count the records of the whole file, the searches those of the part behind a descriptor.
use Rattle.std.specs.Prelude.{Option as Maybe, Some, None}
use Prim.Native.Nat.{ℕ, zero, suc, ◌+◌, ◌-◌, ◌<◌}
use native.Mathlib.Omega.{arith}
use mathlib.Core.Path.{◌≡◌, refl, sym, ap, ◌∙◌, subst}
use mathlib.Core.Bool.{Bool, true, false}
use mathlib.Core.List.{List, [], ◌∷◌, ◌++◌, append_assoc, map}
use mathlib.Core.Option.{Option, some, none-ne-some, some-injective}
use lib.ListN.{length, take, drop, get_or, get_elem?}
use lib.Seq.{drop-drop, take_at, drop_at}
use Rattle.format.proofs.Fates.{flat-blocks}
use Rattle.format.proofs.Elements.{below-has}
use Rattle.format.proofs.Lists.{flat_append}
use Rattle.format.proofs.Ordinals.{past, ordinal, There, there-at, before-ordinal, block-ordinal}
use Rattle.format.proofs.Records.{close, sets, GoodSets, good-sets}
use Rattle.format.specs.Lists.{is_filled, filter, flat, turn, before}
use Rattle.format.specs.Bytes.{Bytes, text, pick, same}
use Rattle.format.specs.Pieces.{Piece, bytes_of, read_of}
use Rattle.format.specs.Records.{Record, Block, blocks, is_record}
use Rattle.format.specs.Sets.{values_of, groups, RecSet, sets_of}
use Rattle.format.specs.Words.{first_word}
use Rattle.format.specs.Plain.{index_of, members_at, members_in}
use Rattle.format.specs.Calls.{Answer, lead, from_first, to_last, viewed_at}
use Rattle.format.proofs.Whole.{bytesOf-append}
use Rattle.records.specs.Places.{is_readable, Placed, size_in, placed_at, place_on, places_in, places_of, is_descriptor, place_of, names_set, head_of, descriptor_head, head_place, record_by, record_place}
use Rattle.records.specs.declared.Place.{Place}
use Rattle.records.specs.declared.Head.{Head}
use Rattle.records.proofs.Shifts.{raise, fields_in}
use Rattle.records.proofs.Walks.{size-append, size_none}
use Rattle.records.proofs.Readings.{readable-reads, places-read}
use Rattle.records.proofs.FirstPlaces.{lead-first, to_last_lem}
use Rattle.records.proofs.Searches.{places_at, places-all, head-default, head-named}
use Rattle.records.proofs.Members.{head-told, record-told, step_on, index_by, Stands, stands, others, others_by, others-enter, members-on, first_members, other-index, sets-places}

-- the bytes at a place
abbrev pub part_of : Bytes → ℕ → ℕ → Bytes
part_of s start end = take (end - start) (drop start s)

-- The k-th record of blocks: the blocks before it, its own, and its place.
placed-kth : (bs : List Block) (at k : ℕ) (p : Placed) → get_elem? (places_in at bs) k ≡ some p
    → (more : List Block) × (bs ≡ before is_record k bs ++ (get_or (filter is_record bs) k [] ∷ more)) × (placed_at (at + size_in (flat (before is_record k bs))) (get_or (filter is_record bs) k []) ≡ p)
placed-kth [] at k p h = absurd (none-ne-some p h)
placed-kth (b ∷ bs) at k p h = go (is_record b) k h (λ j. placed-kth bs (at + size_in b) j p)
  where
    go : (t : Bool) (k : ℕ) → get_elem? (place_on t (placed_at at b) (places_in (at + size_in b) bs)) k ≡ some p
        → ((j : ℕ) → get_elem? (places_in (at + size_in b) bs) j ≡ some p → (more : List Block) × (bs ≡ before is_record j bs ++ (get_or (filter is_record bs) j [] ∷ more)) × (placed_at (at + size_in b + size_in (flat (before is_record j bs))) (get_or (filter is_record bs) j []) ≡ p))
        → (more : List Block) × (b ∷ bs ≡ turn t k [] (λ (j : ℕ). b ∷ before is_record j bs) ++ (get_or (pick t (b ∷ filter is_record bs) (filter is_record bs)) k [] ∷ more)) × (placed_at (at + size_in (flat (turn t k [] (λ (j : ℕ). b ∷ before is_record j bs)))) (get_or (pick t (b ∷ filter is_record bs) (filter is_record bs)) k []) ≡ p)
    go true zero e ih = (bs, refl, ap (λ (x : ℕ). placed_at x b) (omega (arith, size_none)) ∙ some-injective (placed_at at b) p e)
    go true (suc k) e ih =
        let m = ih k e in
        let c : Block = get_or (filter is_record bs) k [] in
        (m.0, ap {B = List Block} (λ x. b ∷ x) m.1, ap (λ (x : ℕ). placed_at x c) (omega (arith, size-append b (flat (before is_record k bs)))) ∙ m.2)
    go false k e ih =
        let m = ih k e in
        let c : Block = get_or (filter is_record bs) k [] in
        (m.0, ap {B = List Block} (λ x. b ∷ x) m.1, ap (λ (x : ℕ). placed_at x c) (omega (arith, size-append b (flat (before is_record k bs)))) ∙ m.2)

-- the bytes of a block from its first field to its last, where its bytes begin at a place of a text
block-part : (s : Bytes) (at : ℕ) (b : Block) (ps : List Piece) → drop at s ≡ bytes_of (b ++ ps) → bytes_of (to_last (from_first b)) ≡ part_of s (placed_at at b).start (placed_at at b).end
block-part s at b ps e =
    let f : Block = from_first b in
    let c = to_last_lem f in
    let k : ℕ = at + size_in (lead b) in
    let m : ℕ = (k + size_in (to_last f)) - k in
    let x : drop at s ≡ bytes_of (lead b) ++ bytes_of (f ++ ps) = e ∙ ap (λ (z : Block). bytes_of (z ++ ps)) (sym (lead-first b)) ∙ ap bytes_of (append_assoc (lead b) f ps) ∙ bytesOf-append (lead b) (f ++ ps) in
    let y : drop k s ≡ bytes_of (f ++ ps) = sym (drop-drop (size_in (lead b)) at s) ∙ ap (drop (size_in (lead b))) x ∙ drop_at (bytes_of (lead b)) (bytes_of (f ++ ps)) (size_in (lead b)) refl in
    let z : drop k s ≡ bytes_of (to_last f) ++ bytes_of (c.0 ++ ps) = y ∙ ap (λ (w : Block). bytes_of (w ++ ps)) (sym c.1) ∙ ap bytes_of (append_assoc (to_last f) c.0 ps) ∙ bytesOf-append (to_last f) (c.0 ++ ps) in
    sym (ap (take m) z ∙ take_at (bytes_of (to_last f)) (bytes_of (c.0 ++ ps)) m (omega arith))

-- A record's number in the whole file, by its number in the part where its set begins: ms are the records before the sets ds.
abbrev Ranked : Bytes → Bytes → List Placed → List Record → List RecSet → Maybe Head → Type 0
Ranked s n ps ms ds None = Unit {0}
Ranked s n ps ms ds (Some a) = (i : ℕ) × (index_of n ds ≡ some i) × ((j : ℕ) → get_elem? ps (past ms (ordinal ds i j)) ≡ get_elem? (places_at s a.begin) j)

-- a descriptor is one record
past-descriptor : (r : Record) (v : Bytes) (vs : List Bytes) (k : ℕ) → values_of (text "%rec") r ≡ v ∷ vs → past (close r []) k ≡ suc k
past-descriptor [] v vs k e = absurd (let z : ◌≡◌ {A = ℕ} 0 1 = cc in omega arith)
past-descriptor (f ∷ fs) v vs k e = refl

module _ (s n : Bytes) where
  ranked-member : (p : Placed) (ps : List Placed) (ms : List Record) (ds : List RecSet) (x : Maybe Head) → Ranked s n ps ms ds x → Ranked s n (p ∷ ps) (p.fields ∷ ms) ds x
  ranked-member p ps ms ds None h = tt
  ranked-member p ps ms ds (Some a) h = h

  module _ (p : Placed) (ps : List Placed) (v : Bytes) (vs : List Bytes) (is : values_of (text "%rec") p.fields ≡ v ∷ vs) (behind : ps ≡ places_at s p.after) (d : RecSet) (rules : d.rules ≡ p.fields) (ds : List RecSet) where
    one : (k : ℕ) → past (close d.rules []) k ≡ suc k
    one k = past-descriptor d.rules v vs k (ap (values_of (text "%rec")) rules ∙ is)

    ranked-other : (x : Maybe Head) → same n d.name ≡ false → Ranked s n ps d.members ds x → Ranked s n (p ∷ ps) [] (d ∷ ds) x
    ranked-other None e h = tt
    ranked-other (Some a) e h = (suc h.0, other-index n d ds e ∙ ap step_on h.1, λ j. ap (get_elem? (p ∷ ps)) (one (past d.members (ordinal ds h.0 j))) ∙ h.2 j)

    ranked-named : (t : Bool) (x : Maybe Head) → same n d.name ≡ t → Ranked s n ps d.members ds x → Ranked s n (p ∷ ps) [] (d ∷ ds) (pick t (Some (head_of p)) x)
    ranked-named true x e h = (0, ap (λ (b : Bool). index_by b (index_of n ds)) e, λ j. ap (get_elem? (p ∷ ps)) (one j) ∙ ap (λ (qs : List Placed). get_elem? qs j) behind)
    ranked-named false x e h = ranked-other x e h

  ranked-by : (vs : List Bytes) (p : Placed) (ps : List Placed) (ss : List RecSet) (x : Maybe Head) → values_of (text "%rec") p.fields ≡ vs → ps ≡ places_at s p.after → Ranked s n ps (members_at 0 ss) (others ss) x
      → Ranked s n (p ∷ ps) (pick (is_filled vs) [] (p.fields ∷ members_at 0 ss)) (others_by vs p.fields ss) (pick (names_set n vs) (Some (head_of p)) x)
  ranked-by [] p ps ss x e b h = ranked-member p ps (members_at 0 ss) (others ss) x h
  ranked-by (v ∷ vs) p ps ss x e b h = ranked-named p ps v vs e b (record { name = first_word v; rules = p.fields; members = members_at 0 ss }) refl (others ss) (same n (first_word v)) x refl h

  ranked : (ps : List Placed) → Stands s ps → Ranked s n ps (first_members ps) (others (sets (fields_in ps))) (descriptor_head n ps)
  ranked [] h = tt
  ranked (p ∷ ps) h =
      let vs : List Bytes = values_of (text "%rec") p.fields in
      let ss : List RecSet = sets (fields_in ps) in
      let x : Maybe Head = descriptor_head n (p ∷ ps) in
      subst (λ (ds : List RecSet). Ranked s n (p ∷ ps) (first_members (p ∷ ps)) ds x) (sym (others-enter vs p.fields ss))
      (subst (λ (ms : List Record). Ranked s n (p ∷ ps) ms (others_by vs p.fields ss) x) (sym (members-on p ps)) (ranked-by vs p ps ss (descriptor_head n ps) refl h.1 (ranked ps h.2)))

  -- the default set in front
  ranked-all : (ps : List Placed) (ss : List RecSet) (x : Maybe Head) → GoodSets ss → same n [] ≡ false → Ranked s n ps (members_at 0 ss) (others ss) x → Ranked s n ps [] ss x
  ranked-all ps [] x g e h = absurd g
  ranked-all ps (d ∷ ds) None g e h = tt
  ranked-all ps (d ∷ ds) (Some a) g e h =
      (suc h.0, other-index n d ds (ap (same n) g.0 ∙ e) ∙ ap step_on h.1, λ j. ap (λ (r : Record). get_elem? ps (past (close r []) (past d.members (ordinal ds h.0 j)))) g.1 ∙ h.2 j)

default-ranked : (s : Bytes) (ss : List RecSet) → GoodSets ss → Ranked s [] (places_of s) [] ss (Some (record { start = 0; end = 0; begin = 0 }))
default-ranked s [] g = absurd g
default-ranked s (d ∷ ds) g =
    (0, ap (λ (m : Bytes). index_by (same [] m) (index_of [] ds)) g.0, λ j. ap (λ (r : Record). get_elem? (places_of s) (past (close r []) j)) g.1 ∙ ap (λ (ps : List Placed). get_elem? ps j) (places-all s))

set-ranked : (s n : Bytes) → is_readable s ≡ true → Ranked s n (places_of s) [] (sets (fields_in (places_of s))) (head_place n (places_of s))
set-ranked s [] e =
    let ss : List RecSet = sets (fields_in (places_of s)) in
    subst (Ranked s [] (places_of s) [] ss) (sym (head-default [] (places_of s) refl)) (default-ranked s ss (good-sets (fields_in (places_of s))))
set-ranked s (c ∷ n) e =
    let m : Bytes = c ∷ n in
    let ss : List RecSet = sets (fields_in (places_of s)) in
    subst (Ranked s m (places_of s) [] ss) (sym (head-named m (places_of s) (λ q. omega arith)))
    (ranked-all s m (places_of s) ss (descriptor_head m (places_of s)) (good-sets (fields_in (places_of s))) refl (ranked s m (places_of s) (stands s e)))

-- a record that is found by its number is the one of that number among all of the part
abbrev Nth : List Placed → ℕ → Maybe Place → Type 0
Nth ps k None = Unit {0}
Nth ps k (Some q) = (p : Placed) × (place_of p ≡ q) × (get_elem? ps k ≡ some p)

nth_on : (p : Placed) (ps : List Placed) (k : ℕ) (x : Maybe Place) → Nth ps k x → Nth (p ∷ ps) (suc k) x
nth_on p ps k None h = tt
nth_on p ps k (Some q) h = h

nth-by : (t : Bool) (p : Placed) (ps : List Placed) (k : ℕ) (later : ℕ → Maybe Place) → ((j : ℕ) → Nth ps j (later j)) → Nth (p ∷ ps) k (record_by t k p later)
nth-by true p ps k later h = tt
nth-by false p ps zero later h = (p, refl, refl)
nth-by false p ps (suc k) later h = nth_on p ps k (later k) (h k)

nth : (ps : List Placed) (k : ℕ) → Nth ps k (record_place ps k)
unfolding record_place
nth [] k = tt
nth (p ∷ ps) k = nth-by (is_descriptor p) p ps k (λ (j : ℕ). record_place ps j) (λ j. nth ps j)

nth-raised : (a : ℕ) (ps : List Placed) (k : ℕ) (p : Placed) → get_elem? ps k ≡ some p → get_elem? (map (raise a) ps) k ≡ some (raise a p)
nth-raised a [] k p e = absurd (none-ne-some p e)
nth-raised a (q ∷ ps) zero p e = ap {B = Option Placed} (λ x. some (raise a x)) (some-injective q p e)
nth-raised a (q ∷ ps) (suc k) p e = nth-raised a ps k p e

-- Record k of the set of a head, found itself at q from where its records begin: its number in the whole file, and its place.
pub record Located (s n : Bytes) (k start end : ℕ) : Type 0 where
  pub index : ℕ
  pub set : index_of n (sets_of (read_of s)) ≡ some index
  pub place : Placed
  pub there : get_elem? (places_in 0 (blocks (read_of s))) (ordinal (sets_of (read_of s)) index k) ≡ some place
  pub starts : place.start ≡ start
  pub ends : place.end ≡ end

module _ (s n : Bytes) (head : Head) (k : ℕ) (q : Place) (e : is_readable s ≡ true) (f : head_place n (places_of s) ≡ Some head) (g : record_place (places_of (drop head.begin s)) k ≡ Some q) where
  pub located : Located s n k (head.begin + q.start) (head.begin + q.end)
  located =
      let ss : List RecSet = sets_of (read_of s) in
      let r : Ranked s n (places_of s) [] ss (Some head) = subst (Ranked s n (places_of s) [] ss) f (subst (λ (ds : List RecSet). Ranked s n (places_of s) [] ds (head_place n (places_of s))) (sym (sets-places s)) (set-ranked s n e)) in
      let m : Nth (places_of (drop head.begin s)) k (Some q) = subst (Nth (places_of (drop head.begin s)) k) g (nth (places_of (drop head.begin s)) k) in
      record {
        index = r.0;
        set = r.1;
        place = raise head.begin m.0;
        there = ap (λ (ps : List Placed). get_elem? ps (ordinal ss r.0 k)) (sym (places-read s)) ∙ r.2 k ∙ nth-raised head.begin (places_of (drop head.begin s)) k m.0 m.2;
        starts = ap (λ (x : Place). head.begin + x.start) m.1;
        ends = ap (λ (x : Place). head.begin + x.end) m.1;
      }

  -- the record is there
  pub row-there : (i : ℕ) → index_of n (sets_of (read_of s)) ≡ some i → There (sets_of (read_of s)) i k
  row-there i d =
      let ss : List RecSet = sets_of (read_of s) in
      let m = (head-told s n (Some head) e (sym f) refl).set in
      let r = record-told (drop head.begin s) k (Some q) m.readable (sym g) refl in
      let here : members_at i ss ≡ members_at 0 (sets_of (read_of (drop head.begin s))) = ap (members_in ss) (sym d) ∙ m.members in
      there-at ss i k (below-has (members_at i ss) k (subst (λ (rs : List Record). k < length rs) (sym here) r.there))

  pub view-part : viewed_at 0 (groups (read_of s)) (index_of n (sets_of (read_of s))) k ≡ record { result = Answer.value (head.begin + q.start); part = part_of s (head.begin + q.start) (head.begin + q.end) }
  view-part =
      let ps : List Piece = read_of s in
      let l = located in
      let i : ℕ = l.index in
      let t = row-there i l.set in
      let o : ℕ = ordinal (sets_of ps) i k in
      let c = placed-kth (blocks ps) 0 o l.place l.there in
      let before' : List Piece = flat (before is_record o (blocks ps)) in
      let b : Block = get_or (filter is_record (blocks ps)) o [] in
      let all : s ≡ bytes_of before' ++ bytes_of (b ++ flat c.0) =
      sym (readable-reads s e).all ∙ ap bytes_of (sym (flat-blocks ps) ∙ ap flat c.1 ∙ flat_append (before is_record o (blocks ps)) (b ∷ c.0)) ∙ bytesOf-append before' (b ++ flat c.0) in
      let at : ℕ = 0 + size_in before' in
      let d : drop at s ≡ bytes_of (b ++ flat c.0) = ap (drop at) all ∙ drop_at (bytes_of before') (bytes_of (b ++ flat c.0)) at (omega arith) in
      let w = block-part s at b (flat c.0) d in
      let start : size_in (before' ++ lead b) ≡ head.begin + q.start = omega (arith, size-append before' (lead b), ap (λ (x : Placed). x.start) c.2, l.starts) in
      let end : (placed_at at b).end ≡ head.begin + q.end = ap (λ (x : Placed). x.end) c.2 ∙ l.ends in
      let first : (placed_at at b).start ≡ head.begin + q.start = ap (λ (x : Placed). x.start) c.2 ∙ l.starts in
      ap (λ (x : Option ℕ). viewed_at 0 (groups ps) x k) l.set
      ∙ (λ j. record { result = Answer.value (size_in (before-ordinal i k ps t j ++ lead (block-ordinal i k ps t j))); part = bytes_of (to_last (from_first (block-ordinal i k ps t j))) })
      ∙ (λ j. record { result = Answer.value (start j); part = (w ∙ (λ y. part_of s (first y) (end y))) j })
