-- An insert into a set goes to where its records end: behind the block of the last one, else of the descriptor; into a default set without records, in front of the file.
use Rattle.std.specs.Prelude.{Option, Some, None}
use Prim.Native.Nat.{ℕ, zero, suc, ◌+◌, ◌<◌}
use native.Mathlib.Omega.{arith}
use mathlib.Core.Path.{◌≡◌, refl, sym, ap, ◌∙◌, subst}
use mathlib.Core.Bool.{Bool, true, false}
use mathlib.Core.List.{List, [], ◌∷◌, ◌++◌}
use mathlib.Core.Option.{some, none-ne-some, some-injective}
use lib.ListN.{drop, get_elem?}
use Rattle.format.proofs.Fates.{fresh}
use Rattle.format.proofs.Applying.{index-has}
use Rattle.format.proofs.Ordinals.{past, last_at, last_of, on_record, HasLast, has_last, first-has-last, insert-last, insert-front}
use Rattle.format.proofs.Records.{close, sets, GoodSets, good-sets}
use Rattle.format.specs.Lists.{flat, is_filled}
use Rattle.format.specs.Bytes.{Bytes, text, pick, same}
use Rattle.format.specs.Pieces.{bytes_of, read_of}
use Rattle.format.specs.Records.{Block, blocks, Record}
use Rattle.format.specs.Sets.{values_of, RecSet, sets_of}
use Rattle.format.specs.Words.{first_word}
use Rattle.format.specs.Written.{Pair, written_all}
use Rattle.format.specs.Edits.{Edit, edit_pieces}
use Rattle.format.specs.Plain.{index_of, members_at}
use Rattle.format.proofs.Elements.{Filled}
use Rattle.format.proofs.Splices.{spliced, gap_bytes, front_bytes_lem}
use Rattle.records.specs.Places.{is_readable, Placed, places_of, is_descriptor, names_set, head_of, descriptor_head, head_place}
use Rattle.records.specs.Sets.{set_end}
use Rattle.records.specs.declared.Head.{Head}
use Rattle.records.proofs.Shifts.{fields_in}
use Rattle.records.proofs.Readings.{readable-reads, places-read}
use Rattle.records.proofs.Searches.{places_at, head-default, head-named}
use Rattle.records.proofs.Members.{step_on, index_by, Stands, stands, others, others_by, others-enter, members-on, first_members, other-index, sets-places}
use Rattle.records.proofs.SetEnds.{end_whole}
use Rattle.records.proofs.Splicing.{cut, insert-bytes}

-- The k-th place ends at z.
abbrev EndsAt : List Placed → ℕ → ℕ → Type 0
EndsAt ps k z = (p : Placed) × (get_elem? ps k ≡ some p) × (p.after ≡ z)

-- the last of a record and the members behind it
last-by : (p q : Placed) (ps : List Placed) (r : Record) (ms : List Record) (z : ℕ) (t : Bool) → EndsAt (q ∷ ps) (last_at (q.fields ∷ ms)) z → EndsAt (p ∷ q ∷ ps) (last_at (r ∷ pick t [] (q.fields ∷ ms))) (pick t p.after z)
last-by p q ps r ms z true h = (p, refl, refl)
last-by p q ps r ms z false h = h

last-in : (p : Placed) (ps : List Placed) (r : Record) → EndsAt (p ∷ ps) (last_at (r ∷ first_members ps)) (set_end p.after ps)
unfolding set_end
last-in p [] r = (p, refl, refl)
last-in p (q ∷ ps) r =
    let z : ℕ = set_end q.after ps in
    subst (λ (ms : List Record). EndsAt (p ∷ q ∷ ps) (last_at (r ∷ ms)) (pick (is_descriptor q) p.after z)) (sym (members-on q ps)) (last-by p q ps r (first_members ps) z (is_descriptor q) (last-in q ps q.fields))

-- The last record of the set of a name, else its descriptor, ends where the records from its beginning on do: ms are the records before the sets ds.
abbrev Lasts : Bytes → Bytes → List Placed → List Record → List RecSet → Option Head → Type 0
Lasts s n ps ms ds None = Unit {0}
Lasts s n ps ms ds (Some head) = (i : ℕ) × (index_of n ds ≡ some i) × EndsAt ps (past ms (last_of ds i)) (set_end head.begin (places_at s head.begin))

-- a descriptor is a record
closed : (r : Record) (v : Bytes) (vs : List Bytes) (rs : List Record) → values_of (text "%rec") r ≡ v ∷ vs → close r rs ≡ r ∷ rs
closed [] v vs rs e = absurd (let z : ◌≡◌ {A = ℕ} 0 1 = cc in omega arith)
closed (f ∷ fs) v vs rs e = refl

module _ (s n : Bytes) where
  lasts-member : (p : Placed) (ps : List Placed) (ms : List Record) (ds : List RecSet) (x : Option Head) → Lasts s n ps ms ds x → Lasts s n (p ∷ ps) (p.fields ∷ ms) ds x
  lasts-member p ps ms ds None h = tt
  lasts-member p ps ms ds (Some head) h = h

  module _ (p : Placed) (ps : List Placed) (v : Bytes) (vs : List Bytes) (is : values_of (text "%rec") p.fields ≡ v ∷ vs) (behind : ps ≡ places_at s p.after) (ds : List RecSet) where
    abbrev opened : RecSet
    opened = record { name = first_word v; rules = p.fields; members = first_members ps }

    lasts-other : (x : Option Head) → same n (first_word v) ≡ false → Lasts s n ps (first_members ps) ds x → Lasts s n (p ∷ ps) [] (opened ∷ ds) x
    lasts-other None e h = tt
    lasts-other (Some head) e h =
        let k : ℕ = past (first_members ps) (last_of ds h.0) in
        (suc h.0, other-index n opened ds e ∙ ap step_on h.1, subst (λ (rs : List Record). EndsAt (p ∷ ps) (past rs k) (set_end head.begin (places_at s head.begin))) (sym (closed p.fields v vs [] is)) h.2)

    lasts-named : (t : Bool) (x : Option Head) → same n (first_word v) ≡ t → Lasts s n ps (first_members ps) ds x → Lasts s n (p ∷ ps) [] (opened ∷ ds) (pick t (Some (head_of p)) x)
    lasts-named true x e h = (
      0,
      ap (λ (b : Bool). index_by b (index_of n ds)) e,
      subst (λ (rs : List Record). EndsAt (p ∷ ps) (last_at rs) (set_end p.after (places_at s p.after))) (sym (closed p.fields v vs (first_members ps) is))
          (subst (λ (qs : List Placed). EndsAt (p ∷ ps) (last_at (p.fields ∷ first_members ps)) (set_end p.after qs)) behind (last-in p ps p.fields)),
    )
    lasts-named false x e h = lasts-other x e h

  lasts-by : (vs : List Bytes) (p : Placed) (ps : List Placed) (x : Option Head) → values_of (text "%rec") p.fields ≡ vs → ps ≡ places_at s p.after → Lasts s n ps (first_members ps) (others (sets (fields_in ps))) x
      → Lasts s n (p ∷ ps) (pick (is_filled vs) [] (p.fields ∷ first_members ps)) (others_by vs p.fields (sets (fields_in ps))) (pick (names_set n vs) (Some (head_of p)) x)
  lasts-by [] p ps x e b h = lasts-member p ps (first_members ps) (others (sets (fields_in ps))) x h
  lasts-by (v ∷ vs) p ps x e b h = lasts-named p ps v vs e b (others (sets (fields_in ps))) (same n (first_word v)) x refl h

  lasts : (ps : List Placed) → Stands s ps → Lasts s n ps (first_members ps) (others (sets (fields_in ps))) (descriptor_head n ps)
  lasts [] h = tt
  lasts (p ∷ ps) h =
      let vs : List Bytes = values_of (text "%rec") p.fields in
      let ss : List RecSet = sets (fields_in ps) in
      let x : Option Head = descriptor_head n (p ∷ ps) in
      subst (λ (ds : List RecSet). Lasts s n (p ∷ ps) (first_members (p ∷ ps)) ds x) (sym (others-enter vs p.fields ss))
      (subst (λ (ms : List Record). Lasts s n (p ∷ ps) ms (others_by vs p.fields ss) x) (sym (members-on p ps)) (lasts-by vs p ps (descriptor_head n ps) refl h.1 (lasts ps h.2)))

  -- the default set in front
  lasts-all : (ps : List Placed) (ss : List RecSet) (head : Head) → GoodSets ss → same n [] ≡ false → Lasts s n ps (members_at 0 ss) (others ss) (Some head) → (j : ℕ) × (index_of n ss ≡ some (suc j)) × EndsAt ps (last_of ss (suc j)) (set_end head.begin (places_at s head.begin))
  lasts-all ps [] head g e h = absurd g
  lasts-all ps (d ∷ ds) head g e h = (
    h.0,
    other-index n d ds (ap (same n) g.0 ∙ e) ∙ ap step_on h.1,
    subst (λ (r : Record). EndsAt ps (past (close r []) (past d.members (last_of ds h.0))) (set_end head.begin (places_at s head.begin))) (sym g.1) h.2,
  )

-- the default set: its last record, or its beginning where it has none
first_by : (t : Bool) (p : Placed) (ps : List Placed) → Filled (pick t [] (p.fields ∷ first_members ps)) → EndsAt (p ∷ ps) (last_at (pick t [] (p.fields ∷ first_members ps))) (pick t 0 (set_end p.after ps))
first_by true p ps h = absurd h
first_by false p ps h = last-in p ps p.fields

first-in : (ps : List Placed) → Filled (first_members ps) → EndsAt ps (last_at (first_members ps)) (set_end 0 ps)
unfolding set_end
first-in [] h = absurd h
first-in (p ∷ ps) h =
    subst (λ (ms : List Record). EndsAt (p ∷ ps) (last_at ms) (pick (is_descriptor p) 0 (set_end p.after ps))) (sym (members-on p ps))
    (first_by (is_descriptor p) p ps (subst (λ (ms : List Record). Filled ms) (members-on p ps) h))

none-by : (t : Bool) (r : Record) (ms : List Record) (z : ℕ) → pick t [] (r ∷ ms) ≡ [] → pick t 0 z ≡ 0
none-by true r ms z e = refl
none-by false r ms z e = absurd (let y : ◌≡◌ {A = ℕ} 0 1 = cc in omega arith)

first-none : (ps : List Placed) → first_members ps ≡ [] → set_end 0 ps ≡ 0
unfolding set_end
first-none [] e = refl
first-none (p ∷ ps) e = none-by (is_descriptor p) p.fields (first_members ps) (set_end p.after ps) (sym (members-on p ps) ∙ e)

-- a place ends behind the file's first byte
ends_some : (s : Bytes) (ps : List Placed) (k z : ℕ) → Stands s ps → EndsAt ps k z → 0 < z
ends_some s [] k z h f = absurd (none-ne-some f.0 f.1)
ends_some s (p ∷ ps) zero z h f =
    let e : p ≡ f.0 = some-injective p f.0 f.1 in
    omega (arith, h.0.filled, h.0.within, ap (λ (x : Placed). x.after) e, f.2)
ends_some s (p ∷ ps) (suc k) z h f = ends_some s ps k z h.2 f

-- What an insert makes of the bytes, by the place z where the set ends: at 0 the record goes in front, else behind a newline to z.
pub record InsertTold (s : Bytes) (z : ℕ) (new : List Pair) (t : Bytes) : Type 0 where
  pub front : z ≡ 0 → t ≡ written_all new ++ (gap_bytes s ++ s)
  pub behind : 0 < z → t ≡ spliced s z z (10 ∷ written_all new)

default-index : (ds : List RecSet) → GoodSets ds → index_of [] ds ≡ some 0
default-index [] g = absurd g
default-index (d ∷ ds) g = ap (λ (m : Bytes). index_by (same [] m) (index_of [] ds)) g.0

-- an insert into set i
abbrev pub inserted_at : Bytes → ℕ → List Pair → Bytes
inserted_at s i new = bytes_of (edit_pieces i (Edit.insert new) (read_of s))

module _ (s : Bytes) (new : List Pair) (e : is_readable s ≡ true) where
  abbrev ss : List RecSet
  ss = sets_of (read_of s)

  last-inserted : (k z : ℕ) → EndsAt (places_of s) k z → InsertTold s z new (bytes_of (flat (on_record k (λ (b : Block). b ∷ fresh new ∷ []) (blocks (read_of s)))))
  last-inserted k z h =
      let c = cut (read_of s) k h.0 (ap (λ (ps : List Placed). get_elem? ps k) (sym (places-read s)) ∙ h.1) in
      record {
        front = λ f. absurd (omega (arith, ends_some s (places_of s) k z (stands s e) h));
        behind = λ f. insert-bytes (readable-reads s e) c new ∙ ap (λ (x : ℕ). spliced s x x (10 ∷ written_all new)) h.2;
      }

  default-by : (ds : List RecSet) (ms : List Record) → GoodSets ds → ds ≡ ss → first_members (places_of s) ≡ members_at 0 ds → members_at 0 ds ≡ ms → InsertTold s (set_end 0 (places_of s)) new (inserted_at s 0 new)
  default-by [] ms g q f h = absurd g
  default-by (d ∷ ds) [] g q f h =
      record {
        front = λ z. ap bytes_of (insert-front new (read_of s) (ap (members_at 0) (sym q) ∙ h)) ∙ front_bytes_lem new (read_of s) (readable-reads s e).sound ∙ ap (λ (x : Bytes). written_all new ++ (gap_bytes x ++ x)) (readable-reads s e).all;
        behind = λ z. absurd (omega (arith, first-none (places_of s) (f ∙ h)));
      }
  default-by (d ∷ ds) (r ∷ rs) g q f h =
      let k : EndsAt (places_of s) (last_at (first_members (places_of s))) (set_end 0 (places_of s)) = first-in (places_of s) (subst (λ (ms : List Record). Filled ms) (sym (f ∙ h)) tt) in
      let x : last_at (first_members (places_of s)) ≡ last_of ss 0 = ap last_at f ∙ ap (λ (y : Record). last_at (close y d.members)) (sym g.1) ∙ ap (λ (ys : List RecSet). last_of ys 0) q in
      let filled : HasLast ss 0 = first-has-last ss (subst (λ (ms : List Record). Filled ms) (sym (ap (members_at 0) (sym q) ∙ h)) tt) in
      subst (InsertTold s (set_end 0 (places_of s)) new) (ap bytes_of (sym (insert-last new 0 (read_of s) filled))) (last-inserted (last_of ss 0) (set_end 0 (places_of s)) (subst (λ (j : ℕ). EndsAt (places_of s) j (set_end 0 (places_of s))) x k))

  good : GoodSets ss
  good = subst GoodSets (sym (sets-places s)) (good-sets (fields_in (places_of s)))

  default-inserted : InsertTold s (set_end 0 (places_of s)) new (inserted_at s 0 new)
  default-inserted = default-by ss (members_at 0 ss) good refl (ap (members_at 0) (sym (sets-places s))) refl

  named-inserted : (n : Bytes) (head : Head) (i : ℕ) → same n [] ≡ false → Lasts s n (places_of s) (members_at 0 ss) (others ss) (Some head) → index_of n ss ≡ some i → InsertTold s (set_end head.begin (places_at s head.begin)) new (inserted_at s i new)
  named-inserted n head i q h f =
      let l = lasts-all s n (places_of s) ss head good q h in
      let x : suc l.0 ≡ i = some-injective (suc l.0) i (sym l.1 ∙ f) in
      let last : HasLast ss (suc l.0) = has_last ss good l.0 (index-has n ss (suc l.0) l.1) in
      subst (λ (j : ℕ). InsertTold s (set_end head.begin (places_at s head.begin)) new (inserted_at s j new)) x
      (subst (InsertTold s (set_end head.begin (places_at s head.begin)) new) (ap bytes_of (sym (insert-last new (suc l.0) (read_of s) last))) (last-inserted (last_of ss (suc l.0)) (set_end head.begin (places_at s head.begin)) l.2))

  -- into the set of a head
  pub insert-told : (set : Bytes) (head : Head) (i : ℕ) → head_place set (places_of s) ≡ Some head → index_of set (sets_of (read_of s)) ≡ some i → InsertTold s (head.begin + set_end 0 (places_of (drop head.begin s))) new (inserted_at s i new)
  insert-told [] head i f d =
      let p : Some (record { start = 0; end = 0; begin = 0 }) ≡ Some head = sym (head-default [] (places_of s) refl) ∙ f in
      let y : ◌≡◌ {A = Head} (record { start = 0; end = 0; begin = 0 }) head = cc in
      let x : 0 ≡ head.begin = ap (λ (z : Head). z.begin) y in
      let w : 0 ≡ i = some-injective 0 i (sym (default-index ss good) ∙ d) in
      let z : InsertTold s (0 + set_end 0 (places_of s)) new (inserted_at s 0 new) = subst (λ (k : ℕ). InsertTold s k new (inserted_at s 0 new)) (omega arith) default-inserted in
      subst (λ (j : ℕ). InsertTold s (head.begin + set_end 0 (places_of (drop head.begin s))) new (inserted_at s j new)) w (subst (λ (b : ℕ). InsertTold s (b + set_end 0 (places_of (drop b s))) new (inserted_at s 0 new)) x z)
  insert-told (c ∷ n) head i f d =
      let m : Bytes = c ∷ n in
      let q : descriptor_head m (places_of s) ≡ Some head = sym (head-named m (places_of s) (λ q. omega arith)) ∙ f in
      let h : Lasts s m (places_of s) (members_at 0 ss) (others ss) (Some head) =
      subst (λ (ds : List RecSet). Lasts s m (places_of s) (members_at 0 ds) (others ds) (Some head)) (sym (sets-places s)) (subst (Lasts s m (places_of s) (first_members (places_of s)) (others (sets (fields_in (places_of s))))) q (lasts s m (places_of s) (stands s e))) in
      subst (λ (k : ℕ). InsertTold s k new (inserted_at s i new)) (end_whole s head.begin) (named-inserted m head i refl h d)
