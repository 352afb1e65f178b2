-- "if both edits are accepted in both orders, the file's bytes are alike after either order" (document 02, order 13). More is shown: two lists of accepted edits in which each set's own edits come in the same order leave the same file.
use Prim.Native.Nat.{ℕ, zero, suc}
use native.Mathlib.Omega.{arith}
use mathlib.Core.Path.{◌≡◌, refl, sym, ap, ◌∙◌, subst}
use mathlib.Core.Logic.{◌≢◌, ⊎_elim}
use mathlib.Core.Bool.{Bool, true, false, false≢true}
use mathlib.Core.List.{List, [], ◌∷◌, map}
use mathlib.Core.Option
use mathlib.Core.Option.{Option, none, some, none-ne-some}
use lib.ListN.{length, take, get_or}
use Rattle.format.specs.Bytes.{Bytes, pick, same}
use Rattle.format.specs.Lists.{nth}
use Rattle.format.specs.Pieces.{read_of}
use Rattle.format.specs.Sets.{Group, RecSet, set_of}
use Rattle.format.specs.Numbers.{int_bounds}
use Rattle.format.specs.Edits.{Edit, in_group, in_set}
use Rattle.format.specs.Questions.{verdict}
use Rattle.format.specs.Requests.{Request, request_of}
use Rattle.format.specs.Plain.{Plain, plain_of, index_of, set_at, completed_edit}
use Rattle.format.specs.Calls.{number_in, Filled as Answered}
use Rattle.format.specs.Runs.{Single, request_in, Ran, singly, Call, singles, run}
use Rattle.format.proofs.Elements.{Each, Filled, Has}
use Rattle.format.proofs.Applying.{agrees-sets, index-has}
use Rattle.format.proofs.Directory.{same_self}
use Rattle.format.proofs.Listing.{same_true}
use Rattle.format.proofs.Answers.{answer-file}
use Rattle.format.proofs.Demand.{run-singly}
use Rattle.apart.specs.Naming.{set_named, Apart, NamesEither, is_name, own}
use Rattle.apart.specs.Leaving.{buffer_after, length_after, file_after, IsAccepted, AllAccepted, SameFile}
use Rattle.apart.proofs.Framing.{framed, edited-groups, framed-pieces, framed-sets}
use Rattle.apart.proofs.Placing.{nth-alike, nth-has, map-has, index_stays}
use Rattle.apart.proofs.Changes.{Changed, changed-has, changed-filled, Steps, list_steps, alike-held}
use Rattle.apart.proofs.Growing.{act_by, act, at_place, act_in, act_all, groups-alike}

-- An accepted edit acts on the group of the set that it names, where the file has another set.

set-of : (gs : List Group) (i : ℕ) → Has gs i → set_at i (map set_of gs) ≡ set_of (get_or gs i [])
set-of [] i h = absurd h
set-of (g ∷ gs) zero h = refl
set-of (g ∷ gs) (suc i) h = set-of gs i h

module _ (q : Bytes) (p m : Plain) (c : Changed q p m) (two : Has p.sets 1) where
  sets-framed : map set_of (framed p.pieces) ≡ p.sets
  sets-framed = framed-sets p.pieces ∙ agrees-sets p c.agrees

  filled : Filled p.pieces
  filled = go c.place refl
    where
      go : (i : ℕ) → c.place ≡ i → Filled p.pieces
      go zero e = changed-filled q p m c 1 two (λ z. absurd (omega (arith, e, z)))
      go (suc i) e = changed-filled q p m c 0 (first p.sets two) (λ z. absurd (omega (arith, e, z)))
        where
          first : (ss : List RecSet) → Has ss 1 → Has ss 0
          first [] h = h
          first (s ∷ ss) h = tt

  changed-groups : framed m.pieces ≡ nth c.place (act c.asks.edit) (framed p.pieces)
  changed-groups =
      let gs : List Group = framed p.pieces in
      let i : ℕ = c.place in
      let h : Has gs i = map-has set_of gs i (subst (λ (ss : List RecSet). Has ss i) (sym sets-framed) (index-has c.asks.set p.sets i c.there)) in
      let s : set_of (get_or gs i []) ≡ set_at i p.sets = sym (set-of gs i h) ∙ ap (set_at i) sets-framed in
      let e : completed_edit int_bounds (set_of (get_or gs i [])) c.asks.edit ≡ some c.edit = ap (λ (x : RecSet). completed_edit int_bounds x c.asks.edit) s ∙ c.completes in
      ap framed c.pieces
      ∙ edited-groups i c.edit c.names p.pieces c.agrees.0 filled (changed-has q p m c)
      ∙ nth-alike (in_group c.edit) (act c.asks.edit) [] i gs (ap (λ (x : Option Edit). act_by x (get_or gs i [])) (sym e))

-- the same of a list; the sets keep their names, so their places
abbrev SamePlaces : List RecSet → List RecSet → Type 0
SamePlaces ss ts = (n : Bytes) → index_of n ss ≡ index_of n ts

changed-places : (ss : List RecSet) (q : Bytes) (p m : Plain) (c : Changed q p m) → SamePlaces p.sets ss → SamePlaces m.sets ss
changed-places ss q p m c h n = ap (index_of n) c.sets ∙ index_stays n c.place c.edit p.sets ∙ h n

steps-groups : (ss : List RecSet) (qs : List Bytes) (p m : Plain) → SamePlaces p.sets ss → Has p.sets 1 → Steps qs p m → framed m.pieces ≡ act_all ss qs (framed p.pieces)
steps-groups ss [] p m h two s = ap (λ (x : Plain). framed x.pieces) s
steps-groups ss (q ∷ qs) p m h two s =
    let n : Plain = s.0 in
    let c = s.1 in
    let gs : List Group = framed p.pieces in
    let one : act_in ss (request_of q) gs ≡ framed n.pieces = ap (λ (x : Option Request). act_in ss x gs) c.reads ∙ ap (λ (x : Option ℕ). at_place x (act c.asks.edit) gs) (sym (h c.asks.set) ∙ c.there) ∙ sym (changed-groups q p n c two) in
    steps-groups ss qs n m (changed-places ss q p n c h) (subst (λ (x : List RecSet). Has x 1) (sym c.sets) (nth-has (in_set c.edit) c.place 1 p.sets two)) s.2
    ∙ ap (act_all ss qs) (sym one)

-- A file of one set: every accepted request is to it, so that two such lists are one.

steps-become : (qs : List Bytes) (p m r : Plain) → Steps qs p m → Steps qs p r → m ≡ r
steps-become [] p m r s t = s ∙ sym t
steps-become (q ∷ qs) p m r s t = steps-become qs s.0 m r s.2 (subst (λ (x : Plain). Steps qs x r) (t.1.makes ∙ sym s.1.makes) t.2)

to_one : (s : RecSet) (n : Bytes) (i : ℕ) → index_of n (s ∷ []) ≡ some i → same s.name n ≡ true
to_one s n i e = go (same n s.name) refl e
  where
    go : (t : Bool) → same n s.name ≡ t → pick t (some zero) none ≡ some i → same s.name n ≡ true
    go true h e = ap (same s.name) (same_true n s.name h) ∙ same_self s.name
    go false h e = absurd (none-ne-some i e)

own-all : (s : RecSet) (qs : List Bytes) (p m : Plain) → SamePlaces p.sets (s ∷ []) → Steps qs p m → own s.name qs ≡ qs
own-all s [] p m h t = refl
own-all s (q ∷ qs) p m h t =
    let c = t.1 in
    let e : is_name s.name (set_named q) ≡ true = ap (λ (x : Option Request). is_name s.name (Option.map (λ (r : Request). r.set) x)) c.reads ∙ to_one s c.asks.set c.place (sym (h c.asks.set) ∙ c.there) in
    ap (λ (b : Bool). pick b (q ∷ own s.name qs) (own s.name qs)) e ∙ ap {B = List Bytes} (λ x. q ∷ x) (own-all s qs t.0 m (changed-places (s ∷ []) q p t.0 c h) t.2)

-- Two lists of accepted requests with the same requests to each set, in the same order, make the same pieces.
module _ (es fs : List Bytes) (alike : (n : Bytes) → own n es ≡ own n fs) (p m r : Plain) (s : Steps es p m) (t : Steps fs p r) where
  nowhere : (qs : List Bytes) (m : Plain) → p.sets ≡ [] → Steps qs p m → m.pieces ≡ p.pieces
  nowhere [] m e s = ap (λ (x : Plain). x.pieces) s
  nowhere (q ∷ qs) m e s = absurd (none-ne-some s.1.place (sym (ap (index_of s.1.asks.set) e) ∙ s.1.there))

  pieces-by : (ss : List RecSet) → p.sets ≡ ss → m.pieces ≡ r.pieces
  pieces-by [] e = nowhere es m e s ∙ sym (nowhere fs r e t)
  pieces-by (x ∷ []) e =
      let places : SamePlaces p.sets (x ∷ []) = λ n. ap (index_of n) e in
      let one : es ≡ fs = sym (own-all x es p m places s) ∙ alike x.name ∙ own-all x fs p r places t in
      ap (λ (y : Plain). y.pieces) (steps-become fs p m r (subst (λ (qs : List Bytes). Steps qs p m) one s) t)
  pieces-by (x ∷ y ∷ ss) e =
      let places : SamePlaces p.sets (x ∷ y ∷ ss) = λ n. ap (index_of n) e in
      let two : Has p.sets 1 = subst (λ (zs : List RecSet). Has zs 1) (sym e) tt in
      framed-pieces m.pieces r.pieces (steps-groups (x ∷ y ∷ ss) es p m places two s ∙ groups-alike (x ∷ y ∷ ss) es fs alike (framed p.pieces) ∙ sym (steps-groups (x ∷ y ∷ ss) fs p r places two t))

  pieces-alike : m.pieces ≡ r.pieces
  pieces-alike = pieces-by p.sets refl

-- Two lists of accepted edits of any sets, in which each set's own edits come in the same order, leave the same file. An edit may be given a list of entries.
pub orders-alike : (buffer : Bytes) (used : ℕ) (es fs : List Single) → verdict buffer used ≡ 0 → AllAccepted (singly es buffer used).told → AllAccepted (singly fs buffer used).told
    → ((n : Bytes) → own n (map request_in es) ≡ own n (map request_in fs)) → SameFile (singly es buffer used) (singly fs buffer used)
orders-alike buffer used es fs v a b alike =
    let s = list_steps buffer used es v a in
    let t = list_steps buffer used fs v b in
    alike-held (singly es buffer used).buffer (singly fs buffer used).buffer (singly es buffer used).length (singly fs buffer used).length s.0 t.0 s.1 t.1
    (pieces-alike (map request_in es) (map request_in fs) alike (plain_of (read_of (take used buffer))) s.0 t.0 s.2 t.2)

-- A list of calls, runs of requests among them, stands for its edits.
pub calls-alike : (buffer : Bytes) (used : ℕ) (cs ds : List Call) → verdict buffer used ≡ 0 → AllAccepted (run cs buffer used).told → AllAccepted (run ds buffer used).told
    → ((n : Bytes) → own n (map request_in (singles cs)) ≡ own n (map request_in (singles ds))) → SameFile (run cs buffer used) (run ds buffer used)
calls-alike buffer used cs ds v a b alike =
    let r = run-singly cs buffer used in
    let s = run-singly ds buffer used in
    let same-files = orders-alike buffer used (singles cs) (singles ds) v (subst (λ (x : Ran). AllAccepted x.told) r a) (subst (λ (x : Ran). AllAccepted x.told) s b) alike in
    subst (λ (x : Ran). SameFile x (run ds buffer used)) (sym r) (subst (SameFile (singly (singles cs) buffer used)) (sym s) same-files)

-- Two sets: where every edit names one of them, only the orders of their own edits matter.

module _ (m n : Bytes) where
  other_name : (x y : Bytes) → x ≢ y → (z : Option Bytes) → z ≡ some y → is_name x z ≡ false
  other_name x y d z e = ap (is_name x) e ∙ go (same x y) refl
    where
      go : (t : Bool) → same x y ≡ t → t ≡ false
      go true h = absurd (d (same_true x y h))
      go false h = refl

  own-none : (x : Bytes) → x ≢ m → x ≢ n → (qs : List Bytes) → Each (NamesEither m n) qs → own x qs ≡ []
  own-none x d f [] h = refl
  own-none x d f (q ∷ qs) h =
      ap (λ (t : Bool). pick t (q ∷ own x qs) (own x qs)) (⊎_elim (other_name x m d (set_named q)) (other_name x n f (set_named q)) h.0) ∙ own-none x d f qs h.1

  own-two : (es fs : List Bytes) → Each (NamesEither m n) es → Each (NamesEither m n) fs → own m es ≡ own m fs → own n es ≡ own n fs → (x : Bytes) → own x es ≡ own x fs
  own-two es fs h k a b x = go (same x m) (same x n) refl refl
    where
      go : (s t : Bool) → same x m ≡ s → same x n ≡ t → own x es ≡ own x fs
      go true t e f = subst (λ (y : Bytes). own y es ≡ own y fs) (sym (same_true x m e)) a
      go false true e f = subst (λ (y : Bytes). own y es ≡ own y fs) (sym (same_true x n f)) b
      go false false e f =
          let d : x ≢ m = λ q. false≢true (sym e ∙ ap (same x) (sym q) ∙ same_self x) in
          let g : x ≢ n = λ q. false≢true (sym f ∙ ap (same x) (sym q) ∙ same_self x) in
          own-none x d g es h ∙ sym (own-none x d g fs k)

-- A list of edits each of which names one of two sets: accepted in the order given and in one in which each set's own edits keep their order, they leave the same file.
pub two-sets-alike : (m n buffer : Bytes) (used : ℕ) (es fs : List Single) → verdict buffer used ≡ 0 → AllAccepted (singly es buffer used).told → AllAccepted (singly fs buffer used).told
    → Each (NamesEither m n) (map request_in es) → Each (NamesEither m n) (map request_in fs)
    → own m (map request_in es) ≡ own m (map request_in fs) → own n (map request_in es) ≡ own n (map request_in fs) → SameFile (singly es buffer used) (singly fs buffer used)
two-sets-alike m n buffer used es fs v a b h k d e = orders-alike buffer used es fs v a b (own-two m n (map request_in es) (map request_in fs) h k d e)

-- Two edits. An accepted edit's file passes.

accepted-passes : (buffer : Bytes) (used : ℕ) (q : Bytes) → IsAccepted buffer used q → verdict buffer used ≡ 0
accepted-passes buffer used q a = go (verdict buffer used) refl
  where
    go : (k : ℕ) → verdict buffer used ≡ k → verdict buffer used ≡ 0
    go zero e = e
    go (suc k) e = absurd (let z : suc k ≡ 0 = sym (ap (λ (x : Answered). number_in x.result) (answer-file buffer used q (suc k) (omega arith) e)) ∙ a in omega arith)

swapped : (q r : Bytes) (s t : Bool) → (s ≡ true → t ≡ true → ⊥) → pick s (q ∷ pick t (r ∷ []) []) (pick t (r ∷ []) []) ≡ pick t (r ∷ pick s (q ∷ []) []) (pick s (q ∷ []) [])
swapped q r true true h = absurd (h refl refl)
swapped q r true false h = refl
swapped q r false true h = refl
swapped q r false false h = refl

is_name_lem : (n : Bytes) (x : Option Bytes) → is_name n x ≡ true → x ≡ some n
is_name_lem n none e = absurd (false≢true e)
is_name_lem n (some m) e = ap {B = Option Bytes} (λ (y : Bytes). some y) (sym (same_true n m e))

-- "For every passing file and every pair of edits on two different sets, if both edits are accepted in both orders, the file's bytes are alike after either order." Requests of any bytes; the numbers that inserts get are in those bytes.
pub either_order : (buffer : Bytes) (used : ℕ) (q r : Bytes) → Apart q r
    → let b : Bytes = buffer_after buffer used q in let u : ℕ = length_after buffer used q in let c : Bytes = buffer_after buffer used r in let v : ℕ = length_after buffer used r in
    IsAccepted buffer used q → IsAccepted b u r → IsAccepted buffer used r → IsAccepted c v q
    → (length_after b u r ≡ length_after c v q) × (file_after b u r ≡ file_after c v q)
unfolding singly
either_order buffer used q r apart e f g h =
    orders-alike buffer used (Single.edit q ∷ Single.edit r ∷ []) (Single.edit r ∷ Single.edit q ∷ []) (accepted-passes buffer used q e) (e, (f, tt)) (g, (h, tt))
    (λ n. swapped q r (is_name n (set_named q)) (is_name n (set_named r)) (λ s t. apart n (is_name_lem n (set_named q) s) (is_name_lem n (set_named r) t)))
