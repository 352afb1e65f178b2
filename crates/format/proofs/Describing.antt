-- Questions 5 to 7, about descriptors: a request that can be written changes none of their answers from yes to no.
use Prim.Native.Nat.{ℕ}
use mathlib.Core.Path.{◌≡◌, refl, sym, ap, ◌∙◌, subst}
use mathlib.Core.Bool.{Bool, true, false, ◌&&◌, ◌||◌, not, and-eq-true_iff, or-false}
use mathlib.Core.List.{List, [], ◌∷◌, map}
use mathlib.Core.Option.{Option, none, some}
use lib.Dec.{eqb}
use lib.ListN.{length}
use borrow.Author.Tests.{not-true}
use Rattle.format.specs.Lines.{is_special}
use Rattle.format.specs.Bytes.{Bytes, text, all, any}
use Rattle.format.specs.Lists.{only_if, keep, kept, always}
use Rattle.format.specs.Records.{Field, Record, fields_of}
use Rattle.format.specs.Sets.{values_of, Group, groups, is_member, member_of, RecSet, set_of, sets_of}
use Rattle.format.specs.Numbers.{Bounds}
use Rattle.format.specs.Rules.{is_well_formed, is_typed_well, distinct}
use Rattle.format.specs.Questions.{has_rec_once, describes_once, name_of, describes_well, types_well}
use Rattle.format.specs.Edits.{Edit, in_set}
use Rattle.format.specs.Requests.{Request}
use Rattle.format.specs.Plain.{Plain, index_of, apply_in, apply}
use Rattle.format.proofs.Elements.{Each, each-imp, each_both, all-each, each_all, any_none, none_any}
use Rattle.format.proofs.Lists.{each_on, map_same}
use Rattle.format.proofs.Legal.{ordinary-not-special}
use Rattle.format.proofs.Named.{Named, named-members, Member}
use Rattle.format.proofs.Grouping.{member-block}
use Rattle.format.proofs.Keeping.{is_writable_edit, writable-names}
use Rattle.format.proofs.Applying.{Agrees, agrees-sets}

-- a request leaves the name and the rules of each set

module _ {A : Type 0} (f : RecSet → A) (same_in : (e : Edit) (s : RecSet) → f (in_set e s) ≡ f s) where
  map-in : (x : Option ℕ) (e : Edit) (p : Plain) → map f (apply_in x e p).sets ≡ map f p.sets
  map-in none e p = refl
  map-in (some i) e p = map_same f (in_set e) (same_in e) i p.sets

  pub apply-map : (q : Request) (p : Plain) → map f (apply q p).sets ≡ map f p.sets
  unfolding apply
  apply-map q p = map-in (index_of q.set p.sets) q.edit p

pub apply-names : (q : Request) (p : Plain) → map name_of (apply q p).sets ≡ map name_of p.sets
apply-names q p = apply-map name_of (λ e s. refl) q p

all_map : {A : Type 0} (f : RecSet → A) (t : A → Bool) (ss : List RecSet) → all (λ (s : RecSet). t (f s)) ss ≡ all t (map f ss)
all_map f t [] = refl
all_map f t (s ∷ ss) = ap (λ (b : Bool). t (f s) && b) (all_map f t ss)

apply-rules : (t : Record → Bool) (q : Request) (p : Plain) → all (λ (s : RecSet). t s.rules) (apply q p).sets ≡ all (λ (s : RecSet). t s.rules) p.sets
apply-rules t q p =
    let rules : RecSet → Record = λ (s : RecSet). s.rules in
    all_map rules t (apply q p).sets ∙ ap (all t) (apply-map rules (λ e s. refl) q p) ∙ sym (all_map rules t p.sets)

pub describes-well : (b : Bounds) (q : Request) (p : Plain) → describes_well b (apply q p).sets ≡ describes_well b p.sets
describes-well b q p = (λ i. apply-rules (is_well_formed b) q p i && distinct (apply-names q p i))

pub types-well : (b : Bounds) (q : Request) (p : Plain) → types_well b (apply q p).sets ≡ types_well b p.sets
types-well b q p = apply-rules (is_typed_well b) q p

-- the records of a set that is read are no descriptors

abbrev MembersIn : RecSet → Type 0
MembersIn s = Each Member s.members

kept-members : (g : Group) → Each Member (kept member_of g)
kept-members [] = tt
kept-members (b ∷ g) = go (is_member b) refl (kept-members g)
  where
    go : (t : Bool) → is_member b ≡ t → Each Member (kept member_of g) → Each Member (keep (only_if t (fields_of b)) (kept member_of g))
    go true e h = (member-block b e, h)
    go false e h = h

sets-members : (gs : List Group) → Each MembersIn (map set_of gs)
sets-members [] = tt
sets-members (g ∷ gs) = (kept-members g, sets-members gs)

pub agrees-members : (p : Plain) → Agrees p → Each MembersIn p.sets
unfolding sets_of
agrees-members p a = subst (Each MembersIn) (agrees-sets p a) (sets-members (groups p.pieces))

-- names that do not start with `%` stay such

abbrev Ordinary : Bytes → Type 0
Ordinary n = is_special n ≡ false

abbrev OrdinaryIn : RecSet → Type 0
OrdinaryIn s = Each (Named Ordinary) s.members

ordinary-in : (x : Option ℕ) (e : Edit) (p : Plain) → is_writable_edit e ≡ true → Each OrdinaryIn p.sets → Each OrdinaryIn (apply_in x e p).sets
ordinary-in none e p l h = h
ordinary-in (some i) e p l h =
    let n = writable-names Ordinary ordinary-not-special e l in
    each_on OrdinaryIn always (λ (s : RecSet). in_set e s ∷ []) (λ s k t. (named-members Ordinary e n s.members k, tt)) p.sets h i

apply-ordinary : (q : Request) (p : Plain) → is_writable_edit q.edit ≡ true → Each OrdinaryIn p.sets → Each OrdinaryIn (apply q p).sets
unfolding apply
apply-ordinary q p l h = ordinary-in (index_of q.set p.sets) q.edit p l h

-- of a member, question 5 asks that none of its names starts with `%`

once-named : (vs : List Bytes) (b : Bool) → vs ≡ [] → (not b || eqb (length vs) 1) ≡ true → b ≡ false
once-named vs b e h = not-true b (sym (or-false (not b)) ∙ ap (λ (x : List Bytes). not b || eqb (length x) 1) (sym e) ∙ h)

once-ordinary : (r : Record) → Member r → has_rec_once r ≡ true → Named Ordinary r
once-ordinary r m h = any_none (λ (f : Field). is_special f.name) r (once-named (values_of (text "%rec") r) (any (λ (f : Field). is_special f.name) r) m h)

ordinary-once : (r : Record) → Named Ordinary r → has_rec_once r ≡ true
ordinary-once r h = ap (λ (b : Bool). not b || eqb (length (values_of (text "%rec") r)) 1) (none_any (λ (f : Field). is_special f.name) r h)

-- its two halves: of the rules, of the members
abbrev Once : RecSet → Type 0
Once s = (has_rec_once s.rules && all has_rec_once s.members) ≡ true

abbrev Halves : RecSet → Type 0
Halves s = (has_rec_once s.rules ≡ true) × OrdinaryIn s

once-halves : (s : RecSet) → MembersIn s × Once s → Halves s
once-halves s h =
    let k = (and-eq-true_iff (has_rec_once s.rules) (all has_rec_once s.members)).0 h.1 in
    (k.0, each-imp (λ (r : Record). Member r × (has_rec_once r ≡ true)) (Named Ordinary) (λ r x. once-ordinary r x.0 x.1) s.members (each_both Member (λ (r : Record). has_rec_once r ≡ true) s.members h.0 (all-each has_rec_once s.members k.1)))

halves-once : (s : RecSet) → Halves s → Once s
halves-once s h = (and-eq-true_iff (has_rec_once s.rules) (all has_rec_once s.members)).1 (h.0, each_all has_rec_once s.members (each-imp (Named Ordinary) (λ (r : Record). has_rec_once r ≡ true) ordinary-once s.members h.1))

pub describes-once : (q : Request) (p : Plain) → is_writable_edit q.edit ≡ true → Agrees p → describes_once p.sets ≡ true → describes_once (apply q p).sets ≡ true
describes-once q p l a e =
    let test : RecSet → Bool = λ (s : RecSet). has_rec_once s.rules in
    let ss : List RecSet = p.sets in
    let ts : List RecSet = (apply q p).sets in
    let once : RecSet → Bool = λ (s : RecSet). has_rec_once s.rules && all has_rec_once s.members in
    let h = each-imp (λ (s : RecSet). MembersIn s × Once s) Halves once-halves ss (each_both MembersIn Once ss (agrees-members p a) (all-each once ss e)) in
    let rules = each_all test ss (each-imp Halves (λ (s : RecSet). test s ≡ true) (λ s x. x.0) ss h) in
    let members = apply-ordinary q p l (each-imp Halves OrdinaryIn (λ s x. x.1) ss h) in
    each_all once ts (each-imp Halves Once halves-once ts (each_both (λ (s : RecSet). test s ≡ true) OrdinaryIn ts (all-each test ts (apply-rules has_rec_once q p ∙ rules)) members))
