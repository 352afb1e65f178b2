-- A request completed with the names that it omits (document 02, order 6): of an insert, its own pairs stand behind the added ones, which can be written; any other edit is itself.
use Prim.Native.Nat.{ℕ, zero, suc}
use mathlib.Core.Path.{◌≡◌, refl, sym, ap, ◌∙◌, subst}
use mathlib.Core.Bool.{Bool, true, and-eq-true_iff}
use mathlib.Core.List.{List, [], ◌∷◌, ◌++◌, map}
use mathlib.Core.Option
use mathlib.Core.Option.{Option, none, some}
use lib.ListN.{length}
use Rattle.format.specs.Bytes.{Bytes, all, among, is_some}
use Rattle.format.specs.Sets.{RecSet}
use Rattle.format.specs.Records.{Record}
use Rattle.format.specs.Numbers.{Bounds, int_bounds}
use Rattle.format.specs.Rules.{auto, is_ordinary, is_well_formed, distinct}
use Rattle.format.specs.Questions.{name_of, describes_well}
use Rattle.format.specs.Written.{Pair, is_legal_value}
use Rattle.format.specs.Numbering.{firsts, pair_names, omitted, next_number, completed}
use Rattle.format.specs.Edits.{Act, Edit}
use Rattle.format.specs.Requests.{Request}
use Rattle.format.specs.Plain.{Plain, index_of, set_at, completed_edit, completed_at, completed_by}
use Rattle.format.proofs.Elements.{Each, Filled, all-each, each_all, each-imp}
use Rattle.format.proofs.Lists.{each-filter}
use Rattle.format.proofs.Lines.{all_append}
use Rattle.format.proofs.Listing.{auto-ordinary}
use Rattle.format.proofs.Grouping.{HasPairs}
use Rattle.format.proofs.Legal.{is_writable}
use Rattle.format.proofs.Keeping.{is_writable_edit}
use Rattle.format.proofs.Numbering.{IsAdded, Completes, completed-by, completed-itself, short-ints}

-- what is said of listed names is said of those that are omitted
module _ (P : Bytes → Type 0) where
  each-firsts : (ns : List Bytes) → Each P ns → Each P (firsts ns)
  each-firsts [] h = tt
  each-firsts (n ∷ ns) h = (h.0, each-filter P _ (firsts ns) (each-firsts ns h.1))

  pub each-omitted : (rules : Record) (new : List Pair) → Each P (auto rules) → Each P (omitted rules new)
  each-omitted rules new h = each-filter P _ (firsts (auto rules)) (each-firsts (auto rules) h)

-- the names of a set's lists are ordinary
abbrev pub Autos : RecSet → Type 0
Autos s = Each (λ (n : Bytes). is_ordinary n ≡ true) (auto s.rules)

-- what a completed edit is
abbrev pub Whole : Edit → Edit → Type 0
Whole (Edit.insert new) (Edit.insert ps) = (qs : List Pair) × ((ps ≡ qs ++ new) × (all is_writable qs ≡ true))
Whole (Edit.insert new) (Edit.on j a) = ⊥
Whole (Edit.on j a) f = f ≡ Edit.on j a

pub whole-itself : (e : Edit) → Whole e e
whole-itself (Edit.insert new) = ([], (refl, refl))
whole-itself (Edit.on j a) = refl

abbrev WholeIf : Edit → Option Edit → Type 0
WholeIf e none = Unit {0}
WholeIf e (some f) = Whole e f

module _ (s : RecSet) (ordinary : Autos s) where
  added-writable : (qs : List Pair) → Each (λ (n : Bytes). is_ordinary n ≡ true) (pair_names qs) → Each (IsAdded int_bounds s short-ints) qs → Each (λ (p : Pair). is_writable p ≡ true) qs
  added-writable [] h k = tt
  added-writable (q ∷ qs) h k = ((and-eq-true_iff (is_ordinary q.name) (is_legal_value q.value)).1 (h.0, k.0.1), added-writable qs h.1 k.1)

  insert-whole : (new : List Pair) (x : Option (List Pair)) → Completes int_bounds s short-ints new x → WholeIf (Edit.insert new) (Option.map (λ (ps : List Pair). Edit.insert ps) x)
  insert-whole new none c = tt
  insert-whole new (some ps) c =
      let qs : List Pair = c.0 in
      let names = subst (Each (λ (n : Bytes). is_ordinary n ≡ true)) (sym c.1.0.1) (each-omitted (λ (n : Bytes). is_ordinary n ≡ true) s.rules new ordinary) in
      (qs, (c.1.1, each_all is_writable qs (added-writable qs names c.1.0.2)))

  edit-whole : (e : Edit) → WholeIf e (completed_edit int_bounds s e)
  edit-whole (Edit.insert new) = insert-whole new (completed int_bounds s new) (completed-by int_bounds s short-ints new)
  edit-whole (Edit.on j a) = refl

-- a completed request is of the same set
abbrev pub WholeRequest : Request → Request → Type 0
WholeRequest q w = (w.set ≡ q.set) × Whole q.edit w.edit

abbrev WholeRequestIf : Request → Option Request → Type 0
WholeRequestIf q none = Unit {0}
WholeRequestIf q (some w) = WholeRequest q w

request-edit : (q : Request) (x : Option Edit) → WholeIf q.edit x → WholeRequestIf q (Option.map (λ (e : Edit). record { set = q.set; edit = e }) x)
request-edit q none h = tt
request-edit q (some e) h = (refl, h)

set-autos : (i : ℕ) (ss : List RecSet) → Each Autos ss → Autos (set_at i ss)
set-autos i [] h = tt
set-autos zero (s ∷ ss) h = h.0
set-autos (suc i) (s ∷ ss) h = set-autos i ss h.1

request-at : (ss : List RecSet) (x : Option ℕ) (q : Request) → Each Autos ss → WholeRequestIf q (completed_at int_bounds ss x q)
request-at ss none q h = (refl, whole-itself q.edit)
request-at ss (some i) q h = request-edit q (completed_edit int_bounds (set_at i ss) q.edit) (edit-whole (set_at i ss) (set-autos i ss h) q.edit)

well-autos : (ss : List RecSet) → describes_well int_bounds ss ≡ true → Each Autos ss
well-autos ss e =
    let well : RecSet → Bool = λ (s : RecSet). is_well_formed int_bounds s.rules in
    each-imp (λ (s : RecSet). well s ≡ true) Autos (λ s h. all-each is_ordinary (auto s.rules) (auto-ordinary int_bounds s.rules h)) ss (all-each well ss ((and-eq-true_iff (all well ss) (distinct (map name_of ss))).0 e).0)

pub completed-whole : (p : Plain) (q w : Request) → describes_well int_bounds p.sets ≡ true → completed_by int_bounds p q ≡ some w → WholeRequest q w
unfolding completed_by
completed-whole p q w d e = subst (WholeRequestIf q) e (request-at p.sets (index_of q.set p.sets) q (well-autos p.sets d))

-- What holds of an edit and of the completed one.

writable-append : (qs new : List Pair) → all is_writable qs ≡ true → all is_writable new ≡ true → all is_writable (qs ++ new) ≡ true
writable-append qs new h k = all_append is_writable qs new ∙ (and-eq-true_iff (all is_writable qs) (all is_writable new)).1 (h, k)

pub whole-writable : (e f : Edit) → Whole e f → is_writable_edit e ≡ true → is_writable_edit f ≡ true
whole-writable (Edit.insert new) (Edit.insert ps) h k = ap (all is_writable) h.1.0 ∙ writable-append h.0 new h.1.1 k
whole-writable (Edit.insert new) (Edit.on j a) h k = absurd h
whole-writable (Edit.on j a) f h k = ap is_writable_edit h ∙ k

filled-behind : {A : Type 0} (xs ys : List A) → Filled ys → Filled (xs ++ ys)
filled-behind [] ys h = h
filled-behind (x ∷ xs) ys h = tt

pub whole-pairs : (e f : Edit) → Whole e f → HasPairs e → HasPairs f
whole-pairs (Edit.insert new) (Edit.insert ps) h k = subst Filled (sym h.1.0) (filled-behind h.0 new k)
whole-pairs (Edit.insert new) (Edit.on j a) h k = absurd h
whole-pairs (Edit.on j a) f h k = subst HasPairs (sym h) tt

-- a number of an edit that does not ask for the pairs of an insert
module _ {A : Type 0} (g : Edit → A) (alike : (new ps : List Pair) → g (Edit.insert new) ≡ g (Edit.insert ps)) where
  pub whole-alike : (e f : Edit) → Whole e f → g e ≡ g f
  whole-alike (Edit.insert new) (Edit.insert ps) h = alike new ps
  whole-alike (Edit.insert new) (Edit.on j a) h = absurd h
  whole-alike (Edit.on j a) f h = ap g (sym h)

-- An insert is completed exactly where each omitted name has a number, and one that names all listed names is itself.
isSome-map : {A B : Type 0} (f : A → B) (x : Option A) → is_some (Option.map f x) ≡ is_some x
isSome-map f none = refl
isSome-map f (some a) = refl

completes-exactly : (s : RecSet) (new : List Pair) (x : Option (List Pair)) → Completes int_bounds s short-ints new x → is_some x ≡ all (λ (n : Bytes). is_some (next_number int_bounds s n)) (omitted s.rules new)
completes-exactly s new none c = sym c
completes-exactly s new (some ps) c = sym c.1.0.0

module _ (p : Plain) (q : Request) (new : List Pair) (i : ℕ) (here : index_of q.set p.sets ≡ some i) (inserts : q.edit ≡ Edit.insert new) where
  abbrev own : RecSet
  own = set_at i p.sets

  pub completed-insert : completed_by int_bounds p q ≡ Option.map (λ (e : Edit). record { set = q.set; edit = e }) (Option.map (λ (ps : List Pair). Edit.insert ps) (completed int_bounds (set_at i p.sets) new))
  unfolding completed_by
  completed-insert = λ j. completed_at int_bounds p.sets (here j) (record { set = q.set; edit = inserts j })

  pub completed-exactly : is_some (completed_by int_bounds p q) ≡ all (λ (n : Bytes). is_some (next_number int_bounds (set_at i p.sets) n)) (omitted (set_at i p.sets).rules new)
  completed-exactly =
      let x : Option (List Pair) = completed int_bounds own new in
      ap is_some completed-insert
      ∙ isSome-map (λ (e : Edit). record { set = q.set; edit = e }) (Option.map (λ (ps : List Pair). Edit.insert ps) x)
      ∙ isSome-map (λ (ps : List Pair). Edit.insert ps) x
      ∙ completes-exactly own new x (completed-by int_bounds own short-ints new)

  pub named-itself : all (λ (n : Bytes). among n (pair_names new)) (auto (set_at i p.sets).rules) ≡ true → completed_by int_bounds p q ≡ some (record { set = q.set; edit = Edit.insert new })
  named-itself h = completed-insert ∙ ap (λ (x : Option (List Pair)). Option.map (λ (e : Edit). record { set = q.set; edit = e }) (Option.map (λ (ps : List Pair). Edit.insert ps) x)) (completed-itself int_bounds own new h)

-- "every int in that field in the set" (document 02, order 6): it is completed as in a file that has its set alone, whatever sets stand before and behind it
pub completed-alone : (b : Bounds) (before behind : List RecSet) (s : RecSet) (q : Request) → completed_at b (before ++ (s ∷ behind)) (some (length before)) q ≡ completed_at b (s ∷ []) (some 0) q
completed-alone b [] behind s q = refl
completed-alone b (t ∷ before) behind s q = completed-alone b before behind s q

-- any other edit is itself
on-at : (ss : List RecSet) (x : Option ℕ) (set : Bytes) (j : ℕ) (a : Act) → completed_at int_bounds ss x (record { set = set; edit = Edit.on j a }) ≡ some (record { set = set; edit = Edit.on j a })
on-at ss none set j a = refl
on-at ss (some i) set j a = refl

pub completed-on : (p : Plain) (set : Bytes) (j : ℕ) (a : Act) → completed_by int_bounds p (record { set = set; edit = Edit.on j a }) ≡ some (record { set = set; edit = Edit.on j a })
unfolding completed_by
completed-on p set j a = on-at p.sets (index_of set p.sets) set j a
