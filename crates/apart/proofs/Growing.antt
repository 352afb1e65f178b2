-- A list of requests on the groups of sets: each group becomes what its own set's requests make of it, so that only their order matters.
use Prim.Native.Nat.{ℕ, ◌<◌}
use mathlib.Core.Path.{◌≡◌, refl, sym, ap, ◌∙◌, subst}
use mathlib.Core.Logic.{◌≢◌}
use mathlib.Core.Bool.{Bool, true, false, false≢true}
use mathlib.Core.List.{List, [], ◌∷◌, map}
use mathlib.Core.Option
use mathlib.Core.Option.{Option, none, some, none-ne-some, some-injective}
use lib.Dec.{eqb}
use lib.ListN.{length, get_or}
use lib.Seq.{ext_get_or}
use borrow.Author.Tests.{eqb-true, eqb-false}
use Rattle.format.specs.Bytes.{Bytes, pick, same}
use Rattle.format.specs.Lists.{nth}
use Rattle.format.specs.Sets.{Group, RecSet, set_of}
use Rattle.format.specs.Numbers.{int_bounds}
use Rattle.format.specs.Edits.{Edit, in_group}
use Rattle.format.specs.Questions.{name_of}
use Rattle.format.specs.Requests.{Request, request_of}
use Rattle.format.specs.Plain.{index_of, completed_edit}
use Rattle.format.proofs.Elements.{Has, below-has}
use Rattle.format.proofs.Directory.{same_self}
use Rattle.format.proofs.Listing.{same_true}
use Rattle.apart.specs.Naming.{set_named, is_name, own}
use Rattle.apart.proofs.Placing.{nth_here, nth-other, nth-length, nth-has, index-called, places-differ}

-- an edit of a group: it is completed from the group's own set

abbrev pub act_by : Option Edit → Group → Group
act_by none g = g
act_by (some e) g = in_group e g

abbrev pub act : Edit → Group → Group
act e g = act_by (completed_edit int_bounds (set_of g) e) g

abbrev act_of : Option Request → Group → Group
act_of none g = g
act_of (some r) g = act r.edit g

-- requests one after another on one group
abbrev grown : List Bytes → Group → Group
grown [] g = g
grown (q ∷ qs) g = grown qs (act_of (request_of q) g)

-- and on the groups of sets, each on its own
abbrev pub at_place : Option ℕ → (Group → Group) → List Group → List Group
at_place none f gs = gs
at_place (some i) f gs = nth i f gs

abbrev pub act_in : List RecSet → Option Request → List Group → List Group
act_in ss none gs = gs
act_in ss (some r) gs = at_place (index_of r.set ss) (act r.edit) gs

abbrev pub act_all : List RecSet → List Bytes → List Group → List Group
act_all ss [] gs = gs
act_all ss (q ∷ qs) gs = act_all ss qs (act_in ss (request_of q) gs)

place-length : (x : Option ℕ) (f : Group → Group) (gs : List Group) → length (at_place x f gs) ≡ length gs
place-length none f gs = refl
place-length (some i) f gs = nth-length f i gs

place-has : (x : Option ℕ) (f : Group → Group) (k : ℕ) (gs : List Group) → Has gs k → Has (at_place x f gs) k
place-has none f k gs h = h
place-has (some i) f k gs h = nth-has f i k gs h

module _ (ss : List RecSet) where
  act-length : (x : Option Request) (gs : List Group) → length (act_in ss x gs) ≡ length gs
  act-length none gs = refl
  act-length (some r) gs = place-length (index_of r.set ss) (act r.edit) gs

  act-has : (x : Option Request) (k : ℕ) (gs : List Group) → Has gs k → Has (act_in ss x gs) k
  act-has none k gs h = h
  act-has (some r) k gs h = place-has (index_of r.set ss) (act r.edit) k gs h

  all-length : (qs : List Bytes) (gs : List Group) → length (act_all ss qs gs) ≡ length gs
  all-length [] gs = refl
  all-length (q ∷ qs) gs = all-length qs (act_in ss (request_of q) gs) ∙ act-length (request_of q) gs

  -- at the place of a name, what its own requests make of the group there
  module _ (n : Bytes) (k : ℕ) (there : index_of n ss ≡ some k) where
    other_place : (r : Request) (gs : List Group) → n ≢ r.set → (x : Option ℕ) → index_of r.set ss ≡ x → get_or (at_place x (act r.edit) gs) k [] ≡ get_or gs k []
    other_place r gs d none e = refl
    other_place r gs d (some i) e = nth-other (act r.edit) [] i k gs (λ q. places-differ n r.set ss k i there e d (sym q))

    act-here : (x : Option Request) (gs : List Group) → Has gs k → get_or (act_in ss x gs) k [] ≡ pick (is_name n (Option.map (λ (r : Request). r.set) x)) (act_of x (get_or gs k [])) (get_or gs k [])
    act-here none gs h = refl
    act-here (some r) gs h = go (same n r.set) refl
      where
        go : (t : Bool) → same n r.set ≡ t → get_or (at_place (index_of r.set ss) (act r.edit) gs) k [] ≡ pick t (act r.edit (get_or gs k [])) (get_or gs k [])
        go true e =
            ap (λ (x : Option ℕ). get_or (at_place x (act r.edit) gs) k []) (ap (λ (m : Bytes). index_of m ss) (sym (same_true n r.set e)) ∙ there)
            ∙ nth_here (act r.edit) [] k gs h
        go false e = other_place r gs (λ q. false≢true (sym e ∙ ap (same n) (sym q) ∙ same_self n)) (index_of r.set ss) refl

    grown-by : (t : Bool) (q : Bytes) (qs : List Bytes) (g : Group) → grown qs (pick t (act_of (request_of q) g) g) ≡ grown (pick t (q ∷ qs) qs) g
    grown-by true q qs g = refl
    grown-by false q qs g = refl

    all_here : (qs : List Bytes) (gs : List Group) → Has gs k → get_or (act_all ss qs gs) k [] ≡ grown (own n qs) (get_or gs k [])
    all_here [] gs h = refl
    all_here (q ∷ qs) gs h =
        all_here qs (act_in ss (request_of q) gs) (act-has (request_of q) k gs h)
        ∙ ap (grown (own n qs)) (act-here (request_of q) gs h)
        ∙ grown-by (is_name n (set_named q)) q (own n qs) (get_or gs k [])

  -- a place that no name has stays
  module _ (k : ℕ) (nobody : (n : Bytes) → index_of n ss ≢ some k) where
    place-stays : (r : Request) (gs : List Group) (x : Option ℕ) → index_of r.set ss ≡ x → get_or (at_place x (act r.edit) gs) k [] ≡ get_or gs k []
    place-stays r gs none e = refl
    place-stays r gs (some i) e = nth-other (act r.edit) [] i k gs (λ q. nobody r.set (e ∙ ap {B = Option ℕ} (λ (j : ℕ). some j) q))

    act-stays : (x : Option Request) (gs : List Group) → get_or (act_in ss x gs) k [] ≡ get_or gs k []
    act-stays none gs = refl
    act-stays (some r) gs = place-stays r gs (index_of r.set ss) refl

    all-stays : (qs : List Bytes) (gs : List Group) → get_or (act_all ss qs gs) k [] ≡ get_or gs k []
    all-stays [] gs = refl
    all-stays (q ∷ qs) gs = all-stays qs (act_in ss (request_of q) gs) ∙ act-stays (request_of q) gs

  -- Two lists in which each set's own requests come in the same order make the same groups.
  module _ (es fs : List Bytes) (alike : (n : Bytes) → own n es ≡ own n fs) (gs : List Group) where
    abbrev name_at : ℕ → Bytes
    name_at k = get_or (map name_of ss) k []

    nobody-at : (k : ℕ) → index_of (name_at k) ss ≢ some k → (n : Bytes) → index_of n ss ≢ some k
    nobody-at k h n e = h (ap (λ (m : Bytes). index_of m ss) (sym (index-called n ss k e)) ∙ e)

    stay-alike : (k : ℕ) → index_of (name_at k) ss ≢ some k → get_or (act_all ss es gs) k [] ≡ get_or (act_all ss fs gs) k []
    stay-alike k d = all-stays k (nobody-at k d) es gs ∙ sym (all-stays k (nobody-at k d) fs gs)

    group-by : (k : ℕ) → Has gs k → (x : Option ℕ) → index_of (name_at k) ss ≡ x → get_or (act_all ss es gs) k [] ≡ get_or (act_all ss fs gs) k []
    group-by k h none e = stay-alike k (λ z. none-ne-some k (sym e ∙ z))
    group-by k h (some i) e = go (eqb i k) refl
      where
        go : (t : Bool) → eqb i k ≡ t → get_or (act_all ss es gs) k [] ≡ get_or (act_all ss fs gs) k []
        go true q =
            let there : index_of (name_at k) ss ≡ some k = e ∙ ap {B = Option ℕ} (λ (j : ℕ). some j) (eqb-true i k q) in
            all_here (name_at k) k there es gs h ∙ ap (λ (qs : List Bytes). grown qs (get_or gs k [])) (alike (name_at k)) ∙ sym (all_here (name_at k) k there fs gs h)
        go false q = stay-alike k (λ z. eqb-false i k q (some-injective i k (sym e ∙ z)))

    pub groups-alike : act_all ss es gs ≡ act_all ss fs gs
    groups-alike =
        ext_get_or [] (act_all ss es gs) (act_all ss fs gs) (all-length es gs ∙ sym (all-length fs gs))
        (λ k h. group-by k (below-has gs k (subst (λ (n : ℕ). k < n) (all-length es gs) h)) (index_of (name_at k) ss) refl)
