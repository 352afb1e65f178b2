-- Passing along inserts by their number, and of inserts that get numbers as they come.
use Prim.Native.Nat.{ℕ, ◌≤◌}
use mathlib.Core.Path.{◌≡◌, refl, sym, ap, ◌∙◌, subst}
use mathlib.Core.List.{List, [], ◌∷◌, ◌++◌}
use mathlib.Core.Option.{Option, none, some, map}
use lib.ListN.{take, drop, take-append-drop}
use lib.Seq.{take-take}
use Rattle.format.specs.Lists.{onward}
use Rattle.format.specs.Sets.{RecSet}
use Rattle.format.specs.Numbers.{Bounds}
use Rattle.spoiling.specs.Inserts.{NewRecord, with_record, with_records, completed_record, completed_records}
use Rattle.spoiling.proofs.Passing.{AllPass}
use Rattle.spoiling.proofs.Inserting.{front-passes}

-- Sets that pass after m inserts pass after fewer.
pub fewer-pass : (b : Bounds) (ss : List RecSet) (xs : List NewRecord) (k m : ℕ) → k ≤ m → AllPass b ss → AllPass b (with_records (take m xs) ss) → AllPass b (with_records (take k xs) ss)
fewer-pass b ss xs k m h p q =
    let e : take k xs ++ drop k (take m xs) ≡ take m xs = ap (λ (ys : List NewRecord). ys ++ drop k (take m xs)) (sym (take-take k m xs h)) ∙ take-append-drop k (take m xs) in
    front-passes b ss (take k xs) (drop k (take m xs)) p (subst (λ (ys : List NewRecord). AllPass b (with_records ys ss)) (sym e) q)

-- the front part of completed inserts is the completed front part
abbrev FrontOf : Bounds → List NewRecord → List RecSet → Option (List NewRecord) → Type 0
FrontOf b xs ss none = Unit {0}
FrontOf b xs ss (some ws) = (us : List NewRecord) × (completed_records b xs ss ≡ some us) × ((vs : List NewRecord) × (ws ≡ us ++ vs))

front-nothing : (b : Bounds) (ss : List RecSet) (o : Option (List NewRecord)) → FrontOf b [] ss o
front-nothing b ss none = tt
front-nothing b ss (some ws) = ([], refl, (ws, refl))

front-one-more : (b : Bounds) (x y : NewRecord) (xs : List NewRecord) (ss : List RecSet) → completed_record b x ss ≡ some y → (o : Option (List NewRecord)) → FrontOf b xs (with_record y ss) o → FrontOf b (x ∷ xs) ss (map (λ (ys : List NewRecord). y ∷ ys) o)
front-one-more b x y xs ss c none h = tt
front-one-more b x y xs ss c (some ws) h =
    let extended : NewRecord → Option (List NewRecord) = λ (z : NewRecord). map (λ (ys : List NewRecord). z ∷ ys) (completed_records b xs (with_record z ss)) in
    (y ∷ h.0, ap (onward extended) c ∙ ap (λ (o : Option (List NewRecord)). map (λ (ys : List NewRecord). y ∷ ys) o) h.1, (h.2.0, ap {B = List NewRecord} (λ ys. y ∷ ys) h.2.1))

front-completed : (b : Bounds) (xs zs : List NewRecord) (ss : List RecSet) → FrontOf b xs ss (completed_records b (xs ++ zs) ss)
front-completed b [] zs ss = front-nothing b ss (completed_records b zs ss)
front-completed b (x ∷ xs) zs ss = go (completed_record b x ss) refl (λ y. front-completed b xs zs (with_record y ss))
  where
    go : (c : Option NewRecord) → completed_record b x ss ≡ c → ((y : NewRecord) → FrontOf b xs (with_record y ss) (completed_records b (xs ++ zs) (with_record y ss))) → FrontOf b (x ∷ xs) ss (onward (λ (y : NewRecord). map (λ (ys : List NewRecord). y ∷ ys) (completed_records b (xs ++ zs) (with_record y ss))) c)
    go none e ih = tt
    go (some y) e ih = front-one-more b x y xs ss e (completed_records b (xs ++ zs) (with_record y ss)) (ih y)

-- Where all are completed and pass, a front part is completed and passes.
pub completed-front-passes : (b : Bounds) (ss : List RecSet) (xs zs ws : List NewRecord) → AllPass b ss → completed_records b (xs ++ zs) ss ≡ some ws → AllPass b (with_records ws ss) → (us : List NewRecord) × (completed_records b xs ss ≡ some us) × AllPass b (with_records us ss)
completed-front-passes b ss xs zs ws p c q =
    let h : FrontOf b xs ss (some ws) = subst (FrontOf b xs ss) c (front-completed b xs zs ss) in
    (h.0, h.1, front-passes b ss h.0 h.2.0 p (subst (λ (ys : List NewRecord). AllPass b (with_records ys ss)) h.2.1 q))
