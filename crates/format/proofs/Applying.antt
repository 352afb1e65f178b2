-- One accepted request: the plain file stays what its pieces read as.
use Prim.Native.Nat.{ℕ, zero, suc, ◌+◌}
use mathlib.Core.Path.{◌≡◌, refl, sym, ap, ◌∙◌, subst}
use mathlib.Core.Bool.{Bool, true, false, false≢true}
use mathlib.Core.List.{List, [], ◌∷◌, map}
use mathlib.Core.Option.{Option, none, some}
use lib.ListN.{length}
use Rattle.format.specs.Bytes.{Bytes, pick, is_allowed, all, same, is_some}
use Rattle.format.specs.Lists.{onward, nth}
use Rattle.format.specs.Pieces.{Piece, bytes_of}
use Rattle.format.specs.Sets.{Group, groups, RecSet, set_of, sets_of}
use Rattle.format.specs.Edits.{Edit, in_set, edit_pieces}
use Rattle.format.specs.Requests.{Request}
use Rattle.format.specs.Plain.{Plain, others_of, plain_of, length_of, newlines, index_of, apply_at, apply_in, apply, sought_record, Asked, sought_by, leaves_field}
use Rattle.format.specs.Questions.{Row}
use Rattle.format.specs.Plain.{found_rows}
use Rattle.format.proofs.Elements.{Each, Has}
use Rattle.format.proofs.Whole.{Sound}
use Rattle.format.proofs.Legal.{ordinary-not-rec}
use Rattle.format.proofs.Named.{NotRec, NewNames}
use Rattle.format.proofs.Grouping.{HasPairs}
use Rattle.format.proofs.Regrouping.{edit-sets}
use Rattle.format.proofs.Counting.{length-bytes, edit-others}
use Rattle.format.proofs.Keeping.{edit-all, is_writable_edit, writable-names, keeps-sound, edit-allowed}

-- the plain file is what its pieces read as, and they read as themselves
abbrev pub Agrees : Plain → Type 0
Agrees p = Each Sound p.pieces × (plain_of p.pieces ≡ p)

pub agrees-length : (p : Plain) → Agrees p → length_of p ≡ length (bytes_of p.pieces)
agrees-length p a = sym (ap length_of a.1) ∙ length-bytes p.pieces

pub agrees-sets : (p : Plain) → Agrees p → sets_of p.pieces ≡ p.sets
unfolding plain_of
agrees-sets p a = ap (λ (x : Plain). x.sets) a.1

-- questions 21 to 24 say yes, and what the edit writes can be written
pub record Granted (a : Asked) : Type 0 where
  pub found : Each (λ (r : Row _). r.asks (sought_by a) ≡ true) found_rows
  pub left : leaves_field a.request.edit (sought_record (sought_by a)) ≡ true
  pub writable : is_writable_edit a.request.edit ≡ true

-- the set is found
there-some : (x : Option ℕ) → is_some x ≡ true → (i : ℕ) × (x ≡ some i)
there-some none e = absurd (false≢true e)
there-some (some i) e = (i, refl)

pub granted-set : (a : Asked) → Granted a → (i : ℕ) × (index_of a.request.set a.file.sets ≡ some i)
granted-set a g = there-some (index_of a.request.set a.file.sets) g.found.0

abbrev IndexHas : List RecSet → Option ℕ → Type 0
IndexHas ss none = Unit {0}
IndexHas ss (some i) = Has ss i

index-by : (s : RecSet) (ss : List RecSet) (b : Bool) (x : Option ℕ) → IndexHas ss x → IndexHas (s ∷ ss) (pick b (some zero) (onward (λ (i : ℕ). some (suc i)) x))
index-by s ss true x h = tt
index-by s ss false none h = tt
index-by s ss false (some i) h = h

index_in : (n : Bytes) (ss : List RecSet) → IndexHas ss (index_of n ss)
index_in n [] = tt
index_in n (s ∷ ss) = index-by s ss (same n s.name) (index_of n ss) (index_in n ss)

pub index-has : (n : Bytes) (ss : List RecSet) (i : ℕ) → index_of n ss ≡ some i → Has ss i
index-has n ss i e = subst (IndexHas ss) e (index_in n ss)

-- and so is its group
has-map : (gs : List Group) (i : ℕ) → Has (map set_of gs) i → Has gs i
has-map [] i h = h
has-map (g ∷ gs) zero h = tt
has-map (g ∷ gs) (suc i) h = has-map gs i h

has-group : (ps : List Piece) (i : ℕ) → Has (sets_of ps) i → Has (groups ps) i
unfolding sets_of
has-group ps i h = has-map (groups ps) i h

-- what pieces read as, part by part
plain-is : (ps : List Piece) (ss : List RecSet) (r : ℕ) → sets_of ps ≡ ss → others_of ps (sets_of ps) ≡ r → plain_of ps ≡ record { sets = ss; others = r; pieces = ps }
unfolding plain_of
plain-is ps ss r a b = λ i. record { sets = a i; others = b i; pieces = ps }

-- what the edited pieces read as is what the edit makes of the plain file
edit-follows : (i : ℕ) (e : Edit) (ps : List Piece) → Each Sound ps → HasPairs e → NewNames NotRec e → Has (groups ps) i → plain_of (edit_pieces i e ps) ≡ apply_at i e (plain_of ps)
unfolding plain_of
edit-follows i e ps s f n h =
    let k = edit-sets i e ps s f n h in
    plain-is (edit_pieces i e ps) (nth i (in_set e) (sets_of ps)) (others_of ps (sets_of ps) + newlines e ps) k (edit-others i e ps h k)

at-agrees : (p : Plain) (i : ℕ) (e : Edit) → HasPairs e → is_writable_edit e ≡ true → Has p.sets i → Agrees p → Agrees (apply_at i e p)
at-agrees p i e f l h a =
    let there : Has (groups p.pieces) i = has-group p.pieces i (subst (λ (ss : List RecSet). Has ss i) (sym (agrees-sets p a)) h) in
    (edit-all Sound i e (keeps-sound e l) p.pieces a.0, edit-follows i e p.pieces a.0 f (writable-names NotRec ordinary-not-rec e l) there ∙ ap (apply_at i e) a.1)

-- The plain file agrees with its pieces after an accepted request too.
pub apply-agrees : (a : Asked) → HasPairs a.request.edit → Granted a → Agrees a.file → Agrees (apply a.request a.file)
unfolding apply
apply-agrees a f g s =
    let q : Request = a.request in
    let i : ℕ = (granted-set a g).0 in
    let e = (granted-set a g).1 in
    subst (λ (x : Option ℕ). Agrees (apply_in x q.edit a.file)) (sym e) (at-agrees a.file i q.edit f g.writable (index-has q.set a.file.sets i e) s)

-- allowed bytes stay allowed
allowed-in : (x : Option ℕ) (e : Edit) (p : Plain) → is_writable_edit e ≡ true → Each Sound p.pieces → all is_allowed (bytes_of p.pieces) ≡ true → all is_allowed (bytes_of (apply_in x e p).pieces) ≡ true
allowed-in none e p l s h = h
allowed-in (some i) e p l s h = edit-allowed i e p.pieces l s h

pub apply-allowed : (q : Request) (p : Plain) → is_writable_edit q.edit ≡ true → Each Sound p.pieces → all is_allowed (bytes_of p.pieces) ≡ true → all is_allowed (bytes_of (apply q p).pieces) ≡ true
unfolding apply
apply-allowed q p l s h = allowed-in (index_of q.set p.sets) q.edit p l s h
