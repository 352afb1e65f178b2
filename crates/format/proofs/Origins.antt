-- Where each piece comes from under a list of edits: the clause of demand 3 on the lines that no edit named.
use Prim.Native.Nat.{ℕ, zero, suc, ◌≤◌, ◌<◌, max}
use native.Mathlib.Omega.{arith}
use mathlib.Core.Path.{◌≡◌, refl, sym, ap, ◌∙◌, subst}
use mathlib.Core.Bool.{Bool, true, false, ◌&&◌, ◌||◌, not}
use mathlib.Core.List.{List, [], ◌∷◌, ◌++◌, map}
use mathlib.Core.Option.{Option, none, some}
use lib.Dec.{eqb}
use lib.ListN.{length}
use borrow.Author.Tests.{eq-eqb, ne_eqb}
use Rattle.format.specs.Bytes.{pick, up_from, any}
use Rattle.format.specs.Lists.{filter, kept, onward}
use Rattle.format.specs.Pieces.{Piece}
use Rattle.format.specs.Edits.{Edit}
use Rattle.format.specs.Requests.{Request, request_of}
use Rattle.format.specs.Plain.{Plain, index_of, apply_in, apply, length_of}
use Rattle.format.specs.Runs.{Single, request_in, single_step, plain_run}
use Rattle.format.specs.Origins.{Fate, set_fates, request_fates, single_fates, if_accepted, fates, Origin, piece_of, number_of, Trace, carried, named_of, start_from, traced, Stays}
use Rattle.format.proofs.Fates.{Goes, goes-edit}
use Rattle.format.proofs.Questions.{whole_of}
use Rattle.format.proofs.SingleSteps.{single-accepted, single-refused}

-- a request, on the plain file

goes_in : (x : Option ℕ) (e : Edit) (p : Plain) → Goes (set_fates x e p.pieces) p.pieces (apply_in x e p).pieces
goes_in none e p = refl
goes_in (some i) e p = goes-edit i e p.pieces

goes-apply : (q : Request) (p : Plain) → Goes (request_fates (some q) p) p.pieces (apply q p).pieces
unfolding apply
goes-apply q p = goes_in (index_of q.set p.sets) q.edit p

-- an edit, accepted or refused

goes_step : (room : ℕ) (p : Plain) (c : Single) (n : ℕ) → (single_step room p c).number ≡ n → Goes (if_accepted n (single_fates c p) []) p.pieces (single_step room p c).file.pieces
goes_step room p c zero e =
    let a = single-accepted room p c e in
    let w : onward (whole_of p) (request_of (request_in c)) ≡ some a.whole = ap (onward (whole_of p)) a.reads ∙ a.completes in
    subst (λ (x : Option Request). Goes (request_fates x p) p.pieces (single_step room p c).file.pieces) (sym w) (subst (λ (x : Plain). Goes (request_fates (some a.whole) p) p.pieces x.pieces) (sym a.makes) (goes-apply a.whole p))
goes_step room p c (suc k) e = ap (λ (x : Plain). x.pieces) (sym (single-refused room p c k e))

single-goes : (room : ℕ) (p : Plain) (c : Single) → Goes (fates room p c) p.pieces (single_step room p c).file.pieces
unfolding fates
single-goes room p c = goes_step room p c (single_step room p c).number refl

-- the pieces of origins, carried

pieces-carried : (fs : List Fate) (os : List Origin) (ys : List Piece) → Goes fs (map piece_of os) ys → map piece_of (carried fs os) ≡ ys
pieces-carried [] os ys h = h
pieces-carried (Fate.added p ∷ fs) os [] h = absurd h
pieces-carried (Fate.added p ∷ fs) os (y ∷ ys) h = (λ i. h.0 i ∷ pieces-carried fs os ys h.1 i)
pieces-carried (Fate.left ∷ fs) [] ys h = absurd h
pieces-carried (Fate.left ∷ fs) (o ∷ os) [] h = absurd h
pieces-carried (Fate.left ∷ fs) (o ∷ os) (y ∷ ys) h = (λ i. h.0 i ∷ pieces-carried fs os ys h.1 i)
pieces-carried (Fate.named ∷ fs) [] ys h = absurd h
pieces-carried (Fate.named ∷ fs) (o ∷ os) ys h = pieces-carried fs os ys h

-- their numbers rise, from k on
abbrev Rises : ℕ → List ℕ → Type 0
Rises k [] = Unit {0}
Rises k (n ∷ ns) = (k ≤ n) × Rises (suc n) ns

rises-lower : (ns : List ℕ) (j k : ℕ) → j ≤ k → Rises k ns → Rises j ns
rises-lower [] j k l h = tt
rises-lower (n ∷ ns) j k l h = (omega (arith, h.0), h.1)

abbrev numbers : List Origin → List ℕ
numbers os = kept number_of os

-- those that are kept, and those that are named
rises-carried : (fs : List Fate) (os : List Origin) (k : ℕ) → Rises k (numbers os) → Rises k (numbers (carried fs os)) × Rises k (named_of fs os)
rises-carried [] os k h = (h, tt)
rises-carried (Fate.added p ∷ fs) os k h = rises-carried fs os k h
rises-carried (Fate.left ∷ fs) [] k h = (tt, tt)
rises-carried (Fate.left ∷ fs) (Origin.start n p ∷ os) k h = let r = rises-carried fs os (suc n) h.1 in ((h.0, r.0), rises-lower (named_of fs os) k (suc n) (omega (arith, h.0)) r.1)
rises-carried (Fate.left ∷ fs) (Origin.new q ∷ os) k h = rises-carried fs os k h
rises-carried (Fate.named ∷ fs) [] k h = (tt, tt)
rises-carried (Fate.named ∷ fs) (Origin.start n p ∷ os) k h = let r = rises-carried fs os (suc n) h.1 in (rises-lower (numbers (carried fs os)) k (suc n) (omega (arith, h.0)) r.0, (h.0, r.1))
rises-carried (Fate.named ∷ fs) (Origin.new q ∷ os) k h = rises-carried fs os k h

-- a number below all
below_all : (n k : ℕ) (ns : List ℕ) → n < k → Rises k ns → any (eqb n) ns ≡ false
below_all n k [] l h = refl
below_all n k (m ∷ ns) l h = ap (λ (b : Bool). b || any (eqb n) ns) (ne_eqb n m (λ e. omega (arith, h.0))) ∙ below_all n (suc m) ns (omega (arith, h.0)) h.1

abbrev is_left : List ℕ → ℕ → Bool
is_left named k = not (any (eqb k) named)

all_left : (ns : List ℕ) → filter (is_left []) ns ≡ ns
all_left [] = refl
all_left (n ∷ ns) = ap {B = List ℕ} (λ x. n ∷ x) (all_left ns)

filter_alike : (p q : ℕ → Bool) (k : ℕ) (ns : List ℕ) → ((n : ℕ) → k ≤ n → p n ≡ q n) → Rises k ns → filter p ns ≡ filter q ns
filter_alike p q k [] f h = refl
filter_alike p q k (n ∷ ns) f h =
    let rest : filter p ns ≡ filter q ns = filter_alike p q (suc n) ns (λ m l. f m (omega (arith, h.0))) h.1 in
    (λ i. pick (f n h.0 i) (n ∷ rest i) (rest i))

-- the numbers that stand after an edit are those before it that it did not name
left-on : (n : ℕ) (ms : List ℕ) (ns : List ℕ) → Rises (suc n) ns → filter (is_left (n ∷ ms)) ns ≡ filter (is_left ms) ns
left-on n ms ns h = filter_alike (is_left (n ∷ ms)) (is_left ms) (suc n) ns (λ m l. ap (λ (b : Bool). not (b || any (eqb m) ms)) (ne_eqb m n (λ e. omega arith))) h

numbers-carried : (fs : List Fate) (os : List Origin) (k : ℕ) → Rises k (numbers os) → numbers (carried fs os) ≡ filter (is_left (named_of fs os)) (numbers os)
numbers-carried [] os k h = sym (all_left (numbers os))
numbers-carried (Fate.added p ∷ fs) os k h = numbers-carried fs os k h
numbers-carried (Fate.left ∷ fs) [] k h = refl
numbers-carried (Fate.left ∷ fs) (Origin.start n p ∷ os) k h =
    let r = rises-carried fs os (suc n) h.1 in
    ap {B = List ℕ} (λ x. n ∷ x) (numbers-carried fs os (suc n) h.1)
    ∙ ap (λ (b : Bool). pick (not b) (n ∷ filter (is_left (named_of fs os)) (numbers os)) (filter (is_left (named_of fs os)) (numbers os))) (sym (below_all n (suc n) (named_of fs os) (omega arith) r.1))
numbers-carried (Fate.left ∷ fs) (Origin.new q ∷ os) k h = numbers-carried fs os k h
numbers-carried (Fate.named ∷ fs) [] k h = refl
numbers-carried (Fate.named ∷ fs) (Origin.start n p ∷ os) k h =
    numbers-carried fs os (suc n) h.1 ∙ sym (left-on n (named_of fs os) (numbers os) h.1)
    ∙ ap (λ (b : Bool). pick (not (b || any (eqb n) (named_of fs os))) (n ∷ filter (is_left (n ∷ named_of fs os)) (numbers os)) (filter (is_left (n ∷ named_of fs os)) (numbers os))) (sym (eq-eqb n n refl))
numbers-carried (Fate.named ∷ fs) (Origin.new q ∷ os) k h = numbers-carried fs os k h

-- two filters, one after the other
both_by : (a b : Bool) (n : ℕ) (f : ℕ → Bool) (ns ms : List ℕ) → f n ≡ a → filter f ns ≡ ms → filter f (pick b (n ∷ ns) ns) ≡ pick (a && b) (n ∷ ms) ms
both_by true true n f ns ms e h = (λ i. pick (e i) (n ∷ h i) (h i))
both_by false true n f ns ms e h = (λ i. pick (e i) (n ∷ h i) (h i))
both_by true false n f ns ms e h = h
both_by false false n f ns ms e h = h

any_append : (n : ℕ) (xs ys : List ℕ) → is_left (xs ++ ys) n ≡ (is_left xs n && is_left ys n)
any_append n [] ys = refl
any_append n (x ∷ xs) ys = go (eqb n x) (any_append n xs ys)
  where
    go : (t : Bool) → is_left (xs ++ ys) n ≡ (is_left xs n && is_left ys n) → not (t || any (eqb n) (xs ++ ys)) ≡ (not (t || any (eqb n) xs) && is_left ys n)
    go true h = refl
    go false h = h

left_both : (xs ys ns : List ℕ) → filter (is_left xs) (filter (is_left ys) ns) ≡ filter (is_left (xs ++ ys)) ns
left_both xs ys [] = refl
left_both xs ys (n ∷ ns) =
    both_by (is_left xs n) (is_left ys n) n (is_left xs) (filter (is_left ys) ns) (filter (is_left (xs ++ ys)) ns) refl (left_both xs ys ns)
    ∙ ap (λ (b : Bool). pick b (n ∷ filter (is_left (xs ++ ys)) ns) (filter (is_left (xs ++ ys)) ns)) (sym (any_append n xs ys))

-- the start

pieces-start : (k : ℕ) (ps : List Piece) → map piece_of (start_from k ps) ≡ ps
pieces-start k [] = refl
pieces-start k (p ∷ ps) = ap {B = List Piece} (λ x. p ∷ x) (pieces-start (suc k) ps)

numbers-start : (k : ℕ) (ps : List Piece) → numbers (start_from k ps) ≡ up_from (length ps) k
numbers-start k [] = refl
numbers-start k (p ∷ ps) = ap {B = List ℕ} (λ x. k ∷ x) (numbers-start (suc k) ps)

rises-start : (k n : ℕ) → Rises k (up_from n k)
rises-start k zero = tt
rises-start k (suc n) = (omega arith, rises-start (suc k) n)

-- a trace of pieces, and that its numbers rise
record Traced (first : List Piece) (t : Trace) (last : List Piece) : Type 0 where
  stays : Stays first t last
  rises : Rises 0 (numbers t.standing)

start-traced : (ps : List Piece) → Traced ps (record { standing = start_from 0 ps; named = [] }) ps
start-traced ps =
    let n = numbers-start 0 ps in
    record { stays = record { pieces = pieces-start 0 ps; order = n ∙ sym (all_left (up_from (length ps) 0)) }; rises = subst (Rises 0) (sym n) (rises-start 0 (length ps)) }

-- the list

single-traced : (first : List Piece) (room : ℕ) (c : Single) (p : Plain) (t : Trace) → Traced first t p.pieces
    → Traced first (record { standing = carried (fates room p c) t.standing; named = named_of (fates room p c) t.standing ++ t.named }) (single_step room p c).file.pieces
single-traced first room c p t h =
    let fs : List Fate = fates room p c in
    let os : List Origin = t.standing in
    record {
      stays = record {
        pieces = pieces-carried fs os (single_step room p c).file.pieces (subst (λ (x : List Piece). Goes fs x (single_step room p c).file.pieces) (sym h.stays.pieces) (single-goes room p c));
        order = numbers-carried fs os 0 h.rises ∙ ap (filter (is_left (named_of fs os))) h.stays.order ∙ left_both (named_of fs os) t.named (up_from (length first) 0);
      };
      rises = (rises-carried fs os 0 h.rises).0;
    }

run-traced : (first : List Piece) (room : ℕ) (cs : List Single) (p : Plain) (most : ℕ) (t : Trace) → Traced first t p.pieces → Traced first (traced room cs p t) (plain_run room cs p most).file.pieces
unfolding traced plain_run
run-traced first room [] p most t h = h
run-traced first room (c ∷ cs) p most t h =
    let s : Plain = (single_step room p c).file in
    run-traced first room cs s (max most (length_of s)) (record { standing = carried (fates room p c) t.standing; named = named_of (fates room p c) t.standing ++ t.named }) (single-traced first room c p t h)

pub list-stays : (room : ℕ) (cs : List Single) (p : Plain) (most : ℕ) → Stays p.pieces (traced room cs p (record { standing = start_from 0 p.pieces; named = [] })) (plain_run room cs p most).file.pieces
list-stays room cs p most = (run-traced p.pieces room cs p most (record { standing = start_from 0 p.pieces; named = [] }) (start-traced p.pieces)).stays
