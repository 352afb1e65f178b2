-- A request of any bytes: an insert has a pair.
use Prim.Native.Nat.{ℕ}
use mathlib.Core.Path.{◌≡◌, subst}
use mathlib.Core.Bool.{Bool, true, false}
use mathlib.Core.List.{List, [], ◌∷◌}
use mathlib.Core.Option.{Option, none, some}
use lib.Dec.{eqb, leb}
use lib.ListN.{length}
use Rattle.format.specs.Bytes.{Bytes, pick, same}
use Rattle.format.specs.Lists.{onward}
use Rattle.format.specs.Limits.{file_bytes}
use Rattle.format.specs.Written.{Pair}
use Rattle.format.specs.Edits.{Change, Act, Edit}
use Rattle.format.specs.Requests.{Tagged, tagged, Request, short_at, with_text, with_number, ends, pairs_of, inserts, changes, by_kind, asks_for, request_of}
use Rattle.format.proofs.Grouping.{HasPairs}

-- where there is an edit, it has that
abbrev Paired : Option Edit → Type 0
Paired none = Unit {0}
Paired (some e) = HasPairs e

paired-pick : (b : Bool) (x y : Option Edit) → Paired x → Paired y → Paired (pick b x y)
paired-pick true x y h k = h
paired-pick false x y h k = k

paired-onward : {A : Type 0} (f : A → Option Edit) (x : Option A) → ((a : A) → Paired (f a)) → Paired (onward f x)
paired-onward f none h = tt
paired-onward f (some a) h = h a

paired-text : (t : ℕ) (k : Bytes → List Tagged → Option Edit) (fs : List Tagged) → ((c : Bytes) (gs : List Tagged) → Paired (k c gs)) → Paired (with_text t k fs)
paired-text t k [] h = tt
paired-text t k (f ∷ fs) h = paired-pick (eqb t f.tag) (k f.contents fs) none (h f.contents fs) tt

paired-number : (t : ℕ) (k : ℕ → List Tagged → Option Edit) (fs : List Tagged) → ((n : ℕ) (gs : List Tagged) → Paired (k n gs)) → Paired (with_number t k fs)
paired-number t k fs h = paired-text t (λ (c : Bytes) (gs : List Tagged). pick (eqb (length c) 2) (k (short_at c) gs) none) fs (λ c gs. paired-pick (eqb (length c) 2) (k (short_at c) gs) none (h (short_at c) gs) tt)

paired-ends : (j : ℕ) (a : Act) (fs : List Tagged) → Paired (ends (Edit.on j a) fs)
paired-ends j a [] = tt
paired-ends j a (f ∷ fs) = tt

paired-inserts : (ps : List Pair) → Paired (inserts ps)
paired-inserts [] = tt
paired-inserts (p ∷ ps) = tt

paired-changes : (k : List Tagged → Option Change) (fs : List Tagged) → Paired (changes k fs)
paired-changes k fs =
    let made : ℕ → Bytes → ℕ → List Tagged → Option Edit = λ r n o gs. onward (λ (c : Change). some (Edit.on r (Act.change n o c))) (k gs) in
    paired-number 3 (λ (r : ℕ). with_text 4 (λ (n : Bytes). with_number 5 (made r n))) fs (λ r gs.
    paired-text 4 (λ (n : Bytes). with_number 5 (made r n)) gs (λ n hs.
    paired-number 5 (made r n) hs (λ o is. paired-onward (λ (c : Change). some (Edit.on r (Act.change n o c))) (k is) (λ c. tt))))

paired-add : (fs : List Tagged) → Paired (with_number 3 (λ (r : ℕ). with_text 4 (λ (n : Bytes). with_text 6 (λ (v : Bytes). ends (Edit.on r (Act.add (record { name = n; value = v })))))) fs)
paired-add fs =
    let made : ℕ → Bytes → Bytes → List Tagged → Option Edit = λ r n v. ends (Edit.on r (Act.add (record { name = n; value = v }))) in
    paired-number 3 (λ (r : ℕ). with_text 4 (λ (n : Bytes). with_text 6 (made r n))) fs (λ r gs.
    paired-text 4 (λ (n : Bytes). with_text 6 (made r n)) gs (λ n hs.
    paired-text 6 (made r n) hs (λ v is. paired-ends r (Act.add (record { name = n; value = v })) is)))

paired-kind : (k : Bytes) (fs : List Tagged) → Paired (by_kind k fs)
paired-kind k fs =
    paired-pick (same k (1 ∷ [])) _ _ (paired-onward inserts (pairs_of fs) paired-inserts)
    (paired-pick (same k (2 ∷ [])) _ _ (paired-number 3 (λ (r : ℕ). ends (Edit.on r Act.delete)) fs (λ r gs. paired-ends r Act.delete gs))
    (paired-pick (same k (3 ∷ [])) _ _ (paired-add fs)
    (paired-pick (same k (4 ∷ [])) _ _ (paired-changes (with_text 6 (λ (v : Bytes). ends (Change.value v))) fs)
    (paired-pick (same k (5 ∷ [])) _ _ (paired-changes (ends Change.dropped) fs)
    (paired-pick (same k (6 ∷ [])) _ _ (paired-changes (with_text 7 (λ (m : Bytes). ends (Change.name m))) fs)
    tt)))))

-- and so has a request

abbrev Formed : Option Request → Type 0
Formed none = Unit {0}
Formed (some q) = HasPairs q.edit

formed-pick : (b : Bool) (x : Option Request) → Formed x → Formed (pick b x none)
formed-pick true x h = h
formed-pick false x h = tt

formed-edit : (s : Bytes) (x : Option Edit) → Paired x → Formed (onward (λ (e : Edit). some (record { set = s; edit = e })) x)
formed-edit s none h = tt
formed-edit s (some e) h = h

formed-text : (t : ℕ) (k : Bytes → List Tagged → Option Request) (fs : List Tagged) → ((c : Bytes) (gs : List Tagged) → Formed (k c gs)) → Formed (with_text t k fs)
formed-text t k [] h = tt
formed-text t k (f ∷ fs) h = formed-pick (eqb t f.tag) (k f.contents fs) (h f.contents fs)

formed-asks : (fs : List Tagged) → Formed (asks_for fs)
formed-asks fs =
    let made : Bytes → Bytes → List Tagged → Option Request = λ k s gs. onward (λ (e : Edit). some (record { set = s; edit = e })) (by_kind k gs) in
    formed-text 1 (λ (k : Bytes). with_text 2 (made k)) fs (λ k gs. formed-text 2 (made k) gs (λ s hs. formed-edit s (by_kind k hs) (paired-kind k hs)))

formed-tagged : (x : Option (List Tagged)) → Formed (onward asks_for x)
formed-tagged none = tt
formed-tagged (some fs) = formed-asks fs

formed : (s : Bytes) → Formed (request_of s)
unfolding request_of
formed s = formed-pick (leb (length s) file_bytes) (onward asks_for (tagged s)) (formed-tagged (tagged s))

-- "insert .. one or more pairs"
pub request-pairs : (s : Bytes) (q : Request) → request_of s ≡ some q → HasPairs q.edit
request-pairs s q e = subst Formed e (formed s)
