-- The sets of a part, one after another: what stands from the first descriptor on, that descriptor, the records behind it and the part behind them.
use Rattle.std.specs.Prelude.{Option, Some, None}
use Prim.Native.Nat.{ℕ, suc, ◌+◌, ◌-◌, ◌≤◌}
use native.Mathlib.Omega.{arith}
use mathlib.Core.Path.{◌≡◌, refl, sym, ap, ◌∙◌, subst}
use mathlib.Core.Bool.{Bool, true, false}
use mathlib.Core.List.{List, [], ◌∷◌, map}
use lib.ListN.{length, take, drop, length-drop}
use Rattle.format.specs.Bytes.{Bytes, pick}
use Rattle.lines.proofs.Cuts.{rest}
use Rattle.records.specs.Places.{is_readable, Placed, places_of, is_descriptor, count_before}
use Rattle.records.specs.Sets.{set_end, leading, set_at, first_set, set_behind}
use Rattle.records.specs.declared.Place.{Place}
use Rattle.records.specs.declared.Head.{Head}
use Rattle.records.specs.declared.MemberRun.{MemberRun}
use Rattle.records.specs.declared.RecordSet.{RecordSet}
use Rattle.records.proofs.Shifts.{raise}
use Rattle.records.proofs.Searches.{places_at, Stand, Met}
use Rattle.records.proofs.Members.{Stands, stands_at}
use Rattle.records.proofs.SetEnds.{end-raised, end_whole, end-inside}

-- from the first descriptor on
abbrev pub from_head : List Placed → List Placed
from_head [] = []
from_head (p ∷ ps) = pick (is_descriptor p) (p ∷ ps) (from_head ps)

-- where the records before it end, the part goes on with it
pub record Ended (s : Bytes) (at e : ℕ) (ps : List Placed) : Type 0 where
  pub low : at ≤ e
  pub inside : e ≤ length s
  pub readable : is_readable (drop e s) ≡ true
  pub places : places_at s e ≡ from_head ps

raised-low : (a : ℕ) (xs : List Placed) (p : Placed) (ps : List Placed) → map (raise a) xs ≡ p ∷ ps → a ≤ p.after
raised-low a [] p ps e = absurd (let z : ◌≡◌ {A = ℕ} 0 1 = cc in omega arith)
raised-low a (x ∷ xs) p ps e = let y : raise a x ≡ p = cc in omega (arith, ap (λ (q : Placed). q.after) y)

ended : (s : Bytes) (at : ℕ) (ps : List Placed) → Stands s ps → ps ≡ places_at s at → at ≤ length s → is_readable (drop at s) ≡ true → Ended s at (set_end at ps) ps
unfolding set_end
ended s at [] h e i r = record { low = omega arith; inside = i; readable = r; places = sym e }
ended s at (p ∷ ps) h e i r = go (is_descriptor p) refl (ended s p.after ps h.2 h.1 h.0.inside h.0.readable)
  where
    go : (b : Bool) → is_descriptor p ≡ b → Ended s p.after (set_end p.after ps) ps → Ended s at (pick b at (set_end p.after ps)) (p ∷ ps)
    go true d x = record { low = omega arith; inside = i; readable = r; places = sym e ∙ sym (ap (λ (b : Bool). pick b (p ∷ ps) (from_head ps)) d) }
    go false d x = record { low = omega (arith, raised-low at (places_of (drop at s)) p ps (sym e), x.low); inside = x.inside; readable = x.readable; places = x.places ∙ sym (ap (λ (b : Bool). pick b (p ∷ ps) (from_head ps)) d) }

-- the first descriptor and its records, which are q, among what stands from there on
pub record SetMet (s : Bytes) (hs : List Placed) (q : RecordSet) : Type 0 where
  pub here : Placed
  pub later : List Placed
  pub places : hs ≡ here ∷ later
  pub is : set_at here later ≡ q
  pub head : is_descriptor here ≡ true
  pub stand : Stand s q.start q.end q.begin here.fields
  pub behind : Ended s q.begin q.after later

abbrev pub SetTold : Bytes → List Placed → Option RecordSet → Type 0
SetTold s hs None = hs ≡ []
SetTold s hs (Some q) = SetMet s hs q

told : (s : Bytes) (ps : List Placed) → Stands s ps → SetTold s (from_head ps) (first_set ps)
unfolding first_set
told s [] h = refl
told s (p ∷ ps) h = go (is_descriptor p) refl (told s ps h.2)
  where
    go : (b : Bool) → is_descriptor p ≡ b → SetTold s (from_head ps) (first_set ps) → SetTold s (pick b (p ∷ ps) (from_head ps)) (pick b (Some (set_at p ps)) (first_set ps))
    go true e x = record { here = p; later = ps; places = refl; is = refl; head = e; stand = h.0; behind = ended s p.after ps h.2 h.1 h.0.inside h.0.readable }
    go false e x = x

-- a set of a part, as a place of the whole
abbrev pub raise_set : ℕ → RecordSet → RecordSet
raise_set a q = record { start = a + q.start; end = a + q.end; begin = a + q.begin; after = a + q.after; count = q.count }

abbrev raise_next : ℕ → Option RecordSet → Option RecordSet
raise_next a None = None
raise_next a (Some q) = Some (raise_set a q)

count-raised : (a : ℕ) (ps : List Placed) → count_before (map (raise a) ps) ≡ count_before ps
unfolding count_before
count-raised a [] = refl
count-raised a (p ∷ ps) = ap (λ (n : ℕ). pick (is_descriptor p) 0 (suc n)) (count-raised a ps)

set-raised : (a : ℕ) (ps : List Placed) → first_set (map (raise a) ps) ≡ raise_next a (first_set ps)
unfolding first_set
set-raised a [] = refl
set-raised a (p ∷ ps) = go (is_descriptor p) (set-raised a ps)
  where
    go : (b : Bool) → first_set (map (raise a) ps) ≡ raise_next a (first_set ps) → pick b (Some (set_at (raise a p) (map (raise a) ps))) (first_set (map (raise a) ps)) ≡ raise_next a (pick b (Some (set_at p ps)) (first_set ps))
    go true e = λ d. Some (record { start = a + p.start; end = a + p.end; begin = a + p.after; after = end-raised a p.after ps d; count = count-raised a ps d })
    go false e = e

-- what an answer about the part from byte i on says, once its form is known
abbrev pub SetsMet : Bytes → ℕ → Option RecordSet → Type 0
SetsMet s i x = SetTold s (from_head (places_at s i)) (raise_next i x)

pub sets-met : (s : Bytes) (i : ℕ) (x : Option RecordSet) {y : Option RecordSet} → i ≤ length s → is_readable (drop i s) ≡ true → x ≡ first_set (places_of (take (length s - i) (drop i s))) → x ≡ y → SetsMet s i y
sets-met s i x {y} h e f g =
    subst (SetsMet s i) (ap (λ (t : Bytes). first_set (places_of t)) (sym (rest s i)) ∙ sym f ∙ g)
    (subst (SetTold s (from_head (places_at s i))) (set-raised i (places_of (drop i s))) (told s (places_at s i) (stands_at s (places_at s i) i h e refl)))

-- an answer about the records of the part from byte a on: how many they are, and that they end inside
module _ (s : Bytes) (a : ℕ) (r : MemberRun) (e : r ≡ leading (places_of (take (length s - a) (drop a s)))) where
  members-are : r ≡ leading (places_of (drop a s))
  members-are = e ∙ ap (λ (t : Bytes). leading (places_of t)) (rest s a)

  pub members-count : r.count ≡ count_before (places_of (drop a s))
  members-count = ap (λ (x : MemberRun). x.count) members-are

  pub members-end : r.end ≡ set_end 0 (places_of (drop a s))
  members-end = ap (λ (x : MemberRun). x.end) members-are

  pub members-inside : a ≤ length s → is_readable (drop a s) ≡ true → a + r.end ≤ length s
  members-inside h i = omega (arith, members-end, end-inside (drop a s) i, length-drop a s)

-- the same of the records behind a head
pub members-behind : (s : Bytes) (h : Head) (r : MemberRun) → r ≡ leading (places_of (take (length s - h.begin) (drop h.begin s))) → record { start = h.start; end = h.end; begin = h.begin; after = h.begin + r.end; count = r.count } ≡ set_behind s h
members-behind s h r e = ap (λ (m : MemberRun). record { start = h.start; end = h.end; begin = h.begin; after = h.begin + m.end; count = m.count }) (members-are s h.begin r e)

-- The next set of a part, record by record.
module _ (s : Bytes) (i : ℕ) where
  pub set-none : places_at s i ≡ [] → first_set (places_at s i) ≡ None
  unfolding first_set
  set-none e = ap first_set e

  module _ (q : Place) (m : Met s i q) where
    abbrev b : ℕ
    b = i + q.after

    set_on : (t : Bool) → q.descriptor ≡ t → first_set (places_at s i) ≡ pick t (Some (record { start = i + q.start; end = i + q.end; begin = b; after = set_end b (places_at s b); count = count_before (places_at s b) })) (first_set (places_at s b))
    unfolding first_set
    set_on t d =
        ap first_set m.places
        ∙ ap (λ (x : Place). pick x.descriptor (Some (record { start = i + x.start; end = i + x.end; begin = i + x.after; after = set_end (i + x.after) (places_at s b); count = count_before (places_at s b) })) (first_set (places_at s b))) m.is
        ∙ ap (λ (x : Bool). pick x (Some (record { start = i + q.start; end = i + q.end; begin = b; after = set_end b (places_at s b); count = count_before (places_at s b) })) (first_set (places_at s b))) d

    pub set-later : q.descriptor ≡ false → first_set (places_at s i) ≡ first_set (places_at s b)
    set-later d = set_on false d

    pub set_here : (r : MemberRun) → q.descriptor ≡ true → r ≡ leading (places_of (take (length s - b) (drop b s))) → first_set (places_at s i) ≡ Some (record { start = i + q.start; end = i + q.end; begin = b; after = b + r.end; count = r.count })
    set_here r d e =
        set_on true d
        ∙ (λ t. Some (record { start = i + q.start; end = i + q.end; begin = b; after = (end_whole s b ∙ ap (λ (x : ℕ). b + x) (sym (members-end s b r e))) t; count = (count-raised b (places_of (drop b s)) ∙ sym (members-count s b r e)) t }))
