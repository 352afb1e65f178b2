-- Names marked at their places in a list; texts of fields one behind another.
use Prim.Native.Nat.{ℕ, ◌+◌, ◌-◌, ◌≤◌, ◌<◌}
use native.Mathlib.Omega.{arith}
use mathlib.Core.Path.{◌≡◌, refl, sym, ap, ◌∙◌}
use mathlib.Core.Bool.{Bool, true, false, ◌&&◌, ◌||◌}
use mathlib.Core.List.{List, [], ◌∷◌, ◌++◌}
use borrow.Author.Tests.{ltb-true, lt-ltb}
use borrow.Rule.Slice.PartMut.{put_mid, mid_of}
use lib.Bits.{bit_or}
use lib.ListN.{length, get_or, take, drop, length-append}
use lib.Seq.{sets, sets-eq, take_at, length-take-le}
use Rattle.format.specs.Bytes.{Bytes, same, among}
use Rattle.format.specs.Calls.{over}
use Rattle.format.specs.Written.{Pair}
use Rattle.format.specs.Numbering.{pair_names}
use Rattle.format.proofs.Listing.{same-swap}
use Rattle.writing.proofs.Texts.{part-sets}
use Rattle.words.specs.RuleNames.{place_in}
use Rattle.words.proofs.RuleNames.{place-among, placed-is}
use Rattle.terms.specs.Sets.{in_set}
use Rattle.terms.proofs.Sets.{in-or, in-none}
use Rattle.dictionary.specs.Numbered.{Places}
use Rattle.numbering.specs.Adding.{Seen, Marked}

or_swap : (a b : Bool) → (a || b) ≡ (b || a)
or_swap true true = refl
or_swap true false = refl
or_swap false true = refl
or_swap false false = refl

-- a name more
pub marked_by : (ws : List Bytes) (m : Bytes) (x y : ℕ) → Places ws m y → Marked ws m x (bit_or x y)
marked_by ws m x y p n h =
    let k : ℕ = place_in n ws in
    let l : k < length ws = ltb-true k (length ws) (place-among n ws ∙ h) in
    in-or k x y ∙ or_swap (in_set k x) (in_set k y)
    ∙ ap (λ (t : Bool). t || in_set k x)
    (p k ∙ ap (λ (t : Bool). t && same m (get_or ws k [])) (lt-ltb k (length ws) l) ∙ ap (same m) (sym (placed-is n ws l)) ∙ same-swap m n)

-- the names of pairs from one on: those marked and those to come are all
abbrev pub MarksLeft : List Bytes → List Pair → List Pair → ℕ → Type 0
MarksLeft ws all rest x = (n : Bytes) → among n ws ≡ true → (in_set (place_in n ws) x || among n (pair_names rest)) ≡ among n (pair_names all)

pub marks-start : (ws : List Bytes) (all : List Pair) → MarksLeft ws all all 0
marks-start ws all n h = ap (λ (t : Bool). t || among n (pair_names all)) (in-none (place_in n ws))

pub marks-end : (ws : List Bytes) (all rest : List Pair) (x : ℕ) → MarksLeft ws all rest x → rest ≡ [] → Seen ws (pair_names all) x
marks-end ws all rest x f e n h = sym (or-none (in_set (place_in n ws) x)) ∙ ap (λ (ps : List Pair). in_set (place_in n ws) x || among n (pair_names ps)) (sym e) ∙ f n h
  where
    or-none : (a : Bool) → (a || false) ≡ a
    or-none true = refl
    or-none false = refl

pub marks-on : (ws : List Bytes) (all rest later : List Pair) (p : Pair) (x y : ℕ) → MarksLeft ws all rest x → rest ≡ p ∷ later → Marked ws p.name x y → MarksLeft ws all later y
marks-on ws all rest later p x y f e m n h =
    ap (λ (t : Bool). t || among n (pair_names later)) (m n h) ∙ go (same n p.name) (in_set (place_in n ws) x) (among n (pair_names later))
    ∙ ap (λ (ps : List Pair). in_set (place_in n ws) x || among n (pair_names ps)) (sym e) ∙ f n h
  where
    go : (a b c : Bool) → ((a || b) || c) ≡ (b || (a || c))
    go true true c = refl
    go true false c = refl
    go false b c = refl

-- a text written at a place, behind what stood before it
pub sets_behind : (b t : Bytes) (at : ℕ) → at + length t ≤ length b → take (at + length t) (sets b at t) ≡ take at b ++ t
sets_behind b t at h =
    ap (take (at + length t)) (sets-eq t b at h)
    ∙ take_at (take at b ++ t) (drop (at + length t) b) (at + length t) (length-append (take at b) t ∙ ap (λ (n : ℕ). n + length t) (length-take-le at b (omega arith)))

pub put-behind : (b t p : Bytes) (at r : ℕ) → at + length t ≤ length b → r ≡ length t → p ≡ over t (mid_of at (length b - at) b) → take (at + r) (put_mid at (length b - at) b p) ≡ take at b ++ t
put-behind b t p at r h e q =
    (λ i. take (at + e i) (put_mid at (length b - at) b (q i))) ∙ ap (take (at + length t)) (part-sets b t at (length b - at) h refl) ∙ sets_behind b t at h
