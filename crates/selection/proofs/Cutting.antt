-- The cutting of bytes into parts: each part that is cut is spelt there; and one that is spelt there is cut, if what follows cannot be taken for more of it.
use Prim.Native.Nat.{ℕ, zero, suc, ◌≤◌, ◌<◌}
use native.Mathlib.Omega.{arith}
use mathlib.Core.Path.{◌≡◌, refl, sym, ap, subst, ◌∙◌}
use mathlib.Core.Bool.{Bool, true, false, ◌&&◌, and-eq-true_iff}
use mathlib.Core.List.{List, [], ◌∷◌, ◌++◌}
use mathlib.Core.Option.{Option, none, some}
use lib.Dec.{eqb}
use lib.ListN.{length, drop, get_or, length-append}
use borrow.Author.Tests.{eqb-true, not-false}
use Rattle.format.specs.Bytes.{Bytes, pick, all, is_blank}
use Rattle.format.specs.Lists.{onward, front, is_filled}
use Rattle.format.specs.Lines.{is_first, is_later, is_name}
use Rattle.format.specs.Numbers.{Int, int_bounds, int_of}
use Rattle.format.proofs.Parts.{front-passes}
use Rattle.selection.specs.Expressions.{equals, differs, less_than, at_most, more_than, at_least, int, string, Sign, comparing, not_sign, and_sign, or_sign, open_sign, close_sign, Part, field_name, operand, sign, sign_bytes, is_in_string}
use Rattle.selection.specs.Expressions.{Spells, spells_name, spells_int, spells_string, spells_sign, PartAt, behind_blank, at_once}
use Rattle.selection.specs.Reading.{begins_with, all_signs, sign_among, Front, no_part, one_blank, one_part, sign_front, int_front, name_front, string_front, is_int_first, front_of, one_less, size_behind, with_front, parts_behind}
use Rattle.selection.proofs.Ints.{pick-either, pick_true, pick-false, or-either, int-bytes, IntBytes, begins-no-name, no_truth}

-- bytes as parts one behind another, and blanks at the end
abbrev pub CutInto : Bytes → List Part → Type 0
CutInto s [] = all is_blank s ≡ true
CutInto s (p ∷ ps) = (t : Bytes) × PartAt s p t × CutInto t ps

-- The front that is told is there

abbrev StandsThere : ℕ → Bytes → Front → Type 0
StandsThere c s no_part = Unit {0}
StandsThere c s one_blank = is_blank c ≡ true
StandsThere c s (one_part p n) = one_less n ≤ length s → PartAt (c ∷ s) p (drop (one_less n) s)

there : (s w t : Bytes) (p : Part) → w ++ t ≡ s → Spells w p → PartAt s p t
there s w t p e x = subst (λ (y : Bytes). PartAt y p t) e (at_once t x)

front-drop : (p : ℕ → Bool) (s : Bytes) → front p s ++ drop (length (front p s)) s ≡ s
front-drop p [] = refl
front-drop p (c ∷ s) = pick-either (λ (x : Bytes). x ++ drop (length x) (c ∷ s) ≡ c ∷ s) (p c) (c ∷ front p s) [] (λ e. ap (λ (x : Bytes). c ∷ x) (front-drop p s)) (λ e. refl)

name-stands : (c : ℕ) (s : Bytes) → is_first c ≡ true → StandsThere c s (name_front (c ∷ front is_later s))
name-stands c s e h =
    let w : Bytes = front is_later s in
    there (c ∷ s) (c ∷ w) (drop (length w) s) (field_name (c ∷ w)) (ap (λ (x : Bytes). c ∷ x) (front-drop is_later s)) (spells_name (c ∷ w) ((and-eq-true_iff (is_first c) (all is_later w)).1 (e, front-passes is_later s)))

int-stands : (c : ℕ) (s : Bytes) → let w : Bytes = front is_later s in StandsThere c s (int_front (suc (length w)) (int_of int_bounds (c ∷ w)))
int-stands c s = go (int_of int_bounds (c ∷ front is_later s)) refl
  where
    go : (x : Option Int) → int_of int_bounds (c ∷ front is_later s) ≡ x → StandsThere c s (int_front (suc (length (front is_later s))) x)
    go none e = tt
    go (some z) e = λ h. let w : Bytes = front is_later s in there (c ∷ s) (c ∷ w) (drop (length w) s) (operand (int z)) (ap (λ (x : Bytes). c ∷ x) (front-drop is_later s)) (spells_int (c ∷ w) z e)

quote-drop : (s : Bytes) → length (front is_in_string s) < length s → (front is_in_string s ++ (39 ∷ [])) ++ drop (suc (length (front is_in_string s))) s ≡ s
quote-drop [] h = absurd (omega arith)
quote-drop (c ∷ s) h =
    pick-either (λ (x : Bytes). length x < length (c ∷ s) → (x ++ (39 ∷ [])) ++ drop (suc (length x)) (c ∷ s) ≡ c ∷ s) (is_in_string c) (c ∷ front is_in_string s) []
    (λ e l. ap (λ (x : Bytes). c ∷ x) (quote-drop s (omega arith)))
    (λ e l. ap (λ (x : ℕ). x ∷ s) (sym (eqb-true c 39 (not-false (eqb c 39) e)))) h

string-stands : (c : ℕ) (s : Bytes) → eqb c 39 ≡ true → StandsThere c s (string_front (front is_in_string s))
string-stands c s e h =
    let w : Bytes = front is_in_string s in
    there (c ∷ s) (39 ∷ (w ++ (39 ∷ []))) (drop (suc (length w)) s) (operand (string w)) (λ i. sym (eqb-true c 39 e) i ∷ quote-drop s h i) (spells_string w (front-passes is_in_string s))

starts-drop : (w s : Bytes) → begins_with w s ≡ true → w ++ drop (length w) s ≡ s
starts-drop [] s e = refl
starts-drop (x ∷ w) [] e = absurd (no_truth (sym e))
starts-drop (x ∷ w) (y ∷ s) e = let k = (and-eq-true_iff (eqb x y) (begins_with w s)).0 e in λ i. eqb-true x y k.0 i ∷ starts-drop w s k.1 i

spelling-filled : (g : Sign) → is_filled (sign_bytes g) ≡ true
spelling-filled (comparing equals) = refl
spelling-filled (comparing differs) = refl
spelling-filled (comparing less_than) = refl
spelling-filled (comparing at_most) = refl
spelling-filled (comparing more_than) = refl
spelling-filled (comparing at_least) = refl
spelling-filled not_sign = refl
spelling-filled and_sign = refl
spelling-filled or_sign = refl
spelling-filled open_sign = refl
spelling-filled close_sign = refl

less-drop : (w : Bytes) (c : ℕ) (s : Bytes) → is_filled w ≡ true → drop (length w) (c ∷ s) ≡ drop (one_less (length w)) s
less-drop [] c s e = absurd (no_truth (sym e))
less-drop (x ∷ w) c s e = refl

sign-stands : (gs : List Sign) (c : ℕ) (s : Bytes) → StandsThere c s (sign_front (sign_among gs (c ∷ s)))
sign-stands [] c s = tt
sign-stands (g ∷ gs) c s =
    let w : Bytes = sign_bytes g in
    pick-either (λ (x : Option Sign). StandsThere c s (sign_front x)) (begins_with w (c ∷ s)) (some g) (sign_among gs (c ∷ s))
    (λ e h. there (c ∷ s) w (drop (one_less (length w)) s) (sign g) (ap (λ (x : Bytes). w ++ x) (sym (less-drop w c s (spelling-filled g))) ∙ starts-drop w (c ∷ s) e) (spells_sign g))
    (λ e. sign-stands gs c s)

front-stands : (c : ℕ) (s : Bytes) → StandsThere c s (front_of c s)
front-stands c s =
    pick-either (StandsThere c s) (is_first c) _ _ (name-stands c s) (λ _.
    pick-either (StandsThere c s) (is_int_first c) _ _ (λ _. int-stands c s) (λ _.
    pick-either (StandsThere c s) (is_blank c) _ _ (λ e. e) (λ _.
    pick-either (StandsThere c s) (eqb c 39) _ _ (string-stands c s) (λ _. sign-stands all_signs c s))))

-- so that all parts are

abbrev Good : ℕ → Bytes → Option (List Part) → Type 0
Good k s none = Unit {0}
Good k s (some ps) = (k ≤ length s) × CutInto (drop k s) ps

blank-cuts : (c : ℕ) (s : Bytes) (ps : List Part) → is_blank c ≡ true → CutInto s ps → CutInto (c ∷ s) ps
blank-cuts c s [] e h = (and-eq-true_iff (is_blank c) (all is_blank s)).1 (e, h)
blank-cuts c s (p ∷ ps) e h = (h.0, behind_blank c e h.1, h.2)

good-put : (c : ℕ) (s : Bytes) (x : Front) → StandsThere c s x → (y : Option (List Part)) → Good (size_behind x) s y → Good zero (c ∷ s) (onward (with_front x) y)
good-put c s no_part t none h = tt
good-put c s no_part t (some ps) h = tt
good-put c s one_blank t none h = tt
good-put c s one_blank t (some ps) h = (omega arith, blank-cuts c s ps t h.1)
good-put c s (one_part p n) t none h = tt
good-put c s (one_part p n) t (some ps) h = (omega arith, (drop (one_less n) s, t h.0, h.1))

good-behind : (k c : ℕ) (s : Bytes) (y : Option (List Part)) → Good k s y → Good (suc k) (c ∷ s) y
good-behind k c s none h = tt
good-behind k c s (some ps) h = (omega arith, h.1)

good-parts : (k : ℕ) (s : Bytes) → Good k s (parts_behind k s)
good-parts zero [] = (omega arith, refl)
good-parts (suc k) [] = tt
good-parts (suc k) (c ∷ s) = good-behind k c s (parts_behind k s) (good-parts k s)
good-parts zero (c ∷ s) = good-put c s (front_of c s) (front-stands c s) (parts_behind (size_behind (front_of c s)) s) (good-parts (size_behind (front_of c s)) s)

pub parts-there : (s : Bytes) (ps : List Part) → parts_behind zero s ≡ some ps → CutInto s ps
parts-there s ps e = (subst (Good zero s) e (good-parts zero s)).1

-- A part that is there is told

-- where a part ends: a name and an operand before a byte that no name goes on in, a sign before another byte than `=`
abbrev pub EndsName : Bytes → Type 0
EndsName t = is_later (get_or t 0 0) ≡ false

abbrev pub EndsSign : Bytes → Type 0
EndsSign t = eqb 61 (get_or t 0 0) ≡ false

abbrev pub EndsPart : Part → Bytes → Type 0
EndsPart (field_name w) t = EndsName t
EndsPart (operand v) t = EndsName t
EndsPart (sign g) t = EndsSign t

-- with one part more in front
abbrev pub first : Part → Option (List Part) → Option (List Part)
first p x = onward (λ (ps : List Part). some (p ∷ ps)) x

skipped : (w t : Bytes) → parts_behind (length w) (w ++ t) ≡ parts_behind zero t
skipped [] t = refl
skipped (c ∷ w) t = skipped w t

cut-part : (c : ℕ) (w t : Bytes) (p : Part) → front_of c (w ++ t) ≡ one_part p (suc (length w)) → parts_behind zero (c ∷ (w ++ t)) ≡ first p (parts_behind zero t)
cut-part c w t p e = ap (λ (x : Front). onward (with_front x) (parts_behind (size_behind x) (w ++ t))) e ∙ ap (first p) (skipped w t)

front_ends : (p : ℕ → Bool) (w t : Bytes) → all p w ≡ true → p (get_or t 0 0) ≡ false → front p (w ++ t) ≡ w
front_ends p [] [] h k = refl
front_ends p [] (c ∷ t) h k = ap (λ (b : Bool). pick b (c ∷ front p t) []) k
front_ends p (c ∷ w) t h k =
    let e = (and-eq-true_iff (p c) (all p w)).0 h in
    ap (λ (b : Bool). pick b (c ∷ front p (w ++ t)) []) e.0 ∙ ap (λ (x : Bytes). c ∷ x) (front_ends p w t e.1 k)

name-cut : (w t : Bytes) → is_name w ≡ true → EndsName t → parts_behind zero (w ++ t) ≡ first (field_name w) (parts_behind zero t)
name-cut [] t h k = absurd (no_truth (sym h))
name-cut (c ∷ w) t h k =
    let e = (and-eq-true_iff (is_first c) (all is_later w)).0 h in
    cut-part c w t (field_name (c ∷ w)) (pick_true (is_first c) _ _ e.0 ∙ ap (λ (x : Bytes). name_front (c ∷ x)) (front_ends is_later w t e.1 k))

int_cut : (w t : Bytes) (z : Int) → int_of int_bounds w ≡ some z → IntBytes w → EndsName t → parts_behind zero (w ++ t) ≡ first (operand (int z)) (parts_behind zero t)
int_cut [] t z h b k = absurd b
int_cut (c ∷ w) t z h b k =
    cut-part c w t (operand (int z))
    (pick-false (is_first c) _ _ (begins-no-name c b.0) ∙ pick_true (is_int_first c) _ _ b.0
    ∙ ap (λ (x : Bytes). int_front (suc (length x)) (int_of int_bounds (c ∷ x))) (front_ends is_later w t b.1 k) ∙ ap (int_front (suc (length w))) h)

front-quote : (w t : Bytes) → all is_in_string w ≡ true → front is_in_string ((w ++ (39 ∷ [])) ++ t) ≡ w
front-quote [] t h = refl
front-quote (c ∷ w) t h =
    let e = (and-eq-true_iff (is_in_string c) (all is_in_string w)).0 h in
    ap (λ (b : Bool). pick b (c ∷ front is_in_string ((w ++ (39 ∷ [])) ++ t)) []) e.0 ∙ ap (λ (x : Bytes). c ∷ x) (front-quote w t e.1)

skipped-quote : (w t : Bytes) → parts_behind (suc (length w)) ((w ++ (39 ∷ [])) ++ t) ≡ parts_behind zero t
skipped-quote [] t = refl
skipped-quote (c ∷ w) t = skipped-quote w t

string-cut : (w t : Bytes) → all is_in_string w ≡ true → parts_behind zero (39 ∷ ((w ++ (39 ∷ [])) ++ t)) ≡ first (operand (string w)) (parts_behind zero t)
string-cut w t h =
    let s : Bytes = (w ++ (39 ∷ [])) ++ t in
    ap (λ (x : Bytes). onward (with_front (string_front x)) (parts_behind (suc (length x)) s)) (front-quote w t h) ∙ ap (first (operand (string w))) (skipped-quote w t)

no-equal : (t : Bytes) → EndsSign t → begins_with (61 ∷ []) t ≡ false
no-equal [] e = refl
no-equal (c ∷ t) e = ap (λ (b : Bool). b && true) e

sign-cut : (g : Sign) (t : Bytes) → EndsSign t → parts_behind zero (sign_bytes g ++ t) ≡ first (sign g) (parts_behind zero t)
sign-cut (comparing equals) t e = cut-part 61 [] t (sign (comparing equals)) refl
sign-cut (comparing differs) t e = cut-part 33 (61 ∷ []) t (sign (comparing differs)) refl
sign-cut (comparing less_than) t e = cut-part 60 [] t (sign (comparing less_than)) (ap (λ (b : Bool). sign_front (pick b (some (comparing at_most)) (some (comparing less_than)))) (no-equal t e))
sign-cut (comparing at_most) t e = cut-part 60 (61 ∷ []) t (sign (comparing at_most)) refl
sign-cut (comparing more_than) t e = cut-part 62 [] t (sign (comparing more_than)) (ap (λ (b : Bool). sign_front (pick b (some (comparing at_least)) (some (comparing more_than)))) (no-equal t e))
sign-cut (comparing at_least) t e = cut-part 62 (61 ∷ []) t (sign (comparing at_least)) refl
sign-cut not_sign t e = cut-part 33 [] t (sign not_sign) (ap (λ (b : Bool). sign_front (pick b (some (comparing differs)) (some not_sign))) (no-equal t e))
sign-cut and_sign t e = cut-part 38 (38 ∷ []) t (sign and_sign) refl
sign-cut or_sign t e = cut-part 124 (124 ∷ []) t (sign or_sign) refl
sign-cut open_sign t e = cut-part 40 [] t (sign open_sign) refl
sign-cut close_sign t e = cut-part 41 [] t (sign close_sign) refl

spelt-cut : {w : Bytes} {p : Part} → Spells w p → (t : Bytes) → EndsPart p t → parts_behind zero (w ++ t) ≡ first p (parts_behind zero t)
spelt-cut (spells_name w e) t k = name-cut w t e k
spelt-cut (spells_int w z e) t k = int_cut w t z e (int-bytes w z e) k
spelt-cut (spells_string w e) t k = string-cut w t e
spelt-cut (spells_sign g) t k = sign-cut g t k

same-blank : (x : Option (List Part)) → onward (with_front one_blank) x ≡ x
same-blank none = refl
same-blank (some ps) = refl

pub past-blank : (c : ℕ) (s : Bytes) → is_blank c ≡ true → parts_behind zero (c ∷ s) ≡ parts_behind zero s
past-blank c s e = or-either (eqb c 32) (eqb c 9) e (λ k. go 32 (eqb-true c 32 k) (same-blank (parts_behind zero s))) (λ k. go 9 (eqb-true c 9 k) (same-blank (parts_behind zero s)))
  where
    go : (d : ℕ) → c ≡ d → parts_behind zero (d ∷ s) ≡ parts_behind zero s → parts_behind zero (c ∷ s) ≡ parts_behind zero s
    go d q h = ap (λ (x : ℕ). parts_behind zero (x ∷ s)) q ∙ h

pub part_cut : {s t : Bytes} {p : Part} → PartAt s p t → EndsPart p t → parts_behind zero s ≡ first p (parts_behind zero t)
part_cut (behind_blank {s = s} c e n) k = past-blank c s e ∙ part_cut n k
part_cut (at_once t x) k = spelt-cut x t k

pub only-blanks : (t : Bytes) → all is_blank t ≡ true → parts_behind zero t ≡ some []
only-blanks [] e = refl
only-blanks (c ∷ t) e = let k = (and-eq-true_iff (is_blank c) (all is_blank t)).0 e in past-blank c t k.0 ∙ only-blanks t k.1

-- What stands at a place, in one step

abbrev pub FrontIs : Bytes → Front → Type 0
FrontIs [] x = ⊥
FrontIs (c ∷ v) x = front_of c v ≡ x

name-front : (w t : Bytes) → is_name w ≡ true → EndsName t → FrontIs (w ++ t) (one_part (field_name w) (length w))
name-front [] t h k = absurd (no_truth (sym h))
name-front (c ∷ w) t h k =
    let e = (and-eq-true_iff (is_first c) (all is_later w)).0 h in
    pick_true (is_first c) _ _ e.0 ∙ ap (λ (x : Bytes). name_front (c ∷ x)) (front_ends is_later w t e.1 k)

int-front : (w t : Bytes) (z : Int) → int_of int_bounds w ≡ some z → IntBytes w → EndsName t → FrontIs (w ++ t) (one_part (operand (int z)) (length w))
int-front [] t z h b k = absurd b
int-front (c ∷ w) t z h b k =
    pick-false (is_first c) _ _ (begins-no-name c b.0) ∙ pick_true (is_int_first c) _ _ b.0
    ∙ ap (λ (x : Bytes). int_front (suc (length x)) (int_of int_bounds (c ∷ x))) (front_ends is_later w t b.1 k) ∙ ap (int_front (suc (length w))) h

string-front : (w t : Bytes) → all is_in_string w ≡ true → FrontIs ((39 ∷ (w ++ (39 ∷ []))) ++ t) (one_part (operand (string w)) (length (39 ∷ (w ++ (39 ∷ [])))))
string-front w t h =
    let l : suc (suc (length w)) ≡ suc (length (w ++ (39 ∷ []))) = omega (arith, length-append w (39 ∷ [])) in
    ap string_front (front-quote w t h) ∙ ap (one_part (operand (string w))) l

sign-front : (g : Sign) (t : Bytes) → EndsSign t → FrontIs (sign_bytes g ++ t) (one_part (sign g) (length (sign_bytes g)))
sign-front (comparing equals) t e = refl
sign-front (comparing differs) t e = refl
sign-front (comparing less_than) t e = ap (λ (b : Bool). sign_front (pick b (some (comparing at_most)) (some (comparing less_than)))) (no-equal t e)
sign-front (comparing at_most) t e = refl
sign-front (comparing more_than) t e = ap (λ (b : Bool). sign_front (pick b (some (comparing at_least)) (some (comparing more_than)))) (no-equal t e)
sign-front (comparing at_least) t e = refl
sign-front not_sign t e = ap (λ (b : Bool). sign_front (pick b (some (comparing differs)) (some not_sign))) (no-equal t e)
sign-front and_sign t e = refl
sign-front or_sign t e = refl
sign-front open_sign t e = refl
sign-front close_sign t e = refl

pub spells-front : {w : Bytes} {p : Part} → Spells w p → (t : Bytes) → EndsPart p t → FrontIs (w ++ t) (one_part p (length w))
spells-front (spells_name w e) t k = name-front w t e k
spells-front (spells_int w z e) t k = int-front w t z e (int-bytes w z e) k
spells-front (spells_string w e) t k = string-front w t e
spells-front (spells_sign g) t k = sign-front g t k
