-- What the grammar has is read: bytes that are an expression are read as that one, so that they are no other, and are cut in one way only.
use Prim.Native.Nat.{ℕ, zero, suc, ◌+◌, ◌≤◌}
use native.Mathlib.Omega.{arith}
use mathlib.Core.Path.{◌≡◌, refl, sym, ap, ◌∙◌, subst}
use mathlib.Core.Bool.{Bool, true, false, and-eq-true_iff}
use mathlib.Core.List.{List, [], ◌∷◌, ◌++◌}
use mathlib.Core.Option.{Option, none, some}
use lib.Dec.{eqb}
use lib.ListN.{length, drop, get_or}
use lib.Seq.{drop-append_seam}
use borrow.Author.Tests.{eqb-true, le-leb}
use Rattle.format.specs.Bytes.{Bytes, pick, all, is_blank}
use Rattle.format.specs.Lists.{onward}
use Rattle.format.specs.Lines.{is_first, is_later, is_name}
use Rattle.format.specs.Numbers.{Int}
use Rattle.selection.specs.Expressions.{Operator, equals, differs, less_than, at_most, more_than, at_least, int, string, Expression, comparison, Sign, comparing, not_sign, and_sign, or_sign, open_sign, close_sign, Part, field_name, operand, sign, sign_bytes}
use Rattle.selection.specs.Expressions.{Spells, spells_name, spells_int, spells_string, spells_sign, PartAt, behind_blank, at_once, Or, or_one, or_more, And, and_one, and_more, Unary, unary_not, unary_group, unary_int, unary_string, takes_strings, Written, IsExpression, bytes_at_most}
use Rattle.selection.proofs.Derivations.{or_cut, and_cut, unary_cut, cut_of, Cut, placed, or_places, and_places, unary_places, places_of}
use Rattle.selection.specs.Reading.{Front, no_part, one_blank, one_part, front_of, is_int_first, parts_behind, parts_of, Level, empty_level, Stage, wanting, naming, holding, done, Reader, reader, operand_on, one_not, or_with, advance, grouped_from, beginning, read_expression}
use Rattle.selection.proofs.Ints.{or-either, another-byte, no_truth, int-bytes, IntBytes, pick_true, pick-either}
use Rattle.selection.proofs.Cutting.{EndsName, EndsSign, EndsPart, first, part_cut, only-blanks, FrontIs, spells-front}

-- The first byte at a place that a part follows, blanks or not

next-head : (q : ℕ → Bool) → q 32 ≡ false → q 9 ≡ false → {s t : Bytes} {p : Part} → PartAt s p t → ((w : Bytes) → Spells w p → (y : Bytes) → q (get_or (w ++ y) 0 0) ≡ false) → q (get_or s 0 0) ≡ false
next-head q a b (behind_blank c e n) h = or-either (eqb c 32) (eqb c 9) e (λ k. ap q (eqb-true c 32 k) ∙ a) (λ k. ap q (eqb-true c 9 k) ∙ b)
next-head q a b (at_once {w = w} t x) h = h w x t

sign-head : (q : ℕ → Bool) → q 32 ≡ false → q 9 ≡ false → (g : Sign) {s t : Bytes} → ((y : Bytes) → q (get_or (sign_bytes g ++ y) 0 0) ≡ false) → PartAt s (sign g) t → q (get_or s 0 0) ≡ false
sign-head q a b g h n = next-head q a b n go
  where
    go : (w : Bytes) → Spells w (sign g) → (y : Bytes) → q (get_or (w ++ y) 0 0) ≡ false
    go w (spells_sign _) y = h y

-- an operator follows a name and ends it
operator-head : (o : Operator) (y : Bytes) → is_later (get_or (sign_bytes (comparing o) ++ y) 0 0) ≡ false
operator-head equals y = refl
operator-head differs y = refl
operator-head less_than y = refl
operator-head at_most y = refl
operator-head more_than y = refl
operator-head at_least y = refl

after-name : {o : Operator} {s t : Bytes} → PartAt s (sign (comparing o)) t → EndsName s
after-name {o = o} n = sign-head is_later refl refl (comparing o) (operator-head o) n

-- a part that is no operator does not begin with `=`
name-head : {m : Bytes} {s t : Bytes} → PartAt s (field_name m) t → EndsSign s
name-head {m = m} n = next-head (eqb 61) refl refl n go
  where
    by_name : (w : Bytes) → is_name w ≡ true → (y : Bytes) → eqb 61 (get_or (w ++ y) 0 0) ≡ false
    by_name [] e y = absurd (no_truth (sym e))
    by_name (c ∷ w) e y = another-byte is_first c 61 ((and-eq-true_iff (is_first c) (all is_later w)).0 e).0 refl

    go : (w : Bytes) → Spells w (field_name m) → (y : Bytes) → eqb 61 (get_or (w ++ y) 0 0) ≡ false
    go w (spells_name _ e) y = by_name w e y

int-head : {z : Int} {s t : Bytes} → PartAt s (operand (int z)) t → EndsSign s
int-head {z = z} n = next-head (eqb 61) refl refl n go
  where
    by_int : (w : Bytes) → IntBytes w → (y : Bytes) → eqb 61 (get_or (w ++ y) 0 0) ≡ false
    by_int [] b y = absurd b
    by_int (c ∷ w) b y = another-byte is_int_first c 61 b.0 refl

    go : (w : Bytes) → Spells w (operand (int z)) → (y : Bytes) → eqb 61 (get_or (w ++ y) 0 0) ≡ false
    go w (spells_int _ _ e) y = by_int w (int-bytes w z e) y

string-head : {x : Bytes} {s t : Bytes} → PartAt s (operand (string x)) t → EndsSign s
string-head {x = x} n = next-head (eqb 61) refl refl n go
  where
    go : (w : Bytes) → Spells w (operand (string x)) → (y : Bytes) → eqb 61 (get_or (w ++ y) 0 0) ≡ false
    go w (spells_string _ e) y = refl

unary-head : {n : ℕ} {s t : Bytes} {e : Expression} → Unary n s t e → EndsSign s
unary-head (unary_not a x) = sign-head (eqb 61) refl refl not_sign (λ y. refl) a
unary-head (unary_group a x b) = sign-head (eqb 61) refl refl open_sign (λ y. refl) a
unary-head (unary_int a b c) = name-head a
unary-head (unary_string a b k c) = name-head a

and-head : {n : ℕ} {s t : Bytes} {e : Expression} → And n s t e → EndsSign s
and-head (and_one x) = unary-head x
and-head (and_more x a y) = and-head x

or-head : {n : ℕ} {s t : Bytes} {e : Expression} → Or n s t e → EndsSign s
or-head (or_one x) = and-head x
or-head (or_more x a y) = or-head x

-- What follows an operand ends a name, an int and a sign

abbrev EndsOperand : Bytes → Type 0
EndsOperand t = EndsName t × EndsSign t

ends-operand : (g : Sign) {s t : Bytes} → ((y : Bytes) → is_later (get_or (sign_bytes g ++ y) 0 0) ≡ false) → ((y : Bytes) → eqb 61 (get_or (sign_bytes g ++ y) 0 0) ≡ false) → PartAt s (sign g) t → EndsOperand s
ends-operand g h k n = (sign-head is_later refl refl g h n, sign-head (eqb 61) refl refl g k n)

blanks-end : (t : Bytes) → all is_blank t ≡ true → EndsOperand t
blanks-end [] e = (refl, refl)
blanks-end (c ∷ t) e =
    or-either (eqb c 32) (eqb c 9) ((and-eq-true_iff (is_blank c) (all is_blank t)).0 e).0
    (λ k. let q = eqb-true c 32 k in (ap is_later q, ap (eqb 61) q)) (λ k. let q = eqb-true c 9 k in (ap is_later q, ap (eqb 61) q))

-- What is read from a place on, by a reader that has come there

abbrev pub read_from : Bytes → Reader → Option Expression
read_from s r = onward (λ (ps : List Part). grouped_from ps r) (parts_behind zero s)

abbrev pub read_if : Bytes → Option Reader → Option Expression
read_if s x = onward (read_from s) x

-- past a part the reader advances
past-part : {s t : Bytes} {p : Part} → PartAt s p t → EndsPart p t → (r : Reader) → read_from s r ≡ read_if t (advance r.room r.outer r.stage p)
past-part {s = s} {t = t} {p = p} n k r = ap (onward (λ (ps : List Part). grouped_from ps r)) (part_cut n k) ∙ go (parts_behind zero t) (advance r.room r.outer r.stage p) refl
  where
    go : (x : Option (List Part)) (y : Option Reader) → advance r.room r.outer r.stage p ≡ y → onward (λ (ps : List Part). grouped_from ps r) (first p x) ≡ onward (λ (q : Reader). onward (λ (ps : List Part). grouped_from ps q) x) y
    go none none e = refl
    go none (some q) e = refl
    go (some ps) y e = ap (onward (grouped_from ps)) e

abbrev level_in : Option Expression → Level
level_in l = record { ored = l; anded = none; nots = zero }

abbrev with-room : ℕ → List Level → Stage → Reader
with-room n k x = record { room = n; outer = k; stage = x }

mutual
  unary_read : {n : ℕ} {s t : Bytes} {e : Expression} → Unary n s t e → EndsOperand t → (k : List Level) (f : Level) → read_from s (with-room n k (wanting f)) ≡ read_from t (with-room n k (operand_on f e))
  unary_read {n = n} (unary_not a x) c k f = past-part a (unary-head x) (with-room n k (wanting f)) ∙ unary_read x c k (one_not f)
  unary_read {t = t} (unary_group {n = m} a x b) c k f =
      let i = or-read x (ends-operand close_sign (λ y. refl) (λ y. refl) b) (f ∷ k) in
      past-part a (or-head x) (with-room (suc m) k (wanting f)) ∙ i.2.1 ∙ past-part b c.1 (with-room m (f ∷ k) (done i.0 i.1))
      ∙ ap (λ (z : Expression). read_from t (with-room (suc m) k (operand_on f z))) i.2.0
  unary_read {n = n} (unary_int {m = m} {o = o} a b d) c k f =
      past-part a (after-name b) (with-room n k (wanting f)) ∙ past-part b (int-head d) (with-room n k (naming f m)) ∙ past-part d c.0 (with-room n k (holding f m o))
  unary_read {n = n} {t = t} (unary_string {m = m} {o = o} {w = w} a b e d) c k f =
      past-part a (after-name b) (with-room n k (wanting f)) ∙ past-part b (string-head d) (with-room n k (naming f m)) ∙ past-part d c.0 (with-room n k (holding f m o))
      ∙ ap (read_if t) (pick_true (takes_strings o) (reader n k (operand_on f (comparison m o (string w)))) none e)

  and-read : {n : ℕ} {s t : Bytes} {e : Expression} → And n s t e → EndsOperand t → (k : List Level) (l : Option Expression) → read_from s (with-room n k (wanting (level_in l))) ≡ read_from t (with-room n k (done l e))
  and-read (and_one x) c k l = unary_read x c k (level_in l)
  and-read {n = n} (and_more {e = e} x a y) c k l =
      and-read x (ends-operand and_sign (λ y. refl) (λ y. refl) a) k l ∙ past-part a (unary-head y) (with-room n k (done l e)) ∙ unary_read y c k (record { ored = l; anded = some e; nots = zero })

  or-read : {n : ℕ} {s t : Bytes} {e : Expression} → Or n s t e → EndsOperand t → (k : List Level) → (l : Option Expression) × (a : Expression) × ((or_with l a ≡ e) × (read_from s (with-room n k (wanting empty_level)) ≡ read_from t (with-room n k (done l a))))
  or-read {e = e} (or_one x) c k = (none, e, (refl, and-read x c k none))
  or-read {n = n} (or_more {u = u} {e = e} {f = f} x a y) c k =
      let i = or-read x (ends-operand or_sign (λ y. refl) (λ y. refl) a) k in
      (some e, f, (refl, i.2.1 ∙ past-part a (and-head y) (with-room n k (done i.0 i.1)) ∙ ap (λ (z : Expression). read_from u (with-room n k (wanting (level_in (some z))))) i.2.0 ∙ and-read y c k (some e)))

-- The laws

written_read : {n : ℕ} {s : Bytes} {e : Expression} → Written n s e → read_from s (with-room n [] (wanting empty_level)) ≡ some e
written_read {s = s} x =
    let t : Bytes = x.end in
    let i = or-read x.expression (blanks-end t x.blanks) [] in
    i.2.1 ∙ ap (onward (λ (ps : List Part). grouped_from ps (with-room _ [] (done i.0 i.1)))) (only-blanks t x.blanks) ∙ ap some i.2.0

-- an expression within the limits is read
pub expression-is-read : (s : Bytes) (e : Expression) → IsExpression s e → read_expression s ≡ some e
unfolding read_expression parts_of
expression-is-read s e x = ap (λ (b : Bool). onward (λ (ps : List Part). pick b (grouped_from ps beginning) none) (parts_behind zero s)) (le-leb (length s) bytes_at_most x.fits) ∙ written_read x.stands

some-inside : {A : Type 0} {x y : A} → some x ≡ some y → x ≡ y
some-inside {x = x} e = ap (λ o. elim o [ none ↦ x | some a ↦ a ]) e

-- a higher limit of parentheses changes nothing
mutual
  deeper-or : {n : ℕ} {s t : Bytes} {e : Expression} → Or n s t e → (m : ℕ) → n ≤ m → Or m s t e
  deeper-or (or_one x) m h = or_one (deeper-and x m h)
  deeper-or (or_more x a y) m h = or_more (deeper-or x m h) a (deeper-and y m h)

  deeper-and : {n : ℕ} {s t : Bytes} {e : Expression} → And n s t e → (m : ℕ) → n ≤ m → And m s t e
  deeper-and (and_one x) m h = and_one (deeper-unary x m h)
  deeper-and (and_more x a y) m h = and_more (deeper-and x m h) a (deeper-unary y m h)

  deeper-unary : {n : ℕ} {s t : Bytes} {e : Expression} → Unary n s t e → (m : ℕ) → n ≤ m → Unary m s t e
  deeper-unary (unary_not a x) m h = unary_not a (deeper-unary x m h)
  deeper-unary (unary_group a x b) zero h = absurd (omega arith)
  deeper-unary (unary_group a x b) (suc m) h = unary_group a (deeper-or x m (omega arith)) b
  deeper-unary (unary_int a b c) m h = unary_int a b c
  deeper-unary (unary_string a b e c) m h = unary_string a b e c

deeper : {n : ℕ} {s : Bytes} {e : Expression} → Written n s e → (m : ℕ) → n ≤ m → Written m s e
deeper x m h = record { end = x.end; expression = deeper-or x.expression m h; blanks = x.blanks }

-- "an accepted expression has one reading only", and so has any other
pub one-reading : (n m : ℕ) (s : Bytes) (e f : Expression) → Written n s e → Written m s f → e ≡ f
one-reading n m s e f x y = some-inside (sym (written_read (deeper x (n + m) (omega arith))) ∙ written_read (deeper y (n + m) (omega arith)))

-- the parts by the grammar are those that the reader cuts

abbrev ahead : (List Part → List Part) → Option (List Part) → Option (List Part)
ahead f x = onward (λ (ps : List Part). some (f ps)) x

ahead-both : (f g : List Part → List Part) (x : Option (List Part)) → ahead f (ahead g x) ≡ ahead (λ ps. f (g ps)) x
ahead-both f g none = refl
ahead-both f g (some ps) = refl

mutual
  cut_or : {n : ℕ} {s t : Bytes} {e : Expression} (x : Or n s t e) → EndsOperand t → parts_behind zero s ≡ ahead (or_cut x) (parts_behind zero t)
  cut_or (or_one x) c = cut-and x c
  cut_or {t = t} (or_more x a y) c =
      cut_or x (ends-operand or_sign (λ y. refl) (λ y. refl) a) ∙ ap (ahead (or_cut x)) (part_cut a (and-head y) ∙ ap (first (sign or_sign)) (cut-and y c) ∙ ahead-both (λ ps. sign or_sign ∷ ps) (and_cut y) (parts_behind zero t))
      ∙ ahead-both (or_cut x) (λ ps. sign or_sign ∷ and_cut y ps) (parts_behind zero t)

  cut-and : {n : ℕ} {s t : Bytes} {e : Expression} (x : And n s t e) → EndsOperand t → parts_behind zero s ≡ ahead (and_cut x) (parts_behind zero t)
  cut-and (and_one x) c = cut-unary x c
  cut-and {t = t} (and_more x a y) c =
      cut-and x (ends-operand and_sign (λ y. refl) (λ y. refl) a) ∙ ap (ahead (and_cut x)) (part_cut a (unary-head y) ∙ ap (first (sign and_sign)) (cut-unary y c) ∙ ahead-both (λ ps. sign and_sign ∷ ps) (unary_cut y) (parts_behind zero t))
      ∙ ahead-both (and_cut x) (λ ps. sign and_sign ∷ unary_cut y ps) (parts_behind zero t)

  cut-unary : {n : ℕ} {s t : Bytes} {e : Expression} (x : Unary n s t e) → EndsOperand t → parts_behind zero s ≡ ahead (unary_cut x) (parts_behind zero t)
  cut-unary {t = t} (unary_not a x) c = part_cut a (unary-head x) ∙ ap (first (sign not_sign)) (cut-unary x c) ∙ ahead-both (λ ps. sign not_sign ∷ ps) (unary_cut x) (parts_behind zero t)
  cut-unary {t = t} (unary_group a x b) c =
      part_cut a (or-head x) ∙ ap (first (sign open_sign)) (cut_or x (ends-operand close_sign (λ y. refl) (λ y. refl) b) ∙ ap (ahead (or_cut x)) (part_cut b c.1) ∙ ahead-both (or_cut x) (λ ps. sign close_sign ∷ ps) (parts_behind zero t))
      ∙ ahead-both (λ ps. sign open_sign ∷ ps) (λ ps. or_cut x (sign close_sign ∷ ps)) (parts_behind zero t)
  cut-unary {t = t} (unary_int {m = m} {o = o} {z = z} a b d) c =
      part_cut a (after-name b) ∙ ap (first (field_name m)) (part_cut b (int-head d) ∙ ap (first (sign (comparing o))) (part_cut d c.0) ∙ ahead-both (λ ps. sign (comparing o) ∷ ps) (λ ps. operand (int z) ∷ ps) (parts_behind zero t))
      ∙ ahead-both (λ ps. field_name m ∷ ps) (λ ps. sign (comparing o) ∷ operand (int z) ∷ ps) (parts_behind zero t)
  cut-unary {t = t} (unary_string {m = m} {o = o} {w = w} a b e d) c =
      part_cut a (after-name b) ∙ ap (first (field_name m)) (part_cut b (string-head d) ∙ ap (first (sign (comparing o))) (part_cut d c.0) ∙ ahead-both (λ ps. sign (comparing o) ∷ ps) (λ ps. operand (string w) ∷ ps) (parts_behind zero t))
      ∙ ahead-both (λ ps. field_name m ∷ ps) (λ ps. sign (comparing o) ∷ operand (string w) ∷ ps) (parts_behind zero t)

-- all of them
pub written-cut : {n : ℕ} {s : Bytes} {e : Expression} (x : Written n s e) → parts_behind zero s ≡ some (cut_of x)
written-cut x = cut_or x.expression (blanks-end x.end x.blanks) ∙ ap (ahead (or_cut x.expression)) (only-blanks x.end x.blanks)

-- "exactly one way to cut it into parts"
pub one-cut : {n m : ℕ} {s : Bytes} {e f : Expression} (x : Written n s e) (y : Written m s f) → cut_of x ≡ cut_of y
one-cut x y = some-inside (sym (written-cut x) ∙ written-cut y)

-- The places too

abbrev behind_blanks : Bytes → Bytes
behind_blanks [] = []
behind_blanks (c ∷ s) = pick (is_blank c) (behind_blanks s) (c ∷ s)

-- the next part from a place, behind blanks
abbrev NextCut : Bytes → Cut → Type 0
NextCut s c = (behind_blanks s ≡ c.begins) × (n : ℕ) × FrontIs c.begins (one_part c.part n) × (drop n c.begins ≡ c.ends)

abbrev is_one_blank : Front → Bool
is_one_blank no_part = false
is_one_blank one_blank = true
is_one_blank (one_part p n) = false

abbrev part_in : Part → Front → Part
part_in d no_part = d
part_in d one_blank = d
part_in d (one_part p n) = p

abbrev bytes_in : ℕ → Front → ℕ
bytes_in d no_part = d
bytes_in d one_blank = d
bytes_in d (one_part p n) = n

no-blank : (u : Bytes) (p : Part) (n : ℕ) → FrontIs u (one_part p n) → behind_blanks u ≡ u
no-blank [] p n h = absurd h
no-blank (c ∷ v) p n h = pick-either (λ (x : Bytes). x ≡ c ∷ v) (is_blank c) (behind_blanks v) (c ∷ v) (λ e. absurd (go e)) (λ e. refl)
  where
    clash : one_blank ≡ one_part p n → ⊥
    clash q = no_truth (ap (λ (x : Front). is_one_blank x) q)

    go : is_blank c ≡ true → ⊥
    go e = or-either (eqb c 32) (eqb c 9) e (λ k. clash (ap (λ (d : ℕ). front_of d v) (sym (eqb-true c 32 k)) ∙ h)) (λ k. clash (ap (λ (d : ℕ). front_of d v) (sym (eqb-true c 9 k)) ∙ h))

next-placed : {s t : Bytes} {p : Part} (a : PartAt s p t) → EndsPart p t → NextCut s (placed a)
next-placed (behind_blank {s = s} c e n) k = let i = next-placed n k in (pick_true (is_blank c) (behind_blanks s) (c ∷ s) e ∙ i.0, i.1, i.2, i.3)
next-placed {p = p} (at_once {w = w} t x) k = let h = spells-front x t k in (no-blank (w ++ t) p (length w) h, length w, h, drop-append_seam w t)

one-part : {p q : Part} {n m : ℕ} → one_part p n ≡ one_part q m → (p ≡ q) × (n ≡ m)
one-part {p = p} {n = n} e = (ap (λ (x : Front). part_in p x) e, ap (λ (x : Front). bytes_in n x) e)

next-once : (s : Bytes) (c d : Cut) → NextCut s c → NextCut s d → c ≡ d
next-once s c d x y =
    let b : c.begins ≡ d.begins = sym x.0 ∙ y.0 in
    let o = one-part (same c.begins d.begins (one_part c.part x.1) (one_part d.part y.1) b x.2 y.2) in
    let f : c.ends ≡ d.ends = sym x.3 ∙ (λ i. drop (o.1 i) (b i)) ∙ y.3 in
    λ i. record { part = o.0 i; begins = b i; ends = f i }
  where
    go : (v : Bytes) (x y : Front) → FrontIs v x → FrontIs v y → x ≡ y
    go [] x y h k = absurd h
    go (c ∷ v) x y h k = sym h ∙ k

    same : (u v : Bytes) (x y : Front) → u ≡ v → FrontIs u x → FrontIs v y → x ≡ y
    same u v x y e h k = go v x y (subst (λ (z : Bytes). FrontIs z x) e h) k

-- parts one after another, from a place to blanks
abbrev Chain : Bytes → List Cut → Type 0
Chain s [] = all is_blank s ≡ true
Chain s (c ∷ cs) = NextCut s c × Chain c.ends cs

blanks-behind : (s : Bytes) → all is_blank s ≡ true → behind_blanks s ≡ []
blanks-behind [] e = refl
blanks-behind (c ∷ s) e = let k = (and-eq-true_iff (is_blank c) (all is_blank s)).0 e in pick_true (is_blank c) (behind_blanks s) (c ∷ s) k.0 ∙ blanks-behind s k.1

no-next : (s : Bytes) (c : Cut) → all is_blank s ≡ true → NextCut s c → ⊥
no-next s c e x = subst (λ (u : Bytes). FrontIs u (one_part c.part x.1)) (sym x.0 ∙ blanks-behind s e) x.2

one-chain : (s : Bytes) (cs ds : List Cut) → Chain s cs → Chain s ds → cs ≡ ds
one-chain s [] [] x y = refl
one-chain s [] (d ∷ ds) x y = absurd (no-next s d x y.0)
one-chain s (c ∷ cs) [] x y = absurd (no-next s c y x.0)
one-chain s (c ∷ cs) (d ∷ ds) x y =
    let e = next-once s c d x.0 y.0 in
    λ i. e i ∷ one-chain d.ends cs ds (subst (λ (k : Cut). Chain k.ends cs) e x.1) y.1 i

mutual
  chain-or : {n : ℕ} {s t : Bytes} {e : Expression} (x : Or n s t e) → EndsOperand t → (cs : List Cut) → Chain t cs → Chain s (or_places x cs)
  chain-or (or_one x) c cs h = chain-and x c cs h
  chain-or (or_more x a y) c cs h = chain-or x (ends-operand or_sign (λ y. refl) (λ y. refl) a) (placed a ∷ and_places y cs) (next-placed a (and-head y), chain-and y c cs h)

  chain-and : {n : ℕ} {s t : Bytes} {e : Expression} (x : And n s t e) → EndsOperand t → (cs : List Cut) → Chain t cs → Chain s (and_places x cs)
  chain-and (and_one x) c cs h = chain-unary x c cs h
  chain-and (and_more x a y) c cs h = chain-and x (ends-operand and_sign (λ y. refl) (λ y. refl) a) (placed a ∷ unary_places y cs) (next-placed a (unary-head y), chain-unary y c cs h)

  chain-unary : {n : ℕ} {s t : Bytes} {e : Expression} (x : Unary n s t e) → EndsOperand t → (cs : List Cut) → Chain t cs → Chain s (unary_places x cs)
  chain-unary (unary_not a x) c cs h = (next-placed a (unary-head x), chain-unary x c cs h)
  chain-unary (unary_group a x b) c cs h = (next-placed a (or-head x), chain-or x (ends-operand close_sign (λ y. refl) (λ y. refl) b) (placed b ∷ cs) (next-placed b c.1, h))
  chain-unary (unary_int a b d) c cs h = (next-placed a (after-name b), (next-placed b (int-head d), (next-placed d c.0, h)))
  chain-unary (unary_string a b e d) c cs h = (next-placed a (after-name b), (next-placed b (string-head d), (next-placed d c.0, h)))

-- and so the places where its parts begin and end are the same
pub one-places : {n m : ℕ} {s : Bytes} {e f : Expression} (x : Written n s e) (y : Written m s f) → places_of x ≡ places_of y
one-places {s = s} x y =
    one-chain s (places_of x) (places_of y)
    (chain-or x.expression (blanks-end x.end x.blanks) [] x.blanks)
    (chain-or y.expression (blanks-end y.end y.blanks) [] y.blanks)
