-- A type by its first word, and what a reader tells by each case.
use Rattle.numbers.specs.declared.Whole.{Whole}
use Rattle.std.specs.Prelude.{Option as Maybe, Some, None}
use Prim.Native.Nat.{ℕ, ◌+◌, ◌≤◌}
use mathlib.Core.Path.{◌≡◌, refl, sym, ap, ◌∙◌, subst}
use mathlib.Core.Bool.{Bool, true, false}
use mathlib.Core.List.{List, [], ◌∷◌}
use mathlib.Core.Option.{Option, none, some}
use native.Mathlib.Nat.{add-sub_cancel_left}
use native.Mathlib.Omega.{arith}
use lib.ListN.{length, drop, length-drop}
use lib.Seq.{drop-drop}
use Rattle.format.specs.Lists.{onward, front, behind}
use Rattle.format.specs.Bytes.{Bytes, text, pick, same}
use Rattle.format.specs.Words.{is_gap, words}
use Rattle.format.specs.Numbers.{int_bounds}
use Rattle.format.specs.Types.{Kind, Typed, bare, ranged, range_of, size_of, alias_of, plain_kind, uncomment, before_comment, enum_in, type_of}
use Rattle.lines.proofs.Cuts.{rest}
use Rattle.lines.specs.Line.{run}
use Rattle.words.specs.Spans.{span}
use Rattle.words.proofs.Finding.{run-le, front-run, behind-run}
use Rattle.numbers.specs.Meaning.{int_answer}
use Rattle.typing.specs.Meaning.{typed_in, type_answer, Sound, SoundType, Told, head_of, range_in}
use Rattle.typing.specs.Symbols.{symbols_of, is_enum}
use Rattle.typing.specs.declared.Shape.{Shape}
use Rattle.typing.specs.declared.kinds.Head.{Head}
use Rattle.typing.proofs.Comments.{enum-by, enum-read}

-- a type with nothing after it
abbrev pub alone : Typed → List Bytes → Option Typed
alone t [] = some t
alone t (w ∷ ws) = none

bare-alone : (k : Kind) (ws : List Bytes) → bare k ws ≡ alone (Typed.kind k) ws
bare-alone k [] = refl
bare-alone k (w ∷ ws) = refl

-- what the first word w leads to, with the words ws after it
abbrev pub by_head : Bytes → Bytes → List Bytes → Head → Option Typed
by_head s w ws (Head.Bare k) = alone (typed_in s k) ws
by_head s w ws Head.Range = range_of int_bounds ws
by_head s w ws Head.Size = size_of int_bounds ws
by_head s w ws Head.Name = alias_of w ws

choose : {A B : Type 0} (f : A → B) (t : Bool) {a b : A} {x y : B} → x ≡ f a → y ≡ f b → pick t x y ≡ f (pick t a b)
choose f true p q = p
choose f false p q = q

pub plain-by-head : (s w : Bytes) (ws : List Bytes) → plain_kind int_bounds (w ∷ ws) ≡ by_head s w ws (head_of w)
unfolding head_of
plain-by-head s w ws =
    let f = by_head s w ws in
    choose f (same w (text "int")) (bare-alone Kind.int ws)
    (choose f (same w (text "range")) refl
    (choose f (same w (text "real")) (bare-alone Kind.real ws)
    (choose f (same w (text "line")) (bare-alone Kind.line ws)
    (choose f (same w (text "size")) refl
    (choose f (same w (text "bool")) (bare-alone Kind.bool ws)
    (choose f (same w (text "field")) (bare-alone Kind.field ws)
    (choose f (same w (text "uuid")) (bare-alone Kind.uuid ws) refl)))))))

-- a shape that a word alone says holds no places
abbrev SoundHead : Bytes → Head → Type 0
SoundHead s (Head.Bare k) = Sound s k
SoundHead s Head.Range = Unit {0}
SoundHead s Head.Size = Unit {0}
SoundHead s Head.Name = Unit {0}

pick_all : {A : Type 0} (P : A → Type 0) (t : Bool) {a b : A} → P a → P b → P (pick t a b)
pick_all P true p q = p
pick_all P false p q = q

head-sound : (s w : Bytes) → SoundHead s (head_of w)
unfolding head_of
head-sound s w =
    let P = SoundHead s in
    pick_all P (same w (text "int")) tt
    (pick_all P (same w (text "range")) tt
    (pick_all P (same w (text "real")) tt
    (pick_all P (same w (text "line")) tt
    (pick_all P (same w (text "size")) tt
    (pick_all P (same w (text "bool")) tt
    (pick_all P (same w (text "field")) tt
    (pick_all P (same w (text "uuid")) tt tt)))))))

-- what is told by each case

pub told-fault : (s : Bytes) {o : Option Typed} → o ≡ none → Told s o None
told-fault s e = record { answers = sym e; sound = tt }

pub told_same : (s : Bytes) {o p : Option Typed} {r : Maybe Shape} → p ≡ o → Told s o r → Told s p r
told_same s e t = record { answers = t.answers ∙ sym e; sound = t.sound }

range-answers : (s : Bytes) (x y : Maybe Whole) → type_answer s (range_in x y) ≡ ranged (int_answer x) (int_answer y)
range-answers s (Some a) (Some b) = refl
range-answers s (Some a) None = refl
range-answers s None y = refl

range-sound : (s : Bytes) (x y : Maybe Whole) → SoundType s (range_in x y)
range-sound s (Some a) (Some b) = tt
range-sound s (Some a) None = tt
range-sound s None y = tt

pub told-range : (s : Bytes) (x y : Maybe Whole) {o : Option Typed} {r : Maybe Shape} → r ≡ range_in x y → o ≡ ranged (int_answer x) (int_answer y) → Told s o r
told-range s x y e q = rw e (record { answers = range-answers s x y ∙ sym q; sound = range-sound s x y })

-- an enum, whose text stands behind `at`
module _ (s : Bytes) (at : ℕ) (h : at ≤ length s) where
  pub told-enum : is_enum (symbols_of (span at (length s) s)) ≡ true → Told s (onward enum_in (uncomment false (drop at s))) (Some (Shape.Enum at (length s)))
  told-enum e =
      let u = uncomment false (span at (length s) s) in
      told_same s (ap (λ (t : Bytes). onward enum_in (uncomment false t)) (sym (rest s at)))
      (record { answers = sym (enum-by u ∙ rw e); sound = (h, omega arith, enum-read u e) })

  pub told-no-enum : is_enum (symbols_of (span at (length s) s)) ≡ false → Told s (onward enum_in (uncomment false (drop at s))) None
  told-no-enum e = told-fault s (ap (λ (t : Bytes). onward enum_in (uncomment false t)) (sym (rest s at)) ∙ (enum-by (uncomment false (span at (length s) s)) ∙ rw e))

-- a shape that stands alone
pub told-bare : (s w : Bytes) (ws : List Bytes) {k : Shape} → head_of w ≡ Head.Bare k → ws ≡ [] → Told s (plain_kind int_bounds (w ∷ ws)) (Some k)
told-bare s w ws {k = k} h e =
    let a : plain_kind int_bounds (w ∷ ws) ≡ some (typed_in s k) = plain-by-head s w ws ∙ (ap (by_head s w ws) h ∙ ap (alone (typed_in s k)) e) in
    record { answers = sym a; sound = subst (SoundHead s) h (head-sound s w) }

pub told-not-bare : (s w v : Bytes) (ws vs : List Bytes) {k : Shape} → head_of w ≡ Head.Bare k → ws ≡ v ∷ vs → Told s (plain_kind int_bounds (w ∷ ws)) None
told-not-bare s w v ws vs {k = k} h e = told-fault s (plain-by-head s w ws ∙ (ap (by_head s w ws) h ∙ ap (alone (typed_in s k)) e))

pub told-by-head : (s w : Bytes) (ws : List Bytes) {h : Head} {r : Maybe Shape} → head_of w ≡ h → Told s (by_head s w ws h) r → Told s (plain_kind int_bounds (w ∷ ws)) r
told-by-head s w ws e t = told_same s (plain-by-head s w ws ∙ ap (by_head s w ws) e) t

-- the head of a type, n bytes from a on: the word `enum`, or the first word of another type
module _ (s : Bytes) (a n : ℕ) (p : a ≡ run is_gap s) (q : n ≡ run before_comment (span a (length s) s)) where
  pub head-le : a + n ≤ length s
  head-le = omega (arith, p, q ∙ ap (run before_comment) (rest s a), run-le is_gap s, run-le before_comment (drop a s), length-drop a s)

  type-by : type_of int_bounds s ≡ pick (same (span a (a + n) s) (text "enum")) (onward enum_in (uncomment false (drop (a + n) s))) (plain_kind int_bounds (words s))
  type-by =
      let l : n ≡ run before_comment (drop a s) = q ∙ ap (run before_comment) (rest s a) in
      let u : behind is_gap s ≡ drop a s = behind-run is_gap s ∙ rw p in
      let v : front before_comment (drop a s) ≡ span a (a + n) s = front-run before_comment (drop a s) ∙ rw (← l, add-sub_cancel_left) in
      let w : behind before_comment (drop a s) ≡ drop (a + n) s = behind-run before_comment (drop a s) ∙ rw (← l, drop-drop) in
      rw (u, v, w)

  pub told-enum-type : {r : Maybe Shape} → same (span a (a + n) s) (text "enum") ≡ true → Told s (onward enum_in (uncomment false (drop (a + n) s))) r → Told s (type_of int_bounds s) r
  told-enum-type h t = told_same s (type-by ∙ rw h) t

  pub told-plain-type : {r : Maybe Shape} → same (span a (a + n) s) (text "enum") ≡ false → Told s (plain_kind int_bounds (words s)) r → Told s (type_of int_bounds s) r
  told-plain-type h t = told_same s (type-by ∙ rw h) t
