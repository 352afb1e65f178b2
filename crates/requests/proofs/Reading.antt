-- What follows from the next field: a text of a tag, a number of two bytes, the end.
use Rattle.std.specs.Prelude.{Some, None}
use Prim.Native.Nat.{ℕ, ◌+◌, ◌-◌, ◌*◌, ◌≤◌, ◌<◌}
use native.Mathlib.Nat.{add-zero}
use native.Mathlib.Omega.{arith}
use mathlib.Core.Path.{◌≡◌, refl, sym, ap, ◌∙◌, subst}
use mathlib.Core.Bool.{Bool}
use mathlib.Core.List.{List, [], ◌∷◌}
use mathlib.Core.Option.{Option, none, some}
use lib.Dec.{eqb}
use lib.ListN.{length, drop, get_or, length-take, length-drop}
use lib.Seq.{get_or-take, get_or-drop}
use borrow.Author.Tests.{eq-eqb, ne_eqb}
use Rattle.format.specs.Lists.{onward}
use Rattle.format.specs.Bytes.{Bytes, pick}
use Rattle.format.specs.Requests.{Tagged, short_at, with_text, with_number, ends}
use Rattle.format.specs.Edits.{Change, Act, Edit}
use Rattle.words.specs.declared.Span.{Span}
use Rattle.words.specs.Spans.{span}
use Rattle.requests.specs.declared.fields.Tagged.{Tagged as Read}
use Rattle.requests.specs.Fields.{bytes_of, InSpan, fields_from, in_front, FieldAt, NoText, TextAt, NumberAt, in_field, PlaceAt}
use Rattle.requests.proofs.Tagging.{Ample, fields-ample, fields-end}

-- the bytes of a part
pub span-length : (s : Bytes) (p : Span) → InSpan s p → length (bytes_of s p) ≡ p.end - p.start
span-length s p h = simp (length-take, length-drop) (omega arith)

span-byte : (s : Bytes) (p : Span) (j : ℕ) → j < p.end - p.start → get_or (bytes_of s p) j 0 ≡ get_or s (p.start + j) 0
span-byte s p j h = get_or-take (p.end - p.start) (drop p.start s) j 0 h ∙ get_or-drop p.start s j 0

pub span-first : (s : Bytes) (p : Span) → 0 < p.end - p.start → get_or (bytes_of s p) 0 0 ≡ get_or s p.start 0
span-first s p h = span-byte s p 0 h ∙ ap (λ (k : ℕ). get_or s k 0) (add-zero p.start)

-- nothing follows from nothing
pub onward-none : {A B : Type 0} (x : Option A) → onward {A = A} {B = B} (λ (a : A). none) x ≡ none
onward-none none = refl
onward-none (some a) = refl

module _ {A : Type 0} (t : ℕ) (f : Bytes → List Tagged → Option A) where
  pub text-then : (c : Bytes) (x : Option (List Tagged)) → onward (with_text t f) (in_front t c x) ≡ onward (f c) x
  text-then c none = refl
  text-then c (some fs) = ap (λ (b : Bool). pick b (f c fs) none) (eq-eqb t t refl)

  pub text-none : (x : Option (List Tagged)) → NoText t x → onward (with_text t f) x ≡ none
  text-none none h = refl
  text-none (some []) h = refl
  text-none (some (g ∷ fs)) h = ap (λ (b : Bool). pick b (f g.contents fs) none) h

-- a number of two bytes
module _ (t : ℕ) (f : ℕ → List Tagged → Option Edit) where
  abbrev read : Bytes → List Tagged → Option Edit
  read c gs = pick (eqb (length c) 2) (f (short_at c) gs) none

  abbrev numbered : Bytes → Option (List Tagged) → Bool → Option Edit
  numbered c x b = onward (λ (gs : List Tagged). pick b (f (short_at c) gs) none) x

  module _ (c : Bytes) (x : Option (List Tagged)) where
    number-then : length c ≡ 2 → onward (with_number t f) (in_front t c x) ≡ onward (f (short_at c)) x
    number-then e = text-then t read c x ∙ ap (numbered c x) (eq-eqb (length c) 2 e)

    number-none : (length c ≡ 2 → ⊥) → onward (with_number t f) (in_front t c x) ≡ none
    number-none e = text-then t read c x ∙ ap (numbered c x) (ne_eqb (length c) 2 e) ∙ onward-none x

-- nothing stands behind the last field
pub ends-here : {A : Type 0} (q : A) (s : Bytes) (i : ℕ) → length s ≤ i → onward (ends q) (fields_from s i) ≡ some q
ends-here q s i h = ap (onward (ends q)) (fields-end s i h)

pub ends_more : {A : Type 0} (q : A) (s : Bytes) (i : ℕ) → i < length s → onward (ends q) (fields_from s i) ≡ none
ends_more q s i h = go (fields_from s i) (fields-ample s i h)
  where
    go : (x : Option (List Tagged)) → Ample x → onward (ends q) x ≡ none
    go none a = refl
    go (some []) a = absurd a
    go (some (f ∷ fs)) a = refl

-- A field that was read is a text of its tag, and of no other.
module _ (s : Bytes) (i tag : ℕ) where
  pub no_field : (r : Read) → FieldAt s i r → ((t a b : ℕ) → r ≡ Read.At t a b → ⊥) → NoText tag (fields_from s i)
  no_field (Read.At t a b) h k = absurd (k t a b refl)
  no_field Read.End h k = subst (NoText tag) (sym h.0) tt
  no_field Read.Fault h k = subst (NoText tag) (sym h.0) tt

  pub other_tag : (t a b : ℕ) → FieldAt s i (Read.At t a b) → (t ≡ tag → ⊥) → NoText tag (fields_from s i)
  other_tag t a b h e = subst (NoText tag) (sym h.0) (go (fields_from s b))
    where
      go : (x : Option (List Tagged)) → NoText tag (in_front t (span a b s) x)
      go none = tt
      go (some fs) = ne_eqb tag t (λ q. e (sym q))

  pub same_tag : (t a b : ℕ) → FieldAt s i (Read.At t a b) → t ≡ tag → TextAt s i tag (Some (record { start = a; end = b }))
  same_tag t a b h e = (h.0 ∙ ap (λ (x : ℕ). in_front x (span a b s) (fields_from s b)) e, h.1, (h.2, h.3))

  -- and the number that it is
  pub no_number : NoText tag (fields_from s i) → NumberAt s i tag None
  no_number h f = text-none tag (read tag f) (fields_from s i) h

  module _ (p : Span) (h : TextAt s i tag (Some p)) where
    pub wrong-number : (p.end - p.start ≡ 2 → ⊥) → NumberAt s i tag None
    wrong-number e f = ap (onward (with_number tag f)) h.0 ∙ number-none tag f (bytes_of s p) (fields_from s p.end) (λ q. e (sym (span-length s p h.2) ∙ q))

    pub right-number : p.end - p.start ≡ 2 → NumberAt s i tag (Some (record { value = get_or s p.start 0 * 256 + get_or s (p.start + 1) 0; next = p.end }))
    right-number e =
        let c : Bytes = bytes_of s p in
        let high : get_or c 0 0 ≡ get_or s p.start 0 = span-first s p (omega arith) in
        let low : get_or c 1 0 ≡ get_or s (p.start + 1) 0 = span-byte s p 1 (omega arith) in
        let q : short_at c ≡ get_or s p.start 0 * 256 + get_or s (p.start + 1) 0 = cc in
        (λ f. ap (onward (with_number tag f)) h.0 ∙ number-then tag f c (fields_from s p.end) (span-length s p h.2 ∙ e) ∙ ap (λ (n : ℕ). onward (f n) (fields_from s p.end)) q, h.2.1)

-- what follows from what follows
pub onward-onward : {A B C : Type 0} (g : B → Option C) (f : A → Option B) (x : Option A) → onward (λ (a : A). onward g (f a)) x ≡ onward g (onward f x)
onward-onward g f none = refl
onward-onward g f (some a) = refl

-- The place of a field: a record, a name, an occurrence.
module _ (s : Bytes) (i : ℕ) where
  abbrev Then : Type 0
  Then = List Tagged → Option Change

  abbrev made : ℕ → Bytes → ℕ → Change → Option Edit
  made r n o c = some (Edit.on r (Act.change n o c))

  abbrev after_place : Then → ℕ → Bytes → ℕ → List Tagged → Option Edit
  after_place f r n o gs = in_field r n o (f gs)

  abbrev after_name : Then → ℕ → Bytes → List Tagged → Option Edit
  after_name f r n = with_number 5 (after_place f r n)

  abbrev after_row : Then → ℕ → List Tagged → Option Edit
  after_row f r = with_text 4 (after_name f r)

  pub no_row : NumberAt s i 3 None → PlaceAt s i None
  no_row h f = h (after_row f)

  module _ (r j : ℕ) (h : NumberAt s i 3 (Some (record { value = r; next = j }))) where
    pub no-place-name : NoText 4 (fields_from s j) → PlaceAt s i None
    no-place-name k f = h.0 (after_row f) ∙ text-none 4 (after_name f r) (fields_from s j) k

    module _ (p : Span) (k : TextAt s j 4 (Some p)) where
      to-name : (f : Then) → onward (after_row f r) (fields_from s j) ≡ onward (after_name f r (bytes_of s p)) (fields_from s p.end)
      to-name f = ap (onward (after_row f r)) k.0 ∙ text-then 4 (after_name f r) (bytes_of s p) (fields_from s p.end)

      pub no-occurrence : NumberAt s p.end 5 None → PlaceAt s i None
      no-occurrence m f = h.0 (after_row f) ∙ to-name f ∙ m (after_place f r (bytes_of s p))

      pub whole-place : (o e : ℕ) → NumberAt s p.end 5 (Some (record { value = o; next = e })) → PlaceAt s i (Some (record { row = r; name = p; occurrence = o; next = e }))
      whole-place o e m = (
        λ f. h.0 (after_row f) ∙ to-name f ∙ m.0 (after_place f r (bytes_of s p)) ∙ onward-onward (made r (bytes_of s p) o) f (fields_from s e),
        k.2,
        m.1,
      )
