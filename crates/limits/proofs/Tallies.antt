-- What is counted of a descriptor field by field is what the limits ask.
use Prim.Native.Nat.{ℕ, ◌+◌}
use native.Mathlib.Omega.{arith}
use mathlib.Core.Path.{◌≡◌, refl, sym, ap, ◌∙◌, subst}
use mathlib.Core.Bool.{Bool, true, false, ◌&&◌}
use mathlib.Core.List.{List, [], ◌∷◌, map}
use lib.Dec.{leb}
use lib.ListN.{length, length-append}
use Rattle.format.specs.Lists.{flat}
use Rattle.format.specs.Bytes.{Bytes, text, pick, same}
use Rattle.format.specs.Words.{words}
use Rattle.format.specs.Records.{Field, Record}
use Rattle.format.specs.Sets.{values_of}
use Rattle.format.specs.Rules.{listed}
use Rattle.format.specs.Limits.{typedefs, type_fields, list_words}
use Rattle.format.specs.Questions.{fits_rules}
use Rattle.format.specs.declared.Descriptor.{Descriptor}
use Rattle.format.proofs.Listing.{same_true}
use Rattle.limits.specs.Counts.{more, count_on}

-- counts with the same numbers are the same
pub counts-path : (d e : Descriptor) → d.typedefs ≡ e.typedefs → d.types ≡ e.types → d.mandatory ≡ e.mandatory → d.prohibited ≡ e.prohibited → d.allowed ≡ e.allowed → d.unique ≡ e.unique → d.singular ≡ e.singular → d.auto ≡ e.auto → d ≡ e
counts-path d e a b m p l u s o = λ i. record { typedefs = a i; types = b i; mandatory = m i; prohibited = p i; allowed = l i; unique = u i; singular = s i; auto = o i }

-- one more field of a name, and its words

pub values_one : (b : Bool) (v : Bytes) (vs : List Bytes) → length (pick b (v ∷ vs) vs) ≡ pick b 1 0 + length vs
values_one true v vs = omega arith
values_one false v vs = omega arith

listed-one : (b : Bool) (v : Bytes) (vs : List Bytes) → length (flat (map words (pick b (v ∷ vs) vs))) ≡ pick b (length (words v)) 0 + length (flat (map words vs))
listed-one true v vs = length-append (words v) (flat (map words vs))
listed-one false v vs = omega arith

-- The names differ, so the number of each name grows by its own field alone.
abbrev each : Descriptor → Bytes → Bytes → Descriptor
each d n v =
    let k : ℕ = length (words v) in
    more d (pick (same (text "%typedef") n) 1 0) (pick (same (text "%type") n) 1 0) (pick (same (text "%mandatory") n) k 0) (pick (same (text "%prohibit") n) k 0) (pick (same (text "%allowed") n) k 0) (pick (same (text "%unique") n) k 0) (pick (same (text "%singular") n) k 0) (pick (same (text "%auto") n) k 0)

by-test : {A : Type 0} (b : Bool) → (b ≡ true → A) → (b ≡ false → A) → A
by-test true h g = h refl
by-test false h g = g refl

module _ (d : Descriptor) (n v : Bytes) where
  -- a name is counted as the text that it is the same as
  pub count-named : (t : Bytes) → same t n ≡ true → count_on d n v ≡ count_on d t v
  count-named t e = ap (λ (m : Bytes). count_on d m v) (sym (same_true t n e))

  pub count-other : same (text "%typedef") n ≡ false → same (text "%type") n ≡ false → same (text "%mandatory") n ≡ false → same (text "%prohibit") n ≡ false → same (text "%allowed") n ≡ false → same (text "%unique") n ≡ false → same (text "%singular") n ≡ false → same (text "%auto") n ≡ false → count_on d n v ≡ d
  unfolding count_on
  count-other a b m p l u s o = rw (a, b, m, p, l, u, s, o)

  named : (t : Bytes) → same t n ≡ true → count_on d t v ≡ each d t v → count_on d n v ≡ each d n v
  named t e h = subst (λ (m : Bytes). count_on d m v ≡ each d m v) (same_true t n e) h

  count-each : count_on d n v ≡ each d n v
  unfolding count_on
  count-each =
      by-test (same (text "%typedef") n) (λ e. named (text "%typedef") e refl) (λ a.
      by-test (same (text "%type") n) (λ e. named (text "%type") e refl) (λ b.
      by-test (same (text "%mandatory") n) (λ e. named (text "%mandatory") e refl) (λ m.
      by-test (same (text "%prohibit") n) (λ e. named (text "%prohibit") e refl) (λ p.
      by-test (same (text "%allowed") n) (λ e. named (text "%allowed") e refl) (λ l.
      by-test (same (text "%unique") n) (λ e. named (text "%unique") e refl) (λ u.
      by-test (same (text "%singular") n) (λ e. named (text "%singular") e refl) (λ s.
      by-test (same (text "%auto") n) (λ e. named (text "%auto") e refl) (λ o.
      count-other a b m p l u s o ∙ rw (a, b, m, p, l, u, s, o) (counts-path d (more d 0 0 0 0 0 0 0 0) (omega arith) (omega arith) (omega arith) (omega arith) (omega arith) (omega arith) (omega arith) (omega arith))))))))))

-- all fields, one after another
unfoldable pub count_from : Descriptor → Record → Descriptor
count_from d [] = d
count_from d (f ∷ fs) = count_from (count_on d f.name f.value) fs

-- the numbers of fields and of words, from counts on
abbrev grown : Descriptor → Record → Descriptor
grown d r =
    more d (length (values_of (text "%typedef") r)) (length (values_of (text "%type") r)) (length (listed (text "%mandatory") r)) (length (listed (text "%prohibit") r)) (length (listed (text "%allowed") r)) (length (listed (text "%unique") r)) (length (listed (text "%singular") r)) (length (listed (text "%auto") r))

grown-on : (d : Descriptor) (f : Field) (fs : Record) → grown (each d f.name f.value) fs ≡ grown d (f ∷ fs)
grown-on d f fs =
    let n : Bytes = f.name in
    let v : Bytes = f.value in
    counts-path (grown (each d n v) fs) (grown d (f ∷ fs))
    (omega (arith, values_one (same (text "%typedef") n) v (values_of (text "%typedef") fs)))
    (omega (arith, values_one (same (text "%type") n) v (values_of (text "%type") fs)))
    (omega (arith, listed-one (same (text "%mandatory") n) v (values_of (text "%mandatory") fs)))
    (omega (arith, listed-one (same (text "%prohibit") n) v (values_of (text "%prohibit") fs)))
    (omega (arith, listed-one (same (text "%allowed") n) v (values_of (text "%allowed") fs)))
    (omega (arith, listed-one (same (text "%unique") n) v (values_of (text "%unique") fs)))
    (omega (arith, listed-one (same (text "%singular") n) v (values_of (text "%singular") fs)))
    (omega (arith, listed-one (same (text "%auto") n) v (values_of (text "%auto") fs)))

count-grown : (d : Descriptor) (r : Record) → count_from d r ≡ grown d r
unfolding count_from
count-grown d [] = counts-path d (grown d []) (omega arith) (omega arith) (omega arith) (omega arith) (omega arith) (omega arith) (omega arith) (omega arith)
count-grown d (f ∷ fs) = count-grown (count_on d f.name f.value) fs ∙ ap (λ (c : Descriptor). grown c fs) (count-each d f.name f.value) ∙ grown-on d f fs

-- what `Descriptor::fits` asks of counts
abbrev pub fits_counts : Descriptor → Bool
fits_counts d = leb d.typedefs typedefs && leb d.types type_fields && leb d.mandatory list_words && leb d.prohibited list_words && leb d.allowed list_words && leb d.unique list_words && leb d.singular list_words && leb d.auto list_words

abbrev pub no_counts : Descriptor
no_counts = record { typedefs = 0; types = 0; mandatory = 0; prohibited = 0; allowed = 0; unique = 0; singular = 0; auto = 0 }

pub rules-counts : (r : Record) → fits_rules r ≡ fits_counts (count_from no_counts r)
rules-counts r =
    let a : length (values_of (text "%typedef") r) ≡ 0 + length (values_of (text "%typedef") r) = omega arith in
    let b : length (values_of (text "%type") r) ≡ 0 + length (values_of (text "%type") r) = omega arith in
    let m : length (listed (text "%mandatory") r) ≡ 0 + length (listed (text "%mandatory") r) = omega arith in
    let p : length (listed (text "%prohibit") r) ≡ 0 + length (listed (text "%prohibit") r) = omega arith in
    let l : length (listed (text "%allowed") r) ≡ 0 + length (listed (text "%allowed") r) = omega arith in
    let u : length (listed (text "%unique") r) ≡ 0 + length (listed (text "%unique") r) = omega arith in
    let s : length (listed (text "%singular") r) ≡ 0 + length (listed (text "%singular") r) = omega arith in
    let o : length (listed (text "%auto") r) ≡ 0 + length (listed (text "%auto") r) = omega arith in
    (λ i. leb (a i) typedefs && leb (b i) type_fields && leb (m i) list_words && leb (p i) list_words && leb (l i) list_words && leb (u i) list_words && leb (s i) list_words && leb (o i) list_words)
    ∙ sym (ap fits_counts (count-grown no_counts r))

-- the cut of a walk over a descriptor's fields
pub count-end : (d : Descriptor) → count_from d [] ≡ d
unfolding count_from
count-end d = refl

pub count-on : (d : Descriptor) (f : Field) (fs : Record) → count_from d (f ∷ fs) ≡ count_from (count_on d f.name f.value) fs
unfolding count_from
count-on d f fs = refl
