-- The pairs of an insert: the first pair and the pairs behind it.
use Rattle.requests.specs.declared.pairs.Pair.{Pair}
use Rattle.std.specs.Prelude.{Option as Maybe, Some, None}
use Prim.Native.Nat.{ℕ, ◌≤◌}
use mathlib.Core.Path.{◌≡◌, refl, sym, ap, ◌∙◌, subst}
use mathlib.Core.Bool.{Bool, true, false, ◌&&◌, false≢true}
use mathlib.Core.List.{List, [], ◌∷◌}
use mathlib.Core.Option.{Option, none, some}
use lib.Dec.{eqb, leb}
use lib.ListN.{length}
use borrow.Author.Tests.{leb-true, leb-false}
use Rattle.format.specs.Lists.{only_if, onward}
use Rattle.format.specs.Bytes.{Bytes, pick, is_some}
use Rattle.format.specs.Requests.{Tagged, with_text, pairs_of}
use Rattle.format.specs.Written.{Pair as Written}
use Rattle.words.specs.declared.Span.{Span}
use Rattle.requests.specs.Fields.{fields_from, NoText}
use Rattle.requests.specs.Pairs.{pairs_from, pairs_at, list_of, pair_of, onto, PairAt}
use Rattle.requests.proofs.Tagging.{Ample, fields-ample, fields-end}
use Rattle.requests.proofs.Reading.{text-none}

-- fields that do not begin with a name are no pairs
unnamed : (x : Option (List Tagged)) → Ample x → NoText 4 x → onward pairs_of x ≡ none
unnamed none a h = refl
unnamed (some []) a h = absurd a
unnamed (some (f ∷ [])) a h = refl
unnamed (some (f ∷ g ∷ fs)) a h = ap (λ (b : Bool). pick (b && eqb 6 g.tag) (onto (record { name = f.contents; value = g.contents }) (pairs_of fs)) none) h

-- from a place on
module _ (s : Bytes) (i : ℕ) where
  pairs_end : length s ≤ i → pairs_from s i ≡ some []
  pairs_end h = ap (onward pairs_of) (fields-end s i h)

  pairs-stop : NoText 4 (fields_from s i) → pairs_from s i ≡ only_if (leb (length s) i) []
  pairs-stop h = go (leb (length s) i) refl
    where
      go : (b : Bool) → leb (length s) i ≡ b → pairs_from s i ≡ only_if b []
      go true e = pairs_end (leb-true (length s) i e)
      go false e = unnamed (fields_from s i) (fields-ample s i (leb-false (length s) i e)) h

-- A pair that was read.
module _ (s : Bytes) (i : ℕ) where
  pub no_name : NoText 4 (fields_from s i) → PairAt s i None
  no_name h = (pairs-stop s i h, λ f. text-none 4 (λ (n : Bytes). with_text 6 (λ (v : Bytes). f n v)) (fields_from s i) h)

-- where the answer about a pair is known
pub pair_found : (s : Bytes) (i : ℕ) (r : Maybe Pair) (n v : Span) (k : ℕ) → PairAt s i r → r ≡ Some (record { name = n; value = v; next = k }) → PairAt s i (Some (record { name = n; value = v; next = k }))
pair_found s i r n v k h e = subst (PairAt s i) e h

pub pair-missed : (s : Bytes) (i : ℕ) (r : Maybe Pair) → PairAt s i r → r ≡ None → PairAt s i None
pair-missed s i r h e = subst (PairAt s i) e h

-- Are they pairs? They are if those behind the first are.
some-onto : (p : Written) (x : Option (List Written)) → is_some (onto p x) ≡ is_some x
some-onto p none = refl
some-onto p (some ps) = refl

some-only : (b : Bool) (none-listed : List Written) → is_some (only_if b none-listed) ≡ b
some-only true ps = refl
some-only false ps = refl

module _ (s : Bytes) (i : ℕ) where
  pub some_more : (n v : Span) (k : ℕ) → PairAt s i (Some (record { name = n; value = v; next = k })) → is_some (pairs_from s i) ≡ is_some (pairs_from s k)
  some_more n v k h = ap is_some h.0 ∙ some-onto (pair_of s n v) (pairs_from s k)

  pub some_end : PairAt s i None → is_some (pairs_from s i) ≡ leb (length s) i
  some_end h = ap is_some h.0 ∙ some-only (leb (length s) i) []

  -- and where they are, the list is that pair and those behind it
  pub list-more : (n v : Span) (k : ℕ) → PairAt s i (Some (record { name = n; value = v; next = k })) → is_some (pairs_from s i) ≡ true → pairs_at s i ≡ pair_of s n v ∷ pairs_at s k
  list-more n v k h e = ap list_of h.0 ∙ go (pairs_from s k) (sym (some_more n v k h) ∙ e)
    where
      go : (x : Option (List Written)) → is_some x ≡ true → list_of (onto (pair_of s n v) x) ≡ pair_of s n v ∷ list_of x
      go none q = absurd (false≢true q)
      go (some ps) q = refl

  pub list-end : PairAt s i None → pairs_at s i ≡ []
  list-end h = ap list_of h.0 ∙ go (leb (length s) i)
    where
      go : (b : Bool) → list_of (only_if b []) ≡ []
      go true = refl
      go false = refl
