-- The words that the fields of a name list, from a byte of a descriptor on.
use Prim.Native.Nat.{ℕ, ◌≤◌}
use native.Mathlib.Omega.{arith}
use mathlib.Core.Path.{◌≡◌, refl, sym, ap, ◌∙◌}
use mathlib.Core.Bool.{Bool, true, ◌&&◌, and-eq-true_iff, or-false, false≢true}
use mathlib.Core.List.{List, [], ◌∷◌, ◌++◌, map}
use borrow.Author.Tests.{leb-true, le-leb}
use lib.Dec.{leb}
use lib.ListN.{length, drop, get_or}
use Rattle.format.specs.Bytes.{Bytes, text, all}
use Rattle.format.specs.Lines.{is_name}
use Rattle.format.specs.Limits.{value_bytes}
use Rattle.format.specs.Lists.{flat}
use Rattle.format.specs.Words.{words}
use Rattle.format.specs.Records.{Record}
use Rattle.format.specs.Sets.{values_of}
use Rattle.format.specs.Numbers.{int_bounds}
use Rattle.format.specs.Rules.{one, several, is_shaped}
use Rattle.format.proofs.Listing.{listed-all}
use Rattle.values.specs.Value.{value_from}
use Rattle.records.specs.Named.{values_from, ValueHere}
use Rattle.records.specs.Walk.{record_in}
use Rattle.dictionary.specs.Known.{Described}
use Rattle.dictionary.specs.Numbered.{Lists}
use Rattle.dictionary.proofs.Typing.{all-shaped}
use Rattle.dictionary.proofs.Counting.{key-length}
use Rattle.columns.proofs.Granted.{fits-at}
use Rattle.numbering.proofs.Counted.{all_placed}

abbrev pub words_from : Bytes → Bytes → ℕ → List Bytes
words_from d n i = flat (map words (values_from d n i))

abbrev fits : Bytes → Bool
fits v = leb (length v) value_bytes

-- their values fit
abbrev pub ShortFrom : Bytes → Bytes → ℕ → Type 0
ShortFrom d n i = all fits (values_from d n i) ≡ true

pub short-start : (d n : Bytes) → Described d → ShortFrom d n 0
short-start d n h = all_placed fits (values_from d n 0) (λ k l. le-leb (length (get_or (values_from d n 0) k [])) value_bytes (fits-at d h n k))

-- without a field there is no word
pub words-none : (d n : Bytes) (i : ℕ) → values_from d n i ≡ [] → words_from d n i ≡ []
words-none d n i e = ap (λ (vs : List Bytes). flat (map words vs)) e

-- a field more, and a copy of its value
module _ (d n : Bytes) (i v e : ℕ) (f : ValueHere d n i v e) (x : Bytes) (q : x ≡ value_from (drop v d)) where
  values-cut : values_from d n i ≡ x ∷ values_from d n e
  values-cut = f.values ∙ ap (λ (y : Bytes). y ∷ values_from d n e) (sym (q ∙ f.ends-itself))

  pub words-cut : words_from d n i ≡ words x ++ words_from d n e
  words-cut = ap (λ (vs : List Bytes). flat (map words vs)) values-cut

  two : ShortFrom d n i → (fits x ≡ true) × (all fits (values_from d n e) ≡ true)
  two h = (and-eq-true_iff (fits x) (all fits (values_from d n e))).0 (sym (ap (all fits) values-cut) ∙ h)

  pub short-here : ShortFrom d n i → length x ≤ value_bytes
  short-here h = leb-true (length x) value_bytes (two h).0

  pub short_on : ShortFrom d n i → ShortFrom d n e
  short_on h = (two h).1

-- The key is listed at most once, and it is a name.

one-several : (p : Bytes → Bool) (ws : List Bytes) → one p ws ≡ true → several p ws ≡ true
one-several p [] e = e
one-several p (w ∷ []) e = (and-eq-true_iff (p w) true).1 (e, refl)
one-several p (w ∷ v ∷ ws) e = absurd (false≢true e)

pub key-lists : (d : Bytes) → Described d → Lists (text "%key") (record_in d)
key-lists d h =
    let rules : Record = record_in d in
    let k : Bool = leb (length (values_of (text "%key") rules)) 1 in
    let z : Bool = leb (length (values_of (text "%size") rules)) 1 in
    let once : length (values_of (text "%key") rules) ≤ 1 = leb-true (length (values_of (text "%key") rules)) 1 ((and-eq-true_iff (all (is_shaped int_bounds) rules) k).0 ((and-eq-true_iff (all (is_shaped int_bounds) rules && k) z).0 h.well).0).1 in
    record {
      few = omega (arith, key-length rules (all-shaped d h), once);
      names = listed-all int_bounds (text "%key") is_name (λ v n e. one-several is_name (words v) (sym (or-false (one is_name (words v))) ∙ e)) rules (all-shaped d h);
    }
