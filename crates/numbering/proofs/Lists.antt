-- The words of the `%auto` lists from a byte of a descriptor on.
use Prim.Native.Nat.{ℕ, ◌+◌, ◌≤◌}
use native.Mathlib.Omega.{arith}
use mathlib.Core.Path.{◌≡◌, refl, sym, ap, ◌∙◌}
use mathlib.Core.Bool.{Bool, true, ◌||◌, or-true, and-eq-true_iff}
use mathlib.Core.List.{List, [], ◌∷◌, ◌++◌, map}
use borrow.Author.Tests.{leb-true, le-leb}
use lib.Dec.{leb}
use lib.ListN.{length, drop, get_or, length-append}
use Rattle.format.specs.Bytes.{Bytes, text, all, same, among}
use Rattle.format.specs.Limits.{value_bytes}
use Rattle.format.specs.Lists.{flat}
use Rattle.format.specs.Words.{words}
use Rattle.format.specs.Rules.{auto}
use Rattle.format.proofs.Elements.{all-each, each_all, each-imp}
use Rattle.format.proofs.Lines.{all_append}
use Rattle.values.specs.Value.{value_from}
use Rattle.values.proofs.Tests.{same_self}
use Rattle.records.specs.Walk.{record_in}
use Rattle.records.specs.Named.{values_from, ValueHere}
use Rattle.dictionary.specs.Known.{Described}
use Rattle.columns.proofs.Granted.{fits-at}
use Rattle.numbering.proofs.Counted.{all_placed}

abbrev pub words_from : Bytes → ℕ → List Bytes
words_from d i = flat (map words (values_from d (text "%auto") i))

abbrev fits : Bytes → Bool
fits v = leb (length v) value_bytes

-- they are among all words, and the values fit
pub record ListedFrom (d : Bytes) (i : ℕ) : Type 0 where
  pub short : all fits (values_from d (text "%auto") i) ≡ true
  pub listed : all (λ (n : Bytes). among n (auto (record_in d))) (words_from d i) ≡ true

-- each is among all
pub own-among : (ws : List Bytes) → all (λ (n : Bytes). among n ws) ws ≡ true
own-among [] = refl
own-among (w ∷ ws) =
    (and-eq-true_iff (same w w || among w ws) (all (λ (n : Bytes). among n (w ∷ ws)) ws)).1 (
      ap (λ (t : Bool). t || among w ws) (same_self w),
      each_all (λ (n : Bytes). among n (w ∷ ws)) ws
          (each-imp (λ (n : Bytes). among n ws ≡ true) (λ (n : Bytes). among n (w ∷ ws) ≡ true) (λ n e. ap (λ (t : Bool). same n w || t) e ∙ or-true (same n w)) ws (all-each (λ (n : Bytes). among n ws) ws (own-among ws))),
    )

pub listed_start : (d : Bytes) → Described d → ListedFrom d 0
listed_start d h =
    record {
      short = all_placed fits (values_from d (text "%auto") 0) (λ k l. le-leb (length (get_or (values_from d (text "%auto") 0) k [])) value_bytes (fits-at d h (text "%auto") k));
      listed = own-among (auto (record_in d));
    }

-- without a field there is no word
pub words-none : (d : Bytes) (i : ℕ) → values_from d (text "%auto") i ≡ [] → words_from d i ≡ []
words-none d i e = ap (λ (vs : List Bytes). flat (map words vs)) e

-- a field more, and a copy of its value
module _ (d : Bytes) (i v e : ℕ) (f : ValueHere d (text "%auto") i v e) (x : Bytes) (q : x ≡ value_from (drop v d)) where
  values-cut : values_from d (text "%auto") i ≡ x ∷ values_from d (text "%auto") e
  values-cut = f.values ∙ ap (λ (y : Bytes). y ∷ values_from d (text "%auto") e) (sym (q ∙ f.ends-itself))

  pub words-cut : words_from d i ≡ words x ++ words_from d e
  words-cut = ap (λ (vs : List Bytes). flat (map words vs)) values-cut

  pub words-room : (p : ℕ) → p + length (words_from d i) ≤ 64 → p + length (words x) ≤ 64
  words-room p h = omega (arith, h, ap length words-cut, length-append (words x) (words_from d e))

  module _ (l : ListedFrom d i) where
    two : (fits x ≡ true) × (all fits (values_from d (text "%auto") e) ≡ true)
    two = (and-eq-true_iff (fits x) (all fits (values_from d (text "%auto") e))).0 (sym (ap (all fits) values-cut) ∙ l.short)

    both : (all (λ (n : Bytes). among n (auto (record_in d))) (words x) ≡ true) × (all (λ (n : Bytes). among n (auto (record_in d))) (words_from d e) ≡ true)
    both =
        let p : Bytes → Bool = λ (n : Bytes). among n (auto (record_in d)) in
        (and-eq-true_iff (all p (words x)) (all p (words_from d e))).0 (sym (ap (all p) words-cut ∙ all_append p (words x) (words_from d e)) ∙ l.listed)

    pub listed-fits : length x ≤ 4096
    listed-fits = leb-true (length x) 4096 two.0

    pub listed_here : all (λ (n : Bytes). among n (auto (record_in d))) (words x) ≡ true
    listed_here = both.0

    pub listed-on : ListedFrom d e
    listed-on = record { short = two.1; listed = both.1 }
