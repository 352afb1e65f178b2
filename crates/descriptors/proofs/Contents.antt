-- What a name asks of its value: a name is one of the rows, or no row's, or does not start with `%`.
use Prim.Native.Nat.{ℕ, suc, ◌+◌, ◌≤◌, ◌<◌}
use native.Mathlib.Omega.{arith}
use mathlib.Core.Path.{◌≡◌, refl, sym, ap, ◌∙◌, subst}
use mathlib.Core.Bool.{Bool, true, false, ◌&&◌, ◌||◌, not, true≢false, or-false}
use mathlib.Core.List.{List, [], ◌∷◌, map}
use lib.ListN.{length, get_or}
use Rattle.format.specs.Lines.{is_name, is_special}
use Rattle.format.specs.Bytes.{Bytes, text, any, same, pick}
use Rattle.format.specs.Numbers.{int_bounds}
use Rattle.format.specs.Rules.{Shape, shapes}
use Rattle.format.proofs.Elements.{Each}
use Rattle.format.proofs.Listing.{same_true}
use Rattle.words.specs.RuleNames.{place_in, rule_names}
use Rattle.words.proofs.RuleNames.{is-placed, not-placed}
use Rattle.descriptors.specs.Contents.{listable, holds, asks_name, asks_size, Asks}
use Rattle.descriptors.specs.declared.shapes.Content.{Content}
use Rattle.descriptors.specs.contracts.shapes.Content.{the_type}
use denote.Enum.Bare.{sameb}

-- a word in a list of names
pub listable-not : (b : Bool) (w : Bytes) → is_name w ≡ false → listable b w ≡ false
listable-not true w e = e
listable-not false w e = ap (λ (x : Bool). x && not (is_special w)) e

pub listable-name : (b : Bool) (w : Bytes) → is_name w ≡ true → listable b w ≡ (b || not (is_special w))
listable-name true w e = e
listable-name false w e = ap (λ (x : Bool). x && not (is_special w)) e

-- the rows
pub rec-asks : Asks (text "%rec") Content.TypeName
rec-asks = record { shaped = λ v k. or-false (holds Content.TypeName v); key = refl; size = refl }

pub doc-asks : Asks (text "%doc") Content.Free
doc-asks = record { shaped = λ v k. refl; key = refl; size = refl }

pub mandatory-asks : Asks (text "%mandatory") Content.Names
mandatory-asks = record { shaped = λ v k. or-false (holds Content.Names v); key = refl; size = refl }

pub prohibit-asks : Asks (text "%prohibit") Content.Names
prohibit-asks = record { shaped = λ v k. or-false (holds Content.Names v); key = refl; size = refl }

pub allowed-asks : Asks (text "%allowed") Content.Names
allowed-asks = record { shaped = λ v k. or-false (holds Content.Names v); key = refl; size = refl }

pub unique-asks : Asks (text "%unique") Content.Names
unique-asks = record { shaped = λ v k. or-false (holds Content.Names v); key = refl; size = refl }

pub key-asks : Asks (text "%key") Content.Name
key-asks = record { shaped = λ v k. or-false (holds Content.Name v); key = refl; size = refl }

pub size-asks : Asks (text "%size") Content.Size
size-asks = record { shaped = λ v k. or-false (holds Content.Size v); key = refl; size = refl }

pub typedef-asks : Asks (text "%typedef") Content.Free
typedef-asks = record { shaped = λ v k. refl; key = refl; size = refl }

pub type-asks : Asks (text "%type") Content.Free
type-asks = record { shaped = λ v k. refl; key = refl; size = refl }

pub singular-asks : Asks (text "%singular") Content.Names
singular-asks = record { shaped = λ v k. or-false (holds Content.Names v); key = refl; size = refl }

pub auto-asks : Asks (text "%auto") Content.Ordinary
auto-asks = record { shaped = λ v k. or-false (holds Content.Ordinary v); key = refl; size = refl }

-- a name that has the place of one of them
pub asks_at : (n m : Bytes) (c : Content) (r k : ℕ) → r ≡ place_in n rule_names → get_or rule_names k [] ≡ m → k < length rule_names → same m m ≡ true → Asks m c → r ≡ k → Asks n c
asks_at n m c r k e f h s a q = subst (λ (x : Bytes). Asks x c) (same_true m n (is-placed n m rule_names r k e f h s q)) a

-- one that has none of their places
pub above : (r k : ℕ) → k ≤ r → (r ≡ k → ⊥) → k + 1 ≤ r
above r k h e = omega (arith, h, e)

rows-passed : (n : Bytes) (xs : List Shape) → length xs ≤ place_in n (map (λ (x : Shape). x.name) xs) → Each (λ (x : Shape). same n x.name ≡ false) xs
rows-passed n [] h = tt
rows-passed n (x ∷ xs) h = go (same n x.name) refl (λ g. rows-passed n xs g) h
  where
    go : (b : Bool) → same n x.name ≡ b → (length xs ≤ place_in n (map (λ (y : Shape). y.name) xs) → Each (λ (y : Shape). same n y.name ≡ false) xs) → suc (length xs) ≤ pick b 0 (suc (place_in n (map (λ (y : Shape). y.name) xs))) → Each (λ (y : Shape). same n y.name ≡ false) (x ∷ xs)
    go true q ih g = absurd (omega (arith, g))
    go false q ih g = (q, ih (omega (arith, g)))

no_row : (n v : Bytes) (xs : List Shape) → Each (λ (x : Shape). same n x.name ≡ false) xs → any (λ (x : Shape). same n x.name && x.fits v) xs ≡ false
no_row n v [] h = refl
no_row n v (x ∷ xs) h = ap (λ (b : Bool). (b && x.fits v) || any (λ (y : Shape). same n y.name && y.fits v) xs) h.0 ∙ no_row n v xs h.1

pub asks_none : (n : Bytes) (r : ℕ) → is_special n ≡ true → r ≡ place_in n rule_names → length rule_names ≤ r → Asks n Content.Fault
asks_none n r s e h =
    record {
      shaped =
          λ v k.
          ap (λ (b : Bool). not b || any (λ (x : Shape). same n x.name && x.fits v) (shapes int_bounds)) s
          ∙ no_row n v (shapes int_bounds) (rows-passed n (shapes int_bounds) (omega (arith, e, h)));
      key = not-placed n (text "%key") rule_names r 6 e refl (λ q. omega (arith, h, q));
      size = not-placed n (text "%size") rule_names r 7 e refl (λ q. omega (arith, h, q));
    }

-- one that does not start with `%`
not-special : (m n : Bytes) → is_special m ≡ true → is_special n ≡ false → same m n ≡ false
not-special m n e f = go (same m n) refl
  where
    go : (b : Bool) → same m n ≡ b → b ≡ false
    go false q = refl
    go true q = sym e ∙ ap is_special (same_true m n q) ∙ f

pub asks-plain : (n : Bytes) → is_special n ≡ false → Asks n Content.Free
asks-plain n e =
    record {
      shaped = λ v k. ap (λ (b : Bool). not b || any (λ (x : Shape). same n x.name && x.fits v) (shapes int_bounds)) e;
      key = not-special (text "%key") n refl e;
      size = not-special (text "%size") n refl e;
    }

-- whether one name is asked, or a size, is what `==` tells
pub name-asked : (c : Content) → sameb the_type c Content.Name ≡ asks_name c
name-asked Content.Free = refl
name-asked Content.TypeName = refl
name-asked Content.Names = refl
name-asked Content.Ordinary = refl
name-asked Content.Name = refl
name-asked Content.Size = refl
name-asked Content.Fault = refl

pub size-asked : (c : Content) → sameb the_type c Content.Size ≡ asks_size c
size-asked Content.Free = refl
size-asked Content.TypeName = refl
size-asked Content.Names = refl
size-asked Content.Ordinary = refl
size-asked Content.Name = refl
size-asked Content.Size = refl
size-asked Content.Fault = refl
