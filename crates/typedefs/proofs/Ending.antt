-- The typedef in which a type ends: it is one of the table, or the type's own.
use Prim.Native.Nat.{ℕ, zero, suc, ◌<◌}
use native.Mathlib.Omega.{arith}
use mathlib.Core.Path.{◌≡◌, refl, sym, ap, ◌∙◌, subst}
use mathlib.Core.Bool.{false}
use mathlib.Core.List.{List, [], ◌∷◌}
use denote.Enum.Declared.{tag_of}
use lib.ListN.{length, get_or}
use types.Run.{OneOf, miss}
use Rattle.typedefs.specs.Targets.{Bounded, targets_in, onward, follow_of, is_end, leads}
use Rattle.typedefs.specs.Typedefs.{row_of, row_by, end_row}
use Rattle.typedefs.specs.declared.Target.{Target}
use Rattle.typedefs.specs.declared.Targets.{Targets}
use Rattle.typedefs.specs.declared.Followed.{Followed}
use Rattle.typedefs.specs.declared.Typedef.{Typedef}
use Rattle.typedefs.specs.declared.Typedefs.{Typedefs}
use Rattle.typedefs.specs.contracts.Target.{the_type as target-type}
use Rattle.typedefs.specs.contracts.Followed.{the_type}
use Rattle.typedefs.proofs.Chains.{targets-length}

-- a chain ends in a typedef that is there
abbrev Inside : List Target → Followed → Type 0
Inside ts (Followed.End k) = k < length ts
Inside ts Followed.Missing = Unit {0}
Inside ts Followed.Loop = Unit {0}

target-inside : (ts : List Target) (i : ℕ) → get_or ts i Target.Missing ≡ Target.Kind → i < length ts
target-inside [] i e = absurd (let z : ◌≡◌ {A = ℕ} 0 1 = cc in omega arith)
target-inside (t ∷ ts) zero e = omega arith
target-inside (t ∷ ts) (suc i) e = omega (arith, target-inside ts i e)

module _ (ts : List Target) where
  ends-inside : (left i : ℕ) → Inside ts (follow_of left ts i)
  unfolding follow_of
  ends-inside zero i = tt
  ends-inside (suc left) i = go (get_or ts i Target.Missing) refl (λ j. ends-inside left j)
    where
      go : (t : Target) → get_or ts i Target.Missing ≡ t → ((j : ℕ) → Inside ts (follow_of left ts j)) → Inside ts (onward t i (λ j. follow_of left ts j))
      go Target.Kind e ih = target-inside ts i e
      go (Target.Alias j) e ih = ih j
      go Target.Missing e ih = tt

  pub end-inside : (left i k : ℕ) → follow_of left ts i ≡ Followed.End k → k < length ts
  end-inside left i k e = subst (Inside ts) e (ends-inside left i)

-- what stands at a place does not depend on what would stand behind the last
pub any-default : {A : Type 0} (l : List A) (k : ℕ) (a b : A) → k < length l → get_or l k a ≡ get_or l k b
any-default [] k a b h = absurd (omega arith)
any-default (x ∷ l) zero a b h = refl
any-default (x ∷ l) (suc k) a b h = any-default l k a b (omega arith)

-- a type that is no alias ends in itself
own-by : (r : Typedefs) (t : Typedef) (x : Target) → OneOf (0 ∷ 2 ∷ []) (tag_of target-type x) → t ≡ row_by r t x
own-by r t Target.Kind h = refl
own-by r t (Target.Alias j) h = absurd (miss (0 ∷ 2 ∷ []) 1 tt h)
own-by r t Target.Missing h = refl

open_by : (rows : List Typedef) (t : Typedef) (f : Followed) → OneOf (1 ∷ 2 ∷ []) (tag_of the_type f) → t ≡ row_of rows t f
open_by rows t (Followed.End k) h = absurd (miss (1 ∷ 2 ∷ []) 0 tt h)
open_by rows t Followed.Missing h = refl
open_by rows t Followed.Loop h = refl

module _ (r : Typedefs) (t : Typedef) where
  pub end-own : OneOf (0 ∷ 2 ∷ []) (tag_of target-type t.target) → t ≡ end_row r t
  end-own h = own-by r t t.target h

  -- f is the end of the chain that an alias begins
  module _ (j : ℕ) (e : t.target ≡ Target.Alias j) (f : Followed) (q : f ≡ follow_of r.targets.count (targets_in r.targets) j) where
    chain-row : row_of r.rows t f ≡ end_row r t
    chain-row = ap (row_of r.rows t) q ∙ ap (row_by r t) (sym e)

    pub end-open : OneOf (1 ∷ 2 ∷ []) (tag_of the_type f) → t ≡ end_row r t
    end-open h = open_by r.rows t f h ∙ chain-row

    pub end-there : (k : ℕ) → f ≡ Followed.End k → Bounded r.targets → k < r.targets.count
    end-there k g b = omega (arith, end-inside (targets_in r.targets) r.targets.count j k (sym q ∙ g), targets-length r.targets b)

    pub end_row_lem : (k : ℕ) (other : Typedef) → f ≡ Followed.End k → k < length r.rows → get_or r.rows k other ≡ end_row r t
    end_row_lem k other g l = any-default r.rows k other t l ∙ ap (row_of r.rows t) (sym g) ∙ chain-row

-- and whether it ends
pub leads-alias : (t : Targets) → Bounded t → (x : Target) (j : ℕ) (f g : Followed) → x ≡ Target.Alias j → f ≡ follow_of t.count (targets_in t) j → f ≡ g → is_end g ≡ leads (targets_in t) x
leads-alias t b x j f g e q p =
    ap is_end (sym p ∙ q) ∙ ap (λ (m : ℕ). is_end (follow_of m (targets_in t) j)) (sym (targets-length t b)) ∙ ap (leads (targets_in t)) (sym e)

pub leads-not : (t : Targets) → Bounded t → (x : Target) (j : ℕ) (f : Followed) → x ≡ Target.Alias j → f ≡ follow_of t.count (targets_in t) j → ((k : ℕ) → f ≡ Followed.End k → ⊥) → false ≡ leads (targets_in t) x
leads-not t b x j f e q n = no-end f n ∙ leads-alias t b x j f f e q refl
  where
    no-end : (g : Followed) → ((k : ℕ) → g ≡ Followed.End k → ⊥) → false ≡ is_end g
    no-end (Followed.End k) m = absurd (m k refl)
    no-end Followed.Missing m = refl
    no-end Followed.Loop m = refl
