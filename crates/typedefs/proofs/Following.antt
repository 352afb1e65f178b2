-- Following the targets of typedefs is following their names: a type ends in the kind that the definitions give, or in none.
use Prim.Native.Nat.{ℕ, zero, suc, ◌+◌, ◌-◌, ◌≤◌}
use native.Mathlib.Omega.{arith}
use mathlib.Core.Path.{◌≡◌, refl, sym, ap, ◌∙◌}
use mathlib.Core.Bool.{Bool, true, false}
use mathlib.Core.List.{List, [], ◌∷◌, map}
use mathlib.Core.Option.{Option, none, some}
use lib.ListN.{length, get_or}
use Rattle.format.specs.Lists.{onward}
use Rattle.format.specs.Bytes.{Bytes, pick, same, is_some}
use Rattle.format.specs.Types.{Kind, Typed, Typedef, lookup, follow, kind_of}
use Rattle.typedefs.specs.Targets.{index_from, target_by, onward as go_on, follow_of, is_end, leads}
use Rattle.typedefs.specs.declared.Target.{Target}
use Rattle.typedefs.specs.declared.Followed.{Followed}

abbrev pub type_at : List Typedef → ℕ → Option Typed
type_at [] i = none
type_at (d ∷ ds) zero = some d.type
type_at (d ∷ ds) (suc i) = type_at ds i

abbrev pub names_in : List Typedef → List Bytes
names_in ds = map (λ (d : Typedef). d.name) ds

abbrev pub targets_by : List Bytes → List Typedef → List Target
targets_by ns ds = map (λ (d : Typedef). target_by ns (some d.type)) ds

-- the kind of a type that is one
abbrev pub kind_only : Option Typed → Option Kind
kind_only none = none
kind_only (some (Typed.kind k)) = some k
kind_only (some (Typed.alias n)) = none

-- the kind that a chain ends in
abbrev pub kind_by : List Typedef → Followed → Option Kind
kind_by ds (Followed.End j) = kind_only (type_at ds j)
kind_by ds Followed.Missing = none
kind_by ds Followed.Loop = none

-- and that in which a type does that has a target
abbrev pub kind_to : List Typedef → List Target → ℕ → Option Typed → Target → Option Kind
kind_to ds ts left x Target.Kind = kind_only x
kind_to ds ts left x (Target.Alias j) = kind_by ds (follow_of left ts j)
kind_to ds ts left x Target.Missing = none

-- the target of a name is no kind
pub index-by : (P : Target → Type 0) → ((j : ℕ) → P (Target.Alias j)) → P Target.Missing → (at : ℕ) (n : Bytes) (ns : List Bytes) → P (index_from at n ns)
unfolding index_from
index-by P a m at n [] = m
index-by P a m at n (x ∷ ns) = go (same n x) (index-by P a m (at + 1) n ns)
  where
    go : (t : Bool) → P (index_from (at + 1) n ns) → P (pick t (Target.Alias at) (index_from (at + 1) n ns))
    go true h = a at
    go false h = h

-- the type of a target whose numbers begin at a number
abbrev type_from : ℕ → List Typedef → Target → Option Typed
type_from at ds Target.Kind = none
type_from at ds (Target.Alias j) = type_at ds (j - at)
type_from at ds Target.Missing = none

abbrev Least : ℕ → Target → Type 0
Least at Target.Kind = Unit {0}
Least at (Target.Alias j) = at ≤ j
Least at Target.Missing = Unit {0}

index-least : (at : ℕ) (n : Bytes) (ns : List Bytes) → Least at (index_from at n ns)
unfolding index_from
index-least at n [] = tt
index-least at n (m ∷ ns) = go (same n m) (index_from (at + 1) n ns) (index-least (at + 1) n ns)
  where
    go : (t : Bool) (x : Target) → Least (at + 1) x → Least at (pick t (Target.Alias at) x)
    go true x l = omega arith
    go false Target.Kind l = tt
    go false (Target.Alias j) l = omega arith
    go false Target.Missing l = tt

-- looking a name up is taking the type of its target
lookup-from : (at : ℕ) (n : Bytes) (ds : List Typedef) → lookup n ds ≡ type_from at ds (index_from at n (names_in ds))
unfolding index_from
lookup-from at n [] = refl
lookup-from at n (d ∷ ds) = go (same n d.name) (index_from (at + 1) n (names_in ds)) (index-least (at + 1) n (names_in ds)) (lookup-from (at + 1) n ds)
  where
    go : (t : Bool) (x : Target) → Least (at + 1) x → lookup n ds ≡ type_from (at + 1) ds x → pick t (some d.type) (lookup n ds) ≡ type_from at (d ∷ ds) (pick t (Target.Alias at) x)
    go true x l e = let z : 0 ≡ at - at = omega arith in ap (type_at (d ∷ ds)) z
    go false Target.Kind l e = e
    go false (Target.Alias j) l e = let z : suc (j - (at + 1)) ≡ j - at = omega arith in e ∙ ap (type_at (d ∷ ds)) z
    go false Target.Missing l e = e

-- the target of the typedef of a number
target-of : (ns : List Bytes) (ds : List Typedef) (i : ℕ) → get_or (targets_by ns ds) i Target.Missing ≡ target_by ns (type_at ds i)
target-of ns [] i = refl
target-of ns (d ∷ ds) zero = refl
target-of ns (d ∷ ds) (suc i) = target-of ns ds i

pub kind-stays : (m : ℕ) (ds : List Typedef) (k : Kind) → follow m ds (Typed.kind k) ≡ some k
kind-stays zero ds k = refl
kind-stays (suc m) ds k = refl

module _ (ds : List Typedef) where
  abbrev ns : List Bytes
  ns = names_in ds

  abbrev ts : List Target
  ts = targets_by ns ds

  -- one step of a chain, by the target of typedef j
  step : (left j : ℕ) (t : Target) → kind_to ds ts left (type_at ds j) t ≡ kind_by ds (go_on t j (λ i. follow_of left ts i))
  step left j Target.Kind = refl
  step left j (Target.Alias i) = refl
  step left j Target.Missing = refl

  step_in : (left j : ℕ) → kind_to ds ts left (type_at ds j) (target_by ns (type_at ds j)) ≡ kind_by ds (follow_of (suc left) ts j)
  unfolding follow_of
  step_in left j = step left j (target_by ns (type_at ds j)) ∙ ap (λ (t : Target). kind_by ds (go_on t j (λ i. follow_of left ts i))) (sym (target-of ns ds j))

  -- what a type ends in, by its target
  by-type : (left : ℕ) → ((n : Bytes) → follow left ds (Typed.alias n) ≡ kind_to ds ts left (some (Typed.alias n)) (index_from 0 n ns))
      → (x : Option Typed) → onward (follow left ds) x ≡ kind_to ds ts left x (target_by ns x)
  by-type left h none = refl
  by-type left h (some (Typed.kind k)) = kind-stays left ds k
  by-type left h (some (Typed.alias n)) = h n

  by_name : (left : ℕ) (n : Bytes) → follow left ds (Typed.alias n) ≡ kind_to ds ts left (some (Typed.alias n)) (index_from 0 n ns)
  unfolding follow_of
  by_name zero n = index-by (λ (t : Target). none ≡ kind_to ds ts zero (some (Typed.alias n)) t) (λ j. refl) refl 0 n ns
  by_name (suc left) n =
      ap (onward (follow left ds)) (lookup-from 0 n ds)
      ∙ index-by (λ (t : Target). onward (follow left ds) (type_from 0 ds t) ≡ kind_to ds ts (suc left) (some (Typed.alias n)) t)
      (λ j. let z : j - 0 ≡ j = omega arith in ap (λ (i : ℕ). onward (follow left ds) (type_at ds i)) z ∙ by-type left (λ m. by_name left m) (type_at ds j) ∙ step_in left j) refl 0 n ns

  pub follow-target : (left : ℕ) (x : Option Typed) → onward (follow left ds) x ≡ kind_to ds ts left x (target_by ns x)
  follow-target left x = by-type left (by_name left) x

  -- a chain that ends does so in a kind
  follows-end : (left j : ℕ) → is_some (kind_by ds (follow_of left ts j)) ≡ is_end (follow_of left ts j)
  unfolding follow_of
  follows-end zero j = refl
  follows-end (suc left) j =
      ap (λ (t : Target). is_some (kind_by ds (go_on t j (λ i. follow_of left ts i)))) (target-of ns ds j)
      ∙ go (type_at ds j) refl (λ i. follows-end left i)
      ∙ sym (ap (λ (t : Target). is_end (go_on t j (λ i. follow_of left ts i))) (target-of ns ds j))
    where
      go : (x : Option Typed) → type_at ds j ≡ x → ((i : ℕ) → is_some (kind_by ds (follow_of left ts i)) ≡ is_end (follow_of left ts i))
          → is_some (kind_by ds (go_on (target_by ns x) j (λ i. follow_of left ts i))) ≡ is_end (go_on (target_by ns x) j (λ i. follow_of left ts i))
      go none e ih = refl
      go (some (Typed.kind k)) e ih = ap (λ (x : Option Typed). is_some (kind_only x)) e
      go (some (Typed.alias n)) e ih = index-by (λ (t : Target). is_some (kind_by ds (go_on t j (λ i. follow_of left ts i))) ≡ is_end (go_on t j (λ i. follow_of left ts i))) ih refl 0 n ns

  -- so the definitions give a type a kind if its target ends, and only then
  pub kind-leads : length ds ≡ length ts → (x : Option Typed) → is_some (onward (kind_of ds) x) ≡ leads ts (target_by ns x)
  kind-leads e x = ap is_some (follow-target (length ds) x) ∙ go x
    where
      go : (x : Option Typed) → is_some (kind_to ds ts (length ds) x (target_by ns x)) ≡ leads ts (target_by ns x)
      go none = refl
      go (some (Typed.kind k)) = refl
      go (some (Typed.alias n)) =
          index-by (λ (t : Target). is_some (kind_to ds ts (length ds) (some (Typed.alias n)) t) ≡ leads ts t)
          (λ j. follows-end (length ds) j ∙ ap (λ (m : ℕ). is_end (follow_of m ts j)) e) refl 0 n ns
