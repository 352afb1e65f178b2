-- The question of the typedefs, by the code's numbers: the names are good, and every chain ends. Where some typedef has no type, neither side holds;
-- where all have one, the definitions' typedefs are those of the values, one by one.
use Prim.Native.Nat.{ℕ, suc}
use native.Mathlib.Omega.{arith}
use mathlib.Core.Path.{◌≡◌, refl, sym, ap, ap₂, ◌∙◌}
use mathlib.Core.Bool.{Bool, true, false, ◌&&◌, and-false}
use mathlib.Core.List.{List, [], ◌∷◌, map}
use mathlib.Core.Option
use mathlib.Core.Option.{Option, none, some}
use lib.ListN.{length}
use Rattle.format.specs.Lists.{onward, keep, kept}
use Rattle.format.specs.Bytes.{Bytes, all, is_some}
use Rattle.format.specs.Words.{first_word, after_word}
use Rattle.format.specs.Numbers.{int_bounds}
use Rattle.format.specs.Types.{Typed, Typedef, type_of, kind_of}
use Rattle.format.specs.Rules.{typedef_of, end_kind, is_typedef_name, distinct}
use Rattle.typedefs.specs.Targets.{target_by, target_in, leads, are_defined}
use Rattle.typedefs.specs.declared.Target.{Target}
use Rattle.typedefs.proofs.Following.{names_in, targets_by, kind_to, follow-target, kind-leads}

-- four tests in another order
pub swap : (a b p q : Bool) → ((a && b) && (p && q)) ≡ ((a && p) && (b && q))
swap true true p q = refl
swap true false true q = refl
swap true false false q = refl
swap false b p q = refl

-- has a value a type
abbrev pub is_typed : Bytes → Bool
is_typed v = is_some (type_of int_bounds (after_word v))

abbrev pub defs_of : List Bytes → List Typedef
defs_of vs = kept (typedef_of int_bounds) vs

-- values that all have a type, cut at the first
pub record Cut (v : Bytes) (vs : List Bytes) : Type 0 where
  pub type : Typed
  pub is : type_of int_bounds (after_word v) ≡ some type
  pub others : all is_typed vs ≡ true
  pub defs : defs_of (v ∷ vs) ≡ record { name = first_word v; type = type } ∷ defs_of vs

pub cut-typed : (v : Bytes) (vs : List Bytes) → all is_typed (v ∷ vs) ≡ true → Cut v vs
cut-typed v vs h = go (type_of int_bounds (after_word v)) refl
  where
    go : (x : Option Typed) → type_of int_bounds (after_word v) ≡ x → Cut v vs
    go none e = absurd (let q : (is_some {A = Typed} none && all is_typed vs) ≡ true = sym (ap (λ (x : Option Typed). is_some x && all is_typed vs) e) ∙ h in let z : ◌≡◌ {A = ℕ} 0 1 = cc in omega arith)
    go (some t) e =
        record {
          type = t;
          is = e;
          others = sym (ap (λ (x : Option Typed). is_some x && all is_typed vs) e) ∙ h;
          defs = ap (λ (x : Option Typed). keep (Option.map (λ (u : Typed). record { name = first_word v; type = u }) x) (defs_of vs)) e;
        }

pub names-defs : (vs : List Bytes) → all is_typed vs ≡ true → names_in (defs_of vs) ≡ map first_word vs
names-defs [] h = refl
names-defs (v ∷ vs) h = let c = cut-typed v vs h in ap names_in c.defs ∙ ap (λ (ns : List Bytes). first_word v ∷ ns) (names-defs vs c.others)

pub targets-defs : (ns vs : List Bytes) → all is_typed vs ≡ true → targets_by ns (defs_of vs) ≡ map (target_in ns) vs
targets-defs ns [] h = refl
targets-defs ns (v ∷ vs) h =
    let c = cut-typed v vs h in
    ap (targets_by ns) c.defs ∙ ap (λ (x : Option Typed). target_by ns x ∷ targets_by ns (defs_of vs)) (sym c.is)
    ∙ ap (λ (ts : List Target). target_in ns v ∷ ts) (targets-defs ns vs c.others)

length-targets : (ns : List Bytes) (ds : List Typedef) → length ds ≡ length (targets_by ns ds)
length-targets ns [] = refl
length-targets ns (d ∷ ds) = ap suc (length-targets ns ds)

-- some one has none
untyped-left : (ds : List Typedef) (ws : List Bytes) → all is_typed ws ≡ false → all (λ (v : Bytes). is_some (end_kind int_bounds ds v)) ws ≡ false
untyped-left ds [] h = h
untyped-left ds (w ∷ ws) h = go (type_of int_bounds (after_word w)) h (λ q. untyped-left ds ws q)
  where
    go : (x : Option Typed) → (is_some x && all is_typed ws) ≡ false → (all is_typed ws ≡ false → all (λ (v : Bytes). is_some (end_kind int_bounds ds v)) ws ≡ false)
        → (is_some (onward (kind_of ds) x) && all (λ (v : Bytes). is_some (end_kind int_bounds ds v)) ws) ≡ false
    go none q ih = refl
    go (some t) q ih = ap (λ (b : Bool). is_some (kind_of ds t) && b) (ih q) ∙ and-false (is_some (kind_of ds t))

untyped-right : (ns : List Bytes) (ts : List Target) (ws : List Bytes) → all is_typed ws ≡ false → all (leads ts) (map (target_in ns) ws) ≡ false
untyped-right ns ts [] h = h
untyped-right ns ts (w ∷ ws) h = go (type_of int_bounds (after_word w)) h (λ q. untyped-right ns ts ws q)
  where
    go : (x : Option Typed) → (is_some x && all is_typed ws) ≡ false → (all is_typed ws ≡ false → all (leads ts) (map (target_in ns) ws) ≡ false)
        → (leads ts (target_by ns x) && all (leads ts) (map (target_in ns) ws)) ≡ false
    go none q ih = refl
    go (some t) q ih = ap (λ (b : Bool). leads ts (target_by ns (some t)) && b) (ih q) ∙ and-false (leads ts (target_by ns (some t)))

-- all have a type: the targets are those of the definitions' typedefs
module _ (vs : List Bytes) (h : all is_typed vs ≡ true) where
  pub targets-are : targets_by (names_in (defs_of vs)) (defs_of vs) ≡ map (target_in (map first_word vs)) vs
  targets-are = ap (λ (ms : List Bytes). targets_by ms (defs_of vs)) (names-defs vs h) ∙ targets-defs (map first_word vs) vs h

  -- the kind of a type by the definitions, by its target
  pub kind-by : (x : Option Typed) → onward (kind_of (defs_of vs)) x
      ≡ kind_to (defs_of vs) (map (target_in (map first_word vs)) vs) (length (map (target_in (map first_word vs)) vs)) x (target_by (map first_word vs) x)
  kind-by x =
      let ds : List Typedef = defs_of vs in
      let ts : List Target = map (target_in (map first_word vs)) vs in
      follow-target ds (length ds) x
      ∙ ap (λ (m : ℕ). kind_to ds (targets_by (names_in ds) ds) m x (target_by (names_in ds) x)) (length-targets (names_in ds) ds)
      ∙ ap (λ (us : List Target). kind_to ds us (length us) x (target_by (names_in ds) x)) targets-are
      ∙ ap (λ (ms : List Bytes). kind_to ds ts (length ts) x (target_by ms x)) (names-defs vs h)

  -- there is one if its target ends, and only then
  pub leads-by : (x : Option Typed) → is_some (onward (kind_of (defs_of vs)) x) ≡ leads (map (target_in (map first_word vs)) vs) (target_by (map first_word vs) x)
  leads-by x =
      kind-leads (defs_of vs) (length-targets (names_in (defs_of vs)) (defs_of vs)) x
      ∙ ap (λ (ts : List Target). leads ts (target_by (names_in (defs_of vs)) x)) targets-are
      ∙ ap (λ (ms : List Bytes). leads (map (target_in (map first_word vs)) vs) (target_by ms x)) (names-defs vs h)

pub typed-all : (ds : List Typedef) (vs : List Bytes) → all (λ (v : Bytes). is_some (end_kind int_bounds ds v)) vs ≡ true → all is_typed vs ≡ true
typed-all ds vs h = go (all is_typed vs) refl
  where
    go : (t : Bool) → all is_typed vs ≡ t → t ≡ true
    go true e = refl
    go false e = sym (untyped-left ds vs e) ∙ h

pub type-leads : (vs : List Bytes) → all (λ (v : Bytes). is_some (end_kind int_bounds (defs_of vs) v)) vs ≡ true
    → (v : Bytes) → is_some (end_kind int_bounds (defs_of vs) v) ≡ leads (map (target_in (map first_word vs)) vs) (target_in (map first_word vs) v)
type-leads vs h v = leads-by vs (typed-all (defs_of vs) vs h) (type_of int_bounds (after_word v))

-- so the chains of all typedefs end if the definitions give each a kind, and only then
all-defined : (vs : List Bytes)
    → all (λ (v : Bytes). is_some (end_kind int_bounds (defs_of vs) v)) vs ≡ all (leads (map (target_in (map first_word vs)) vs)) (map (target_in (map first_word vs)) vs)
all-defined vs = go (all is_typed vs) refl
  where
    ns : List Bytes
    ns = map first_word vs

    ts : List Target
    ts = map (target_in ns) vs

    each : all is_typed vs ≡ true → (ws : List Bytes) → all (λ (v : Bytes). is_some (end_kind int_bounds (defs_of vs) v)) ws ≡ all (leads ts) (map (target_in ns) ws)
    each h [] = refl
    each h (w ∷ ws) = ap₂ ◌&&◌ (leads-by vs h (type_of int_bounds (after_word w))) (each h ws)

    go : (t : Bool) → all is_typed vs ≡ t → all (λ (v : Bytes). is_some (end_kind int_bounds (defs_of vs) v)) vs ≡ all (leads ts) ts
    go true h = each h vs
    go false h = untyped-left (defs_of vs) vs h ∙ sym (untyped-right ns ts vs h)

pub defined-by : (vs : List Bytes) (a b c : Bool) → a ≡ all is_typedef_name (map first_word vs) → b ≡ distinct (map first_word vs)
    → c ≡ all (leads (map (target_in (map first_word vs)) vs)) (map (target_in (map first_word vs)) vs) → are_defined vs ≡ ((a && b) && c)
defined-by vs a b c p q r =
    ap (λ (t : Bool). (all is_typedef_name (map first_word vs) && distinct (map first_word vs)) && t) (all-defined vs ∙ sym r)
    ∙ ap (λ (t : Bool). (all is_typedef_name (map first_word vs) && t) && c) (sym q) ∙ ap (λ (t : Bool). (t && b) && c) (sym p)
