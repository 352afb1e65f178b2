-- The types of a descriptor by the ints that they are met by; and question 7 of the names of `%auto` lists, type by type.
use Rattle.std.specs.Prelude.{Option as Maybe, Some, None}
use Prim.Native.Nat.{ℕ, suc, ◌+◌, ◌≤◌, ◌<◌, suc-le-suc}
use native.Mathlib.Nat.{zero-lt-suc}
use native.Mathlib.Omega.{arith}
use mathlib.Core.Path.{◌≡◌, refl, sym, ap, ap₂, ◌∙◌, subst}
use mathlib.Core.Bool.{Bool, true, false, ◌&&◌, ◌||◌, not, and-eq-true_iff, false≢true}
use mathlib.Core.List.{List, [], ◌∷◌, map}
use mathlib.Core.Option
use mathlib.Core.Option.{Option, none, some}
use borrow.Author.Tests.{leb-true, le-leb}
use lib.Dec.{leb}
use lib.ListN.{length, get_or, take, drop, drop_of_length-le}
use Rattle.format.specs.Lists.{onward, filter, flat, keep, kept}
use Rattle.format.specs.Bytes.{Bytes, text, pick, all, any, same, among, is_some}
use Rattle.format.specs.Limits.{value_bytes}
use Rattle.format.specs.Numbers.{int_bounds}
use Rattle.format.specs.Types.{Kind}
use Rattle.format.specs.Words.{words, split}
use Rattle.format.specs.Rules.{TypeRule, typed_names, type_rule_of, type_rules, typedefs_of, Span, span_of, is_counted, auto, autos_counted}
use Rattle.format.proofs.Elements.{all_yes, all_alike}
use Rattle.format.proofs.Listing.{same-swap}
use Rattle.lines.specs.Line.{run}
use Rattle.values.specs.Value.{value_from}
use Rattle.lines.proofs.Cuts.{at-cons, rest as rest_all}
use Rattle.words.specs.Spans.{span, not_byte}
use Rattle.words.proofs.Splitting.{split_behind, split-run}
use Rattle.records.specs.Walk.{record_in}
use Rattle.records.specs.Named.{values_from, ValueHere}
use Rattle.typing.specs.Meaning.{typed_in, type_answer}
use Rattle.typing.specs.declared.Shape.{Shape}
use Rattle.typing.specs.contracts.Shape.{the_type}
use Rattle.typedefs.specs.Names.{AreNames}
use Rattle.typedefs.specs.Typedefs.{type_text, IsTypedef, AreTypedefs, end_row}
use Rattle.typedefs.specs.declared.Names.{Names}
use Rattle.typedefs.specs.declared.Typedef.{Typedef}
use Rattle.typedefs.specs.declared.Typedefs.{Typedefs}
use Rattle.typedefs.proofs.Following.{kind_only}
use Rattle.typedefs.proofs.Deciding.{all-cut}
use Rattle.dictionary.specs.Known.{Described}
use Rattle.columns.specs.Meets.{kind_of}
use Rattle.columns.proofs.Granted.{fits-at, type-ends}
use Rattle.columns.proofs.Ends.{Ended, type-ended}
use denote.Enum.Declared.{tag_of}
use types.Run.{OneOf, miss}
use Rattle.numbering.specs.Types.{span_in, type_span, HasType, is_type_counted}

-- of a shape that was read of a text
span-shape : (s : Bytes) (k : Shape) → span_in k ≡ onward (span_of int_bounds) (kind_only (some (typed_in s k)))
span-shape s Shape.Int = refl
span-shape s (Shape.Range a b) = refl
span-shape s Shape.Real = refl
span-shape s Shape.Line = refl
span-shape s (Shape.Size n) = refl
span-shape s (Shape.Enum a e) = refl
span-shape s Shape.Bool = refl
span-shape s Shape.Field = refl
span-shape s Shape.Uuid = refl
span-shape s (Shape.Alias a e) = refl

-- a shape of neither kind
pub none-counted : (k : Shape) → OneOf (2 ∷ 3 ∷ 4 ∷ 5 ∷ 6 ∷ 7 ∷ 8 ∷ 9 ∷ []) (tag_of the_type k) → false ≡ is_some (span_in k)
none-counted Shape.Int h = absurd (miss (2 ∷ 3 ∷ 4 ∷ 5 ∷ 6 ∷ 7 ∷ 8 ∷ 9 ∷ []) 0 tt h)
none-counted (Shape.Range a b) h = absurd (miss (2 ∷ 3 ∷ 4 ∷ 5 ∷ 6 ∷ 7 ∷ 8 ∷ 9 ∷ []) 1 tt h)
none-counted Shape.Real h = refl
none-counted Shape.Line h = refl
none-counted (Shape.Size n) h = refl
none-counted (Shape.Enum a e) h = refl
none-counted Shape.Bool h = refl
none-counted Shape.Field h = refl
none-counted Shape.Uuid h = refl
none-counted (Shape.Alias a e) h = refl

-- the value at v, read by the typedefs to the end of its type
module _ (d : Bytes) (h : Described d) (names : Names) (are : AreNames d names) (defs : Typedefs) (table : AreTypedefs d names.places defs) (v : ℕ) (t : HasType d v) (own : Typedef)
    (is : IsTypedef d v own) (r : Typedef) (q : r ≡ end_row defs own) where
  ended : Ended d v r
  ended = subst (Ended d v) (sym q) (type-ended d h names are defs table v t.there t.fits own is t.ends)

  answers : (k : Maybe Shape) → r.kind ≡ k → type_span d (value_from (drop v d)) ≡ onward (span_of int_bounds) (kind_only (type_answer (type_text d r.value) k))
  answers k e = ap (onward (span_of int_bounds)) (ended.ends ∙ ap kind_only (sym ended.told.answers ∙ ap (type_answer (type_text d r.value)) e))

  pub span-read : (k : Shape) → r.kind ≡ Some k → span_in k ≡ type_span d (value_from (drop v d))
  span-read k e = span-shape (type_text d r.value) k ∙ sym (answers (Some k) e)

  pub span-fault : r.kind ≡ None → span_in Shape.Line ≡ type_span d (value_from (drop v d))
  span-fault e = sym (answers None e)

-- the values of `%type` fields from a byte on have such types
abbrev is_good : Bytes → Bytes → Bool
is_good d v = is_some (kind_of d v) && leb (length v) value_bytes

abbrev pub TypedFrom : Bytes → ℕ → Type 0
TypedFrom d i = all (is_good d) (values_from d (text "%type") i) ≡ true

pub all_placed : (p : Bytes → Bool) (l : List Bytes) → ((k : ℕ) → k < length l → p (get_or l k []) ≡ true) → all p l ≡ true
all_placed p [] h = refl
all_placed p (x ∷ l) h = (and-eq-true_iff (p x) (all p l)).1 (h 0 (zero-lt-suc (length l)), all_placed p l (λ k g. h (suc k) (suc-le-suc g)))

pub typed-start : (d : Bytes) → Described d → TypedFrom d 0
typed-start d h =
    all_placed (is_good d) (values_from d (text "%type") 0)
    (λ k l.
    let v : Bytes = get_or (values_from d (text "%type") 0) k [] in
    (and-eq-true_iff (is_some (kind_of d v)) (leb (length v) value_bytes)).1 (type-ends d h k l, le-leb (length v) value_bytes (fits-at d h (text "%type") k)))

module _ (d : Bytes) (i v e : ℕ) (f : ValueHere d (text "%type") i v e) (t : TypedFrom d i) where
  both : (is_good d (value_from (span v e d)) ≡ true) × TypedFrom d e
  both = (and-eq-true_iff (is_good d (value_from (span v e d))) (all (is_good d) (values_from d (text "%type") e))).0 (sym (ap (all (is_good d)) f.values) ∙ t)

  pub typed-on : TypedFrom d e
  typed-on = both.1

  pub typed-here : HasType d v
  typed-here =
      let x : Bytes = value_from (drop v d) in
      let g = (and-eq-true_iff (is_some (kind_of d x)) (leb (length x) value_bytes)).0 (ap (is_good d) f.ends-itself ∙ both.0) in
      record { there = f.value_there; fits = leb-true (length x) value_bytes g.1; ends = g.0 }

-- the parts of a word, one after another, and by a test
module _ (s : Bytes) (e : ℕ) (q : e ≡ run (not_byte 44) s) where
  parts_cut : split 44 s ≡ take e s ∷ split_behind 44 (drop e s)
  parts_cut = split-run 44 s ∙ ap (λ (m : ℕ). take m s ∷ split_behind 44 (drop m s)) (sym q)

  pub parts_last : e ≡ length s → split 44 s ≡ take e s ∷ []
  parts_last h = let l : length s ≤ e = omega arith in parts_cut ∙ ap (λ (x : Bytes). take e s ∷ split_behind 44 x) (drop_of_length-le s l)

  pub parts_more : e < length s → split 44 s ≡ take e s ∷ split 44 (span (e + 1) (length s) s)
  parts_more h = parts_cut ∙ ap (λ (x : Bytes). take e s ∷ split_behind 44 x) (at-cons s e h) ∙ ap (λ (x : Bytes). take e s ∷ split 44 x) (sym (rest_all s (e + 1)))

module _ (p : Bytes → Bool) (s : Bytes) (e : ℕ) (q : e ≡ run (not_byte 44) s) where
  pub any_here : p (take e s) ≡ true → any p (split 44 s) ≡ true
  any_here b = ap (any p) (parts_cut s e q) ∙ ap (λ (t : Bool). t || any p (split_behind 44 (drop e s))) b

  pub any_last : p (take e s) ≡ false → e ≡ length s → any p (split 44 s) ≡ false
  any_last b h = ap (any p) (parts_last s e q h) ∙ ap (λ (t : Bool). t || false) b

  pub any-more : p (take e s) ≡ false → e < length s → any p (split 44 s) ≡ any p (split 44 (span (e + 1) (length s) s))
  any-more b h = ap (any p) (parts_more s e q h) ∙ ap (λ (t : Bool). t || any p (split 44 (span (e + 1) (length s) s))) b

-- some of one list is among another list exactly if some of that is among the one

or_swap : (a b c d : Bool) → ((a || b) || (c || d)) ≡ ((a || c) || (b || d))
or_swap true b c d = refl
or_swap false true true d = refl
or_swap false true false d = refl
or_swap false false c d = refl

any_none : (ns : List Bytes) → any (λ (n : Bytes). among n []) ns ≡ false
any_none [] = refl
any_none (n ∷ ns) = any_none ns

any-one : (w : Bytes) (ws ns : List Bytes) → any (λ (n : Bytes). among n (w ∷ ws)) ns ≡ (among w ns || any (λ (n : Bytes). among n ws) ns)
any-one w ws [] = refl
any-one w ws (n ∷ ns) =
    ap₂ (λ (a b : Bool). (a || among n ws) || b) (same-swap n w) (any-one w ws ns)
    ∙ or_swap (same w n) (among n ws) (among w ns) (any (λ (m : Bytes). among m ws) ns)

any_swap : (ws ns : List Bytes) → any (λ (n : Bytes). among n ws) ns ≡ any (λ (w : Bytes). among w ns) ws
any_swap [] ns = any_none ns
any_swap (w ∷ ws) ns = any-one w ws ns ∙ ap (λ (t : Bool). among w ns || t) (any_swap ws ns)

-- a test of those that are named, and of all
named-all : (c : Bool) (p : Bytes → Bool) (q : Bytes → Bool) (ws : List Bytes) → all (λ (w : Bytes). pick (p w) (c && q w) (q w)) ws ≡ ((c || not (any p ws)) && all q ws)
named-all true p q [] = refl
named-all false p q [] = refl
named-all c p q (w ∷ ws) = ap (λ (t : Bool). pick (p w) (c && q w) (q w) && t) (named-all c p q ws) ∙ go c (p w) (q w) (any p ws) (all q ws)
  where
    go : (c a b x y : Bool) → (pick a (c && b) b && ((c || not x) && y)) ≡ ((c || not (a || x)) && (b && y))
    go true true b x y = refl
    go true false b x y = refl
    go false true b x y = refl
    go false false true x y = refl
    go false false false true y = refl
    go false false false false y = refl

module _ (d : Bytes) where
  abbrev ws : List Bytes
  ws = auto (record_in d)

  abbrev rules : List Bytes → List TypeRule
  rules vs = kept (type_rule_of int_bounds (typedefs_of int_bounds (record_in d))) vs

  counted-kinds : (n : Bytes) (names : List Bytes) (k : Kind) (ts : List TypeRule)
      → is_counted int_bounds (record { names = names; kind = k } ∷ ts) n ≡ pick (among n names) (is_some (span_of int_bounds k) && is_counted int_bounds ts n) (is_counted int_bounds ts n)
  counted-kinds n names k ts = go (among n names)
    where
      go : (t : Bool) → all (λ (x : Kind). is_some (span_of int_bounds x)) (map (λ (r : TypeRule). r.kind) (pick t (record { names = names; kind = k } ∷ filter (λ (r : TypeRule). among n r.names) ts) (filter (λ (r : TypeRule). among n r.names) ts)))
          ≡ pick t (is_some (span_of int_bounds k) && is_counted int_bounds ts n) (is_counted int_bounds ts n)
      go true = refl
      go false = refl

  all-pick : (vs : List Bytes) → all (is_good d) vs ≡ true → all (is_counted int_bounds (rules vs)) ws ≡ all (is_type_counted d) vs
  all-pick [] e = all_yes ws
  all-pick (v ∷ vs) e = go (kind_of d v) refl (all-pick vs h.1)
    where
      h : (is_good d v ≡ true) × (all (is_good d) vs ≡ true)
      h = (and-eq-true_iff (is_good d v) (all (is_good d) vs)).0 e

      go : (x : Option Kind) → kind_of d v ≡ x → all (is_counted int_bounds (rules vs)) ws ≡ all (is_type_counted d) vs → all (is_counted int_bounds (rules (v ∷ vs))) ws ≡ all (is_type_counted d) (v ∷ vs)
      go none q ih = absurd (false≢true (sym (ap is_some q) ∙ ((and-eq-true_iff (is_some (kind_of d v)) (leb (length v) value_bytes)).0 h.0).0))
      go (some k) q ih =
          let c : Bool = is_some (span_of int_bounds k) in
          let later : Bytes → Bool = is_counted int_bounds (rules vs) in
          ap (λ (x : Option Kind). all (is_counted int_bounds (keep (Option.map (λ (y : Kind). record { names = typed_names v; kind = y }) x) (rules vs))) ws) q
          ∙ all_alike (is_counted int_bounds (record { names = typed_names v; kind = k } ∷ rules vs)) (λ (n : Bytes). pick (among n (typed_names v)) (c && later n) (later n)) (λ n. counted-kinds n (typed_names v) k (rules vs)) ws
          ∙ named-all c (λ (n : Bytes). among n (typed_names v)) later ws
          ∙ ap₂ (λ (a b : Bool). (c || not a) && b) (sym (any_swap ws (typed_names v))) ih
          ∙ ap (λ (x : Option Kind). (is_some (onward (span_of int_bounds) x) || not (any (λ (n : Bytes). among n ws) (typed_names v))) && all (is_type_counted d) vs) (sym q)

  pub autos-counted : Described d → autos_counted int_bounds (record_in d) ≡ all (is_type_counted d) (values_from d (text "%type") 0)
  autos-counted h = all-pick (values_from d (text "%type") 0) (typed-start d h)

  -- without such a list there is nothing to ask
  pub none-counted-all : values_from d (text "%auto") 0 ≡ [] → true ≡ autos_counted int_bounds (record_in d)
  none-counted-all e = sym (ap (λ (vs : List Bytes). all (is_counted int_bounds (type_rules int_bounds (record_in d))) (flat (map words vs))) e)

  -- one type more, by its shape
  pub counted-cut : (i v e : ℕ) (k : Shape) (t : Bool) → ValueHere d (text "%type") i v e → span_in k ≡ type_span d (value_from (drop v d))
      → t ≡ (is_some (span_in k) || not (any (λ (n : Bytes). among n ws) (typed_names (value_from (drop v d))))) → (u : Bool) → t ≡ u
      → all (is_type_counted d) (values_from d (text "%type") i) ≡ (u && all (is_type_counted d) (values_from d (text "%type") e))
  counted-cut i v e k t f q z u g =
      all-cut (is_type_counted d) d (text "%type") i v e t f (z ∙ ap (λ (x : Option Span). is_some x || not (any (λ (n : Bytes). among n ws) (typed_names (value_from (drop v d))))) q)
      ∙ ap (λ (b : Bool). b && all (is_type_counted d) (values_from d (text "%type") e)) g
