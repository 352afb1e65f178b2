-- The names of typedefs: each is one for a typedef and stands once. And the targets of all typedefs, one after another.
use Rattle.std.specs.Prelude.{Option, Some, None}
use Rattle.words.specs.declared.Span.{Span}
use Prim.Native.Nat.{ℕ, suc, ◌+◌, ◌≤◌, ◌<◌}
use native.Mathlib.Numerals.{add-one}
use mathlib.Core.Path.{◌≡◌, refl, sym, ap, ◌∙◌}
use mathlib.Core.Bool.{Bool, true, false, ◌&&◌, ◌||◌, not}
use mathlib.Core.List.{List, [], ◌∷◌, map}
use denote.Enum.Declared.{tag_of}
use lib.ListN.{length, drop, get_or, drop_of_length-le}
use lib.Seq.{drop-cons}
use types.Run.{OneOf, miss}
use Rattle.format.specs.Bytes.{Bytes, text, pick, same, among, all}
use Rattle.format.specs.Words.{first_word}
use Rattle.format.specs.Rules.{is_typedef_name, distinct}
use Rattle.values.specs.Value.{value_from}
use Rattle.words.specs.Spans.{span, next_word}
use Rattle.words.proofs.Finding.{first_by, first-at}
use Rattle.records.specs.Named.{ValueHere}
use Rattle.typedefs.specs.Walks.{names_from}
use Rattle.typedefs.specs.Targets.{index_from, leads}
use Rattle.typedefs.specs.declared.Target.{Target}
use Rattle.typedefs.specs.contracts.Target.{the_type}

pub words-length : (vs : List Bytes) → length (map first_word vs) ≡ length vs
words-length [] = refl
words-length (v ∷ vs) = ap suc (words-length vs)

-- a name that stands nowhere has no typedef
abbrev pub is_missing : Target → Bool
is_missing Target.Kind = false
is_missing (Target.Alias j) = false
is_missing Target.Missing = true

pub among-index : (at : ℕ) (n : Bytes) (ns : List Bytes) → is_missing (index_from at n ns) ≡ not (among n ns)
unfolding index_from
among-index at n [] = refl
among-index at n (m ∷ ns) = go (same n m) (among-index (at + 1) n ns)
  where
    go : (t : Bool) → is_missing (index_from (at + 1) n ns) ≡ not (among n ns) → is_missing (pick t (Target.Alias at) (index_from (at + 1) n ns)) ≡ not (t || among n ns)
    go true e = refl
    go false e = e

pub not-missing : (t : Target) → OneOf (0 ∷ 1 ∷ []) (tag_of the_type t) → false ≡ is_missing t
not-missing Target.Kind h = refl
not-missing (Target.Alias j) h = refl
not-missing Target.Missing h = absurd (miss (0 ∷ 1 ∷ []) 2 tt h)

-- the first word that was found
pub first_found : (s : Bytes) (w : Option Span) (a e : ℕ) → w ≡ next_word s → w ≡ Some (record { start = a; end = e }) → first_word s ≡ span a e s
first_found s w a e p q = first-at s ∙ ap (first_by s) (sym p ∙ q)

pub first-none : (s : Bytes) (w : Option Span) → w ≡ next_word s → w ≡ None → first_word s ≡ []
first-none s w p q = first-at s ∙ ap (first_by s) (sym p ∙ q)

-- the names from byte i on, and from name k on
pub good-cut : (d : Bytes) (i v e : ℕ) (t : Bool) → ValueHere d (text "%typedef") i v e → t ≡ is_typedef_name (first_word (value_from (span v e d))) → all is_typedef_name (names_from d i) ≡ (t && all is_typedef_name (names_from d e))
good-cut d i v e t h q = ap (λ (vs : List Bytes). all is_typedef_name (map first_word vs)) h.values ∙ ap (λ (b : Bool). b && all is_typedef_name (names_from d e)) (sym q)

module _ (ns : List Bytes) (k : ℕ) where
  pub apart-done : length ns ≤ k → distinct (drop k ns) ≡ true
  apart-done h = ap distinct (drop_of_length-le ns h)

  pub apart-cut : (t : Bool) → k < length ns → t ≡ not (among (get_or ns k []) (drop (k + 1) ns)) → distinct (drop k ns) ≡ (t && distinct (drop (k + 1) ns))
  apart-cut t h q =
      ap distinct (drop-cons ns k [] h ∙ ap (λ (j : ℕ). get_or ns k [] ∷ drop j ns) (sym (add-one k)))
      ∙ ap (λ (b : Bool). b && distinct (drop (k + 1) ns)) (sym q)

-- the targets from typedef i on
module _ (ts : List Target) (i : ℕ) where
  pub ends-done : length ts ≤ i → all (leads ts) (drop i ts) ≡ true
  ends-done h = ap (all (leads ts)) (drop_of_length-le ts h)

  pub ends-cut : (t : Bool) → i < length ts → t ≡ leads ts (get_or ts i Target.Missing) → all (leads ts) (drop i ts) ≡ (t && all (leads ts) (drop (i + 1) ts))
  ends-cut t h q =
      ap (all (leads ts)) (drop-cons ts i Target.Missing h ∙ ap (λ (j : ℕ). get_or ts i Target.Missing ∷ drop j ts) (sym (add-one i)))
      ∙ ap (λ (b : Bool). b && all (leads ts) (drop (i + 1) ts)) (sym q)
