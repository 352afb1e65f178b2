-- Where types lead: to a kind, or to a typedef by its number; and where a chain of typedefs ends.
use Rattle.std.specs.Prelude.{ℕ, zero, suc, ◌+◌, ◌≤◌, ◌≡◌, Bool, true, false, ◌&&◌, List, [], ◌∷◌, map, length, get_or, take}
use Rattle.std.proofs.Math.Option.{Option, none, some}
use Rattle.format.specs.Lists.{kept}
use Rattle.format.specs.Bytes.{Bytes, pick, same, all, is_some}
use Rattle.format.specs.Lines.{is_name}
use Rattle.format.specs.Words.{first_word, after_word}
use Rattle.format.specs.Numbers.{int_bounds}
use Rattle.format.specs.Types.{Typed, type_of}
use Rattle.format.specs.Rules.{typedef_of, typed_names, end_kind, is_typedef_name, distinct}
use Rattle.typedefs.specs.declared.Target.{Target}
use Rattle.typedefs.specs.declared.Link.{Link}
use Rattle.typedefs.specs.declared.Targets.{Targets}
use Rattle.typedefs.specs.declared.Followed.{Followed}

-- the first of a name, numbered from `at` on
unfoldable pub index_from : ℕ → Bytes → List Bytes → Target
index_from at n [] = Target.Missing
index_from at n (m ∷ ms) = pick (same n m) (Target.Alias at) (index_from (at + 1) n ms)

-- the target of a type, by the names of the typedefs
abbrev pub target_by : List Bytes → Option Typed → Target
target_by ns none = Target.Missing
target_by ns (some (Typed.kind k)) = Target.Kind
target_by ns (some (Typed.alias n)) = index_from 0 n ns

abbrev pub target_in : List Bytes → Bytes → Target
target_in ns v = target_by ns (type_of int_bounds (after_word v))

-- what a table of targets holds
abbrev pub Bounded : Targets → Type 0
Bounded t = (t.count ≤ 32) × (length t.rows ≡ 32)

abbrev pub targets_in : Targets → List Target
targets_in t = map (λ (x : Link). x.to) (take t.count t.rows)

-- the end of the chain from typedef i on, by its target and what is later
abbrev pub onward : Target → ℕ → (ℕ → Followed) → Followed
onward Target.Kind i later = Followed.End i
onward (Target.Alias j) i later = later j
onward Target.Missing i later = Followed.Missing

unfoldable pub follow_of : ℕ → List Target → ℕ → Followed
follow_of zero ts i = Followed.Loop
follow_of (suc left) ts i = onward (get_or ts i Target.Missing) i (λ j. follow_of left ts j)

abbrev pub is_end : Followed → Bool
is_end (Followed.End i) = true
is_end Followed.Missing = false
is_end Followed.Loop = false

-- does a target end in a kind
abbrev pub leads : List Target → Target → Bool
leads ts Target.Kind = true
leads ts (Target.Alias j) = is_end (follow_of (length ts) ts j)
leads ts Target.Missing = false

-- question 7 of the typedefs, by their values
abbrev pub are_defined : List Bytes → Bool
are_defined vs =
    (all is_typedef_name (map first_word vs) && distinct (map first_word vs))
    && all (λ (v : Bytes). is_some (end_kind int_bounds (kept (typedef_of int_bounds) vs) v)) vs

-- and of a `%type` value, by the targets of the typedefs: its names are names, and its type ends in a kind
abbrev pub well_by : List Bytes → List Target → Bytes → Bool
well_by ns ts v = all is_name (typed_names v) && leads ts (target_in ns v)
