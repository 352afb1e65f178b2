-- The set of a name: where its descriptor and its records stand, the rules and the records that are read there, and what a file that passes grants of both.
use Rattle.std.specs.Prelude.{Option, Some, None}
use Prim.Native.Nat.{ℕ, zero, suc, ◌+◌, ◌-◌, ◌≤◌}
use native.Mathlib.Omega.{arith}
use mathlib.Core.Path.{◌≡◌, refl, sym, ap, ◌∙◌, subst}
use mathlib.Core.Bool.{Bool, true, ◌&&◌, and-eq-true_iff}
use mathlib.Core.List.{List, [], ◌∷◌, map}
use mathlib.Core.Option.{none, some}
use lib.Dec.{leb}
use lib.ListN.{length, take, drop, length-take, length-drop}
use Rattle.format.specs.Lists.{is_filled, filter}
use Rattle.format.specs.Bytes.{Bytes, all}
use Rattle.format.specs.Pieces.{read_of}
use Rattle.format.specs.Records.{Record}
use Rattle.format.specs.Sets.{RecSet, sets_of}
use Rattle.format.specs.Limits.{file_bytes, descriptors}
use Rattle.format.specs.Numbers.{int_bounds}
use Rattle.format.specs.Rules.{is_well_formed, are_types_defined, autos_counted, is_typed_well, distinct}
use Rattle.format.specs.Questions.{name_of, fits_record, fits_rules}
use Rattle.format.specs.Plain.{index_of, set_at, members_at, members_in}
use Rattle.format.proofs.Elements.{Has}
use Rattle.format.proofs.Applying.{index-has}
use Rattle.format.proofs.Passing.{SetsPass}
use Rattle.format.proofs.Records.{records}
use Rattle.words.specs.Spans.{span}
use Rattle.records.specs.Places.{is_readable, places_of, head_place}
use Rattle.records.specs.Sets.{set_end, set_behind, set_found, set_place}
use Rattle.records.specs.Walk.{record_in}
use Rattle.records.specs.declared.Head.{Head}
use Rattle.records.specs.declared.RecordSet.{RecordSet}
use Rattle.records.proofs.Members.{HeadFound, HeadTold, head-members, count-sets}
use Rattle.records.proofs.Leading.{leading-readable, leading-records}
use Rattle.records.proofs.SetEnds.{end-inside}

-- The set of the name n stands at p: its descriptor from start to end, its records from begin to after. The default set has no descriptor, and an empty part for it.
pub record SetOf (s n : Bytes) (p : RecordSet) : Type 0 where
  pub index : ℕ
  pub there : index_of n (sets_of (read_of s)) ≡ some index
  pub ordered : p.start ≤ p.end
  pub within : p.end ≤ p.begin
  pub begins : p.begin ≤ p.after
  pub inside : p.after ≤ length s
  pub rules-readable : is_readable (span p.start p.end s) ≡ true
  pub rules : record_in (span p.start p.end s) ≡ (set_at index (sets_of (read_of s))).rules
  pub members-readable : is_readable (span p.begin p.after s) ≡ true
  pub members : records (read_of (span p.begin p.after s)) ≡ (set_at index (sets_of (read_of s))).members
  pub counted : p.count ≡ length (set_at index (sets_of (read_of s))).members

-- it is missing where there is no set of that name, and only then
abbrev pub SetOfTold : Bytes → Bytes → Option RecordSet → Type 0
SetOfTold s n None = index_of n (sets_of (read_of s)) ≡ none
SetOfTold s n (Some p) = SetOf s n p

-- the records of a set, asked for by its place
pub members-at : (i : ℕ) (ss : List RecSet) → members_at i ss ≡ (set_at i ss).members
members-at i [] = refl
members-at zero (s ∷ ss) = refl
members-at (suc i) (s ∷ ss) = members-at i ss

module _ (s n : Bytes) where
  abbrev ss : List RecSet
  ss = sets_of (read_of s)

  module _ (h : Head) (f : HeadFound s n (sets_of (read_of s)) h) where
    abbrev begin : ℕ
    begin = h.begin

    abbrev end : ℕ
    end = set_end 0 (places_of (drop begin s))

    abbrev i : ℕ
    i = f.set.index

    part : span begin (begin + end) s ≡ take end (drop begin s)
    part = let e : (begin + end) - begin ≡ end = omega arith in ap (λ (k : ℕ). take k (drop begin s)) e

    members-are : members_at 0 (sets_of (read_of (drop begin s))) ≡ (set_at i ss).members
    members-are = sym f.set.members ∙ ap (members_in ss) f.set.there ∙ members-at i ss

    pub head-set : SetOf s n (set_behind s h)
    head-set =
        record {
          index = i;
          there = f.set.there;
          ordered = f.ordered;
          within = f.within;
          begins = omega arith;
          inside = omega (arith, end-inside (drop begin s) f.set.readable, length-drop begin s, f.set.inside);
          rules-readable = f.own-readable;
          rules = sym f.rules;
          members-readable = subst (λ (t : Bytes). is_readable t ≡ true) (sym part) (leading-readable (drop begin s) f.set.readable);
          members = ap (λ (t : Bytes). records (read_of t)) part ∙ leading-records (drop begin s) f.set.readable ∙ members-are;
          counted = count-sets (drop begin s) ∙ ap length members-are;
        }

  of-head : (x : Option Head) → HeadTold s n (sets_of (read_of s)) x → SetOfTold s n (set_found s x)
  of-head None h = h
  of-head (Some h) f = head-set h f

  pub set-of : is_readable s ≡ true → SetOfTold s n (set_place n s)
  unfolding set_place
  set-of e = of-head (head_place n (places_of s)) (head-members s n e)

  -- the same of an answer, once its form is known
  pub set_told : (x : Option RecordSet) {y : Option RecordSet} → is_readable s ≡ true → x ≡ set_place n s → x ≡ y → SetOfTold s n y
  set_told x {y} e f g = subst (SetOfTold s n) (sym f ∙ g) (set-of e)

-- What a file that passes grants of the set of a name: its rules pass questions 4, 6 and 7, and its records question 4.
pub record PassingSet (s n : Bytes) (p : RecordSet) : Type 0 where
  pub set : SetOf s n p
  pub rules-short : length (span p.start p.end s) ≤ file_bytes
  pub rules-fit : fits_record (record_in (span p.start p.end s)) ≡ true
  pub rules-few : fits_rules (record_in (span p.start p.end s)) ≡ true
  pub rules-well : is_well_formed int_bounds (record_in (span p.start p.end s)) ≡ true
  pub rules-typed : are_types_defined int_bounds (record_in (span p.start p.end s)) ≡ true
  pub rules-counted : autos_counted int_bounds (record_in (span p.start p.end s)) ≡ true
  pub members-short : length (span p.begin p.after s) ≤ file_bytes
  pub members-fit : all fits_record (records (read_of (span p.begin p.after s))) ≡ true

all-at : (t : RecSet → Bool) (i : ℕ) (ss : List RecSet) → all t ss ≡ true → Has ss i → t (set_at i ss) ≡ true
all-at t i [] h k = absurd k
all-at t zero (s ∷ ss) h k = ((and-eq-true_iff (t s) (all t ss)).0 h).0
all-at t (suc i) (s ∷ ss) h k = all-at t i ss ((and-eq-true_iff (t s) (all t ss)).0 h).1 k

part-short : (s : Bytes) (a e : ℕ) → length (span a e s) ≤ length s
part-short s a e = omega (arith, length-take (e - a) (drop a s), length-drop a s)

module _ (s n : Bytes) (p : RecordSet) (f : SetOf s n p) where
  abbrev own : RecSet
  own = set_at f.index (sets_of (read_of s))

  -- what is said of all sets is said of this one
  pub each_set : (t : RecSet → Bool) → all t (sets_of (read_of s)) ≡ true → t (set_at f.index (sets_of (read_of s))) ≡ true
  each_set t h = all-at t f.index (sets_of (read_of s)) h (index-has n (sets_of (read_of s)) f.index f.there)

  pub passing-set : length s ≤ file_bytes → SetsPass (sets_of (read_of s)) → PassingSet s n p
  passing-set short passes =
      let set-fits : RecSet → Bool = λ (x : RecSet). fits_record x.rules && all fits_record x.members && fits_rules x.rules in
      let set-well : RecSet → Bool = λ (x : RecSet). is_well_formed int_bounds x.rules in
      let fits = each_set set-fits ((and-eq-true_iff (all set-fits (sets_of (read_of s))) (leb (length (filter (λ (x : RecSet). is_filled x.rules) (sets_of (read_of s)))) descriptors)).0 passes.0).0 in
      let few = (and-eq-true_iff (fits_record own.rules && all fits_record own.members) (fits_rules own.rules)).0 fits in
      let fit = (and-eq-true_iff (fits_record own.rules) (all fits_record own.members)).0 few.0 in
      let well = each_set set-well ((and-eq-true_iff (all set-well (sets_of (read_of s))) (distinct (map name_of (sets_of (read_of s))))).0 passes.1.1.0).0 in
      let typed = (and-eq-true_iff (are_types_defined int_bounds own.rules) (autos_counted int_bounds own.rules)).0 (each_set (λ (x : RecSet). is_typed_well int_bounds x.rules) passes.1.1.1.0) in
      let of : (t : Record → Bool) → t own.rules ≡ true → t (record_in (span p.start p.end s)) ≡ true = λ t e. ap t f.rules ∙ e in
      record {
        set = f;
        rules-short = omega (arith, part-short s p.start p.end);
        rules-fit = of fits_record fit.0;
        rules-few = of fits_rules few.1;
        rules-well = of (is_well_formed int_bounds) well;
        rules-typed = of (are_types_defined int_bounds) typed.0;
        rules-counted = of (autos_counted int_bounds) typed.1;
        members-short = omega (arith, part-short s p.begin p.after);
        members-fit = ap (all fits_record) f.members ∙ fit.1;
      }
