-- The call's answer, by what the check says, what the search for the set finds and what the walk over its records adds.
use Rattle.std.specs.Prelude.{Option as Maybe, Some, Ok}
use Rattle.totals.specs.declared.adding.Sum.{Sum as ReadSum}
use Prim.Native.Nat.{ℕ, zero, suc, ◌-◌, ◌≤◌, ◌<◌}
use native.Mathlib.Omega.{arith}
use mathlib.Core.Path.{◌≡◌, refl, sym, ap, ◌∙◌, subst}
use mathlib.Core.Bool.{Bool}
use mathlib.Core.List.{List, [], ◌∷◌, ◌++◌}
use mathlib.Core.Option.{Option, none, some}
use lib.IntN.{ℤ, nat_abs}
use lib.ListN.{length, take, drop, length-take, length-drop}
use mir.Syntax.{w64}
use mir.Val.{to_z, of_z}
use Rattle.format.specs.Bytes.{Bytes, pick, is_some}
use Rattle.format.specs.Lists.{flat}
use Rattle.format.specs.Pieces.{read_of}
use Rattle.format.specs.Records.{Record}
use Rattle.format.specs.Sets.{values_of, RecSet, sets_of}
use Rattle.format.specs.Limits.{file_bytes}
use Rattle.format.specs.Numbering.{every}
use Rattle.format.specs.Questions.{first_no, values_in}
use Rattle.format.specs.Plain.{index_of, members_in, Sought, sought_members, found_rows}
use Rattle.format.specs.Calls.{then_no, check_answer, sets_in, lookup_no, sought_set}
use Rattle.format.proofs.Records.{records}
use Rattle.words.specs.Spans.{span}
use Rattle.records.specs.Walk.{record_in}
use Rattle.records.specs.declared.RecordSet.{RecordSet}
use Rattle.records.proofs.Cuts.{fields-records}
use Rattle.records.proofs.SetOf.{SetOf, members-at}
use Rattle.totals.specs.Totals.{millionths_of, hundredths_of, Total, Totalled, totalled_by, totalled, total_answer}
use Rattle.totals.specs.Adding.{Sum, summed, added, SumFits, total_in}
use Rattle.totals.proofs.Bits.{seen-is, hundredths-held}
use Rattle.totals.proofs.Sums.{total-value}
use Rattle.totals.proofs.Fitting.{total-fits}
use Rattle.totals.proofs.Changes.{values-append}

-- the values of a name in records, one after another
pub values-flat : (name : Bytes) (rs : List Record) → values_of name (flat rs) ≡ values_in name rs
values-flat name [] = refl
values-flat name (r ∷ rs) = values-append name r (flat rs) ∙ ap (λ (vs : List Bytes). values_of name r ++ vs) (values-flat name rs)

-- those of a set's records are those of the part that the records stand in
members-values : (s set : Bytes) (p : RecordSet) → SetOf s set p → (name : Bytes) → values_in name (members_in (sets_of (read_of s)) (index_of set (sets_of (read_of s)))) ≡ values_of name (record_in (span p.begin p.after s))
members-values s set p f name =
    let part : Bytes = span p.begin p.after s in
    ap (λ (x : Option ℕ). values_in name (members_in (sets_of (read_of s)) x)) f.there
    ∙ ap (values_in name) (members-at f.index (sets_of (read_of s)) ∙ sym f.members)
    ∙ sym (ap (values_of name) (fields-records (read_of part)) ∙ values-flat name (records (read_of part)))

-- what has been added, as an answer
abbrev pub answer_by : Option Sum → Totalled
answer_by none = Totalled.refusal 32
answer_by (some t) = Totalled.value (record { hundredths = hundredths_of t.millionths; millionths = t.millionths; number = t.number })

answer-summed : (x : Option (List ℤ)) → answer_by (summed x) ≡ totalled 0 x
answer-summed none = refl
answer-summed (some zs) = refl

-- in a text
module _ (s set name : Bytes) where
  abbrev sets : List RecSet
  sets = sets_of (read_of s)

  abbrev answer_at : Bool → List Bytes → Totalled
  answer_at there vs = totalled (pick there 0 21) (every millionths_of vs)

  pub total-missing : index_of set (sets_of (read_of s)) ≡ none → Totalled.refusal 21 ≡ total_in s set name
  unfolding total_in
  total-missing e = sym (ap (λ (x : Option ℕ). answer_at (is_some x) (values_in name (members_in sets x))) e)

  module _ (p : RecordSet) (f : SetOf s set p) where
    pub part-short : length s ≤ file_bytes → length (span p.begin p.after s) ≤ file_bytes
    part-short h = omega (arith, h, length-take (p.after - p.begin) (drop p.begin s), length-drop p.begin s)

    -- by what the walk over its records says, once the form of that is known
    pub total-found : (x : Maybe ReadSum) {y : Maybe ReadSum} → added x ≡ summed (every millionths_of (values_of name (record_in (span p.begin p.after s)))) → x ≡ y → answer_by (added y) ≡ total_in s set name
    unfolding total_in
    total-found x e g =
        ap answer_by (sym (ap added g) ∙ e)
        ∙ answer-summed (every millionths_of (values_of name (record_in (span p.begin p.after s))))
        ∙ ap (λ (vs : List Bytes). totalled 0 (every millionths_of vs)) (sym (members-values s set p f name))
        ∙ sym (ap (λ (b : Bool). answer_at b (values_in name (members_in sets (index_of set sets)))) (ap is_some f.there))

-- a sum that fits, with its hundredths as the machine has them
pub sum-held : (x : Maybe ReadSum) (z : ℤ) (n : ℕ) → SumFits x → x ≡ Some (record { millionths = z; number = n }) → nat_abs z < 9223372036854775808
sum-held x z n h e = subst SumFits e h

pub sum-answer : (z h : ℤ) (n : ℕ) → nat_abs z < 9223372036854775808 → h ≡ hundredths_of (to_z w64 (of_z w64 z)) → totalled_by (Ok (record { hundredths = to_z w64 (of_z w64 h); millionths = to_z w64 (of_z w64 z); number = n })) ≡ answer_by (added (Some (record { millionths = z; number = n })))
sum-answer z h n k e =
    let is : h ≡ hundredths_of z = e ∙ ap hundredths_of (seen-is z k) in
    let seen : to_z w64 (of_z w64 h) ≡ hundredths_of z = seen-is h (omega (arith, ap nat_abs is, hundredths-held z k)) ∙ is in
    (λ i. Totalled.value (record { hundredths = seen i; millionths = seen-is z k i; number = n }))

-- in a buffer: the file's own questions said no, or they all said yes
module _ (buffer : Bytes) (used : ℕ) (set name : Bytes) where
  abbrev asked : ℕ → Totalled
  asked k = let q : Sought = sought_set (sets_in buffer used) set in totalled (then_no k (first_no found_rows q)) (every millionths_of (values_in name (sought_members q)))

  refused-by : (k : ℕ) → 0 < k → Totalled.refusal k ≡ asked k
  refused-by zero h = absurd (omega (arith, h))
  refused-by (suc k) h = refl

  pub total-refused : (k : ℕ) → k ≡ check_answer buffer used → 0 < k → Totalled.refusal k ≡ total_answer buffer used set name
  unfolding check_answer total_answer
  total-refused k e h = refused-by k h ∙ ap asked e

  pub total-text : (k : ℕ) → k ≡ check_answer buffer used → k ≡ 0 → total_in (take used buffer) set name ≡ total_answer buffer used set name
  unfolding check_answer total_in total_answer
  total-text k e h = ap asked (sym h ∙ e)

-- both sums of an answer fit signed numbers of 64 bits
pub total-held : (buffer : Bytes) (used : ℕ) (set name : Bytes) (t : Total) → total_answer buffer used set name ≡ Totalled.value t → (nat_abs t.hundredths < 9223372036854775808) × (nat_abs t.millionths < 9223372036854775808)
unfolding total_answer
total-held buffer used set name t e =
    let q : Sought = sought_set (sets_in buffer used) set in
    let k = (total-value (lookup_no buffer used q) (every millionths_of (values_in name (sought_members q))) t e).1 in
    let m : nat_abs t.millionths < 9223372036854775808 = omega (arith, (total-fits buffer used set name t e).0) in
    let h : t.hundredths ≡ hundredths_of t.millionths = ap (λ (x : Total). x.hundredths) k.2 ∙ ap (λ (x : Total). hundredths_of x.millionths) (sym k.2) in
    (omega (arith, ap nat_abs h, hundredths-held t.millionths m), m)
