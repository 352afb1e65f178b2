-- The answer of the call, question by question.
use Rattle.std.specs.Prelude.{Option as Maybe}
use Prim.Native.Nat.{ℕ, zero, suc, ◌≤◌, ◌<◌}
use native.Mathlib.Omega.{arith}
use mathlib.Core.Path.{◌≡◌, refl, sym, ap, ◌∙◌, subst}
use mathlib.Core.Bool.{Bool, true, false}
use mathlib.Core.List.{List}
use mathlib.Core.Option.{Option, none, some}
use lib.Dec.{leb}
use lib.ListN.{length, take}
use lib.Seq.{take_all}
use borrow.Author.Tests.{le-leb, lt-leb}
use Rattle.format.specs.Bytes.{Bytes, pick, is_some}
use Rattle.format.specs.Pieces.{read_of}
use Rattle.format.specs.Records.{Record}
use Rattle.format.specs.Sets.{RecSet, sets_of}
use Rattle.format.specs.Questions.{verdict, first_no}
use Rattle.format.specs.Plain.{Sought, sought_members, found_rows, index_of, members_in}
use Rattle.format.specs.Calls.{Answer, check_answer, then_no, sought_set, over}
use Rattle.format.proofs.Records.{records}
use Rattle.words.specs.Spans.{span}
use Rattle.records.specs.declared.RecordSet.{RecordSet}
use Rattle.records.proofs.SetOf.{SetOf, members-at}
use Rattle.selection.specs.Expressions.{Expression}
use Rattle.selection.specs.Reading.{read_expression}
use Rattle.selection.specs.Meaning.{holds}
use Rattle.selection.specs.Found.{numbers_from, found_by, find_no, Listed, listed, find_answer, find_in}
use Rattle.selection.specs.Programs.{IsProgram}
use Rattle.selection.specs.Rows.{tests_in, codes_in, ProgramOf, Made}
use Rattle.selection.specs.declared.programs.Program.{Program}
use Rattle.selection.proofs.Ints.{no_truth}
use Rattle.selection.proofs.Walking.{listed as over-front}

-- what was made, once its form is known
pub made_told : (w : Bytes) (x : Maybe Program) {y : Maybe Program} → Made w x → x ≡ y → Made w y
made_told w x h e = subst (Made w) e h

module _ (s n w : Bytes) (list : List ℕ) where
  abbrev ss : List RecSet
  ss = sets_of (read_of s)

  abbrev found : List ℕ
  found = found_by (read_expression w) (members_in ss (index_of n ss))

  answer_by : Bool → Bool → Bool → Listed
  answer_by a b c = listed (then_no (pick a 0 21) (then_no (pick b 0 33) (pick c 0 34))) found list

  find-is : find_in s n w list ≡ answer_by (is_some (index_of n ss)) (is_some (read_expression w)) (leb (length found) (length list))
  unfolding find_in answer_by
  find-is = refl

  pub find-missing : index_of n ss ≡ none → find_in s n w list ≡ record { result = Answer.refusal 21; list = list }
  unfolding answer_by
  find-missing e = find-is ∙ ap (λ (a : Bool). answer_by a (is_some (read_expression w)) (leb (length found) (length list))) (ap is_some e)

  module _ (p : RecordSet) (f : SetOf s n p) where
    there : is_some (index_of n ss) ≡ true
    there = ap is_some f.there

    members-are : members_in ss (index_of n ss) ≡ records (read_of (span p.begin p.after s))
    members-are = ap (members_in ss) f.there ∙ members-at f.index ss ∙ sym f.members

    pub find-formless : is_some (read_expression w) ≡ false → find_in s n w list ≡ record { result = Answer.refusal 33; list = list }
    unfolding answer_by
    find-formless e = find-is ∙ (λ i. answer_by (there i) (e i) (leb (length found) (length list)))

    module _ (q : Program) (is : is_some (read_expression w) ≡ true) (program : ProgramOf w (read_expression w) q) where
      -- what a walk counts and lists is what is found
      counted : (k : ℕ) → ((x : Expression) → IsProgram x (tests_in w q) (codes_in q) → k ≡ length (numbers_from (holds x) 0 (records (read_of (span p.begin p.after s))))) → k ≡ length found
      counted k h = go (read_expression w) (sym is) program ∙ ap (λ (rs : List Record). length (found_by (read_expression w) rs)) (sym members-are)
        where
          go : (o : Option Expression) → true ≡ is_some o → ProgramOf w o q → k ≡ length (found_by o (records (read_of (span p.begin p.after s))))
          go none i g = absurd (no_truth i)
          go (some x) i g = h x g

      walked : (old new : List ℕ) → ((x : Expression) → IsProgram x (tests_in w q) (codes_in q) → new ≡ over-front (numbers_from (holds x) 0 (records (read_of (span p.begin p.after s)))) old) → new ≡ over-front found old
      walked old new h = go (read_expression w) (sym is) program ∙ ap (λ (rs : List Record). over-front (found_by (read_expression w) rs) old) (sym members-are)
        where
          go : (o : Option Expression) → true ≡ is_some o → ProgramOf w o q → new ≡ over-front (found_by o (records (read_of (span p.begin p.after s)))) old
          go none i g = absurd (no_truth i)
          go (some x) i g = h x g

      pub find-short : (k : ℕ) → ((x : Expression) → IsProgram x (tests_in w q) (codes_in q) → k ≡ length (numbers_from (holds x) 0 (records (read_of (span p.begin p.after s))))) → length list < k → find_in s n w list ≡ record { result = Answer.refusal 34; list = list }
      unfolding answer_by
      find-short k h l =
          let z = lt-leb (length found) (length list) (omega (arith, counted k h)) in
          find-is ∙ (λ i. answer_by (there i) (is i) (z i))

      pub find-found : (k : ℕ) (out : List ℕ) → ((x : Expression) → IsProgram x (tests_in w q) (codes_in q) → k ≡ length (numbers_from (holds x) 0 (records (read_of (span p.begin p.after s))))) →
          ((x : Expression) → IsProgram x (tests_in w q) (codes_in q) → out ≡ over-front (numbers_from (holds x) 0 (records (read_of (span p.begin p.after s)))) list) → k ≤ length list → find_in s n w list ≡ record { result = Answer.value k; list = out }
      unfolding answer_by
      find-found k out h g l =
          let c = counted k h in
          let z = le-leb (length found) (length list) (omega (arith, c)) in
          let o : over found list ≡ out = ap (λ (ns : List ℕ). over ns list) (sym (take_all (length list) found (omega (arith, c)))) ∙ sym (walked list out g) in
          find-is ∙ (λ i. answer_by (there i) (is i) (z i)) ∙ (λ i. record { result = Answer.value (sym c i); list = o i })

-- The file's own questions come first

module _ (buffer : Bytes) (used : ℕ) (n w : Bytes) (list : List ℕ) where
  abbrev answer_at : ℕ → Listed
  answer_at v =
      let q : Sought = sought_set (sets_of (read_of (take used buffer))) n in
      let f : List ℕ = found_by (read_expression w) (sought_members q) in
      listed (then_no (then_no v (first_no found_rows q)) (find_no (read_expression w) f list)) f list

  answer-is : find_answer buffer used n w list ≡ answer_at (verdict buffer used)
  unfolding find_answer
  answer-is = refl

  pub find-refused : (k : ℕ) → k ≡ check_answer buffer used → 0 < k → find_answer buffer used n w list ≡ record { result = Answer.refusal k; list = list }
  unfolding check_answer
  find-refused zero e h = absurd (omega (arith, h))
  find-refused (suc k) e h = answer-is ∙ ap answer_at (sym e)

  pub find-text : (k : ℕ) → k ≡ check_answer buffer used → k ≡ 0 → find_in (take used buffer) n w list ≡ find_answer buffer used n w list
  unfolding check_answer find_in
  find-text k e z = sym (answer-is ∙ ap answer_at (sym e ∙ z))
