-- An edit of a file that passes: its number is that of what it spoils.
use Prim.Native.Nat.{ℕ, zero, suc, ◌≤◌, ◌<◌}
use native.Mathlib.Omega.{arith}
use mathlib.Core.Path.{◌≡◌, refl, ap, ◌∙◌}
use mathlib.Core.Bool.{Bool, true, ◌&&◌, and-eq-true_iff}
use mathlib.Core.List.{List, [], ◌∷◌, ◌++◌, map}
use mathlib.Core.Option.{Option, some}
use lib.Dec.{leb}
use lib.ListN.{length}
use Rattle.format.specs.Bytes.{Bytes, pick, is_allowed, all}
use Rattle.format.specs.Lists.{nth}
use Rattle.format.specs.Lines.{is_ended}
use Rattle.format.specs.Pieces.{bytes_of, pieces}
use Rattle.format.specs.Sets.{RecSet}
use Rattle.format.specs.Limits.{file_bytes}
use Rattle.format.specs.Numbers.{int_bounds}
use Rattle.format.specs.Rules.{key, is_well_formed, distinct}
use Rattle.format.specs.Questions.{first_no, fits_limits, name_of, describes_once, describes_well, types_well, limit_rows, rule_rows}
use Rattle.format.specs.Edits.{in_set}
use Rattle.format.specs.Requests.{Request}
use Rattle.format.specs.Plain.{Plain, set_at, index_of, apply_in, apply, request_or, edit_questions}
use Rattle.format.proofs.Elements.{Has, all-each}
use Rattle.format.proofs.Whole.{sound-pieces}
use Rattle.format.proofs.Grouping.{HasPairs}
use Rattle.format.proofs.Keeping.{legal-edit}
use Rattle.format.proofs.Applying.{Agrees, agrees-sets, Granted, index-has, apply-agrees, apply-allowed}
use Rattle.format.proofs.Completing.{WholeRequest, completed-whole, whole-pairs}
use Rattle.format.proofs.Questions.{first-yes, asked, whole_of, whole-granted}
use Rattle.format.proofs.Describing.{describes-once, describes-well, types-well}
use Rattle.format.proofs.Passing.{SetsPass, bytes-ended, Holds, holds-passes, holds-bytes, holds-agrees, holds-sets}
use Rattle.format.proofs.Judging.{set_questions, read_no, text_no}
use Rattle.format.proofs.Results.{place_rows, raised_no, edit_no, edit-number}
use Rattle.spoiling.specs.Effects.{spoiled_no}
use Rattle.spoiling.proofs.Passing.{sets-passing}
use Rattle.spoiling.proofs.Touching.{each_of}
use Rattle.spoiling.proofs.Counting.{granted-applies}
use Rattle.spoiling.proofs.Edits.{number-spoiled}
use Rattle.spoiling.proofs.Keys.{one-key-name}

has-less : {A : Type 0} (xs : List A) (i : ℕ) → Has xs i → i < length xs
has-less [] i h = absurd h
has-less (x ∷ xs) zero h = omega arith
has-less (x ∷ xs) (suc i) h = omega (arith, has-less xs i h)

-- where 5 to 7 say yes, the questions about sets are 4, 8 to 14 and 30
descriptors-asked : (ss : List RecSet) → describes_once ss ≡ true → describes_well int_bounds ss ≡ true → types_well int_bounds ss ≡ true → first_no (set_questions int_bounds) ss ≡ first_no (limit_rows ++ rule_rows int_bounds) ss
descriptors-asked ss a b c =
    let n : ℕ = first_no (rule_rows int_bounds) ss in
    λ i. pick (fits_limits ss) (pick (a i) (pick (b i) (pick (c i) n 7) 6) 5) 4

-- a file that passes, and a completed request whose place is granted
module _ (buffer : Bytes) (used : ℕ) (p : Plain) (h : Holds buffer used p) (room : ℕ) (w : Request) (f : HasPairs w.edit) (g : Granted (asked room p w)) where
  old : SetsPass p.sets
  old = holds-sets buffer used p h

  text-asks-sets : text_no (bytes_of (apply w p).pieces) ≡ first_no (limit_rows ++ rule_rows int_bounds) (apply w p).sets
  unfolding text_no
  text-asks-sets =
      let r : Plain = apply w p in
      let s : Bytes = bytes_of r.pieces in
      let c = holds-passes buffer used p h in
      let a = holds-agrees buffer used p h in
      let agrees : Agrees r = apply-agrees (asked room p w) f g a in
      let allowed : all is_allowed s ≡ true = apply-allowed w p g.writable a.0 (ap (all is_allowed) (holds-bytes buffer used p h) ∙ c.allowed) in
      let clear : (all is_allowed s && is_ended s) ≡ true = (and-eq-true_iff (all is_allowed s) (is_ended s)).1 (allowed, bytes-ended r.pieces) in
      ap (λ (b : Bool). pick b (read_no (pieces s)) 2) clear
      ∙ ap read_no (sound-pieces r.pieces agrees.0)
      ∙ ap (first_no (set_questions int_bounds)) (agrees-sets r agrees)
      ∙ descriptors-asked r.sets (describes-once w p g.writable a old.1.0) (describes-well int_bounds w p ∙ old.1.1.0) (types-well int_bounds w p ∙ old.1.1.1.0)

  module _ (i : ℕ) (here : index_of w.set p.sets ≡ some i) where
    sets-after : (apply w p).sets ≡ nth i (in_set w.edit) p.sets
    unfolding apply
    sets-after = ap (λ (x : Option ℕ). (apply_in x w.edit p).sets) here

    place-below : i < length p.sets
    place-below = has-less p.sets i (index-has w.set p.sets i here)

    one-key-after : length (key (set_at i p.sets).rules) ≤ 1
    one-key-after =
        let well : RecSet → Bool = λ (s : RecSet). is_well_formed int_bounds s.rules in
        let k = (and-eq-true_iff (all well p.sets) (distinct (map name_of p.sets))).0 old.1.1.0 in
        one-key-name int_bounds (set_at i p.sets).rules (each_of (λ (s : RecSet). well s ≡ true) (record { name = []; rules = []; members = [] }) p.sets i place-below (all-each well p.sets k.0))

    -- The text that it makes has the number of what it spoils.
    pub text-spoiled : text_no (bytes_of (apply w p).pieces) ≡ spoiled_no int_bounds w.edit (set_at i p.sets)
    text-spoiled =
        text-asks-sets
        ∙ ap (first_no (limit_rows ++ rule_rows int_bounds)) sets-after
        ∙ number-spoiled int_bounds w.edit i p.sets (sets-passing p.sets old) place-below one-key-after (granted-applies (asked room p w) i g here)

-- Where 21 to 25 and 31 say yes, an edit is refused with 26 or with the number of what the completed edit spoils, raised by 100.
pub edit-spoiled : (buffer : Bytes) (used : ℕ) (p : Plain) → Holds buffer used p → (room : ℕ) (q w : Request) → HasPairs q.edit → first_no place_rows (asked room p q) ≡ 0 → whole_of p q ≡ some w → (i : ℕ) → index_of w.set p.sets ≡ some i
    → first_no (edit_questions int_bounds) (asked room p q) ≡ pick (leb (length (bytes_of (apply w p).pieces)) room && leb (length (bytes_of (apply w p).pieces)) file_bytes) (raised_no (spoiled_no int_bounds w.edit (set_at i p.sets))) 26
edit-spoiled buffer used p h room q w f e c i here =
    let y = first-yes place_rows (asked room p q) refl e in
    let granted : Granted (asked room p q) = record { found = (y.0, (y.1.0, (y.1.1.0, tt))); left = y.1.1.1.0; writable = legal-edit q.edit y.1.1.1.1.0 } in
    let whole : WholeRequest q w = completed-whole p q w (holds-sets buffer used p h).1.1.0 c in
    let made : (asked room p q).result ≡ apply w p = ap (λ (x : Option Request). apply (request_or x) p) c in
    let fits : Bool = leb (length (bytes_of (apply w p).pieces)) room && leb (length (bytes_of (apply w p).pieces)) file_bytes in
    edit-number buffer used p h room q f 0 e
    ∙ ap (λ (r : Plain). edit_no room 0 (bytes_of r.pieces)) made
    ∙ ap (λ (n : ℕ). pick fits (raised_no n) 26) (text-spoiled buffer used p h room w (whole-pairs q.edit w.edit whole.1 f) (whole-granted room p q w whole granted) i here)
