-- The questions as a walk asks them: of the bytes, of the sets, of each set, of each record.
use Prim.Native.Nat.{ℕ}
use native.Mathlib.Omega.{arith}
use mathlib.Core.Path.{◌≡◌, refl, ap, ◌∙◌}
use mathlib.Core.Bool.{◌&&◌}
use mathlib.Core.List.{List, [], ◌∷◌, ◌++◌, map}
use mathlib.Core.Option.{Option, none, some}
use lib.Dec.{leb, eqb}
use lib.ListN.{length, take}
use Rattle.format.specs.Bytes.{Bytes, pick, is_allowed, all, is_some}
use Rattle.format.specs.Lines.{is_ended}
use Rattle.format.specs.Pieces.{Piece, pieces, some_of}
use Rattle.format.specs.Records.{Record}
use Rattle.format.specs.Sets.{RecSet, sets_of}
use Rattle.format.specs.Limits.{file_bytes}
use Rattle.format.specs.Numbers.{Bounds, int_bounds}
use Rattle.format.specs.Rules.{distinct}
use Rattle.format.specs.Questions.{Row, first_no, ask_of, File, file_of, none_prohibited, all_allowed, all_present, none_repeated, all_typed, keys_of, size_met, singular_met, limit_rows, descriptor_rows, rule_rows, verdict_in, verdict}
use Rattle.format.proofs.Least.{leasts, Rise, first-leasts, first-append}

-- questions 4 to 14 and 30, of the sets
abbrev pub set_questions : Bounds → List (Row (List RecSet))
set_questions b = limit_rows ++ descriptor_rows b ++ rule_rows b

pub first-ask : {A B : Type 0} (f : A → B) (rs : List (Row B)) (a : A) → first_no (ask_of f rs) a ≡ first_no rs (f a)
first-ask f [] a = refl
first-ask f (r ∷ rs) a = ap (λ (n : ℕ). pick (r.asks (f a)) n r.number) (first-ask f rs a)

-- the sets' number, or 3 where the file does not read
abbrev pub read_no : Option (List Piece) → ℕ
read_no none = 3
read_no (some ps) = first_no (set_questions int_bounds) (sets_of ps)

read_no_lem : (x : Option (List Piece)) → pick (is_some x) (first_no (set_questions int_bounds) (sets_of (some_of x))) 3 ≡ read_no x
read_no_lem none = refl
read_no_lem (some ps) = refl

-- the number of a text: 2, 3, or the sets' number
unfoldable pub text_no : Bytes → ℕ
text_no s = pick (all is_allowed s && is_ended s) (read_no (pieces s)) 2

-- the verdict is 1, or the number of the used text
pub verdict-text : (buffer : Bytes) (used : ℕ) → verdict buffer used ≡ pick (leb used (length buffer) && leb used file_bytes) (text_no (take used buffer)) 1
unfolding verdict verdict_in file_of text_no
verdict-text buffer used =
    let s : Bytes = take used buffer in
    let f : File = file_of buffer used in
    let e : first_no (ask_of (λ (g : File). g.sets) (set_questions int_bounds)) f ≡ first_no (set_questions int_bounds) (sets_of (some_of (pieces s))) = first-ask (λ (g : File). g.sets) (set_questions int_bounds) f in
    ap (λ (n : ℕ). pick (leb used (length buffer) && leb used file_bytes) (pick (all is_allowed s && is_ended s) (pick (is_some (pieces s)) n 3) 2) 1) e
    ∙ ap (λ (n : ℕ). pick (leb used (length buffer) && leb used file_bytes) (pick (all is_allowed s && is_ended s) n 2) 1) (read_no_lem (pieces s))

-- questions 8 to 12 of one record under rules
abbrev pub record_rows : Bounds → Record → List (Row Record)
record_rows b rules =
    record { number = 8; asks = none_prohibited rules } ∷
    record { number = 9; asks = all_allowed rules } ∷
    record { number = 10; asks = all_present rules } ∷
    record { number = 11; asks = none_repeated rules } ∷
    record { number = 12; asks = all_typed b rules } ∷ []

-- questions 13, 14 and 30 of one set
abbrev pub whole_rows : Bounds → List (Row RecSet)
whole_rows b =
    record { number = 13; asks = λ (s : RecSet). distinct (keys_of s) } ∷
    record { number = 14; asks = size_met b } ∷
    record { number = 30; asks = singular_met } ∷ []

abbrev member_rows : Bounds → List (Row RecSet)
member_rows b =
    record { number = 8; asks = λ (s : RecSet). all (none_prohibited s.rules) s.members } ∷
    record { number = 9; asks = λ (s : RecSet). all (all_allowed s.rules) s.members } ∷
    record { number = 10; asks = λ (s : RecSet). all (all_present s.rules) s.members } ∷
    record { number = 11; asks = λ (s : RecSet). all (none_repeated s.rules) s.members } ∷
    record { number = 12; asks = λ (s : RecSet). all (all_typed b s.rules) s.members } ∷ []

abbrev set_rows : Bounds → List (Row RecSet)
set_rows b = member_rows b ++ whole_rows b

-- the number of a record under rules, and of a set
unfoldable pub record_no : Bounds → Record → Record → ℕ
record_no b rules r = first_no (record_rows b rules) r

unfoldable pub set_no : Bounds → RecSet → ℕ
set_no b s =
    let k : ℕ = leasts (map (record_no b s.rules) s.members) in
    pick (eqb k 0) (first_no (whole_rows b) s) k

rise-record : (b : Bounds) (rules : Record) → Rise 0 (record_rows b rules)
rise-record b rules = omega arith

rise-set : (b : Bounds) → Rise 0 (set_rows b)
rise-set b = omega arith

set-no : (b : Bounds) (s : RecSet) → first_no (set_rows b) s ≡ set_no b s
unfolding set_no record_no
set-no b s =
    first-append (member_rows b) (whole_rows b) s (omega arith)
    ∙ ap (λ (k : ℕ). pick (eqb k 0) (first_no (whole_rows b) s) k) (first-leasts (record_rows b s.rules) (rise-record b s.rules) s.members)

sets-no : (b : Bounds) (ss : List RecSet) → map (first_no (set_rows b)) ss ≡ map (set_no b) ss
sets-no b [] = refl
sets-no b (s ∷ ss) = (λ i. set-no b s i ∷ sets-no b ss i)

-- questions 8 to 14 and 30 of the sets: the least number of a set
pub rules-no : (b : Bounds) (ss : List RecSet) → first_no (rule_rows b) ss ≡ leasts (map (set_no b) ss)
rules-no b ss = first-leasts (set_rows b) (rise-set b) ss ∙ ap leasts (sets-no b ss)
