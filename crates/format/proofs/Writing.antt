-- What is written reads back.
use Prim.Native.Nat.{ℕ}
use mathlib.Core.Path.{◌≡◌, refl, sym, ap, ◌∙◌, subst}
use mathlib.Core.Bool.{Bool, true, false, ◌&&◌, not, and-eq-true_iff, and-true}
use mathlib.Core.List.{List, [], ◌∷◌, ◌++◌, map, append_assoc}
use mathlib.Core.Option.{some}
use lib.Dec.{eqb}
use lib.ListN.{length}
use borrow.Author.Tests.{eqb-true, not-true}
use Rattle.format.specs.Bytes.{Bytes, pick, is_newline, is_allowed, all}
use Rattle.format.specs.Lists.{front, behind, onward}
use Rattle.format.specs.Lines.{Line, lines, bytes, is_ended, is_name, Form, form, joins, cut}
use Rattle.format.specs.Pieces.{Piece, bytes_of, all_lines, Mode, unopened, Reading, goes_on, begins, read_from, take_line}
use Rattle.format.specs.Records.{Record, count_of, fields_of}
use Rattle.format.specs.Words.{split}
use Rattle.format.specs.Written.{indent, written, Pair, written_all, new_field, new_piece, none_joins}
use Rattle.format.proofs.Elements.{Each}
use Rattle.format.proofs.Lines.{Clean, clean-append, lines-bytes, bytes-lines, bytes-append, ended-bytes, all_append, newline-joins}
use Rattle.format.proofs.Parts.{parts_behind, split-cut}
use Rattle.format.proofs.Whole.{alone, Whole, Sound, read_as}
use Rattle.format.proofs.Names.{name-clean, name-form}

-- the lines of a written field: one of its name, and a plus line for each further line of the value
abbrev plus_line : Line → Line
plus_line l = 43 ∷ 32 ∷ l

abbrev is_next : ℕ → Bool
is_next c = not (is_newline c)

abbrev first_line : Bytes → Line
first_line v = front is_next v

abbrev other_lines : Bytes → List Line
other_lines v = parts_behind is_newline (behind is_next v)

abbrev written_lines : Bytes → Bytes → List Line
written_lines n v = (n ++ (58 ∷ 32 ∷ first_line v)) ∷ map plus_line (other_lines v)

-- by the first byte: a newline ends the first line
module _ (c : ℕ) (s : Bytes) where
  abbrev first_by : Bool → Line
  first_by b = pick (not b) (c ∷ first_line s) []

  abbrev other_by : Bool → List Line
  other_by b = parts_behind is_newline (pick (not b) (behind is_next s) (c ∷ s))

bytes-by : (c : ℕ) (s : Bytes) (b : Bool) → is_newline c ≡ b → first_line s ++ (10 ∷ bytes (map plus_line (other_lines s))) ≡ indent s ++ (10 ∷ [])
    → first_by c s b ++ (10 ∷ bytes (map plus_line (other_by c s b))) ≡ (c ∷ pick b (43 ∷ 32 ∷ indent s) (indent s)) ++ (10 ∷ [])
bytes-by c s true q e =
    ap {B = Bytes} (λ ls. 10 ∷ bytes (map plus_line ls)) (split-cut is_newline s)
    ∙ ap {B = Bytes} (λ x. 10 ∷ 43 ∷ 32 ∷ x) e
    ∙ ap {B = Bytes} (λ x. x ∷ 43 ∷ 32 ∷ (indent s ++ (10 ∷ []))) (sym (eqb-true c 10 q))
bytes-by c s false q e = ap {B = Bytes} (λ x. c ∷ x) e

bytes-parts : (v : Bytes) → first_line v ++ (10 ∷ bytes (map plus_line (other_lines v))) ≡ indent v ++ (10 ∷ [])
bytes-parts [] = refl
bytes-parts (c ∷ s) = bytes-by c s (is_newline c) refl (bytes-parts s)

bytes-written : (n v : Bytes) → bytes (written_lines n v) ≡ written n v
unfolding written
bytes-written n v = append_assoc n (58 ∷ 32 ∷ first_line v) (10 ∷ bytes (map plus_line (other_lines v))) ∙ ap {B = Bytes} (λ x. n ++ (58 ∷ 32 ∷ x)) (bytes-parts v)

-- a written text ends in a newline, so its lines' bytes are the text
written-ended : (n v : Bytes) → is_ended (written n v) ≡ true
written-ended n v = sym (ap is_ended (bytes-written n v)) ∙ ended-bytes (written_lines n v)

pub written-bytes : (p : Pair) → bytes (lines (written p.name p.value)) ≡ written p.name p.value
written-bytes p = bytes-lines (written p.name p.value) (written-ended p.name p.value)

pub written_count : (p : Pair) → count_of (lines (written p.name p.value)) ≡ length (written p.name p.value)
written_count p = ap length (written-bytes p)

pub writtenAll-bytes : (ps : List Pair) → bytes_of (map new_piece ps) ≡ written_all ps
unfolding bytes_of
writtenAll-bytes [] = refl
writtenAll-bytes (p ∷ ps) =
    let s : Bytes = written p.name p.value in
    bytes-append (lines s) (all_lines (map new_piece ps)) ∙ ap (λ (x : Bytes). x ++ bytes (all_lines (map new_piece ps))) (written-bytes p) ∙ ap (λ (x : Bytes). s ++ x) (writtenAll-bytes ps)

-- a written field's lines hold no newline
clean-by : (c : ℕ) (s : Bytes) (b : Bool) → is_newline c ≡ b → Clean (first_line s) × Each Clean (map plus_line (other_lines s)) → Clean (first_by c s b) × Each Clean (map plus_line (other_by c s b))
clean-by c s true q h = (tt, subst (λ (ls : List Line). Each Clean (map plus_line ls)) (sym (split-cut is_newline s)) ((refl, (refl, h.0)), h.1))
clean-by c s false q h = ((q, h.0), h.1)

parts-clean : (v : Bytes) → Clean (first_line v) × Each Clean (map plus_line (other_lines v))
parts-clean [] = (tt, tt)
parts-clean (c ∷ s) = clean-by c s (is_newline c) refl (parts-clean s)

written-clean : (n v : Bytes) → is_name n ≡ true → Each Clean (written_lines n v)
written-clean n v e = (clean-append n (58 ∷ 32 ∷ first_line v) (name-clean n e) (refl, (refl, (parts-clean v).0)), (parts-clean v).1)

written-lines : (n v : Bytes) → is_name n ≡ true → lines (written n v) ≡ written_lines n v
written-lines n v e = sym (ap lines (bytes-written n v)) ∙ lines-bytes (written_lines n v) (written-clean n v e)

-- and read as the field
cut-same : (l : Line) → joins l ≡ false → cut l ≡ l
cut-same [] e = refl
cut-same (c ∷ []) e = ap (λ (b : Bool). pick b [] (c ∷ [])) e
cut-same (c ∷ d ∷ s) e = ap {B = Bytes} (λ x. c ∷ x) (cut-same (d ∷ s) e)

abbrev tails : List Line → Bytes
tails [] = []
tails (l ∷ ls) = (10 ∷ l) ++ tails ls

join_by : (c : ℕ) (s : Bytes) (b : Bool) → is_newline c ≡ b → first_line s ++ tails (other_lines s) ≡ s → first_by c s b ++ tails (other_by c s b) ≡ c ∷ s
join_by c s true q e = ap tails (split-cut is_newline s) ∙ ap {B = Bytes} (λ x. 10 ∷ x) e ∙ ap {B = Bytes} (λ x. x ∷ s) (sym (eqb-true c 10 q))
join_by c s false q e = ap {B = Bytes} (λ x. c ∷ x) e

join-parts : (v : Bytes) → first_line v ++ tails (other_lines v) ≡ v
join-parts [] = refl
join-parts (c ∷ s) = join_by c s (is_newline c) refl (join-parts s)

more-reads : (v : Bytes) (l : Line) (ls : List Line) (r : Reading) → joins v ≡ false → read_from Mode.opened ls ≡ some r → read_as (Form.more v) l ls ≡ some (goes_on v l r)
more-reads v l ls r j e =
    ap (λ (b : Bool). onward (take_line (Form.more v) l) (read_from (pick b Mode.joined Mode.opened) ls)) j
    ∙ ap (onward (take_line (Form.more v) l)) e ∙ ap (λ (x : Bytes). some (goes_on x l r)) (cut-same v j)

abbrev further : List Line → Reading
further ls = record { value = tails ls; own = map plus_line ls; pieces = [] }

pluses-read : (ls : List Line) → none_joins ls ≡ true → read_from Mode.opened (map plus_line ls) ≡ some (further ls)
pluses-read [] e = refl
pluses-read (l ∷ ls) e =
    let h = (and-eq-true_iff (not (joins l)) (none_joins ls)).0 e in
    more-reads (10 ∷ l) (plus_line l) (map plus_line ls) (further ls) (newline-joins l ∙ not-true (joins l) h.0) (pluses-read ls h.1)

field-reads : (n f : Bytes) (l : Line) (ls : List Line) (r : Reading) → form l ≡ Form.field n f → joins f ≡ false → read_from Mode.opened ls ≡ some r → read_from Mode.closed (l ∷ ls) ≡ some (begins (Piece.field n (f ++ r.value) (l ∷ r.own)) r)
field-reads n f l ls r e j h =
    ap (λ (F : Form). read_as (unopened F) l ls) e
    ∙ ap (λ (b : Bool). onward (take_line (Form.field n f) l) (read_from (pick b Mode.joined Mode.opened) ls)) j
    ∙ ap (onward (take_line (Form.field n f) l)) h
    ∙ ap (λ (x : Bytes). some (begins (Piece.field n (x ++ r.value) (l ∷ r.own)) r)) (cut-same f j)

written-whole : (n v : Bytes) → is_name n ≡ true → none_joins (split 10 v) ≡ true → Whole (Piece.field n v (written_lines n v))
written-whole n v en ev =
    let f : Line = first_line v in
    let ls : List Line = other_lines v in
    let h = (and-eq-true_iff (not (joins f)) (none_joins ls)).0 (sym (ap none_joins (split-cut is_newline v)) ∙ ev) in
    field-reads n f (n ++ (58 ∷ 32 ∷ f)) (map plus_line ls) (further ls) (name-form n (32 ∷ f) en) (not-true (joins f) h.0) (pluses-read ls h.1)
    ∙ ap (λ (x : Bytes). some (alone (Piece.field n x (written_lines n v) ∷ []))) (join-parts v)

pub written-sound : (n v : Bytes) → is_name n ≡ true → none_joins (split 10 v) ≡ true → Sound (new_piece (record { name = n; value = v }))
written-sound n v en ev = subst (λ (ls : List Line). Sound (Piece.field n v ls)) (sym (written-lines n v en)) (written-clean n v en, written-whole n v en ev)

-- the fields of new pieces
pub field-new : (p : Pair) (r : Record) → fields_of (new_piece p ∷ []) ++ r ≡ new_field p ∷ r
field-new p r = ap {B = Record} (λ k. record { name = p.name; value = p.value; count = k } ∷ r) (written_count p)

pub fields-new : (ps : List Pair) → fields_of (map new_piece ps) ≡ map new_field ps
fields-new [] = refl
fields-new (p ∷ ps) = field-new p (fields_of (map new_piece ps)) ∙ ap {B = Record} (λ r. new_field p ∷ r) (fields-new ps)

-- what is written is allowed where the name and the value are
indent-by-allowed : (b : Bool) (c : ℕ) (s t : Bytes) → all is_allowed s ≡ all is_allowed t → all is_allowed (c ∷ pick b (43 ∷ 32 ∷ s) s) ≡ (is_allowed c && all is_allowed t)
indent-by-allowed true c s t e = ap (λ (x : Bool). is_allowed c && x) e
indent-by-allowed false c s t e = ap (λ (x : Bool). is_allowed c && x) e

indent-allowed : (v : Bytes) → all is_allowed (indent v) ≡ all is_allowed v
indent-allowed [] = refl
indent-allowed (c ∷ s) = indent-by-allowed (eqb c 10) c (indent s) s (indent-allowed s)

pub allowed-written : (n v : Bytes) → all is_allowed (written n v) ≡ (all is_allowed n && all is_allowed v)
unfolding written
allowed-written n v =
    all_append is_allowed n (58 ∷ 32 ∷ (indent v ++ (10 ∷ [])))
    ∙ ap (λ (t : Bool). all is_allowed n && t) (all_append is_allowed (indent v) (10 ∷ []) ∙ and-true (all is_allowed (indent v)) ∙ indent-allowed v)
