-- A part in which no line begins with a percent sign has no descriptor: all its records are of one set.
use Rattle.std.specs.Prelude.{Option, Some}
use Rattle.totals.specs.declared.parts.Part.{Part}
use Prim.Native.Nat.{ℕ, ◌+◌, ◌-◌, ◌<◌, ◌≤◌}
use native.Mathlib.Omega.{arith}
use mathlib.Core.Path.{◌≡◌, refl, sym, ap, ◌∙◌, subst}
use mathlib.Core.Bool.{Bool, true, false, ◌&&◌, ◌||◌, or-false, false≢true}
use mathlib.Core.List.{List, [], ◌∷◌, ◌++◌, append_assoc}
use lib.Dec.{eqb}
use lib.ListN.{length, drop, get_or, drop_of_length-le}
use borrow.Author.Tests.{ne_eqb, eqb-false}
use Rattle.format.specs.Bytes.{Bytes, text, pick, same}
use Rattle.format.specs.Lists.{is_filled}
use Rattle.format.specs.Lines.{Line, bytes, is_special}
use Rattle.format.specs.Pieces.{Piece, all_lines, bytes_of, read_of}
use Rattle.format.specs.Records.{Record, fields_of}
use Rattle.format.specs.Sets.{values_of, RecSet, sets_of}
use Rattle.format.specs.Questions.{values_in}
use Rattle.format.specs.Plain.{set_at, members_at, members_in}
use Rattle.format.proofs.Elements.{Each}
use Rattle.format.proofs.Whole.{bytesOf-append, Sound}
use Rattle.format.proofs.Renaming.{sound-starts}
use Rattle.format.proofs.Records.{records, sets-records}
use Rattle.format.proofs.Walking.{before, sets-heads}
use Rattle.lines.proofs.Cuts.{at-cons, rest}
use Rattle.words.specs.Spans.{span}
use Rattle.records.specs.Places.{is_readable}
use Rattle.records.specs.declared.Head.{Head}
use Rattle.records.specs.Sets.{set_behind}
use Rattle.records.specs.declared.RecordSet.{RecordSet}
use Rattle.records.proofs.Cuts.{fields-records}
use Rattle.records.proofs.Readings.{readable-reads}
use Rattle.records.proofs.Members.{HeadFound}
use Rattle.records.proofs.SetOf.{SetOf, members-at, head-set}
use Rattle.totals.specs.Parts.{special_line, PartTold}
use Rattle.totals.proofs.Totalling.{values-flat}

or-first : (a b : Bool) → (a || b) ≡ false → a ≡ false
or-first true b e = absurd (false≢true (sym e))
or-first false b e = refl

or-second : (a b : Bool) → (a || b) ≡ false → b ≡ false
or-second true b e = absurd (false≢true (sym e))
or-second false b e = e

or-joined : (a b c : Bool) → (a || (b || c)) ≡ ((a || b) || c)
or-joined true b c = refl
or-joined false b c = refl

-- byte by byte
first_byte : (s : Bytes) → special_line 10 s ≡ (eqb (get_or s 0 0) 37 || special_line (get_or s 0 0) (drop 1 s))
first_byte [] = refl
first_byte (c ∷ s) = refl

pub special-start : (s : Bytes) (b : ℕ) → b ≡ get_or s 0 0 → special_line 10 s ≡ (eqb b 37 || special_line (get_or s 0 0) (drop 1 s))
special-start s b e = first_byte s ∙ ap (λ (x : ℕ). eqb x 37 || special_line (get_or s 0 0) (drop 1 s)) (sym e)

module _ (s : Bytes) (i : ℕ) (found : Bool) (e : special_line 10 s ≡ (found || special_line (get_or s (i - 1) 0) (drop i s))) where
  pub special-more : i < length s → special_line 10 s ≡ ((found || (eqb (get_or s (i - 1) 0) 10 && eqb (get_or s i 0) 37)) || special_line (get_or s (i + 1 - 1) 0) (drop (i + 1) s))
  special-more h =
      let b : ℕ = get_or s (i - 1) 0 in
      let here : Bool = eqb b 10 && eqb (get_or s i 0) 37 in
      let z : i ≡ i + 1 - 1 = omega arith in
      e
      ∙ ap (λ (t : Bytes). found || special_line b t) (at-cons s i h)
      ∙ or-joined found here (special_line (get_or s i 0) (drop (i + 1) s))
      ∙ ap (λ (j : ℕ). (found || here) || special_line (get_or s j 0) (drop (i + 1) s)) z

  pub special-end : length s ≤ i → found ≡ special_line 10 s
  special-end h = sym (e ∙ ap (λ (t : Bytes). found || special_line (get_or s (i - 1) 0) t) (drop_of_length-le s h) ∙ or-false found)

-- line by line
line-behind : (b : ℕ) (l : Line) (r : Bytes) → special_line b (l ++ (10 ∷ r)) ≡ false → special_line 10 r ≡ false
line-behind b [] r e = or-second (eqb b 10 && eqb 10 37) (special_line 10 r) e
line-behind b (c ∷ l) r e = line-behind c l r (or-second (eqb b 10 && eqb c 37) (special_line c (l ++ (10 ∷ r))) e)

lines-behind : (ls : List Line) (r : Bytes) → special_line 10 (bytes ls ++ r) ≡ false → special_line 10 r ≡ false
lines-behind [] r e = e
lines-behind (l ∷ ls) r e = lines-behind ls r (line-behind 10 l (bytes ls ++ r) (ap (special_line 10) (sym (append_assoc l (10 ∷ bytes ls) r)) ∙ e))

-- piece by piece
piece-behind : (p : Piece) (ps : List Piece) → special_line 10 (bytes_of (p ∷ ps)) ≡ false → special_line 10 (bytes_of ps) ≡ false
unfolding bytes_of
piece-behind p ps e = lines-behind (all_lines (p ∷ [])) (bytes_of ps) (ap (special_line 10) (sym (bytesOf-append (p ∷ []) ps)) ∙ e)

name-plain : (n v : Bytes) (ls : List Line) (ps : List Piece) (l : Line) (others : List Line) (t : Bytes) → ls ≡ l ∷ others → l ≡ n ++ (58 ∷ t) → special_line 10 (bytes_of (Piece.field n v ls ∷ ps)) ≡ false → is_special n ≡ false
unfolding bytes_of
name-plain [] v ls ps l others t q h e = refl
name-plain (c ∷ m) v ls ps l others t q h e =
    let behind : Bytes = 10 ∷ bytes (others ++ all_lines ps) in
    let k : bytes_of (Piece.field (c ∷ m) v ls ∷ ps) ≡ c ∷ ((m ++ (58 ∷ t)) ++ behind) = ap (λ (x : List Line). bytes (x ++ all_lines ps)) q ∙ ap (λ (y : Line). y ++ behind) h in
    or-first (eqb c 37) (special_line c ((m ++ (58 ∷ t)) ++ behind)) (ap (special_line 10) (sym k) ∙ e)

plain-not-rec : (n : Bytes) → is_special n ≡ false → same (text "%rec") n ≡ false
plain-not-rec [] e = refl
plain-not-rec (c ∷ s) e = ap (λ (b : Bool). b && same (text "rec") s) (ne_eqb 37 c (λ q. eqb-false c 37 e (sym q)))

none-described : (ps : List Piece) → Each Sound ps → special_line 10 (bytes_of ps) ≡ false → values_of (text "%rec") (fields_of ps) ≡ []
none-described [] s e = refl
none-described (Piece.blank l ∷ ps) s e = none-described ps s.1 (piece-behind (Piece.blank l) ps e)
none-described (Piece.comment l ∷ ps) s e = none-described ps s.1 (piece-behind (Piece.comment l) ps e)
none-described (Piece.field n v ls ∷ ps) s e =
    let h = sound-starts n v ls s.0 in
    let vs : List Bytes = values_of (text "%rec") (fields_of ps) in
    let q : same (text "%rec") n ≡ false = plain-not-rec n (name-plain n v ls ps h.0 h.1 h.2 h.3 h.4 e) in
    ap (λ (b : Bool). pick b (v ∷ vs) vs) q ∙ none-described ps s.1 (piece-behind (Piece.field n v ls) ps e)

-- record by record
parts_none : (x y : List Bytes) → x ++ y ≡ [] → (x ≡ []) × (y ≡ [])
parts_none [] y e = (refl, e)
parts_none (a ∷ x) y e = absurd (let z : ◌≡◌ {A = ℕ} 0 1 = cc in omega arith)

all-before : (rs : List Record) → values_in (text "%rec") rs ≡ [] → before rs ≡ rs
all-before [] e = refl
all-before (r ∷ rs) e =
    let h = parts_none (values_of (text "%rec") r) (values_in (text "%rec") rs) e in
    λ i. pick (is_filled (h.0 i)) [] (r ∷ all-before rs h.1 i)

plain-members : (t : Bytes) → is_readable t ≡ true → special_line 10 t ≡ false → members_at 0 (sets_of (read_of t)) ≡ records (read_of t)
plain-members t e h =
    let r = readable-reads t e in
    let rs : List Record = records (read_of t) in
    let none : values_of (text "%rec") (fields_of (read_of t)) ≡ [] = none-described (read_of t) r.sound (ap (special_line 10) r.all ∙ h) in
    let each : values_in (text "%rec") rs ≡ [] = sym (ap (values_of (text "%rec")) (fields-records (read_of t)) ∙ values-flat (text "%rec") rs) ∙ none in
    ap (members_at 0) (sets-records (read_of t) ∙ sets-heads rs) ∙ all-before rs each

-- a set behind whose head there is none of those lines has all records to the end
module _ (s n : Bytes) (h : Head) (f : HeadFound s n (sets_of (read_of s)) h) where
  abbrev ss : List RecSet
  ss = sets_of (read_of s)

  abbrev own : List Record
  own = (set_at f.set.index ss).members

  last_set : special_line 10 (drop h.begin s) ≡ false → SetOf s n (record { start = h.start; end = h.end; begin = h.begin; after = length s; count = length own })
  last_set q =
      let part : span h.begin (length s) s ≡ drop h.begin s = rest s h.begin in
      let are : members_at 0 (sets_of (read_of (drop h.begin s))) ≡ own = sym f.set.members ∙ ap (members_in ss) f.set.there ∙ members-at f.set.index ss in
      record {
        index = f.set.index;
        there = f.set.there;
        ordered = f.ordered;
        within = f.within;
        begins = f.set.inside;
        inside = omega arith;
        rules-readable = f.own-readable;
        rules = sym f.rules;
        members-readable = subst (λ (t : Bytes). is_readable t ≡ true) (sym part) f.set.readable;
        members = ap (λ (t : Bytes). records (read_of t)) part ∙ sym (plain-members (drop h.begin s) f.set.readable q) ∙ are;
        counted = refl;
      }

  pub part-last : (b : Bool) → b ≡ special_line 10 (span h.begin (length s) s) → b ≡ false → PartTold s n (Some (record { begin = h.begin; end = length s }))
  part-last b e k = (h.start, h.end, length own, last_set (ap (special_line 10) (sym (rest s h.begin)) ∙ sym e ∙ k))

  pub part-walked : (q : RecordSet) → q ≡ set_behind s h → PartTold s n (Some (record { begin = h.begin; end = q.after }))
  part-walked q e = let p : RecordSet = set_behind s h in subst (λ (x : RecordSet). PartTold s n (Some (record { begin = h.begin; end = x.after }))) (sym e) (p.start, p.end, p.count, head-set s n h f)

-- what an answer tells, once its form is known
pub part-told : (s n : Bytes) (x : Option Part) {y : Option Part} → PartTold s n x → x ≡ y → PartTold s n y
part-told s n x h e = subst (PartTold s n) e h
