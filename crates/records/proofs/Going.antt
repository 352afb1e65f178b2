-- A record that goes on: fields that were met since the last blank line stand in front of the pieces that follow.
use Prim.Native.Nat.{ℕ, ◌+◌, ◌-◌}
use mathlib.Core.Path.{◌≡◌, sym, ap, ◌∙◌}
use mathlib.Core.List.{List, [], ◌∷◌, ◌++◌, append-nil, append_assoc}
use lib.ListN.{take, drop}
use Rattle.format.proofs.Records.{close, records_in, records}
use Rattle.format.specs.Bytes.{Bytes}
use Rattle.format.specs.Lists.{onto}
use Rattle.format.specs.Lines.{Line}
use Rattle.format.specs.Pieces.{Piece, read_of}
use Rattle.format.specs.Records.{Field, Record, Block, fields_of}
use Rattle.values.specs.Value.{value_from}
use Rattle.records.specs.Walk.{until_blank, from_blank}
use Rattle.records.proofs.Walks.{run-blocks}
use Rattle.records.proofs.Steps.{Passed, FieldAt}
use Rattle.records.proofs.Cuts.{records_from}

-- the records of pieces, the first of which goes on behind the fields fs
unfoldable pub go_on : Record → List Piece → List Record
go_on fs ps = close (fs ++ fields_of (until_blank ps)) (records (from_blank ps))

-- the same from a byte on
abbrev pub going_from : Record → Bytes → ℕ → List Record
going_from fs s i = go_on fs (read_of (drop i s))

pub going-none : (ps : List Piece) → go_on [] ps ≡ records ps
unfolding go_on records
going-none ps =
    let b = run-blocks ps in
    ap (λ (bs : List Block). close (fields_of (until_blank ps)) (records_in bs)) b.2 ∙ sym (ap (λ (bs : List Block). records_in bs) b.1)

-- a blank line before pieces
pub records-blank : (l : Line) (ps : List Piece) → records (Piece.blank l ∷ ps) ≡ records ps
unfolding records
records-blank l ps =
    let b = run-blocks ps in
    ap (λ (bs : List Block). records_in ([] ∷ onto (Piece.blank l) bs)) b.1 ∙ sym (ap (λ (bs : List Block). records_in bs) b.1)

-- step by step
module _ (fs : Record) (s : Bytes) (i : ℕ) where
  pub going_end : read_of (drop i s) ≡ [] → going_from fs s i ≡ close fs []
  unfolding go_on records
  going_end e = ap (go_on fs) e ∙ ap (λ (r : Record). close r []) (append-nil fs)

  pub going-blank : (l : Line) (k : ℕ) → Passed s i (Piece.blank l) k → going_from fs s i ≡ close fs (records_from s (i + k))
  unfolding go_on
  going-blank l k p = ap (go_on fs) p.reads ∙ (λ j. close (append-nil fs j) (records-blank l (read_of (drop (i + k) s)) j))

  pub going-comment : (l : Line) (k : ℕ) → Passed s i (Piece.comment l) k → going_from fs s i ≡ going_from fs s (i + k)
  unfolding go_on
  going-comment l k p = ap (go_on fs) p.reads

  pub going-field : (n v k : ℕ) → FieldAt s i n v k
      → going_from fs s i ≡ going_from (fs ++ (record { name = take ((i + n) - i) (drop i s); value = value_from (take ((i + k) - (i + v)) (drop (i + v) s)); count = k } ∷ [])) s (i + k)
  unfolding go_on
  going-field n v k f =
      let ps = read_of (drop (i + k) s) in
      let here : Field = record { name = take ((i + n) - i) (drop i s); value = value_from (take ((i + k) - (i + v)) (drop (i + v) s)); count = k } in
      ap (go_on fs) f.passed.reads
      ∙ (λ d. close (fs ++ (record { name = sym f.named d; value = sym f.decodes d; count = f.passed.size d } ∷ fields_of (until_blank ps))) (records (from_blank ps)))
      ∙ ap (λ (r : Record). close r (records (from_blank ps))) (sym (append_assoc fs (here ∷ []) (fields_of (until_blank ps))))
