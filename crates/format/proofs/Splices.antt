-- What an edit on pieces does to the bytes: pieces that take the place of others are a splice.
use Prim.Native.Nat.{ℕ, ◌+◌, ◌-◌, ◌≤◌, ◌<◌}
use native.Mathlib.Omega.{arith}
use mathlib.Core.Path.{◌≡◌, refl, sym, ap, ◌∙◌}
use mathlib.Core.Bool.{true}
use mathlib.Core.Option.{some}
use mathlib.Core.List.{List, [], ◌∷◌, ◌++◌, append_assoc, append-nil, map}
use lib.ListN.{length, take, drop, length-append, length-drop}
use lib.Seq.{length-take-le, take_at, drop_at, drop-drop, drop-append-le}
use Rattle.format.specs.Bytes.{Bytes, all}
use Rattle.format.specs.Lines.{Line, bytes}
use Rattle.format.specs.Pieces.{Piece, lines_of, all_lines, bytes_of, pieces}
use Rattle.format.specs.Sets.{sets_of}
use Rattle.format.specs.Written.{Pair, written, written_all, new_field, new_piece}
use Rattle.format.specs.Edits.{renamed_lines, newline, newline_if, in_front}
use Rattle.format.proofs.Elements.{Each, each-imp, all-each}
use Rattle.format.proofs.Lines.{bytes-append}
use Rattle.format.proofs.Legal.{is_writable, writable-name, ordinary-not-rec, record-reads-back}
use Rattle.format.proofs.Named.{NotRec}
use Rattle.format.proofs.Grouping.{set_by}
use Rattle.format.proofs.Regrouping.{sets-front}
use Rattle.format.proofs.Whole.{Sound, bytesOf-append}
use Rattle.format.proofs.Writing.{written-bytes, writtenAll-bytes}
use Rattle.format.proofs.Renaming.{sound-starts}

-- a text with its bytes from a to e replaced
abbrev pub spliced : Bytes → ℕ → ℕ → Bytes → Bytes
spliced s a e new = take a s ++ (new ++ drop e s)

pub spliced-length : (s : Bytes) (a e : ℕ) (new : Bytes) → a ≤ e → e ≤ length s → length (spliced s a e new) ≡ a + (length new + (length s - e))
spliced-length s a e new h k =
    omega (arith, length-append (take a s) (new ++ drop e s), length-append new (drop e s), length-take-le a s (omega arith), length-drop e s)

-- the bytes before some pieces, and those behind them
module _ (s : Bytes) (x m y : List Piece) (a e : ℕ) (all : bytes_of (x ++ (m ++ y)) ≡ s) (begins : length (bytes_of x) ≡ a) (ends : a + length (bytes_of m) ≡ e) where
  parts : s ≡ bytes_of x ++ (bytes_of m ++ bytes_of y)
  parts = sym all ∙ bytesOf-append x (m ++ y) ∙ ap (λ (z : Bytes). bytes_of x ++ z) (bytesOf-append m y)

  before : take a s ≡ bytes_of x
  before = ap (take a) parts ∙ take_at (bytes_of x) (bytes_of m ++ bytes_of y) a begins

  pub splice-from : drop a s ≡ bytes_of m ++ bytes_of y
  splice-from = ap (drop a) parts ∙ drop_at (bytes_of x) (bytes_of m ++ bytes_of y) a begins

  pub splice-behind : drop e s ≡ bytes_of y
  splice-behind =
      let k : ℕ = length (bytes_of m) in
      ap (λ (j : ℕ). drop j s) (sym ends) ∙ sym (drop-drop k a s) ∙ ap (drop k) splice-from ∙ drop_at (bytes_of m) (bytes_of y) k refl

  -- pieces in their place
  pub splice : (new : List Piece) → bytes_of (x ++ (new ++ y)) ≡ spliced s a e (bytes_of new)
  splice new =
      bytesOf-append x (new ++ y) ∙ ap (λ (z : Bytes). bytes_of x ++ z) (bytesOf-append new y)
      ∙ (λ i. sym before i ++ (bytes_of new ++ sym splice-behind i))

-- the bytes of one piece, and of pieces that are written
pub piece_bytes : (p : Piece) → bytes_of (p ∷ []) ≡ bytes (lines_of p)
unfolding bytes_of
piece_bytes p = ap bytes (append-nil (lines_of p))

pub new-bytes : (q : Pair) → bytes_of (new_piece q ∷ []) ≡ written q.name q.value
new-bytes q = piece_bytes (new_piece q) ∙ written-bytes q

pub newline-bytes : (new : List Pair) → bytes_of (newline ∷ map new_piece new) ≡ 10 ∷ written_all new
unfolding bytes_of
newline-bytes new = ap {B = Bytes} (λ x. 10 ∷ x) (writtenAll-bytes new)

-- a renamed field: its bytes behind the name stay
pub rename-bytes : (n v : Bytes) (ls : List Line) (m : Bytes) → Sound (Piece.field n v ls) → (length n < length (bytes ls)) × (bytes (renamed_lines n m ls) ≡ m ++ drop (length n) (bytes ls))
rename-bytes n v ls m h = go ls (sound-starts n v ls h)
  where
    go : (ls : List Line) → (l : Line) × (rest : List Line) × (t : Bytes) × (ls ≡ l ∷ rest) × (l ≡ n ++ (58 ∷ t)) → (length n < length (bytes ls)) × (bytes (renamed_lines n m ls) ≡ m ++ drop (length n) (bytes ls))
    go [] f = let e = f.3 in absurd (let z : ◌≡◌ {A = ℕ} 0 1 = cc in omega arith)
    go (l ∷ own) f =
        let g = f.3 in
        let e : l ≡ n ++ (58 ∷ f.2) = cc in
        let k : length n < length l = omega (arith, ap length e, length-append n (58 ∷ f.2)) in (
          omega (arith, length-append l (10 ∷ bytes own)),
          append_assoc m (drop (length n) l) (10 ∷ bytes own) ∙ ap (λ (z : Bytes). m ++ z) (sym (drop-append-le (length n) l (10 ∷ bytes own) (omega arith))),
        )

-- In front of a file: the record, then a newline unless the file is empty.
abbrev pub gap_bytes : Bytes → Bytes
gap_bytes [] = []
gap_bytes (c ∷ s) = 10 ∷ []

gap-some : (s : Bytes) → 0 < length s → gap_bytes s ≡ 10 ∷ []
gap-some [] h = absurd (omega arith)
gap-some (c ∷ s) h = refl

line-some : (l : Line) (ls : List Line) → 0 < length (bytes (l ∷ ls))
line-some l ls = omega (arith, length-append l (10 ∷ bytes ls))

sound-some : (p : Piece) → Sound p → (ps : List Piece) → 0 < length (bytes_of (p ∷ ps))
unfolding bytes_of
sound-some (Piece.blank l) h ps = line-some l (all_lines ps)
sound-some (Piece.comment l) h ps = line-some l (all_lines ps)
sound-some (Piece.field n v ls) h ps =
    let f = sound-starts n v ls h in
    omega (arith, ap length (bytes-append ls (all_lines ps)), length-append (bytes ls) (bytes (all_lines ps)), ap (λ (x : List Line). length (bytes x)) f.3, line-some f.0 f.1)

gap-bytes : (ps : List Piece) → Each Sound ps → bytes_of (newline_if ps ++ ps) ≡ gap_bytes (bytes_of ps) ++ bytes_of ps
unfolding bytes_of
gap-bytes [] h = refl
gap-bytes (p ∷ ps) h = ap (λ (x : Bytes). x ++ bytes_of (p ∷ ps)) (sym (gap-some (bytes_of (p ∷ ps)) (sound-some p h.0 ps)))

pub front_bytes_lem : (new : List Pair) (ps : List Piece) → Each Sound ps → bytes_of (in_front new ps) ≡ written_all new ++ (gap_bytes (bytes_of ps) ++ bytes_of ps)
front_bytes_lem new ps h = bytesOf-append (map new_piece new) (newline_if ps ++ ps) ∙ (λ i. writtenAll-bytes new i ++ gap-bytes ps h i)

-- a record that is written alone reads back as a file of that record
pub set-reads-back : (p : Pair) (ps : List Pair) → all is_writable (p ∷ ps) ≡ true → (qs : List Piece) × (pieces (written_all (p ∷ ps)) ≡ some qs) × (sets_of qs ≡ set_by [] (map new_field (p ∷ ps) ∷ []) ∷ [])
unfolding sets_of
set-reads-back p ps e =
    let n = each-imp (λ (q : Pair). is_writable q ≡ true) (λ (q : Pair). NotRec q.name) (λ q x. ordinary-not-rec q.name (writable-name q x)) (p ∷ ps) (all-each is_writable (p ∷ ps) e) in
    (map new_piece (p ∷ ps), record-reads-back (p ∷ ps) e, ap sets_of (sym (append-nil (map new_piece (p ∷ ps)))) ∙ sets-front p ps n [] refl)
