-- A readable part and its pieces: the pieces are sound, and their bytes, one after another, are the part. So a part of the pieces is a readable part of the bytes.
use Prim.Native.Nat.{ℕ, ◌-◌}
use mathlib.Core.Path.{◌≡◌, refl, sym, ap, ◌∙◌, subst}
use mathlib.Core.Bool.{true, and-eq-true_iff, false≢true}
use mathlib.Core.List.{List, ◌++◌}
use mathlib.Core.Option.{Option, none, some}
use lib.ListN.{length, take, drop}
use lib.Seq.{take_at, drop_at}
use Rattle.format.proofs.Elements.{Each, each-parts}
use Rattle.format.specs.Bytes.{Bytes, is_some}
use Rattle.format.specs.Lines.{is_ended}
use Rattle.format.specs.Pieces.{Piece, all_lines, bytes_of, pieces, some_of, read_of}
use Rattle.format.specs.Records.{blocks}
use Rattle.format.proofs.Lines.{ended-bytes}
use Rattle.format.proofs.Whole.{pieces-sound, sound-pieces, bytesOf-append, Sound}
use Rattle.lines.proofs.Cuts.{rest}
use Rattle.records.specs.Places.{is_readable, size_in, places_in, places_from, places_of}

-- a part reads as pieces
pub record Reads (s : Bytes) (ps : List Piece) : Type 0 where
  pub sound : Each Sound ps
  pub all : bytes_of ps ≡ s

pub reads-pieces : {s : Bytes} {ps : List Piece} → Reads s ps → pieces s ≡ some ps
reads-pieces {s} {ps} r = subst (λ (x : Bytes). pieces x ≡ some ps) r.all (sound-pieces ps r.sound)

pub reads-ended : {s : Bytes} {ps : List Piece} → Reads s ps → is_ended s ≡ true
unfolding bytes_of
reads-ended {s} {ps} r = subst (λ (x : Bytes). is_ended x ≡ true) r.all (ended-bytes (all_lines ps))

pub reads-readable : {s : Bytes} {ps : List Piece} → Reads s ps → is_readable s ≡ true
unfolding is_readable
reads-readable {s} {ps} r = rw (reads-ended r, reads-pieces r)

pub reads_of : {s : Bytes} {ps : List Piece} → Reads s ps → read_of s ≡ ps
unfolding read_of
reads_of r = ap some_of (reads-pieces r)

pub reads-length : {s : Bytes} {ps : List Piece} → Reads s ps → size_in ps ≡ length s
reads-length r = ap length r.all

pub readable-ended : (s : Bytes) → is_readable s ≡ true → is_ended s ≡ true
unfolding is_readable
readable-ended s e = ((and-eq-true_iff (is_ended s) (is_some (pieces s))).0 e).0

some_read : (x : Option (List Piece)) → is_some x ≡ true → x ≡ some (some_of x)
some_read none e = absurd (false≢true e)
some_read (some ps) e = refl

pub readable-pieces : (s : Bytes) → is_readable s ≡ true → pieces s ≡ some (read_of s)
unfolding is_readable read_of
readable-pieces s e = some_read (pieces s) ((and-eq-true_iff (is_ended s) (is_some (pieces s))).0 e).1

pub readable-reads : (s : Bytes) → is_readable s ≡ true → Reads s (read_of s)
readable-reads s e = let h = pieces-sound s (read_of s) (readable-ended s e) (readable-pieces s e) in record { sound = h.0; all = h.1 }

-- the front of the pieces, and the rest
module _ {s : Bytes} (a b : List Piece) (r : Reads s (a ++ b)) where
  halves : s ≡ bytes_of a ++ bytes_of b
  halves = sym r.all ∙ bytesOf-append a b

  pub reads-take : (n : ℕ) → size_in a ≡ n → Reads (take n s) a
  reads-take n e = record { sound = (each-parts Sound a b r.sound).0; all = sym (ap (take n) halves ∙ take_at (bytes_of a) (bytes_of b) n e) }

  pub reads-drop : (n : ℕ) → size_in a ≡ n → Reads (drop n s) b
  reads-drop n e = record { sound = (each-parts Sound a b r.sound).1; all = sym (ap (drop n) halves ∙ drop_at (bytes_of a) (bytes_of b) n e) }

-- what a part `&s[i..]` holds
pub part-readable : (s : Bytes) (i : ℕ) → is_readable (drop i s) ≡ true → is_readable (take (length s - i) (drop i s)) ≡ true
part-readable s i e = rw (rest s i) e

pub part-ended : (s : Bytes) (i : ℕ) → is_readable (drop i s) ≡ true → is_ended (take (length s - i) (drop i s)) ≡ true
part-ended s i e = readable-ended (take (length s - i) (drop i s)) (part-readable s i e)

-- the places of the part, by its pieces
places-from : (x : Option (List Piece)) → places_from x ≡ places_in 0 (blocks (some_of x))
places-from none = refl
places-from (some ps) = refl

pub places-read : (s : Bytes) → places_of s ≡ places_in 0 (blocks (read_of s))
unfolding places_of read_of
places-read s = places-from (pieces s)

pub reads-places : {s : Bytes} {ps : List Piece} → Reads s ps → places_of s ≡ places_in 0 (blocks ps)
reads-places {s} {ps} r = places-read s ∙ ap (λ (x : List Piece). places_in 0 (blocks x)) (reads_of r)
