-- A file that passes, passes after an accepted edit, and reads as the plain file.
use Prim.Native.Nat.{ℕ, ◌-◌, ◌≤◌, max}
use native.Mathlib.Omega.{arith}
use mathlib.Core.Path.{◌≡◌, refl, sym, ap, ◌∙◌, subst}
use mathlib.Core.Bool.{true, and-eq-true_iff, false≢true}
use mathlib.Core.List.{List, ◌++◌}
use mathlib.Core.Option.{Option, none, some}
use lib.Dec.{leb}
use lib.ListN.{length, take, drop, replicate, length-append, length-drop, length-replicate}
use lib.Seq.{take-append_seam}
use borrow.Author.Tests.{leb-true, le-leb}
use Rattle.format.specs.Bytes.{Bytes, is_allowed, all, is_some}
use Rattle.format.specs.Lines.{is_ended}
use Rattle.format.specs.Pieces.{Piece, all_lines, bytes_of, pieces, some_of, read_of}
use Rattle.format.specs.Sets.{RecSet, sets_of}
use Rattle.format.specs.Limits.{file_bytes}
use Rattle.format.specs.Numbers.{int_bounds}
use Rattle.format.specs.Questions.{file_of, limit_rows, descriptor_rows, rule_rows, verdict}
use Rattle.format.specs.Requests.{Request}
use Rattle.format.specs.Plain.{Plain, plain_of, length_of, apply}
use Rattle.format.specs.Calls.{placed}
use Rattle.format.proofs.Elements.{Each}
use Rattle.format.proofs.Lines.{ended-bytes}
use Rattle.format.proofs.Whole.{Sound, pieces-sound, sound-pieces}
use Rattle.format.proofs.Applying.{Agrees, agrees-length, agrees-sets, Granted, apply-agrees, apply-allowed}
use Rattle.format.proofs.Completing.{WholeRequest, completed-whole, whole-pairs}
use Rattle.format.proofs.Questions.{Yes, verdict-yes, yes-verdict, yes-granted, yes-fits, asked, whole-granted, Accepted, accepted-pairs, accepted-result}
use Rattle.format.proofs.Describing.{describes-once, describes-well, types-well}

-- questions 4 to 14 and 30 say yes of sets
abbrev pub SetsPass : List RecSet → Type 0
SetsPass ss = Each (Yes ss) (limit_rows ++ descriptor_rows int_bounds ++ rule_rows int_bounds)

-- what a used buffer that passes is
pub record Passes (buffer : Bytes) (used : ℕ) (ps : List Piece) : Type 0 where
  pub fits : used ≤ length buffer
  pub small : used ≤ file_bytes
  pub allowed : all is_allowed (take used buffer) ≡ true
  pub ended : is_ended (take used buffer) ≡ true
  pub reads : pieces (take used buffer) ≡ some ps
  pub sets : SetsPass (sets_of ps)

some-reads : (x : Option (List Piece)) → is_some x ≡ true → (ps : List Piece) × (x ≡ some ps)
some-reads none e = absurd (false≢true e)
some-reads (some ps) e = (ps, refl)

pub verdict-reads : (buffer : Bytes) (used : ℕ) → verdict buffer used ≡ 0 → (ps : List Piece) × (pieces (take used buffer) ≡ some ps)
unfolding file_of
verdict-reads buffer used e = some-reads (pieces (take used buffer)) (verdict-yes buffer used e).1.1.0

-- what reads is read
pub reads_as : (s : Bytes) (ps : List Piece) → pieces s ≡ some ps → read_of s ≡ ps
unfolding read_of
reads_as s ps e = ap some_of e

pub verdict-read : (buffer : Bytes) (used : ℕ) → verdict buffer used ≡ 0 → pieces (take used buffer) ≡ some (read_of (take used buffer))
verdict-read buffer used e = let r = verdict-reads buffer used e in r.1 ∙ ap {B = Option (List Piece)} (λ ps. some ps) (sym (reads_as (take used buffer) r.0 r.1))

pub verdict-passes : (buffer : Bytes) (used : ℕ) (ps : List Piece) → verdict buffer used ≡ 0 → pieces (take used buffer) ≡ some ps → Passes buffer used ps
unfolding file_of
verdict-passes buffer used ps e r =
    let y = verdict-yes buffer used e in
    let a = (and-eq-true_iff (leb used (length buffer)) (leb used file_bytes)).0 y.0 in
    let b = (and-eq-true_iff (all is_allowed (take used buffer)) (is_ended (take used buffer))).0 y.1.0 in
    record { fits = leb-true used (length buffer) a.0; small = leb-true used file_bytes a.1; allowed = b.0; ended = b.1; reads = r; sets = subst (λ (x : Option (List Piece)). SetsPass (sets_of (some_of x))) r y.1.1.1 }

pub passes-verdict : (buffer : Bytes) (used : ℕ) (ps : List Piece) → Passes buffer used ps → verdict buffer used ≡ 0
unfolding file_of
passes-verdict buffer used ps h =
    let inside = (and-eq-true_iff (leb used (length buffer)) (leb used file_bytes)).1 (le-leb used (length buffer) h.fits, le-leb used file_bytes h.small) in
    let clear = (and-eq-true_iff (all is_allowed (take used buffer)) (is_ended (take used buffer))).1 (h.allowed, h.ended) in
    let sets = subst (λ (x : Option (List Piece)). SetsPass (sets_of (some_of x))) (sym h.reads) h.sets in
    yes-verdict buffer used (inside, (clear, (ap is_some h.reads, sets)))

pub bytes-ended : (ps : List Piece) → is_ended (bytes_of ps) ≡ true
unfolding bytes_of
bytes-ended ps = ended-bytes (all_lines ps)

-- a used buffer that passes and reads as the plain file
pub record Holds (buffer : Bytes) (used : ℕ) (p : Plain) : Type 0 where
  pub passes : verdict buffer used ≡ 0
  pub reads : pieces (take used buffer) ≡ some p.pieces
  pub plain : plain_of p.pieces ≡ p

pub holds-start : (buffer : Bytes) (used : ℕ) (ps : List Piece) → verdict buffer used ≡ 0 → pieces (take used buffer) ≡ some ps → Holds buffer used (plain_of ps)
unfolding plain_of
holds-start buffer used ps e r = record { passes = e; reads = r; plain = refl }

module _ (buffer : Bytes) (used : ℕ) (p : Plain) (h : Holds buffer used p) where
  pub holds-passes : Passes buffer used p.pieces
  holds-passes = verdict-passes buffer used p.pieces h.passes h.reads

  holds-sound : Each Sound p.pieces × (bytes_of p.pieces ≡ take used buffer)
  holds-sound = pieces-sound (take used buffer) p.pieces holds-passes.ended h.reads

  pub holds-bytes : bytes_of p.pieces ≡ take used buffer
  holds-bytes = holds-sound.1

  pub holds-agrees : Agrees p
  holds-agrees = (holds-sound.0, h.plain)

  pub holds-sets : SetsPass p.sets
  holds-sets = subst SetsPass (agrees-sets p holds-agrees) holds-passes.sets

-- bytes put in the place of a used buffer's
pub placed-length : (s : Bytes) (used : ℕ) (buffer : Bytes) → length s ≤ length buffer → used ≤ length buffer → length (placed s used buffer) ≡ length buffer
placed-length s used buffer a b = simp (length-append, length-replicate, length-drop) (omega arith)

pub placed-take : (s : Bytes) (used : ℕ) (buffer : Bytes) → take (length s) (placed s used buffer) ≡ s
placed-take s used buffer = take-append_seam s (replicate (used - length s) 0 ++ drop (max used (length s)) buffer)

-- an accepted request: the result passes, and reads as what the completed request makes of the plain file
module _ (buffer : Bytes) (used : ℕ) (p : Plain) (request : Bytes) (h : Holds buffer used p) (p' : Plain) (accepted : Accepted (length buffer) p request p') where
  abbrev q : Request
  q = accepted.asks

  abbrev w : Request
  w = accepted.whole

  agrees : Agrees p
  agrees = holds-agrees buffer used p h

  passed : SetsPass p.sets
  passed = holds-sets buffer used p h

  whole : WholeRequest q w
  whole = completed-whole p q w passed.1.1.0 accepted.completes

  granted : Granted (asked (length buffer) p w)
  granted = whole-granted (length buffer) p q w whole (yes-granted int_bounds (asked (length buffer) p q) accepted.yes)

  result : (asked (length buffer) p q).result ≡ apply w p
  result = accepted-result (length buffer) p request p' accepted ∙ accepted.makes

  result-sets : SetsPass (apply w p).sets
  result-sets =
      let m = subst (λ (x : Plain). Each (Yes x.sets) (limit_rows ++ rule_rows int_bounds)) result accepted.yes.1.1.1.1.1.1.1.1 in
      (m.0, (describes-once w p granted.writable agrees passed.1.0, (describes-well int_bounds w p ∙ passed.1.1.0, (types-well int_bounds w p ∙ passed.1.1.1.0, m.1))))

  result-holds : Holds (placed (bytes_of (apply w p).pieces) used buffer) (length (bytes_of (apply w p).pieces)) (apply w p)
  result-holds =
      let r : Plain = apply w p in
      let s : Bytes = bytes_of r.pieces in
      let c = holds-passes buffer used p h in
      let b : Agrees r = apply-agrees (asked (length buffer) p w) (whole-pairs q.edit w.edit whole.1 (accepted-pairs (length buffer) p request p' accepted)) granted agrees in
      let n : length_of r ≡ length s = agrees-length r b in
      let k = yes-fits int_bounds (asked (length buffer) p q) accepted.yes in
      let z : length_of (asked (length buffer) p q).result ≡ length_of r = ap length_of result in
      let l : length s ≤ length buffer = omega (arith, k.0) in
      let t : take (length s) (placed s used buffer) ≡ s = placed-take s used buffer in
      let e : pieces (take (length s) (placed s used buffer)) ≡ some r.pieces = ap pieces t ∙ sound-pieces r.pieces b.0 in
      let v : all is_allowed s ≡ true = apply-allowed w p granted.writable agrees.0 (ap (all is_allowed) (holds-bytes buffer used p h) ∙ c.allowed) in
      let y : Passes (placed s used buffer) (length s) r.pieces = record {
        fits = subst (λ (x : ℕ). length s ≤ x) (sym (placed-length s used buffer l c.fits)) l;
        small = omega (arith, k.1);
        allowed = ap (all is_allowed) t ∙ v;
        ended = ap is_ended t ∙ bytes-ended r.pieces;
        reads = e;
        sets = subst SetsPass (sym (agrees-sets r b)) result-sets;
      } in
      record { passes = passes-verdict (placed s used buffer) (length s) r.pieces y; reads = e; plain = b.1 }

  pub edit-holds : Holds (placed (bytes_of p'.pieces) used buffer) (length (bytes_of p'.pieces)) p'
  edit-holds = subst (λ (x : Plain). Holds (placed (bytes_of x.pieces) used buffer) (length (bytes_of x.pieces)) x) (sym accepted.makes) result-holds
