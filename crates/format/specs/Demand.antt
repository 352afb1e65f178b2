-- Demand 3: what a list of edits leaves of a buffer, by the plain file under the same list. A list of calls stands for a list of edits (`Runs.singles`).
use Rattle.std.specs.Prelude.{ℕ, ◌+◌, ◌-◌, ◌≡◌, List, [], ◌∷◌, ◌++◌, eqb, length, take, drop, replicate}
use Rattle.std.proofs.Math.Option.{Option, none, some}
use Rattle.format.specs.Bytes.{Bytes, pick}
use Rattle.format.specs.Pieces.{bytes_of, pieces}
use Rattle.format.specs.Sets.{RecSet}
use Rattle.format.specs.Edits.{Act, Edit}
use Rattle.format.specs.Questions.{verdict}
use Rattle.format.specs.Requests.{Request, request_of}
use Rattle.format.specs.Plain.{Plain, plain_of, length_of, index_of, members_at}
use Rattle.format.specs.Runs.{Single, request_in, Told, Ran, PlainRan}
use Rattle.format.specs.Origins.{if_accepted, start_from, traced, Stays}

-- how many records an edit inserts, and how many it deletes
abbrev pub inserted : Edit → ℕ
inserted (Edit.insert new) = 1
inserted (Edit.on j a) = 0

abbrev pub deleted : Edit → ℕ
deleted (Edit.insert new) = 0
deleted (Edit.on j Act.delete) = 1
deleted (Edit.on j (Act.add p)) = 0
deleted (Edit.on j (Act.change n o c)) = 0

abbrev pub if_set : ℕ → Option ℕ → ℕ → ℕ
if_set i none n = 0
if_set i (some k) n = pick (eqb k i) n 0

-- what a request to sets does to set i: nothing where it is none or of another set
abbrev pub to_set : (Edit → ℕ) → List RecSet → ℕ → Option Request → ℕ
to_set f ss i none = 0
to_set f ss i (some q) = if_set i (index_of q.set ss) (f q.edit)

-- what the accepted edits do to set i, in all
abbrev pub tally : (Edit → ℕ) → List RecSet → ℕ → List Single → List Told → ℕ
tally f ss i [] ts = 0
tally f ss i (c ∷ cs) [] = 0
tally f ss i (c ∷ cs) (t ∷ ts) = if_accepted t.number (to_set f ss i (request_of (request_in c))) 0 + tally f ss i cs ts

-- What a list of edits leaves, given the buffer, the file's length in it and the plain file at its start.
pub record Demand (start : Bytes) (used : ℕ) (first : Plain) (edits : List Single) (r : Ran) (p : PlainRan) : Type 0 where
  -- the plain file starts as what the file reads as
  pub starts : pieces (take used start) ≡ some first.pieces
  -- each edit's number and length is the plain file's
  pub told : r.told ≡ p.told
  -- the buffer has as many bytes as at the start
  pub room : length r.buffer ≡ length start
  -- the file's bytes are the pieces', behind them zeros up to the largest length so far, and from there on what was there at the start
  pub bytes : r.buffer ≡ bytes_of p.file.pieces ++ (replicate (p.most - length_of p.file) 0 ++ drop p.most start)
  -- the file passes
  pub passes : verdict r.buffer r.length ≡ 0
  -- it reads as the plain file's pieces
  pub reads : pieces (take r.length r.buffer) ≡ some p.file.pieces
  -- which read as the plain file
  pub plain : plain_of p.file.pieces ≡ p.file
  -- "Every line that no accepted edit named or added has its bytes and its order."
  pub stays : Stays first.pieces (traced (length start) edits first (record { standing = start_from 0 first.pieces; named = [] })) p.file.pieces
  -- each set has as many records as at the start, more by the accepted inserts and less by the accepted deletes
  pub counts : (i : ℕ) → length (members_at i p.file.sets) + tally deleted first.sets i edits r.told ≡ length (members_at i first.sets) + tally inserted first.sets i edits r.told
  -- the length at the end is the plain file's
  pub length : r.length ≡ length_of p.file
