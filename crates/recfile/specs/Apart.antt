-- Document 02, order 13, of calls from C: what the calls that look at one set gave, and two orders of edits. Each value is told by the equations of its call's contract.
use Rattle.std.specs.Prelude.{ℕ, ◌≡◌, ◌≢◌, List, map, length, take, drop}
use Rattle.std.proofs.Math.Option.{some}
use Rattle.format.specs.Bytes.{Bytes}
use Rattle.format.specs.Calls.{Answer, number_in, value_or, count_answer, Filled, fetch_answer, Viewed, view_answer}
use Rattle.format.specs.Runs.{request_in, singles}
use Rattle.format.proofs.Elements.{Each}
use Rattle.apart.specs.Naming.{set_named}
use Rattle.recfile.specs.Chains.{EditFromC, call_of, Left, Edited, numbers_in}

-- a call of `recfile_count`; of `recfile_fetch` with a record, a name, an occurrence and a second buffer; of `recfile_view` with a record
pub data LookFromC : Type 0 where
  count : LookFromC
  fetch : ℕ → Bytes → ℕ → Bytes → LookFromC
  view : ℕ → LookFromC

-- what it gave: what it returned, `*number`, the second buffer, and `*start`
pub record Gave : Type 0 where
  pub returned : ℕ
  pub number : ℕ
  pub out : Bytes
  pub start : ℕ

-- what its contract says of them, for a buffer, a used length and the name of a set
abbrev pub Looked : Bytes → ℕ → Bytes → LookFromC → Gave → Type 0
Looked buffer used set count g = let a : Answer = count_answer buffer used set in (g.returned ≡ value_or 0 a) × (g.number ≡ number_in a)
Looked buffer used set (fetch row name occurrence out) g = let f : Filled = fetch_answer buffer used set row name occurrence out in (g.returned ≡ value_or 0 f.result) × (g.number ≡ number_in f.result) × (g.out ≡ f.out)
Looked buffer used set (view row) g = let v : Viewed = view_answer buffer used set row in (g.returned ≡ length v.part) × (g.start ≡ value_or 0 v.result) × (g.number ≡ number_in v.result)

-- Two such calls on two buffers gave the same: what they returned, `*number`, and a second buffer; "of a view, its bytes are meant and not its place".
abbrev pub part_in : Bytes → Gave → Bytes
part_in buffer g = take g.returned (drop g.start buffer)

abbrev pub SameAnswer : LookFromC → Bytes → Gave → Bytes → Gave → Type 0
SameAnswer count b g c h = (g.returned ≡ h.returned) × (g.number ≡ h.number)
SameAnswer (fetch row name occurrence out) b g c h = (g.returned ≡ h.returned) × (g.number ≡ h.number) × (g.out ≡ h.out)
SameAnswer (view row) b g c h = (g.returned ≡ h.returned) × (g.number ≡ h.number) × (part_in b g ≡ part_in c h)

-- the requests of calls that edit, a run's among them, in their order; and that none of them names a set
abbrev pub requests_of : List EditFromC → List Bytes
requests_of cs = map request_in (singles (map call_of cs))

abbrev pub NoneNames : Bytes → List EditFromC → Type 0
NoneNames set cs = Each (λ (q : Bytes). set_named q ≢ some set) (requests_of cs)

-- every one of them was accepted
abbrev pub Accepted : List EditFromC → List Left → Type 0
Accepted cs ls = Each (λ (k : ℕ). k ≡ 0) (numbers_in cs ls)

-- Two requests given to `recfile_edit` on one buffer and length, q and then r, and r and then q: what each of the four calls left.
pub record EitherOrder (buffer : Bytes) (used : ℕ) (q r : Bytes) (q-first r-then r-first q-then : Left) : Type 0 where
  pub first_q : Edited buffer used (EditFromC.edit q) q-first
  pub then-r : Edited q-first.buffer q-first.length (EditFromC.edit r) r-then
  pub first_r : Edited buffer used (EditFromC.edit r) r-first
  pub then-q : Edited r-first.buffer r-first.length (EditFromC.edit q) q-then

-- two files alike, each in the first so many bytes of a buffer: their lengths and their bytes. "The space behind the file isn't compared."
abbrev pub AlikeFiles : Bytes → ℕ → Bytes → ℕ → Type 0
AlikeFiles b m c n = (m ≡ n) × (take m b ≡ take n c)
