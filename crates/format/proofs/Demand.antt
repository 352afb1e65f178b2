-- Demand 3, over every buffer whose file passes and every list of calls with requests of any bytes: the list does to the buffer what it does to the plain file.
use Prim.Native.Nat.{ℕ, zero, suc, ◌+◌, ◌-◌, max}
use native.Mathlib.Omega.{arith}
use mathlib.Core.Path.{◌≡◌, refl, sym, ap, ◌∙◌, subst}
use mathlib.Core.Bool.{Bool, true, false}
use mathlib.Core.List.{List, [], ◌∷◌, ◌++◌, map}
use mathlib.Core.Option.{Option, none, some}
use lib.Dec.{eqb}
use lib.ListN.{length, take, drop, replicate}
use borrow.Author.Tests.{eqb-true, eqb-false}
use Rattle.format.specs.Bytes.{Bytes, pick, same}
use Rattle.format.specs.Lists.{onward}
use Rattle.format.specs.Pieces.{Piece, bytes_of, pieces, read_of}
use Rattle.format.specs.Sets.{RecSet}
use Rattle.format.specs.Numbers.{int_bounds}
use Rattle.format.specs.Edits.{Edit}
use Rattle.format.specs.Questions.{name_of, verdict}
use Rattle.format.specs.Requests.{Request, request_of}
use Rattle.format.specs.Plain.{Plain, plain_of, length_of, index_of, apply, members_at, Asked, Step}
use Rattle.format.specs.Calls.{number_in, value_or, Filled}
use Rattle.format.specs.Runs.{Single, request_in, single_answer, single_step, Told, Ran, ran_on, singly, PlainRan, plain_run, Call, stands_for, singles, then_ran, run}
use Rattle.format.specs.Origins.{if_accepted}
use Rattle.format.specs.Demand.{inserted, deleted, if_set, to_set, tally, Demand}
use Rattle.format.proofs.Describing.{apply-names}
use Rattle.format.proofs.Applying.{Agrees, Granted, granted-set}
use Rattle.format.proofs.Completing.{completed-whole, whole-alike}
use Rattle.format.proofs.Questions.{yes-granted, asked, whole-granted, Accepted}
use Rattle.format.proofs.SingleSteps.{single-accepted, single-refused}
use Rattle.format.proofs.Passing.{SetsPass, verdict-read, holds-agrees, holds-sets, holds-start}
use Rattle.format.proofs.Tallying.{apply-number, apply-others}
use Rattle.format.proofs.Running.{Stands, stands-start, stands-room, stands-length, single-stands, single-told}
use Rattle.format.proofs.Origins.{list-stays}

-- the names of sets stay, and a set is found by its name

abbrev index_in : Bytes → List Bytes → Option ℕ
index_in n [] = none
index_in n (m ∷ ms) = pick (same n m) (some zero) (onward (λ (i : ℕ). some (suc i)) (index_in n ms))

index-names : (n : Bytes) (ss : List RecSet) → index_of n ss ≡ index_in n (map name_of ss)
index-names n [] = refl
index-names n (s ∷ ss) = ap (λ (x : Option ℕ). pick (same n s.name) (some zero) (onward (λ (i : ℕ). some (suc i)) x)) (index-names n ss)

to-names : (f : Edit → ℕ) (ss ts : List RecSet) (i : ℕ) (x : Option Request) → map name_of ss ≡ map name_of ts → to_set f ss i x ≡ to_set f ts i x
to-names f ss ts i none e = refl
to-names f ss ts i (some q) e = ap (λ (k : Option ℕ). if_set i k (f q.edit)) (index-names q.set ss ∙ ap (index_in q.set) e ∙ sym (index-names q.set ts))

tally-names : (f : Edit → ℕ) (ss ts : List RecSet) (i : ℕ) (cs : List Single) (os : List Told) → map name_of ss ≡ map name_of ts → tally f ss i cs os ≡ tally f ts i cs os
tally-names f ss ts i [] os e = refl
tally-names f ss ts i (c ∷ cs) [] e = refl
tally-names f ss ts i (c ∷ cs) (o ∷ os) e = λ j. if_accepted o.number (to-names f ss ts i (request_of (request_in c)) e j) 0 + tally-names f ss ts i cs os e j

-- one edit

abbrev held : ℕ → Plain → ℕ
held i p = length (members_at i p.sets)

step-names : (room : ℕ) (p : Plain) (c : Single) (n : ℕ) → (single_step room p c).number ≡ n → map name_of (single_step room p c).file.sets ≡ map name_of p.sets
step-names room p c zero e = let a = single-accepted room p c e in ap (λ (x : Plain). map name_of x.sets) a.makes ∙ apply-names a.whole p
step-names room p c (suc k) e = ap (λ (x : Plain). map name_of x.sets) (single-refused room p c k e)

pub single-names : (room : ℕ) (p : Plain) (c : Single) → map name_of (single_step room p c).file.sets ≡ map name_of p.sets
single-names room p c = step-names room p c (single_step room p c).number refl

number_at : (a : Asked) → Granted a → Agrees a.file → (k : ℕ) → index_of a.request.set a.file.sets ≡ some k → (i : ℕ) (b : Bool) → eqb k i ≡ b → held i (apply a.request a.file) + pick b (deleted a.request.edit) 0 ≡ held i a.file + pick b (inserted a.request.edit) 0
number_at a g s k e i true h =
    subst (λ (x : ℕ). held x (apply a.request a.file) + deleted a.request.edit ≡ held x a.file + inserted a.request.edit) (eqb-true k i h) (apply-number a g s k e)
number_at a g s k e i false h = ap (λ ms. length ms + 0) (apply-others a.request a.file k e i (eqb-false k i h))

accepted-number : (room : ℕ) (p : Plain) (q : Bytes) (p' : Plain) → SetsPass p.sets → Agrees p → Accepted room p q p' → (i : ℕ) → held i p' + to_set deleted p.sets i (request_of q) ≡ held i p + to_set inserted p.sets i (request_of q)
accepted-number room p q p' d s a i =
    let c : Asked = asked room p a.whole in
    let h = completed-whole p a.asks a.whole d.1.1.0 a.completes in
    let g = whole-granted room p a.asks a.whole h (yes-granted int_bounds (asked room p a.asks) a.yes) in
    let k : ℕ = (granted-set c g).0 in
    let e = (granted-set c g).1 in
    let o : (f : Edit → ℕ) → f a.asks.edit ≡ f a.whole.edit → to_set f p.sets i (request_of q) ≡ pick (eqb k i) (f a.whole.edit) 0 = λ f x. ap (to_set f p.sets i) a.reads ∙ (λ j. if_set i ((ap (λ (n : Bytes). index_of n p.sets) (sym h.0) ∙ e) j) (x j)) in
    omega (arith, ap (held i) a.makes, o deleted (whole-alike deleted (λ new ps. refl) a.asks.edit a.whole.edit h.1), o inserted (whole-alike inserted (λ new ps. refl) a.asks.edit a.whole.edit h.1), number_at c g s k e i (eqb k i) refl)

step-number : (room : ℕ) (p : Plain) (c : Single) (n : ℕ) → SetsPass p.sets → Agrees p → (single_step room p c).number ≡ n
    → (i : ℕ) → held i (single_step room p c).file + if_accepted n (to_set deleted p.sets i (request_of (request_in c))) 0 ≡ held i p + if_accepted n (to_set inserted p.sets i (request_of (request_in c))) 0
step-number room p c zero d s e i = accepted-number room p (request_in c) (single_step room p c).file d s (single-accepted room p c e) i
step-number room p c (suc k) d s e i = ap (λ (x : Plain). held i x + 0) (single-refused room p c k e)

-- the first of a list
single-tally : (room : ℕ) (p : Plain) (c : Single) (cs : List Single) (n l : ℕ) (ts : List Told) → SetsPass p.sets → Agrees p → (single_step room p c).number ≡ n → (i m : ℕ)
    → m + tally deleted (single_step room p c).file.sets i cs ts ≡ held i (single_step room p c).file + tally inserted (single_step room p c).file.sets i cs ts
    → m + tally deleted p.sets i (c ∷ cs) (record { number = n; length = l } ∷ ts) ≡ held i p + tally inserted p.sets i (c ∷ cs) (record { number = n; length = l } ∷ ts)
single-tally room p c cs n l ts d a e i m h =
    let ss : List RecSet = (single_step room p c).file.sets in
    let same-tally : (f : Edit → ℕ) → tally f ss i cs ts ≡ tally f p.sets i cs ts = λ f. tally-names f ss p.sets i cs ts (single-names room p c) in
    omega (arith, h, same-tally deleted, same-tally inserted, step-number room p c n d a e i)

-- what a list leaves, from any state on the way
record Leaves (start : Bytes) (p : Plain) (cs : List Single) (r : Ran) (l : PlainRan) : Type 0 where
  told : r.told ≡ l.told
  counts : (i : ℕ) → held i l.file + tally deleted p.sets i cs r.told ≡ held i p + tally inserted p.sets i cs r.told
  stands : Stands start l.most r.buffer r.length l.file

singly-leaves : (start : Bytes) (cs : List Single) (most : ℕ) (buffer : Bytes) (used : ℕ) (p : Plain) → Stands start most buffer used p → Leaves start p cs (singly cs buffer used) (plain_run (length start) cs p most)
unfolding singly plain_run
singly-leaves start [] most buffer used p st = record { told = refl; counts = λ i. refl; stands = st }
singly-leaves start (c ∷ cs) most buffer used p st =
    let s : Step = single_step (length start) p c in
    let a : Filled = single_answer c buffer used in
    let n : ℕ = value_or used a.result in
    let m : ℕ = max most (length_of s.file) in
    let next : Stands start m a.out n s.file = single-stands start most buffer used p st c in
    let d = singly-leaves start cs m a.out n s.file next in
    let number : number_in a.result ≡ s.number = single-told start most buffer used p st c in
    let sized : n ≡ length_of s.file = stands-length start m a.out n s.file next in
    record {
      told = λ i. record { number = number i; length = sized i } ∷ d.told i;
      counts = λ i. single-tally (length start) p c cs (number_in a.result) n (singly cs a.out n).told (holds-sets buffer used p st.holds) (holds-agrees buffer used p st.holds) (sym number) i (held i (plain_run (length start) cs s.file m).file) (d.counts i);
      stands = d.stands;
    }

leaves-demand : (start : Bytes) (used : ℕ) (p : Plain) (cs : List Single) (r : Ran) → pieces (take used start) ≡ some p.pieces → Leaves start p cs r (plain_run (length start) cs p used) → Demand start used p cs r (plain_run (length start) cs p used)
leaves-demand start used p cs r e l =
    let x : PlainRan = plain_run (length start) cs p used in
    let st = l.stands in
    let sized = stands-length start x.most r.buffer r.length x.file st in
    record {
      starts = e;
      told = l.told;
      room = stands-room start x.most r.buffer r.length x.file st;
      bytes = st.bytes ∙ ap (λ (n : ℕ). bytes_of x.file.pieces ++ (replicate (x.most - n) 0 ++ drop x.most start)) (sym st.uses ∙ sized);
      passes = st.holds.passes;
      reads = st.holds.reads;
      plain = st.holds.plain;
      stays = list-stays (length start) cs p used;
      counts = l.counts;
      length = sized;
    }

-- A file that passes, and any list of edits.
pub edits-meet-demand : (buffer : Bytes) (used : ℕ) (edits : List Single) → verdict buffer used ≡ 0
    → let first : Plain = plain_of (read_of (take used buffer)) in Demand buffer used first edits (singly edits buffer used) (plain_run (length buffer) edits first used)
unfolding plain_of
edits-meet-demand buffer used edits v =
    let ps : List Piece = read_of (take used buffer) in
    let r : pieces (take used buffer) ≡ some ps = verdict-read buffer used v in
    leaves-demand buffer used (plain_of ps) edits (singly edits buffer used) r (singly-leaves buffer edits used buffer used (plain_of ps) (stands-start buffer used (plain_of ps) (holds-start buffer used ps v r)))

-- each edit has its number and length in what is told
pub singly-told : (es : List Single) (buffer : Bytes) (used : ℕ) → length (singly es buffer used).told ≡ length es
unfolding singly
singly-told [] buffer used = refl
singly-told (e ∷ es) buffer used = let a : Filled = single_answer e buffer used in ap suc (singly-told es a.out (value_or used a.result))

-- Two lists of edits one after the other.
pub singly-append : (es fs : List Single) (buffer : Bytes) (used : ℕ) → let r : Ran = singly es buffer used in singly (es ++ fs) buffer used ≡ then_ran r (singly fs r.buffer r.length)
unfolding singly
singly-append [] fs buffer used = refl
singly-append (e ∷ es) fs buffer used =
    let a : Filled = single_answer e buffer used in
    let n : ℕ = value_or used a.result in
    ap (ran_on (record { number = number_in a.result; length = n })) (singly-append es fs a.out n)

-- Calls leave and tell what the edits that they stand for do, sent singly, wherever in the list a run of requests comes.
pub run-singly : (calls : List Call) (buffer : Bytes) (used : ℕ) → run calls buffer used ≡ singly (singles calls) buffer used
unfolding run singly
run-singly [] buffer used = refl
run-singly (c ∷ cs) buffer used =
    let r : Ran = singly (stands_for c) buffer used in
    ap (then_ran r) (run-singly cs r.buffer r.length) ∙ sym (singly-append (stands_for c) (singles cs) buffer used)

-- A file that passes, and any list of calls: single edits, edits given a list of entries, runs of requests.
pub calls-meet-demand : (buffer : Bytes) (used : ℕ) (calls : List Call) → verdict buffer used ≡ 0
    → let first : Plain = plain_of (read_of (take used buffer)) in Demand buffer used first (singles calls) (run calls buffer used) (plain_run (length buffer) (singles calls) first used)
calls-meet-demand buffer used calls v =
    let first : Plain = plain_of (read_of (take used buffer)) in
    subst (λ (r : Ran). Demand buffer used first (singles calls) r (plain_run (length buffer) (singles calls) first used)) (sym (run-singly calls buffer used)) (edits-meet-demand buffer used (singles calls) v)
