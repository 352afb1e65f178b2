-- Calls from C that edit, one after another, are the definition's run of that list of calls, so demand 3 holds of what they leave; and a list of entries that goes along holds the counts.
use Prim.Native.Nat.{ℕ, zero, suc, ◌≤◌, ◌<◌}
use native.Mathlib.Omega.{arith}
use mathlib.Core.Path.{◌≡◌, refl, sym, ap, ◌∙◌, subst}
use mathlib.Core.Bool.{Bool, true, false, false≢true}
use mathlib.Core.List.{List, [], ◌∷◌, ◌++◌, map, map-append}
use mathlib.Core.Option.{Option, none, some}
use lib.Dec.{leb}
use lib.ListN.{length, take, drop, get_or, length-map, length-append, length-drop}
use lib.Seq.{take_at, drop_at}
use borrow.Author.Tests.{leb-true}
use Rattle.format.specs.Bytes.{Bytes, pick, all}
use Rattle.format.specs.Questions.{verdict, name_of}
use Rattle.format.specs.Calls.{answer, value_or, number_in, then_no, Filled, over, sets_in, count_answer}
use Rattle.format.specs.Directory.{list_no, Listed, Kept, fill_answer, kept_answer, count_at_answer}
use Rattle.format.specs.Runs.{Single, single_answer, Told, Ran, singly, entries_after, taken, edits_of, numbers_told, run_answer, Call, stands_for, singles, run}
use Rattle.format.specs.declared.Entry.{Entry}
use Rattle.format.proofs.Demand.{singly-told, calls-meet-demand}
use Rattle.format.proofs.Sending.{run-leaves}
use Rattle.format.proofs.Directory.{list_in, fill-passes, left-passes, left-sets, kept-listed, listed-fills, count_at}
use Rattle.recfile.specs.Chains.{EditFromC, call_of, Left, Answers, Edited, Chain, Along, is_listed, numbers_by, numbers_in, lengths_in, last_length, lengths_told, Leaves}

-- what a call left is what the edits that it stands for leave, and the numbers it told are theirs
record Tells (e : EditFromC) (buffer : Bytes) (used : ℕ) (l : Left) : Type 0 where
  buffers : l.buffer ≡ (singly (stands_for (call_of e)) buffer used).buffer
  lengths : l.length ≡ (singly (stands_for (call_of e)) buffer used).length
  numbers : numbers_by e l ≡ numbers_told (singly (stands_for (call_of e)) buffer used).told

-- a list of numbers in front of another, taken off again
front-numbers : (ts : List Told) (old : List ℕ) (n : ℕ) → length ts ≡ n → take n (numbers_told ts ++ drop (length (numbers_told ts)) old) ≡ numbers_told ts
front-numbers ts old n e = take_at (numbers_told ts) (drop (length (numbers_told ts)) old) n (length-map ts (λ (t : Told). t.number) ∙ e)

edited-tells : (e : EditFromC) (buffer : Bytes) (used : ℕ) (l : Left) → Edited buffer used e l → Tells e buffer used l
unfolding singly kept_answer
edited-tells (EditFromC.edit q) buffer used l h = record { buffers = h.2; lengths = h.0; numbers = ap {B = List ℕ} (λ (n : ℕ). n ∷ []) h.1 }
edited-tells (EditFromC.listed es q) buffer used l h = record { buffers = h.0.2; lengths = h.0.0; numbers = ap {B = List ℕ} (λ (n : ℕ). n ∷ []) h.0.1 }
edited-tells (EditFromC.many old s) buffer used l h =
    let r = run-leaves buffer used s old in
    let es : List Single = stands_for (Call.many (length old) s) in
    record {
      buffers = h.0.2 ∙ r.1;
      lengths = h.0.0 ∙ r.0;
      numbers = ap (take (length es)) (h.1 ∙ r.2) ∙ front-numbers (singly es buffer used).told old (length es) (singly-told es buffer used);
    }

-- the last length told of a list of edits is the length after it
last-told : (es : List Single) (buffer : Bytes) (used : ℕ) → last_length used (singly es buffer used).told ≡ (singly es buffer used).length
unfolding singly
last-told [] buffer used = refl
last-told (e ∷ es) buffer used = let a : Filled = single_answer e buffer used in last-told es a.out (value_or used a.result)

-- the lengths of a call and of those behind it
lengths-first : (c : Call) (cs : List Call) (buffer : Bytes) (used : ℕ) (ts : List Told) → let r : Ran = singly (stands_for c) buffer used in lengths_told used (c ∷ cs) (r.told ++ ts) ≡ r.length ∷ lengths_told r.length cs ts
lengths-first c cs buffer used ts =
    let k : ℕ = length (stands_for c) in
    let r : Ran = singly (stands_for c) buffer used in
    let e : length r.told ≡ k = singly-told (stands_for c) buffer used in
    let n : last_length used (take k (r.told ++ ts)) ≡ r.length = ap (last_length used) (take_at r.told ts k e) ∙ last-told (stands_for c) buffer used in
    let d : drop k (r.told ++ ts) ≡ ts = drop_at r.told ts k e in
    λ i. n i ∷ lengths_told (n i) cs (d i)

record RunsAs (cs : List EditFromC) (buffer : Bytes) (used : ℕ) (numbers returned : List ℕ) (last : Bytes) (n : ℕ) : Type 0 where
  buffers : last ≡ (run (map call_of cs) buffer used).buffer
  lengths : n ≡ (run (map call_of cs) buffer used).length
  tells : numbers ≡ numbers_told (run (map call_of cs) buffer used).told
  returns : returned ≡ lengths_told used (map call_of cs) (run (map call_of cs) buffer used).told

chain_runs : (cs : List EditFromC) (buffer : Bytes) (used : ℕ) (ls : List Left) (last : Bytes) (n : ℕ) → Chain cs buffer used ls last n → RunsAs cs buffer used (numbers_in cs ls) (lengths_in ls) last n
unfolding run
chain_runs [] buffer used [] last n h = record { buffers = h.0; lengths = h.1; tells = refl; returns = refl }
chain_runs [] buffer used (l ∷ ls) last n h = absurd h
chain_runs (c ∷ cs) buffer used [] last n h = absurd h
chain_runs (c ∷ cs) buffer used (l ∷ ls) last n h =
    let r : Ran = singly (stands_for (call_of c)) buffer used in
    let t : Tells c buffer used l = edited-tells c buffer used l h.0 in
    let next : RunsAs cs l.buffer l.length (numbers_in cs ls) (lengths_in ls) last n = chain_runs cs l.buffer l.length ls last n h.1 in
    let on : run (map call_of cs) l.buffer l.length ≡ run (map call_of cs) r.buffer r.length = λ i. run (map call_of cs) (t.buffers i) (t.lengths i) in
    let rest : lengths_told l.length (map call_of cs) (run (map call_of cs) l.buffer l.length).told ≡ lengths_told r.length (map call_of cs) (run (map call_of cs) r.buffer r.length).told = λ i. lengths_told (t.lengths i) (map call_of cs) (on i).told in
    record {
      buffers = next.buffers ∙ ap (λ (x : Ran). x.buffer) on;
      lengths = next.lengths ∙ ap (λ (x : Ran). x.length) on;
      tells = (λ i. t.numbers i ++ (next.tells ∙ ap (λ (x : Ran). numbers_told x.told) on) i) ∙ sym (map-append (λ (x : Told). x.number) r.told (run (map call_of cs) r.buffer r.length).told);
      returns = (λ i. t.lengths i ∷ (next.returns ∙ rest) i) ∙ sym (lengths-first (call_of c) (map call_of cs) buffer used (run (map call_of cs) r.buffer r.length).told);
    }

pub chain-leaves : (cs : List EditFromC) (buffer : Bytes) (used : ℕ) (ls : List Left) (last : Bytes) (n : ℕ) → Chain cs buffer used ls last n → Leaves buffer used (map call_of cs) (numbers_in cs ls) (lengths_in ls) last n
chain-leaves cs buffer used ls last n h =
    let r : RunsAs cs buffer used (numbers_in cs ls) (lengths_in ls) last n = chain_runs cs buffer used ls last n h in
    record { buffers = r.buffers; lengths = r.lengths; tells = r.tells; returns = r.returns; demand = calls-meet-demand buffer used (map call_of cs) }

-- A list of entries that goes along is, after the calls, what the definition's list of edits leaves of it.

entries-edits : (qs : List Bytes) (cs : List Single) (buffer : Bytes) (used : ℕ) (es : List Entry) → let r : Ran = singly (map Single.edit qs) buffer used in
    entries_after (map Single.edit qs ++ cs) buffer used es ≡ entries_after cs r.buffer r.length es
unfolding singly entries_after
entries-edits [] cs buffer used es = refl
entries-edits (q ∷ qs) cs buffer used es = let a : Filled = single_answer (Single.edit q) buffer used in entries-edits qs cs a.out (value_or used a.result) es

entries-many : (x : Option (List Bytes)) (cs : List Single) (buffer : Bytes) (used : ℕ) (es : List Entry) → let r : Ran = singly (edits_of x) buffer used in
    entries_after (edits_of x ++ cs) buffer used es ≡ entries_after cs r.buffer r.length es
unfolding singly
entries-many none cs buffer used es = refl
entries-many (some qs) cs buffer used es = entries-edits qs cs buffer used es

entries-one : (c : Single) (cs : List Single) (buffer : Bytes) (used : ℕ) (es : List Entry) → let r : Ran = singly (c ∷ []) buffer used in
    entries_after (c ∷ cs) buffer used es ≡ entries_after cs r.buffer r.length (entries_after (c ∷ []) buffer used es)
unfolding singly entries_after
entries-one c cs buffer used es = refl

-- what an edit that is given the list leaves there
listed-leaves : (buffer : Bytes) (used : ℕ) (given es : List Entry) (q : Bytes) (l : Left) → Edited buffer used (EditFromC.listed given q) l → given ≡ es → l.entries ≡ entries_after (Single.listed (length given) q ∷ []) buffer used es
listed-leaves buffer used given es q l h g = h.1 ∙ ap (λ (k : Kept). k.entries) (kept-listed buffer used q given) ∙ ap (entries_after (Single.listed (length given) q ∷ []) buffer used) g

pub chain-entries : (cs : List EditFromC) (buffer : Bytes) (used : ℕ) (ls : List Left) (last : Bytes) (n : ℕ) (es left : List Entry) → Chain cs buffer used ls last n → Along es cs ls left → left ≡ entries_after (singles (map call_of cs)) buffer used es
unfolding entries_after
chain-entries [] buffer used [] last n es left h a = a
chain-entries [] buffer used (l ∷ ls) last n es left h a = absurd h
chain-entries (c ∷ cs) buffer used [] last n es left h a = absurd h
chain-entries (EditFromC.edit q ∷ cs) buffer used (l ∷ ls) last n es left h a =
    let t : Tells (EditFromC.edit q) buffer used l = edited-tells (EditFromC.edit q) buffer used l h.0 in
    let rest : List Single = singles (map call_of cs) in
    chain-entries cs l.buffer l.length ls last n es left h.1 a ∙ (λ i. entries_after rest (t.buffers i) (t.lengths i) es) ∙ sym (entries-one (Single.edit q) rest buffer used es)
chain-entries (EditFromC.listed given q ∷ cs) buffer used (l ∷ ls) last n es left h a =
    let c : EditFromC = EditFromC.listed given q in
    let t : Tells c buffer used l = edited-tells c buffer used l h.0 in
    let rest : List Single = singles (map call_of cs) in
    chain-entries cs l.buffer l.length ls last n l.entries left h.1 a.1
    ∙ (λ i. entries_after rest (t.buffers i) (t.lengths i) (listed-leaves buffer used given es q l h.0 a.0 i))
    ∙ sym (entries-one (Single.listed (length given) q) rest buffer used es)
chain-entries (EditFromC.many old s ∷ cs) buffer used (l ∷ ls) last n es left h a =
    let c : EditFromC = EditFromC.many old s in
    let t : Tells c buffer used l = edited-tells c buffer used l h.0 in
    let rest : List Single = singles (map call_of cs) in
    chain-entries cs l.buffer l.length ls last n es left h.1 a ∙ (λ i. entries_after rest (t.buffers i) (t.lengths i) es) ∙ sym (entries-many (taken (length old) s) rest buffer used es)

-- "For every list of edits, each given the directory, from a freshly filled one, that count equals the one that reads everything": of calls from C.

-- entries that filling would leave as they are
record Fresh (es : List Entry) (buffer : Bytes) (used : ℕ) : Type 0 where
  passes : verdict buffer used ≡ 0
  room : length (list_in buffer used) ≤ length es
  filled : (fill_answer buffer used es).entries ≡ es

fresh-over : (buffer : Bytes) (used : ℕ) (old : List Entry) → verdict buffer used ≡ 0 → length (list_in buffer used) ≤ length old → Fresh (over (list_in buffer used) old) buffer used
fresh-over buffer used old v h =
    let new : List Entry = list_in buffer used in
    let k : length new ≤ length (over new old) = simp (length-append, length-drop) (omega arith) in
    record { passes = v; room = k; filled = ap (λ (x : Listed). x.entries) (fill-passes buffer used (over new old) v k) ∙ ap (λ (xs : List Entry). new ++ xs) (drop_at new (drop (length new) old) (length new) refl) }

fresh_at : (es fs : List Entry) (b d : Bytes) (m k : ℕ) → es ≡ fs → b ≡ d → m ≡ k → Fresh es b m → Fresh fs d k
fresh_at es fs b d m k e f g h = subst (λ (x : List Entry). Fresh x d k) e (subst (λ (x : Bytes). Fresh es x k) f (subst (λ (x : ℕ). Fresh es b x) g h))

fresh-next : (buffer : Bytes) (used : ℕ) (q : Bytes) (given es : List Entry) (l : Left) → Fresh es buffer used → Edited buffer used (EditFromC.listed given q) l → given ≡ es → Fresh l.entries l.buffer l.length
unfolding kept_answer
fresh-next buffer used q given es l f h g =
    let c : Single = Single.listed (length given) q in
    let a : Filled = single_answer c buffer used in
    let n : ℕ = value_or used a.result in
    let v : verdict a.out n ≡ 0 = left-passes buffer used f.passes c in
    let k : length (list_in buffer used) ≤ length given = subst (λ (x : List Entry). length (list_in buffer used) ≤ length x) (sym g) f.room in
    let m : length (list_in a.out n) ≤ length given = subst (λ (x : ℕ). x ≤ length given) (sym (left-sets buffer used f.passes c)) k in
    let e : l.entries ≡ over (list_in a.out n) given = listed-leaves buffer used given given q l h refl ∙ listed-fills buffer used q given f.passes k in
    fresh_at (over (list_in a.out n) given) l.entries a.out l.buffer n l.length (sym e) (sym h.0.2) (sym h.0.0) (fresh-over a.out n given v m)

fresh-after : (cs : List EditFromC) (buffer : Bytes) (used : ℕ) (ls : List Left) (last : Bytes) (n : ℕ) (es left : List Entry) → all is_listed cs ≡ true → Fresh es buffer used → Chain cs buffer used ls last n → Along es cs ls left → Fresh left last n
fresh-after [] buffer used [] last n es left d f h a = fresh_at es left buffer last used n (sym a) (sym h.0) (sym h.1) f
fresh-after [] buffer used (l ∷ ls) last n es left d f h a = absurd h
fresh-after (c ∷ cs) buffer used [] last n es left d f h a = absurd h
fresh-after (EditFromC.edit q ∷ cs) buffer used (l ∷ ls) last n es left d f h a = absurd (false≢true d)
fresh-after (EditFromC.listed given q ∷ cs) buffer used (l ∷ ls) last n es left d f h a = fresh-after cs l.buffer l.length ls last n l.entries left d (fresh-next buffer used q given es l f h.0 a.0) h.1 a.1
fresh-after (EditFromC.many old s ∷ cs) buffer used (l ∷ ls) last n es left d f h a = absurd (false≢true d)

-- filling that is not refused
fill-accepted : (buffer : Bytes) (used : ℕ) (old : List Entry) → number_in (fill_answer buffer used old).result ≡ 0 → (verdict buffer used ≡ 0) × (length (list_in buffer used) ≤ length old)
unfolding fill_answer
fill-accepted buffer used old e =
    let new : List Entry = list_in buffer used in
    let x = both (verdict buffer used) (list_no (length old) (length new)) (length new) e in
    (x.0, fits (leb (length new) (length old)) refl x.1)
  where
    both : (v k m : ℕ) → number_in (answer (then_no v k) m) ≡ 0 → (v ≡ 0) × (k ≡ 0)
    both zero zero m e = (refl, refl)
    both zero (suc k) m e = absurd (omega arith)
    both (suc v) k m e = absurd (omega arith)

    fits : (b : Bool) → leb (length (list_in buffer used)) (length old) ≡ b → pick {A = ℕ} b 0 28 ≡ 0 → length (list_in buffer used) ≤ length old
    fits true q e = leb-true (length (list_in buffer used)) (length old) q
    fits false q e = absurd (omega arith)

pub chain-counts : (cs : List EditFromC) (buffer : Bytes) (used : ℕ) (ls : List Left) (last : Bytes) (n : ℕ) (old left : List Entry) → number_in (fill_answer buffer used old).result ≡ 0 → all is_listed cs ≡ true
    → Chain cs buffer used ls last n → Along (fill_answer buffer used old).entries cs ls left
    → (i : ℕ) → i < length (sets_in last n) → count_at_answer left i ≡ count_answer last n (get_or (map name_of (sets_in last n)) i [])
chain-counts cs buffer used ls last n old left e d h a i k =
    let x = fill-accepted buffer used old e in
    let first : Fresh (fill_answer buffer used old).entries buffer used = fresh_at (over (list_in buffer used) old) (fill_answer buffer used old).entries buffer buffer used used (sym (ap (λ (y : Listed). y.entries) (fill-passes buffer used old x.0 x.1))) refl refl (fresh-over buffer used old x.0 x.1) in
    let f : Fresh left last n = fresh-after cs buffer used ls last n (fill_answer buffer used old).entries left d first h a in
    ap (λ (es : List Entry). count_at_answer es i) (sym f.filled) ∙ count_at last n left f.passes f.room i k
