-- Document 02, order 13, of calls from C: edits that do not name a set leave what every call about it gives; and accepted edits of different sets leave the same file in either order.
use Prim.Native.Nat.{ℕ, zero, suc}
use native.Mathlib.Omega.{arith}
use mathlib.Core.Path.{◌≡◌, refl, sym, ap, ◌∙◌, subst}
use mathlib.Core.Logic.{◌≢◌}
use mathlib.Core.Bool.{Bool, true, false}
use mathlib.Core.List.{List, [], ◌∷◌, ◌++◌, append_assoc, map}
use mathlib.Core.Option.{Option, none, some}
use lib.ListN.{length, take, drop, get_or, take-append-drop}
use lib.Seq.{take_at, drop_at}
use Rattle.format.specs.Bytes.{Bytes, pick}
use Rattle.format.specs.Lists.{filter, flat, turn, before}
use Rattle.format.specs.Pieces.{Piece, bytes_of, read_of}
use Rattle.format.specs.Records.{Block}
use Rattle.format.specs.Sets.{Group, groups, is_member}
use Rattle.format.specs.Questions.{first_no, verdict}
use Rattle.format.specs.Plain.{index_of, found_rows, plain_of}
use Rattle.format.specs.Calls.{number_in, value_or, then_no, check_answer, sets_in, lookup_no, count_answer, Filled, fetch_answer, Viewed, view_answer, lead, from_first, to_last, block_at, pieces_before, viewed_at, sought_row, edit_answer}
use Rattle.format.specs.Runs.{request_in, Told, Ran, singly, singles, run, numbers_told}
use Rattle.format.proofs.Elements.{Each}
use Rattle.format.proofs.Lists.{flat_append}
use Rattle.format.proofs.Whole.{bytesOf-append}
use Rattle.format.proofs.Fates.{groups-pieces}
use Rattle.format.proofs.Passing.{verdict-read, holds-start, holds-bytes}
use Rattle.format.proofs.Demand.{run-singly}
use Rattle.records.proofs.FirstPlaces.{lead-first, to_last_lem}
use Rattle.apart.specs.Naming.{set_named, Apart, NamesEither, own}
use Rattle.apart.specs.Leaving.{buffer_after, length_after, AllAccepted, SameFile}
use Rattle.apart.specs.Looking.{LooksAt, Shown, shown}
use Rattle.apart.proofs.Looking.{count-looks, fetch-looks, view-looks}
use Rattle.apart.proofs.Standing.{calls-stay}
use Rattle.apart.proofs.Orders.{orders-alike, two-sets-alike, either_order}
use Rattle.recfile.specs.Chains.{EditFromC, call_of, Left, Edited, Chain, numbers_in, lengths_in, Leaves}
use Rattle.recfile.specs.Apart.{LookFromC, Gave, Looked, part_in, SameAnswer, requests_of, NoneNames, Accepted, EitherOrder, AlikeFiles}
use Rattle.recfile.proofs.Chains.{chain-leaves}

-- The part that a view gives stands at its place in the buffer.

-- pieces of which some stand before a block and others behind it
record Around (x b all : List Piece) : Type 0 where
  rest : List Piece
  whole : x ++ (b ++ rest) ≡ all

around-on : (a x b all : List Piece) → Around x b all → Around (a ++ x) b (a ++ all)
around-on a x b all h = record { rest = h.rest; whole = append_assoc a x (b ++ h.rest) ∙ ap (λ (y : List Piece). a ++ y) h.whole }

around-more : (x b all more : List Piece) → Around x b all → Around x b (all ++ more)
around-more x b all more h = record { rest = h.rest ++ more; whole = ap (λ (y : List Piece). x ++ y) (sym (append_assoc b h.rest more)) ∙ sym (append_assoc x (b ++ h.rest) more) ∙ ap (λ (y : List Piece). y ++ more) h.whole }

around-turn : (b : Block) (g : Group) → ((j : ℕ) → Around (flat (before is_member j g)) (get_or (filter is_member g) j []) (flat g)) → (t : Bool) (j : ℕ)
    → Around (flat (turn t j [] (λ (i : ℕ). b ∷ before is_member i g))) (get_or (pick t (b ∷ filter is_member g) (filter is_member g)) j []) (b ++ flat g)
around-turn b g h true zero = record { rest = flat g; whole = refl }
around-turn b g h true (suc j) = around-on b (flat (before is_member j g)) (get_or (filter is_member g) j []) (flat g) (h j)
around-turn b g h false j = around-on b (flat (before is_member j g)) (get_or (filter is_member g) j []) (flat g) (h j)

around-block : (g : Group) (j : ℕ) → Around (flat (before is_member j g)) (get_or (filter is_member g) j []) (flat g)
around-block [] j = record { rest = []; whole = refl }
around-block (b ∷ g) j = around-turn b g (λ i. around-block g i) (is_member b) j

around-group : (gs : List Group) (i j : ℕ) → Around (pieces_before gs i j) (block_at gs i j) (flat (flat gs))
around-group [] zero j = record { rest = []; whole = refl }
around-group [] (suc i) j = record { rest = []; whole = refl }
around-group (g ∷ gs) zero j =
    subst (Around (flat (before is_member j g)) (block_at (g ∷ gs) 0 j)) (sym (flat_append g (flat gs))) (around-more (flat (before is_member j g)) (block_at (g ∷ gs) 0 j) (flat g) (flat (flat gs)) (around-block g j))
around-group (g ∷ gs) (suc i) j =
    let x : List Piece = flat (before is_member j (get_or gs i [])) in
    let h : Around (flat g ++ pieces_before gs i j) (block_at gs i j) (flat g ++ flat (flat gs)) = around-on (flat g) (pieces_before gs i j) (block_at gs i j) (flat (flat gs)) (around-group gs i j) in
    let e : flat g ++ pieces_before gs i j ≡ flat (g ++ flat (take i gs)) ++ x = sym (append_assoc (flat g) (flat (flat (take i gs))) x) ∙ ap (λ (y : List Piece). y ++ x) (sym (flat_append g (flat (take i gs)))) in
    subst (λ (y : List Piece). Around y (block_at gs i j) (flat (g ++ flat gs))) e (subst (Around (flat g ++ pieces_before gs i j) (block_at gs i j)) (sym (flat_append g (flat gs))) h)

-- bytes between others, behind which more may stand
bytes-between : (x p r : List Piece) (s more : Bytes) → bytes_of (x ++ (p ++ r)) ≡ s → take (length (bytes_of p)) (drop (length (bytes_of x)) (s ++ more)) ≡ bytes_of p
bytes-between x p r s more e =
    let whole : s ++ more ≡ bytes_of x ++ (bytes_of p ++ (bytes_of r ++ more)) =
    ap (λ (y : Bytes). y ++ more) (sym e ∙ bytesOf-append x (p ++ r) ∙ ap (λ (y : Bytes). bytes_of x ++ y) (bytesOf-append p r))
    ∙ append_assoc (bytes_of x) (bytes_of p ++ bytes_of r) more ∙ ap (λ (y : Bytes). bytes_of x ++ y) (append_assoc (bytes_of p) (bytes_of r) more) in
    ap (λ (y : Bytes). take (length (bytes_of p)) (drop (length (bytes_of x)) y)) whole
    ∙ ap (take (length (bytes_of p))) (drop_at (bytes_of x) (bytes_of p ++ (bytes_of r ++ more)) (length (bytes_of x)) refl)
    ∙ take_at (bytes_of p) (bytes_of r ++ more) (length (bytes_of p)) refl

first-yes : (v n : ℕ) → then_no v n ≡ 0 → v ≡ 0
first-yes zero n e = refl
first-yes (suc v) n e = absurd (omega arith)

module _ (buffer : Bytes) (used : ℕ) where
  abbrev ps : List Piece
  ps = read_of (take used buffer)

  read_whole : verdict buffer used ≡ 0 → bytes_of (read_of (take used buffer)) ≡ take used buffer
  unfolding plain_of
  read_whole v = holds-bytes buffer used (plain_of ps) (holds-start buffer used ps v (verdict-read buffer used v))

  -- the part from the first field of a block to its last
  block-there : verdict buffer used ≡ 0 → (i row : ℕ) → let b : Block = block_at (groups (read_of (take used buffer))) i row in
      take (length (bytes_of (to_last (from_first b)))) (drop (length (bytes_of (pieces_before (groups (read_of (take used buffer))) i row ++ lead b))) buffer) ≡ bytes_of (to_last (from_first b))
  block-there v i row =
      let x : List Piece = pieces_before (groups ps) i row in
      let b : Block = block_at (groups ps) i row in
      let a : Around x b (flat (flat (groups ps))) = around-group (groups ps) i row in
      let t = to_last_lem (from_first b) in
      let p : Block = to_last (from_first b) in
      let parts : b ≡ lead b ++ (p ++ t.0) = sym (lead-first b) ∙ ap (λ (y : List Piece). lead b ++ y) (sym t.1) in
      let all : (x ++ lead b) ++ (p ++ (t.0 ++ a.rest)) ≡ ps =
      append_assoc x (lead b) (p ++ (t.0 ++ a.rest)) ∙ ap (λ (y : List Piece). x ++ (lead b ++ y)) (sym (append_assoc p t.0 a.rest)) ∙ ap (λ (y : List Piece). x ++ y) (sym (append_assoc (lead b) (p ++ t.0) a.rest))
      ∙ ap (λ (y : List Piece). x ++ (y ++ a.rest)) (sym parts) ∙ a.whole ∙ groups-pieces ps in
      ap (λ (y : Bytes). take (length (bytes_of p)) (drop (length (bytes_of (x ++ lead b))) y)) (sym (take-append-drop used buffer))
      ∙ bytes-between (x ++ lead b) p (t.0 ++ a.rest) (take used buffer) (drop used buffer) (ap bytes_of all ∙ read_whole v)

  viewed-there : (k : ℕ) → (k ≡ 0 → verdict buffer used ≡ 0) → (x : Option ℕ) (row : ℕ) → let v : Viewed = viewed_at k (groups (read_of (take used buffer))) x row in take (length v.part) (drop (value_or 0 v.result) buffer) ≡ v.part
  viewed-there zero h none row = refl
  viewed-there zero h (some i) row = block-there (h refl) i row
  viewed-there (suc k) h none row = refl
  viewed-there (suc k) h (some i) row = refl

  pub part-there : (set : Bytes) (row : ℕ) → let v : Viewed = view_answer buffer used set row in take (length v.part) (drop (value_or 0 v.result) buffer) ≡ v.part
  unfolding view_answer
  part-there set row = viewed-there (lookup_no buffer used (sought_row (sets_in buffer used) set row)) (first-yes (verdict buffer used) (first_no found_rows (sought_row (sets_in buffer used) set row))) (index_of set (sets_in buffer used)) row

  -- so the part that a call gives is the definition's
  given-part : (set : Bytes) (row : ℕ) (g : Gave) → Looked buffer used set (LookFromC.view row) g → part_in buffer g ≡ (view_answer buffer used set row).part
  given-part set row g h = (λ i. take (h.0 i) (drop (h.1 i) buffer)) ∙ part-there set row

-- "an edit on one set changes no fetch, count or view of another set, whether it was accepted or refused"

each_of : {A B : Type 0} (P : B → Type 0) (f : A → B) (xs : List A) → Each P (map f xs) → Each (λ (x : A). P (f x)) xs
each_of P f [] h = tt
each_of P f (x ∷ xs) h = (h.0, each_of P f xs h.1)

module _ (cs : List EditFromC) (buffer : Bytes) (used : ℕ) (ls : List Left) (last : Bytes) (n : ℕ) (h : Chain cs buffer used ls last n) (set : Bytes) (other : NoneNames set cs) where
  stays : {A : Type 0} (answers : Bytes → ℕ → A) → LooksAt set answers → answers buffer used ≡ answers last n
  stays answers looks =
      let l : Leaves buffer used (map call_of cs) (numbers_in cs ls) (lengths_in ls) last n = chain-leaves cs buffer used ls last n h in
      sym ((λ i. answers (l.buffers i) (l.lengths i)) ∙ calls-stay answers set looks (map call_of cs) buffer used (each_of (λ (q : Bytes). set_named q ≢ some set) request_in (singles (map call_of cs)) other))

  -- Calls that edit, of which none names a set, accepted or refused: whatever is asked of that set gives the same before them and after them.
  pub chain-answers : (look : LookFromC) (earlier later : Gave) → Looked buffer used set look earlier → Looked last n set look later → SameAnswer look buffer earlier last later
  chain-answers LookFromC.count earlier later x y =
      let e : count_answer buffer used set ≡ count_answer last n set = stays (λ (d : Bytes) (u : ℕ). count_answer d u set) (count-looks set) in
      (x.0 ∙ ap (value_or 0) e ∙ sym y.0, x.1 ∙ ap number_in e ∙ sym y.1)
  chain-answers (LookFromC.fetch row name occurrence out) earlier later x y =
      let e : fetch_answer buffer used set row name occurrence out ≡ fetch_answer last n set row name occurrence out = stays (λ (d : Bytes) (u : ℕ). fetch_answer d u set row name occurrence out) (fetch-looks set row name occurrence out) in
      (x.0 ∙ ap (λ (f : Filled). value_or 0 f.result) e ∙ sym y.0, x.1 ∙ ap (λ (f : Filled). number_in f.result) e ∙ sym y.1, x.2 ∙ ap (λ (f : Filled). f.out) e ∙ sym y.2)
  chain-answers (LookFromC.view row) earlier later x y =
      let e : shown (view_answer buffer used set row) ≡ shown (view_answer last n set row) = stays (λ (d : Bytes) (u : ℕ). shown (view_answer d u set row)) (view-looks set row) in
      (x.0 ∙ ap (λ (s : Shown). length s.part) e ∙ sym y.0, x.2 ∙ ap (λ (s : Shown). s.number) e ∙ sym y.2, given-part buffer used set row earlier x ∙ ap (λ (s : Shown). s.part) e ∙ sym (given-part last n set row later y))

-- one call of `recfile_edit`, with a request of any bytes
pub edit-answers : (buffer : Bytes) (used : ℕ) (request : Bytes) (l : Left) → Edited buffer used (EditFromC.edit request) l → (set : Bytes) → set_named request ≢ some set
    → (look : LookFromC) (earlier later : Gave) → Looked buffer used set look earlier → Looked l.buffer l.length set look later → SameAnswer look buffer earlier l.buffer later
edit-answers buffer used request l h set other = chain-answers (EditFromC.edit request ∷ []) buffer used (l ∷ []) l.buffer l.length (h, (refl, refl)) set (other, tt)

-- "if both edits are accepted in both orders, the file's bytes are alike after either order"

-- a call after another, on what that left
module _ (buffer : Bytes) (used : ℕ) (q r : Bytes) (a b : Left) (h : Edited buffer used (EditFromC.edit q) a) (k : Edited a.buffer a.length (EditFromC.edit r) b) where
  then-length : b.length ≡ length_after (buffer_after buffer used q) (length_after buffer used q) r
  then-length = k.0 ∙ (λ i. length_after (h.2 i) (h.0 i) r)

  then-number : b.number ≡ number_in (edit_answer (buffer_after buffer used q) (length_after buffer used q) r).result
  then-number = k.1 ∙ (λ i. number_in (edit_answer (h.2 i) (h.0 i) r).result)

  then-buffer : b.buffer ≡ buffer_after (buffer_after buffer used q) (length_after buffer used q) r
  then-buffer = k.2 ∙ (λ i. buffer_after (h.2 i) (h.0 i) r)

-- Two calls of `recfile_edit` whose requests name different sets: if all four `*number` are 0, both orders return one length and leave the same bytes up to it.
pub edits-alike : (buffer : Bytes) (used : ℕ) (q r : Bytes) → Apart q r → (q-first r-then r-first q-then : Left) → EitherOrder buffer used q r q-first r-then r-first q-then
    → q-first.number ≡ 0 → r-then.number ≡ 0 → r-first.number ≡ 0 → q-then.number ≡ 0 → AlikeFiles r-then.buffer r-then.length q-then.buffer q-then.length
edits-alike buffer used q r apart a b c d o e f g h =
    let bn = then-length buffer used q r a b o.first_q o.then-r in
    let bb = then-buffer buffer used q r a b o.first_q o.then-r in
    let dn = then-length buffer used r q c d o.first_r o.then-q in
    let db = then-buffer buffer used r q c d o.first_r o.then-q in
    let s = either_order buffer used q r apart (sym o.first_q.1 ∙ e) (sym (then-number buffer used q r a b o.first_q o.then-r) ∙ f) (sym o.first_r.1 ∙ g) (sym (then-number buffer used r q c d o.first_r o.then-q) ∙ h) in
    (bn ∙ s.0 ∙ sym dn, (λ i. take (bn i) (bb i)) ∙ s.1 ∙ sym (λ i. take (dn i) (db i)))

-- Calls one after another, in two orders. A run stands for its requests, a refused one for none.

-- what accepted ones left is what the edits that they stand for leave
record Ends (cs : List EditFromC) (buffer : Bytes) (used : ℕ) (last : Bytes) (n : ℕ) : Type 0 where
  buffers : last ≡ (singly (singles (map call_of cs)) buffer used).buffer
  lengths : n ≡ (singly (singles (map call_of cs)) buffer used).length
  accepted : AllAccepted (singly (singles (map call_of cs)) buffer used).told

chain-ends : (cs : List EditFromC) (buffer : Bytes) (used : ℕ) (ls : List Left) (last : Bytes) (n : ℕ) → Chain cs buffer used ls last n → Accepted cs ls → Ends cs buffer used last n
chain-ends cs buffer used ls last n h a =
    let l : Leaves buffer used (map call_of cs) (numbers_in cs ls) (lengths_in ls) last n = chain-leaves cs buffer used ls last n h in
    let e : run (map call_of cs) buffer used ≡ singly (singles (map call_of cs)) buffer used = run-singly (map call_of cs) buffer used in
    let ts : List Told = (singly (singles (map call_of cs)) buffer used).told in
    record {
      buffers = l.buffers ∙ ap (λ (r : Ran). r.buffer) e;
      lengths = l.lengths ∙ ap (λ (r : Ran). r.length) e;
      accepted = each_of (λ (k : ℕ). k ≡ 0) (λ (t : Told). t.number) ts (subst (Each (λ (k : ℕ). k ≡ 0)) (l.tells ∙ ap (λ (r : Ran). numbers_told r.told) e) a);
    }

module _ (buffer : Bytes) (used : ℕ) (cs ds : List EditFromC) (ls ms : List Left) (b : Bytes) (m : ℕ) (c : Bytes) (n : ℕ) (one : Chain cs buffer used ls b m) (other : Chain ds buffer used ms c n) (passes : check_answer buffer used ≡ 0)
    (accepted : Accepted cs ls) (otherwise : Accepted ds ms) where
  abbrev left : Ends cs buffer used b m
  left = chain-ends cs buffer used ls b m one accepted

  abbrev left_other : Ends ds buffer used c n
  left_other = chain-ends ds buffer used ms c n other otherwise

  passed : verdict buffer used ≡ 0
  unfolding check_answer
  passed = passes

  alike-by : SameFile (singly (singles (map call_of cs)) buffer used) (singly (singles (map call_of ds)) buffer used) → AlikeFiles b m c n
  alike-by e = (left.lengths ∙ e.0 ∙ sym left_other.lengths, (λ i. take (left.lengths i) (left.buffers i)) ∙ e.1 ∙ sym (λ i. take (left_other.lengths i) (left_other.buffers i)))

  -- On a file that passes, all accepted, each set's own requests in the same order: the files at the end are alike.
  pub chains-alike : ((set : Bytes) → own set (requests_of cs) ≡ own set (requests_of ds)) → AlikeFiles b m c n
  chains-alike h = alike-by (orders-alike buffer used (singles (map call_of cs)) (singles (map call_of ds)) passed left.accepted left_other.accepted h)

  -- the same where every request names one of two sets
  pub two-sets-chains : (s t : Bytes) → Each (NamesEither s t) (requests_of cs) → Each (NamesEither s t) (requests_of ds) → own s (requests_of cs) ≡ own s (requests_of ds) → own t (requests_of cs) ≡ own t (requests_of ds) → AlikeFiles b m c n
  two-sets-chains s t h k d e = alike-by (two-sets-alike s t buffer used (singles (map call_of cs)) (singles (map call_of ds)) passed left.accepted left_other.accepted h k d e)
