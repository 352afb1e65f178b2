-- A spare merged twice changes nothing the second time, where each of its records belongs to a set with a key and omits no name of an `%auto` list.
use Prim.Native.Nat.{ℕ, ◌≤◌}
use mathlib.Core.Path.{◌≡◌, refl, sym, ap, ◌∙◌, subst}
use mathlib.Core.Bool.{Bool, true, false, ◌&&◌, ◌||◌, and-eq-true_iff, false≢true}
use mathlib.Core.List.{List, [], ◌∷◌, ◌++◌, map}
use mathlib.Core.Option.{Option, none, some}
use lib.Dec.{eqb, leb}
use lib.ListN.{length, take}
use borrow.Author.Tests.{leb-true}
use Rattle.format.specs.Bytes.{Bytes, pick, all, any, among, is_some}
use Rattle.format.specs.Lists.{is_filled, onward}
use Rattle.format.specs.Pieces.{read_of}
use Rattle.format.specs.Sets.{RecSet, sets_of}
use Rattle.format.specs.Limits.{file_bytes}
use Rattle.format.specs.Numbers.{int_bounds}
use Rattle.format.specs.Rules.{key, auto}
use Rattle.format.specs.Written.{Pair, new_field}
use Rattle.format.specs.Numbering.{pair_names, or_else}
use Rattle.format.specs.Questions.{verdict}
use Rattle.format.specs.Edits.{Edit, in_set}
use Rattle.format.specs.Requests.{tagged, asks_for, Request, request_of, encoded}
use Rattle.format.specs.Plain.{Plain, plain_of, set_at, index_of, apply_in, apply, completed_by, request_or, Step, step}
use Rattle.format.specs.Calls.{Answer, number_in, value_or, then_no, sets_in, Filled, leaves, edit_answer}
use Rattle.format.specs.Runs.{Single}
use Rattle.format.proofs.Elements.{Each, all-each, each_all, each-imp}
use Rattle.format.proofs.Encoding.{fields_back, request_fields, encoded-reads}
use Rattle.format.proofs.Completing.{named-itself}
use Rattle.format.proofs.Questions.{Accepted, step-accepted}
use Rattle.format.proofs.Applying.{agrees-sets}
use Rattle.format.proofs.Passing.{verdict-read, reads_as, Holds, holds-start, holds-agrees}
use Rattle.format.proofs.Running.{stands-start, single-stands, single-told}
use Rattle.merging.specs.Merging.{SpareRecord, records_of, insert_for, request_for, is_twin, has_twin, of_named, is_skipped, answer_unless, record_answer, then_answer, records_answer, has_sets, spare_no, unless_no, merge_answer}
use Rattle.merging.specs.Appending.{makes_twin, is_lasting}
use Rattle.merging.proofs.Named.{named-there, named-imp, named-kept, edited_by, named-edited}
use Rattle.merging.proofs.ByKey.{same_self}
use Rattle.merging.proofs.Singly.{is_value, unless-accepted, merge-accepted}

-- the request of a spare's record reads as that record, or is none

pairless-unread : (set : Bytes) (q : Request) → request_of (encoded (record { set = set; edit = Edit.insert [] })) ≡ some q → ⊥
unfolding request_of encoded
pairless-unread set q e = go (leb (length (encoded (record { set = set; edit = Edit.insert [] }))) file_bytes) e
  where
    go : (t : Bool) → pick t (onward asks_for (tagged (encoded (record { set = set; edit = Edit.insert [] })))) none ≡ some q → ⊥
    go true h = false≢true (ap is_some (sym (ap (onward asks_for) (fields_back (request_fields (record { set = set; edit = Edit.insert [] })))) ∙ h))
    go false h = false≢true (ap is_some h)

read_short : (s : Bytes) (q : Request) → request_of s ≡ some q → length s ≤ file_bytes
unfolding request_of
read_short s q e = leb-true (length s) file_bytes (go (leb (length s) file_bytes) e)
  where
    go : (t : Bool) → pick t (onward asks_for (tagged s)) none ≡ some q → t ≡ true
    go true h = refl
    go false h = absurd (false≢true (ap is_some h))

read_pairs : (set : Bytes) (new : List Pair) (q : Request) → request_of (encoded (record { set = set; edit = Edit.insert new })) ≡ some q → record { set = set; edit = Edit.insert new } ≡ q
read_pairs set [] q e = absurd (pairless-unread set q e)
read_pairs set (p ∷ ps) q e =
    let x : Request = record { set = set; edit = Edit.insert (p ∷ ps) } in
    ap request_or (sym (encoded-reads x (tt, read_short (encoded x) q e)) ∙ e)

pub reads-itself : (x : SpareRecord) (q : Request) → request_of (request_for x) ≡ some q → insert_for x ≡ q
reads-itself x q e = read_pairs x.set x.pairs q e

-- tests of a set that an insert does not turn to no

abbrev pub StaysTrue : (RecSet → Bool) → Type 0
StaysTrue f = (s : RecSet) (new : List Pair) → f s ≡ true → f (in_set (Edit.insert new) s) ≡ true

any-before : {A : Type 0} (p : A → Bool) (xs ys : List A) → any p xs ≡ true → any p (xs ++ ys) ≡ true
any-before p [] ys e = absurd (false≢true e)
any-before p (x ∷ xs) ys e = go (p x) e (any-before p xs ys)
  where
    go : (t : Bool) → (t || any p xs) ≡ true → (any p xs ≡ true → any p (xs ++ ys) ≡ true) → (t || any p (xs ++ ys)) ≡ true
    go true h ih = refl
    go false h ih = ih h

any-at-end : {A : Type 0} (p : A → Bool) (xs : List A) (y : A) → p y ≡ true → any p (xs ++ (y ∷ [])) ≡ true
any-at-end p [] y e = ap (λ (t : Bool). t || false) e
any-at-end p (x ∷ xs) y e = go (p x) (any-at-end p xs y e)
  where
    go : (t : Bool) → any p (xs ++ (y ∷ [])) ≡ true → (t || any p (xs ++ (y ∷ []))) ≡ true
    go true h = refl
    go false h = h

twin-stays : (new : List Pair) → StaysTrue (has_twin new)
twin-stays new s ps e =
    let k = (and-eq-true_iff (is_filled (key s.rules)) (any (is_twin new) s.members)).0 e in
    (and-eq-true_iff (is_filled (key s.rules)) (any (is_twin new) (s.members ++ (map new_field ps ∷ [])))).1 (k.0, any-before (is_twin new) s.members (map new_field ps ∷ []) k.1)

-- an inserted record is its own twin
twin-itself : (new : List Pair) → is_twin new (map new_field new) ≡ true
twin-itself [] = refl
twin-itself (p ∷ new) = (λ i. same_self p.name i && same_self p.value i && twin-itself new i)

insert-makes-twin : (new : List Pair) (s : RecSet) → makes_twin new s ≡ true → has_twin new (in_set (Edit.insert new) s) ≡ true
insert-makes-twin new s e =
    let k = (and-eq-true_iff (is_filled (key s.rules)) (all (λ (n : Bytes). among n (pair_names new)) (auto s.rules))).0 e in
    (and-eq-true_iff (is_filled (key s.rules)) (any (is_twin new) (s.members ++ (map new_field new ∷ [])))).1 (k.0, any-at-end (is_twin new) s.members (map new_field new) (twin-itself new))

-- sets by which no such test has turned to no
abbrev pub KeepsAll : List RecSet → List RecSet → Type 0
KeepsAll ss ts = (f : RecSet → Bool) → StaysTrue f → (n : Bytes) → of_named f n ss ≡ true → of_named f n ts ≡ true

insert-keeps : (x : SpareRecord) (p : Plain) → KeepsAll p.sets (apply (insert_for x) p).sets
unfolding apply
insert-keeps x p f g n e = go (index_of x.set p.sets)
  where
    go : (o : Option ℕ) → of_named f n (apply_in o (Edit.insert x.pairs) p).sets ≡ true
    go none = e
    go (some i) = named-kept f n (Edit.insert x.pairs) (λ s h. g s x.pairs h) i p.sets e

insert-twin : (x : SpareRecord) (p : Plain) → is_lasting x p.sets ≡ true → is_skipped x (apply (insert_for x) p).sets ≡ true
unfolding apply
insert-twin x p e =
    let f : RecSet → Bool = has_twin x.pairs in
    let c : Edit = Edit.insert x.pairs in
    ap (of_named f x.set) (cut (index_of x.set p.sets))
    ∙ named-edited f x.set c p.sets
    ∙ named-imp (makes_twin x.pairs) (λ (s : RecSet). f (in_set c s)) (insert-makes-twin x.pairs) x.set p.sets e
  where
    cut : (o : Option ℕ) → (apply_in o (Edit.insert x.pairs) p).sets ≡ edited_by (has_twin x.pairs) x.set (Edit.insert x.pairs) o p.sets
    cut none = refl
    cut (some i) = refl

-- an accepted insert that omits no name puts in the record as it is
accepted-inserts : (room : ℕ) (p : Plain) (x : SpareRecord) (file : Plain) → is_lasting x p.sets ≡ true → Accepted room p (request_for x) file → file ≡ apply (insert_for x) p
accepted-inserts room p x file e a =
    let asks : insert_for x ≡ a.asks = reads-itself x a.asks a.reads in
    let there = named-there (makes_twin x.pairs) x.set p.sets e in
    let s : RecSet = set_at there.0 p.sets in
    let named = ((and-eq-true_iff (is_filled (key s.rules)) (all (λ (n : Bytes). among n (pair_names x.pairs)) (auto s.rules))).0 there.2).1 in
    let itself = named-itself p (insert_for x) x.pairs there.0 there.1 refl named in
    let whole : a.whole ≡ insert_for x = ap request_or (sym a.completes ∙ ap (completed_by int_bounds p) (sym asks) ∙ itself) in
    a.makes ∙ ap (λ (q : Request). apply q p) whole

-- one record, merged into the file that holds a plain file

pub sets-held : (buffer : Bytes) (used : ℕ) (p : Plain) → Holds buffer used p → sets_in buffer used ≡ p.sets
sets-held buffer used p h = ap sets_of (reads_as (take used buffer) p.pieces h.reads) ∙ agrees-sets p (holds-agrees buffer used p h)

-- what it leaves: no such test has turned, and its twin is there
record Leaves (x : SpareRecord) (p : Plain) (m : ℕ) (out : Bytes) : Type 0 where
  file : Plain
  holds : Holds out m file
  keeps : KeepsAll p.sets file.sets
  twin : is_skipped x file.sets ≡ true

module _ (x : SpareRecord) (buffer : Bytes) (used : ℕ) (p : Plain) (h : Holds buffer used p) (e : is_lasting x p.sets ≡ true) where
  edit-leaves : (m : ℕ) → (edit_answer buffer used (request_for x)).result ≡ Answer.value m → Leaves x p m (edit_answer buffer used (request_for x)).out
  edit-leaves m r =
      let c : Single = Single.edit (request_for x) in
      let st = stands-start buffer used p h in
      let s : Step = step (length buffer) p (request_for x) in
      let a = step-accepted (length buffer) p (request_for x) (sym (single-told buffer used buffer used p st c) ∙ ap number_in r) in
      let made : s.file ≡ apply (insert_for x) p = accepted-inserts (length buffer) p x s.file e a in
      record {
        file = s.file;
        holds = subst (λ (n : ℕ). Holds (edit_answer buffer used (request_for x)).out n s.file) (ap (value_or used) r) (single-stands buffer used buffer used p st c).holds;
        keeps = subst (λ (q : Plain). KeepsAll p.sets q.sets) (sym made) (insert-keeps x p);
        twin = ap (λ (q : Plain). is_skipped x q.sets) made ∙ insert-twin x p e;
      }

  leaves_by : (t : Bool) → is_skipped x (sets_in buffer used) ≡ t → (m : ℕ) → (answer_unless t x buffer used).result ≡ Answer.value m → Leaves x p m (answer_unless t x buffer used).out
  leaves_by true s m r = record { file = p; holds = subst (λ (n : ℕ). Holds buffer n p) (ap (value_or used) r) h; keeps = λ f g n k. k; twin = ap (is_skipped x) (sym (sets-held buffer used p h)) ∙ s }
  leaves_by false s m r = edit-leaves m r

  record-leaves : (m : ℕ) → (record_answer x buffer used).result ≡ Answer.value m → Leaves x p m (record_answer x buffer used).out
  record-leaves m r = leaves_by (is_skipped x (sets_in buffer used)) refl m r

-- several records
record AllLeave (xs : List SpareRecord) (p : Plain) (m : ℕ) (out : Bytes) : Type 0 where
  file : Plain
  holds : Holds out m file
  keeps : KeepsAll p.sets file.sets
  twins : Each (λ (x : SpareRecord). is_skipped x file.sets ≡ true) xs

abbrev accepted_as : ℕ → Bytes → Filled
accepted_as n out = record { result = Answer.value n; out = out }

lasting-kept : (xs : List SpareRecord) (ss ts : List RecSet) → KeepsAll ss ts → Each (λ (x : SpareRecord). is_lasting x ss ≡ true) xs → Each (λ (x : SpareRecord). is_lasting x ts ≡ true) xs
lasting-kept xs ss ts k h = each-imp (λ (x : SpareRecord). is_lasting x ss ≡ true) (λ (x : SpareRecord). is_lasting x ts ≡ true) (λ x e. k (makes_twin x.pairs) (λ s new q. q) x.set e) xs h

records-leave : (xs : List SpareRecord) (buffer : Bytes) (used : ℕ) (p : Plain) → Holds buffer used p → Each (λ (x : SpareRecord). is_lasting x p.sets ≡ true) xs → (m : ℕ) (out : Bytes) → records_answer xs buffer used ≡ accepted_as m out → AllLeave xs p m out
unfolding records_answer
records-leave [] buffer used p h e m out r =
    let here : Holds out m p = subst (λ (a : Filled). Holds a.out (value_or used a.result) p) r h in
    record { file = p; holds = here; keeps = λ f g n k. k; twins = tt }
records-leave (x ∷ xs) buffer used p h e m out r = go (record_answer x buffer used).result refl r (λ b u q k l w. records-leave xs b u q k l m out w)
  where
    go : (a : Answer) → (record_answer x buffer used).result ≡ a → then_answer a (record_answer x buffer used).out (records_answer xs) ≡ accepted_as m out
        → ((b : Bytes) (u : ℕ) (q : Plain) → Holds b u q → Each (λ (y : SpareRecord). is_lasting y q.sets ≡ true) xs → records_answer xs b u ≡ accepted_as m out → AllLeave xs q m out) → AllLeave (x ∷ xs) p m out
    go (Answer.value n) z w ih =
        let one = record-leaves x buffer used p h e.0 n z in
        let q : Plain = one.file in
        let rest = ih (record_answer x buffer used).out n q one.holds (lasting-kept xs p.sets q.sets one.keeps e.1) w in
        record {
          file = rest.file;
          holds = rest.holds;
          keeps = λ f g k y. rest.keeps f g k (one.keeps f g k y);
          twins = (rest.keeps (has_twin x.pairs) (twin-stays x.pairs) x.set one.twin, rest.twins);
        }
    go (Answer.refusal k) z w ih = absurd (false≢true (ap (λ (f : Filled). is_value f.result) w))

-- records whose twins are all there are all skipped
twins-skipped : (xs : List SpareRecord) (buffer : Bytes) (used : ℕ) → Each (λ (x : SpareRecord). is_skipped x (sets_in buffer used) ≡ true) xs → records_answer xs buffer used ≡ accepted_as used buffer
unfolding records_answer
twins-skipped [] buffer used h = refl
twins-skipped (x ∷ xs) buffer used h = (λ i. then_answer (answer_unless (h.0 i) x buffer used).result (answer_unless (h.0 i) x buffer used).out (records_answer xs)) ∙ twins-skipped xs buffer used h.1

-- The same records again change nothing.
pub records-again : (xs : List SpareRecord) (buffer : Bytes) (used : ℕ) (p : Plain) → Holds buffer used p → Each (λ (x : SpareRecord). is_lasting x p.sets ≡ true) xs → (m : ℕ) (out : Bytes) → records_answer xs buffer used ≡ record { result = Answer.value m; out = out } → records_answer xs out m ≡ record { result = Answer.value m; out = out }
records-again xs buffer used p h e m out r =
    let a = records-leave xs buffer used p h e m out r in
    twins-skipped xs out m (subst (λ (ss : List RecSet). Each (λ (x : SpareRecord). is_skipped x ss ≡ true) xs) (sym (sets-held out m a.file a.holds)) a.twins)

-- the same of a merge

pub there-named : (n : Bytes) (ss : List RecSet) → is_some (index_of n ss) ≡ of_named (λ (s : RecSet). true) n ss
there-named n ss = go (index_of n ss)
  where
    go : (o : Option ℕ) → is_some o ≡ or_else false (λ (i : ℕ). true) o
    go none = refl
    go (some i) = refl

sets-kept : (ss ts spare : List RecSet) → KeepsAll ss ts → has_sets ss spare ≡ true → has_sets ts spare ≡ true
sets-kept ss ts spare k e =
    let has : List RecSet → RecSet → Bool = λ (us : List RecSet) (s : RecSet). is_some (index_of s.name us) in
    each_all (has ts) spare (each-imp (λ (s : RecSet). has ss s ≡ true) (λ (s : RecSet). has ts s ≡ true) (λ s h. there-named s.name ts ∙ k (λ (x : RecSet). true) (λ x new q. q) s.name (sym (there-named s.name ss) ∙ h)) spare (all-each (has ss) spare e))

module _ (buffer : Bytes) (used : ℕ) (spare : Bytes) (n m : ℕ) (r : (merge_answer buffer used spare n).result ≡ Answer.value m) where
  merge-records : records_answer (records_of (sets_in spare n)) buffer used ≡ accepted_as m (merge_answer buffer used spare n).out
  unfolding merge_answer
  merge-records =
      let a : Filled = records_answer (records_of (sets_in spare n)) buffer used in
      let e : a.result ≡ Answer.value m = (unless-accepted (then_no (verdict buffer used) (spare_no (sets_in buffer used) spare n)) a.result m r).1 in
      let o : a.out ≡ (merge_answer buffer used spare n).out = sym (ap (λ (x : Answer). leaves x a.out buffer) r) in
      (λ i. record { result = e i; out = o i })

  merge-as : (b : Bytes) (u : ℕ) → verdict b u ≡ 0 → verdict spare n ≡ 0 → has_sets (sets_in b u) (sets_in spare n) ≡ true → records_answer (records_of (sets_in spare n)) b u ≡ accepted_as u b → merge_answer b u spare n ≡ accepted_as u b
  unfolding merge_answer
  merge-as b u v w s e =
      (λ i. let x : Answer = unless_no (then_no (v i) (pick (eqb (w i) 0) (pick (s i) 0 36) 35)) (e i).result in record { result = x; out = leaves x (e i).out b })

  -- Merging the same spare again is accepted and changes no byte.
  pub merge-again : all (λ (x : SpareRecord). is_lasting x (sets_in buffer used)) (records_of (sets_in spare n)) ≡ true → merge_answer (merge_answer buffer used spare n).out m spare n ≡ record { result = Answer.value m; out = (merge_answer buffer used spare n).out }
  merge-again e =
      let g = merge-accepted buffer used spare n m r in
      let p : Plain = plain_of (read_of (take used buffer)) in
      let h : Holds buffer used p = holds-start buffer used (read_of (take used buffer)) g.passes (verdict-read buffer used g.passes) in
      let read = sets-held buffer used p h in
      let settled = subst (λ (ss : List RecSet). Each (λ (x : SpareRecord). is_lasting x ss ≡ true) (records_of (sets_in spare n))) read (all-each (λ (x : SpareRecord). is_lasting x (sets_in buffer used)) (records_of (sets_in spare n)) e) in
      let a = records-leave (records_of (sets_in spare n)) buffer used p h settled m (merge_answer buffer used spare n).out merge-records in
      let again = records-again (records_of (sets_in spare n)) buffer used p h settled m (merge_answer buffer used spare n).out merge-records in
      let there = sets-kept p.sets a.file.sets (sets_in spare n) a.keeps (ap (λ (ss : List RecSet). has_sets ss (sets_in spare n)) (sym read) ∙ g.sets-there) in
      merge-as (merge_answer buffer used spare n).out m a.holds.passes g.spare-passes
      (ap (λ (ss : List RecSet). has_sets ss (sets_in spare n)) (sets-held (merge_answer buffer used spare n).out m a.file a.holds) ∙ there) again
