-- "Refused: 31, .. if for some omitted name no int meets that description, and only then" (document 02, order 6), over the plain file's own step.
use Prim.Native.Nat.{ℕ, zero, suc, ◌<◌}
use native.Mathlib.Omega.{arith}
use mathlib.Core.Path.{◌≡◌, refl, sym, ap, ◌∙◌, subst}
use mathlib.Core.Bool.{Bool, true, false, ◌&&◌, ◌||◌, not, and-eq-true_iff, and-false, false≢true}
use mathlib.Core.List.{List, [], ◌∷◌, ◌++◌}
use mathlib.Core.Option.{Option, none, some}
use lib.Dec.{eqb}
use lib.ListN.{take, drop}
use borrow.Author.Tests.{eqb-false, not-true}
use Rattle.format.specs.Bytes.{Bytes, pick, all, same, among, is_some}
use Rattle.format.specs.Pieces.{read_of}
use Rattle.format.specs.Sets.{RecSet}
use Rattle.format.specs.Numbers.{int_bounds}
use Rattle.format.specs.Rules.{auto, type_rules, are_types_defined, is_counted, autos_counted, is_typed_well}
use Rattle.format.specs.Written.{Pair, is_legal_pair}
use Rattle.format.specs.Numbering.{omitted, next_number}
use Rattle.format.specs.Edits.{Edit}
use Rattle.format.specs.Questions.{Row, first_no, types_well, verdict}
use Rattle.format.specs.Requests.{Request, request_of}
use Rattle.format.specs.Plain.{Plain, plain_of, index_of, set_at, completed_by, Asked, is_legal_edit, edit_questions, step_by, step_of, step}
use Rattle.format.proofs.Elements.{Each, all-each, each-imp}
use Rattle.format.proofs.Listing.{same_true}
use Rattle.format.proofs.Directory.{same_self}
use Rattle.format.proofs.Numbering.{LeastOf, Suits, next-least}
use Rattle.format.proofs.Completing.{each-omitted, completed-exactly, completed-on}
use Rattle.format.proofs.Questions.{Yes, asked}
use Rattle.format.proofs.Passing.{SetsPass, verdict-read, verdict-passes}

-- A legal insert into a set that is there, and a name of the set's `%auto` lists that it omits and that has no number: none is an int, above every int of that name in the set, whose text meets the name's types (`Suits`).
pub record Numberless (p : Plain) (request : Bytes) : Type 0 where
  pub asks : Request
  pub reads : request_of request ≡ some asks
  pub new : List Pair
  pub inserts : asks.edit ≡ Edit.insert new
  pub legal : all is_legal_pair new ≡ true
  pub place : ℕ
  pub there : index_of asks.set p.sets ≡ some place
  pub name : Bytes
  pub omits : among name (omitted (set_at place p.sets).rules new) ≡ true
  pub numberless : (m : ℕ) → Suits int_bounds (set_at place p.sets) name m → ⊥

-- one question of a list: the first that says no

picked : (b : Bool) (others number k : ℕ) → pick b others number ≡ k → (number ≡ k → ⊥) → (b ≡ true) × (others ≡ k)
picked true others number k e h = (refl, e)
picked false others number k e h = absurd (h e)

module _ {A : Type 0} (a : A) (k : ℕ) where
  -- a question of another number
  abbrev is_other : Row A → Bool
  is_other r = not (eqb r.number k)

  passed : (r : Row A) (rs : List (Row A)) → is_other r ≡ true → first_no (r ∷ rs) a ≡ k → (r.asks a ≡ true) × (first_no rs a ≡ k)
  passed r rs h e = picked (r.asks a) (first_no rs a) r.number k e (eqb-false r.number k (not-true (eqb r.number k) h))

  never : (rs : List (Row A)) → all is_other rs ≡ true → 0 < k → first_no rs a ≡ k → ⊥
  never [] h p e = omega (arith, p, e)
  never (r ∷ rs) h p e = let n = (and-eq-true_iff (is_other r) (all is_other rs)).0 h in never rs n.1 p (passed r rs n.0 e).1

module _ {A : Type 0} (a : A) (r : Row A) (ts : List (Row A)) where
  says-no : (rs : List (Row A)) → Each (Yes a) rs → r.asks a ≡ false → first_no (rs ++ (r ∷ ts)) a ≡ r.number
  says-no [] h e = ap (λ (b : Bool). pick b (first_no ts a) r.number) e
  says-no (x ∷ rs) h e = ap (λ (b : Bool). pick b (first_no (rs ++ (r ∷ ts)) a) x.number) h.0 ∙ says-no rs h.1 e

  no-said : (rs : List (Row A)) → all (is_other a r.number) rs ≡ true → all (is_other a r.number) ts ≡ true → 0 < r.number → first_no (rs ++ (r ∷ ts)) a ≡ r.number → Each (Yes a) rs × (r.asks a ≡ false)
  no-said [] h o p e = (tt, go (r.asks a) refl)
    where
      go : (b : Bool) → r.asks a ≡ b → r.asks a ≡ false
      go true q = absurd (never a r.number ts o p (sym (ap (λ (b : Bool). pick b (first_no ts a) r.number) q) ∙ e))
      go false q = q
  no-said (x ∷ rs) h o p e =
      let n = (and-eq-true_iff (is_other a r.number x) (all (is_other a r.number) rs)).0 h in
      let k = passed a r.number x (rs ++ (r ∷ ts)) n.0 e in
      let l = no-said rs n.1 o p k.1 in
      ((k.0, l.0), l.1)

-- question 31 of an edit's, those before it and those behind it
abbrev row31 : Row Asked
row31 = record { number = 31; asks = λ (a : Asked). a.complete }

abbrev before31 : List (Row Asked)
before31 = take 6 (edit_questions int_bounds)

abbrev behind31 : List (Row Asked)
behind31 = drop 7 (edit_questions int_bounds)

asked-31 : (a : Asked) → first_no (edit_questions int_bounds) a ≡ 31 → Each (Yes a) before31 × (a.complete ≡ false)
asked-31 a e = no-said a row31 behind31 before31 refl refl (omega arith) e

-- A passing file's question 7: the types of a name of an `%auto` list are all int or range.
abbrev Counted : RecSet → Type 0
Counted s = Each (λ (n : Bytes). is_counted int_bounds (type_rules int_bounds s.rules) n ≡ true) (auto s.rules)

sets-counted : (ss : List RecSet) → types_well int_bounds ss ≡ true → (i : ℕ) → Counted (set_at i ss)
sets-counted [] e i = tt
sets-counted (s ∷ ss) e zero =
    let h = (and-eq-true_iff (is_typed_well int_bounds s.rules) (types_well int_bounds ss)).0 e in
    let k = (and-eq-true_iff (are_types_defined int_bounds s.rules) (autos_counted int_bounds s.rules)).0 h.0 in
    all-each (is_counted int_bounds (type_rules int_bounds s.rules)) (auto s.rules) k.1
sets-counted (s ∷ ss) e (suc i) = sets-counted ss ((and-eq-true_iff (is_typed_well int_bounds s.rules) (types_well int_bounds ss)).0 e).1 i

-- so the number of an omitted name is the least that suits, and there is none exactly where none suits
module _ (s : RecSet) where
  abbrev Least : Bytes → Type 0
  Least n = LeastOf (Suits int_bounds s n) (next_number int_bounds s n)

  abbrev has_number : Bytes → Bool
  has_number n = is_some (next_number int_bounds s n)

  omitted-least : (new : List Pair) → Counted s → Each Least (omitted s.rules new)
  omitted-least new c =
      let P : Bytes → Type 0 = λ (n : Bytes). is_counted int_bounds (type_rules int_bounds s.rules) n ≡ true in
      each-imp P Least (λ n h. next-least int_bounds s n h) (omitted s.rules new) (each-omitted P s.rules new c)

  -- no int suits
  abbrev NoneSuits : Bytes → Type 0
  NoneSuits n = (m : ℕ) → Suits int_bounds s n m → ⊥

  some-numberless : (ns : List Bytes) → Each Least ns → all has_number ns ≡ false → (n : Bytes) × ((among n ns ≡ true) × NoneSuits n)
  some-numberless [] h e = absurd (false≢true (sym e))
  some-numberless (n ∷ ns) h e = go (next_number int_bounds s n) refl h.0 (some-numberless ns h.1)
    where
      or_right : (a : Bool) {b : Bool} → b ≡ true → (a || b) ≡ true
      or_right true q = refl
      or_right false q = q

      go : (x : Option ℕ) → next_number int_bounds s n ≡ x → LeastOf (Suits int_bounds s n) x → (all has_number ns ≡ false → (l : Bytes) × ((among l ns ≡ true) × NoneSuits l)) → (l : Bytes) × ((among l (n ∷ ns) ≡ true) × NoneSuits l)
      go none q l on = (n, (ap (λ (b : Bool). b || among n ns) (same_self n), l))
      go (some k) q l on = let r = on (sym (ap (λ (x : Option ℕ). is_some x && all has_number ns) q) ∙ e) in (r.0, (or_right (same r.0 n) r.1.0, r.1.1))

  none-suits : (n : Bytes) (x : Option ℕ) → LeastOf (Suits int_bounds s n) x → NoneSuits n → is_some x ≡ false
  none-suits n none l f = refl
  none-suits n (some k) l f = absurd (f k l.0)

  numberless-some : (n : Bytes) (ns : List Bytes) → Each Least ns → among n ns ≡ true → NoneSuits n → all has_number ns ≡ false
  numberless-some n [] h a f = absurd (false≢true a)
  numberless-some n (x ∷ ns) h a f = go (same n x) refl (λ b. numberless-some n ns h.1 b f)
    where
      go : (c : Bool) → same n x ≡ c → (among n ns ≡ true → all has_number ns ≡ false) → (has_number x && all has_number ns) ≡ false
      go true q on = ap (λ (b : Bool). b && all has_number ns) (none-suits x (next_number int_bounds s x) h.0 (subst NoneSuits (same_true n x q) f))
      go false q on = ap (λ (b : Bool). has_number x && b) (on (sym (ap (λ (b : Bool). b || among n ns) q) ∙ a)) ∙ and-false (has_number x)

-- The law.

number_of : (n : ℕ) (p r : Plain) → (step_by n p r).number ≡ n
number_of zero p r = refl
number_of (suc n) p r = refl

some-place : (x : Option ℕ) → is_some x ≡ true → (i : ℕ) × (x ≡ some i)
some-place none e = absurd (false≢true e)
some-place (some i) e = (i, refl)

module _ (room : ℕ) (p : Plain) (request : Bytes) (pass : SetsPass p.sets) where
  counted-at : (i : ℕ) → Counted (set_at i p.sets)
  counted-at i = sets-counted p.sets pass.1.1.1.0 i

  abbrev no : Request → ℕ
  no q = first_no (edit_questions int_bounds) (asked room p q)

  -- refused so
  refused-edit : (q : Request) → request_of request ≡ some q → (e : Edit) → q.edit ≡ e → no q ≡ 31 → Numberless p request
  refused-edit q r (Edit.on j a) e h =
      let x = asked-31 (asked room p q) h in
      absurd (false≢true (sym x.1 ∙ ap (λ (d : Edit). is_some (completed_by int_bounds p (record { set = q.set; edit = d }))) e ∙ ap is_some (completed-on p q.set j a)))
  refused-edit q r (Edit.insert new) e h =
      let x = asked-31 (asked room p q) h in
      let i = some-place (index_of q.set p.sets) x.0.1.0 in
      let s : RecSet = set_at i.0 p.sets in
      let f = some-numberless s (omitted s.rules new) (omitted-least s new (counted-at i.0)) (sym (completed-exactly p q new i.0 i.1 e) ∙ x.1) in
      record {
        asks = q;
        reads = r;
        new = new;
        inserts = e;
        legal = subst (λ (d : Edit). is_legal_edit d ≡ true) e x.0.1.1.1.1.1.0;
        place = i.0;
        there = i.1;
        name = f.0;
        omits = f.1.0;
        numberless = f.1.1;
      }

  refused-of : (x : Option Request) → request_of request ≡ x → (step_of int_bounds room p x).number ≡ 31 → Numberless p request
  refused-of none r e = absurd (omega arith)
  refused-of (some q) r e = refused-edit q r q.edit refl (sym (number_of (no q) p (asked room p q).result) ∙ e)

  -- and only then
  numberless-edit : Numberless p request → (step room p request).number ≡ 31
  unfolding step
  numberless-edit l =
      let q : Request = record { set = l.asks.set; edit = Edit.insert l.new } in
      let r : request_of request ≡ some q = l.reads ∙ (λ i. some (record { set = l.asks.set; edit = l.inserts i })) in
      let s : RecSet = set_at l.place p.sets in
      let a : Asked = asked room p q in
      let yes : Each (Yes a) before31 = (refl, (ap is_some l.there, (refl, (refl, (refl, (l.legal, tt)))))) in
      let least = omitted-least s l.new (counted-at l.place) in
      let lacks : a.complete ≡ false = completed-exactly p q l.new l.place l.there refl ∙ numberless-some s l.name (omitted s.rules l.new) least l.omits l.numberless in
      ap (λ (x : Option Request). (step_of int_bounds room p x).number) r ∙ number_of (no q) p a.result ∙ says-no a row31 behind31 before31 yes lacks

  -- Where questions 4 to 14 and 30 say yes of the plain file's sets.
  pub numberless-exactly : ((step room p request).number ≡ 31 → Numberless p request) × (Numberless p request → (step room p request).number ≡ 31)
  unfolding step
  numberless-exactly = (refused-of (request_of request) refl, numberless-edit)

-- Of what a file that passes reads as.
pub numberless-file : (buffer : Bytes) (used : ℕ) (room : ℕ) (request : Bytes) → verdict buffer used ≡ 0 → let p : Plain = plain_of (read_of (take used buffer)) in
    ((step room p request).number ≡ 31 → Numberless p request) × (Numberless p request → (step room p request).number ≡ 31)
unfolding plain_of
numberless-file buffer used room request v =
    let p : Plain = plain_of (read_of (take used buffer)) in
    numberless-exactly room p request (verdict-passes buffer used (read_of (take used buffer)) v (verdict-read buffer used v)).sets
