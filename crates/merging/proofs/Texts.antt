-- Texts that records can be appended to, passing or not: they read, their descriptors pass 4 to 7, and no value is longer than it may be. An insert that is granted leaves such a text.
use Prim.Native.Nat.{ℕ, zero, suc, ◌≤◌}
use mathlib.Core.Path.{◌≡◌, refl, sym, ap, ◌∙◌, subst}
use mathlib.Core.Bool.{Bool, true, ◌&&◌, and-eq-true_iff}
use mathlib.Core.List.{List, [], ◌∷◌, map}
use mathlib.Core.Option.{Option, none, some}
use lib.Dec.{leb}
use lib.ListN.{length}
use Rattle.format.specs.Bytes.{Bytes, pick, is_allowed, all}
use Rattle.format.specs.Lists.{is_filled, filter, nth}
use Rattle.format.specs.Words.{split}
use Rattle.format.specs.Pieces.{bytes_of, read_of}
use Rattle.format.specs.Records.{Field, Record}
use Rattle.format.specs.Sets.{RecSet, sets_of}
use Rattle.format.specs.Limits.{file_bytes, name_bytes, value_bytes, record_fields, descriptors}
use Rattle.format.specs.Numbers.{int_bounds}
use Rattle.format.specs.Questions.{first_no, fits_field, fits_record, fits_rules, fits_limits, describes_once, describes_well, types_well, rule_rows}
use Rattle.format.specs.Written.{Pair, new_field, none_joins, is_legal_value}
use Rattle.format.specs.Edits.{Edit, in_set}
use Rattle.format.specs.Requests.{Request}
use Rattle.format.specs.Plain.{Plain, plain_of, index_of, apply_in, apply, completed_by, request_or}
use Rattle.format.proofs.Elements.{Each, each-imp, each_all, all-each}
use Rattle.format.proofs.Lines.{all_append}
use Rattle.format.specs.Rules.{is_ordinary}
use Rattle.format.proofs.Legal.{is_writable}
use Rattle.format.proofs.Keeping.{is_writable_edit, legal-edit}
use Rattle.format.proofs.Grouping.{HasPairs}
use Rattle.format.proofs.Applying.{Agrees, agrees-sets, Granted, apply-agrees, apply-allowed}
use Rattle.format.proofs.Completing.{Whole, WholeRequest, completed-whole, whole-pairs}
use Rattle.format.proofs.Questions.{first-yes, asked, completed-some, whole-granted}
use Rattle.format.proofs.Describing.{describes-once, describes-well, types-well}
use Rattle.format.proofs.Passing.{SetsPass}
use Rattle.format.proofs.Judging.{read_no, text_no}
use Rattle.format.proofs.Results.{place_rows}
use Rattle.records.specs.Places.{is_readable}
use Rattle.records.proofs.Readings.{reads_of, reads-readable, readable-ended, readable-pieces, readable-reads}
use Rattle.merging.specs.Merging.{SpareRecord, insert_for}
use Rattle.merging.specs.Appending.{with_insert, sets_no}
use Rattle.merging.specs.Texts.{fits_value, rules_fit, values_fit, Appendable}

-- a text that passes

field-value : (f : Field) → fits_field f ≡ true → fits_value f ≡ true
field-value f e = ((and-eq-true_iff (leb (length f.name) name_bytes) (fits_value f)).0 e).1

record-values : (r : Record) → fits_record r ≡ true → all fits_value r ≡ true
record-values r e = each_all fits_value r (each-imp (λ (f : Field). fits_field f ≡ true) (λ (f : Field). fits_value f ≡ true) field-value r (all-each fits_field r ((and-eq-true_iff (leb (length r) record_fields) (all fits_field r)).0 e).1))

set-parts : (s : RecSet) → (fits_record s.rules && all fits_record s.members && fits_rules s.rules) ≡ true → (rules_fit s ≡ true) × (values_fit s ≡ true)
set-parts s e =
    let k = (and-eq-true_iff (fits_record s.rules && all fits_record s.members) (fits_rules s.rules)).0 e in
    let l = (and-eq-true_iff (fits_record s.rules) (all fits_record s.members)).0 k.0 in (
      (and-eq-true_iff (fits_record s.rules) (fits_rules s.rules)).1 (l.0, k.1),
      each_all (all fits_value) s.members (each-imp (λ (r : Record). fits_record r ≡ true) (λ (r : Record). all fits_value r ≡ true) record-values s.members (all-each fits_record s.members l.1)),
    )

pub passing-appendable : (s : Bytes) → is_readable s ≡ true → length s ≤ file_bytes → all is_allowed s ≡ true → SetsPass (sets_of (read_of s)) → Appendable s
passing-appendable s r l a p =
    let ss : List RecSet = sets_of (read_of s) in
    let whole : RecSet → Bool = λ (x : RecSet). fits_record x.rules && all fits_record x.members && fits_rules x.rules in
    let each = all-each whole ss ((and-eq-true_iff (all whole ss) (leb (length (filter (λ (x : RecSet). is_filled x.rules) ss)) descriptors)).0 p.0).0 in
    record {
      readable = r;
      short = l;
      allowed = a;
      once = p.1.0;
      well = p.1.1.0;
      typed = p.1.1.1.0;
      rules = each_all rules_fit ss (each-imp (λ (x : RecSet). whole x ≡ true) (λ (x : RecSet). rules_fit x ≡ true) (λ x e. (set-parts x e).0) ss each);
      values = each_all values_fit ss (each-imp (λ (x : RecSet). whole x ≡ true) (λ (x : RecSet). values_fit x ≡ true) (λ x e. (set-parts x e).1) ss each);
    }

-- Its number is that of its sets.
pub appendable-number : (s : Bytes) → Appendable s → text_no s ≡ sets_no (plain_of (read_of s))
unfolding text_no plain_of
appendable-number s h =
    let ss : List RecSet = sets_of (read_of s) in
    let n : ℕ = first_no (rule_rows int_bounds) ss in
    (λ i. pick (h.allowed i && readable-ended s h.readable i) (read_no (readable-pieces s h.readable i)) 2) ∙ (λ i. pick (fits_limits ss) (pick (h.once i) (pick (h.well i) (pick (h.typed i) n 7) 6) 5) 4)

-- what it reads as agrees with its pieces
pub text-agrees : (s : Bytes) → is_readable s ≡ true → Agrees (plain_of (read_of s))
unfolding plain_of
text-agrees s r = ((readable-reads s r).sound, refl)

-- A plain file that agrees with its pieces is what their bytes read as.
module _ (p : Plain) (a : Agrees p) where
  pub agrees-readable : is_readable (bytes_of p.pieces) ≡ true
  agrees-readable = reads-readable (record { sound = a.0; all = refl })

  pub agrees-read : read_of (bytes_of p.pieces) ≡ p.pieces
  agrees-read = reads_of (record { sound = a.0; all = refl })

  pub agrees-plain : plain_of (read_of (bytes_of p.pieces)) ≡ p
  agrees-plain = ap plain_of agrees-read ∙ a.1

  pub agrees-text-sets : sets_of (read_of (bytes_of p.pieces)) ≡ p.sets
  agrees-text-sets = ap sets_of agrees-read ∙ agrees-sets p a

-- a record put into one of several sets

all-nth : (t : RecSet → Bool) (f : RecSet → RecSet) → ((s : RecSet) → t s ≡ true → t (f s) ≡ true) → (i : ℕ) (ss : List RecSet) → all t ss ≡ true → all t (nth i f ss) ≡ true
all-nth t f h i [] e = e
all-nth t f h zero (s ∷ ss) e = let k = (and-eq-true_iff (t s) (all t ss)).0 e in (and-eq-true_iff (t (f s)) (all t ss)).1 (h s k.0, k.1)
all-nth t f h (suc i) (s ∷ ss) e = let k = (and-eq-true_iff (t s) (all t ss)).0 e in (and-eq-true_iff (t s) (all t (nth i f ss))).1 (k.0, all-nth t f h i ss k.1)

writable-value : (p : Pair) → is_writable p ≡ true → fits_value (new_field p) ≡ true
writable-value p e =
    let v = ((and-eq-true_iff (is_ordinary p.name) (is_legal_value p.value)).0 e).1 in
    ((and-eq-true_iff (leb (length p.value) value_bytes) (all is_allowed p.value)).0 ((and-eq-true_iff (leb (length p.value) value_bytes && all is_allowed p.value) (none_joins (split 10 p.value))).0 v).0).0

pairs-values : (ps : List Pair) → all is_writable ps ≡ true → all fits_value (map new_field ps) ≡ true
pairs-values [] e = refl
pairs-values (p ∷ ps) e = let k = (and-eq-true_iff (is_writable p) (all is_writable ps)).0 e in (λ i. writable-value p k.0 i && pairs-values ps k.1 i)

insert-values : (ps : List Pair) → all is_writable ps ≡ true → (s : RecSet) → values_fit s ≡ true → values_fit (in_set (Edit.insert ps) s) ≡ true
insert-values ps w s e = all_append (all fits_value) s.members (map new_field ps ∷ []) ∙ (λ i. e i && (pairs-values ps w i && true))

all-applied : (t : RecSet → Bool) (e : Edit) → ((s : RecSet) → t s ≡ true → t (in_set e s) ≡ true) → (o : Option ℕ) (p : Plain) → all t p.sets ≡ true → all t (apply_in o e p).sets ≡ true
all-applied t e h none p k = k
all-applied t e h (some i) p k = all-nth t (in_set e) h i p.sets k

-- what the completed insert of a granted record makes of such a text
module _ (s : Bytes) (h : Appendable s) (x : SpareRecord) (filled : HasPairs (Edit.insert x.pairs)) (room : ℕ) (e : first_no place_rows (asked room (plain_of (read_of s)) (insert_for x)) ≡ 0) where
  abbrev p : Plain
  p = plain_of (read_of s)

  abbrev q : Request
  q = insert_for x

  yes : Each (λ (r : _). r.asks (asked room p q) ≡ true) place_rows
  yes = first-yes place_rows (asked room p q) refl e

  complete : (w : Request) × (completed_by int_bounds p q ≡ some w)
  complete = completed-some (completed_by int_bounds p q) yes.1.1.1.1.1.0

  abbrev w : Request
  w = complete.0

  well-described : describes_well int_bounds p.sets ≡ true
  unfolding plain_of
  well-described = h.well

  whole : WholeRequest q w
  whole = completed-whole p q w well-described complete.1

  granted : Granted (asked room p w)
  granted = whole-granted room p q w whole (record { found = (yes.0, (yes.1.0, (yes.1.1.0, tt))); left = yes.1.1.1.0; writable = legal-edit q.edit yes.1.1.1.1.0 })

  makes : with_insert x (plain_of (read_of s)) ≡ apply w p
  makes = ap (λ (o : Option Request). apply (request_or o) p) complete.1

  applied-agrees : Agrees (apply w p)
  applied-agrees = apply-agrees (asked room p w) (whole-pairs q.edit w.edit whole.1 filled) granted (text-agrees s h.readable)

  pub insert-agrees : Agrees (with_insert x (plain_of (read_of s)))
  insert-agrees = subst Agrees (sym makes) applied-agrees

  applied-appendable : length (bytes_of (apply w p).pieces) ≤ file_bytes → Appendable (bytes_of (apply w p).pieces)
  unfolding plain_of apply
  applied-appendable l =
      let r : Plain = apply w p in
      let ss = agrees-text-sets r applied-agrees in
      let bytes : bytes_of (read_of s) ≡ s = (readable-reads s h.readable).all in
      record {
        readable = agrees-readable r applied-agrees;
        short = l;
        allowed = apply-allowed w p granted.writable (text-agrees s h.readable).0 (ap (all is_allowed) bytes ∙ h.allowed);
        once = ap describes_once ss ∙ describes-once w p granted.writable (text-agrees s h.readable) h.once;
        well = ap (describes_well int_bounds) ss ∙ describes-well int_bounds w p ∙ h.well;
        typed = ap (types_well int_bounds) ss ∙ types-well int_bounds w p ∙ h.typed;
        rules = ap (all rules_fit) ss ∙ all-applied rules_fit w.edit (λ t k. k) (index_of w.set p.sets) p h.rules;
        values = ap (all values_fit) ss ∙ all-applied values_fit w.edit (edit-values w.edit granted.writable whole.1) (index_of w.set p.sets) p h.values;
      }
    where
      edit-values : (f : Edit) → is_writable_edit f ≡ true → Whole (Edit.insert x.pairs) f → (t : RecSet) → values_fit t ≡ true → values_fit (in_set f t) ≡ true
      edit-values (Edit.insert ps) l k = insert-values ps l
      edit-values (Edit.on j a) l k = absurd k

  -- is such a text too, where it is not too long
  pub insert-appendable : length (bytes_of (with_insert x (plain_of (read_of s))).pieces) ≤ file_bytes → Appendable (bytes_of (with_insert x (plain_of (read_of s))).pieces)
  insert-appendable = subst (λ (r : Plain). length (bytes_of r.pieces) ≤ file_bytes → Appendable (bytes_of r.pieces)) (sym makes) applied-appendable
