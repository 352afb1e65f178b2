-- Totals before and after an accepted edit, of every buffer.
use Prim.Native.Nat.{ℕ, zero, suc, ◌+◌}
use mathlib.Core.Path.{◌≡◌, refl, sym, ap, ◌∙◌, subst}
use mathlib.Core.Logic.{◌≢◌}
use mathlib.Core.Bool.{Bool, true, false, ◌&&◌, not, and-eq-true_iff, false≢true}
use mathlib.Core.List.{List, [], ◌∷◌, ◌++◌, map}
use mathlib.Core.Option.{Option, none, some, some-injective}
use lib.IntN.{ℤ, ◌+ℤ◌, ◌-ℤ◌}
use lib.ListN.{length, get_or}
use Rattle.format.specs.Bytes.{Bytes, pick, same}
use Rattle.format.specs.Lists.{onward, nth}
use Rattle.format.specs.Records.{Record}
use Rattle.format.specs.Sets.{values_of, RecSet}
use Rattle.format.specs.Written.{Pair, new_field}
use Rattle.format.specs.Numbers.{int_bounds}
use Rattle.format.specs.Numbering.{every}
use Rattle.format.specs.Edits.{Change, Act, Edit, in_members, in_set}
use Rattle.format.specs.Questions.{first_no, name_of, verdict, values_in}
use Rattle.format.specs.Requests.{Request, request_of}
use Rattle.format.specs.Plain.{index_of, members_at, members_in, completed_by, Sought, sought_members, sought_record, found_rows}
use Rattle.format.specs.Calls.{Answer, then_no, sets_in, sought_row, edit_answer}
use Rattle.format.proofs.Applying.{index-has}
use Rattle.format.proofs.Completing.{Whole}
use Rattle.format.proofs.Directory.{same_self}
use Rattle.format.proofs.Elements.{Has}
use Rattle.format.proofs.Listing.{same_true}
use Rattle.totals.specs.Totals.{millionths_of, sum_of, Total, total_of, Totalled, totalled, total_answer}
use Rattle.totals.proofs.Sums.{total-value, Replaces, Moved, replaced-total, moved-one, moved-off, moved_on}
use Rattle.totals.proofs.Edited.{plain_in, Edited, accepted-edited}
use Rattle.totals.proofs.Changes.{taken_off, put_there, taken, given, edit-replaces}

-- the records of the set that is edited, and of another
members-here : (i : ℕ) (e : Edit) (ss : List RecSet) → Has ss i → members_at i (nth i (in_set e) ss) ≡ in_members e (members_at i ss)
members-here i e [] h = absurd h
members-here zero e (s ∷ ss) h = refl
members-here (suc i) e (s ∷ ss) h = members-here i e ss h

members-other : (k i : ℕ) (e : Edit) (ss : List RecSet) → k ≢ i → members_at i (nth k (in_set e) ss) ≡ members_at i ss
members-other k i e [] h = refl
members-other zero zero e (s ∷ ss) h = absurd (h refl)
members-other zero (suc i) e (s ∷ ss) h = refl
members-other (suc k) zero e (s ∷ ss) h = refl
members-other (suc k) (suc i) e (s ∷ ss) h = members-other k i e ss (λ (q : k ≡ i). h (ap suc q))

-- the total in sets, of the one at a place
abbrev total_at : List RecSet → Option ℕ → Bytes → Totalled
total_at ss x name = let q : Sought = record { sets = ss; set = x; row = none; field = none } in totalled (first_no found_rows q) (every millionths_of (values_in name (sought_members q)))

passing-total : (buffer : Bytes) (used : ℕ) (set name : Bytes) → verdict buffer used ≡ 0 → total_answer buffer used set name ≡ total_at (sets_in buffer used) (index_of set (sets_in buffer used)) name
unfolding total_answer
passing-total buffer used set name v =
    let ss : List RecSet = sets_in buffer used in
    let q : Sought = record { sets = ss; set = index_of set ss; row = none; field = none } in
    ap (λ (k : ℕ). totalled (then_no k (first_no found_rows q)) (every millionths_of (values_in name (sought_members q)))) v

-- the place of a set stays
index-nth : (n : Bytes) (i : ℕ) (e : Edit) (ss : List RecSet) → index_of n (nth i (in_set e) ss) ≡ index_of n ss
index-nth n i e [] = refl
index-nth n zero e (s ∷ ss) = refl
index-nth n (suc i) e (s ∷ ss) = ap (λ (x : Option ℕ). pick (same n s.name) (some zero) (onward (λ (k : ℕ). some (suc k)) x)) (index-nth n i e ss)

-- two names of one place are one name
abbrev IndexNamed : Bytes → List RecSet → Option ℕ → Type 0
IndexNamed n ss none = Unit {0}
IndexNamed n ss (some i) = n ≡ get_or (map name_of ss) i []

named_by : (n : Bytes) (s : RecSet) (ss : List RecSet) (b : Bool) (x : Option ℕ) → same n s.name ≡ b → IndexNamed n ss x → IndexNamed n (s ∷ ss) (pick b (some zero) (onward (λ (k : ℕ). some (suc k)) x))
named_by n s ss true x e h = same_true n s.name e
named_by n s ss false none e h = tt
named_by n s ss false (some i) e h = h

named_in : (n : Bytes) (ss : List RecSet) → IndexNamed n ss (index_of n ss)
named_in n [] = tt
named_in n (s ∷ ss) = named_by n s ss (same n s.name) (index_of n ss) refl (named_in n ss)

index-named : (n m : Bytes) (ss : List RecSet) (i : ℕ) → index_of n ss ≡ some i → index_of m ss ≡ some i → n ≡ m
index-named n m ss i e f = subst (IndexNamed n ss) e (named_in n ss) ∙ sym (subst (IndexNamed m ss) f (named_in m ss))

-- the members of another set stay, of any number of sets
other-members : (n m : Bytes) (i : ℕ) (e : Edit) (ss : List RecSet) → index_of n ss ≡ some i → n ≢ m → (name : Bytes) (x : Option ℕ) → index_of m ss ≡ x → total_at (nth i (in_set e) ss) x name ≡ total_at ss x name
other-members n m i e ss h d name none k = refl
other-members n m i e ss h d name (some j) k =
    let apart : i ≢ j = λ q. d (index-named n m ss i h (k ∙ ap {B = Option ℕ} (λ (x : ℕ). some x) (sym q))) in
    ap (λ (ms : List Record). totalled 0 (every millionths_of (values_in name ms))) (members-other i j e ss apart)

-- An accepted edit: totals of the file that it leaves, by the sets before it.
module _ (buffer : Bytes) (used : ℕ) (request : Bytes) (n : ℕ) (accepted : (edit_answer buffer used request).result ≡ Answer.value n) where
  abbrev own : Edited buffer used request n
  own = accepted-edited buffer used request n accepted

  abbrev sets : List RecSet
  sets = sets_in buffer used

  abbrev out : Bytes
  out = (edit_answer buffer used request).out

  total-after : (set name : Bytes) → total_answer out n set name ≡ total_at (nth own.place (in_set own.whole.edit) sets) (index_of set sets) name
  total-after set name =
      passing-total out n set name own.passes
      ∙ ap (λ (ss : List RecSet). total_at ss (index_of set ss) name) own.sets
      ∙ ap (λ (x : Option ℕ). total_at (nth own.place (in_set own.whole.edit) sets) x name) (index-nth set own.place own.whole.edit sets)

  total-before : (set name : Bytes) → total_answer buffer used set name ≡ total_at sets (index_of set sets) name
  total-before set name = passing-total buffer used set name own.passed

  -- an edit of another set changes no total
  pub other-set-total : (q : Request) → request_of request ≡ some q → (set name : Bytes) → q.set ≢ set → total_answer (edit_answer buffer used request).out n set name ≡ total_answer buffer used set name
  other-set-total q r set name d =
      let same-request : q ≡ own.asks = some-injective q own.asks (sym r ∙ own.reads) in
      let apart : own.whole.set ≢ set = λ e. d (ap (λ (x : Request). x.set) same-request ∙ sym own.alike.0 ∙ e) in
      total-after set name ∙ other-members own.whole.set set own.place own.whole.edit sets own.there apart name (index_of set sets) refl ∙ sym (total-before set name)

  -- The set that the edit names, at its place: its records, and what the completed edit makes of them.
  abbrev members : List Record
  members = members_at own.place sets

  abbrev whole : Edit
  whole = own.whole.edit

  replaces : (name : Bytes) → Replaces (taken name whole members) (given name whole members) (values_in name members) (values_in name (in_members whole members))
  replaces name = edit-replaces name whole members own.found

  own-after : (name : Bytes) → total_answer out n own.whole.set name ≡ totalled 0 (every millionths_of (values_in name (in_members whole members)))
  own-after name =
      total-after own.whole.set name
      ∙ ap (λ (x : Option ℕ). total_at (nth own.place (in_set whole) sets) x name) own.there
      ∙ ap (λ (ms : List Record). totalled 0 (every millionths_of (values_in name ms))) (members-here own.place whole sets (index-has own.whole.set sets own.place own.there))

  own-before : (name : Bytes) → total_answer buffer used own.whole.set name ≡ totalled 0 (every millionths_of (values_in name members))
  own-before name = total-before own.whole.set name ∙ ap (λ (x : Option ℕ). total_at sets x name) own.there

  moved-values : (name : Bytes) (x y : Option (List ℤ)) → every millionths_of (values_in name members) ≡ x → every millionths_of (values_in name (in_members whole members)) ≡ y → (t u : Total) → totalled 0 x ≡ Totalled.value t → totalled 0 y ≡ Totalled.value u
      → Moved (taken name whole members) (given name whole members) t u
  moved-values name x y e f t u g h =
      let zs = (total-value 0 x t g).1 in
      let ws = (total-value 0 y u h).1 in
      subst (λ (v : Total). Moved (taken name whole members) (given name whole members) v u) (sym zs.2)
      (subst (λ (v : Total). Moved (taken name whole members) (given name whole members) (total_of zs.0) v) (sym ws.2)
      (replaced-total (taken name whole members) (given name whole members) (values_in name members) (values_in name (in_members whole members)) zs.0 ws.0 (replaces name) (e ∙ zs.1) (f ∙ ws.1)))

  pub edit-total : (name : Bytes) (t u : Total) → total_answer buffer used own.whole.set name ≡ Totalled.value t → total_answer out n own.whole.set name ≡ Totalled.value u → Moved (taken name whole members) (given name whole members) t u
  edit-total name t u g h = moved-values name (every millionths_of (values_in name members)) (every millionths_of (values_in name (in_members whole members))) refl refl t u (sym (own-before name) ∙ g) (sym (own-after name) ∙ h)

  -- an edit that neither takes off a value of that name nor puts one there changes nothing, be they counted or not
  spared : (name : Bytes) → taken name whole members ≡ [] → given name whole members ≡ [] → total_answer out n own.whole.set name ≡ total_answer buffer used own.whole.set name
  spared name e f =
      let r = replaces name in
      let same-values : values_in name (in_members whole members) ≡ values_in name members = r.3 ∙ ap (λ (l : List Bytes). r.0 ++ (l ++ r.1)) (f ∙ sym e) ∙ sym r.2 in
      own-after name ∙ ap (λ (vs : List Bytes). totalled 0 (every millionths_of vs)) same-values ∙ sym (own-before name)

-- By the kind of the request. An act is never completed; the set is the request's.
same-request : (buffer : Bytes) (used : ℕ) (request : Bytes) (n : ℕ) (o : Edited buffer used request n) (q : Request) → request_of request ≡ some q → o.asks ≡ q
same-request buffer used request n o q r = some-injective o.asks q (sym o.reads ∙ r)

act-whole : (x : Edit) (j : ℕ) (a : Act) (w : Edit) → x ≡ Edit.on j a → Whole x w → w ≡ Edit.on j a
act-whole x j a w e h = subst (λ (y : Edit). Whole y w) e h

insert-whole : (x : Edit) (new : List Pair) (w : Edit) → x ≡ Edit.insert new → Whole x w → (ps : List Pair) × (w ≡ Edit.insert ps)
insert-whole x new w e h = go w (subst (λ (y : Edit). Whole y w) e h)
  where
    go : (w : Edit) → Whole (Edit.insert new) w → (ps : List Pair) × (w ≡ Edit.insert ps)
    go (Edit.insert ps) h = (ps, refl)
    go (Edit.on j a) h = absurd h

-- the completed insert
inserted-whole : (buffer : Bytes) (used : ℕ) (request : Bytes) (n : ℕ) (o : Edited buffer used request n) (set : Bytes) (new : List Pair) → request_of request ≡ some (record { set = set; edit = Edit.insert new })
    → (ps : List Pair) × (o.whole.set ≡ set) × (o.whole.edit ≡ Edit.insert ps) × (completed_by int_bounds (plain_in buffer used) (record { set = set; edit = Edit.insert new }) ≡ some (record { set = set; edit = Edit.insert ps }))
inserted-whole buffer used request n o set new r =
    let q : Request = record { set = set; edit = Edit.insert new } in
    let e : o.asks ≡ q = same-request buffer used request n o q r in
    let s : o.whole.set ≡ set = o.alike.0 ∙ ap (λ (x : Request). x.set) e in
    let w = insert-whole o.asks.edit new o.whole.edit (ap (λ (x : Request). x.edit) e) o.alike.1 in
    (w.0, s, w.1, ap (completed_by int_bounds (plain_in buffer used)) (sym e) ∙ o.completes ∙ (λ i. some (record { set = s i; edit = w.1 i })))

-- the record of a number in the set of a name, as fetch and view find it
abbrev pub record_at : Bytes → ℕ → Bytes → ℕ → Record
record_at buffer used set j = sought_record (sought_row (sets_in buffer used) set j)

module _ (buffer : Bytes) (used : ℕ) (request : Bytes) (n : ℕ) (accepted : (edit_answer buffer used request).result ≡ Answer.value n) (set name : Bytes) (t u : Total)
    (before : total_answer buffer used set name ≡ Totalled.value t) (after : total_answer (edit_answer buffer used request).out n set name ≡ Totalled.value u) where
  abbrev done : Edited buffer used request n
  done = accepted-edited buffer used request n accepted

  -- what an accepted edit of that set takes off and puts there
  abbrev MovedBy : Edit → Type 0
  MovedBy e = let ms : List Record = members_in (sets_in buffer used) (index_of set (sets_in buffer used)) in Moved (taken name e ms) (given name e ms) t u

  moved-whole : done.whole.set ≡ set → MovedBy done.whole.edit
  moved-whole e =
      let ss : List RecSet = sets_in buffer used in
      let w : Edit = done.whole.edit in
      let m = edit-total buffer used request n accepted name t u (ap (λ (s : Bytes). total_answer buffer used s name) e ∙ before) (ap (λ (s : Bytes). total_answer (edit_answer buffer used request).out n s name) e ∙ after) in
      let i : index_of set ss ≡ some done.place = ap (λ (s : Bytes). index_of s ss) (sym e) ∙ done.there in
      subst (λ (x : Option ℕ). Moved (taken name w (members_in ss x)) (given name w (members_in ss x)) t u) (sym i) m

  act-moved : (j : ℕ) (a : Act) → request_of request ≡ some (record { set = set; edit = Edit.on j a }) → MovedBy (Edit.on j a)
  act-moved j a r =
      let q : Request = record { set = set; edit = Edit.on j a } in
      let e : done.asks ≡ q = same-request buffer used request n done q r in
      let w : done.whole.edit ≡ Edit.on j a = act-whole done.asks.edit j a done.whole.edit (ap (λ (x : Request). x.edit) e) done.alike.1 in
      subst MovedBy w (moved-whole (done.alike.0 ∙ ap (λ (x : Request). x.set) e))

  -- "After an accepted set of an occurrence, where all values count before and after, the new total in exact millionths is the old one, less the former value, plus the new."
  pub set-total : (j o : ℕ) (w : Bytes) → request_of request ≡ some (record { set = set; edit = Edit.on j (Act.change name o (Change.value w)) })
      → (a b : ℤ) × (millionths_of (get_or (values_of name (record_at buffer used set j)) o []) ≡ some a) × (millionths_of w ≡ some b)
      × (u.millionths ≡ (t.millionths -ℤ a) +ℤ b) × (u.number ≡ t.number)
  set-total j o w r =
      let v : Bytes = get_or (values_of name (record_at buffer used set j)) o [] in
      let m = act-moved j (Act.change name o (Change.value w)) r in
      moved-one v w t u (subst (λ (b : Bool). Moved (pick b (v ∷ []) []) (pick b (w ∷ []) []) t u) (same_self name) m)

  -- an accepted delete takes the record's values off
  pub delete-total : (j : ℕ) → request_of request ≡ some (record { set = set; edit = Edit.on j Act.delete })
      → (x : List ℤ) × (every millionths_of (values_of name (record_at buffer used set j)) ≡ some x) × (u.millionths ≡ t.millionths -ℤ sum_of x) × (u.number + length x ≡ t.number)
  delete-total j r = moved-off (values_of name (record_at buffer used set j)) t u (act-moved j Act.delete r)

  -- an accepted insert adds those of the record that it makes, completed with the names that it omits
  pub insert-total : (new : List Pair) → request_of request ≡ some (record { set = set; edit = Edit.insert new })
      → (ps : List Pair) × (completed_by int_bounds (plain_in buffer used) (record { set = set; edit = Edit.insert new }) ≡ some (record { set = set; edit = Edit.insert ps }))
      × ((y : List ℤ) × (every millionths_of (values_of name (map new_field ps)) ≡ some y) × (u.millionths ≡ t.millionths +ℤ sum_of y) × (u.number ≡ t.number + length y))
  insert-total new r =
      let k = inserted-whole buffer used request n done set new r in
      (k.0, k.3, moved_on (values_of name (map new_field k.0)) t u (subst MovedBy k.2 (moved-whole k.1)))

-- An edit of another name changes no total: a field of another name added, set or dropped, or renamed to another.
abbrev pub is_other : Bytes → Act → Bool
is_other m Act.delete = false
is_other m (Act.add p) = not (same m p.name)
is_other m (Act.change n o (Change.value w)) = not (same m n)
is_other m (Act.change n o Change.dropped) = not (same m n)
is_other m (Act.change n o (Change.name k)) = not (same m n) && not (same m k)

unnamed : (b : Bool) (v : Bytes) → not b ≡ true → pick b (v ∷ []) [] ≡ []
unnamed true v e = absurd (false≢true e)
unnamed false v e = refl

other-spared : (m : Bytes) (a : Act) (r : Record) → is_other m a ≡ true → (taken_off m a r ≡ []) × (put_there m a r ≡ [])
other-spared m Act.delete r h = absurd (false≢true h)
other-spared m (Act.add p) r h = (refl, unnamed (same m p.name) p.value h)
other-spared m (Act.change n o (Change.value w)) r h = (unnamed (same m n) (get_or (values_of n r) o []) h, unnamed (same m n) w h)
other-spared m (Act.change n o Change.dropped) r h = (unnamed (same m n) (get_or (values_of n r) o []) h, refl)
other-spared m (Act.change n o (Change.name k)) r h =
    let b = (and-eq-true_iff (not (same m n)) (not (same m k))).0 h in
    (unnamed (same m n) (get_or (values_of n r) o []) b.0, unnamed (same m k) (get_or (values_of n r) o []) b.1)

module _ (buffer : Bytes) (used : ℕ) (request : Bytes) (n : ℕ) (accepted : (edit_answer buffer used request).result ≡ Answer.value n) (set name : Bytes) where
  abbrev finished : Edited buffer used request n
  finished = accepted-edited buffer used request n accepted

  abbrev present : List Record
  present = members_in (sets_in buffer used) (index_of set (sets_in buffer used))

  abbrev Unmoved : Type 0
  Unmoved = total_answer (edit_answer buffer used request).out n set name ≡ total_answer buffer used set name

  unmoved : (e : Edit) → finished.whole.set ≡ set → finished.whole.edit ≡ e → taken name e present ≡ [] → given name e present ≡ [] → Unmoved
  unmoved e s w a b =
      let ss : List RecSet = sets_in buffer used in
      let i : index_of set ss ≡ some finished.place = ap (λ (x : Bytes). index_of x ss) (sym s) ∙ finished.there in
      let of : (g : Edit → List Record → List Bytes) → g e present ≡ [] → g finished.whole.edit (members_at finished.place ss) ≡ [] = λ g h. (λ k. g (w k) (members_in ss (sym i k))) ∙ h in
      subst (λ (x : Bytes). total_answer (edit_answer buffer used request).out n x name ≡ total_answer buffer used x name) s (spared buffer used request n accepted name (of (taken name) a) (of (given name) b))

  -- by the request
  unmoved-act : (j : ℕ) (a : Act) → request_of request ≡ some (record { set = set; edit = Edit.on j a }) → taken_off name a (get_or present j []) ≡ [] → put_there name a (get_or present j []) ≡ [] → Unmoved
  unmoved-act j a r off on =
      let q : Request = record { set = set; edit = Edit.on j a } in
      let e : finished.asks ≡ q = same-request buffer used request n finished q r in
      let w : finished.whole.edit ≡ Edit.on j a = act-whole finished.asks.edit j a finished.whole.edit (ap (λ (x : Request). x.edit) e) finished.alike.1 in
      unmoved (Edit.on j a) (finished.alike.0 ∙ ap (λ (x : Request). x.set) e) w off on

  pub other-name-total : (j : ℕ) (a : Act) → request_of request ≡ some (record { set = set; edit = Edit.on j a }) → is_other name a ≡ true
      → total_answer (edit_answer buffer used request).out n set name ≡ total_answer buffer used set name
  other-name-total j a r h = let o = other-spared name a (get_or present j []) h in unmoved-act j a r o.0 o.1

  -- nor does a record without a field of that name, deleted or inserted
  pub other-delete-total : (j : ℕ) → request_of request ≡ some (record { set = set; edit = Edit.on j Act.delete }) → values_of name (record_at buffer used set j) ≡ []
      → total_answer (edit_answer buffer used request).out n set name ≡ total_answer buffer used set name
  other-delete-total j r h = unmoved-act j Act.delete r h refl

  pub other-insert-total : (new : List Pair) → request_of request ≡ some (record { set = set; edit = Edit.insert new })
      → ((ps : List Pair) → completed_by int_bounds (plain_in buffer used) (record { set = set; edit = Edit.insert new }) ≡ some (record { set = set; edit = Edit.insert ps }) → values_of name (map new_field ps) ≡ [])
      → total_answer (edit_answer buffer used request).out n set name ≡ total_answer buffer used set name
  other-insert-total new r h = let k = inserted-whole buffer used request n finished set new r in unmoved (Edit.insert k.0) k.1 k.2 refl (h k.0 k.3)
