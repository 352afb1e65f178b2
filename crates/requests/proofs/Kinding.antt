-- The six kinds: what their fields come to, one after the other.
use Rattle.requests.specs.declared.kinds.Request.{Request}
use Rattle.std.specs.Prelude.{Option as Maybe, Some, None}
use Prim.Native.Nat.{ℕ, ◌-◌, ◌≤◌, ◌<◌}
use native.Mathlib.Omega.{arith}
use mathlib.Core.Path.{◌≡◌, refl, sym, ap, ◌∙◌}
use mathlib.Core.Bool.{Bool, true, false, ◌&&◌, and-false, false≢true}
use mathlib.Core.List.{List, [], ◌∷◌}
use mathlib.Core.Option.{Option, none, some}
use lib.Dec.{eqb}
use lib.ListN.{length, get_or}
use borrow.Author.Tests.{lt-leb, le-leb}
use Rattle.format.specs.Lists.{onward}
use Rattle.format.specs.Bytes.{Bytes, pick, same, is_some}
use Rattle.format.specs.Limits.{file_bytes}
use Rattle.format.specs.Requests.{Tagged, tagged, Request as Asked, with_text, ends, pairs_of, inserts, changes, by_kind, asks_for, request_of}
use Rattle.format.specs.Written.{Pair as Written}
use Rattle.format.specs.Edits.{Change, Act, Edit}
use Rattle.words.specs.declared.Span.{Span}
use Rattle.requests.specs.declared.kinds.Change.{Change as ReadChange}
use Rattle.requests.specs.declared.kinds.Act.{Act as ReadAct}
use Rattle.requests.specs.declared.kinds.Edit.{Edit as ReadEdit}
use Rattle.requests.specs.declared.kinds.Means.{Means}
use Rattle.requests.specs.Fields.{bytes_of, InSpan, fields_from, NoText, TextAt, NumberAt, in_field, PlaceAt}
use Rattle.requests.specs.Pairs.{pairs_from, list_of, onto, with_pair, PairAt}
use Rattle.requests.specs.Kinds.{Kind, insert_kind, deletes, delete_kind, adds, add_kind, change_kind, change_of, edit_of, request_answer, InEdit, Inside, ChangeAt, of_set, Reads, Ends}
use Rattle.requests.proofs.Tagging.{Ample, fields-ample, fields-end}
use Rattle.requests.proofs.Reading.{span-length, span-first, onward-none, onward-onward, text-then, text-none, ends-here, ends_more}

-- the pairs of an insert
some_pairs : (t : Bool) (p : Written) (x : Option (List Written)) → is_some (pick t (onto p x) none) ≡ true → onward inserts (pick t (onto p x) none) ≡ some (Edit.insert (list_of (pick t (onto p x) none)))
some_pairs false p x e = absurd (false≢true e)
some_pairs true p none e = absurd (false≢true e)
some_pairs true p (some ps) e = refl

some-fields : (x : Option (List Tagged)) → Ample x → is_some (onward pairs_of x) ≡ true → onward insert_kind x ≡ some (Edit.insert (list_of (onward pairs_of x)))
some-fields none a e = absurd (false≢true e)
some-fields (some []) a e = absurd a
some-fields (some (f ∷ [])) a e = absurd (false≢true e)
some-fields (some (f ∷ g ∷ fs)) a e = some_pairs (eqb 4 f.tag && eqb 6 g.tag) (record { name = f.contents; value = g.contents }) (pairs_of fs) e

no_fields : (x : Option (List Tagged)) → is_some (onward pairs_of x) ≡ false → onward insert_kind x ≡ none
no_fields none e = refl
no_fields (some fs) e = go (pairs_of fs) e
  where
    go : (y : Option (List Written)) → is_some y ≡ false → onward inserts y ≡ none
    go none q = refl
    go (some ps) q = absurd (false≢true (sym q))

-- functions of fields that are the same
onward-same : {A : Type 0} (f g : List Tagged → Option A) (x : Option (List Tagged)) → ((fs : List Tagged) → f fs ≡ g fs) → onward f x ≡ onward g x
onward-same f g none e = refl
onward-same f g (some fs) e = e fs

-- an edit that ends where its last field does, or goes on
module _ (s : Bytes) (a : ReadEdit) (k : ℕ) where
  pub goes_on : k < length s → Ends s a k None
  goes_on l = (sym (ends_more (edit_of s a) s k l), tt)

  pub ends_there : InEdit s a → length s ≤ k → Ends s a k (Some a)
  ends_there q l = (sym (ends-here (edit_of s a) s k l), q)

field-ends : (r : ℕ) (n : Bytes) (o : ℕ) (c : Change) (x : Option (List Tagged)) → onward (ends (Edit.on r (Act.change n o c))) x ≡ in_field r n o (onward (ends c) x)
field-ends r n o c none = refl
field-ends r n o c (some []) = refl
field-ends r n o c (some (f ∷ fs)) = refl

module _ (s : Bytes) (i : ℕ) where
  -- a kind's fields that are none, and those that come to what the last of them ends with
  faulty : (K : Kind) → onward K (fields_from s i) ≡ none → Reads K s i None
  faulty K e = (sym e, tt)

  ending : (K : Kind) (a : ReadEdit) (k : ℕ) (x : Maybe ReadEdit) → onward K (fields_from s i) ≡ onward (ends (edit_of s a)) (fields_from s k) → Ends s a k x → Reads K s i x
  ending K a k x e h = (h.0 ∙ sym e, h.1)

  pub insert-nothing : length s ≤ i → Reads insert_kind s i None
  insert-nothing h = faulty insert_kind (ap (onward insert_kind) (fields-end s i h))

  pub insert-fault : is_some (pairs_from s i) ≡ false → Reads insert_kind s i None
  insert-fault e = faulty insert_kind (no_fields (fields_from s i) e)

  pub insert-reads : i < length s → is_some (pairs_from s i) ≡ true → Reads insert_kind s i (Some (ReadEdit.Insert i))
  insert-reads l e = (sym (some-fields (fields_from s i) (fields-ample s i l) e), (l, e))

  pub delete-fault : NumberAt s i 3 None → Reads delete_kind s i None
  delete-fault h = faulty delete_kind (h deletes)

  abbrev adds_to : ℕ → List Tagged → Option Edit
  adds_to r = with_pair (adds r)

  pub add-fault : NumberAt s i 3 None → Reads add_kind s i None
  add-fault h = faulty add_kind (h adds_to)

  module _ (r k : ℕ) (h : NumberAt s i 3 (Some (record { value = r; next = k }))) where
    pub delete-reads : (x : Maybe ReadEdit) → Ends s (ReadEdit.On r ReadAct.Delete) k x → Reads delete_kind s i x
    delete-reads x e = ending delete_kind (ReadEdit.On r ReadAct.Delete) k x (h.0 deletes) e

    pub add-no-pair : PairAt s k None → Reads add_kind s i None
    add-no-pair p = faulty add_kind (h.0 adds_to ∙ p.1 (adds r))

    pub add_reads : (n v : Span) (j : ℕ) → PairAt s k (Some (record { name = n; value = v; next = j })) → (x : Maybe ReadEdit) → Ends s (ReadEdit.On r (ReadAct.Add n v)) j x → Reads add_kind s i x
    add_reads n v j p x e = ending add_kind (ReadEdit.On r (ReadAct.Add n v)) j x (h.0 adds_to ∙ p.1 (adds r)) e

  -- a field's place and its change
  module _ (kind : Means) where
    module _ (r : ℕ) (n : Span) (o k : ℕ) (h : PlaceAt s i (Some (record { row = r; name = n; occurrence = o; next = k }))) where
      pub change-reads : (c : ReadChange) (e : ℕ) → ChangeAt kind s k (Some (record { change = c; end = e })) → (x : Maybe ReadEdit) → Ends s (ReadEdit.On r (ReadAct.Change n o c)) e x → Reads (changes (change_kind kind)) s i x
      change-reads c e d x q =
          ending (changes (change_kind kind)) (ReadEdit.On r (ReadAct.Change n o c)) e x
          (h.0 (change_kind kind) ∙ ap (in_field r (bytes_of s n) o) d.0 ∙ sym (field-ends r (bytes_of s n) o (change_of s c) (fields_from s e))) q

-- a kind that is not one byte
unlike : (n : ℕ) (k : Bytes) → (length k ≡ 1 → ⊥) → same k (n ∷ []) ≡ false
unlike n [] h = refl
unlike n (c ∷ []) h = absurd (h refl)
unlike n (c ∷ d ∷ k) h = and-false (eqb c n)

kind-long : (k : Bytes) (fs : List Tagged) → (length k ≡ 1 → ⊥) → by_kind k fs ≡ none
kind-long k fs h = rw (unlike 1 k h, unlike 2 k h, unlike 3 k h, unlike 4 k h, unlike 5 k h, unlike 6 k h)

one_byte : (s : Bytes) (p : Span) → InSpan s p → p.end - p.start ≡ 1 → bytes_of s p ≡ get_or s p.start 0 ∷ []
one_byte s p h e =
    single (bytes_of s p) (span-length s p h ∙ e) ∙ ap {B = Bytes} (λ x. x ∷ []) (span-first s p (omega arith))
  where
    single : (c : Bytes) → length c ≡ 1 → c ≡ get_or c 0 0 ∷ []
    single [] q = absurd (omega arith)
    single (a ∷ []) q = refl
    single (a ∷ d ∷ c) q = absurd (omega arith)

-- The whole request.
abbrev Answers : Bytes → Maybe Request → Type 0
Answers s r = (request_answer s r ≡ request_of s) × Inside s r

-- what follows from the kind, and from the set
abbrev of_kind : Bytes → Bytes → List Tagged → Option Asked
of_kind k b gs = of_set b (by_kind k gs)

abbrev after_kind : Bytes → List Tagged → Option Asked
after_kind k = with_text 2 (of_kind k)

module _ (s : Bytes) where
  pub request-long : file_bytes < length s → Answers s None
  unfolding request_of
  request-long h = (sym (ap (λ (t : Bool). pick t (onward asks_for (tagged s)) none) (lt-leb (length s) file_bytes h)), tt)

  module _ (h : length s ≤ file_bytes) where
    request-short : request_of s ≡ onward (with_text 1 after_kind) (fields_from s 0)
    unfolding request_of
    request-short = ap (λ (t : Bool). pick t (onward asks_for (tagged s)) none) (le-leb (length s) file_bytes h)

    pub no_kind : NoText 1 (fields_from s 0) → Answers s None
    no_kind n = (sym (request-short ∙ text-none 1 after_kind (fields_from s 0) n), tt)

    module _ (p : Span) (k : TextAt s 0 1 (Some p)) where
      to_set : request_of s ≡ onward (after_kind (bytes_of s p)) (fields_from s p.end)
      to_set = request-short ∙ ap (onward (with_text 1 after_kind)) k.0 ∙ text-then 1 after_kind (bytes_of s p) (fields_from s p.end)

      pub no-set : NoText 2 (fields_from s p.end) → Answers s None
      no-set n = (sym (to_set ∙ text-none 2 (of_kind (bytes_of s p)) (fields_from s p.end) n), tt)

      module _ (q : Span) (m : TextAt s p.end 2 (Some q)) where
        to-kind : request_of s ≡ of_set (bytes_of s q) (onward (by_kind (bytes_of s p)) (fields_from s q.end))
        to-kind =
            to_set
            ∙ ap (onward (after_kind (bytes_of s p))) m.0
            ∙ text-then 2 (of_kind (bytes_of s p)) (bytes_of s q) (fields_from s q.end)
            ∙ onward-onward (λ (e : Edit). some (record { set = bytes_of s q; edit = e })) (by_kind (bytes_of s p)) (fields_from s q.end)

        pub wrong-kind : (p.end - p.start ≡ 1 → ⊥) → Answers s None
        wrong-kind e =
            let long : onward (by_kind (bytes_of s p)) (fields_from s q.end) ≡ none = onward-same (by_kind (bytes_of s p)) (λ (fs : List Tagged). none) (fields_from s q.end) (λ fs. kind-long (bytes_of s p) fs (λ x. e (sym (span-length s p k.2) ∙ x))) ∙ onward-none (fields_from s q.end) in
            (sym (to-kind ∙ ap (of_set (bytes_of s q)) long), tt)

        module _ (c : ℕ) (e : c ≡ get_or s p.start 0) (l : p.end - p.start ≡ 1) where
          right-kind : (x : Option Edit) → x ≡ onward (by_kind (c ∷ [])) (fields_from s q.end) → of_set (bytes_of s q) x ≡ request_of s
          right-kind x h =
              let b : c ∷ [] ≡ bytes_of s p = ap {B = Bytes} (λ y. y ∷ []) e ∙ sym (one_byte s p k.2 l) in
              ap (of_set (bytes_of s q)) (h ∙ ap (λ (y : Bytes). onward (by_kind y) (fields_from s q.end)) b) ∙ sym to-kind

          pub no-edit : Reads (by_kind (c ∷ [])) s q.end None → Answers s None
          no-edit h = (right-kind none h.0, tt)

          pub an-edit : (a : ReadEdit) → Reads (by_kind (c ∷ [])) s q.end (Some a) → Answers s (Some (record { set = q; edit = a }))
          an-edit a h = (right-kind (some (edit_of s a)) h.0, (m.2, h.1))
