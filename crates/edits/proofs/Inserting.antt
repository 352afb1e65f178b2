-- What an insert does to a text that passes, by its set and the fields that it gets.
use Rattle.std.specs.Prelude.{Some}
use Prim.Native.Nat.{ℕ, ◌+◌, ◌≤◌}
use native.Mathlib.Omega.{arith}
use mathlib.Core.Path.{◌≡◌, refl, sym, ap, ◌∙◌, subst}
use mathlib.Core.Logic.{inl, inr}
use mathlib.Core.Bool.{Bool, true, false, ◌&&◌}
use mathlib.Core.List.{List, [], ◌∷◌, ◌++◌, append_assoc}
use mathlib.Core.Option.{Option, none, some, map}
use lib.Dec.{ltb}
use lib.ListN.{length, take, length-append}
use lib.Seq.{length-take-le}
use borrow.Author.Tests.{ltb-true, ltb-false}
use Rattle.format.specs.Bytes.{Bytes, pick, all, is_some}
use Rattle.format.specs.Pieces.{bytes_of as pieces_text, read_of}
use Rattle.format.specs.Sets.{sets_of}
use Rattle.format.specs.Limits.{file_bytes}
use Rattle.format.specs.Numbers.{int_bounds}
use Rattle.format.specs.Questions.{fits_limits}
use Rattle.format.specs.Written.{Pair, written, written_all, is_legal_pair}
use Rattle.format.specs.Numbering.{added as added_by, completed}
use Rattle.format.specs.Edits.{Edit}
use Rattle.format.specs.Requests.{Request}
use Rattle.format.specs.Plain.{Plain, plain_of, index_of, set_at, apply, request_or}
use Rattle.format.proofs.Lines.{all_append}
use Rattle.format.proofs.Passing.{SetsPass}
use Rattle.format.proofs.Completing.{completed-insert}
use Rattle.format.proofs.Overlong.{is_short, overlong-limits}
use Rattle.format.proofs.Questions.{whole_of}
use Rattle.format.proofs.Records.{records}
use Rattle.format.proofs.Walking.{ruled}
use Rattle.words.specs.Spans.{span}
use Rattle.records.specs.Places.{is_readable, places_of, head_place}
use Rattle.records.specs.Sets.{set_behind}
use Rattle.records.specs.Walk.{record_in}
use Rattle.records.specs.declared.Head.{Head}
use Rattle.records.specs.declared.RecordSet.{RecordSet}
use Rattle.records.proofs.Members.{HeadFound, head-told}
use Rattle.records.proofs.SetOf.{head-set, PassingSet, passing-set}
use Rattle.records.proofs.SetInserts.{InsertTold}
use Rattle.records.proofs.Applied.{applied_to, insert-applied}
use Rattle.dictionary.proofs.SetRules.{set-described}
use Rattle.requests.specs.Pairs.{pairs_from, pairs_at, Weighs}
use Rattle.splices.specs.Space.{inserted, record_text}
use Rattle.splices.proofs.Inserted.{told-inserted}
use Rattle.numbering.specs.Adding.{AddedAs}
use Rattle.numbering.specs.declared.Added.{Added}
use Rattle.format.specs.declared.refusals.Refusal.{Refusal}
use Rattle.edits.specs.declared.Located.{Located}
use Rattle.edits.specs.declared.Splice.{Splice}
use Rattle.edits.specs.Splices.{made_len}
use Rattle.edits.specs.Inserts.{Numberable, capped_len, located_by}
use Rattle.edits.specs.Places.{place_no, result_to, OverAs, Locates}
use Rattle.edits.proofs.PlaceQuestions.{insert-asked}
use Rattle.edits.proofs.Sizes.{inserted-length, inserted-least}

-- a length that is capped
capped-by : (a b : Bool) (own len : ℕ) → ltb file_bytes own ≡ a → ltb file_bytes len ≡ b → (pick a own (pick b len (own + len)) ≤ own + len) × (pick a own (pick b len (own + len)) ≤ file_bytes → pick a own (pick b len (own + len)) ≡ own + len)
capped-by true b own len e f = (omega arith, λ h. absurd (omega (arith, ltb-true file_bytes own e)))
capped-by false true own len e f = (omega arith, λ h. absurd (omega (arith, ltb-true file_bytes len f)))
capped-by false false own len e f = (omega arith, λ h. refl)

capped : (own len : ℕ) → (capped_len own len ≤ own + len) × (capped_len own len ≤ file_bytes → capped_len own len ≡ own + len)
capped own len = capped-by (ltb file_bytes own) (ltb file_bytes len) own len refl refl

-- the text of two lists of pairs
written-append : (ps qs : List Pair) → written_all (ps ++ qs) ≡ written_all ps ++ written_all qs
written-append [] qs = refl
written-append (p ∷ ps) qs = ap (λ (t : Bytes). written p.name p.value ++ t) (written-append ps qs) ∙ sym (append_assoc (written p.name p.value) (written_all ps) (written_all qs))

module _ (s : Bytes) (whole : is_readable s ≡ true) (h : Head) (set : Bytes) (found : head_place set (places_of s) ≡ Some h) where
  head : HeadFound s set (sets_of (read_of s)) h
  head = head-told s set (Some h) whole (sym found) refl

  abbrev asks : List Pair → Request
  asks new = record { set = set; edit = Edit.insert new }

  asked-no : (new : List Pair) (t u : Bool) → all is_legal_pair new ≡ t → is_some (whole_of (plain_of (read_of s)) (asks new)) ≡ u → (room : ℕ) → place_no room s (asks new) ≡ pick t (pick u 0 31) 25
  asked-no new t u e f room = insert-asked room s set h.begin head.set new t u e f

  pub insert-illegal : (req out : Bytes) (new : List Pair) → all is_legal_pair new ≡ false → Locates s req out (record { set = set; edit = Edit.insert new }) (Located.Refused Refusal.Illegal)
  insert-illegal req out new e = asked-no new false (is_some (whole_of (plain_of (read_of s)) (asks new))) e refl

  -- Its set stands at p.
  module _ (short : length s ≤ file_bytes) (passes : SetsPass (sets_of (read_of s))) (p : RecordSet) (is : p ≡ set_behind s h) where
    pub set-passes : PassingSet s set p
    set-passes = subst (PassingSet s set) (sym is) (passing-set s set (set_behind s h) (head-set s set h head) short passes)

    pub set-numberable : Numberable (span p.start p.end s)
    set-numberable = (set-described s set p set-passes, set-passes.rules-counted)

    abbrev i : ℕ
    i = set-passes.set.index

    there : index_of set (sets_of (read_of s)) ≡ some i
    there = set-passes.set.there

    -- the fields that an insert gets, and what it is completed to
    abbrev gets : List Pair → Option (List Pair)
    gets new = added_by int_bounds (ruled (record_in (span p.start p.end s)) (records (read_of (span p.begin p.after s)))) new

    gets-are : (new : List Pair) → added_by int_bounds (set_at i (sets_of (read_of s))) new ≡ gets new
    gets-are new = λ j. added_by int_bounds (ruled (sym set-passes.set.rules j) (sym set-passes.set.members j)) new

    whole_is : (new : List Pair) (x : Option (List Pair)) → gets new ≡ x → whole_of (plain_of (read_of s)) (asks new) ≡ map (λ (e : Edit). record { set = set; edit = e }) (map (λ (ps : List Pair). Edit.insert ps) (map (λ (ps : List Pair). ps ++ new) x))
    unfolding plain_of completed
    whole_is new x e =
        completed-insert (plain_of (read_of s)) (asks new) new i there refl
        ∙ ap (λ (y : Option (List Pair)). map (λ (e : Edit). record { set = set; edit = e }) (map (λ (ps : List Pair). Edit.insert ps) (map (λ (ps : List Pair). ps ++ new) y))) (gets-are new ∙ e)

    -- the text that it makes, completed by pairs
    module _ (new ps : List Pair) (legal : all is_legal_pair new ≡ true) (e : gets new ≡ some ps) where
      abbrev w : Request
      w = asks (ps ++ new)

      made : whole_of (plain_of (read_of s)) (asks new) ≡ some w
      made = whole_is new (some ps) e

      yes : (room : ℕ) → place_no room s (asks new) ≡ 0
      yes = asked-no new true true legal (ap is_some made)

      result : result_to s (asks new) ≡ apply w (plain_of (read_of s))
      result = ap (λ (x : Option Request). apply (request_or x) (plain_of (read_of s))) made

      text : pieces_text (result_to s (asks new)).pieces ≡ inserted s p.after (written_all ps ++ written_all new)
      text =
          ap (λ (x : Plain). pieces_text x.pieces) result
          ∙ told-inserted s p.after (ps ++ new) (applied_to s w) (subst (λ (q : RecordSet). InsertTold s q.after (ps ++ new) (applied_to s w)) (sym is) (insert-applied s w h whole found (ps ++ new) refl))
          ∙ ap (inserted s p.after) (written-append ps new)

      size : length (pieces_text (result_to s (asks new)).pieces) ≡ made_len (length s) (length (written_all ps) + length (written_all new))
      size = ap length text ∙ inserted-length s p.after (written_all ps ++ written_all new) set-passes.set.inside ∙ ap (made_len (length s)) (length-append (written_all ps) (written_all new))

      least : length (written_all ps) + length (written_all new) ≤ length (pieces_text (result_to s (asks new)).pieces)
      least = omega (arith, ap length text, inserted-least s p.after (written_all ps ++ written_all new) set-passes.set.inside, length-append (written_all ps) (written_all new))

      overlong : all is_short ps ≡ false → fits_limits (result_to s (asks new)).sets ≡ false
      unfolding plain_of
      overlong f =
          ap (λ (x : Plain). fits_limits x.sets) result
          ∙ overlong-limits w (plain_of (read_of s)) i (ps ++ new) there refl (all_append is_short ps new ∙ ap (λ (b : Bool). b && all is_short new) f)

      over_by : (own len : ℕ) → own ≡ length (written_all ps) → len ≡ length (written_all new) → ltb file_bytes (capped_len own len) ≡ true → OverAs (capped_len own len) (length (pieces_text (result_to s (asks new)).pieces)) (fits_limits (result_to s (asks new)).sets)
      over_by own len o l b = let z = ltb-true file_bytes (capped_len own len) b in inl (z, omega (arith, least, (capped own len).0))

      text-by : (req out : Bytes) (from own len : ℕ) (b : Bool) → ltb file_bytes (capped_len own len) ≡ b → pairs_at req from ≡ new → is_some (pairs_from req from) ≡ true → len ≡ length (written_all new) → own ≤ length out → take own out ≡ written_all ps
          → Locates s req out (asks new) (pick b (Located.Over (capped_len own len)) (Located.At (Splice.Record (record { at = p.after; from = from; len = capped_len own len }) own)))
      text-by req out from own len true b q f l r t = let o : own ≡ length (written_all ps) = sym (length-take-le own out r) ∙ ap length t in (yes, over_by own len o l b)
      text-by req out from own len false b q f l r t =
          let o : own ≡ length (written_all ps) = sym (length-take-le own out r) ∙ ap length t in
          let z = ltb-false file_bytes (capped_len own len) b in
          let u : record_text (take own out) req from ≡ written_all ps ++ written_all new = (λ j. t j ++ written_all (q j)) in (
            yes,
            ap (inserted s p.after) u ∙ sym text,
            (set-passes.set.inside, r, f, (capped own len).1 (omega arith) ∙ omega (arith, ap length u, length-append (written_all ps) (written_all new))),
          )

      long-by : (req out : Bytes) (own len : ℕ) (b : Bool) → ltb file_bytes (capped_len own len) ≡ b → len ≡ length (written_all new) → own ≡ length (written_all ps) → all is_short ps ≡ false → Locates s req out (asks new) (pick b (Located.Over (capped_len own len)) (Located.Over (made_len (length s) (capped_len own len))))
      long-by req out own len true b l o f = (yes, over_by own len o l b)
      long-by req out own len false b l o f =
          let c : capped_len own len ≡ length (written_all ps) + length (written_all new) = (capped own len).1 (ltb-false file_bytes (capped_len own len) b) ∙ omega (arith, o, l) in
          (yes, inr (ap (made_len (length s)) c ∙ sym size, overlong f))

    pub insert-located : (req out : Bytes) (from len count : ℕ) (a : Added) → is_some (pairs_from req from) ≡ true → Weighs (pairs_at req from) (Some (record { len = len; count = count }))
        → AddedAs (added_by int_bounds (ruled (record_in (span p.start p.end s)) (records (read_of (span p.begin p.after s)))) (pairs_at req from)) out a
        → Locates s req out (record { set = set; edit = Edit.insert (pairs_at req from) }) (located_by (length s) p.after from len a)
    insert-located req out from len count Added.Numberless f g x = asked-no (pairs_at req from) true false g.0 (ap is_some (whole_is (pairs_at req from) none x))
    insert-located req out from len count (Added.Text own) f g x =
        text-by (pairs_at req from) x.0 g.0 x.1.0 req out from own len (ltb file_bytes (capped_len own len)) refl refl f g.1 x.1.1.inside x.1.1.text
    insert-located req out from len count (Added.Long own) f g x =
        long-by (pairs_at req from) x.0 g.0 x.1.0 req out own len (ltb file_bytes (capped_len own len)) refl g.1 x.1.1.len_is x.1.1.long
