-- A record written as the pairs of a request, field by field.
use Prim.Native.Nat.{ℕ, ◌+◌, ◌-◌, ◌≤◌, ◌<◌}
use native.Mathlib.Nat.{zero-add}
use native.Mathlib.Omega.{arith}
use mathlib.Core.Path.{◌≡◌, refl, sym, ap, ◌∙◌}
use mathlib.Core.Bool.{true, ◌&&◌, and-eq-true_iff}
use mathlib.Core.List.{List, [], ◌∷◌, map}
use lib.ListN.{length, take, drop, length-append}
use lib.Seq.{sets, take-append_seam}
use mathlib.Core.Option.{some}
use Rattle.format.specs.Bytes.{Bytes, all}
use Rattle.format.specs.Lists.{flat, onward}
use Rattle.format.specs.Limits.{file_bytes}
use Rattle.format.specs.Written.{Pair}
use Rattle.format.specs.Requests.{Tagged, tagged, tag, pairs_of, pair_fields, tagged_bytes, encoded}
use Rattle.format.specs.Records.{Record}
use Rattle.format.specs.Calls.{over, Built, field_answer, built}
use Rattle.format.proofs.Elements.{Each}
use Rattle.format.proofs.Encoding.{fields_back}
use Rattle.lines.proofs.Cuts.{rest}
use Rattle.lines.proofs.Over.{over-sets}
use Rattle.requests.specs.Pairs.{pairs_from}
use Rattle.requests.proofs.Building.{built-all, built-whole}
use Rattle.values.specs.Value.{value_from}
use Rattle.words.specs.Spans.{span}
use Rattle.records.specs.Fields.{fields_from, field_between, FieldHere}
use Rattle.records.specs.Walk.{record_in}
use Rattle.merging.specs.Merging.{pair_of, request_for}
use Rattle.merging.specs.Appending.{spare_record}
use Rattle.merging.specs.Texts.{fits_value}

pairs-back : (ps : List Pair) → pairs_of (flat (map pair_fields ps)) ≡ some ps
pairs-back [] = refl
pairs-back (p ∷ ps) = ap (onward (λ (qs : List Pair). some (p ∷ qs))) (pairs-back ps)

-- the fields of a request that a part's pairs are
abbrev pub pairs_in : Bytes → List Tagged
pairs_in s = flat (map pair_fields (map pair_of (record_in s)))

abbrev from : ℕ → Bytes → Built
from at out = record { next = at; out = out }

pub pairs_end : (s out : Bytes) (at : ℕ) → record_in s ≡ [] → built (pairs_in s) (record { next = at; out = out }) ≡ record { next = at; out = out }
pairs_end s out at e = ap (λ (r : Record). built (flat (map pair_fields (map pair_of r))) (from at out)) e

-- one field more
pub pairs-on : (s out one two : Bytes) (at k m a n v e : ℕ) (value : Bytes) → FieldHere s 0 a n v e → ◌≡◌ {A = Built} (record { next = k; out = one }) (field_answer out at (tag 4 (span a n s)))
    → value ≡ value_from (span v e s) → ◌≡◌ {A = Built} (record { next = m; out = two }) (field_answer one k (tag 6 value))
    → built (pairs_in s) (record { next = at; out = out }) ≡ built (pairs_in (take (length s - e) (drop e s))) (record { next = m; out = two })
pairs-on s out one two at k m a n v e value h p q r =
    ap (λ (x : Record). built (flat (map pair_fields (map pair_of x))) (from at out)) h.fields
    ∙ ap (λ (b : Built). built (pairs_in (drop e s)) (field_answer b.out b.next (tag 6 (value_from (span v e s))))) (sym p)
    ∙ ap (λ (x : Bytes). built (pairs_in (drop e s)) (field_answer one k (tag 6 x))) (sym q)
    ∙ ap (built (pairs_in (drop e s))) (sym r)
    ∙ ap (λ (x : Bytes). built (pairs_in x) (from m two)) (sym (rest s e))

-- its value fits a scratch, and what is copied is it
module _ (s : Bytes) (a n v e : ℕ) (h : FieldHere s 0 a n v e) (f : all fits_value (record_in s) ≡ true) where
  parts : (fits_value (field_between s a n v e) && all fits_value (fields_from s e)) ≡ true
  parts = sym (ap (all fits_value) h.fields) ∙ f

  pub value-fits : fits_value (field_between s a n v e) ≡ true
  value-fits = ((and-eq-true_iff (fits_value (field_between s a n v e)) (all fits_value (fields_from s e))).0 parts).0

  pub values-behind : all fits_value (record_in (take (length s - e) (drop e s))) ≡ true
  values-behind = ap (λ (x : Bytes). all fits_value (record_in x)) (rest s e) ∙ ((and-eq-true_iff (fits_value (field_between s a n v e)) (all fits_value (fields_from s e))).0 parts).1

pub copied : (t before after : Bytes) (r : ℕ) → r ≡ length t → after ≡ over t before → take r after ≡ t
copied t before after r l e = (λ i. take (l i) (e i)) ∙ take-append_seam t (drop (length t) before)

pub over-least : (t before after : Bytes) (r : ℕ) → r ≡ length t → after ≡ over t before → r ≤ length after
over-least t before after r l e = omega (arith, l, ap length e, length-append t (drop (length t) before))

-- What is put of the pairs, where they have room and where they have none.
abbrev pub pairs_text : Bytes → Bytes
pairs_text s = flat (map tagged_bytes (pairs_in s))

text-short : (fs : List Tagged) → length (flat (map tagged_bytes fs)) ≤ file_bytes → Each (λ (f : Tagged). length f.contents ≤ 65535) fs
text-short [] h = tt
text-short (f ∷ fs) h = let n = length-append (tagged_bytes f) (flat (map tagged_bytes fs)) in (omega arith, text-short fs (omega arith))

module _ (own before after : Bytes) (n : ℕ) (sized : length before ≡ file_bytes) (e : ◌≡◌ {A = Built} (record { next = n; out = after }) (built (pairs_in own) (record { next = 0; out = before }))) where
  module _ (l : n ≤ file_bytes) where
    whole : (built (pairs_in own) (from 0 before) ≡ from (0 + length (pairs_text own)) (sets before 0 (pairs_text own))) × (0 + length (pairs_text own) ≤ length before)
    whole = built-whole (pairs_in own) before 0 (omega arith) (omega (arith, ap (λ (b : Built). b.next) e, sized))

    pub pairs-length : n ≡ length (flat (map tagged_bytes (pairs_in own)))
    pairs-length = ap (λ (b : Built). b.next) (e ∙ whole.0) ∙ zero-add (length (pairs_text own))

    pub pairs-text : take n after ≡ flat (map tagged_bytes (pairs_in own))
    pairs-text =
        (λ i. take (pairs-length i) ((ap (λ (b : Built). b.out) (e ∙ whole.0) ∙ over-sets (pairs_text own) before (omega (arith, whole.1))) i))
        ∙ take-append_seam (pairs_text own) (drop (length (pairs_text own)) before)

    -- they read as the record's pairs
    pub pairs-read : pairs_from (take n after) 0 ≡ some (map pair_of (record_in own))
    pairs-read = ap (λ (t : Bytes). onward pairs_of (tagged t)) pairs-text ∙ ap (onward pairs_of) (fields_back (pairs_in own)) ∙ pairs-back (map pair_of (record_in own))

  pub pairs-over : file_bytes < n → file_bytes < length (flat (map tagged_bytes (pairs_in own)))
  pairs-over h =
      let no : length (pairs_text own) ≤ file_bytes → ⊥ = λ l. let z = ap (λ (b : Built). b.next) (e ∙ built-all (pairs_in own) before 0 (text-short (pairs_in own) l) (omega (arith, sized, l))) in omega (arith, z, l, h) in
      omega (arith, no)

-- the whole request's length
pub request-length : (set own : Bytes) → length (request_for (spare_record set (record_in own))) ≡ 7 + length set + length (flat (map tagged_bytes (pairs_in own)))
unfolding encoded
request-length set own = omega (arith, length-append set (flat (map tagged_bytes (pairs_in own))))
