-- The names of the descriptors met so far, by where they stand: one by one, and one more behind them; and the name of a descriptor, by its `%rec` value.
use Prim.Native.Nat.{ℕ, suc, ◌+◌, ◌-◌, ◌≤◌, ◌<◌}
use native.Mathlib.Numerals.{add-one}
use native.Mathlib.Omega.{arith}
use mathlib.Core.Path.{◌≡◌, refl, sym, ap, ◌∙◌, subst}
use mathlib.Core.Bool.{true}
use mathlib.Core.List.{List, [], ◌∷◌, ◌++◌}
use lib.ListN.{length, take, drop, get_or, set, length-drop, length-take, take-append-drop}
use lib.Seq.{drop-cons, drop-drop, take-suc-set, take-append-le, drop-append-le, length-take-le}
use Rattle.format.specs.Pieces.{read_of}
use Rattle.format.specs.Bytes.{Bytes, text}
use Rattle.format.specs.Limits.{value_bytes}
use Rattle.format.specs.Questions.{fits_record}
use Rattle.format.specs.Records.{fields_of}
use Rattle.format.specs.Sets.{values_of}
use Rattle.format.specs.Words.{first_word}
use Rattle.format.proofs.Walking.{name_in, head_name}
use Rattle.values.specs.Value.{value_from}
use Rattle.values.proofs.Decoding.{nothing-at}
use Rattle.records.proofs.Fields.{FieldFound}
use Rattle.words.specs.Spans.{span}
use Rattle.words.specs.declared.Span.{Span}
use Rattle.descriptors.specs.Names.{name_at, names_at, Inside, NamedBy}
use Rattle.descriptors.proofs.Limits.{fits-fields, first_short}

-- a part of a part
pub part-part : (s : Bytes) (a e b f : ℕ) → a ≤ e → e ≤ length s → b ≤ f → f ≤ length (span a e s) → span b f (span a e s) ≡ span (a + b) (a + f) s
part-part s a e b f h k l m =
    let t : Bytes = drop a s in
    let n : ℕ = e - a in
    let size : length (take n t) ≡ n = length-take-le n t (simp length-drop (omega arith)) in
    let long : f - b ≤ length (drop b (take n t)) = simp length-drop (omega (arith, size)) in
    let whole : drop b t ≡ drop b (take n t) ++ drop n t = ap (drop b) (sym (take-append-drop n t)) ∙ drop-append-le b (take n t) (drop n t) (omega (arith, size)) in
    let short : (a + f) - (a + b) ≡ f - b = omega arith in
    sym (take-append-le (f - b) (drop b (take n t)) (drop n t) long) ∙ ap (take (f - b)) (sym whole) ∙ ap (take (f - b)) (drop-drop b a s) ∙ ap (λ (j : ℕ). take j (drop (a + b) s)) (sym short)

-- one by one

inside_both : (s : Bytes) (bs es : List ℕ) → Inside s bs es → length bs ≡ length es
inside_both s [] [] h = refl
inside_both s [] (e ∷ es) h = absurd h
inside_both s (b ∷ bs) [] h = absurd h
inside_both s (b ∷ bs) (e ∷ es) h = ap suc (inside_both s bs es h.2)

-- the k-th place, and those behind it
pub record PlaceAt (s : Bytes) (bs es : List ℕ) (k : ℕ) : Type 0 where
  pub beside : k < length es
  pub ordered : get_or bs k 0 ≤ get_or es k 0
  pub inside : get_or es k 0 ≤ length s
  pub later : Inside s (drop (k + 1) bs) (drop (k + 1) es)
  pub names : names_at s (drop k bs) (drop k es) ≡ name_at s (get_or bs k 0) (get_or es k 0) ∷ names_at s (drop (k + 1) bs) (drop (k + 1) es)

at-cons : (xs : List ℕ) (k : ℕ) → k < length xs → drop k xs ≡ get_or xs k 0 ∷ drop (k + 1) xs
at-cons xs k h = rw (add-one, drop-cons xs k 0)

pub place_at : (s : Bytes) (bs es : List ℕ) (k : ℕ) → k < length bs → Inside s (drop k bs) (drop k es) → PlaceAt s bs es k
place_at s bs es k h i =
    let n = inside_both s (drop k bs) (drop k es) i in
    let l : k < length es = omega (arith, n, length-drop k bs, length-drop k es) in
    let x = at-cons bs k h in
    let y = at-cons es k l in
    let j : Inside s (get_or bs k 0 ∷ drop (k + 1) bs) (get_or es k 0 ∷ drop (k + 1) es) = subst (λ (z : List ℕ). Inside s (get_or bs k 0 ∷ drop (k + 1) bs) z) y (subst (λ (z : List ℕ). Inside s z (drop k es)) x i) in
    record {
      beside = l;
      ordered = j.0;
      inside = j.1;
      later = j.2;
      names = (λ d. names_at s (x d) (y d));
    }

-- one more behind them

inside-append : (s : Bytes) (bs es : List ℕ) (b e : ℕ) → Inside s bs es → b ≤ e → e ≤ length s → Inside s (bs ++ (b ∷ [])) (es ++ (e ∷ []))
inside-append s [] [] b e h p q = (p, q, tt)
inside-append s [] (f ∷ es) b e h p q = absurd h
inside-append s (a ∷ bs) [] b e h p q = absurd h
inside-append s (a ∷ bs) (f ∷ es) b e h p q = (h.0, h.1, inside-append s bs es b e h.2 p q)

names-append : (s : Bytes) (bs es : List ℕ) (b e : ℕ) → Inside s bs es → names_at s (bs ++ (b ∷ [])) (es ++ (e ∷ [])) ≡ names_at s bs es ++ (name_at s b e ∷ [])
names-append s [] [] b e h = refl
names-append s [] (f ∷ es) b e h = absurd h
names-append s (a ∷ bs) [] b e h = absurd h
names-append s (a ∷ bs) (f ∷ es) b e h = ap {B = List Bytes} (λ ns. name_at s a f ∷ ns) (names-append s bs es b e h.2)

module _ (s : Bytes) (bs es : List ℕ) (n b e : ℕ) (fits : n < length bs) (room : n < length es) (i : Inside s (take n bs) (take n es)) where
  put_on : (xs : List ℕ) (x : ℕ) → n < length xs → take (n + 1) (set xs n x) ≡ take n xs ++ (x ∷ [])
  put_on xs x h = ap (λ (k : ℕ). take k (set xs n x)) (add-one n) ∙ take-suc-set xs n x h

  pub inside-more : b ≤ e → e ≤ length s → Inside s (take (n + 1) (set bs n b)) (take (n + 1) (set es n e))
  inside-more p q =
      let h = inside-append s (take n bs) (take n es) b e i p q in
      subst (λ (x : List ℕ). Inside s x (take (n + 1) (set es n e))) (sym (put_on bs b fits)) (subst (λ (x : List ℕ). Inside s (take n bs ++ (b ∷ [])) x) (sym (put_on es e room)) h)

  pub names_more : names_at s (take (n + 1) (set bs n b)) (take (n + 1) (set es n e)) ≡ names_at s (take n bs) (take n es) ++ (name_at s b e ∷ [])
  names_more = (λ d. names_at s (put_on bs b fits d) (put_on es e room d)) ∙ names-append s (take n bs) (take n es) b e i

-- The name of a descriptor is the first word of the first `%rec` value.

name-first : (w : Bytes) (vs : List Bytes) → 0 < length vs → w ≡ get_or vs 0 [] → first_word w ≡ name_in vs
name-first w [] h e = absurd (omega arith)
name-first w (v ∷ vs) h e = ap first_word e

name-none : (vs : List Bytes) → length vs ≤ 0 → name_in vs ≡ []
name-none [] h = refl
name-none (v ∷ vs) h = absurd (omega arith)

module _ (d : Bytes) where
  pub rec-found : (start value end : ℕ) → FieldFound d (values_of (text "%rec") (fields_of (read_of d))) 0 start value end → NamedBy d (record { start = value; end = end })
  rec-found start value end f =
      let vs : List Bytes = values_of (text "%rec") (fields_of (read_of d)) in
      (f.within, f.inside, name-first (value_from (span value end d)) vs f.there f.decodes, λ e. subst (λ (x : Bytes). length x ≤ value_bytes) (sym f.decodes) (first_short (text "%rec") (fields_of (read_of d)) (fits-fields (fields_of (read_of d)) e)))

  pub rec-missing : length (values_of (text "%rec") (fields_of (read_of d))) ≤ 0 → NamedBy d (record { start = 0; end = 0 })
  rec-missing h =
      let z : value_from [] ≡ [] = nothing-at [] 0 (omega arith) in
      (omega arith, omega arith, ap first_word z ∙ sym (name-none (values_of (text "%rec") (fields_of (read_of d))) h), λ e. omega (arith, ap length z))

-- the same in the whole of which the descriptor is a part
module _ (s : Bytes) (a e : ℕ) (v : Span) (h : a ≤ e) (k : e ≤ length s) (n : NamedBy (span a e s) v) where
  moved : span v.start v.end (span a e s) ≡ span (a + v.start) (a + v.end) s
  moved = part-part s a e v.start v.end h k n.0 n.1

  pub name-inside : a + v.end ≤ length s
  name-inside = omega (arith, n.1, length-take (e - a) (drop a s))

  pub name-part : name_at s (a + v.start) (a + v.end) ≡ head_name (fields_of (read_of (span a e s)))
  name-part = ap (λ (x : Bytes). first_word (value_from x)) (sym moved) ∙ n.2

  pub value-part : fits_record (fields_of (read_of (span a e s))) ≡ true → length (value_from (span (a + v.start) (a + v.end) s)) ≤ value_bytes
  value-part f = subst (λ (x : Bytes). length (value_from x) ≤ value_bytes) moved (n.3 f)
