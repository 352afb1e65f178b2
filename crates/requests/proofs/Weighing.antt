-- The pairs of an insert, summed and asked in order, and their text in a buffer.
use Rattle.std.specs.Prelude.{Some, None}
use Prim.Native.Nat.{ℕ, zero, suc, ◌+◌, ◌*◌, ◌≤◌}
use native.Mathlib.Omega.{arith}
use mathlib.Core.Path.{◌≡◌, refl, ap, ◌∙◌}
use mathlib.Core.Bool.{Bool, true, false, ◌&&◌}
use mathlib.Core.List.{List, ◌∷◌, ◌++◌}
use lib.Dec.{leb}
use lib.ListN.{length, length-append}
use lib.Seq.{sets}
use borrow.Author.Tests.{leb-true}
use Rattle.format.specs.Bytes.{Bytes, pick, all}
use Rattle.format.specs.Questions.{first_no}
use Rattle.format.specs.Written.{written, Pair as Written, written_all, is_legal_name, is_legal_value, is_legal_pair}
use Rattle.format.specs.Calls.{then_no, write_rows}
use Rattle.writing.proofs.Texts.{indent-length, written-length, sets-append}
use Rattle.words.specs.declared.Span.{Span}
use Rattle.requests.specs.Fields.{bytes_of}
use Rattle.requests.specs.Pairs.{PairAt, Weighs}
use Rattle.requests.proofs.Reading.{span-length}
use Rattle.requests.specs.Writes.{write_no}

-- a pair's text has at most three bytes for each byte that it takes in the request
pub pair_size : (s : Bytes) (i : ℕ) (n v : Span) (k : ℕ) → PairAt s i (Some (record { name = n; value = v; next = k })) → length (written (bytes_of s n) (bytes_of s v)) + 3 * i ≤ 3 * k
pair_size s i n v k h =
    omega (arith, written-length (bytes_of s n) (bytes_of s v), indent-length (bytes_of s v), span-length s n h.3, span-length s v h.5, h.2, h.4, h.6)

-- a pair in front of pairs
module _ (ps qs : List Written) (p : Written) (e : ps ≡ p ∷ qs) where
  pub first-illegal : is_legal_pair p ≡ false → all is_legal_pair ps ≡ false
  first-illegal h = ap (all is_legal_pair) e ∙ ap (λ (t : Bool). t && all is_legal_pair qs) h

  pub first-legal : is_legal_pair p ≡ true → all is_legal_pair ps ≡ all is_legal_pair qs
  first-legal h = ap (all is_legal_pair) e ∙ ap (λ (t : Bool). t && all is_legal_pair qs) h

  first-written : written_all ps ≡ written p.name p.value ++ written_all qs
  first-written = ap written_all e

  pub first-length : length (written_all ps) ≡ length (written p.name p.value) + length (written_all qs)
  first-length = ap length first-written ∙ length-append (written p.name p.value) (written_all qs)

  pub first_count : length ps ≡ suc (length qs)
  first_count = ap length e

  pub first-sets : (out : Bytes) (at : ℕ) → sets out at (written_all ps) ≡ sets (sets out at (written p.name p.value)) (at + length (written p.name p.value)) (written_all qs)
  first-sets out at = ap (sets out at) first-written ∙ sets-append out at (written p.name p.value) (written_all qs)

-- a legal pair, by its name and then its value
pub legal-both : (n v : Bytes) → is_legal_name n ≡ true → is_legal_pair (record { name = n; value = v }) ≡ is_legal_value v
legal-both n v e = ap (λ (t : Bool). t && is_legal_value v) e

pub illegal-name : (n v : Bytes) → is_legal_name n ≡ false → is_legal_pair (record { name = n; value = v }) ≡ false
illegal-name n v e = ap (λ (t : Bool). t && is_legal_value v) e

-- the questions about pairs, by their sums
module _ (ps : List Written) (room : ℕ) where
  abbrev no : Bool → Bool → Bool → Bool → ℕ
  no legal fits few free = then_no (pick legal (pick fits (pick few 0 104) 26) 25) (pick free 0 27)

  pub asked-illegal : Weighs ps None → write_no ps room ≡ 25
  asked-illegal h = rw h

-- where all say yes, the text fits
pub asked-fits : (ps : List Written) (room : ℕ) → write_no ps room ≡ 0 → length (written_all ps) ≤ room
asked-fits ps room e = go (first_no write_rows ps) (leb (length (written_all ps)) room) refl e
  where
    go : (n : ℕ) (d : Bool) → leb (length (written_all ps)) room ≡ d → ◌≡◌ {A = ℕ} (then_no n (pick d 0 27)) 0 → length (written_all ps) ≤ room
    go (suc n) d h q = absurd (omega arith)
    go zero false h q = absurd (omega arith)
    go zero true h q = leb-true (length (written_all ps)) room h
