-- The numbers kept of a record's fields, and what they say of questions 8 to 11.
use Rattle.std.specs.Prelude.{ℕ, zero, suc, ◌+◌, min, ◌≡◌, Bool, true, false, ◌&&◌, ◌||◌, not, [], ◌∷◌, leb, ltb, eqb, length, get_or}
use Rattle.std.specs.Int.Bits.{bit_and, bit_or}
use Rattle.format.specs.Bytes.{Bytes, pick, among}
use Rattle.format.specs.Records.{Record}
use Rattle.format.specs.Rules.{mandatory, allowed, unique, key}
use Rattle.format.specs.Questions.{each_name, none_prohibited, occurrences}
use Rattle.terms.specs.Sets.{in_set}
use Rattle.rules.specs.declared.tallies.Tally.{Tally}

abbrev pub empty : Tally
empty = record { prohibited = false; other = false; present = 0; once = 0; twice = 0; keys = 0 }

-- one field more: is its name prohibited, allowed, the key; its places among the mandatory and the unique words
abbrev pub counted : Tally → Bool → Bool → Bool → ℕ → ℕ → Tally
counted t p a k m u =
    record {
      prohibited = t.prohibited || p;
      other = t.other || not a;
      present = bit_or t.present m;
      once = bit_or t.once u;
      twice = bit_or t.twice (bit_and t.once u);
      keys = min 2 (t.keys + pick k 1 0);
    }

-- are the first n places in a set
unfoldable pub has_all : ℕ → ℕ → Bool
has_all zero x = true
has_all (suc n) x = in_set n x && has_all n x

-- the first question that says no
unfoldable pub tally_no : Tally → Bool → Bool → ℕ → ℕ
tally_no t limited keyed n =
    pick t.prohibited 8
    (pick (limited && t.other) 9
    (pick (has_all n t.present) (pick (keyed && eqb t.keys 0) 10
    (pick (eqb t.twice 0) (pick (keyed && ltb 1 t.keys) 11 0) 11)) 10))

-- t is the tally of some fields under rules
pub record Tallied (rules fs : Record) (t : Tally) : Type 0 where
  pub prohibited-is : t.prohibited ≡ not (none_prohibited rules fs)
  pub other-is : t.other ≡ not (each_name (λ (n : Bytes). among n (allowed rules)) fs)
  pub present-is : (k : ℕ) → in_set k t.present ≡ (ltb k (length (mandatory rules)) && leb 1 (occurrences (get_or (mandatory rules) k []) fs))
  pub once_is : (k : ℕ) → in_set k t.once ≡ (ltb k (length (unique rules)) && leb 1 (occurrences (get_or (unique rules) k []) fs))
  pub twice-is : (k : ℕ) → in_set k t.twice ≡ (ltb k (length (unique rules)) && leb 2 (occurrences (get_or (unique rules) k []) fs))
  pub keys-is : (w : Bytes) → key rules ≡ w ∷ [] → t.keys ≡ min 2 (occurrences w fs)
