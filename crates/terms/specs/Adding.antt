-- Entries put one behind the other.
use Rattle.std.specs.Prelude.{ℕ, ◌+◌, ◌≡◌, List, ◌++◌, length, take}
use Rattle.format.specs.Bytes.{Bytes}
use Rattle.terms.specs.Sets.{Term}
use Rattle.terms.specs.Entries.{terms_of, Entries}

-- as many terms as one value can have at the most
abbrev pub value_terms : ℕ
value_terms = 4097

-- Behind the first n entries of l terms are being put, `all` of them: so far there are k entries, and `rest` is left.
pub record Adding (d : Bytes) (l : List ℕ) (n : ℕ) (all rest : List Term) (m : List ℕ) (k : ℕ) : Type 0 where
  pub long : length m ≡ length l
  pub count : k + length rest ≡ n + length all
  pub entries : Entries d n l → Entries d k m
  pub terms : terms_of d (take k m) ++ rest ≡ terms_of d (take n l) ++ all
