-- Words with their tags, and sets of tags.
use Rattle.std.specs.Prelude.{ℕ, zero, suc, ◌/◌, ◌%◌, ◌≡◌, Bool, ◌&&◌, List, eqb}
use Rattle.format.specs.Bytes.{Bytes, any, same}

-- how many tags there are
abbrev pub tags : ℕ
tags = 64

-- a set is a number: tag k is in it where its bit k is 1
unfoldable pub in_set : ℕ → ℕ → Bool
in_set zero x = eqb (x % 2) 1
in_set (suc k) x = in_set k (x / 2)

-- a word and its tag
pub record Term : Type 0 where
  pub word : Bytes
  pub tag : ℕ

abbrev pub term_of : ℕ → Bytes → Term
term_of k w = record { word = w; tag = k }

-- is a term the word w with tag k
abbrev pub says : Bytes → ℕ → Term → Bool
says w k t = same w t.word && eqb k t.tag

-- is some term
abbrev pub tagged : Bytes → ℕ → List Term → Bool
tagged w k ts = any (says w k) ts

-- x is the set of the tags of w
abbrev pub Answers : Bytes → List Term → ℕ → Type 0
Answers w ts x = (k : ℕ) → in_set k x ≡ tagged w k ts
