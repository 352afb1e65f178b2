-- What the library's searches answer of bytes, in the definitions' words.
use Prim.Native.Nat.{ℕ, zero, suc, ◌+◌, ◌<◌}
use native.Mathlib.Omega.{arith}
use mathlib.Core.Path.{◌≡◌, refl, sym, ◌∙◌}
use mathlib.Core.Bool.{Bool, true, false, not, cond}
use mathlib.Core.List.{[], ◌∷◌}
use lib.Dec.{eqb, ltb}
use lib.ListN.{length, take, get_or}
use Rattle.std.specs.Prelude.{Option, Some, None}
use Rattle.std.specs.Option.{unwrap_or}
use Rattle.std.specs.List.{position_or_len, list_all}
use Rattle.std.specs.Cmp.Lexicographic.{pointwise}
use Rattle.std.proofs.lemmas.List.Sums.{prefix_len-le-length}
use Rattle.format.specs.Bytes.{Bytes, pick, class_of, is_blank, is_newline, all, same}
use Rattle.format.proofs.Table.{blank-class}
use Rattle.lines.specs.Line.{line_len, run}

pub not-not : (t : Bool) → t ≡ not (not t)
not-not true = refl
not-not false = refl

-- `position`, or the length where nothing is found
pub found : (test : ℕ → Bool) (s : Bytes) (r : Option ℕ) → r ≡ cond (ltb (position_or_len test s) (length s)) (Some (position_or_len test s)) None → unwrap_or r (length s) ≡ position_or_len test s
found test s r e = grind (arith, e, prefix_len-le-length (λ b. not (test b)) s)

-- the bytes at the front that pass are those before the first one found that does not
run_passed : (p test : ℕ → Bool) → ((b : ℕ) → p b ≡ not (test b)) → (s : Bytes) → run p s ≡ position_or_len test s
unfolding run
run_passed p test h [] = refl
run_passed p test h (c ∷ s) = rw (h c, run_passed p test h s) (go (test c))
  where
    go : (t : Bool) → pick (not t) (suc (position_or_len test s)) 0 ≡ cond (not t) (1 + position_or_len test s) 0
    go true = refl
    go false = omega arith

pub run_found : (p test : ℕ → Bool) → ((b : ℕ) → p b ≡ not (test b)) → (s : Bytes) (r : Option ℕ) → r ≡ cond (ltb (position_or_len test s) (length s)) (Some (position_or_len test s)) None → unwrap_or r (length s) ≡ run p s
run_found p test h s r e = found test s r e ∙ sym (run_passed p test h s)

-- the same of a line's bytes and its newline
line_passed : (s : Bytes) → line_len s ≡ position_or_len is_newline s
unfolding line_len
line_passed [] = refl
line_passed (c ∷ s) = rw (line_passed s) (go (is_newline c))
  where
    go : (t : Bool) → pick t 0 (suc (position_or_len is_newline s)) ≡ cond (not t) (1 + position_or_len is_newline s) 0
    go true = refl
    go false = omega arith

pub line_found : (s : Bytes) (r : Option ℕ) → r ≡ cond (ltb (position_or_len is_newline s) (length s)) (Some (position_or_len is_newline s)) None → unwrap_or r (length s) ≡ line_len s
line_found s r e = found is_newline s r e ∙ sym (line_passed s)

-- `==`
pub same_pointwise : (a b : Bytes) → pointwise eqb a b ≡ same a b
same_pointwise [] [] = refl
same_pointwise [] (y ∷ b) = refl
same_pointwise (x ∷ a) [] = refl
same_pointwise (x ∷ a) (y ∷ b) = rw (same_pointwise a b)

-- `all`
pub all_pass : (p : ℕ → Bool) (s : Bytes) → list_all p s ≡ all p s
all_pass p [] = refl
all_pass p (c ∷ s) = rw (all_pass p s)

-- the blanks of a text's front, told by their class
pub classes-blank : (n : ℕ) (s : Bytes) → ((i : ℕ) → get_or s i 0 < 256) → all (λ b. eqb (class_of b) 3) (take n s) ≡ all is_blank (take n s)
classes-blank zero s h = refl
classes-blank (suc n) [] h = refl
classes-blank (suc n) (c ∷ s) h = rw (blank-class c (h 0), classes-blank n s (λ i. h (suc i)))
