-- A value that can be written: its bytes are allowed and none of its lines ends in a backslash, which one walk over the bytes finds.
use Prim.Native.Nat.{ℕ, ◌+◌, ◌≤◌, ◌<◌}
use mathlib.Core.Path.{◌≡◌, refl, sym, ap, ◌∙◌}
use mathlib.Core.Bool.{Bool, true, false, ◌&&◌, not, and-true, and-false}
use mathlib.Core.List.{List, [], ◌∷◌}
use lib.Dec.{eqb}
use lib.ListN.{length, get_or, drop, drop_of_length-le}
use borrow.Author.Tests.{eqb-true, lt-leb, le-leb}
use Rattle.format.specs.Bytes.{Bytes, pick, is_newline, is_allowed, all}
use Rattle.format.specs.Lists.{onto}
use Rattle.format.specs.Lines.{Line, joins}
use Rattle.format.specs.Limits.{value_bytes}
use Rattle.format.specs.Words.{split}
use Rattle.format.specs.Written.{none_joins, is_legal_value}
use Rattle.lines.proofs.Cuts.{at-cons}
use Rattle.writing.specs.Value.{is_plain_from}

-- does a line end in a backslash, with one or none before it
abbrev joins_after : Bool → Line → Bool
joins_after slash [] = slash
joins_after slash (c ∷ l) = joins (c ∷ l)

joins_after_lem : (l : Line) → joins_after false l ≡ joins l
joins_after_lem [] = refl
joins_after_lem (c ∷ l) = refl

joins-more : (c : ℕ) (l : Line) → joins_after (eqb c 92) l ≡ joins (c ∷ l)
joins-more c [] = refl
joins-more c (d ∷ l) = refl

-- the lines of a text, a backslash or none before it
abbrev none_after : Bool → List Line → Bool
none_after slash [] = not slash
none_after slash (l ∷ ls) = not (joins_after slash l) && none_joins ls

none_after_lem : (ls : List Line) → none_after false ls ≡ none_joins ls
none_after_lem [] = refl
none_after_lem (l ∷ ls) = ap (λ (t : Bool). not t && none_joins ls) (joins_after_lem l)

plain-onto : (slash : Bool) (c : ℕ) (ls : List Line) → none_after (eqb c 92) ls ≡ none_after slash (onto c ls)
plain-onto slash c [] = sym (and-true (not (eqb c 92)))
plain-onto slash c (l ∷ ls) = ap (λ (t : Bool). not t && none_joins ls) (joins-more c l)

plain-part : (b slash : Bool) (c : ℕ) (x : Bool) (ls : List Line) → eqb c 10 ≡ b → not (b && slash) && (x && none_after (eqb c 92) ls) ≡ x && none_after slash (pick b ([] ∷ ls) (onto c ls))
plain-part true true c x ls e = sym (and-false x)
plain-part true false c x ls e = ap (λ (d : ℕ). x && none_after (eqb d 92) ls) (eqb-true c 10 e) ∙ ap (λ (t : Bool). x && t) (none_after_lem ls)
plain-part false slash c x ls e = ap (λ (t : Bool). x && t) (plain-onto slash c ls)

and-group : (a b x y : Bool) → b && x ≡ y → (a && b) && x ≡ a && y
and-group true b x y e = e
and-group false b x y e = refl

plain-after : (slash : Bool) (s : Bytes) → is_plain_from slash s ≡ all is_allowed s && none_after slash (split 10 s)
unfolding is_plain_from
plain-after slash [] = go slash
  where
    go : (t : Bool) → not t ≡ not t && true
    go true = refl
    go false = refl
plain-after slash (c ∷ s) =
    let x : Bool = all is_allowed s in
    ap (λ (t : Bool). is_allowed c && not (is_newline c && slash) && t) (plain-after (eqb c 92) s)
    ∙ and-group (is_allowed c) (not (is_newline c && slash)) (x && none_after (eqb c 92) (split 10 s)) (x && none_after slash (split 10 (c ∷ s))) (plain-part (eqb c 10) slash c x (split 10 s) refl)
    ∙ group (is_allowed c) x (none_after slash (split 10 (c ∷ s)))
  where
    group : (a b d : Bool) → a && (b && d) ≡ (a && b) && d
    group true b d = refl
    group false b d = refl

plain_value : (s : Bytes) → is_plain_from false s ≡ all is_allowed s && none_joins (split 10 s)
plain_value s = plain-after false s ∙ ap (λ (t : Bool). all is_allowed s && t) (none_after_lem (split 10 s))

-- with the length, it is what a legal value is
pub value-long : (s : Bytes) → value_bytes < length s → is_legal_value s ≡ false
value-long s h = ap (λ (t : Bool). t && all is_allowed s && none_joins (split 10 s)) (lt-leb (length s) value_bytes h)

pub value-short : (s : Bytes) → length s ≤ value_bytes → is_legal_value s ≡ is_plain_from false s
value-short s h = ap (λ (t : Bool). t && all is_allowed s && none_joins (split 10 s)) (le-leb (length s) value_bytes h) ∙ sym (plain_value s)

-- from an index on
module _ (s : Bytes) (i : ℕ) (slash : Bool) where
  pub plain_step : i < length s → is_plain_from slash (drop i s) ≡ is_allowed (get_or s i 0) && not (is_newline (get_or s i 0) && slash) && is_plain_from (eqb (get_or s i 0) 92) (drop (i + 1) s)
  unfolding is_plain_from
  plain_step h = rw (at-cons s i h)

  pub plain_end : length s ≤ i → is_plain_from slash (drop i s) ≡ not slash
  unfolding is_plain_from
  plain_end h = rw (drop_of_length-le s)
