-- A text made dense where it stands, line by line.
use Prim.Native.Nat.{ℕ, suc, ◌+◌, ◌-◌, ◌≤◌, ◌<◌}
use native.Mathlib.Omega.{arith}
use mathlib.Core.Path.{◌≡◌, refl, sym, ap, ◌∙◌, subst}
use mathlib.Core.Bool.{Bool, true, false, not}
use mathlib.Core.List.{List, [], ◌∷◌, ◌++◌, append_assoc, append-nil}
use borrow.Author.Tests.{eqb-true}
use lib.ListN.{length, take, drop, length-take, length-drop, drop_of_length-le}
use lib.Seq.{paste, length-paste, take-paste, drop-paste, length-take-le, drop-drop, take-take}
use Rattle.format.specs.Bytes.{Bytes, pick, is_newline}
use Rattle.format.specs.Lists.{filter}
use Rattle.format.specs.Lines.{Line, lines, bytes, is_ended}
use Rattle.format.proofs.Dense.{is_joint, not_joint, dense}
use Rattle.lines.specs.Line.{line_len, first_line}
use Rattle.lines.proofs.Cuts.{lines_cut, ended-drop, line-inside}
use Rattle.words.specs.Spans.{span}
use Rattle.records.proofs.Steps.{drop-take}

-- a line with its newline
newline-by : (b : Bool) (c : ℕ) (s : Bytes) → is_newline c ≡ b → (line_len s < length s → first_line s ++ (10 ∷ []) ≡ take (suc (line_len s)) s) → pick b 0 (suc (line_len s)) < suc (length s)
    → take (pick b 0 (suc (line_len s))) (c ∷ s) ++ (10 ∷ []) ≡ take (suc (pick b 0 (suc (line_len s)))) (c ∷ s)
newline-by true c s e f h = ap {B = Bytes} (λ x. x ∷ []) (sym (eqb-true c 10 e))
newline-by false c s e f h = ap {B = Bytes} (λ x. c ∷ x) (f (omega (arith, h)))

line-newline : (s : Bytes) → line_len s < length s → first_line s ++ (10 ∷ []) ≡ take (suc (line_len s)) s
unfolding line_len
line-newline [] h = absurd (omega (arith, h))
line-newline (c ∷ s) h = newline-by (is_newline c) c s refl (line-newline s) h

-- a dense text by its first line
left_by : (b : Bool) (l : Line) (ls : List Line) (t : Bytes) → l ++ (10 ∷ []) ≡ t → bytes (pick (not b) (l ∷ ls) ls) ≡ pick b [] t ++ bytes ls
left_by true l ls t e = refl
left_by false l ls t e = sym (append_assoc l (10 ∷ []) (bytes ls)) ∙ ap (λ (x : Bytes). x ++ bytes ls) e

dense-cut : (s : Bytes) → is_ended s ≡ true → 0 < length s → dense s ≡ pick (is_joint (first_line s)) [] (take (suc (line_len s)) s) ++ dense (drop (suc (line_len s)) s)
unfolding dense
dense-cut s e h =
    ap (λ (ls : List Line). bytes (filter not_joint ls)) (lines_cut s h)
    ∙ left_by (is_joint (first_line s)) (first_line s) (filter not_joint (lines (drop (suc (line_len s)) s))) (take (suc (line_len s)) s) (line-newline s (line-inside s e h))

none-dense : dense [] ≡ []
unfolding dense
none-dense = refl

-- a bare joint stays out, any other line is moved
pub joint-stays : (b : Bool) (to k : ℕ) (t m : Bytes) → b ≡ true → (to ≡ pick b to k) × (t ≡ pick b t m)
joint-stays b to k t m e = (sym (ap (λ (x : Bool). pick x to k) e), sym (ap (λ (x : Bool). pick x t m) e))

pub line-moves : (b : Bool) (to k : ℕ) (t m : Bytes) → b ≡ false → (k ≡ pick b to k) × (m ≡ pick b t m)
line-moves b to k t m e = (sym (ap (λ (x : Bool). pick x to k) e), sym (ap (λ (x : Bool). pick x t m) e))

-- the lines before i of the text of `used` bytes in t₀ are dense in the first n bytes of t, and those from i on stand where they stood
pub record DenseAt (t₀ : Bytes) (used : ℕ) (t : Bytes) (i n : ℕ) : Type 0 where
  pub low : n ≤ i
  pub high : i ≤ used
  pub size : length t ≡ length t₀
  pub rest : drop i t ≡ drop i t₀
  pub done : take n t ++ dense (drop i (take used t₀)) ≡ dense (take used t₀)

pub dense-start : (t₀ : Bytes) (used : ℕ) → DenseAt t₀ used t₀ 0 0
dense-start t₀ used = record { low = omega arith; high = omega arith; size = refl; rest = refl; done = refl }

module _ {t₀ t : Bytes} {used i n : ℕ} (a : DenseAt t₀ used t i n) (room : used ≤ length t₀) (ended : is_ended (take used t₀) ≡ true) where
  pub dense-end : used ≤ i → take n t ≡ dense (take used t₀)
  dense-end h =
      let none : drop i (take used t₀) ≡ [] = drop_of_length-le (take used t₀) {i = i} (omega (arith, h, length-take-le used t₀ room)) in
      sym (append-nil (take n t)) ∙ ap (λ (x : Bytes). take n t ++ x) (sym (ap dense none ∙ none-dense)) ∙ a.done

  module _ (h : i < used) where
    abbrev here : Bytes
    here = drop i (take used t₀)

    here-length : length here ≡ used - i
    here-length = simp (length-drop, length-take) (omega (arith, room, h))

    pub here-part : take (used - i) (drop i t) ≡ here
    here-part = ap (take (used - i)) a.rest ∙ sym (drop-take i used t₀)

    here-inside : line_len here < used - i
    here-inside = omega (arith, here-length, h, line-inside here (ended-drop (take used t₀) i ended) (omega (arith, here-length, h)))

    module _ (len : ℕ) (e : len ≡ line_len (take (used - i) (drop i t))) where
      len-here : len ≡ line_len here
      len-here = e ∙ ap line_len here-part

      pub line-within : i + len < used
      line-within = omega (arith, len-here, here-inside, h)

      front-here : (k : ℕ) → k ≤ used - i → take k (drop i t) ≡ take k here
      front-here k l = sym (take-take k (used - i) (drop i t) l) ∙ ap (take k) here-part

      module _ (end : ℕ) (z : end ≡ i + len + 1) where
        ahead : end - i ≡ suc (line_len here)
        ahead = omega (arith, z, len-here)

        line-here : span i (end - 1) t ≡ first_line here
        line-here = ap (λ (k : ℕ). take k (drop i t)) (let y : end - 1 - i ≡ line_len here = omega (arith, z, len-here) in y) ∙ front-here (line_len here) (omega (arith, here-inside))

        rest-here : drop (suc (line_len here)) here ≡ drop end (take used t₀)
        rest-here = drop-drop (suc (line_len here)) i (take used t₀) ∙ ap (λ (k : ℕ). drop k (take used t₀)) (let y : i + suc (line_len here) ≡ end = omega (arith, z, len-here) in y)

        rest-on : drop end t ≡ drop end t₀
        rest-on =
            let y : end ≡ i + (end - i) = omega (arith, z) in
            ap (λ (k : ℕ). drop k t) y ∙ sym (drop-drop (end - i) i t) ∙ ap (drop (end - i)) a.rest ∙ drop-drop (end - i) i t₀ ∙ ap (λ (k : ℕ). drop k t₀) (sym y)

        cut-here : take n t ++ (pick (is_joint (span i (end - 1) t)) [] (take (suc (line_len here)) here) ++ dense (drop end (take used t₀))) ≡ dense (take used t₀)
        cut-here =
            ap (λ (l : Line). take n t ++ (pick (is_joint l) [] (take (suc (line_len here)) here) ++ dense (drop end (take used t₀)))) line-here
            ∙ ap (λ (x : Bytes). take n t ++ (pick (is_joint (first_line here)) [] (take (suc (line_len here)) here) ++ dense x)) (sym rest-here)
            ∙ ap (λ (x : Bytes). take n t ++ x) (sym (dense-cut here (ended-drop (take used t₀) i ended) (omega (arith, here-length, h))))
            ∙ a.done

        -- the line's bytes where they went
        abbrev move : Bytes
        move = paste t n (drop i t) (end - i)

        inside : (n ≤ length t) × (end - i ≤ length (drop i t)) × (n + (end - i) ≤ length t)
        inside =
            let l : length (drop i t) ≡ length t - i = length-drop i t in
            (omega (arith, a.low, a.high, a.size, room), omega (arith, l, z, line-within, a.size, room), omega (arith, a.low, z, line-within, a.size, room))

        move-rest : drop end move ≡ drop end t
        move-rest =
            let y : end ≡ n + (end - i) + (end - (n + (end - i))) = omega (arith, a.low, z) in
            ap (λ (k : ℕ). drop k move) y ∙ sym (drop-drop (end - (n + (end - i))) (n + (end - i)) move)
            ∙ ap (drop (end - (n + (end - i)))) (drop-paste t n (drop i t) (end - i) inside.0 inside.1)
            ∙ drop-drop (end - (n + (end - i))) (n + (end - i)) t ∙ ap (λ (k : ℕ). drop k t) (sym y)

        move-front : take (n + (end - i)) move ≡ take n t ++ take (suc (line_len here)) here
        move-front =
            take-paste t n (drop i t) (end - i) inside.0 inside.1
            ∙ ap (λ (k : ℕ). take n t ++ take k (drop i t)) ahead
            ∙ ap (λ (x : Bytes). take n t ++ x) (front-here (suc (line_len here)) (omega (arith, here-inside)))

        next-by : (b : Bool) → take n t ++ (pick b [] (take (suc (line_len here)) here) ++ dense (drop end (take used t₀))) ≡ dense (take used t₀) → DenseAt t₀ used (pick b t move) end (pick b n (n + (end - i)))
        next-by true c = record { low = omega (arith, a.low, z); high = omega (arith, z, line-within); size = a.size; rest = rest-on; done = c }
        next-by false c =
            record {
              low = omega (arith, a.low, z);
              high = omega (arith, z, line-within);
              size = length-paste t n (drop i t) (end - i) inside.2 inside.1 ∙ a.size;
              rest = move-rest ∙ rest-on;
              done =
                  ap (λ (x : Bytes). x ++ dense (drop end (take used t₀))) move-front
                  ∙ append_assoc (take n t) (take (suc (line_len here)) here) (dense (drop end (take used t₀)))
                  ∙ c;
            }

        pub dense-next : (t' : Bytes) (n' : ℕ) → t' ≡ pick (is_joint (span i (end - 1) t)) t (paste t n (drop i t) (end - i)) → n' ≡ pick (is_joint (span i (end - 1) t)) n (n + (end - i)) → DenseAt t₀ used t' end n'
        dense-next t' n' x y =
            let k : DenseAt t₀ used (pick (is_joint (span i (end - 1) t)) t move) end (pick (is_joint (span i (end - 1) t)) n (n + (end - i))) = next-by (is_joint (span i (end - 1) t)) cut-here in
            subst (λ (m : ℕ). DenseAt t₀ used t' end m) (sym y) (subst (λ (u : Bytes). DenseAt t₀ used u end (pick (is_joint (span i (end - 1) t)) n (n + (end - i)))) (sym x) k)
