-- The fields of a part go: what stays of it moves to the part's front, field by field, and then the text's tail closes up behind it.
use Prim.Native.Nat.{ℕ, ◌+◌, ◌-◌, ◌≤◌, max}
use native.Mathlib.Omega.{arith}
use mathlib.Core.Path.{◌≡◌, refl, sym, ap, ◌∙◌}
use mathlib.Core.Bool.{true}
use mathlib.Core.List.{[], ◌++◌, append_assoc}
use lib.ListN.{length, take, drop, replicate, length-drop}
use lib.Seq.{paste, take-paste, drop-paste, length-paste, take-add, take-take, take_at, drop_at, drop-drop, take_all, take-append-le, length-take-le}
use borrow.Rule.Slice.PartMut.{put_mid}
use Rattle.format.specs.Bytes.{Bytes}
use Rattle.format.specs.Calls.{placed}
use Rattle.words.specs.Spans.{span}
use Rattle.records.specs.Places.{is_readable}
use Rattle.records.specs.Fields.{fields_from, FieldHere}
use Rattle.records.proofs.Steps.{drop-take}
use Rattle.records.proofs.Unfielding.{left_of, left-all, left-field}
use Rattle.splices.specs.Space.{spliced}

-- The state between two fields: n bytes stand in front that stay of s's first i, and from i on s is as it was.
pub record Keeping (s now : Bytes) (n i : ℕ) : Type 0 where
  pub same : length now ≡ length s
  pub low : n ≤ i
  pub inside : i ≤ length s
  pub rest : drop i now ≡ drop i s
  pub readable : is_readable (drop i s) ≡ true
  pub kept : take n now ++ left_of (drop i s) ≡ left_of s

pub keeping-begins : (s : Bytes) → is_readable s ≡ true → Keeping s s 0 0
keeping-begins s e = record { same = refl; low = omega arith; inside = omega arith; rest = refl; readable = e; kept = refl }

module _ {s now : Bytes} {n i : ℕ} (c : Keeping s now n i) where
  pub keeping-readable : is_readable (drop i now) ≡ true
  keeping-readable = ap is_readable c.rest ∙ c.readable

  -- k bytes that stay
  module _ (k : ℕ) (fits : i + k ≤ length s) (now' : Bytes) (e : now' ≡ paste now n (drop i now) k) where
    front : k ≤ length (drop i now)
    front = omega (arith, length-drop i now, c.same)

    moved_same : length now' ≡ length s
    moved_same = ap length e ∙ length-paste now n (drop i now) k (omega (arith, c.low, c.same)) front ∙ c.same

    moved_front : take (n + k) now' ≡ take n now ++ take k (drop i now)
    moved_front = ap (take (n + k)) e ∙ take-paste now n (drop i now) k (omega (arith, c.low, c.inside, c.same)) front

    -- what stands behind them is as it was
    moved-rest : (j : ℕ) → i + k ≤ j → drop j now' ≡ drop j s
    moved-rest j h =
        let z : j ≡ (n + k) + (j - (n + k)) = omega (arith, c.low) in
        let y : j ≡ i + (j - i) = omega arith in
        ap (drop j) e
        ∙ ap (λ (x : ℕ). drop x (paste now n (drop i now) k)) z
        ∙ sym (drop-drop (j - (n + k)) (n + k) (paste now n (drop i now) k))
        ∙ ap (drop (j - (n + k))) (drop-paste now n (drop i now) k (omega (arith, c.low, c.same)) front)
        ∙ drop-drop (j - (n + k)) (n + k) now
        ∙ ap (λ (x : ℕ). drop x now) (sym z)
        ∙ ap (λ (x : ℕ). drop x now) y
        ∙ sym (drop-drop (j - i) i now)
        ∙ ap (drop (j - i)) c.rest
        ∙ drop-drop (j - i) i s
        ∙ ap (λ (x : ℕ). drop x s) (sym y)

    -- all that is left of the part
    pub keeping-ends : i + k ≡ length s → fields_from now i ≡ [] → (n + k ≤ length s) × (take (n + k) now' ≡ left_of s)
    keeping-ends h f = (
      omega (arith, c.low),
      moved_front
          ∙ ap (λ (x : Bytes). take n now ++ x) (take_all k (drop i now) (omega (arith, length-drop i now, c.same)) ∙ sym (left-all now i keeping-readable f) ∙ ap left_of c.rest)
          ∙ c.kept,
    )

  -- what stands before the next field stays, and the field goes
  pub keeping-field : (k m v e : ℕ) → FieldHere now i (i + k) m v e → (now' : Bytes) → now' ≡ paste now n (drop i now) k → Keeping s now' (n + k) e
  keeping-field k m v e f now' q =
      let z : k ≡ (i + k) - i = omega arith in
      let fits : i + k ≤ length s = omega (arith, f.begins, f.moves, f.inside, c.same) in
      let beyond : i + k ≤ e = omega (arith, f.begins, f.moves) in
      let y : e ≡ i + (e - i) = omega (arith, f.begins, f.moves) in
      let here : drop e now ≡ drop e s = ap (λ (x : ℕ). drop x now) y ∙ sym (drop-drop (e - i) i now) ∙ ap (drop (e - i)) c.rest ∙ drop-drop (e - i) i s ∙ ap (λ (x : ℕ). drop x s) (sym y) in
      record {
        same = moved_same k fits now' q;
        low = omega (arith, f.begins, f.moves, c.low);
        inside = omega (arith, f.inside, c.same);
        rest = moved-rest k fits now' q e beyond;
        readable = sym (ap is_readable here) ∙ f.readable;
        kept =
            ap (λ (x : Bytes). x ++ left_of (drop e s)) (moved_front k fits now' q)
            ∙ append_assoc (take n now) (take k (drop i now)) (left_of (drop e s))
            ∙ ap (λ (x : Bytes). take n now ++ (take k (drop i now) ++ left_of x)) (sym here)
            ∙ ap (λ (j : ℕ). take n now ++ (take j (drop i now) ++ left_of (drop e now))) z
            ∙ ap (λ (x : Bytes). take n now ++ x) (sym (left-field now i keeping-readable (i + k) m v e f) ∙ ap left_of c.rest)
            ∙ c.kept;
      }

-- a part that ends in the front of a text
pub span-front : (b : Bytes) (n a e : ℕ) → e ≤ n → span a e (take n b) ≡ span a e b
span-front b n a e h = ap (take (e - a)) (drop-take a n b) ∙ take-take (e - a) (n - a) (drop a b) (omega arith)

-- The part t in place of the one from a to e, and the text's tail moved down behind its first n bytes.
module _ (b t : Bytes) (used a e n : ℕ) (low : a ≤ e) (ends : e ≤ used) (fits : used ≤ length b) (size : length t ≡ e - a) (less : n ≤ e - a) where
  abbrev changed : Bytes
  changed = put_mid a (e - a) b t

  at_part : drop a changed ≡ t ++ drop (e - a) (drop a b)
  at_part = drop_at (take a b) (t ++ drop (e - a) (drop a b)) a (length-take-le a b (omega arith))

  front_kept : take (a + n) changed ≡ take a b ++ take n t
  front_kept =
      take-add a n changed
      ∙ (λ j. take_at (take a b) (t ++ drop (e - a) (drop a b)) a (length-take-le a b (omega arith)) j ++ take n (at_part j))
      ∙ ap (λ (x : Bytes). take a b ++ x) (take-append-le n t (drop (e - a) (drop a b)) (omega arith))

  behind-kept : (m : ℕ) → e ≤ m → drop m changed ≡ drop m b
  behind-kept m h =
      let z : m ≡ (a + (e - a)) + (m - e) = omega arith in
      let same : drop (e - a) (drop a changed) ≡ drop (e - a) (drop a b) = ap (drop (e - a)) at_part ∙ drop_at t (drop (e - a) (drop a b)) (e - a) size in
      ap (λ (j : ℕ). drop j changed) z
      ∙ sym (drop-drop (m - e) (a + (e - a)) changed)
      ∙ ap (drop (m - e)) (sym (drop-drop (e - a) a changed) ∙ same ∙ drop-drop (e - a) a b)
      ∙ drop-drop (m - e) (a + (e - a)) b
      ∙ ap (λ (j : ℕ). drop j b) (sym z)

  tail-kept : drop ((a + n) + (e - (a + n))) (take used changed) ≡ drop (a + (e - a)) (take used b)
  tail-kept =
      let z : (a + n) + (e - (a + n)) ≡ e = omega arith in
      let y : a + (e - a) ≡ e = omega arith in
      ap (λ (j : ℕ). drop j (take used changed)) z
      ∙ drop-take e used changed
      ∙ ap (take (used - e)) (behind-kept e (omega arith))
      ∙ sym (drop-take e used b)
      ∙ ap (λ (j : ℕ). drop j (take used b)) (sym y)

  -- the text with what stays, and the buffer that holds it
  pub fields-cut : take n t ≡ left_of (span a e b) → (r : ℕ) (b' : Bytes)
      → r ≡ length (spliced (take used changed) (a + n) (e - (a + n)) [])
      → b' ≡ placed (spliced (take used changed) (a + n) (e - (a + n)) []) used changed
      → (r ≡ length (spliced (take used b) a (e - a) (left_of (span a e (take used b))))) × (b' ≡ placed (spliced (take used b) a (e - a) (left_of (span a e (take used b)))) used b)
  fields-cut f r b' g h =
      let left : Bytes = left_of (span a e (take used b)) in
      let u : Bytes = spliced (take used b) a (e - a) left in
      let same : take n t ≡ left = f ∙ ap left_of (sym (span-front b used a e ends)) in
      let front : take (a + n) (take used changed) ≡ take a (take used b) ++ take n t =
      take-take (a + n) used changed (omega arith) ∙ front_kept ∙ ap (λ (x : Bytes). x ++ take n t) (sym (take-take a used b (omega arith))) in
      let closed : spliced (take used changed) (a + n) (e - (a + n)) [] ≡ u =
      (λ j. front j ++ tail-kept j)
      ∙ append_assoc (take a (take used b)) (take n t) (drop (a + (e - a)) (take used b))
      ∙ ap (λ (x : Bytes). take a (take used b) ++ (x ++ drop (a + (e - a)) (take used b))) same in
      let behind : placed u used changed ≡ placed u used b = ap (λ (x : Bytes). u ++ (replicate (used - length u) 0 ++ x)) (behind-kept (max used (length u)) (omega arith)) in
      (g ∙ ap length closed, h ∙ ap (λ (x : Bytes). placed x used changed) closed ∙ behind)
