-- How many bytes a field takes at the least: a name, a colon and a newline, and where it has a value two more.
use Prim.Native.Nat.{ℕ, suc, ◌+◌, ◌≤◌, ◌<◌}
use native.Mathlib.Omega.{arith}
use mathlib.Core.Path.{◌≡◌, sym, ap, ◌∙◌}
use mathlib.Core.Bool.{Bool, true, false, false≢true}
use mathlib.Core.List.{List, [], ◌∷◌, ◌++◌, append-nil}
use mathlib.Core.Option.{Option, none, some, none-ne-some, some-injective}
use lib.ListN.{length, length-append}
use Rattle.format.specs.Bytes.{Bytes, is_blank, pick}
use Rattle.format.specs.Lists.{onward, is_filled}
use Rattle.format.specs.Lines.{Line, bytes, is_name, Form, after_colon, joins, cut}
use Rattle.format.specs.Pieces.{Piece, Mode, after, Reading, begins, at_end, read_from, take_line}
use Rattle.format.specs.Records.{count_of}
use Rattle.format.proofs.Whole.{alone, Sound}
use Rattle.format.proofs.Renaming.{sound-name, sound-starts, sound-reads}

name-some : (n : Bytes) → is_name n ≡ true → 0 < length n
name-some [] e = absurd (false≢true e)
name-some (c ∷ n) e = omega arith

head-size : (n t : Bytes) (l : Line) (ls : List Line) → l ≡ n ++ (58 ∷ t) → count_of (l ∷ ls) ≡ length n + (length t + (2 + length (bytes ls)))
head-size n t l ls e =
    let m : length l ≡ length n + length (58 ∷ t) = ap length e ∙ length-append n (58 ∷ t) in
    omega (arith, length-append l (10 ∷ bytes ls), m)

pub field-size : (n v : Bytes) (ls : List Line) → Sound (Piece.field n v ls) → 3 ≤ count_of ls
field-size n v ls h =
    let f = sound-starts n v ls h in
    omega (arith, ap count_of f.3, head-size n f.2 f.0 f.1 f.4, name-some n (sound-name n v ls h))

-- what stands behind the colon has one byte more than what the line adds to the value, if that is any
colon-size : (n t w : Bytes) → after_colon n t ≡ Form.field n w → 0 < length w → 1 < length t
colon-size n [] w e h = let q : [] ≡ w = cc in absurd (omega (arith, ap length q))
colon-size n (c ∷ s) w e h = go (is_blank c) e
  where
    go : (b : Bool) → pick b (Form.field n s) Form.fault ≡ Form.field n w → 1 < length (c ∷ s)
    go true q = let k : s ≡ w = cc in omega (arith, ap length k)
    go false q = absurd (let z : ◌≡◌ {A = ℕ} 0 1 = cc in omega arith)

-- of one line that adds nothing, the line behind the colon is the value
module _ (n v : Bytes) (filled : is_filled v ≡ true) (l : Line) where
  value_of : (w : Bytes) (ls : List Line) (r : Reading) → onward (take_line (Form.field n w) l) (some r) ≡ some (alone (Piece.field n v (l ∷ ls) ∷ [])) → Piece.field n (cut w ++ r.value) (l ∷ r.own) ∷ r.pieces ≡ Piece.field n v (l ∷ ls) ∷ []
  value_of w ls r e = ap (λ (y : Reading). y.pieces) (some-injective (begins (Piece.field n (cut w ++ r.value) (l ∷ r.own)) r) (alone (Piece.field n v (l ∷ ls) ∷ [])) e)

  cut-some : (w : Bytes) → cut w ≡ v → 0 < length w
  cut-some [] e = absurd (false≢true (ap is_filled e ∙ filled))
  cut-some (c ∷ w) e = omega arith

  one_line : (w : Bytes) (b : Bool) → onward (take_line (Form.field n w) l) (at_end (pick b Mode.joined Mode.opened)) ≡ some (alone (Piece.field n v (l ∷ []) ∷ [])) → 0 < length w
  one_line w true e = absurd (none-ne-some (alone (Piece.field n v (l ∷ []) ∷ [])) e)
  one_line w false e =
      let p = value_of w [] (record { value = []; own = []; pieces = [] }) e in
      let q : cut w ++ [] ≡ v = cc in
      cut-some w (sym (append-nil (cut w)) ∙ q)

  -- a field that has more lines and no blank behind the colon goes on with a plus line, which has a byte
  next-some : (k : Line) (ks : List Line) → onward (take_line (Form.field n []) l) (read_from Mode.opened (k ∷ ks)) ≡ some (alone (Piece.field n v (l ∷ k ∷ ks) ∷ [])) → 0 < length k
  next-some (c ∷ k) ks e = omega arith
  next-some [] ks e = absurd (go (read_from Mode.closed ks) e)
    where
      go : (x : Option Reading) → onward (take_line (Form.field n []) l) (onward (take_line Form.blank []) x) ≡ some (alone (Piece.field n v (l ∷ [] ∷ ks) ∷ [])) → ⊥
      go none q = none-ne-some (alone (Piece.field n v (l ∷ [] ∷ ks) ∷ [])) q
      go (some r) q =
          let p = value_of [] ([] ∷ ks) (begins (Piece.blank []) r) q in
          let z : ◌≡◌ {A = ℕ} (suc (suc (length r.pieces))) 1 = ap length p in
          omega arith

pub filled-size : (n v : Bytes) (ls : List Line) → is_filled v ≡ true → Sound (Piece.field n v ls) → 5 ≤ count_of ls
filled-size n v [] f s = let e = (sound-starts n v [] s).3 in absurd (let z : ◌≡◌ {A = ℕ} 0 1 = cc in omega arith)
filled-size n v (l ∷ []) f s =
    let h = sound-reads n v l [] s in
    let t : Bytes = h.0 in
    let w : Bytes = h.1 in
    omega (arith, head-size n t l [] h.2, name-some n (sound-name n v (l ∷ []) s), colon-size n t w h.3 (one_line n v f l w (joins w) h.4))
filled-size n v (l ∷ k ∷ ks) f s =
    let h = sound-reads n v l (k ∷ ks) s in
    go h.0 h.1 h.2 h.3 h.4
  where
    rest : length (bytes (k ∷ ks)) ≡ length k + suc (length (bytes ks))
    rest = length-append k (10 ∷ bytes ks)

    go : (t w : Bytes) → l ≡ n ++ (58 ∷ t) → after_colon n t ≡ Form.field n w → onward (take_line (Form.field n w) l) (read_from (after (Form.field n w)) (k ∷ ks)) ≡ some (alone (Piece.field n v (l ∷ k ∷ ks) ∷ [])) → 5 ≤ count_of (l ∷ k ∷ ks)
    go [] [] e q r = omega (arith, head-size n [] l (k ∷ ks) e, name-some n (sound-name n v (l ∷ k ∷ ks) s), next-some n v f l k ks r, rest)
    go [] (c ∷ w) e q r = absurd (let z : ◌≡◌ {A = Bytes} [] (c ∷ w) = cc in let y : ◌≡◌ {A = ℕ} 0 (suc (length w)) = ap length z in omega arith)
    go (c ∷ t) w e q r = omega (arith, head-size n (c ∷ t) l (k ∷ ks) e, name-some n (sound-name n v (l ∷ k ∷ ks) s), rest)
