-- A part of an array is written: what was written stands there, and what stands before it is as it was.
use Prim.Native.Nat.{ℕ, ◌-◌, ◌≤◌}
use native.Mathlib.Omega.{arith}
use mathlib.Core.Path.{◌≡◌, sym, ap, ◌∙◌}
use mathlib.Core.List.{List, ◌++◌}
use lib.ListN.{length, take, drop}
use lib.Seq.{take_at, drop_at, length-take-le, take-take}
use borrow.Rule.Slice.PartMut.{put_mid, post_of, same_len_mid, mid_len, take_put}
use Rattle.words.specs.Spans.{span}
use Rattle.records.proofs.Steps.{drop-take}

-- a part of a list's front
pub front-span : (n a e : ℕ) (l : List ℕ) → e ≤ n → span a e (take n l) ≡ span a e l
front-span n a e l h =
    let m : e - a ≤ n - a = omega arith in
    ap (take (e - a)) (drop-take a n l) ∙ take-take (e - a) (n - a) (drop a l) m

module _ (a e : ℕ) (l x : List ℕ) (order : a ≤ e) (inside : e ≤ length l) (long : length x ≡ e - a) where
  abbrev pub put : List ℕ
  put = put_mid a (e - a) l x

  pub put-length : length put ≡ length l
  put-length = same_len_mid a (e - a) l x (long ∙ sym (mid_len a e l inside))

  pub put-here : span a e put ≡ x
  put-here =
      ap (take (e - a)) (drop_at (take a l) (x ++ post_of a (e - a) l) a (length-take-le a l (omega arith)))
      ∙ take_at x (post_of a (e - a) l) (e - a) long

  pub put-before : (b f : ℕ) → f ≤ a → span b f put ≡ span b f l
  put-before b f h = sym (front-span a b f put h) ∙ ap (span b f) (take_put a (e - a) l x (omega arith)) ∙ front-span a b f l h
