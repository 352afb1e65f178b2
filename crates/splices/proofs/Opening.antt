-- What the two ways through `open_space` leave has room, and a text laid into the room makes the buffer that holds the changed text.
use Prim.Native.Nat.{ℕ, ◌+◌, ◌-◌, ◌≤◌, ◌<◌, max}
use native.Mathlib.Omega.{arith}
use mathlib.Core.Path.{◌≡◌, refl, sym, ap, ◌∙◌}
use mathlib.Core.List.{[], ◌++◌, append_assoc, append-nil}
use lib.ListN.{length, take, drop, replicate, length-drop, length-replicate, take-append-drop, drop_of_length-le}
use lib.Seq.{paste, take-paste, drop-paste, length-paste, take-take, take-append-le, take_all, drop_at, drop-drop, length-take-le}
use borrow.Rule.Slice.PartMut.{put_mid, mid_of, post_of, same_len_mid, mid_len}
use Rattle.format.specs.Bytes.{Bytes}
use Rattle.format.specs.Calls.{over, placed}
use Rattle.format.proofs.Splices.{spliced-length as replaced-length}
use Rattle.records.proofs.Steps.{drop-take}
use Rattle.splices.specs.Space.{spliced, behind, Opened}

-- the buffer by its parts: the first bytes as they were, then all that stands behind the room
opened : (b : Bytes) (used at old new : ℕ) (b' : Bytes) → at + new ≤ length b → length b' ≡ length b → b' ≡ take (at + new) b ++ behind b used at old new → Opened b used at old new b'
opened b used at old new b' room l e =
    let k : length (take (at + new) b) ≡ at + new = length-take-le (at + new) b room in record {
      same = l;
      before = ap (take at) e ∙ take-append-le at (take (at + new) b) (behind b used at old new) (omega arith) ∙ take-take at (at + new) b (omega arith);
      after = ap (drop (at + new)) e ∙ drop_at (take (at + new) b) (behind b used at old new) (at + new) k;
    }

-- the text's tail at its new place, and where it ends there
abbrev pub shifted : Bytes → ℕ → ℕ → ℕ → ℕ → Bytes
shifted b used at old new = paste b (at + new) (drop (at + old) b) (used - (at + old))

abbrev pub end : ℕ → ℕ → ℕ → ℕ → ℕ
end used at old new = at + new + (used - (at + old))

module _ (b : Bytes) (used at old new : ℕ) (inside : at + old ≤ used) (fits : used ≤ length b) (room : (used - old) + new ≤ length b) where
  tail-fits : used - (at + old) ≤ length (drop (at + old) b)
  tail-fits = simp length-drop (omega arith)

  shifted-length : length (shifted b used at old new) ≡ length b
  shifted-length = length-paste b (at + new) (drop (at + old) b) (used - (at + old)) (omega arith) tail-fits

  pub opened_up : at + old < at + new → Opened b used at old new (shifted b used at old new)
  opened_up more =
      let z : old - new ≡ 0 = omega arith in
      let e : end used at old new ≡ max used ((used - old) + new) = omega arith in
      opened b used at old new (shifted b used at old new) (omega arith) shifted-length (rw (z, e) (append_assoc (take (at + new) b) _ _))

  -- the bytes from the tail's end to the old one are cleared
  pub opened-down : at + new ≤ at + old → (zeros : Bytes)
      → zeros ≡ replicate (length (mid_of (end used at old new) (used - end used at old new) (shifted b used at old new))) 0
      → Opened b used at old new (put_mid (end used at old new) (used - end used at old new) (shifted b used at old new) zeros)
  opened-down less zeros h =
      let e : ℕ = end used at old new in
      let s : Bytes = shifted b used at old new in
      let tail : Bytes = take (used - (at + old)) (drop (at + old) b) in
      let n : length (mid_of e (used - e) s) ≡ old - new = mid_len e used s (omega (arith, shifted-length)) ∙ omega arith in
      let z : zeros ≡ replicate (old - new) 0 = rw n at h in
      let l : length zeros ≡ length (mid_of e (used - e) s) = ap length h ∙ length-replicate (length (mid_of e (used - e) s)) 0 in
      let t : take e s ≡ take (at + new) b ++ tail = take-paste b (at + new) (drop (at + old) b) (used - (at + old)) (omega arith) tail-fits in
      let d : drop e s ≡ drop e b = drop-paste b (at + new) (drop (at + old) b) (used - (at + old)) (omega arith) tail-fits in
      let m : e + (used - e) ≡ max used ((used - old) + new) = omega arith in
      opened b used at old new (put_mid e (used - e) s zeros) (omega arith) (same_len_mid e (used - e) s zeros l ∙ shifted-length)
      (rw (t, d, z, drop-drop, m) (append_assoc (take (at + new) b) tail _))

-- what a callee laid over the lent part `&mut b[at..]`
pub over-part : (b t : Bytes) (at k : ℕ) → at ≤ length b → k ≡ length b - at → put_mid at k b (over t (mid_of at k b)) ≡ take at b ++ over t (drop at b)
over-part b t at k h e =
    let m : mid_of at k b ≡ drop at b = take_all k (drop at b) (simp length-drop (omega arith)) in
    let p : post_of at k b ≡ [] = drop_of_length-le (drop at b) {i = k} (simp length-drop (omega arith)) in
    rw (m, p, append-nil)

pub spliced-length : (b : Bytes) (used at old : ℕ) (t : Bytes) → at + old ≤ used → used ≤ length b → length (spliced (take used b) at old t) ≡ (used - old) + length t
spliced-length b used at old t inside fits =
    let u : length (take used b) ≡ used = length-take-le used b fits in
    replaced-length (take used b) at (at + old) t (omega arith) (omega arith) ∙ omega arith

-- a text laid into the room: the buffer holds the changed text
pub placed-spliced : (b : Bytes) (used at old new : ℕ) (b' t : Bytes) → at + old ≤ used → used ≤ length b → length t ≡ new → Opened b used at old new b'
    → take at b' ++ over t (drop at b') ≡ placed (spliced (take used b) at old t) used b
placed-spliced b used at old new b' t inside fits l o =
    let s : Bytes = take used b in
    let tail : Bytes = take (used - (at + old)) (drop (at + old) b) in
    let rest : Bytes = replicate (old - new) 0 ++ drop (max used ((used - old) + new)) b in
    let f : take at s ≡ take at b = take-take at used b (omega arith) in
    let k : drop (at + old) s ≡ tail = drop-take (at + old) used b in
    let n : length (spliced s at old t) ≡ (used - old) + new = spliced-length b used at old t inside fits ∙ omega arith in
    let z : used - ((used - old) + new) ≡ old - new = omega arith in
    rw (n, z, f, k, o.before, drop-drop, l, o.after, append_assoc (take at b)) (rw (append_assoc t tail rest))

-- a room of no bytes is closed: the buffer holds the text without what stood there
pub placed-cut : (b : Bytes) (used at old : ℕ) (b' : Bytes) → at + old ≤ used → used ≤ length b → Opened b used at old 0 b' → b' ≡ placed (spliced (take used b) at old []) used b
placed-cut b used at old b' h k o = sym (take-append-drop at b') ∙ placed-spliced b used at old 0 b' [] h k refl o
