-- Room for a record, and what is put there.
use Prim.Native.Nat.{ℕ, ◌+◌, ◌≤◌, ◌<◌}
use native.Mathlib.Omega.{arith}
use mathlib.Core.Path.{◌≡◌, refl, sym, ap, ◌∙◌, subst}
use mathlib.Core.Bool.{Bool, true, false, ◌&&◌, and-false, and-eq-true_iff}
use lib.Dec.{leb}
use lib.ListN.{length, take, length-append}
use lib.Seq.{length-take-le}
use borrow.Author.Tests.{lt-leb, leb-true, eq-eqb, ne_eqb}
use Rattle.format.specs.Bytes.{Bytes, pick}
use Rattle.format.specs.Limits.{file_bytes}
use Rattle.format.specs.Written.{written_all}
use Rattle.format.specs.Calls.{placed}
use Rattle.format.specs.declared.refusals.Question.{Question}
use Rattle.format.specs.declared.refusals.Refusal.{Refusal}
use Rattle.requests.specs.Pairs.{pairs_at}
use Rattle.splices.specs.Space.{inserted, record_text}
use Rattle.numbering.specs.declared.Added.{Added}
use Rattle.edits.specs.Splices.{made_len}
use Rattle.edits.proofs.Sizes.{made-least, inserted-length}
use Rattle.merging.specs.Appending.{is_room_for}
use Rattle.merging.specs.Texts.{OwnInside, PutIf, PutBy}
use Rattle.merging.specs.declared.inserts.Inserted.{Inserted}

pub room-over : (room used n : ℕ) → file_bytes < n → false ≡ is_room_for room (made_len used n)
room-over room used n h = sym (ap (λ (b : Bool). leb (made_len used n) room && b) (lt-leb (made_len used n) file_bytes (omega (arith, made-least used n, h))) ∙ and-false (leb (made_len used n) room))

module _ (room used n m f : ℕ) (r : Bool) (e : r ≡ (leb f room && leb f file_bytes)) (g : f ≡ m) where
  fits-as : (k : ℕ) → m ≡ k → r ≡ is_room_for room k
  fits-as k h = e ∙ ap (is_room_for room) (g ∙ h)

  pub room-alone : used ≡ 0 → m ≡ n → r ≡ is_room_for room (made_len used n)
  room-alone z h = fits-as (made_len used n) (h ∙ sym (ap (λ (b : Bool). pick b n (used + n + 1)) (eq-eqb used 0 z)))

  pub room-behind : (used ≡ 0 → ⊥) → m ≡ used + n + 1 → r ≡ is_room_for room (made_len used n)
  room-behind z h = fits-as (made_len used n) (h ∙ sym (ap (λ (b : Bool). pick b n (used + n + 1)) (ne_eqb used 0 z)))

-- what is put, by the fields that a record gets
module _ (before : Bytes) (used room at len : ℕ) (request added : Bytes) (a : Added) where
  pub put-numberless : a ≡ Added.Numberless → PutBy before used room at len request added before a (Inserted.Refused Refusal.Numberless)
  put-numberless e = subst (λ (y : Added). PutBy before used room at len request added before y (Inserted.Refused Refusal.Numberless)) (sym e) (refl, refl)

  module _ (own : ℕ) (b : Bool) (w : b ≡ is_room_for room (made_len used (own + len))) where
    pub put-long : a ≡ Added.Long own → (t : Bool) → b ≡ t → PutBy before used room at len request added before a (Inserted.Refused (pick t (Refusal.Result Question.Limit) Refusal.Large))
    put-long e t h = subst (λ (y : Added). PutBy before used room at len request added before y (Inserted.Refused (pick t (Refusal.Result Question.Limit) Refusal.Large))) (sym e) (ap (λ (x : Bool). Inserted.Refused (pick x (Refusal.Result Question.Limit) Refusal.Large)) (sym h ∙ w), refl)

    pub put_full : a ≡ Added.Text own → b ≡ false → PutBy before used room at len request added before a (Inserted.Refused Refusal.Large)
    put_full e h =
        let made : Bytes = inserted (take used before) at (record_text (take own added) request 0) in
        subst (λ (y : Added). PutBy before used room at len request added before y (Inserted.Refused Refusal.Large)) (sym e) (subst (λ (x : Bool). PutIf x before used made before (Inserted.Refused Refusal.Large)) (sym h ∙ w) (refl, refl))

    pub put-done : a ≡ Added.Text own → b ≡ true → (n : ℕ) (after : Bytes) → n ≡ length (inserted (take used before) at (record_text (take own added) request 0)) → after ≡ placed (inserted (take used before) at (record_text (take own added) request 0)) used before
        → PutBy before used room at len request added after a (Inserted.Grown n)
    put-done e h n after l p =
        let made : Bytes = inserted (take used before) at (record_text (take own added) request 0) in
        subst (λ (y : Added). PutBy before used room at len request added after y (Inserted.Grown n)) (sym e) (subst (λ (x : Bool). PutIf x before used made after (Inserted.Grown n)) (sym h ∙ w) (ap (λ (k : ℕ). Inserted.Grown k) l, p))

    -- the record's text, and that of all
    module _ (inside : own ≤ length added) (is : len ≡ length (written_all (pairs_at request 0))) where
      pub text-length : own + len ≡ length (record_text (take own added) request 0)
      text-length = omega (arith, is, length-take-le own added inside, length-append (take own added) (written_all (pairs_at request 0)))

      pub made-length : at ≤ used → used ≤ length before → length (inserted (take used before) at (record_text (take own added) request 0)) ≡ made_len used (own + len)
      made-length l k =
          let u : length (take used before) ≡ used = length-take-le used before k in
          inserted-length (take used before) at (record_text (take own added) request 0) (omega (arith, u, l)) ∙ (λ i. made_len (u i) (sym text-length i))

      pub made-fits : b ≡ true → at ≤ used → used ≤ length before → length (inserted (take used before) at (record_text (take own added) request 0)) ≤ file_bytes
      made-fits h l k =
          let m : ℕ = made_len used (own + len) in
          omega (arith, made-length l k, leb-true m file_bytes ((and-eq-true_iff (leb m room) (leb m file_bytes)).0 (sym w ∙ h)).1)

      pub own-short : b ≡ true → own + len ≤ file_bytes
      own-short h =
          let m : ℕ = made_len used (own + len) in
          omega (arith, made-least used (own + len), leb-true m file_bytes ((and-eq-true_iff (leb m room) (leb m file_bytes)).0 (sym w ∙ h)).1)

pub own-inside : (added : Bytes) (a : Added) (own : ℕ) → OwnInside added a → a ≡ Added.Text own → own ≤ length added
own-inside added a own h e = subst (OwnInside added) e h
