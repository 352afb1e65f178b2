-- A walk that enters the values at a name: n are entered, those of the fields from byte i on are to come.
use Prim.Native.Nat.{ℕ, ◌+◌, ◌≤◌, ◌<◌}
use native.Mathlib.Omega.{arith}
use mathlib.Core.Path.{◌≡◌, refl, sym, ap, ◌∙◌, subst}
use mathlib.Core.Bool.{true}
use mathlib.Core.List.{List, [], ◌∷◌, ◌++◌, append_assoc, append-nil}
use lib.ListN.{length, take, drop, set, length-set}
use Rattle.format.specs.Bytes.{Bytes}
use Rattle.format.specs.Rules.{distinct}
use Rattle.format.specs.Sets.{values_of}
use Rattle.values.specs.Value.{value_from}
use Rattle.words.specs.Spans.{span}
use Rattle.records.specs.Places.{is_readable}
use Rattle.records.specs.Walk.{record_in}
use Rattle.records.specs.Named.{values_from, ValueHere}
use Rattle.keys.specs.Marks.{marks_of, Inside}
use Rattle.keys.specs.Keys.{entry_of, key_at, keys_of, IsEntry, Entries}
use Rattle.keys.proofs.Prints.{entry_key, entry-is, entries-inside, entries-front, entries_none, entries-more, keys-more, marks-keys}
use Rattle.keys.specs.Gathered.{Gathered}

pub record Enters (w s : Bytes) (entries : List ℕ) (n i : ℕ) : Type 0 where
  pub inside : i ≤ length s
  pub readable : is_readable (drop i s) ≡ true
  pub room : n + length (values_from s w i) ≤ length entries
  pub entered : Entries s n entries
  pub all : keys_of s (take n entries) ++ values_from s w i ≡ values_from s w 0

pub enters-start : (w s : Bytes) (l : List ℕ) → is_readable s ≡ true → length (values_from s w 0) ≤ length l → Enters w s l 0 0
enters-start w s l e h = record { inside = omega arith; readable = e; room = omega arith; entered = entries_none s l; all = refl }

module _ (w s : Bytes) (entries : List ℕ) (n i : ℕ) (g : Enters w s entries n i) where
  pub enters-end : values_from s w i ≡ [] → Gathered w s entries n
  enters-end e =
      record {
        room = omega (arith, g.room);
        entered = g.entered;
        all = sym (append-nil (keys_of s (take n entries))) ∙ ap (λ (vs : List Bytes). keys_of s (take n entries) ++ vs) (sym e) ∙ g.all;
      }

  module _ (v e : ℕ) (f : ValueHere s w i v e) where
    pub enters-room : n < length entries
    enters-room = omega (arith, g.room, ap length f.values)

    -- one value more
    pub enters-more : (x : ℕ) → length s ≤ 65536 → x ≡ entry_of v (value_from (drop v s)) → Enters w s (set entries n x) (n + 1) e
    enters-more x short y =
        let low : v < 65536 = omega (arith, f.value_there) in
        let key : key_at s x ≡ value_from (span v e s) = ap (key_at s) y ∙ entry_key s v low ∙ f.ends-itself in
        let later : List Bytes = values_from s w e in
        record {
          inside = f.inside;
          readable = f.readable;
          room = omega (arith, g.room, ap length f.values, length-set entries n x);
          entered = entries-more s entries n x enters-room g.entered (subst (IsEntry s) (sym y) (entry-is s v low (omega (arith, f.value_there))));
          all =
              ap (λ (ks : List Bytes). ks ++ later) (keys-more s entries n x enters-room)
              ∙ append_assoc (keys_of s (take n entries)) (key_at s x ∷ []) later
              ∙ ap (λ (k : Bytes). keys_of s (take n entries) ++ (k ∷ later)) key
              ∙ ap (λ (ks : List Bytes). keys_of s (take n entries) ++ ks) (sym f.values)
              ∙ g.all;
        }

-- what was gathered is inside, and distinct where the values are
pub gathered-inside : {w s : Bytes} {l : List ℕ} {n : ℕ} → Gathered w s l n → Inside s n l
gathered-inside {w} {s} {l} {n} h = entries-inside s n l h.entered

pub gathered-distinct : {w s : Bytes} {l : List ℕ} {n : ℕ} → Gathered w s l n → distinct (marks_of s (take n l)) ≡ distinct (values_of w (record_in s))
gathered-distinct {w} {s} {l} {n} h = marks-keys s (take n l) (entries-front s l n h.room h.entered) ∙ ap distinct h.all
