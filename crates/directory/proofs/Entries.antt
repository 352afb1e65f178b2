-- The entries of a readable text, one after another: where each is looked for, and how many there are.
use Rattle.std.specs.Prelude.{◌≡◌, ℕ, zero, suc, ◌+◌, ◌-◌, ◌<◌, ◌≤◌, Bool, true, List, [], ◌∷◌, map, length, get_or, take, drop, Option, Some, None}
use native.Mathlib.Omega.{arith}
use mathlib.Core.Path.{refl, sym, ap, ◌∙◌, subst}
use lib.ListN.{length-drop}
use lib.Seq.{drop-cons}
use Rattle.format.specs.Bytes.{Bytes, pick}
use Rattle.format.specs.Pieces.{Piece, read_of}
use Rattle.format.specs.Records.{count_of}
use Rattle.format.specs.Calls.{lead, from_first}
use Rattle.format.specs.declared.Entry.{Entry}
use Rattle.lines.proofs.Cuts.{rest}
use Rattle.records.specs.Places.{is_readable, Placed, size_in, places_of}
use Rattle.records.specs.Sets.{set_end, leading, set_at, first_set}
use Rattle.records.specs.declared.MemberRun.{MemberRun}
use Rattle.records.specs.declared.RecordSet.{RecordSet}
use Rattle.records.proofs.Shifts.{raise}
use Rattle.records.proofs.Walks.{size-append, size-piece}
use Rattle.records.proofs.Readings.{readable-reads, reads-length, places-read}
use Rattle.records.proofs.FirstPlaces.{lead-first}
use Rattle.records.proofs.Searches.{places-all}
use Rattle.records.proofs.Members.{stands}
use Rattle.directory.specs.Blocks.{block_from, no_entry, entry_on, next_entry, list_in, entry_in, start_in}
use Rattle.directory.proofs.Walks.{head_entry, head_on, directory-walk}
use Rattle.directory.proofs.Blocks.{block_at}
use Rattle.directory.proofs.Heads.{heads_at, heads-met, HeadFirst, first-raised, Begins, heads-past, Next, next-met}

-- the first entry, and those behind it
module _ (s : Bytes) where
  abbrev default : MemberRun → Entry
  default m = record { place = 0; count = m.count; end = m.end }

  list-is : list_in s ≡ default (leading (places_of s)) ∷ heads_at s 0
  list-is = directory-walk (read_of s) ∙ ap {B = List Entry} (λ (ps : List Placed). default (leading ps) ∷ heads_at s 0) (sym (places-read s))

  pub list-some : 1 ≤ length (list_in s)
  list-some = omega (arith, ap length list-is)

  pub first_entry : (m : MemberRun) → m ≡ leading (places_of s) → default m ≡ entry_in s 0
  first_entry m e = ap default e ∙ sym (ap (λ (es : List Entry). get_or es 0 no_entry) list-is)

  module _ (e : is_readable s ≡ true) where
    pub begins-first : (m : MemberRun) → m ≡ leading (places_of s) → Begins s m.end (drop 1 (list_in s))
    begins-first m h =
        subst (λ (n : ℕ). Begins s n (drop 1 (list_in s))) (sym (ap (λ (x : MemberRun). x.end) h))
        (subst (Begins s (set_end 0 (places_of s))) (sym (ap (drop 1) list-is)) (heads-past s 0 (places_of s) (stands s e) (places-all s) (omega arith) e))

    pub next-entry : (k at : ℕ) → Begins s at (drop k (list_in s)) → k < length (list_in s) → Next s at (entry_in s k) (drop (suc k) (list_in s))
    next-entry k at b h = next-met s at (entry_in s k) (drop (suc k) (list_in s)) (subst (Begins s at) (drop-cons (list_in s) k no_entry h) b)

    begins-on : (k : ℕ) → suc k ≤ length (list_in s) → Begins s (start_in s (suc k)) (drop (suc k) (list_in s))
    begins-on zero h = subst (λ (x : Entry). Begins s x.end (drop 1 (list_in s))) (first_entry (leading (places_of s)) refl) (begins-first (leading (places_of s)) refl)
    begins-on (suc k) h = (next-entry (suc k) (start_in s (suc k)) (begins-on k (omega arith)) h).behind

    begins-at : (k : ℕ) → (k ≡ 0 → ⊥) → k < length (list_in s) → Begins s (start_in s k) (drop k (list_in s))
    begins-at zero n h = absurd (n refl)
    begins-at (suc k) n h = begins-on k (omega arith)

-- the same of a byte that is known to be that
pub entry-begins : (s : Bytes) → is_readable s ≡ true → (k at : ℕ) → (k ≡ 0 → ⊥) → k < length (list_in s) → at ≡ start_in s k → Begins s at (drop k (list_in s))
entry-begins s e k at n h a = subst (λ (i : ℕ). Begins s i (drop k (list_in s))) (sym a) (begins-at s e k n h)

-- a block begins not behind what stands before its first field
block_within : (start at : ℕ) (ps : List Piece) → start ≤ at → block_from start at ps ≤ at + size_in (lead ps)
unfolding block_from
block_within start at [] h = omega arith
block_within start at (Piece.blank l ∷ ps) h = let k : ℕ = at + count_of (l ∷ []) in omega (arith, block_within k k ps (omega arith), size-piece (Piece.blank l) (lead ps))
block_within start at (Piece.comment l ∷ ps) h = let k : ℕ = at + count_of (l ∷ []) in omega (arith, block_within start k ps (omega arith), size-piece (Piece.comment l) (lead ps))
block_within start at (Piece.field n v ls ∷ ps) h = omega arith

-- the next entry of the part from byte `at` on begins inside
pub place_inside : (s : Bytes) (at : ℕ) → at ≤ length s → is_readable (drop at s) ≡ true → at + (next_entry (drop at s)).place ≤ length s
unfolding next_entry
place_inside s at h e = go (first_set (places_of t))
  where
    t : Bytes
    t = drop at s

    ps : List Piece
    ps = read_of t

    within : block_from 0 0 ps ≤ length t
    within = omega (arith, block_within 0 0 ps (omega arith), size-append (lead ps) (from_first ps), ap size_in (lead-first ps), reads-length (readable-reads t e))

    go : (x : Option RecordSet) → at + (entry_on (block_from 0 0 ps) x).place ≤ length s
    go None = omega (arith, h)
    go (Some q) = omega (arith, within, length-drop at s)

-- what the search for the next set tells, once its form is known

is_at : Option RecordSet → ℕ
is_at None = 0
is_at (Some q) = 1

module _ (s : Bytes) (at : ℕ) (es : List Entry) (b : Begins s at es) where
  found_none : (xs : List Placed) → places_of (drop at s) ≡ xs → HeadFirst xs → first_set xs ≡ None → es ≡ []
  unfolding first_set is_at
  found_none [] q d f = sym b.heads ∙ heads-met s at [] b.readable (ap (map (raise at)) q)
  found_none (p ∷ ps) q d f = absurd (let z : ◌≡◌ {A = ℕ} 0 1 = ap is_at (sym f ∙ ap (λ (t : Bool). pick t (Some (set_at p ps)) (first_set ps)) d) in omega arith)

  found_some : (xs : List Placed) → places_of (drop at s) ≡ xs → HeadFirst xs → (q : RecordSet) → first_set xs ≡ Some q → (e : Entry) × (later : List Entry) × (es ≡ e ∷ later)
  unfolding first_set is_at
  found_some [] q d x f = absurd (let z : ◌≡◌ {A = ℕ} 0 1 = ap is_at f in omega arith)
  found_some (p ∷ ps) q d x f =
      let e : Entry = head_entry (block_at s at at) (at + p.after) (map (raise at) ps) in
      let later : List Entry = heads_at s (at + p.after) in
      (e, later, sym b.heads ∙ heads-met s at (map (raise at) (p ∷ ps)) b.readable (ap (map (raise at)) q) ∙ ap (λ (t : Bool). head_on t e later) d)

  module _ (x : Option RecordSet) (e : x ≡ first_set (places_of (take (length s - at) (drop at s)))) where
    found-is : first_set (places_of (drop at s)) ≡ x
    found-is = sym (ap (λ (t : Bytes). first_set (places_of t)) (rest s at)) ∙ sym e

    pub set-none : x ≡ None → es ≡ []
    set-none f = found_none (places_of (drop at s)) refl (first-raised at (places_of (drop at s)) b.first) (found-is ∙ f)

    pub set-some : (q : RecordSet) → x ≡ Some q → (y : Entry) × (later : List Entry) × (es ≡ y ∷ later) × (y.end ≡ at + q.after)
    unfolding next_entry
    set-some q f =
        let y = found_some (places_of (drop at s)) refl (first-raised at (places_of (drop at s)) b.first) q (found-is ∙ f) in
        let n : Next s at y.0 y.1 = next-met s at y.0 y.1 (subst (Begins s at) y.2 b) in
        (y.0, y.1, y.2, ap (λ (z : Entry). z.end) n.is ∙ ap (λ (z : Option RecordSet). at + (entry_on (block_from 0 0 (read_of (drop at s))) z).end) (found-is ∙ f))

-- The sets counted: n entries are behind byte i, and those from there on are left.
pub record Counted (s : Bytes) (n i : ℕ) : Type 0 where
  pub begins : Begins s i (drop n (list_in s))
  pub some : 1 ≤ n
  pub within : n ≤ length (list_in s)
  pub few : n ≤ i + 1

module _ (s : Bytes) (e : is_readable s ≡ true) where
  pub counted-first : (m : MemberRun) → m ≡ leading (places_of s) → Counted s 1 m.end
  counted-first m h = record { begins = begins-first s e m h; some = omega arith; within = list-some s; few = omega arith }

  module _ (n i : ℕ) (c : Counted s n i) (x : Option RecordSet) (h : x ≡ first_set (places_of (take (length s - i) (drop i s)))) where
    pub counted-all : x ≡ None → n ≡ length (list_in s)
    counted-all f = omega (arith, length-drop n (list_in s), ap length (set-none s i (drop n (list_in s)) c.begins x h f), c.within)

    module _ (q : RecordSet) (f : x ≡ Some q) where
      left : n < length (list_in s)
      left = let y = set-some s i (drop n (list_in s)) c.begins x h q f in omega (arith, length-drop n (list_in s), ap length y.2)

      next : Next s i (entry_in s n) (drop (suc n) (list_in s))
      next = next-entry s e n i c.begins left

      ends : (entry_in s n).end ≡ i + q.after
      ends =
          let y = set-some s i (drop n (list_in s)) c.begins x h q f in
          let both : entry_in s n ∷ drop (suc n) (list_in s) ≡ y.0 ∷ y.1 = sym (drop-cons (list_in s) n no_entry left) ∙ y.2 in
          let same : entry_in s n ≡ y.0 = cc in
          ap (λ (z : Entry). z.end) same ∙ y.3

      pub counted-inside : i + q.after ≤ length s
      counted-inside = subst (λ (k : ℕ). k ≤ length s) ends next.behind.inside

      pub counted-moves : i < i + q.after
      counted-moves = subst (λ (k : ℕ). i < k) ends next.moves

      pub counted-on : Counted s (n + 1) (i + q.after)
      counted-on = let one : suc n ≡ n + 1 = omega arith in record {
        begins = subst (λ (k : ℕ). Begins s (i + q.after) (drop k (list_in s))) one (subst (λ (k : ℕ). Begins s k (drop (suc n) (list_in s))) ends next.behind);
        some = omega arith;
        within = omega (arith, left);
        few = omega (arith, c.few, counted-moves);
      }
