-- The entries from a byte of a file on, record by record: those of a part go on behind each record, and where the records of a set end they go on with the next descriptor's.
use Rattle.records.specs.declared.RecordSet.{RecordSet}
use Rattle.std.specs.Prelude.{◌≡◌, ℕ, suc, ◌+◌, ◌<◌, ◌≤◌, Bool, true, false, List, [], ◌∷◌, ◌++◌, map, length, drop, Option, Some}
use native.Mathlib.Omega.{arith}
use mathlib.Core.Path.{refl, sym, ap, ◌∙◌, subst}
use lib.Seq.{drop-drop}
use Rattle.format.specs.Bytes.{Bytes, pick}
use Rattle.format.specs.Pieces.{Piece, read_of}
use Rattle.format.specs.Records.{Block, blocks}
use Rattle.format.specs.Calls.{lead, from_first}
use Rattle.format.specs.declared.Entry.{Entry}
use Rattle.records.specs.Places.{is_readable, Placed, size_in, places_in, places_of, is_descriptor, count_before}
use Rattle.records.specs.Sets.{set_end, set_at, first_set}
use Rattle.records.specs.Walk.{until_blank, from_blank}
use Rattle.records.proofs.Shifts.{raise, places-raised}
use Rattle.records.proofs.Walks.{placed_run, places_run, places-walk}
use Rattle.records.proofs.Readings.{Reads, reads_of, readable-reads, reads-drop, places-read}
use Rattle.records.proofs.FirstPlaces.{lead-first, until-from}
use Rattle.records.proofs.Searches.{places_at}
use Rattle.records.proofs.Members.{Stands, stands_at}
use Rattle.records.proofs.SetEnds.{end-raised}
use Rattle.directory.specs.Blocks.{block_from, entry_on, next_entry, raise_entry}
use Rattle.directory.proofs.Walks.{head_entry, head_on, heads_in, heads_run, heads-walk, block-raised}
use Rattle.directory.proofs.Blocks.{block_at}

-- the entries of the descriptors from byte i on
abbrev pub heads_at : Bytes → ℕ → List Entry
heads_at s i = heads_in i (blocks (read_of (drop i s)))

-- the places of the part from byte i on
places-at : (s : Bytes) (i : ℕ) → places_at s i ≡ places_in i (blocks (read_of (drop i s)))
places-at s i = ap (map (raise i)) (places-read (drop i s)) ∙ sym (places-raised i 0 (blocks (read_of (drop i s)))) ∙ ap (λ (n : ℕ). places_in n (blocks (read_of (drop i s)))) (omega arith)

abbrev pub HeadsBy : Bytes → ℕ → List Placed → Type 0
HeadsBy s i [] = heads_at s i ≡ []
HeadsBy s i (p ∷ ps) = heads_at s i ≡ head_on (is_descriptor p) (head_entry (block_at s i i) p.after ps) (heads_at s p.after)

-- behind the first record, which pieces begin with
heads-by : (s : Bytes) (i : ℕ) (b k : ℕ) (a q : List Piece) → i + size_in a ≡ k → Reads (drop i s) (a ++ q) → heads_at s i ≡ heads_run b k q → b ≡ block_at s i i → HeadsBy s i (places_run k q)
heads-by s i b k a [] e r h f = h
heads-by s i b k a (p ∷ ps) e r h f =
    let q : List Piece = p ∷ ps in
    let u : Block = until_blank q in
    let w : List Piece = from_blank q in
    let rest : Reads (drop k s) q = subst (λ (t : Bytes). Reads t q) (drop-drop (size_in a) i s ∙ ap (λ (n : ℕ). drop n s) e) (reads-drop a q r (size_in a) refl) in
    let behind : Reads (drop (k + size_in u) s) w = subst (λ (t : Bytes). Reads t w) (drop-drop (size_in u) k s) (reads-drop u w (subst (Reads (drop k s)) (sym (until-from q)) rest) (size_in u) refl) in
    h ∙ ap (λ (n : ℕ). head_on (is_descriptor (placed_run k q)) (head_entry n (k + size_in u) (places_in (k + size_in u) (blocks w))) (heads_in (k + size_in u) (blocks w))) f
    ∙ ap (λ (x : List Piece). head_on (is_descriptor (placed_run k q)) (head_entry (block_at s i i) (k + size_in u) (places_in (k + size_in u) (blocks w))) (heads_in (k + size_in u) (blocks x))) (sym (reads_of behind))

pub heads-met : (s : Bytes) (i : ℕ) (xs : List Placed) → is_readable (drop i s) ≡ true → places_at s i ≡ xs → HeadsBy s i xs
heads-met s i xs e h =
    let ps : List Piece = read_of (drop i s) in
    let r : Reads (drop i s) (lead ps ++ from_first ps) = subst (Reads (drop i s)) (sym (lead-first ps)) (readable-reads (drop i s) e) in
    subst (HeadsBy s i) (sym (places-at s i ∙ places-walk i ps) ∙ h) (heads-by s i (block_at s i i) (i + size_in (lead ps)) (lead ps) (from_first ps) refl r (heads-walk i ps) refl)

-- a list of places that begins with a descriptor, if with anything
abbrev pub HeadFirst : List Placed → Type 0
HeadFirst [] = Unit {0}
HeadFirst (p ∷ ps) = is_descriptor p ≡ true

-- a byte from which the entries of a part are looked for: no record stands between it and the next descriptor
pub record Begins (s : Bytes) (at : ℕ) (es : List Entry) : Type 0 where
  pub inside : at ≤ length s
  pub readable : is_readable (drop at s) ≡ true
  pub heads : heads_at s at ≡ es
  pub first : HeadFirst (places_at s at)

-- past the records before a descriptor
pub heads-past : (s : Bytes) (at : ℕ) (ps : List Placed) → Stands s ps → ps ≡ places_at s at → at ≤ length s → is_readable (drop at s) ≡ true → Begins s (set_end at ps) (heads_at s at)
unfolding set_end
heads-past s at [] h e i r = record { inside = i; readable = r; heads = refl; first = subst HeadFirst e tt }
heads-past s at (p ∷ ps) h e i r = go (is_descriptor p) refl (heads-met s at (p ∷ ps) r (sym e)) (heads-past s p.after ps h.2 h.1 h.0.inside h.0.readable)
  where
    go : (t : Bool) → is_descriptor p ≡ t → HeadsBy s at (p ∷ ps) → Begins s (set_end p.after ps) (heads_at s p.after) → Begins s (pick t at (set_end p.after ps)) (heads_at s at)
    go true d m b = record { inside = i; readable = r; heads = refl; first = subst HeadFirst e d }
    go false d m b = subst (Begins s (set_end p.after ps)) (sym (m ∙ ap (λ (t : Bool). head_on t (head_entry (block_at s at at) p.after ps) (heads_at s p.after)) d)) b

-- the next entry, and where the one behind it is looked for
pub record Next (s : Bytes) (at : ℕ) (e : Entry) (es : List Entry) : Type 0 where
  pub is : e ≡ raise_entry at (next_entry (drop at s))
  pub moves : at < e.end
  pub behind : Begins s e.end es

count-raised : (a : ℕ) (ps : List Placed) → count_before (map (raise a) ps) ≡ count_before ps
unfolding count_before
count-raised a [] = refl
count-raised a (p ∷ ps) = ap (λ (n : ℕ). pick (is_descriptor p) 0 (suc n)) (count-raised a ps)

head-raised : (s : Bytes) (at : ℕ) (p : Placed) (ps : List Placed) → places_of (drop at s) ≡ p ∷ ps → is_descriptor p ≡ true → head_entry (block_at s at at) (at + p.after) (map (raise at) ps) ≡ raise_entry at (next_entry (drop at s))
unfolding next_entry first_set
head-raised s at p ps q d =
    let qs : List Piece = read_of (drop at s) in
    let place : block_at s at at ≡ at + block_from 0 0 qs = ap (λ (n : ℕ). block_from n n qs) (omega arith) ∙ block-raised at 0 0 qs in
    let found : first_set (places_of (drop at s)) ≡ Some (set_at p ps) = ap first_set q ∙ ap (λ (t : Bool). pick t (Some (set_at p ps)) (first_set ps)) d in
    (λ i. record { place = place i; count = count-raised at ps i; end = end-raised at p.after ps i }) ∙ sym (ap (λ (x : Option RecordSet). raise_entry at (entry_on (block_from 0 0 qs) x)) found)

raised-low : (a : ℕ) (xs : List Placed) (p : Placed) (ps : List Placed) → map (raise a) xs ≡ p ∷ ps → a ≤ p.after
raised-low a [] p ps e = absurd (let z : ◌≡◌ {A = ℕ} 0 1 = cc in omega arith)
raised-low a (x ∷ xs) p ps e = let y : raise a x ≡ p = cc in omega (arith, ap (λ (q : Placed). q.after) y)

-- the end of a set's records is not before they begin
end_low : (s : Bytes) (at : ℕ) (ps : List Placed) → Stands s ps → ps ≡ places_at s at → at ≤ set_end at ps
unfolding set_end
end_low s at [] h e = omega arith
end_low s at (p ∷ ps) h e = go (is_descriptor p) (end_low s p.after ps h.2 h.1)
  where
    low : at ≤ p.after
    low = raised-low at (places_of (drop at s)) p ps (sym e)

    go : (t : Bool) → p.after ≤ set_end p.after ps → at ≤ pick t at (set_end p.after ps)
    go true k = omega arith
    go false k = omega (arith, low)

next-by : (s : Bytes) (at : ℕ) (xs : List Placed) → at ≤ length s → is_readable (drop at s) ≡ true → places_of (drop at s) ≡ xs → HeadFirst xs → (e : Entry) (es : List Entry) → heads_at s at ≡ e ∷ es → Next s at e es
next-by s at [] i r q d e es h = absurd (let z : ◌≡◌ {A = ℕ} (suc (length es)) 0 = ap length (sym h ∙ heads-met s at [] r (ap (map (raise at)) q)) in omega arith)
next-by s at (p ∷ ps) i r q d e es h =
    let p' : Placed = raise at p in
    let ps' : List Placed = map (raise at) ps in
    let there : places_at s at ≡ p' ∷ ps' = ap (map (raise at)) q in
    let both : e ∷ es ≡ head_entry (block_at s at at) p'.after ps' ∷ heads_at s p'.after = sym h ∙ heads-met s at (p' ∷ ps') r there ∙ ap (λ (t : Bool). head_on t (head_entry (block_at s at at) p'.after ps') (heads_at s p'.after)) d in
    let here : e ≡ head_entry (block_at s at at) p'.after ps' = cc in
    let rest : heads_at s p'.after ≡ es = cc in
    let st : Stands s (p' ∷ ps') = stands_at s (p' ∷ ps') at i r there in
    let end : set_end p'.after ps' ≡ e.end = sym (ap (λ (x : Entry). x.end) here) in
    record {
      is = here ∙ head-raised s at p ps q d;
      moves = omega (arith, end, end_low s p'.after ps' st.2 st.1, st.0.filled, st.0.within);
      behind = subst (λ (n : ℕ). Begins s n es) end (subst (Begins s (set_end p'.after ps')) rest (heads-past s p'.after ps' st.2 st.1 st.0.inside st.0.readable));
    }

pub first-raised : (at : ℕ) (xs : List Placed) → HeadFirst (map (raise at) xs) → HeadFirst xs
first-raised at [] h = tt
first-raised at (p ∷ ps) h = h

pub next-met : (s : Bytes) (at : ℕ) (e : Entry) (es : List Entry) → Begins s at (e ∷ es) → Next s at e es
next-met s at e es b = next-by s at (places_of (drop at s)) b.inside b.readable refl (first-raised at (places_of (drop at s)) b.first) e es b.heads
