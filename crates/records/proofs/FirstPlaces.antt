-- The first record of a readable part: where it stands, what its own part reads as, and the places behind it, which are those of the rest.
use Rattle.std.specs.Prelude.{Some, None}
use Prim.Native.Nat.{ℕ, ◌+◌, ◌-◌, ◌≤◌, ◌<◌}
use native.Mathlib.Omega.{arith}
use mathlib.Core.Path.{◌≡◌, refl, sym, ap, ◌∙◌, subst}
use mathlib.Core.Bool.{Bool, true, false, ◌||◌}
use mathlib.Core.List.{List, [], ◌∷◌, ◌++◌, append-nil, append_assoc, map}
use lib.ListN.{length, take, drop, length-append, length-drop}
use lib.Seq.{drop-drop}
use Rattle.format.specs.Lists.{is_filled}
use Rattle.format.specs.Bytes.{Bytes, text, same, pick}
use Rattle.format.specs.Lines.{Line, bytes}
use Rattle.format.specs.Pieces.{Piece, read_of}
use Rattle.format.specs.Records.{Record, Block, blocks, count_of, fields_of}
use Rattle.format.specs.Calls.{lead, from_first, to_last}
use Rattle.format.proofs.Whole.{Sound}
use Rattle.format.proofs.Renaming.{sound-starts}
use Rattle.values.specs.Value.{value_from}
use Rattle.lines.proofs.Cuts.{rest}
use Rattle.words.specs.Spans.{span}
use Rattle.records.specs.Places.{is_readable, Placed, size_in, places_in, places_of, is_descriptor, first_place}
use Rattle.records.specs.Walk.{record_in, lead_size, until_blank, from_blank, run_from}
use Rattle.records.specs.Fields.{FieldHere}
use Rattle.records.specs.declared.Run.{Run}
use Rattle.records.specs.declared.Place.{Place}
use Rattle.records.proofs.Walks.{size-append, size-piece, places_run, places-walk, run-told}
use Rattle.records.proofs.Shifts.{raise, places-raised}
use Rattle.records.proofs.Readings.{Reads, reads-readable, reads_of, reads-length, readable-reads, reads-take, reads-drop, places-read, reads-places}

-- pieces in two parts

pub lead-first : (ps : List Piece) → lead ps ++ from_first ps ≡ ps
lead-first [] = refl
lead-first (Piece.blank l ∷ ps) = ap {B = List Piece} (λ x. Piece.blank l ∷ x) (lead-first ps)
lead-first (Piece.comment l ∷ ps) = ap {B = List Piece} (λ x. Piece.comment l ∷ x) (lead-first ps)
lead-first (Piece.field n v ls ∷ ps) = refl

pub until-from : (ps : List Piece) → until_blank ps ++ from_blank ps ≡ ps
until-from [] = refl
until-from (Piece.blank l ∷ ps) = refl
until-from (Piece.comment l ∷ ps) = ap {B = List Piece} (λ x. Piece.comment l ∷ x) (until-from ps)
until-from (Piece.field n v ls ∷ ps) = ap {B = List Piece} (λ x. Piece.field n v ls ∷ x) (until-from ps)

-- to the last field, and what stands behind it
last_on : (t : Bool) (p : Piece) (b : Block) → (c : Block) × (to_last b ++ c ≡ b) → (c : Block) × (pick t (p ∷ to_last b) [] ++ c ≡ p ∷ b)
last_on true p b h = (h.0, ap {B = Block} (λ x. p ∷ x) h.1)
last_on false p b h = (p ∷ b, refl)

pub to_last_lem : (b : Block) → (c : Block) × (to_last b ++ c ≡ b)
to_last_lem [] = ([], refl)
to_last_lem (p ∷ b) = last_on (is_filled (fields_of (p ∷ b))) p b (to_last_lem b)

fields-cons : (p : Piece) (a b : Block) → fields_of a ≡ fields_of b → fields_of (p ∷ a) ≡ fields_of (p ∷ b)
fields-cons (Piece.blank l) a b e = e
fields-cons (Piece.comment l) a b e = e
fields-cons (Piece.field n v ls) a b e = ap {B = Record} (λ r. record { name = n; value = v; count = count_of ls } ∷ r) e

fields-by : (r : Record) (p : Piece) (b : Block) → fields_of (p ∷ b) ≡ r → fields_of (p ∷ to_last b) ≡ fields_of (p ∷ b) → fields_of (pick (is_filled r) (p ∷ to_last b) []) ≡ r
fields-by [] p b e h = refl
fields-by (f ∷ fs) p b e h = h ∙ e

pub last-fields : (b : Block) → fields_of (to_last b) ≡ fields_of b
last-fields [] = refl
last-fields (p ∷ b) = fields-by (fields_of (p ∷ b)) p b refl (fields-cons p (to_last b) b (last-fields b))

-- nothing, or a field and what follows
abbrev Starts : List Piece → Type 0
Starts [] = Unit {0}
Starts (Piece.blank l ∷ ps) = ⊥
Starts (Piece.comment l ∷ ps) = ⊥
Starts (Piece.field n v ls ∷ ps) = Unit {0}

first-starts : (ps : List Piece) → Starts (from_first ps)
first-starts [] = tt
first-starts (Piece.blank l ∷ ps) = first-starts ps
first-starts (Piece.comment l ∷ ps) = first-starts ps
first-starts (Piece.field n v ls ∷ ps) = tt

pub field-some : (n v : Bytes) (ls : List Line) → Sound (Piece.field n v ls) → 0 < count_of ls
field-some n v ls h =
    let f = sound-starts n v ls h in
    omega (arith, ap count_of f.3, length-append f.0 (10 ∷ bytes f.1))

-- the run of the record that begins at byte k
abbrev pub run_at : ℕ → Bytes → Run
run_at k s = run_from k k false (read_of (drop k s))

-- what is known of the first place and of those behind it
pub record FirstAt (s : Bytes) (p : Placed) (ps : List Placed) : Type 0 where
  pub begins : lead_size s ≡ p.start
  pub runs : run_at p.start s ≡ record { end = p.end; after = p.after; descriptor = is_descriptor p }
  pub filled : p.start < p.end
  pub within : p.end ≤ p.after
  pub inside : p.after ≤ length s
  pub own : List Piece
  pub own-reads : Reads (take (p.end - p.start) (drop p.start s)) own
  pub own-fields : fields_of own ≡ p.fields
  pub readable : is_readable (drop p.after s) ≡ true
  pub behind : ps ≡ map (raise p.after) (places_of (drop p.after s))

abbrev pub First : Bytes → List Placed → Type 0
First s [] = lead_size s ≡ length s
First s (p ∷ ps) = FirstAt s p ps

first_by : (s : Bytes) (a q : List Piece) (k : ℕ) → size_in a ≡ k → lead_size s ≡ k → Starts q → Reads s (a ++ q) → First s (places_run k q)
first_by s a [] k e f h r = omega (arith, reads-length r, size-append a [], ap size_in (append-nil a))
first_by s a (Piece.blank l ∷ q) k e f h r = absurd h
first_by s a (Piece.comment l ∷ q) k e f h r = absurd h
first_by s a (Piece.field n v ls ∷ ps) k e f h r =
    let q : List Piece = Piece.field n v ls ∷ ps in
    let u : Block = until_blank q in
    let w : List Piece = from_blank q in
    let x : ℕ = size_in (to_last u) in
    let y : ℕ = size_in u in
    let rest : Reads (drop k s) q = reads-drop a q r k e in
    let c = to_last_lem u in
    let some = field-some n v ls rest.sound.0 in
    let uw : Reads (drop k s) (u ++ w) = subst (Reads (drop k s)) (sym (until-from q)) rest in
    let tw : Reads (drop k s) (to_last u ++ (c.0 ++ w)) = subst (Reads (drop k s)) (ap (λ (z : Block). z ++ w) (sym c.1) ∙ append_assoc (to_last u) c.0 w) uw in
    let behind : Reads (drop (k + y) s) w = subst (λ (z : Bytes). Reads z w) (drop-drop y k s) (reads-drop u w uw y refl) in
    record {
      begins = f;
      runs = ap (run_from k k false) (reads_of rest) ∙ run-told k k false q;
      filled = omega (arith, size-piece (Piece.field n v ls) (to_last (until_blank ps)), some);
      within = omega (arith, ap size_in c.1, size-append (to_last u) c.0);
      inside = omega (arith, reads-length r, size-append a q, ap size_in (until-from q), size-append u w);
      own = to_last u;
      own-reads = reads-take (to_last u) (c.0 ++ w) tw ((k + x) - k) (omega arith);
      own-fields = last-fields u;
      readable = reads-readable behind;
      behind = ap (λ (z : ℕ). places_in z (blocks w)) (omega arith) ∙ places-raised (k + y) 0 (blocks w) ∙ ap (map (raise (k + y))) (sym (reads-places behind));
    }

pub first-place : (s : Bytes) → is_readable s ≡ true → First s (places_of s)
unfolding lead_size
first-place s e =
    let ps = read_of s in
    let k : ℕ = 0 + size_in (lead ps) in
    subst (First s) (sym (places-read s ∙ places-walk 0 ps))
    (first_by s (lead ps) (from_first ps) k (omega arith) (omega arith) (first-starts ps) (subst (Reads s) (sym (lead-first ps)) (readable-reads s e)))

-- A law for walks over records: behind the first record stand the records of the part behind its block.
pub places-cut : (s : Bytes) (p : Placed) (ps : List Placed) → is_readable s ≡ true → places_of s ≡ p ∷ ps → FirstAt s p ps
places-cut s p ps e q = subst (First s) q (first-place s e)

-- So the search for the first field and the run behind it find the first place.
abbrev pub place_run : ℕ → Run → Place
place_run k r = record { start = k; end = r.end; after = r.after; descriptor = r.descriptor }

nothing-by : (s : Bytes) (xs : List Placed) → First s xs → lead_size s ≡ length s → first_place xs ≡ None
nothing-by s [] f e = refl
nothing-by s (p ∷ ps) f e = absurd (omega (arith, f.begins, f.filled, f.within, f.inside))

found-by : (s : Bytes) (xs : List Placed) (k : ℕ) → First s xs → lead_size s ≡ k → k < length s → first_place xs ≡ Some (place_run k (run_at k s))
found-by s [] k f e h = absurd (omega (arith, f, e, h))
found-by s (p ∷ ps) k f e h =
    let b : p.start ≡ k = sym f.begins ∙ e in
    ap Some (sym (ap (place_run p.start) f.runs) ∙ ap (λ (j : ℕ). place_run j (run_at j s)) b)

-- what stands before a field leads
lead-before : (b ps : List Piece) → fields_of b ≡ [] → lead (b ++ ps) ≡ b ++ lead ps
lead-before [] ps e = refl
lead-before (Piece.blank l ∷ b) ps e = ap {B = List Piece} (λ x. Piece.blank l ∷ x) (lead-before b ps e)
lead-before (Piece.comment l ∷ b) ps e = ap {B = List Piece} (λ x. Piece.comment l ∷ x) (lead-before b ps e)
lead-before (Piece.field n v ls ∷ b) ps e = absurd (omega (arith, ap length e))

-- a part without a field
pub next-nothing : (s : Bytes) → is_readable s ≡ true → record_in s ≡ [] → first_place (places_of s) ≡ None
unfolding lead_size
next-nothing s r e =
    let ps = read_of s in
    let l : lead ps ≡ ps = ap lead (sym (append-nil ps)) ∙ lead-before ps [] e ∙ append-nil ps in
    nothing-by s (places_of s) (first-place s r) (ap size_in l ∙ reads-length (readable-reads s r))

-- a run in a part from byte k on
abbrev pub moved_run : ℕ → Run → Run
moved_run k r = record { end = k + r.end; after = k + r.after; descriptor = r.descriptor }

run_moved : (k i end : ℕ) (d : Bool) (ps : List Piece) → run_from (k + i) (k + end) d ps ≡ moved_run k (run_from i end d ps)
unfolding run_from
run_moved k i end d [] = refl
run_moved k i end d (Piece.blank l ∷ ps) = refl
run_moved k i end d (Piece.comment l ∷ ps) =
    let z : k + i + count_of (l ∷ []) ≡ k + (i + count_of (l ∷ [])) = omega arith in
    ap (λ (j : ℕ). run_from j (k + end) d ps) z ∙ run_moved k (i + count_of (l ∷ [])) end d ps
run_moved k i end d (Piece.field n v ls ∷ ps) =
    let z : k + i + count_of ls ≡ k + (i + count_of ls) = omega arith in
    ap (λ (j : ℕ). run_from j j (d || same (text "%rec") n) ps) z ∙ run_moved k (i + count_of ls) (i + count_of ls) (d || same (text "%rec") n) ps

-- it ends within its pieces
run-within : (i end : ℕ) (d : Bool) (ps : List Piece) → end ≤ i → ((run_from i end d ps).end ≤ (run_from i end d ps).after) × ((run_from i end d ps).after ≤ i + size_in ps)
unfolding run_from
run-within i end d [] h = (h, omega arith)
run-within i end d (Piece.blank l ∷ ps) h = (h, omega arith)
run-within i end d (Piece.comment l ∷ ps) h =
    let w = run-within (i + count_of (l ∷ [])) end d ps (omega arith) in
    (w.0, omega (arith, w.1, size-piece (Piece.comment l) ps))
run-within i end d (Piece.field n v ls ∷ ps) h =
    let k : ℕ = i + count_of ls in
    let w = run-within k k (d || same (text "%rec") n) ps (omega arith) in
    (w.0, omega (arith, w.1, size-piece (Piece.field n v ls) ps))

-- a part whose first field is known: t tells whether it is a `%rec`, and r is the run behind it
module _ (s : Bytes) (a n v e : ℕ) (t : Bool) (r : Run) (h : is_readable s ≡ true) (f : FieldHere s 0 a n v e) (g : t ≡ same (text "%rec") (span a n s))
    (q : r ≡ run_from 0 0 t (read_of (take (length s - e) (drop e s)))) where
  run-here : run_at a s ≡ moved_run e r
  unfolding run_from
  run-here =
      let p = f.piece in
      let z : e ≡ e + 0 = omega arith in
      let ps = read_of (drop e s) in
      ap (run_from a a false) p.reads
      ∙ ap (λ (j : ℕ). run_from j j (same (text "%rec") (span a n s)) ps) (p.ends ∙ z)
      ∙ ap (λ (b : Bool). run_from (e + 0) (e + 0) b ps) (sym g)
      ∙ run_moved e 0 0 t ps
      ∙ ap (moved_run e) (ap (λ (x : Bytes). run_from 0 0 t (read_of x)) (sym (rest s e)) ∙ sym q)

  lead-here : lead_size s ≡ a
  unfolding lead_size
  lead-here =
      let l = f.loose in
      let p = f.piece in
      let w : read_of s ≡ l.before ++ (Piece.field (span a n s) (value_from (span v e s)) p.own ∷ read_of (drop e s)) = l.reads ∙ ap (λ (ps : List Piece). l.before ++ ps) p.reads in
      ap (λ (ps : List Piece). size_in (lead ps)) w
      ∙ ap size_in (lead-before l.before (Piece.field (span a n s) (value_from (span v e s)) p.own ∷ read_of (drop e s)) l.none ∙ append-nil l.before)
      ∙ omega (arith, l.size)

  pub next-found : first_place (places_of s) ≡ Some (place_run a (moved_run e r))
  next-found = found-by s (places_of s) a (first-place s h) lead-here (omega (arith, f.moves, f.inside)) ∙ ap (λ (x : Run). Some (place_run a x)) run-here

  -- it ends inside
  pub next-inside : (r.end ≤ r.after) × (e + r.after ≤ length s)
  next-inside =
      let w = run-within 0 0 t (read_of (drop e s)) (omega arith) in
      let x : r ≡ run_from 0 0 t (read_of (drop e s)) = q ∙ ap (λ (x : Bytes). run_from 0 0 t (read_of x)) (rest s e) in
      let y : r.end ≡ (run_from 0 0 t (read_of (drop e s))).end = ap (λ (x : Run). x.end) x in
      let z : r.after ≡ (run_from 0 0 t (read_of (drop e s))).after = ap (λ (x : Run). x.after) x in
      (omega (arith, w.0), omega (arith, w.1, reads-length (readable-reads (drop e s) f.readable), length-drop e s, f.inside))
