-- A record that goes on, by the pieces met behind the last descriptor: those before its first field, its own, and those up to the walk's place.
use Prim.Native.Nat.{ℕ, ◌+◌, ◌-◌, ◌≤◌, ◌<◌}
use native.Mathlib.Omega.{arith}
use mathlib.Core.Path.{◌≡◌, refl, sym, ap, ◌∙◌, subst}
use mathlib.Core.Bool.{Bool, true, false, false≢true}
use mathlib.Core.List.{List, [], ◌∷◌, ◌++◌, append-nil, append_assoc}
use lib.ListN.{length, drop, length-append}
use Rattle.format.specs.Bytes.{Bytes, pick}
use Rattle.format.specs.Lines.{Line}
use Rattle.format.specs.Pieces.{Piece, read_of}
use Rattle.format.specs.Records.{Field, Record, count_of, fields_of}
use Rattle.format.proofs.Grouping.{fields-append}
use Rattle.format.proofs.Records.{close, records}
use Rattle.format.proofs.Walking.{is_head, heads}
use Rattle.words.specs.Spans.{span}
use Rattle.records.specs.Places.{is_readable, size_in}
use Rattle.records.specs.Walk.{record_in, until_blank, from_blank}
use Rattle.records.specs.Heads.{HeadHere}
use Rattle.records.proofs.Walks.{size-append, size-piece, size_none}
use Rattle.records.proofs.Readings.{Reads, reads-readable, reads_of, readable-reads, reads-take}
use Rattle.records.proofs.Steps.{Passed}
use Rattle.records.proofs.Cuts.{records_from}
use Rattle.records.proofs.Rows.{heads-plain}
use Rattle.records.proofs.Going.{go_on, going_from, going-none, going_end, going-blank, records-blank}

-- the pieces from p to i
pub record Cut (s : Bytes) (p i : ℕ) (ps : List Piece) : Type 0 where
  pub reads : read_of (drop p s) ≡ ps ++ read_of (drop i s)
  pub size : p + size_in ps ≡ i
  pub inside : i ≤ length s
  pub readable : is_readable (drop i s) ≡ true

module _ {s : Bytes} where
  pub cut-none : (i : ℕ) → i ≤ length s → is_readable (drop i s) ≡ true → Cut s i i []
  cut-none i h e = record { reads = refl; size = omega (arith, size_none); inside = h; readable = e }

  pub cut-join : {p i j : ℕ} {ps qs : List Piece} → Cut s p i ps → Cut s i j qs → Cut s p j (ps ++ qs)
  cut-join {p} {i} {j} {ps} {qs} c d =
      record {
        reads = c.reads ∙ ap (λ (x : List Piece). ps ++ x) d.reads ∙ sym (append_assoc ps qs (read_of (drop j s)));
        size = omega (arith, c.size, d.size, size-append ps qs);
        inside = d.inside;
        readable = d.readable;
      }

  pub cut-one : {i k : ℕ} {p : Piece} → Passed s i p k → Cut s i (i + k) (p ∷ [])
  cut-one {i} {k} {p} q =
      record {
        reads = q.reads;
        size = omega (arith, q.size, size-piece p [], size_none);
        inside = q.inside;
        readable = q.readable;
      }

  pub cut-reads : {p i : ℕ} {ps : List Piece} → is_readable (drop p s) ≡ true → Cut s p i ps → Reads (span p i s) ps
  cut-reads {p} {i} {ps} e c = reads-take ps (read_of (drop i s)) (subst (Reads (drop p s)) c.reads (readable-reads (drop p s) e)) (i - p) (omega (arith, c.size))

-- no record goes on behind these pieces; one goes on through those
abbrev Quiet : List Piece → Type 0
Quiet ps = (qs : List Piece) → records (ps ++ qs) ≡ records ps ++ records qs

abbrev Solid : List Piece → Type 0
Solid ps = (fs : Record) (qs : List Piece) → go_on fs (ps ++ qs) ≡ go_on (fs ++ fields_of ps) qs

records-none : records [] ≡ []
unfolding records
records-none = refl

quiet_none : Quiet []
quiet_none qs = ap (λ (rs : List Record). rs ++ records qs) (sym records-none)

solid-none : Solid []
solid-none fs qs = ap (λ (r : Record). go_on r qs) (sym (append-nil fs))

solid-comment : (l : Line) → Solid (Piece.comment l ∷ [])
unfolding go_on
solid-comment l fs qs = ap (λ (r : Record). go_on r qs) (sym (append-nil fs))

abbrev pub field_of : Bytes → Bytes → List Line → Field
field_of n v ls = record { name = n; value = v; count = count_of ls }

pub field-on : (n v : Bytes) (ls : List Line) → (fs : Record) (qs : List Piece) → go_on fs (Piece.field n v ls ∷ qs) ≡ go_on (fs ++ (field_of n v ls ∷ [])) qs
unfolding go_on
field-on n v ls fs qs =
    ap (λ (r : Record). close r (records (from_blank qs))) (sym (append_assoc fs (field_of n v ls ∷ []) (fields_of (until_blank qs))))

solid-field : (n v : Bytes) (ls : List Line) → Solid (Piece.field n v ls ∷ [])
solid-field n v ls = field-on n v ls

solid-join : (ps qs : List Piece) → Solid ps → Solid qs → Solid (ps ++ qs)
solid-join ps qs a b fs xs =
    ap (go_on fs) (append_assoc ps qs xs)
    ∙ a fs (qs ++ xs)
    ∙ b (fs ++ fields_of ps) xs
    ∙ ap (λ (r : Record). go_on r xs) (append_assoc fs (fields_of ps) (fields_of qs) ∙ ap (λ (r : Record). fs ++ r) (sym (fields-append ps qs)))

-- the records of pieces with no record that goes on, then of a run, then of the rest
run-records : (ps run qs : List Piece) → Quiet ps → Solid run → records (ps ++ (run ++ qs)) ≡ records ps ++ go_on (fields_of run) qs
run-records ps run qs a b =
    a (run ++ qs) ∙ ap (λ (rs : List Record). records ps ++ rs) (sym (going-none (run ++ qs)) ∙ b [] qs)

blank-on : (l : Line) (fs : Record) (qs : List Piece) → go_on fs (Piece.blank l ∷ qs) ≡ close fs (records qs)
unfolding go_on
blank-on l fs qs = (λ j. close (append-nil fs j) (records-blank l qs j))

-- what was met behind byte p: fs are the fields of the record that goes on, from a to e
pub record Pending (s : Bytes) (p i a e : ℕ) (fs : Record) : Type 0 where
  pub from : is_readable (drop p s) ≡ true
  pub front : List Piece
  pub own : List Piece
  pub run : List Piece
  pub front_cut : Cut s p a front
  pub own-cut : Cut s a e own
  pub run-cut : Cut s a i run
  pub within : e ≤ i
  pub quiet : Quiet front
  pub solid : Solid run
  pub plain : heads (records front) ≡ []
  pub filled : a + length fs ≤ e
  pub own-fields : fields_of own ≡ fs
  pub run-fields : fields_of run ≡ fs

pub pending-none : (s : Bytes) (i : ℕ) → i ≤ length s → is_readable (drop i s) ≡ true → Pending s i i i i []
pending-none s i h e =
    record {
      from = e;
      front = [];
      own = [];
      run = [];
      front_cut = cut-none i h e;
      own-cut = cut-none i h e;
      run-cut = cut-none i h e;
      within = omega arith;
      quiet = quiet_none;
      solid = solid-none;
      plain = ap (λ (rs : List Record). heads rs) records-none;
      filled = omega arith;
      own-fields = refl;
      run-fields = refl;
    }

-- pieces without a field behind such as no record goes on behind
module _ (ps run : List Piece) (quiet : Quiet ps) (solid : Solid run) (bare : fields_of run ≡ []) where
  bare-run : (qs : List Piece) → records (run ++ qs) ≡ records qs
  bare-run qs = sym (going-none (run ++ qs)) ∙ solid [] qs ∙ ap (λ (r : Record). go_on r qs) bare ∙ going-none qs

  bare-records : records (ps ++ run) ≡ records ps
  bare-records =
      quiet run
      ∙ ap (λ (rs : List Record). records ps ++ rs) (ap (λ (x : List Piece). records x) (sym (append-nil run)) ∙ bare-run [] ∙ records-none)
      ∙ append-nil (records ps)

  bare-quiet : Quiet (ps ++ run)
  bare-quiet qs =
      ap (λ (x : List Piece). records x) (append_assoc ps run qs)
      ∙ quiet (run ++ qs)
      ∙ ap (λ (rs : List Record). records ps ++ rs) (bare-run qs)
      ∙ ap (λ (rs : List Record). rs ++ records qs) (sym bare-records)

-- a run and the blank line that ends it
close-append : (fs : Record) (rs : List Record) → close fs rs ≡ close fs [] ++ rs
close-append [] rs = refl
close-append (f ∷ fs) rs = refl

module _ (ps run : List Piece) (l : Line) (quiet : Quiet ps) (solid : Solid run) where
  shut-records : (qs : List Piece) → records (ps ++ (run ++ (Piece.blank l ∷ qs))) ≡ records ps ++ close (fields_of run) (records qs)
  shut-records qs = run-records ps run (Piece.blank l ∷ qs) quiet solid ∙ ap (λ (rs : List Record). records ps ++ rs) (blank-on l (fields_of run) qs)

  shut-all : records (ps ++ (run ++ (Piece.blank l ∷ []))) ≡ records ps ++ close (fields_of run) []
  shut-all = shut-records [] ∙ ap (λ (rs : List Record). records ps ++ close (fields_of run) rs) records-none

  shut-quiet : Quiet (ps ++ (run ++ (Piece.blank l ∷ [])))
  shut-quiet qs =
      ap (λ (x : List Piece). records x) (append_assoc ps (run ++ (Piece.blank l ∷ [])) qs ∙ ap (λ (x : List Piece). ps ++ x) (append_assoc run (Piece.blank l ∷ []) qs))
      ∙ shut-records qs
      ∙ ap (λ (rs : List Record). records ps ++ rs) (close-append (fields_of run) (records qs))
      ∙ sym (append_assoc (records ps) (close (fields_of run) []) (records qs))
      ∙ ap (λ (rs : List Record). rs ++ records qs) (sym shut-all)

quiet-blank : (l : Line) → Quiet (Piece.blank l ∷ [])
quiet-blank l qs = records-blank l qs ∙ ap (λ (rs : List Record). rs ++ records qs) (sym (records-blank l [] ∙ records-none))

heads-close : (fs : Record) → is_head fs ≡ false → heads (close fs []) ≡ []
heads-close [] e = refl
heads-close (f ∷ fs) e = ap (λ (b : Bool). pick b ((f ∷ fs) ∷ []) []) e

pub head-filled : (fs : Record) → is_head fs ≡ true → 0 < length fs
head-filled [] e = absurd (false≢true e)
head-filled (f ∷ fs) e = omega arith

close-head : (fs : Record) (rs : List Record) → is_head fs ≡ true → close fs rs ≡ fs ∷ rs
close-head [] rs e = absurd (false≢true e)
close-head (f ∷ fs) rs e = refl

-- step by step
module _ {s : Bytes} {p i a e : ℕ} where
  pub pending-comment : {fs : Record} {l : Line} {k : ℕ} → Pending s p i a e fs → Passed s i (Piece.comment l) k → Pending s p (i + k) a e fs
  pending-comment {fs} {l} {k} g q =
      record {
        from = g.from;
        front = g.front;
        own = g.own;
        run = g.run ++ (Piece.comment l ∷ []);
        front_cut = g.front_cut;
        own-cut = g.own-cut;
        run-cut = cut-join g.run-cut (cut-one q);
        within = omega (arith, g.within);
        quiet = g.quiet;
        solid = solid-join g.run (Piece.comment l ∷ []) g.solid (solid-comment l);
        plain = g.plain;
        filled = g.filled;
        own-fields = g.own-fields;
        run-fields = fields-append g.run (Piece.comment l ∷ []) ∙ append-nil (fields_of g.run) ∙ g.run-fields;
      }

  pub pending-first : {n v : Bytes} {ls : List Line} {k : ℕ} → Pending s p i a e [] → Passed s i (Piece.field n v ls) k → Pending s p (i + k) i (i + k) (field_of n v ls ∷ [])
  pending-first {n} {v} {ls} {k} g q =
      record {
        from = g.from;
        front = g.front ++ g.run;
        own = Piece.field n v ls ∷ [];
        run = Piece.field n v ls ∷ [];
        front_cut = cut-join g.front_cut g.run-cut;
        own-cut = cut-one q;
        run-cut = cut-one q;
        within = omega arith;
        quiet = bare-quiet g.front g.run g.quiet g.solid g.run-fields;
        solid = solid-field n v ls;
        plain = ap (λ (rs : List Record). heads rs) (bare-records g.front g.run g.quiet g.solid g.run-fields) ∙ g.plain;
        filled = omega (arith, q.moves);
        own-fields = refl;
        run-fields = refl;
      }

  pub pending-field : {fs : Record} {n v : Bytes} {ls : List Line} {k : ℕ} → Pending s p i a e fs → Passed s i (Piece.field n v ls) k → Pending s p (i + k) a (i + k) (fs ++ (field_of n v ls ∷ []))
  pending-field {fs} {n} {v} {ls} {k} g q =
      let run : List Piece = g.run ++ (Piece.field n v ls ∷ []) in
      let cut : Cut s a (i + k) run = cut-join g.run-cut (cut-one q) in
      let fields : fields_of run ≡ fs ++ (field_of n v ls ∷ []) = fields-append g.run (Piece.field n v ls ∷ []) ∙ ap (λ (r : Record). r ++ (field_of n v ls ∷ [])) g.run-fields in
      record {
        from = g.from;
        front = g.front;
        own = run;
        run = run;
        front_cut = g.front_cut;
        own-cut = cut;
        run-cut = cut;
        within = omega arith;
        quiet = g.quiet;
        solid = solid-join g.run (Piece.field n v ls ∷ []) g.solid (solid-field n v ls);
        plain = g.plain;
        filled = omega (arith, g.filled, g.within, q.moves, length-append fs (field_of n v ls ∷ []));
        own-fields = fields;
        run-fields = fields;
      }

  module _ {fs : Record} (g : Pending s p i a e fs) where
    -- a blank line ends it: no descriptor, which goes to the pieces in front, or one, behind which all begins anew
    module _ {l : Line} {k : ℕ} (q : Passed s i (Piece.blank l) k) where
      pub pending-member : is_head fs ≡ false → Pending s p (i + k) (i + k) (i + k) []
      pending-member h =
          let none = cut-none (i + k) q.inside q.readable in
          record {
            from = g.from;
            front = g.front ++ (g.run ++ (Piece.blank l ∷ []));
            own = [];
            run = [];
            front_cut = cut-join g.front_cut (cut-join g.run-cut (cut-one q));
            own-cut = none;
            run-cut = none;
            within = omega arith;
            quiet = shut-quiet g.front g.run l g.quiet g.solid;
            solid = solid-none;
            plain =
                ap (λ (rs : List Record). heads rs) (shut-all g.front g.run l g.quiet g.solid)
                ∙ heads-plain (records g.front) (close (fields_of g.run) []) g.plain
                ∙ ap (λ (r : Record). heads (close r [])) g.run-fields
                ∙ heads-close fs h;
            filled = omega arith;
            own-fields = refl;
            run-fields = refl;
          }

      pub pending-head : Pending s i (i + k) (i + k) (i + k) []
      pending-head =
          let none = cut-none (i + k) q.inside q.readable in
          record {
            from = g.run-cut.readable;
            front = Piece.blank l ∷ [];
            own = [];
            run = [];
            front_cut = cut-one q;
            own-cut = none;
            run-cut = none;
            within = omega arith;
            quiet = quiet-blank l;
            solid = solid-none;
            plain = ap (λ (rs : List Record). heads rs) (records-blank l [] ∙ records-none);
            filled = omega arith;
            own-fields = refl;
            run-fields = refl;
          }

    -- the records behind p: those in front, and the one that goes on
    whole : records_from s p ≡ records g.front ++ going_from fs s i
    whole =
        ap (λ (x : List Piece). records x) (g.front_cut.reads ∙ ap (λ (x : List Piece). g.front ++ x) g.run-cut.reads)
        ∙ run-records g.front g.run (read_of (drop i s)) g.quiet g.solid
        ∙ ap (λ (r : Record). records g.front ++ go_on r (read_of (drop i s))) g.run-fields

    -- where it ends, a descriptor has its place
    pub head-here : going_from fs s i ≡ close fs (records_from s i) → is_head fs ≡ true → HeadHere s p a e i
    head-here stop h =
        let own : Reads (span a e s) g.own = cut-reads g.front_cut.readable g.own-cut in
        let front : Reads (span p a s) g.front = cut-reads g.from g.front_cut in
        let mine : record_in (span a e s) ≡ fs = ap (λ (x : List Piece). fields_of x) (reads_of own) ∙ g.own-fields in
        let before : records (read_of (span p a s)) ≡ records g.front = ap (λ (x : List Piece). records x) (reads_of front) in
        record {
          begins = omega (arith, g.front_cut.size);
          filled = omega (arith, g.filled, head-filled fs h);
          within = g.within;
          inside = g.run-cut.inside;
          own = reads-readable own;
          head = ap (λ (r : Record). is_head r) mine ∙ h;
          before = reads-readable front;
          plain = ap (λ (rs : List Record). heads rs) before ∙ g.plain;
          behind = g.run-cut.readable;
          cut =
              whole
              ∙ ap (λ (rs : List Record). records g.front ++ rs) (stop ∙ close-head fs (records_from s i) h)
              ∙ (λ j. sym before j ++ (sym mine j ∷ records_from s i));
        }

    -- and where the file ends without one, no descriptor stands behind p
    pub none_left : read_of (drop i s) ≡ [] → is_head fs ≡ false → heads (records_from s p) ≡ []
    none_left z h =
        ap (λ (rs : List Record). heads rs) (whole ∙ ap (λ (rs : List Record). records g.front ++ rs) (going_end fs s i z))
        ∙ heads-plain (records g.front) (close fs []) g.plain
        ∙ heads-close fs h

pub blank-passed : {s : Bytes} {i k : ℕ} {l : Line} → Passed s i (Piece.blank l) k → records_from s i ≡ records_from s (i + k)
blank-passed {s} {i} {k} {l} q = ap (λ (x : List Piece). records x) q.reads ∙ records-blank l (read_of (drop (i + k) s))

-- where a record ends
module _ (s : Bytes) (i : ℕ) (fs : Record) where
  pub stop-blank : {l : Line} {k : ℕ} → Passed s i (Piece.blank l) k → going_from fs s i ≡ close fs (records_from s i)
  stop-blank {l} {k} q =
      going-blank fs s i l k q ∙ ap (close fs) (sym (blank-passed q))

  pub stop-end : read_of (drop i s) ≡ [] → going_from fs s i ≡ close fs (records_from s i)
  stop-end z = going_end fs s i z ∙ ap (close fs) (sym (ap (λ (x : List Piece). records x) z ∙ records-none))

  pub left-none : read_of (drop i s) ≡ [] → records_from s i ≡ []
  left-none z = ap (λ (x : List Piece). records x) z ∙ records-none
