-- The next field of a name, by the next field of a part.
use Rattle.records.specs.declared.ValuePlace.{ValuePlace}
use Rattle.std.specs.Prelude.{Option, Some, None}
use Prim.Native.Nat.{ℕ, zero, suc, ◌+◌, ◌-◌}
use native.Mathlib.Omega.{arith}
use mathlib.Core.Path.{◌≡◌, refl, sym, ap, ◌∙◌, subst}
use mathlib.Core.Bool.{Bool, true, false}
use mathlib.Core.List.{List, [], ◌∷◌}
use lib.ListN.{length, take, drop, length-drop}
use lib.Seq.{drop-drop}
use Rattle.format.specs.Bytes.{Bytes, same, pick}
use Rattle.format.specs.Lines.{Line}
use Rattle.format.specs.Pieces.{Piece, read_of}
use Rattle.format.specs.Records.{count_of}
use Rattle.format.specs.Sets.{values_of}
use Rattle.lines.specs.Piece.{value_at}
use Rattle.values.specs.Value.{value_from}
use Rattle.lines.proofs.Cuts.{rest}
use Rattle.words.specs.Spans.{span}
use Rattle.records.specs.Places.{is_readable, head_line, field_by, field_in}
use Rattle.records.specs.Walk.{record_in}
use Rattle.records.specs.Fields.{fields_from, FieldHere}
use Rattle.records.specs.Named.{values_from, ValueNext, ValueBehind, occurrence, first_or, OccurrenceNext, NamedNext}
use Rattle.records.proofs.Fields.{occurrence-none, occurrence-other, occurrence-here}
use Rattle.records.proofs.NextFields.{span-moved}

-- The same of the part from byte i on and of the whole text: each place is i bytes further.
abbrev pub moved_on : ℕ → Option ValuePlace → Option ValuePlace
moved_on i None = None
moved_on i (Some f) = Some (record { start = i + f.start; value = i + f.value; end = i + f.end })

module _ (name : Bytes) (i : ℕ) where
  by-moved : (t : Bool) (n : Bytes) (ls : List Line) (at o : ℕ) (f g : ℕ → Option ValuePlace) → ((k : ℕ) → f k ≡ moved_on i (g k)) → field_by t o (i + at) n ls f ≡ moved_on i (field_by t o at n ls g)
  by-moved false n ls at o f g h = h o
  by-moved true n ls at zero f g h =
      let v : i + at + value_at (length n) (head_line ls) ≡ i + (at + value_at (length n) (head_line ls)) = omega arith in
      let e : i + at + count_of ls ≡ i + (at + count_of ls) = omega arith in
      λ d. Some (record { start = i + at; value = v d; end = e d })
  by-moved true n ls at (suc o) f g h = h o

  in_moved : (ps : List Piece) (at o : ℕ) → field_in name ps (i + at) o ≡ moved_on i (field_in name ps at o)
  in_moved [] at o = refl
  in_moved (Piece.blank l ∷ ps) at o = ap (λ (j : ℕ). field_in name ps j o) (let e : i + at + count_of (l ∷ []) ≡ i + (at + count_of (l ∷ [])) = omega arith in e) ∙ in_moved ps (at + count_of (l ∷ [])) o
  in_moved (Piece.comment l ∷ ps) at o = ap (λ (j : ℕ). field_in name ps j o) (let e : i + at + count_of (l ∷ []) ≡ i + (at + count_of (l ∷ [])) = omega arith in e) ∙ in_moved ps (at + count_of (l ∷ [])) o
  in_moved (Piece.field n v ls ∷ ps) at o =
      by-moved (same name n) n ls at o (λ (k : ℕ). field_in name ps (i + at + count_of ls) k) (λ (k : ℕ). field_in name ps (at + count_of ls) k) (λ k. ap (λ (j : ℕ). field_in name ps j k) (let e : i + at + count_of ls ≡ i + (at + count_of ls) = omega arith in e) ∙ in_moved ps (at + count_of ls) k)

module _ (s name : Bytes) (i : ℕ) where
  behind_moved : (x : Option ValuePlace) → ValueBehind x → ValueBehind (moved_on i x)
  behind_moved None h = tt
  behind_moved (Some f) h = omega arith

  value-moved : (x : Option ValuePlace) → ValueNext (drop i s) name 0 x → ValueNext s name i (moved_on i x)
  value-moved None h = h
  value-moved (Some f) h =
      record {
        moves = omega (arith, h.moves);
        within = omega (arith, h.within);
        inside = omega (arith, h.moves, h.inside, length-drop i s);
        readable = ap (λ (x : Bytes). is_readable x) (sym (drop-drop f.end i s)) ∙ h.readable;
        value_there = omega (arith, h.value_there, length-drop i s);
        ends-itself = ap value_from (sym (drop-drop f.value i s)) ∙ h.ends-itself ∙ ap value_from (span-moved s i f.value f.end);
        values = h.values ∙ (λ d. value_from (span-moved s i f.value f.end d) ∷ values_of name (record_in (drop-drop f.end i s d)));
      }

  occurrence-moved : (j o : ℕ) → occurrence s name (i + j) o ≡ moved_on i (occurrence (drop i s) name j o)
  occurrence-moved j o = ap (λ (x : Bytes). field_in name (read_of x) (i + j) o) (sym (drop-drop j i s)) ∙ in_moved name i (read_of (drop j (drop i s))) j o

  from-part : (o : ℕ) → occurrence s name i o ≡ moved_on i (occurrence (drop i s) name 0 o)
  from-part o = ap (λ (j : ℕ). occurrence s name j o) (let z : i ≡ i + 0 = omega arith in z) ∙ occurrence-moved 0 o

  first-moved : (a v e o : ℕ) → moved_on i (first_or (Some (record { start = a; value = v; end = e })) (occurrence (drop i s) name e) o) ≡ first_or (moved_on i (Some (record { start = a; value = v; end = e }))) (occurrence s name (i + e)) o
  first-moved a v e zero = refl
  first-moved a v e (suc o) = sym (occurrence-moved e o)

  found-moved : (x : Option ValuePlace) → OccurrenceNext (drop i s) name 0 x → OccurrenceNext s name i (moved_on i x)
  found-moved None h = λ o. from-part o ∙ ap (moved_on i) (h o)
  found-moved (Some f) h = λ o. from-part o ∙ ap (moved_on i) (h o) ∙ first-moved f.start f.value f.end o

  named-moved : (x : Option ValuePlace) → NamedNext (drop i s) name 0 x → NamedNext s name i (moved_on i x)
  named-moved x h = record { behind = behind_moved x h.behind; value = value-moved x h.value; found = found-moved x h.found }

  -- what an answer about the part `&s[i..]` tells, once its form is known
  pub named-told : (x : Option ValuePlace) {y : Option ValuePlace} → NamedNext (take (length s - i) (drop i s)) name 0 x → x ≡ y → NamedNext s name i (moved_on i y)
  named-told x {y} h e = named-moved y (subst (λ (t : Bytes). NamedNext t name 0 y) (rest s i) (subst (NamedNext (take (length s - i) (drop i s)) name 0) e h))

  pub value-told : (x : Option ValuePlace) {y : Option ValuePlace} → NamedNext (take (length s - i) (drop i s)) name 0 x → x ≡ y → ValueNext s name i (moved_on i y)
  value-told x h e = (named-told x h e).value

-- what is the same from byte i on as of the whole part, where no field of the name stands before
pub record Unnamed (s name : Bytes) (i : ℕ) : Type 0 where
  pub values : values_from s name 0 ≡ values_from s name i
  pub found : (o : ℕ) → occurrence s name 0 o ≡ occurrence s name i o

pub unnamed-none : (s name : Bytes) → Unnamed s name 0
unnamed-none s name = record { values = refl; found = λ o. refl }

module _ (s name : Bytes) (i : ℕ) (u : Unnamed s name i) where
  pub named-missing : fields_from s i ≡ [] → NamedNext s name 0 None
  named-missing e = record { behind = tt; value = u.values ∙ ap (values_of name) e; found = λ o. u.found o ∙ occurrence-none s name i e o }

  module _ (a n v e : ℕ) (f : FieldHere s i a n v e) where
    values-by : (t : Bool) → same name (span a n s) ≡ t → values_from s name i ≡ pick t (value_from (span v e s) ∷ values_from s name e) (values_from s name e)
    values-by t q = ap (values_of name) f.fields ∙ ap (λ (b : Bool). pick b (value_from (span v e s) ∷ values_from s name e) (values_from s name e)) q

    pub unnamed-on : same name (span a n s) ≡ false → Unnamed s name e
    unnamed-on q = record { values = u.values ∙ values-by false q; found = λ o. u.found o ∙ occurrence-other s name i a n v e f q o }

    pub named_here : same name (span a n s) ≡ true → NamedNext s name 0 (Some (record { start = a; value = v; end = e }))
    named_here q =
        record {
          behind = f.value-behind;
          value = record {
            moves = omega (arith, f.begins, f.moves);
            within = f.value-inside;
            inside = f.inside;
            readable = f.readable;
            value_there = f.value_there;
            ends-itself = f.ends-itself;
            values = u.values ∙ values-by true q;
          };
          found = λ o. u.found o ∙ occurrence-here s name i a n v e f q o;
        }

-- a search among the occurrences: the first is the one looked for, or the search goes on behind it
module _ (s name : Bytes) (i a v e : ℕ) (f : NamedNext s name i (Some (record { start = a; value = v; end = e }))) where
  pub occurrence-first : (o : ℕ) → o ≡ 0 → occurrence s name i o ≡ Some (record { start = a; value = v; end = e })
  occurrence-first o z = f.found o ∙ ap (first_or (Some (record { start = a; value = v; end = e })) (occurrence s name e)) z

  pub occurrence-later : (o k : ℕ) → o ≡ suc k → occurrence s name i o ≡ occurrence s name e k
  occurrence-later o k z = f.found o ∙ ap (first_or (Some (record { start = a; value = v; end = e })) (occurrence s name e)) z
