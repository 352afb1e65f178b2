-- A record's block in parts: what stands before its first field, the pieces from there to its last field, and what stands behind; and what an edit makes of it.
use Rattle.records.specs.declared.ValuePlace.{ValuePlace}
use Rattle.std.specs.Prelude.{Option, Some, None}
use Prim.Native.Nat.{ℕ, zero, suc, ◌+◌}
use native.Mathlib.Omega.{arith}
use mathlib.Core.Path.{◌≡◌, refl, sym, ap, ◌∙◌}
use mathlib.Core.Bool.{Bool, true, false, false≢true}
use mathlib.Core.List.{List, [], ◌∷◌, ◌++◌, append_assoc}
use Rattle.format.specs.Lists.{is_filled, turn, at as place_at, behind_last}
use Rattle.format.specs.Bytes.{Bytes, pick, any, same}
use Rattle.format.specs.Lines.{Line}
use Rattle.format.specs.Pieces.{Piece}
use Rattle.format.specs.Records.{Record, Block, count_of, is_field, fields_of}
use Rattle.format.specs.Edits.{is_of, unfielded}
use Rattle.format.specs.Calls.{lead, from_first, to_last}
use Rattle.format.proofs.Listing.{same_true}
use Rattle.records.specs.Places.{size_in, field_by, field_in}
use Rattle.records.proofs.Walks.{size-piece, size_none}

any-fields : (b : Block) → any is_field b ≡ is_filled (fields_of b)
any-fields [] = refl
any-fields (Piece.blank l ∷ b) = any-fields b
any-fields (Piece.comment l ∷ b) = any-fields b
any-fields (Piece.field n v ls ∷ b) = refl

-- what stands behind the last field: no field, and a new last one goes in front of it
record Behind (b : Block) : Type 0 where
  last : Block
  whole : to_last b ++ last ≡ b
  bare : fields_of last ≡ []
  added : (q : Piece) → is_filled (fields_of b) ≡ true → behind_last is_field q b ≡ to_last b ++ (q ∷ last)

no_fields : (r : Record) → is_filled r ≡ false → r ≡ []
no_fields [] e = refl
no_fields (f ∷ fs) e = absurd (false≢true (sym e))

last_none : (b : Block) → fields_of b ≡ [] → to_last b ≡ []
last_none [] e = refl
last_none (p ∷ b) e = ap (λ (r : Record). pick (is_filled r) (p ∷ to_last b) []) e

behind-loose : (p : Piece) (b : Block) (t : Bool) → fields_of (p ∷ b) ≡ fields_of b → is_filled (fields_of b) ≡ t → Behind b → Behind (p ∷ b)
behind-loose p b true f e h =
    let d : is_filled (fields_of (p ∷ b)) ≡ true = ap is_filled f ∙ e in
    record {
      last = h.last;
      whole = ap (λ (t : Bool). pick t (p ∷ to_last b) [] ++ h.last) d ∙ ap {B = Block} (λ x. p ∷ x) h.whole;
      bare = h.bare;
      added = λ q k. ap (λ (t : Bool). p ∷ pick t (behind_last is_field q b) (q ∷ b)) (any-fields b ∙ e) ∙ ap {B = Block} (λ x. p ∷ x) (h.added q e) ∙ sym (ap (λ (t : Bool). pick t (p ∷ to_last b) [] ++ (q ∷ h.last)) d);
    }
behind-loose p b false f e h =
    let d : is_filled (fields_of (p ∷ b)) ≡ false = ap is_filled f ∙ e in
    record {
      last = p ∷ b;
      whole = ap (λ (t : Bool). pick t (p ∷ to_last b) [] ++ (p ∷ b)) d;
      bare = no_fields (fields_of (p ∷ b)) d;
      added = λ q k. absurd (false≢true (sym d ∙ k));
    }

behind-field : (n v : Bytes) (ls : List Line) (b : Block) (r : Record) → fields_of b ≡ r → Behind b → Behind (Piece.field n v ls ∷ b)
behind-field n v ls b [] e h =
    let p : Piece = Piece.field n v ls in
    record {
      last = b;
      whole = ap {B = Block} (λ (x : Block). p ∷ (x ++ b)) (last_none b e);
      bare = e;
      added = λ q k. ap (λ (t : Bool). p ∷ pick t (behind_last is_field q b) (q ∷ b)) (any-fields b ∙ ap is_filled e) ∙ sym (ap {B = Block} (λ (x : Block). p ∷ (x ++ (q ∷ b))) (last_none b e));
    }
behind-field n v ls b (f ∷ fs) e h =
    let p : Piece = Piece.field n v ls in
    record {
      last = h.last;
      whole = ap {B = Block} (λ x. p ∷ x) h.whole;
      bare = h.bare;
      added = λ q k. ap (λ (t : Bool). p ∷ pick t (behind_last is_field q b) (q ∷ b)) (any-fields b ∙ ap is_filled e) ∙ ap {B = Block} (λ x. p ∷ x) (h.added q (ap is_filled e));
    }

behind : (b : Block) → Behind b
behind [] = record { last = []; whole = refl; bare = refl; added = λ q k. absurd (false≢true k) }
behind (Piece.blank l ∷ b) = behind-loose (Piece.blank l) b (is_filled (fields_of b)) refl refl (behind b)
behind (Piece.comment l ∷ b) = behind-loose (Piece.comment l) b (is_filled (fields_of b)) refl refl (behind b)
behind (Piece.field n v ls ∷ b) = behind-field n v ls b (fields_of b) refl (behind b)

-- up to the last field stand what is before the first and what is between
last-loose : (p : Piece) (b c : Block) (r : Record) → is_filled r ≡ true → to_last b ≡ c → pick (is_filled r) (p ∷ to_last b) [] ≡ p ∷ c
last-loose p b c r e h = ap (λ (t : Bool). pick t (p ∷ to_last b) []) e ∙ ap {B = Block} (λ x. p ∷ x) h

last-lead : (b : Block) → is_filled (fields_of b) ≡ true → to_last b ≡ lead b ++ to_last (from_first b)
last-lead [] e = refl
last-lead (Piece.blank l ∷ b) e = last-loose (Piece.blank l) b (lead b ++ to_last (from_first b)) (fields_of b) e (last-lead b e)
last-lead (Piece.comment l ∷ b) e = last-loose (Piece.comment l) b (lead b ++ to_last (from_first b)) (fields_of b) e (last-lead b e)
last-lead (Piece.field n v ls ∷ b) e = refl

-- without fields
unfielded-append : (a b : Block) → unfielded (a ++ b) ≡ unfielded a ++ unfielded b
unfielded-append [] b = refl
unfielded-append (Piece.blank l ∷ a) b = ap {B = Block} (λ x. Piece.blank l ∷ x) (unfielded-append a b)
unfielded-append (Piece.comment l ∷ a) b = ap {B = Block} (λ x. Piece.comment l ∷ x) (unfielded-append a b)
unfielded-append (Piece.field n v ls ∷ a) b = unfielded-append a b

unfielded-bare : (b : Block) → fields_of b ≡ [] → unfielded b ≡ b
unfielded-bare [] e = refl
unfielded-bare (Piece.blank l ∷ b) e = ap {B = Block} (λ x. Piece.blank l ∷ x) (unfielded-bare b e)
unfielded-bare (Piece.comment l ∷ b) e = ap {B = Block} (λ x. Piece.comment l ∷ x) (unfielded-bare b e)
unfielded-bare (Piece.field n v ls ∷ b) e = absurd (let z : ◌≡◌ {A = ℕ} 0 1 = cc in omega arith)

pub lead-bare : (b : Block) → fields_of (lead b) ≡ []
lead-bare [] = refl
lead-bare (Piece.blank l ∷ b) = lead-bare b
lead-bare (Piece.comment l ∷ b) = lead-bare b
lead-bare (Piece.field n v ls ∷ b) = refl

-- the record's own pieces, from its first field to its last
abbrev pub own_of : Block → Block
own_of b = to_last (from_first b)

pub record Parted (b : Block) : Type 0 where
  pub last : Block
  pub all : lead b ++ (own_of b ++ last) ≡ b
  pub added : (q : Piece) → behind_last is_field q b ≡ lead b ++ (own_of b ++ (q ∷ last))
  pub deleted : unfielded b ≡ lead b ++ (unfielded (own_of b) ++ last)

pub parted : (b : Block) → is_filled (fields_of b) ≡ true → Parted b
parted b e =
    let h = behind b in
    let f = last-lead b e in
    let w : (c : Block) → to_last b ++ c ≡ lead b ++ (own_of b ++ c) = λ c. ap (λ (x : Block). x ++ c) f ∙ append_assoc (lead b) (own_of b) c in
    let a : lead b ++ (own_of b ++ h.last) ≡ b = sym (w h.last) ∙ h.whole in
    record {
      last = h.last;
      all = a;
      added = λ q. h.added q e ∙ w (q ∷ h.last);
      deleted =
          ap unfielded (sym a) ∙ unfielded-append (lead b) (own_of b ++ h.last)
          ∙ ap (λ (x : Block). x ++ unfielded (own_of b ++ h.last)) (unfielded-bare (lead b) (lead-bare b))
          ∙ ap (λ (x : Block). lead b ++ x) (unfielded-append (own_of b) h.last ∙ ap (λ (x : Block). unfielded (own_of b) ++ x) (unfielded-bare h.last h.bare));
    }

-- The o-th field of a name among pieces that begin at a place: it stands from a to e, and a change is made there, whatever pieces follow.
pub record Picked (n : Bytes) (o : ℕ) (ps : List Piece) (at a e : ℕ) : Type 0 where
  pub before : List Piece
  pub value : Bytes
  pub own : List Line
  pub behind : List Piece
  pub all : before ++ (Piece.field n value own ∷ behind) ≡ ps
  pub begins : at + size_in before ≡ a
  pub ends : a + count_of own ≡ e
  pub changed : (g : Piece → Block) (c : List Piece) → place_at (is_of n) o g (ps ++ c) ≡ before ++ (g (Piece.field n value own) ++ (behind ++ c))

abbrev pub Picks : Bytes → ℕ → List Piece → ℕ → Option ValuePlace → Type 0
Picks n o ps at None = Unit {0}
Picks n o ps at (Some f) = Picked n o ps at f.start f.end

module _ (n : Bytes) where
  -- one more piece that the search passes
  picks-on : (p : Piece) (size : ℕ) (ps : List Piece) (at o j : ℕ) (x : Option ValuePlace) → size_in (p ∷ []) ≡ size
      → ((g : Piece → Block) (c : List Piece) → place_at (is_of n) o g (p ∷ (ps ++ c)) ≡ p ∷ place_at (is_of n) j g (ps ++ c))
      → Picks n j ps (at + size) x → Picks n o (p ∷ ps) at x
  picks-on p size ps at o j None s f h = tt
  picks-on p size ps at o j (Some fx) s f h =
      record {
        before = p ∷ h.before;
        value = h.value;
        own = h.own;
        behind = h.behind;
        all = ap {B = List Piece} (λ x. p ∷ x) h.all;
        begins = omega (arith, h.begins, size-piece p h.before, size-piece p [], size_none);
        ends = h.ends;
        changed = λ g c. f g c ∙ ap {B = Block} (λ x. p ∷ x) (h.changed g c);
      }

  module _ (m v : Bytes) (ls : List Line) (ps : List Piece) (at : ℕ) where
    abbrev here : Piece
    here = Piece.field m v ls

    here-size : size_in (here ∷ []) ≡ count_of ls
    here-size = omega (arith, size-piece here [], size_none)

    picks_by : (t : Bool) (o : ℕ) → same n m ≡ t → ((j : ℕ) → Picks n j ps (at + count_of ls) (field_in n ps (at + count_of ls) j))
        → Picks n o (here ∷ ps) at (field_by t o at m ls (λ (k : ℕ). field_in n ps (at + count_of ls) k))
    picks_by false o e ih =
        picks-on here (count_of ls) ps at o o (field_in n ps (at + count_of ls) o) here-size (λ g c. ap (λ (t : Bool). turn t o (g here ++ (ps ++ c)) (λ (j : ℕ). here ∷ place_at (is_of n) j g (ps ++ c))) e) (ih o)
    picks_by true (suc o) e ih =
        picks-on here (count_of ls) ps at (suc o) o (field_in n ps (at + count_of ls) o) here-size (λ g c. ap (λ (t : Bool). turn t (suc o) (g here ++ (ps ++ c)) (λ (j : ℕ). here ∷ place_at (is_of n) j g (ps ++ c))) e) (ih o)
    picks_by true zero e ih =
        let q : n ≡ m = same_true n m e in
        record {
          before = [];
          value = v;
          own = ls;
          behind = ps;
          all = ap {B = List Piece} (λ (x : Bytes). Piece.field x v ls ∷ ps) q;
          begins = omega (arith, size_none);
          ends = refl;
          changed = λ g c. ap (λ (t : Bool). turn t 0 (g here ++ (ps ++ c)) (λ (j : ℕ). here ∷ place_at (is_of n) j g (ps ++ c))) e ∙ sym (ap (λ (x : Bytes). g (Piece.field x v ls) ++ (ps ++ c)) q);
        }

  pub picks : (ps : List Piece) (at o : ℕ) → Picks n o ps at (field_in n ps at o)
  picks [] at o = tt
  picks (Piece.blank l ∷ ps) at o =
      picks-on (Piece.blank l) (count_of (l ∷ [])) ps at o o (field_in n ps (at + count_of (l ∷ [])) o) (omega (arith, size-piece (Piece.blank l) [], size_none)) (λ g c. refl) (picks ps (at + count_of (l ∷ [])) o)
  picks (Piece.comment l ∷ ps) at o =
      picks-on (Piece.comment l) (count_of (l ∷ [])) ps at o o (field_in n ps (at + count_of (l ∷ [])) o) (omega (arith, size-piece (Piece.comment l) [], size_none)) (λ g c. refl) (picks ps (at + count_of (l ∷ [])) o)
  picks (Piece.field m v ls ∷ ps) at o = picks_by m v ls ps at (same n m) o refl (picks ps (at + count_of ls))

  -- what stands before the first field is passed
  lead-passed : (o : ℕ) (g : Piece → Block) (b c : Block) → place_at (is_of n) o g (lead b ++ c) ≡ lead b ++ place_at (is_of n) o g c
  lead-passed o g [] c = refl
  lead-passed o g (Piece.blank l ∷ b) c = ap {B = Block} (λ x. Piece.blank l ∷ x) (lead-passed o g b c)
  lead-passed o g (Piece.comment l ∷ b) c = ap {B = Block} (λ x. Piece.comment l ∷ x) (lead-passed o g b c)
  lead-passed o g (Piece.field m v ls ∷ b) c = refl

  pub block-changed : (o : ℕ) (g : Piece → Block) (b : Block) (at a e : ℕ) (h : Parted b) (f : Picked n o (own_of b) at a e)
      → place_at (is_of n) o g b ≡ lead b ++ (f.before ++ (g (Piece.field n f.value f.own) ++ (f.behind ++ h.last)))
  block-changed o g b at a e h f =
      ap (λ (x : Block). place_at (is_of n) o g x) (sym h.all) ∙ lead-passed o g b (own_of b ++ h.last) ∙ ap (λ (x : Block). lead b ++ x) (f.changed g h.last)
