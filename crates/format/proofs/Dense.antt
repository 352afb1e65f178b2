-- A line that is a backslash alone, taken on by the line before it, adds nothing to a value: a text that reads is judged alike without such lines.
use mathlib.Core.Path.{◌≡◌, refl, sym, ap, ◌∙◌, subst}
use mathlib.Core.Bool.{Bool, true, false, ◌&&◌, not, and-eq-true_iff}
use mathlib.Core.List.{List, [], ◌∷◌, ◌++◌, map}
use mathlib.Core.Option.{Option, none, some, none-ne-some, some-injective}
use Rattle.format.specs.Bytes.{Bytes, pick, same, is_allowed, all}
use Rattle.format.specs.Lists.{onward, filter, onto, cut_at}
use Rattle.format.specs.Lines.{Line, lines, bytes, is_ended, Form, cut}
use Rattle.format.specs.Pieces.{Piece, Mode, after, seen, Reading, take_line, read_from, pieces_in, pieces}
use Rattle.format.specs.Records.{Record, Block, is_blank_line, fields_of}
use Rattle.format.specs.Numbers.{int_bounds}
use Rattle.format.proofs.Elements.{Each, all-each, each_all}
use Rattle.format.proofs.Lists.{each-filter}
use Rattle.format.proofs.Lines.{Clean, lines-bytes, bytes-lines, lines-clean, ended-bytes, allowed-bytes}
use Rattle.format.proofs.Listing.{same_true}
use Rattle.format.proofs.Records.{close, records_in, records}
use Rattle.format.proofs.Judging.{text_no}
use Rattle.format.proofs.Walking.{records_no, text-walk}
use Rattle.format.proofs.Uncounted.{bare, number-bare}

abbrev pub is_joint : Line → Bool
is_joint l = same l (92 ∷ [])

abbrev pub not_joint : Line → Bool
not_joint l = not (is_joint l)

-- a text without the lines that are a backslash alone
unfoldable pub dense : Bytes → Bytes
dense s = bytes (filter not_joint (lines s))

-- two readings with the same names and values, where the first is one
abbrev unlined : Piece → Piece
unlined (Piece.blank l) = Piece.blank l
unlined (Piece.comment l) = Piece.comment l
unlined (Piece.field n v ls) = Piece.field n v []

abbrev Alike : Option Reading → Option Reading → Type 0
Alike none y = Unit {0}
Alike (some r) none = ⊥
Alike (some r) (some q) = (r.value ≡ q.value) × (map unlined r.pieces ≡ map unlined q.pieces)

alike-take : (F : Form) (l : Line) (r q : Reading) → Alike (some r) (some q) → Alike (take_line F l r) (take_line F l q)
alike-take Form.blank l r q h = (refl, ap {B = List Piece} (λ ps. Piece.blank l ∷ ps) h.1)
alike-take Form.comment l r q h = (refl, ap {B = List Piece} (λ ps. Piece.comment l ∷ ps) h.1)
alike-take (Form.field n v) l r q h = (refl, λ i. Piece.field n (cut v ++ h.0 i) [] ∷ h.1 i)
alike-take (Form.more v) l r q h = (ap (λ (w : Bytes). cut v ++ w) h.0, h.1)
alike-take Form.fault l r q h = tt

alike-line : (F : Form) (l : Line) (x y : Option Reading) → Alike x y → Alike (onward (take_line F l) x) (onward (take_line F l) y)
alike-line F l none y h = tt
alike-line F l (some r) none h = absurd h
alike-line F l (some r) (some q) h = alike-take F l r q h

-- a backslash alone: where nothing takes it on it is a fault, else it adds nothing and the next line is taken on
alike-fault : (l : Line) (x y : Option Reading) → Alike (onward (take_line Form.fault l) x) y
alike-fault l none y = tt
alike-fault l (some r) y = tt

alike-joint : (x y : Option Reading) → Alike x y → Alike (onward (take_line (Form.more (92 ∷ [])) (92 ∷ [])) x) y
alike-joint none y h = tt
alike-joint (some r) none h = absurd h
alike-joint (some r) (some q) h = h

module _ (ls rest : List Line) (h : (m : Mode) → Alike (read_from m ls) (read_from m rest)) where
  joint-read : (m : Mode) → Alike (read_from m ((92 ∷ []) ∷ ls)) (read_from m rest)
  joint-read Mode.closed = alike-fault (92 ∷ []) (read_from Mode.closed ls) (read_from Mode.closed rest)
  joint-read Mode.opened = alike-fault (92 ∷ []) (read_from Mode.closed ls) (read_from Mode.opened rest)
  joint-read Mode.joined = alike-joint (read_from Mode.joined ls) (read_from Mode.joined rest) (h Mode.joined)

  dense-by : (t : Bool) (l : Line) (m : Mode) → is_joint l ≡ t → Alike (read_from m (l ∷ ls)) (read_from m (pick (not t) (l ∷ rest) rest))
  dense-by true l m e = subst (λ (x : Line). Alike (read_from m (x ∷ ls)) (read_from m rest)) (sym (same_true l (92 ∷ []) e)) (joint-read m)
  dense-by false l m e = alike-line (seen m l) l (read_from (after (seen m l)) ls) (read_from (after (seen m l)) rest) (h (after (seen m l)))

dense-read : (ls : List Line) (m : Mode) → Alike (read_from m ls) (read_from m (filter not_joint ls))
dense-read [] Mode.closed = (refl, refl)
dense-read [] Mode.opened = (refl, refl)
dense-read [] Mode.joined = tt
dense-read (l ∷ ls) m = dense-by ls (filter not_joint ls) (dense-read ls) (is_joint l) l m refl

-- the lines of the dense text are those that are left
dense-lines : (s : Bytes) → lines (dense s) ≡ filter not_joint (lines s)
unfolding dense
dense-lines s = lines-bytes (filter not_joint (lines s)) (each-filter Clean not_joint (lines s) (lines-clean s))

-- the pieces of a text that reads, and of the dense one
pub record Denser (s : Bytes) (ps : List Piece) : Type 0 where
  pub left : List Piece
  pub reads : pieces (dense s) ≡ some left
  pub alike : map unlined ps ≡ map unlined left

denser-by : (s : Bytes) (ps : List Piece) (x y : Option Reading) → pieces_in x ≡ some ps → pieces (dense s) ≡ pieces_in y → Alike x y → Denser s ps
denser-by s ps none y e f h = absurd (none-ne-some ps e)
denser-by s ps (some r) none e f h = absurd h
denser-by s ps (some r) (some q) e f h = record { left = q.pieces; reads = f; alike = ap (map unlined) (sym (some-injective r.pieces ps e)) ∙ h.1 }

pub denser : (s : Bytes) (ps : List Piece) → pieces s ≡ some ps → Denser s ps
unfolding pieces
denser s ps e =
    denser-by s ps (read_from Mode.closed (lines s)) (read_from Mode.closed (filter not_joint (lines s))) e
    (ap (λ (ls : List Line). pieces_in (read_from Mode.closed ls)) (dense-lines s)) (dense-read (lines s) Mode.closed)

-- the records of pieces whose lines are left out take no byte
onto-map : {A B : Type 0} (f : A → B) (x : A) (gs : List (List A)) → onto (f x) (map (map f) gs) ≡ map (map f) (onto x gs)
onto-map f x [] = refl
onto-map f x (g ∷ gs) = refl

blocks-unlined : (ps : List Piece) → cut_at is_blank_line (map unlined ps) ≡ map (map unlined) (cut_at is_blank_line ps)
blocks-unlined [] = refl
blocks-unlined (Piece.blank l ∷ ps) =
    ap {B = List Block} (λ gs. [] ∷ onto (Piece.blank l) gs) (blocks-unlined ps) ∙ ap {B = List Block} (λ gs. [] ∷ gs) (onto-map unlined (Piece.blank l) (cut_at is_blank_line ps))
blocks-unlined (Piece.comment l ∷ ps) = ap (onto (Piece.comment l)) (blocks-unlined ps) ∙ onto-map unlined (Piece.comment l) (cut_at is_blank_line ps)
blocks-unlined (Piece.field n v ls ∷ ps) = ap (onto (Piece.field n v [])) (blocks-unlined ps) ∙ onto-map unlined (Piece.field n v ls) (cut_at is_blank_line ps)

fields-unlined : (b : Block) → fields_of (map unlined b) ≡ bare (fields_of b)
fields-unlined [] = refl
fields-unlined (Piece.blank l ∷ b) = fields-unlined b
fields-unlined (Piece.comment l ∷ b) = fields-unlined b
fields-unlined (Piece.field n v ls ∷ b) = ap {B = Record} (λ r. record { name = n; value = v; count = 0 } ∷ r) (fields-unlined b)

close-bare : (r : Record) (rs : List Record) → close (bare r) (map bare rs) ≡ map bare (close r rs)
close-bare [] rs = refl
close-bare (f ∷ fs) rs = refl

records-in : (bs : List Block) → records_in (map (map unlined) bs) ≡ map bare (records_in bs)
records-in [] = refl
records-in (b ∷ bs) = (λ i. close (fields-unlined b i) (records-in bs i)) ∙ close-bare (fields_of b) (records_in bs)

records-unlined : (ps : List Piece) → records (map unlined ps) ≡ map bare (records ps)
unfolding records
records-unlined ps = ap records_in (blocks-unlined ps) ∙ records-in (cut_at is_blank_line ps)

number-unlined : (ps : List Piece) → records_no int_bounds (records (map unlined ps)) ≡ records_no int_bounds (records ps)
number-unlined ps = ap (records_no int_bounds) (records-unlined ps) ∙ number-bare int_bounds (records ps)

-- questions 2 to 14 and 30 of a text that reads are those of the dense one
dense-allowed : (s : Bytes) → all is_allowed s ≡ true → is_ended s ≡ true → all is_allowed (dense s) ≡ true
unfolding dense
dense-allowed s a e =
    let each : Each (λ (l : Line). all is_allowed l ≡ true) (lines s) = all-each (all is_allowed) (lines s) (sym (allowed-bytes (lines s)) ∙ ap (all is_allowed) (bytes-lines s e) ∙ a) in
    allowed-bytes (filter not_joint (lines s)) ∙ each_all (all is_allowed) (filter not_joint (lines s)) (each-filter (λ (l : Line). all is_allowed l ≡ true) not_joint (lines s) each)

pub dense-ended : (s : Bytes) → is_ended (dense s) ≡ true
unfolding dense
dense-ended s = ended-bytes (filter not_joint (lines s))

pub dense-text : (s : Bytes) → (all is_allowed s && is_ended s) ≡ true → (all is_allowed (dense s) && is_ended (dense s)) ≡ true
dense-text s t =
    let h = (and-eq-true_iff (all is_allowed s) (is_ended s)).0 t in
    (and-eq-true_iff (all is_allowed (dense s)) (is_ended (dense s))).1 (dense-allowed s h.0 h.1, dense-ended s)

pub dense-no : (s : Bytes) (ps : List Piece) → (all is_allowed s && is_ended s) ≡ true → pieces s ≡ some ps → text_no (dense s) ≡ text_no s
dense-no s ps t e =
    let h = (and-eq-true_iff (all is_allowed s) (is_ended s)).0 t in
    let d : Denser s ps = denser s ps e in
    text-walk (dense s) d.left (dense-allowed s h.0 h.1) (dense-ended s) d.reads
    ∙ sym (number-unlined d.left)
    ∙ ap (λ (qs : List Piece). records_no int_bounds (records qs)) (sym d.alike)
    ∙ number-unlined ps
    ∙ sym (text-walk s ps h.0 h.1 e)

-- what does not ask how many bytes fields take is the same of the fields of a text that reads and of the dense one
pub dense-fields : {A : Type 0} (f : Record → A) → ((r : Record) → f (bare r) ≡ f r) → (s : Bytes) (ps : List Piece) (e : pieces s ≡ some ps) → f (fields_of (denser s ps e).left) ≡ f (fields_of ps)
dense-fields f h s ps e =
    let d : Denser s ps = denser s ps e in
    sym (h (fields_of d.left))
    ∙ ap f (sym (fields-unlined d.left) ∙ ap fields_of (sym d.alike) ∙ fields-unlined ps)
    ∙ h (fields_of ps)
