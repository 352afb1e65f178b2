-- Reading: every piece of a file that reads is whole, and whole pieces read as themselves.
use Prim.Native.Nat.{ℕ}
use native.Mathlib.Omega.{arith}
use mathlib.Core.Path.{◌≡◌, refl, sym, ap, ◌∙◌, subst}
use mathlib.Core.Logic.{◌≢◌}
use mathlib.Core.Bool.{true}
use mathlib.Core.List.{List, [], ◌∷◌, ◌++◌, append_assoc}
use mathlib.Core.Option.{Option, none, some, none-ne-some}
use Rattle.format.specs.Lists.{onward}
use Rattle.format.specs.Bytes.{Bytes}
use Rattle.format.specs.Lines.{Line, lines, bytes, is_ended, Form, form}
use Rattle.format.specs.Pieces.{Piece, lines_of, all_lines, bytes_of, Mode, after, unopened, seen}
use Rattle.format.specs.Pieces.{Reading, take_line, at_end, read_from, pieces_in, pieces}
use Rattle.format.specs.Edits.{newline}
use Rattle.format.proofs.Elements.{Each, each_append, each-parts, each-imp}
use Rattle.format.proofs.Kept.{read-lines}
use Rattle.format.proofs.Lines.{Clean, lines-bytes, bytes-lines, lines-clean, bytes-append}

-- pieces, and nothing for a field that is open before them
abbrev pub alone : List Piece → Reading
alone ps = record { value = []; own = []; pieces = ps }

-- a piece's lines read as that piece and nothing else
abbrev pub Whole : Piece → Type 0
Whole p = read_from Mode.closed (lines_of p) ≡ some (alone (p ∷ []))

-- and hold no newline
abbrev pub Sound : Piece → Type 0
Sound p = Each Clean (lines_of p) × Whole p

-- a line that is seen as a form, then lines
abbrev pub read_as : Form → Line → List Line → Option Reading
read_as F l ls = onward (take_line F l) (read_from (after F) ls)

-- Lines that read with no field open read the same behind a field.
fault-reads : (x : Option Reading) (l : Line) → onward (take_line Form.fault l) x ≡ none
fault-reads none l = refl
fault-reads (some r) l = refl

no-fault : (x : Option Reading) (l : Line) (r : Reading) → onward (take_line Form.fault l) x ≡ some r → ⊥
no-fault x l r e = none-ne-some r (sym (fault-reads x l) ∙ e)

form-behind : (F : Form) (l : Line) (ls : List Line) (r : Reading) → read_as (unopened F) l ls ≡ some r → read_as F l ls ≡ some r
form-behind Form.blank l ls r e = e
form-behind Form.comment l ls r e = e
form-behind (Form.field n v) l ls r e = e
form-behind (Form.more v) l ls r e = absurd (no-fault (read_from Mode.closed ls) l r e)
form-behind Form.fault l ls r e = e

reads-behind : (ls : List Line) (r : Reading) → read_from Mode.closed ls ≡ some r → read_from Mode.opened ls ≡ some r
reads-behind [] r e = e
reads-behind (l ∷ ls) r e = form-behind (form l) l ls r e

-- So lines may be followed by the lines of other pieces.
abbrev followed : List Piece → Reading → Reading
followed qs r = record { value = r.value; own = r.own; pieces = r.pieces ++ qs }

abbrev followed_in : List Piece → Option Reading → Option Reading
followed_in qs none = none
followed_in qs (some r) = some (followed qs r)

take-followed : (F : Form) (l : Line) (r : Reading) (qs : List Piece) → take_line F l (followed qs r) ≡ followed_in qs (take_line F l r)
take-followed Form.blank l r qs = refl
take-followed Form.comment l r qs = refl
take-followed (Form.field n v) l r qs = refl
take-followed (Form.more v) l r qs = refl
take-followed Form.fault l r qs = refl

module _ (b : List Line) (qs : List Piece) (reads : read_from Mode.closed b ≡ some (alone qs)) where
  end-followed : (m : Mode) (r : Reading) → at_end m ≡ some r → read_from m b ≡ some (followed qs r)
  end-followed Mode.closed r e = reads ∙ ap (followed_in qs) e
  end-followed Mode.opened r e = reads-behind b (alone qs) reads ∙ ap (followed_in qs) e
  end-followed Mode.joined r e = absurd (none-ne-some r e)

  line-followed : (F : Form) (l : Line) (a : List Line) (r : Reading) (x : Option Reading) → ((s : Reading) → x ≡ some s → read_from (after F) (a ++ b) ≡ some (followed qs s)) → onward (take_line F l) x ≡ some r → read_as F l (a ++ b) ≡ some (followed qs r)
  line-followed F l a r none ih e = absurd (none-ne-some r e)
  line-followed F l a r (some s) ih e = ap (onward (take_line F l)) (ih s refl) ∙ take-followed F l s qs ∙ ap (followed_in qs) e

  lines-followed : (a : List Line) (m : Mode) (r : Reading) → read_from m a ≡ some r → read_from m (a ++ b) ≡ some (followed qs r)
  lines-followed [] m r e = end-followed m r e
  lines-followed (l ∷ a) m r e = line-followed (seen m l) l a r (read_from (after (seen m l)) a) (lines-followed a (after (seen m l))) e

whole-reads : (ps : List Piece) → Each Whole ps → read_from Mode.closed (all_lines ps) ≡ some (alone ps)
whole-reads [] h = refl
whole-reads (p ∷ ps) h = lines-followed (all_lines ps) ps (whole-reads ps h.1) (lines_of p) Mode.closed (alone (p ∷ [])) h.0

-- What is read is whole: the pieces are, and the open field's lines read as what they add to it.
abbrev own_only : Reading → Reading
own_only r = record { value = r.value; own = r.own; pieces = [] }

abbrev Good : Mode → Option Reading → Type 0
Good m none = Unit {0}
Good m (some r) = Each Whole r.pieces × (read_from m r.own ≡ some (own_only r))

own-seen : (m : Mode) (F : Form) (l : Line) (r : Reading) → seen m l ≡ F → read_from (after F) r.own ≡ some (own_only r) → read_from m (l ∷ r.own) ≡ take_line F l (own_only r)
own-seen m F l r e h = ap (λ (G : Form). read_as G l r.own) e ∙ ap (onward (take_line F l)) h

-- a form that begins a piece begins it with no field open too, and stands where lines may end
abbrev Begins : Form → Type 0
Begins F = (unopened F ≡ F) × (F ≢ Form.fault)

begins-closed : (m : Mode) (F : Form) (l : Line) → Begins F → seen m l ≡ F → (seen Mode.closed l ≡ F) × (at_end m ≡ some (alone []))
begins-closed Mode.closed F l b e = (e, refl)
begins-closed Mode.opened F l b e = (ap unopened e ∙ b.0, refl)
begins-closed Mode.joined F l b e = absurd (b.1 (sym b.0 ∙ sym (ap unopened e)))

begins-blank : Begins Form.blank
begins-blank = (refl, λ e. let z : ◌≡◌ {A = ℕ} 0 1 = cc in omega arith)

begins-comment : Begins Form.comment
begins-comment = (refl, λ e. let z : ◌≡◌ {A = ℕ} 0 1 = cc in omega arith)

begins-field : (n v : Bytes) → Begins (Form.field n v)
begins-field n v = (refl, λ e. let z : ◌≡◌ {A = ℕ} 0 1 = cc in omega arith)

good-take : (m : Mode) (F : Form) (l : Line) (r : Reading) → seen m l ≡ F → Good (after F) (some r) → Good m (take_line F l r)
good-take m Form.blank l r e g = let f = begins-closed m Form.blank l begins-blank e in ((own-seen Mode.closed Form.blank l (alone []) f.0 refl, g.0), f.1)
good-take m Form.comment l r e g = let f = begins-closed m Form.comment l begins-comment e in ((own-seen Mode.closed Form.comment l (alone []) f.0 refl, g.0), f.1)
good-take m (Form.field n v) l r e g = let f = begins-closed m (Form.field n v) l (begins-field n v) e in ((own-seen Mode.closed (Form.field n v) l r f.0 g.1, g.0), f.1)
good-take m (Form.more v) l r e g = (g.0, own-seen m (Form.more v) l r e g.1)
good-take m Form.fault l r e g = tt

good-in : (m : Mode) (l : Line) (x : Option Reading) → Good (after (seen m l)) x → Good m (onward (take_line (seen m l) l) x)
good-in m l none g = tt
good-in m l (some r) g = good-take m (seen m l) l r refl g

good-end : (m : Mode) → Good m (at_end m)
good-end Mode.closed = (tt, refl)
good-end Mode.opened = (tt, refl)
good-end Mode.joined = tt

good : (ls : List Line) (m : Mode) → Good m (read_from m ls)
good [] m = good-end m
good (l ∷ ls) m = good-in m l (read_from (after (seen m l)) ls) (good ls (after (seen m l)))

-- sound is clean and whole, piece by piece
sound-clean : (ps : List Piece) → Each Sound ps → Each Clean (all_lines ps)
sound-clean [] h = tt
sound-clean (p ∷ ps) h = each_append Clean (lines_of p) (all_lines ps) h.0.0 (sound-clean ps h.1)

whole-sound : (ps : List Piece) → Each Whole ps → Each Clean (all_lines ps) → Each Sound ps
whole-sound [] w c = tt
whole-sound (p ∷ ps) w c = let h = each-parts Clean (lines_of p) (all_lines ps) c in ((h.0, w.0), whole-sound ps w.1 h.1)

-- The pieces of a file are whole, and their bytes, one after another, are the file.
abbrev SoundIn : Bytes → Option (List Piece) → Type 0
SoundIn s none = Unit {0}
SoundIn s (some ps) = Each Sound ps × (bytes (all_lines ps) ≡ s)

sound-in : (s : Bytes) (x : Option Reading) → is_ended s ≡ true → read_from Mode.closed (lines s) ≡ x → SoundIn s (pieces_in x)
sound-in s none h e = tt
sound-in s (some r) h e =
    let k = read-lines (lines s) r e in
    let w = subst (Good Mode.closed) e (good (lines s) Mode.closed) in
    (whole-sound r.pieces w.0 (subst (Each Clean) (sym k) (lines-clean s)), ap bytes k ∙ bytes-lines s h)

pub pieces-sound : (s : Bytes) (ps : List Piece) → is_ended s ≡ true → pieces s ≡ some ps → Each Sound ps × (bytes_of ps ≡ s)
unfolding pieces bytes_of
pieces-sound s ps h e = subst (SoundIn s) e (sound-in s (read_from Mode.closed (lines s)) h refl)

-- Whole pieces in any order read as those pieces.
pub sound-pieces : (ps : List Piece) → Each Sound ps → pieces (bytes_of ps) ≡ some ps
unfolding pieces bytes_of
sound-pieces ps h = ap (λ (ls : List Line). pieces_in (read_from Mode.closed ls)) (lines-bytes (all_lines ps) (sound-clean ps h)) ∙ ap pieces_in (whole-reads ps (each-imp Sound Whole (λ p s. s.1) ps h))

-- pieces one after another
allLines-append : (a b : List Piece) → all_lines (a ++ b) ≡ all_lines a ++ all_lines b
allLines-append [] b = refl
allLines-append (p ∷ a) b = ap (λ (x : List Line). lines_of p ++ x) (allLines-append a b) ∙ sym (append_assoc (lines_of p) (all_lines a) (all_lines b))

pub bytesOf-append : (a b : List Piece) → bytes_of (a ++ b) ≡ bytes_of a ++ bytes_of b
unfolding bytes_of
bytesOf-append a b = ap bytes (allLines-append a b) ∙ bytes-append (all_lines a) (all_lines b)

-- the blank line that an insert adds
pub newline-sound : Sound newline
newline-sound = ((tt, tt), refl)
