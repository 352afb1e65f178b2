-- No line is lost: the open field's lines and the lines of the pieces are the lines read.
use mathlib.Core.Path.{◌≡◌, refl, sym, ap, ◌∙◌, subst}
use mathlib.Core.List.{List, [], ◌∷◌, ◌++◌}
use mathlib.Core.Option.{Option, none, some}
use Rattle.format.specs.Lists.{onward}
use Rattle.format.specs.Lines.{Line, Form, form}
use Rattle.format.specs.Pieces.{all_lines, Mode, after, unopened, seen, Reading, take_line, at_end, read_from}

abbrev Kept : List Line → Option Reading → Type 0
Kept ls none = Unit {0}
Kept ls (some r) = r.own ++ all_lines r.pieces ≡ ls

-- where no field is open none has lines
abbrev Unowned : Mode → Option Reading → Type 0
Unowned Mode.closed none = Unit {0}
Unowned Mode.closed (some r) = r.own ≡ []
Unowned Mode.opened x = Unit {0}
Unowned Mode.joined x = Unit {0}

unowned-in : (F : Form) (l : Line) (x : Option Reading) → Unowned Mode.closed (onward (take_line (unopened F) l) x)
unowned-in F l none = tt
unowned-in Form.blank l (some r) = refl
unowned-in Form.comment l (some r) = refl
unowned-in (Form.field n v) l (some r) = refl
unowned-in (Form.more v) l (some r) = tt
unowned-in Form.fault l (some r) = tt

unowned : (ls : List Line) (m : Mode) → Unowned m (read_from m ls)
unowned [] Mode.closed = refl
unowned (l ∷ ls) Mode.closed = unowned-in (form l) l (read_from (after (unopened (form l))) ls)
unowned ls Mode.opened = tt
unowned ls Mode.joined = tt

all-kept : (ls : List Line) (r : Reading) → r.own ≡ [] → Kept ls (some r) → all_lines r.pieces ≡ ls
all-kept ls r c k = sym (ap (λ (o : List Line). o ++ all_lines r.pieces) c) ∙ k

kept-take : (F : Form) (l : Line) (ls : List Line) (r : Reading) → Unowned (after F) (some r) → Kept ls (some r) → Kept (l ∷ ls) (take_line F l r)
kept-take Form.blank l ls r c k = ap (λ (x : List Line). l ∷ x) (all-kept ls r c k)
kept-take Form.comment l ls r c k = ap (λ (x : List Line). l ∷ x) (all-kept ls r c k)
kept-take (Form.field n v) l ls r c k = ap (λ (x : List Line). l ∷ x) k
kept-take (Form.more v) l ls r c k = ap (λ (x : List Line). l ∷ x) k
kept-take Form.fault l ls r c k = tt

kept_in : (F : Form) (l : Line) (ls : List Line) (x : Option Reading) → Unowned (after F) x → Kept ls x → Kept (l ∷ ls) (onward (take_line F l) x)
kept_in F l ls none c k = tt
kept_in F l ls (some r) c k = kept-take F l ls r c k

kept-end : (m : Mode) → Kept [] (at_end m)
kept-end Mode.closed = refl
kept-end Mode.opened = refl
kept-end Mode.joined = tt

kept : (ls : List Line) (m : Mode) → Kept ls (read_from m ls)
kept [] m = kept-end m
kept (l ∷ ls) m = kept_in (seen m l) l ls (read_from (after (seen m l)) ls) (unowned ls (after (seen m l))) (kept ls (after (seen m l)))

-- the lines of a file's pieces are the file's lines
pub read-lines : (ls : List Line) (r : Reading) → read_from Mode.closed ls ≡ some r → all_lines r.pieces ≡ ls
read-lines ls r e = all-kept ls r (subst (Unowned Mode.closed) e (unowned ls Mode.closed)) (subst (Kept ls) e (kept ls Mode.closed))
