-- The reader of expressions, which computes: it cuts the bytes into parts, and groups these one after another.
use Rattle.std.specs.Prelude.{ℕ, zero, suc, Bool, true, false, ◌&&◌, ◌||◌, List, [], ◌∷◌, eqb, leb, length}
use Rattle.std.proofs.Math.Option.{Option, none, some}
use Rattle.format.specs.Bytes.{Bytes, pick, is_digit, is_blank}
use Rattle.format.specs.Lists.{onward, front}
use Rattle.format.specs.Lines.{is_first, is_later}
use Rattle.format.specs.Numbers.{Int, int_bounds, int_of}
use Rattle.selection.specs.Expressions.{Operator, equals, differs, less_than, at_most, more_than, at_least, Operand, int, string, Expression, comparison, negation, conjunction, disjunction}
use Rattle.selection.specs.Expressions.{Sign, comparing, not_sign, and_sign, or_sign, open_sign, close_sign, Part, field_name, operand, sign, sign_bytes, is_in_string, takes_strings, open_at_most, bytes_at_most}

-- Cutting

-- is a text at the front of another
abbrev pub begins_with : Bytes → Bytes → Bool
begins_with [] s = true
begins_with (x ∷ w) [] = false
begins_with (x ∷ w) (y ∷ s) = eqb x y && begins_with w s

-- the sign at the front of a text; those of two bytes are tried before those of one
abbrev pub all_signs : List Sign
all_signs = comparing differs ∷ comparing at_most ∷ comparing at_least ∷ comparing equals ∷ comparing less_than ∷ comparing more_than ∷ not_sign ∷ and_sign ∷ or_sign ∷ open_sign ∷ close_sign ∷ []

abbrev pub sign_among : List Sign → Bytes → Option Sign
sign_among [] s = none
sign_among (g ∷ gs) s = pick (begins_with (sign_bytes g) s) (some g) (sign_among gs s)

-- the front of a text: one blank, one part with its number of bytes, or no part
pub data Front : Type 0 where
  no_part : Front
  one_blank : Front
  one_part : Part → ℕ → Front

abbrev pub sign_front : Option Sign → Front
sign_front none = no_part
sign_front (some g) = one_part (sign g) (length (sign_bytes g))

abbrev pub int_front : ℕ → Option Int → Front
int_front n none = no_part
int_front n (some z) = one_part (operand (int z)) n

abbrev pub name_front : Bytes → Front
name_front w = one_part (field_name w) (length w)

abbrev pub string_front : Bytes → Front
string_front w = one_part (operand (string w)) (suc (suc (length w)))

abbrev pub is_int_first : ℕ → Bool
is_int_first c = is_digit c || eqb c 45

-- A name and an int go on as long as they may; a string without its second mark is told to be longer than the text.
abbrev pub front_of : ℕ → Bytes → Front
front_of c s =
    pick (is_first c) (name_front (c ∷ front is_later s))
    (pick (is_int_first c) (int_front (suc (length (front is_later s))) (int_of int_bounds (c ∷ front is_later s)))
    (pick (is_blank c) one_blank
    (pick (eqb c 39) (string_front (front is_in_string s))
    (sign_front (sign_among all_signs (c ∷ s))))))

-- how many bytes it has, where it is no part one
abbrev pub front_bytes : Front → ℕ
front_bytes no_part = 1
front_bytes one_blank = 1
front_bytes (one_part p n) = n

-- how many bytes it has behind the first one; and what it adds to the parts behind it
abbrev pub one_less : ℕ → ℕ
one_less zero = zero
one_less (suc n) = n

abbrev pub size_behind : Front → ℕ
size_behind no_part = zero
size_behind one_blank = zero
size_behind (one_part p n) = one_less n

abbrev pub with_front : Front → List Part → Option (List Part)
with_front no_part ps = none
with_front one_blank ps = some ps
with_front (one_part p n) ps = some (p ∷ ps)

-- the parts of a text without its first bytes, if it has so many
abbrev pub parts_behind : ℕ → Bytes → Option (List Part)
parts_behind zero [] = some []
parts_behind (suc k) [] = none
parts_behind (suc k) (c ∷ s) = parts_behind k s
parts_behind zero (c ∷ s) = onward (with_front (front_of c s)) (parts_behind (size_behind (front_of c s)) s)

unfoldable pub parts_of : Bytes → Option (List Part)
parts_of s = parts_behind zero s

-- Grouping

-- A level of parentheses that is being read: the operand left of its last `||`, the one between that and its last `&&`, and the number of `!` behind both.
pub record Level : Type 0 where
  pub ored : Option Expression
  pub anded : Option Expression
  pub nots : ℕ

abbrev pub empty_level : Level
empty_level = record { ored = none; anded = none; nots = zero }

-- Where the reading of a level is: it wants an operand, has its name, has its operator too, or is done with it; then the expression is what stands behind the last `||`.
pub data Stage : Type 0 where
  wanting : Level → Stage
  naming : Level → Bytes → Stage
  holding : Level → Bytes → Operator → Stage
  done : Option Expression → Expression → Stage

-- a reader: the stage of its level, the levels around that, and how many more may be opened
pub record Reader : Type 0 where
  pub room : ℕ
  pub outer : List Level
  pub stage : Stage

abbrev pub reader : ℕ → List Level → Stage → Option Reader
reader n k x = some (record { room = n; outer = k; stage = x })

abbrev pub negated_by : ℕ → Expression → Expression
negated_by zero e = e
negated_by (suc b) e = negated_by b (negation e)

abbrev pub and_with : Option Expression → Expression → Expression
and_with none e = e
and_with (some a) e = conjunction a e

abbrev pub or_with : Option Expression → Expression → Expression
or_with none e = e
or_with (some a) e = disjunction a e

-- a level with an operand read: its `!` first, then its `&&`
abbrev pub operand_on : Level → Expression → Stage
operand_on f e = done f.ored (and_with f.anded (negated_by f.nots e))

abbrev pub one_not : Level → Level
one_not f = record { ored = f.ored; anded = f.anded; nots = suc f.nots }

abbrev pub level_opened : ℕ → List Level → Level → Option Reader
level_opened zero k f = none
level_opened (suc n) k f = reader n (f ∷ k) (wanting empty_level)

abbrev pub level_closed : ℕ → List Level → Expression → Option Reader
level_closed n [] e = none
level_closed n (f ∷ k) e = reader (suc n) k (operand_on f e)

-- "Strings take only `=` and `!=`"
abbrev pub may_take : Operator → Operand → Bool
may_take o (int z) = true
may_take o (string w) = takes_strings o

abbrev pub advance : ℕ → List Level → Stage → Part → Option Reader
advance n k (wanting f) (field_name m) = reader n k (naming f m)
advance n k (wanting f) (operand v) = none
advance n k (wanting f) (sign (comparing o)) = none
advance n k (wanting f) (sign not_sign) = reader n k (wanting (one_not f))
advance n k (wanting f) (sign and_sign) = none
advance n k (wanting f) (sign or_sign) = none
advance n k (wanting f) (sign open_sign) = level_opened n k f
advance n k (wanting f) (sign close_sign) = none
advance n k (naming f m) (field_name l) = none
advance n k (naming f m) (operand v) = none
advance n k (naming f m) (sign (comparing o)) = reader n k (holding f m o)
advance n k (naming f m) (sign not_sign) = none
advance n k (naming f m) (sign and_sign) = none
advance n k (naming f m) (sign or_sign) = none
advance n k (naming f m) (sign open_sign) = none
advance n k (naming f m) (sign close_sign) = none
advance n k (holding f m o) (field_name l) = none
advance n k (holding f m o) (operand v) = pick (may_take o v) (reader n k (operand_on f (comparison m o v))) none
advance n k (holding f m o) (sign g) = none
advance n k (done l e) (field_name m) = none
advance n k (done l e) (operand v) = none
advance n k (done l e) (sign (comparing o)) = none
advance n k (done l e) (sign not_sign) = none
advance n k (done l e) (sign and_sign) = reader n k (wanting (record { ored = l; anded = some e; nots = zero }))
advance n k (done l e) (sign or_sign) = reader n k (wanting (record { ored = some (or_with l e); anded = none; nots = zero }))
advance n k (done l e) (sign open_sign) = none
advance n k (done l e) (sign close_sign) = level_closed n k (or_with l e)

-- behind the last part: done with an operand, and with no level around
abbrev pub at_end : List Level → Stage → Option Expression
at_end k (wanting f) = none
at_end k (naming f m) = none
at_end k (holding f m o) = none
at_end [] (done l e) = some (or_with l e)
at_end (f ∷ k) (done l e) = none

abbrev pub grouped_from : List Part → Reader → Option Expression
grouped_from [] r = at_end r.outer r.stage
grouped_from (p ∷ ps) r = onward (grouped_from ps) (advance r.room r.outer r.stage p)

abbrev pub beginning : Reader
beginning = record { room = open_at_most; outer = []; stage = wanting empty_level }

unfoldable pub read_expression : Bytes → Option Expression
unfolding parts_of
read_expression s = onward (λ (ps : List Part). pick (leb (length s) bytes_at_most) (grouped_from ps beginning) none) (parts_of s)
