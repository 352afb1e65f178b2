-- Expressions (document 02, order 11), and the grammar as a relation between them and bytes. How bytes are read is another matter (`Reading`).
use Rattle.std.specs.Prelude.{ℕ, suc, ◌≤◌, ◌≡◌, Bool, true, false, not, [], ◌∷◌, ◌++◌, eqb, length}
use Rattle.std.proofs.Math.Option.{some}
use Rattle.format.specs.Bytes.{Bytes, text, all, is_blank}
use Rattle.format.specs.Lines.{is_name}
use Rattle.format.specs.Numbers.{Int, int_bounds, int_of}

-- "one of `=` `!=` `<` `<=` `>` `>=`"
pub data Operator : Type 0 where
  equals : Operator
  differs : Operator
  less_than : Operator
  at_most : Operator
  more_than : Operator
  at_least : Operator

-- "and an int or a quoted string"
pub data Operand : Type 0 where
  int : Int → Operand
  string : Bytes → Operand

pub data Expression : Type 0 where
  comparison : Bytes → Operator → Operand → Expression
  negation : Expression → Expression
  conjunction : Expression → Expression → Expression
  disjunction : Expression → Expression → Expression

-- the signs, and the parts of an expression: names, operands and signs
pub data Sign : Type 0 where
  comparing : Operator → Sign
  not_sign : Sign
  and_sign : Sign
  or_sign : Sign
  open_sign : Sign
  close_sign : Sign

pub data Part : Type 0 where
  field_name : Bytes → Part
  operand : Operand → Part
  sign : Sign → Part

abbrev pub sign_bytes : Sign → Bytes
sign_bytes (comparing equals) = text "="
sign_bytes (comparing differs) = text "!="
sign_bytes (comparing less_than) = text "<"
sign_bytes (comparing at_most) = text "<="
sign_bytes (comparing more_than) = text ">"
sign_bytes (comparing at_least) = text ">="
sign_bytes not_sign = text "!"
sign_bytes and_sign = text "&&"
sign_bytes or_sign = text "||"
sign_bytes open_sign = text "("
sign_bytes close_sign = text ")"

-- "between `'` marks, none inside"
abbrev pub is_in_string : ℕ → Bool
is_in_string c = not (eqb c 39)

-- which bytes a part is spelt with; blanks stand between parts, "within a part none"
pub data Spells : Bytes → Part → Type 0 where
  spells_name : (w : Bytes) → is_name w ≡ true → Spells w (field_name w)
  spells_int : (w : Bytes) (z : Int) → int_of int_bounds w ≡ some z → Spells w (operand (int z))
  spells_string : (w : Bytes) → all is_in_string w ≡ true → Spells (39 ∷ (w ++ (39 ∷ []))) (operand (string w))
  spells_sign : (g : Sign) → Spells (sign_bytes g) (sign g)

-- A place is told by the bytes from there on. At place s, after any blanks, there is a part, and it ends at place t.
pub data PartAt : Bytes → Part → Bytes → Type 0 where
  behind_blank : {s t : Bytes} {p : Part} (c : ℕ) → is_blank c ≡ true → PartAt s p t → PartAt (c ∷ s) p t
  at_once : {w : Bytes} {p : Part} (t : Bytes) → Spells w p → PartAt (w ++ t) p t

-- "Strings take only `=` and `!=`"
abbrev pub takes_strings : Operator → Bool
takes_strings equals = true
takes_strings differs = true
takes_strings less_than = false
takes_strings at_most = false
takes_strings more_than = false
takes_strings at_least = false

-- The three lines of the grammar: the bytes between places s and t are such an expression, with n parentheses open at once at the most.
--     or = and | or "||" and      and = unary | and "&&" unary      unary = "!" unary | "(" or ")" | name op int | name ("=" | "!=") string
mutual
  pub data Or : ℕ → Bytes → Bytes → Expression → Type 0 where
    or_one : {n : ℕ} {s t : Bytes} {e : Expression} → And n s t e → Or n s t e
    or_more : {n : ℕ} {s t u v : Bytes} {e f : Expression} → Or n s t e → PartAt t (sign or_sign) u → And n u v f → Or n s v (disjunction e f)

  pub data And : ℕ → Bytes → Bytes → Expression → Type 0 where
    and_one : {n : ℕ} {s t : Bytes} {e : Expression} → Unary n s t e → And n s t e
    and_more : {n : ℕ} {s t u v : Bytes} {e f : Expression} → And n s t e → PartAt t (sign and_sign) u → Unary n u v f → And n s v (conjunction e f)

  pub data Unary : ℕ → Bytes → Bytes → Expression → Type 0 where
    unary_not : {n : ℕ} {s t u : Bytes} {e : Expression} → PartAt s (sign not_sign) t → Unary n t u e → Unary n s u (negation e)
    unary_group : {n : ℕ} {s t u v : Bytes} {e : Expression} → PartAt s (sign open_sign) t → Or n t u e → PartAt u (sign close_sign) v → Unary (suc n) s v e
    unary_int : {n : ℕ} {s t u v : Bytes} {m : Bytes} {o : Operator} {z : Int} → PartAt s (field_name m) t → PartAt t (sign (comparing o)) u → PartAt u (operand (int z)) v → Unary n s v (comparison m o (int z))
    unary_string : {n : ℕ} {s t u v : Bytes} {m : Bytes} {o : Operator} {w : Bytes} → PartAt s (field_name m) t → PartAt t (sign (comparing o)) u → takes_strings o ≡ true → PartAt u (operand (string w)) v → Unary n s v (comparison m o (string w))

-- all of the bytes are the expression, blanks behind it included; neither limit is asked
pub record Written (n : ℕ) (s : Bytes) (e : Expression) : Type 0 where
  pub end : Bytes
  pub expression : Or n s end e
  pub blanks : all is_blank end ≡ true

-- "parentheses nest up to 16 deep", "An expression has at most 256 bytes."
abbrev pub open_at_most : ℕ
open_at_most = 16

abbrev pub bytes_at_most : ℕ
bytes_at_most = 256

pub record IsExpression (s : Bytes) (e : Expression) : Type 0 where
  pub stands : Written open_at_most s e
  pub fits : length s ≤ bytes_at_most
