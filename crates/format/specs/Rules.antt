-- The rules of a descriptor.
use Rattle.std.specs.Prelude.{ℕ, Bool, true, false, ◌&&◌, ◌||◌, not, List, [], ◌∷◌, map, leb, ltb, eqb, length}
use Rattle.std.proofs.Math.Option
use Rattle.std.proofs.Math.Option.{Option, none, some}
use Rattle.format.specs.Lists.{onward, filter, flat, kept, always}
use Rattle.format.specs.Bytes.{Bytes, text, pick, all, any, same, among, is_some}
use Rattle.format.specs.Lines.{is_name, is_special}
use Rattle.format.specs.Records.{Field, Record}
use Rattle.format.specs.Sets.{values_of}
use Rattle.format.specs.Words.{first_word, after_word, words, split, is_type_name}
use Rattle.format.specs.Numbers.{Int, plus, minus, Bounds, number_of}
use Rattle.format.specs.Types.{Kind, int, range, real, line, size, enum, bool, field, uuid, Typed, Typedef, type_of, kind_of, meets}

-- "several such fields make a union": the words of all fields of one name
abbrev pub listed : Bytes → Record → List Bytes
listed n r = flat (map words (values_of n r))

abbrev pub mandatory : Record → List Bytes
mandatory r = listed (text "%mandatory") r

abbrev pub prohibited : Record → List Bytes
prohibited r = listed (text "%prohibit") r

abbrev pub allowed : Record → List Bytes
allowed r = listed (text "%allowed") r

abbrev pub unique : Record → List Bytes
unique r = listed (text "%unique") r

-- "Its names .. form a union like the others" (document 02, order 5)
abbrev pub singular : Record → List Bytes
singular r = listed (text "%singular") r

-- the names that an insert may omit (document 02, order 6)
abbrev pub auto : Record → List Bytes
auto r = listed (text "%auto") r

-- one name or none
abbrev pub key : Record → List Bytes
key r = listed (text "%key") r

-- "`%size`: .. one word, a number (exactly that many), or two words, one of `<` `<=` `>` `>=` and a number": a test of the record count
abbrev pub order_of : Bytes → Option (ℕ → ℕ → Bool)
order_of w =
    pick (same w (text "<")) (some (λ m n. ltb m n))
    (pick (same w (text "<=")) (some (λ m n. leb m n))
    (pick (same w (text ">")) (some (λ m n. ltb n m))
    (pick (same w (text ">=")) (some (λ m n. leb n m))
    none)))

-- an order and a number, where there are both
abbrev pub size_by : Option (ℕ → ℕ → Bool) → Option ℕ → Option (ℕ → Bool)
size_by order number = onward (λ (o : ℕ → ℕ → Bool). Option.map (λ (n : ℕ) (m : ℕ). o m n) number) order

abbrev pub size_rule : Bounds → List Bytes → Option (ℕ → Bool)
size_rule b [] = none
size_rule b (w ∷ []) = size_by (some (λ m n. eqb m n)) (number_of b w)
size_rule b (w ∷ v ∷ []) = size_by (order_of w) (number_of b v)
size_rule b (w ∷ v ∷ u ∷ us) = none

abbrev pub meets_size : Option (ℕ → Bool) → ℕ → Bool
meets_size none m = true
meets_size (some p) m = p m

-- "`%typedef`: a name and a type."
abbrev pub typedef_of : Bounds → Bytes → Option Typedef
typedef_of b v = Option.map (λ (t : Typed). record { name = first_word v; type = t }) (type_of b (after_word v))

abbrev pub typedefs_of : Bounds → Record → List Typedef
typedefs_of b r = kept (typedef_of b) (values_of (text "%typedef") r)

-- "`%type`: names joined by commas in one word, then a type"
pub record TypeRule : Type 0 where
  pub names : List Bytes
  pub kind : Kind

abbrev pub typed_names : Bytes → List Bytes
typed_names v = split 44 (first_word v)

-- the kind at the end of a type, where it has one
abbrev pub end_kind : Bounds → List Typedef → Bytes → Option Kind
end_kind b ds v = onward (kind_of ds) (type_of b (after_word v))

abbrev pub type_rule_of : Bounds → List Typedef → Bytes → Option TypeRule
type_rule_of b ds v = Option.map (λ (k : Kind). record { names = typed_names v; kind = k }) (end_kind b ds v)

abbrev pub type_rules : Bounds → Record → List TypeRule
type_rules b r = kept (type_rule_of b (typedefs_of b r)) (values_of (text "%type") r)

-- "all that name a field hold"
abbrev pub is_typed : Bounds → List TypeRule → Field → Bool
is_typed b ts f = all (λ (t : TypeRule). not (among f.name t.names) || meets b t.kind f.value) ts

-- are the fields of a descriptor well formed, each by the row of its name

pub record Shape : Type 0 where
  pub name : Bytes
  pub fits : Bytes → Bool

abbrev pub one : (Bytes → Bool) → List Bytes → Bool
one p [] = false
one p (w ∷ []) = p w
one p (w ∷ v ∷ ws) = false

abbrev pub several : (Bytes → Bool) → List Bytes → Bool
several p [] = false
several p (w ∷ ws) = all p (w ∷ ws)

abbrev pub name_list : Bytes → Bool
name_list v = several is_name (words v)

-- "none beginning with `%`"
abbrev pub is_ordinary : Bytes → Bool
is_ordinary n = is_name n && not (is_special n)

-- `%typedef` and `%type` fields have a question of their own
abbrev pub shapes : Bounds → List Shape
shapes b =
    record { name = text "%rec"; fits = λ (v : Bytes). one is_type_name (words v) } ∷
    record { name = text "%doc"; fits = always } ∷
    record { name = text "%mandatory"; fits = name_list } ∷
    record { name = text "%prohibit"; fits = name_list } ∷
    record { name = text "%allowed"; fits = name_list } ∷
    record { name = text "%unique"; fits = name_list } ∷
    record { name = text "%key"; fits = λ (v : Bytes). one is_name (words v) } ∷
    record { name = text "%size"; fits = λ (v : Bytes). is_some (size_rule b (words v)) } ∷
    record { name = text "%typedef"; fits = always } ∷
    record { name = text "%type"; fits = always } ∷
    record { name = text "%singular"; fits = name_list } ∷
    record { name = text "%auto"; fits = λ (v : Bytes). several is_ordinary (words v) } ∷ []

-- "Other `%` names are faults. Names without `%` have no effect."
abbrev pub is_shaped : Bounds → Field → Bool
is_shaped b f = not (is_special f.name) || any (λ (x : Shape). same f.name x.name && x.fits f.value) (shapes b)

-- "`%key`: at most one", "`%size`: at most one"
abbrev pub is_well_formed : Bounds → Record → Bool
is_well_formed b r = all (is_shaped b) r && leb (length (values_of (text "%key") r)) 1 && leb (length (values_of (text "%size") r)) 1

-- "No typedef is called by a kind's name or `email`, `date`, `regexp`, `rec`"
abbrev pub reserved : List Bytes
reserved = map text ("int" ∷ "range" ∷ "real" ∷ "line" ∷ "size" ∷ "enum" ∷ "bool" ∷ "field" ∷ "uuid" ∷ "email" ∷ "date" ∷ "regexp" ∷ "rec" ∷ [])

abbrev pub is_typedef_name : Bytes → Bool
is_typedef_name n = is_type_name n && not (among n reserved)

abbrev pub distinct : List Bytes → Bool
distinct [] = true
distinct (x ∷ xs) = not (among x xs) && distinct xs

-- "Missing names and loops are faults even if unused", "or defined twice"
abbrev pub are_types_defined : Bounds → Record → Bool
are_types_defined b r =
    let ds : List Typedef = typedefs_of b r in
    let tds : List Bytes = values_of (text "%typedef") r in
    let tys : List Bytes = values_of (text "%type") r in
    all (λ (v : Bytes). is_typedef_name (first_word v)) tds
    && all (λ (v : Bytes). is_some (end_kind b ds v)) tds
    && distinct (map first_word tds)
    && all (λ (v : Bytes). all is_name (typed_names v)) tys
    && all (λ (v : Bytes). is_some (end_kind b ds v)) tys

-- "fields whose types are all int or range, or that have no type"

-- the kinds that a name has
abbrev pub kinds_of : Bytes → List TypeRule → List Kind
kinds_of n ts = map (λ (t : TypeRule). t.kind) (filter (λ (t : TypeRule). among n t.names) ts)

-- ints from one to another, both included
pub record Span : Type 0 where
  pub low : Int
  pub high : Int

abbrev pub all_ints : Bounds → Span
all_ints b = record { low = minus b.least; high = plus b.greatest }

-- those of a kind, where it is int or range
abbrev pub span_of : Bounds → Kind → Option Span
span_of b int = some (all_ints b)
span_of b (range low high) = some (record { low = low; high = high })
span_of b real = none
span_of b line = none
span_of b (size n) = none
span_of b (enum ws) = none
span_of b bool = none
span_of b field = none
span_of b uuid = none

abbrev pub is_counted : Bounds → List TypeRule → Bytes → Bool
is_counted b ts n = all (λ (k : Kind). is_some (span_of b k)) (kinds_of n ts)

abbrev pub autos_counted : Bounds → Record → Bool
autos_counted b r = all (is_counted b (type_rules b r)) (auto r)

-- "An `%auto` field of any other type fails question 7."
abbrev pub is_typed_well : Bounds → Record → Bool
is_typed_well b r = are_types_defined b r && autos_counted b r
