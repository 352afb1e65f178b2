-- Records whose fields' names have something: they keep it under an edit whose new names have it.
use Prim.Native.Nat.{ℕ}
use mathlib.Core.Path.{◌≡◌, refl, ap, ◌∙◌, subst}
use mathlib.Core.Bool.{Bool, true, false}
use mathlib.Core.List.{List, [], ◌∷◌, map}
use Rattle.format.specs.Bytes.{Bytes, text, pick, same}
use Rattle.format.specs.Lists.{is_filled, filter, always}
use Rattle.format.specs.Records.{Field, Record}
use Rattle.format.specs.Sets.{rec_values}
use Rattle.format.specs.Written.{Pair, new_field}
use Rattle.format.specs.Edits.{Change, Act, Edit, is_named, change_field, in_record, in_members}
use Rattle.format.proofs.Elements.{Each, each_append, each_map, Filled}
use Rattle.format.proofs.Lists.{each_on}

abbrev pub Named : (Bytes → Type 0) → Record → Type 0
Named P r = Each (λ (f : Field). P f.name) r

-- the new names of an edit
abbrev pub NewName : (Bytes → Type 0) → Act → Type 0
NewName P Act.delete = Unit {0}
NewName P (Act.add p) = P p.name
NewName P (Act.change n o (Change.value w)) = Unit {0}
NewName P (Act.change n o Change.dropped) = Unit {0}
NewName P (Act.change n o (Change.name m)) = P m

abbrev pub NewNames : (Bytes → Type 0) → Edit → Type 0
NewNames P (Edit.insert new) = Each (λ (p : Pair). P p.name) new
NewNames P (Edit.on j a) = NewName P a

module _ (P : Bytes → Type 0) where
  abbrev Ok : Field → Type 0
  Ok f = P f.name

  pub named_new : (ps : List Pair) → Each (λ (p : Pair). P p.name) ps → Named P (map new_field ps)
  named_new ps h = each_map Ok new_field ps h

  named-change : (n : Bytes) (o : ℕ) (c : Change) → NewName P (Act.change n o c) → (f : Field) → P f.name → Named P (change_field c f)
  named-change n o (Change.value w) h f k = (k, tt)
  named-change n o Change.dropped h f k = tt
  named-change n o (Change.name m) h f k = (h, tt)

  pub named_in : (a : Act) → NewName P a → (r : Record) → Named P r → Named P (in_record a r)
  named_in Act.delete h r k = tt
  named_in (Act.add p) h r k = each_append Ok r (new_field p ∷ []) k (h, tt)
  named_in (Act.change n o c) h r k = each_on Ok (is_named n) (change_field c) (λ f q e. named-change n o c h f q) r k o

  named-left : (r : Record) → Named P r → Each (Named P) (filter is_filled (r ∷ []))
  named-left [] h = tt
  named-left (f ∷ fs) h = (h, tt)

  pub named-members : (e : Edit) → NewNames P e → (ms : List Record) → Each (Named P) ms → Each (Named P) (in_members e ms)
  named-members (Edit.insert new) h ms k = each_append (Named P) ms (map new_field new ∷ []) k (named_new new h, tt)
  named-members (Edit.on j a) h ms k = each_on (Named P) always (λ (r : Record). filter is_filled (in_record a r ∷ [])) (λ r q e. named-left (in_record a r) (named_in a h r q)) ms k j

-- no field is called `%rec`: the record is no descriptor

abbrev pub NotRec : Bytes → Type 0
NotRec n = same (text "%rec") n ≡ false

abbrev pub Member : Record → Type 0
Member r = rec_values r ≡ []

none-by : (b : Bool) (v : Bytes) (vs : List Bytes) → pick b (v ∷ vs) vs ≡ [] → (b ≡ false) × (vs ≡ [])
none-by true v vs e = absurd (subst Filled e tt)
none-by false v vs e = (refl, e)

pub member-named : (r : Record) → Member r → Named NotRec r
member-named [] h = tt
member-named (f ∷ fs) h = let k = none-by (same (text "%rec") f.name) f.value (rec_values fs) h in (k.0, member-named fs k.1)

pub named-member : (r : Record) → Named NotRec r → Member r
named-member [] h = refl
named-member (f ∷ fs) h = ap (λ (b : Bool). pick b (f.value ∷ rec_values fs) (rec_values fs)) h.0 ∙ named-member fs h.1

pub member-new : (ps : List Pair) → Each (λ (p : Pair). NotRec p.name) ps → Member (map new_field ps)
member-new ps h = named-member (map new_field ps) (named_new NotRec ps h)

pub member-in : (a : Act) → NewName NotRec a → (r : Record) → Member r → Member (in_record a r)
member-in a n r m = named-member (in_record a r) (named_in NotRec a n r (member-named r m))
