-- The records of a file one after another, and its sets gathered from them: what a walk over the file meets, and that it is what the groups say.
use mathlib.Core.Path.{◌≡◌, refl, sym, ap, ◌∙◌, subst}
use mathlib.Core.Bool.{Bool, true, false, ◌&&◌, not, false≢true}
use mathlib.Core.List.{List, [], ◌∷◌, map}
use mathlib.Core.Option.{Option, none, some}
use lib.ListN.{get_or}
use Rattle.format.specs.Bytes.{Bytes, pick}
use Rattle.format.specs.Lists.{only_if, is_filled, keep, kept, onto, cut_at}
use Rattle.format.specs.Words.{first_word}
use Rattle.format.specs.Pieces.{Piece}
use Rattle.format.specs.Records.{Record, Block, blocks, fields_of}
use Rattle.format.specs.Sets.{rec_values, is_descriptor, Group, member_of, RecSet, rules_of, set_of, sets_of}
use Rattle.format.proofs.Elements.{Each}
use Rattle.format.proofs.Lists.{None, Parted, cut-parted}
use Rattle.format.proofs.Named.{Member}
use Rattle.format.proofs.Grouping.{rules-none, set_by}

-- the records of blocks, one after another

abbrev pub close : Record → List Record → List Record
close [] rs = rs
close (f ∷ fs) rs = (f ∷ fs) ∷ rs

abbrev pub records_in : List Block → List Record
records_in [] = []
records_in (b ∷ bs) = close (fields_of b) (records_in bs)

unfoldable pub records : List Piece → List Record
records ps = records_in (blocks ps)

-- the sets of records: a record goes to the front of the first set, and a descriptor takes the records gathered so far

abbrev pub default : List Record → RecSet
default rs = record { name = []; rules = []; members = rs }

abbrev pub enters : List Bytes → Record → List RecSet → List RecSet
enters [] r [] = default (r ∷ []) ∷ []
enters [] r (s ∷ ss) = record { name = s.name; rules = s.rules; members = r ∷ s.members } ∷ ss
enters (v ∷ vs) r [] = default [] ∷ record { name = first_word v; rules = r; members = [] } ∷ []
enters (v ∷ vs) r (s ∷ ss) = default [] ∷ record { name = first_word v; rules = r; members = s.members } ∷ ss

abbrev pub sets : List Record → List RecSet
sets [] = default [] ∷ []
sets (r ∷ rs) = enters (rec_values r) r (sets rs)

-- one more block in front of groups

abbrev entered : Record → List Bytes → List RecSet → List RecSet
entered [] vs ss = ss
entered (f ∷ fs) vs ss = enters vs (f ∷ fs) ss

abbrev member_by : Record → Option Record
member_by r = only_if (is_filled r && not (is_filled (rec_values r))) r

module _ (b : Block) (g : Group) (gs : List Group) (plain : None is_descriptor g) where
  behind-plain : is_descriptor b ≡ false → rules_of (b ∷ g) ≡ rules_of g
  behind-plain d = ap (λ (t : Bool). pick t (fields_of b) []) d ∙ sym (rules-none g plain)

  front-set : (r : Record) (vs : List Bytes) → fields_of b ≡ r → rec_values r ≡ vs → map set_of (pick (is_filled vs) ([] ∷ onto b (g ∷ gs)) (onto b (g ∷ gs))) ≡ entered r vs (map set_of (g ∷ gs))
  front-set [] [] e f =
      let r = behind-plain (ap (λ (x : Record). is_filled (rec_values x)) e) in
      λ i. set_by (r i) (keep (member_by (e i)) (kept member_of g)) ∷ map set_of gs
  front-set [] (v ∷ vs) e f = absurd (false≢true (ap is_filled f))
  front-set (h ∷ hs) [] e f =
      let r = behind-plain (ap (λ (x : Record). is_filled (rec_values x)) e ∙ ap is_filled f) in
      let m : member_of b ≡ some (h ∷ hs) = ap member_by e ∙ ap (λ (vs : List Bytes). only_if (not (is_filled vs)) (h ∷ hs)) f in
      λ i. set_by (r i) (keep (m i) (kept member_of g)) ∷ map set_of gs
  front-set (h ∷ hs) (v ∷ vs) e f =
      let d : is_descriptor b ≡ true = ap (λ (x : Record). is_filled (rec_values x)) e ∙ ap is_filled f in
      let r : rules_of (b ∷ g) ≡ h ∷ hs = ap (λ (t : Bool). pick t (fields_of b) []) d ∙ e in
      let m : member_of b ≡ none = ap member_by e ∙ ap (λ (vs : List Bytes). only_if (not (is_filled vs)) (h ∷ hs)) f in
      (λ i. set_by [] [] ∷ set_by (r i) (keep (m i) (kept member_of g)) ∷ map set_of gs)
      ∙ (λ i. set_by [] [] ∷ record { name = first_word (get_or (f i) 0 []); rules = h ∷ hs; members = kept member_of g } ∷ map set_of gs)

entered-close : (r : Record) (rs : List Record) → entered r (rec_values r) (sets rs) ≡ sets (close r rs)
entered-close [] rs = refl
entered-close (f ∷ fs) rs = refl

front-sets : (b : Block) (gs : List Group) → Parted is_descriptor true gs → map set_of (pick (is_descriptor b) ([] ∷ onto b gs) (onto b gs)) ≡ entered (fields_of b) (rec_values (fields_of b)) (map set_of gs)
front-sets b [] h = absurd h
front-sets b (g ∷ gs) h = front-set b g gs h.0 (fields_of b) (rec_values (fields_of b)) refl refl

blocks-sets : (bs : List Block) → map set_of (cut_at is_descriptor bs) ≡ sets (records_in bs)
blocks-sets [] = refl
blocks-sets (b ∷ bs) =
    front-sets b (cut_at is_descriptor bs) (cut-parted is_descriptor bs)
    ∙ ap (entered (fields_of b) (rec_values (fields_of b))) (blocks-sets bs)
    ∙ entered-close (fields_of b) (records_in bs)

-- the sets of the groups are those of the records
pub sets-records : (ps : List Piece) → sets_of ps ≡ sets (records ps)
unfolding sets_of records
sets-records ps = blocks-sets (blocks ps)

-- The default set comes first, then each set with a descriptor that holds its name, and no descriptor is among the members.

abbrev pub Names : List Bytes → Bytes → Type 0
Names [] n = ⊥
Names (v ∷ vs) n = first_word v ≡ n

abbrev pub Described : RecSet → Type 0
Described s = Names (rec_values s.rules) s.name × Each Member s.members

abbrev pub GoodSets : List RecSet → Type 0
GoodSets [] = ⊥
GoodSets (s ∷ ss) = (s.name ≡ []) × (s.rules ≡ []) × Each Member s.members × Each Described ss

good-enters : (vs : List Bytes) (r : Record) (ss : List RecSet) → rec_values r ≡ vs → GoodSets ss → GoodSets (enters vs r ss)
good-enters vs r [] e g = absurd g
good-enters [] r (s ∷ ss) e g = (g.0, g.1, (e, g.2), g.3)
good-enters (v ∷ vs) r (s ∷ ss) e g = (refl, refl, tt, ((subst (λ (x : List Bytes). Names x (first_word v)) (sym e) refl, g.2), g.3))

pub good-sets : (rs : List Record) → GoodSets (sets rs)
good-sets [] = (refl, refl, tt, tt)
good-sets (r ∷ rs) = good-enters (rec_values r) r (sets rs) refl (good-sets rs)
