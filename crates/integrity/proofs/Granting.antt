-- What questions 4, 6 and 7 grant of each record, and questions 7 to 14 over the rows of descriptors.
use Prim.Native.Nat.{ℕ, ◌+◌, ◌≤◌, ◌<◌}
use native.Mathlib.Omega.{arith}
use mathlib.Core.Path.{◌≡◌, refl, sym, ap, ◌∙◌, subst}
use mathlib.Core.Bool.{Bool, true, false, ◌&&◌, ◌||◌, not, and-eq-true_iff, false≢true}
use mathlib.Core.List.{List, [], ◌∷◌, ◌++◌, append-nil}
use borrow.Author.Tests.{ltb-true, ltb-false}
use lib.Dec.{leb, ltb}
use lib.ListN.{length, get_or}
use Rattle.format.specs.Bytes.{Bytes, pick, all}
use Rattle.format.specs.Limits.{file_bytes, descriptors}
use Rattle.format.specs.Numbers.{int_bounds}
use Rattle.format.specs.Records.{Record}
use Rattle.format.specs.Rules.{is_well_formed, autos_counted, are_types_defined, is_typed_well, distinct}
use Rattle.format.specs.Questions.{fits_record, fits_rules}
use Rattle.format.proofs.Elements.{Each, each_both, each-imp, each-parts, all-each}
use Rattle.format.proofs.Least.{least}
use Rattle.format.proofs.Judging.{set_no}
use Rattle.format.proofs.Walking.{is_head, heads, head_names, before, ruled, walk_fits, walk_well, walk_types, walk_no}
use Rattle.format.specs.Pieces.{read_of}
use Rattle.format.proofs.Records.{records}
use Rattle.words.specs.Spans.{span}
use Rattle.records.specs.Places.{is_readable}
use Rattle.records.specs.Walk.{record_in}
use Rattle.records.specs.Heads.{HeadHere, HeadRows, HeadParts, row_from}
use Rattle.records.proofs.Cuts.{records_from}
use Rattle.records.proofs.Rows.{plain_by, heads-asked, MembersAt, row_next, row-heads, row-members, row-rest}
use Rattle.dictionary.specs.Known.{Described}
use Rattle.rules.proofs.Leasts.{least-none, least-assoc}
use Rattle.rules.specs.Described.{IsRules, AllFit}
use Rattle.integrity.specs.Stages.{IsFormed, Granted}

-- a record holds its limits; a descriptor its own too, and it is well formed
pub record Formed (r : Record) : Type 0 where
  pub fits : fits_record r ≡ true
  pub few : is_head r ≡ true → fits_rules r ≡ true
  pub well : is_head r ≡ true → is_well_formed int_bounds r ≡ true

-- and its types are
pub record Right (r : Record) : Type 0 where
  pub formed : Formed r
  pub typed : is_head r ≡ true → is_typed_well int_bounds r ≡ true

if-head : (h b : Bool) → (not h || b) ≡ true → h ≡ true → b ≡ true
if-head true b e k = e
if-head false b e k = absurd (false≢true k)

pub formed-each : (rs : List Record) → walk_fits rs ≡ true → walk_well int_bounds rs ≡ true → Each Formed rs
formed-each rs e g =
    let p : Record → Bool = λ (r : Record). fits_record r && (not (is_head r) || fits_rules r) in
    let w : Record → Bool = λ (r : Record). not (is_head r) || is_well_formed int_bounds r in
    let fit = all-each p rs ((and-eq-true_iff (all p rs) (leb (length (heads rs)) descriptors)).0 e).0 in
    let well = all-each w rs ((and-eq-true_iff (all w rs) (distinct (head_names rs))).0 g).0 in
    each-imp (λ (r : Record). (p r ≡ true) × (w r ≡ true)) Formed
    (λ r h. let k = (and-eq-true_iff (fits_record r) (not (is_head r) || fits_rules r)).0 h.0 in record { fits = k.0; few = if-head (is_head r) (fits_rules r) k.1; well = if-head (is_head r) (is_well_formed int_bounds r) h.1 })
    rs (each_both (λ (r : Record). p r ≡ true) (λ (r : Record). w r ≡ true) rs fit well)

pub granted-each : (rs : List Record) → Granted rs → Each Right rs
granted-each rs g =
    let t : Record → Bool = λ (r : Record). not (is_head r) || is_typed_well int_bounds r in
    each-imp (λ (r : Record). Formed r × (t r ≡ true)) Right
    (λ r h. record { formed = h.0; typed = if-head (is_head r) (is_typed_well int_bounds r) h.1 })
    rs (each_both Formed (λ (r : Record). t r ≡ true) rs (formed-each rs g.fit g.well) (all-each t rs g.types))

-- the members of a set hold their limits
before-by : (b : Bool) (r : Record) (rs : List Record) → fits_record r ≡ true → AllFit rs → AllFit (pick b [] (r ∷ rs))
before-by true r rs h k = refl
before-by false r rs h k = (and-eq-true_iff (fits_record r) (all fits_record rs)).1 (h, k)

before-fit : (rs : List Record) → Each Right rs → AllFit (before rs)
before-fit [] h = refl
before-fit (r ∷ rs) h = before-by (is_head r) r (before rs) h.0.formed.fits (before-fit rs h.1)

-- a descriptor's part, and the members' part of its set
module _ (d : Bytes) (e : is_readable d ≡ true) (h : is_head (record_in d) ≡ true) where
  formed-part : Formed (record_in d) → IsFormed d
  formed-part r = record { reads = e; fits = r.fits; few = r.few h; well = r.well h }

  rules-each : Right (record_in d) → IsRules d
  rules-each r =
      let defined = ((and-eq-true_iff (are_types_defined int_bounds (record_in d)) (autos_counted int_bounds (record_in d))).0 (r.typed h)).0 in
      record { reads = e; fits = r.formed.fits; few = r.formed.few h; well = r.formed.well h; typed = defined }

-- and one whose types are defined
pub defined-part : (d : Bytes) → IsFormed d → length d ≤ file_bytes → are_types_defined int_bounds (record_in d) ≡ true → Described d
defined-part d f s e = record { reads = f.reads; short = s; fits = f.fits; few = f.few; well = f.well; typed = e }

-- the number of the sets of records with no descriptor in front of others
no_plain : (xs ys : List Record) → heads xs ≡ [] → walk_no int_bounds (xs ++ ys) ≡ walk_no int_bounds ys
no_plain [] ys e = refl
no_plain (x ∷ xs) ys e =
    let h = plain_by (is_head x) x (heads xs) e in
    let n : ℕ = walk_no int_bounds (xs ++ ys) in
    ap (λ (b : Bool). pick b (least (set_no int_bounds (ruled x (before (xs ++ ys)))) n) n) h.0 ∙ no_plain xs ys h.1

no-set : (rs : List Record) → heads rs ≡ [] → walk_no int_bounds rs ≡ 0
no-set rs e = ap (walk_no int_bounds) (sym (append-nil rs)) ∙ no_plain rs [] e

-- question 7, row by row
pub record TypesAt (s : Bytes) (starts ends : List ℕ) (count k : ℕ) : Type 0 where
  pub afters : List ℕ
  pub rows : HeadRows s starts ends afters count
  pub met : k ≤ count
  pub formed : Each Formed (records_from s (row_from afters k))
  pub asked : walk_types int_bounds (records (read_of s)) ≡ all (is_typed_well int_bounds) (heads (records_from s (row_from afters k)))

pub types-start : (s : Bytes) (starts ends : List ℕ) (count : ℕ) → HeadParts s starts ends count → walk_fits (records (read_of s)) ≡ true → walk_well int_bounds (records (read_of s)) ≡ true → TypesAt s starts ends count 0
types-start s starts ends count r f w =
    record { afters = r.0; rows = r.1; met = omega arith; formed = formed-each (records (read_of s)) f w; asked = heads-asked (is_typed_well int_bounds) (records (read_of s)) }

module _ {s : Bytes} {starts ends : List ℕ} {count k : ℕ} (t : TypesAt s starts ends count k) where
  pub types-end : count ≤ k → true ≡ walk_types int_bounds (records (read_of s))
  types-end h =
      let e : k ≡ count = omega (arith, t.met) in
      sym (t.asked ∙ ap (all (is_typed_well int_bounds)) (ap (λ (j : ℕ). heads (records_from s (row_from t.afters j))) e ∙ t.rows.last))

  module _ (h : k < count) where
    pub types-row : HeadHere s (row_from t.afters k) (get_or starts k 0) (get_or ends k 0) (get_or t.afters k 0)
    types-row = t.rows.row k h

    formed-cut : Each Formed (records (read_of (span (row_from t.afters k) (get_or starts k 0) s))) × Each Formed (record_in (span (get_or starts k 0) (get_or ends k 0) s) ∷ records_from s (get_or t.afters k 0))
    formed-cut = each-parts Formed (records (read_of (span (row_from t.afters k) (get_or starts k 0) s))) (record_in (span (get_or starts k 0) (get_or ends k 0) s) ∷ records_from s (get_or t.afters k 0)) (subst (Each Formed) types-row.cut t.formed)

    pub types-formed : IsFormed (span (get_or starts k 0) (get_or ends k 0) s)
    types-formed = formed-part (span (get_or starts k 0) (get_or ends k 0) s) types-row.own types-row.head formed-cut.1.0

    types-cut : (b : Bool) → b ≡ is_typed_well int_bounds (record_in (span (get_or starts k 0) (get_or ends k 0) s)) → walk_types int_bounds (records (read_of s)) ≡ (b && all (is_typed_well int_bounds) (heads (records_from s (row_from t.afters (k + 1)))))
    types-cut b e =
        t.asked ∙ ap (all (is_typed_well int_bounds)) (row-heads t.rows k h)
        ∙ ap (λ (x : Bool). x && all (is_typed_well int_bounds) (heads (records_from s (row_from t.afters (k + 1))))) (sym e)

    pub types-stop : (b : Bool) → b ≡ is_typed_well int_bounds (record_in (span (get_or starts k 0) (get_or ends k 0) s)) → b ≡ false → false ≡ walk_types int_bounds (records (read_of s))
    types-stop b e f = sym (types-cut b e ∙ ap (λ (x : Bool). x && all (is_typed_well int_bounds) (heads (records_from s (row_from t.afters (k + 1))))) f)

    pub types-on : (b : Bool) → b ≡ is_typed_well int_bounds (record_in (span (get_or starts k 0) (get_or ends k 0) s)) → b ≡ true → TypesAt s starts ends count (k + 1)
    types-on b e f =
        record {
          afters = t.afters;
          rows = t.rows;
          met = omega (arith, h);
          formed = subst (λ (j : ℕ). Each Formed (records_from s j)) (sym (row_next t.afters k)) formed-cut.1.1;
          asked = types-cut b e ∙ ap (λ (x : Bool). x && all (is_typed_well int_bounds) (heads (records_from s (row_from t.afters (k + 1))))) f;
        }

-- questions 8 to 14, set by set
pub record SetsAt (s : Bytes) (starts ends afters : List ℕ) (count k worst : ℕ) : Type 0 where
  pub rows : HeadRows s starts ends afters count
  pub met : k ≤ count
  pub right : Each Right (records_from s (row_from afters k))
  pub asked : walk_no int_bounds (records (read_of s)) ≡ least worst (walk_no int_bounds (records_from s (row_from afters k)))

pub sets-start : (s : Bytes) (starts ends afters : List ℕ) (count : ℕ) → HeadRows s starts ends afters count → Granted (records (read_of s)) → SetsAt s starts ends afters count 0 0
sets-start s starts ends afters count r g =
    record { rows = r; met = omega arith; right = granted-each (records (read_of s)) g; asked = refl }

module _ {s : Bytes} {starts ends afters : List ℕ} {count k worst : ℕ} (t : SetsAt s starts ends afters count k worst) where
  pub sets_end : count ≤ k → worst ≡ walk_no int_bounds (records (read_of s))
  sets_end h =
      let e : k ≡ count = omega (arith, t.met) in
      let none : heads (records_from s (row_from afters k)) ≡ [] = ap (λ (j : ℕ). heads (records_from s (row_from afters j))) e ∙ t.rows.last in
      least-none worst (walk_no int_bounds (records_from s (row_from afters k))) (no-set (records_from s (row_from afters k)) none) ∙ sym t.asked

  module _ (h : k < count) where
    pub sets-row : HeadHere s (row_from afters k) (get_or starts k 0) (get_or ends k 0) (get_or afters k 0)
    sets-row = t.rows.row k h

    rights : Right (record_in (span (get_or starts k 0) (get_or ends k 0) s)) × Each Right (records_from s (get_or afters k 0))
    rights = (each-parts Right (records (read_of (span (row_from afters k) (get_or starts k 0) s))) (record_in (span (get_or starts k 0) (get_or ends k 0) s) ∷ records_from s (get_or afters k 0)) (subst (Each Right) sets-row.cut t.right)).1

    pub sets-rules : IsRules (span (get_or starts k 0) (get_or ends k 0) s)
    sets-rules = rules-each (span (get_or starts k 0) (get_or ends k 0) s) sets-row.own sets-row.head rights.0

    -- the members stand in the part up to the next row, or to the end
    members-by : (b : Bool) → ltb (k + 1) count ≡ b → MembersAt s (get_or afters k 0) (pick b (get_or starts (k + 1) 0) (length s))
    members-by true e = row-members t.rows k (ltb-true (k + 1) count e)
    members-by false e = row-rest t.rows k (omega (arith, h, ltb-false (k + 1) count e))

    module _ (next : ℕ) (z : next ≡ pick (ltb (k + 1) count) (get_or starts (k + 1) 0) (length s)) where
      pub sets-members : MembersAt s (get_or afters k 0) next
      sets-members = subst (MembersAt s (get_or afters k 0)) (sym z) (members-by (ltb (k + 1) count) refl)

      pub members-fit : AllFit (records (read_of (span (get_or afters k 0) next s)))
      members-fit = subst AllFit (sym sets-members.all) (before-fit (records_from s (get_or afters k 0)) rights.1)

      pub sets-on : (n best : ℕ) → n ≡ set_no int_bounds (ruled (record_in (span (get_or starts k 0) (get_or ends k 0) s)) (records (read_of (span (get_or afters k 0) next s)))) → best ≡ least worst n → SetsAt s starts ends afters count (k + 1) best
      sets-on n best e b =
          let r : Record = record_in (span (get_or starts k 0) (get_or ends k 0) s) in
          let rest : List Record = records_from s (get_or afters k 0) in
          let others : ℕ = walk_no int_bounds rest in
          let number : n ≡ set_no int_bounds (ruled r (before rest)) = e ∙ ap (λ (ms : List Record). set_no int_bounds (ruled r ms)) sets-members.all in
          let cut : walk_no int_bounds (records_from s (row_from afters k)) ≡ least n others =
          ap (walk_no int_bounds) sets-row.cut
          ∙ no_plain (records (read_of (span (row_from afters k) (get_or starts k 0) s))) (r ∷ rest) sets-row.plain
          ∙ ap (λ (x : Bool). pick x (least (set_no int_bounds (ruled r (before rest))) others) others) sets-row.head
          ∙ ap (λ (x : ℕ). least x others) (sym number) in
          record {
            rows = t.rows;
            met = omega (arith, h);
            right = subst (λ (j : ℕ). Each Right (records_from s j)) (sym (row_next afters k)) rights.1;
            asked =
                t.asked
                ∙ ap (least worst) cut
                ∙ least-assoc worst n others
                ∙ ap (λ (x : ℕ). least x others) (sym b)
                ∙ ap (λ (j : ℕ). least best (walk_no int_bounds (records_from s j))) (sym (row_next afters k));
          }
