-- The sets' names, by the places of the descriptors.
use Rattle.std.specs.Prelude.{Option, Some, None, Result, Ok}
use Prim.Native.Nat.{ℕ, zero, suc, ◌-◌, ◌≤◌, ◌<◌}
use native.Mathlib.Omega.{arith}
use mathlib.Core.Path.{◌≡◌, refl, sym, ap, ◌∙◌, subst}
use mathlib.Core.Bool.{Bool, true, false}
use mathlib.Core.List.{List, [], ◌∷◌, map}
use lib.Dec.{ltb, leb}
use lib.ListN.{length, take, drop, get_or, length-append}
use borrow.Author.Tests.{lt-ltb, le-ltb}
use Rattle.format.proofs.Records.{sets, GoodSets, good-sets}
use Rattle.format.specs.Lists.{only_if, is_filled}
use Rattle.format.specs.Bytes.{Bytes, text, pick, is_some}
use Rattle.format.specs.Pieces.{Piece}
use Rattle.format.specs.Records.{Record, fields_of}
use Rattle.format.specs.Sets.{RecSet, values_of}
use Rattle.format.specs.Words.{first_word}
use Rattle.format.specs.Questions.{first_no, name_of}
use Rattle.format.specs.Plain.{found_rows}
use Rattle.format.specs.Calls.{Answer, answer, then_no, leaves, over, Filled, filled, sought_order, answered}
use Rattle.values.specs.Value.{value_from}
use Rattle.records.specs.Places.{is_readable, Placed, places_of, is_descriptor}
use Rattle.records.specs.Walk.{record_in}
use Rattle.records.specs.declared.Place.{Place}
use Rattle.records.specs.declared.RecordSet.{RecordSet}
use Rattle.records.proofs.Shifts.{fields_in}
use Rattle.records.proofs.Readings.{reads_of}
use Rattle.records.proofs.Searches.{places_at, Stand}
use Rattle.records.proofs.Sets.{from_head, SetMet}
use Rattle.records.proofs.Members.{sets-places, Stands, stands, others, others_by, others-enter}
use Rattle.records.proofs.Fields.{FieldFound}
use Rattle.format.specs.declared.refusals.Refusal.{Refusal}
use Rattle.lookup.specs.Answers.{sets_from, name_in}
use Rattle.lookup.proofs.Looking.{filled-long, filled-fits}
use Rattle.lookup.specs.Names.{titled, descriptor_by, descriptor_at}

-- the search for descriptor k, set by set
descriptor-from : (ps : List Placed) (k : ℕ) → descriptor_at (from_head ps) k ≡ descriptor_at ps k
unfolding descriptor_at
descriptor-from [] k = refl
descriptor-from (p ∷ ps) k = go (is_descriptor p) refl (descriptor-from ps k)
  where
    go : (b : Bool) → is_descriptor p ≡ b → descriptor_at (from_head ps) k ≡ descriptor_at ps k → descriptor_at (pick b (p ∷ ps) (from_head ps)) k ≡ descriptor_by (is_descriptor p) k p (λ (j : ℕ). descriptor_at ps j)
    go true e x = refl
    go false e x = x ∙ sym (ap (λ (b : Bool). descriptor_by b k p (λ (j : ℕ). descriptor_at ps j)) e)

module _ (s : Bytes) (i : ℕ) where
  pub descriptor-none : (k : ℕ) → from_head (places_at s i) ≡ [] → descriptor_at (places_at s i) k ≡ None
  unfolding descriptor_at
  descriptor-none k e = sym (descriptor-from (places_at s i) k) ∙ ap (λ (ps : List Placed). descriptor_at ps k) e

  module _ (q : RecordSet) (m : SetMet s (from_head (places_at s i)) q) where
    descriptor-on : (k : ℕ) → descriptor_at (places_at s i) k ≡ descriptor_by true k m.here (λ (j : ℕ). descriptor_at m.later j)
    unfolding descriptor_at
    descriptor-on k =
        sym (descriptor-from (places_at s i) k)
        ∙ ap (λ (ps : List Placed). descriptor_at ps k) m.places
        ∙ ap (λ (b : Bool). descriptor_by b k m.here (λ (j : ℕ). descriptor_at m.later j)) m.head

    pub descriptor-here : (k : ℕ) → k ≡ 0 → descriptor_at (places_at s i) k ≡ Some (record { start = q.start; end = q.end; after = q.begin; descriptor = true })
    descriptor-here k z =
        descriptor-on k ∙ ap (λ (x : ℕ). descriptor_by true x m.here (λ (j : ℕ). descriptor_at m.later j)) z
        ∙ (λ t. Some (record { start = (m.is t).start; end = (m.is t).end; after = (m.is t).begin; descriptor = m.head t }))

    pub descriptor-later : (k j : ℕ) → k ≡ suc j → descriptor_at (places_at s i) k ≡ descriptor_at (places_at s q.after) j
    descriptor-later k j z =
        descriptor-on k ∙ ap (λ (x : ℕ). descriptor_by true x m.here (λ (n : ℕ). descriptor_at m.later n)) z
        ∙ sym (descriptor-from m.later j) ∙ ap (λ (ps : List Placed). descriptor_at ps j) (sym m.behind.places)

-- Descriptor k is that of set k but for the default one, and there is none where there are not so many.
pub record DescriptorFound (s : Bytes) (ds : List RecSet) (k : ℕ) (q : Place) : Type 0 where
  pub there : k < length ds
  pub fields : Record
  pub stand : Stand s q.start q.end q.after fields
  pub value : Bytes
  pub values : List Bytes
  pub titles : values_of (text "%rec") fields ≡ value ∷ values
  pub named : get_or (map name_of ds) k [] ≡ first_word value

abbrev pub DescriptorTold : Bytes → List RecSet → ℕ → Option Place → Type 0
DescriptorTold s ds k None = length ds ≤ k
DescriptorTold s ds k (Some q) = DescriptorFound s ds k q

told-on : (s : Bytes) (d : RecSet) (ds : List RecSet) (k : ℕ) (x : Option Place) → DescriptorTold s ds k x → DescriptorTold s (d ∷ ds) (suc k) x
told-on s d ds k None h = omega arith
told-on s d ds k (Some q) h = record { there = omega (arith, h.there); fields = h.fields; stand = h.stand; value = h.value; values = h.values; titles = h.titles; named = h.named }

told-by : (s : Bytes) (vs : List Bytes) (p : Placed) (ss : List RecSet) (k : ℕ) (later : ℕ → Option Place) → values_of (text "%rec") p.fields ≡ vs → Stand s p.start p.end p.after p.fields → ((j : ℕ) → DescriptorTold s (others ss) j (later j)) → DescriptorTold s (others_by vs p.fields ss) k (descriptor_by (is_filled vs) k p later)
told-by s [] p ss k later e h ih = ih k
told-by s (v ∷ vs) p ss zero later e h ih = record { there = omega arith; fields = p.fields; stand = h; value = v; values = vs; titles = e; named = refl }
told-by s (v ∷ vs) p ss (suc k) later e h ih = told-on s _ (others ss) k (later k) (ih k)

told_in : (s : Bytes) (ps : List Placed) (k : ℕ) → Stands s ps → DescriptorTold s (others (sets (fields_in ps))) k (descriptor_at ps k)
unfolding descriptor_at
told_in s [] k h = omega arith
told_in s (p ∷ ps) k h =
    let vs : List Bytes = values_of (text "%rec") p.fields in
    subst (λ (ds : List RecSet). DescriptorTold s ds k (descriptor_at (p ∷ ps) k)) (sym (others-enter vs p.fields (sets (fields_in ps))))
    (told-by s vs p (sets (fields_in ps)) k (λ (j : ℕ). descriptor_at ps j) refl h.0 (λ j. told_in s ps j h.2))

-- of an answer, once its form is known
pub descriptor-told : (s : Bytes) (k : ℕ) (x : Option Place) {y : Option Place} → is_readable s ≡ true → x ≡ descriptor_at (places_of s) k → x ≡ y → DescriptorTold s (others (sets_from s)) k y
descriptor-told s k x {y} e f g =
    subst (DescriptorTold s (others (sets_from s)) k) (sym f ∙ g)
    (subst (λ (ss : List RecSet). DescriptorTold s (others ss) k (descriptor_at (places_of s) k)) (sym (sets-places s)) (told_in s (places_of s) k (stands s e)))

-- the default set stands first and has no name
first-set : (s : Bytes) → GoodSets (sets_from s)
first-set s = subst GoodSets (sym (sets-places s)) (good-sets (fields_in (places_of s)))

default-name : (ss : List RecSet) → GoodSets ss → (0 < length ss) × (get_or (map name_of ss) 0 [] ≡ [])
default-name [] g = absurd g
default-name (d ∷ ds) g = (omega arith, g.0)

other-names : (ss : List RecSet) (j : ℕ) → GoodSets ss → (length ss ≡ suc (length (others ss))) × (get_or (map name_of ss) (suc j) [] ≡ get_or (map name_of (others ss)) j [])
other-names [] j g = absurd g
other-names (d ∷ ds) j g = (refl, refl)

-- a set of a number: there, or not
order_is : (k : ℕ) (ss : List RecSet) (b : Bool) → ltb k (length ss) ≡ b → first_no found_rows (sought_order ss k) ≡ pick b 0 21
order_is k ss b e = ap (λ (x : Bool). pick (is_some (only_if x k)) 0 21) e ∙ ap (λ (x : Bool). pick x 0 21) (there b)
  where
    there : (b : Bool) → is_some (only_if b k) ≡ b
    there true = refl
    there false = refl

module _ (s : Bytes) (k : ℕ) (out : Bytes) where
  name-is : (b : Bool) (v : Bytes) → ltb k (length (sets_from s)) ≡ b → get_or (map name_of (sets_from s)) k [] ≡ v → name_in s k out ≡ filled (pick b 0 21) v out
  unfolding name_in
  name-is b v e f = (λ i. filled (order_is k (sets_from s) b e i) (f i) out)

  name-there : (v : Bytes) → k < length (sets_from s) → get_or (map name_of (sets_from s)) k [] ≡ v → name_in s k out ≡ filled 0 v out
  name-there v h e = name-is true v (lt-ltb k (length (sets_from s)) h) e

  pub name-default : k ≡ 0 → name_in s k out ≡ record { result = Answer.value 0; out = out }
  name-default z =
      let d = default-name (sets_from s) (first-set s) in
      name-there [] (omega (arith, d.0)) (ap (λ (i : ℕ). get_or (map name_of (sets_from s)) i []) z ∙ d.1) ∙ filled-fits [] out (omega arith)

  module _ (j : ℕ) (z : k ≡ suc j) where
    pub name-missing : length (others (sets_from s)) ≤ j → name_in s k out ≡ record { result = Answer.refusal 21; out = out }
    name-missing h =
        let o = other-names (sets_from s) j (first-set s) in
        name-is false (get_or (map name_of (sets_from s)) k []) (le-ltb k (length (sets_from s)) (omega (arith, o.0))) refl

    pub name-found : (q : Place) (f : DescriptorFound s (others (sets_from s)) j q) → name_in s k out ≡ titled (values_of (text "%rec") (record_in (take (q.end - q.start) (drop q.start s)))) out
    name-found q f =
        let o = other-names (sets_from s) j (first-set s) in
        name-there (first_word f.value) (omega (arith, o.0, f.there)) (ap (λ (i : ℕ). get_or (map name_of (sets_from s)) i []) z ∙ o.1 ∙ f.named)
        ∙ sym (ap (λ (vs : List Bytes). titled vs out) (ap (λ (ps : List Piece). values_of (text "%rec") (fields_of ps)) (reads_of f.stand.own-reads) ∙ ap (values_of (text "%rec")) f.stand.own-fields ∙ f.titles))

-- what a descriptor's first `%rec` value gives
pub titled-none : (vs : List Bytes) (out : Bytes) → length vs ≤ 0 → titled vs out ≡ record { result = Answer.refusal 21; out = out }
titled-none [] out h = refl
titled-none (v ∷ vs) out h = absurd (omega arith)

titled-by : (d : Bytes) (vs : List Bytes) (start value end : ℕ) (out w : Bytes) → FieldFound d vs 0 start value end → w ≡ first_word (value_from (take (end - value) (drop value d))) → titled vs out ≡ filled 0 w out
titled-by d [] start value end out w f e = absurd (omega (arith, f.there))
titled-by d (v ∷ vs) start value end out w f e = ap (λ (x : Bytes). filled 0 x out) (sym (e ∙ ap first_word f.decodes))

module _ (d : Bytes) (vs : List Bytes) (start value end : ℕ) (out w : Bytes) (f : FieldFound d vs 0 start value end) (e : w ≡ first_word (value_from (take (end - value) (drop value d)))) where
  pub titled-long : length out < length w → titled vs out ≡ record { result = Answer.refusal 27; out = out }
  titled-long h = titled-by d vs start value end out w f e ∙ filled-long w out h

  pub titled-first : length w ≤ length out → titled vs out ≡ record { result = Answer.value (length w); out = over w out }
  titled-first h = titled-by d vs start value end out w f e ∙ filled-fits w out h

-- A name that was put into a buffer stands inside it.
InsideIf : Answer → Bytes → Type 0
InsideIf (Answer.value n) o = n ≤ length o
InsideIf (Answer.refusal k) o = Unit {0}

over-inside : (number : ℕ) (t out : Bytes) → InsideIf (answer number (length t)) (leaves (answer number (length t)) (over t out) out)
unfolding InsideIf
over-inside zero t out = omega (arith, length-append t (drop (length t) out))
over-inside (suc k) t out = tt

pub name-inside : (s : Bytes) (k : ℕ) (out : Bytes) (x : Result ℕ Refusal) {n : ℕ} (o : Bytes) → name_in s k out ≡ record { result = answered x; out = o } → x ≡ Ok n → n ≤ length o
unfolding name_in InsideIf
name-inside s k out x {n} o e f =
    let v : Bytes = get_or (map name_of (sets_from s)) k [] in
    let i = over-inside (then_no (first_no found_rows (sought_order (sets_from s) k)) (pick (leb (length v) (length out)) 0 27)) v out in
    subst (λ (y : Result ℕ Refusal). InsideIf (answered y) o) f (subst (λ (y : Filled). InsideIf y.result y.out) e i)
