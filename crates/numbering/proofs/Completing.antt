-- The fields that are added, word by word, are those of the omitted names.
use Prim.Native.Nat.{ℕ, zero, suc, ◌≤◌}
use native.Mathlib.Omega.{arith}
use mathlib.Core.Path.{◌≡◌, refl, sym, ap, ap₂, ◌∙◌}
use mathlib.Core.Bool.{Bool, true, false, ◌&&◌, ◌||◌, not, and-eq-true_iff}
use mathlib.Core.List.{List, [], ◌∷◌, ◌++◌, append_assoc, map}
use mathlib.Core.Option
use mathlib.Core.Option.{Option, none, some}
use borrow.Author.Tests.{ltb-true, eqb-true}
use lib.Dec.{eqb, ltb}
use lib.ListN.{length, get_or}
use Rattle.format.specs.Bytes.{Bytes, text, pick, all, same, among}
use Rattle.format.specs.Lists.{only_if, onward, filter, flat}
use Rattle.format.specs.Numbers.{int_bounds}
use Rattle.format.specs.Pieces.{read_of}
use Rattle.format.specs.Records.{Record}
use Rattle.format.specs.Sets.{RecSet}
use Rattle.format.specs.Written.{Pair}
use Rattle.format.specs.Words.{words}
use Rattle.format.specs.Numbering.{firsts, pair_names, decimal, numbered, every, added}
use Rattle.format.specs.Rules.{auto}
use Rattle.format.proofs.Listing.{same_true, same-swap}
use Rattle.format.proofs.Records.{records}
use Rattle.format.proofs.Walking.{ruled}
use Rattle.words.specs.RuleNames.{place_in}
use Rattle.words.proofs.RuleNames.{place-among}
use Rattle.records.specs.Walk.{record_in}
use Rattle.records.specs.Named.{values_from}
use Rattle.columns.proofs.Granted.{all-at}
use Rattle.numbering.specs.Bounds.{floor_of, limit_of, AreLimits, Holds}
use Rattle.numbering.specs.Adding.{pair_by, State, unadded, behind_all, stepped, step_all}
use Rattle.numbering.proofs.Summing.{stepped_by}
use Rattle.numbering.proofs.Stepping.{none_stays}
use Rattle.numbering.proofs.Numbers.{number_is, lowest-most}
use Rattle.numbering.proofs.Lists.{own-among}

-- filters

filter-both : (p q : Bytes → Bool) (xs : List Bytes) → filter q (filter p xs) ≡ filter (λ (x : Bytes). p x && q x) xs
filter-both p q [] = refl
filter-both p q (x ∷ xs) = go (p x) (filter-both p q xs)
  where
    go : (t : Bool) → filter q (filter p xs) ≡ filter (λ (y : Bytes). p y && q y) xs → filter q (pick t (x ∷ filter p xs) (filter p xs)) ≡ pick (t && q x) (x ∷ filter (λ (y : Bytes). p y && q y) xs) (filter (λ (y : Bytes). p y && q y) xs)
    go true e = ap (λ (ys : List Bytes). pick (q x) (x ∷ ys) ys) e
    go false e = e

filter_alike : (p q : Bytes → Bool) → ((x : Bytes) → p x ≡ q x) → (xs : List Bytes) → filter p xs ≡ filter q xs
filter_alike p q h [] = refl
filter_alike p q h (x ∷ xs) = ap₂ (λ (t : Bool) (ys : List Bytes). pick t (x ∷ ys) ys) (h x) (filter_alike p q h xs)

abbrev is_new : List Bytes → Bytes → Bool
is_new seen n = not (among n seen)

-- a word that was seen, and one that is then
seen-again : (w : Bytes) (seen xs : List Bytes) → among w seen ≡ true → filter (is_new seen) (filter (λ (n : Bytes). not (same w n)) xs) ≡ filter (is_new seen) xs
seen-again w seen xs h = filter-both (λ (n : Bytes). not (same w n)) (is_new seen) xs ∙ filter_alike (λ (n : Bytes). not (same w n) && is_new seen n) (is_new seen) (λ n. go n (same w n) refl) xs
  where
    go : (n : Bytes) (t : Bool) → same w n ≡ t → (not t && is_new seen n) ≡ is_new seen n
    go n true e = sym (ap not (ap (λ (x : Bytes). among x seen) (sym (same_true w n e)) ∙ h))
    go n false e = refl

seen-then : (w : Bytes) (seen xs : List Bytes) → filter (is_new (w ∷ seen)) xs ≡ filter (is_new seen) (filter (λ (n : Bytes). not (same w n)) xs)
seen-then w seen xs =
    filter_alike (is_new (w ∷ seen)) (λ (n : Bytes). not (same w n) && is_new seen n) (λ n. ap (λ (t : Bool). not (t || among n seen)) (same-swap n w) ∙ go (same w n) (among n seen)) xs
    ∙ sym (filter-both (λ (n : Bytes). not (same w n)) (is_new seen) xs)
  where
    go : (a b : Bool) → not (a || b) ≡ (not a && not b)
    go true b = refl
    go false b = refl

map-behind : (ps : List Pair) (p : Pair) (y : Option (List Pair)) → Option.map (λ (qs : List Pair). (ps ++ (p ∷ [])) ++ qs) y ≡ Option.map (λ (qs : List Pair). ps ++ qs) (Option.map (λ (qs : List Pair). p ∷ qs) y)
map-behind ps p none = refl
map-behind ps p (some qs) = ap some (append_assoc ps (p ∷ []) qs)

module _ (f : Bytes → Option Pair) where
  step-pairs : (k : ℕ) (seen : List Bytes) (ps : List Pair) (ws : List Bytes)
      → (step_all f (record { passed = k; seen = seen; pairs = some ps }) ws).pairs ≡ Option.map (λ (qs : List Pair). ps ++ qs) (every f (filter (is_new seen) (firsts ws)))
  step-pairs k seen ps [] = ap some (sym (end ps))
    where
      end : (qs : List Pair) → qs ++ [] ≡ qs
      end [] = refl
      end (q ∷ qs) = ap (λ (rs : List Pair). q ∷ rs) (end qs)
  step-pairs k seen ps (w ∷ ws) = go (among w seen) refl (step-pairs (suc k) seen ps ws) (λ p. step-pairs (suc k) (w ∷ seen) (ps ++ (p ∷ [])) ws)
    where
      xs : List Bytes
      xs = firsts ws

      other : List Bytes
      other = filter (is_new seen) (filter (λ (n : Bytes). not (same w n)) xs)

      s : State
      s = record { passed = k; seen = seen; pairs = some ps }

      all_of : (t : Bool) → among w seen ≡ t → filter (is_new seen) (firsts (w ∷ ws)) ≡ pick (not t) (w ∷ other) other
      all_of t e = ap (λ (b : Bool). pick (not b) (w ∷ other) other) e

      next : (y : Option Pair) → f w ≡ y → ((p : Pair) → (step_all f (record { passed = suc k; seen = w ∷ seen; pairs = some (ps ++ (p ∷ [])) }) ws).pairs ≡ Option.map (λ (qs : List Pair). (ps ++ (p ∷ [])) ++ qs) (every f (filter (is_new (w ∷ seen)) xs)))
          → (step_all f (record { passed = suc k; seen = w ∷ seen; pairs = behind_all (some ps) (f w) }) ws).pairs ≡ Option.map (λ (qs : List Pair). ps ++ qs) (every f (w ∷ other))
      next none e h =
          ap (λ (y : Option Pair). (step_all f (record { passed = suc k; seen = w ∷ seen; pairs = behind_all (some ps) y }) ws).pairs) e
          ∙ none_stays f (record { passed = suc k; seen = w ∷ seen; pairs = none }) ws refl
          ∙ sym (ap (λ (y : Option Pair). Option.map (λ (qs : List Pair). ps ++ qs) (onward (λ (p : Pair). Option.map (λ (qs : List Pair). p ∷ qs) (every f other)) y)) e)
      next (some p) e h =
          ap (λ (y : Option Pair). (step_all f (record { passed = suc k; seen = w ∷ seen; pairs = behind_all (some ps) y }) ws).pairs) e ∙ h p
          ∙ ap (λ (ns : List Bytes). Option.map (λ (qs : List Pair). (ps ++ (p ∷ [])) ++ qs) (every f ns)) (seen-then w seen xs) ∙ map-behind ps p (every f other)
          ∙ sym (ap (λ (y : Option Pair). Option.map (λ (qs : List Pair). ps ++ qs) (onward (λ (q : Pair). Option.map (λ (qs : List Pair). q ∷ qs) (every f other)) y)) e)

      go : (t : Bool) → among w seen ≡ t → (step_all f (record { passed = suc k; seen = seen; pairs = some ps }) ws).pairs ≡ Option.map (λ (qs : List Pair). ps ++ qs) (every f (filter (is_new seen) xs))
          → ((p : Pair) → (step_all f (record { passed = suc k; seen = w ∷ seen; pairs = some (ps ++ (p ∷ [])) }) ws).pairs ≡ Option.map (λ (qs : List Pair). (ps ++ (p ∷ [])) ++ qs) (every f (filter (is_new (w ∷ seen)) xs)))
          → (step_all f (stepped f s w) ws).pairs ≡ Option.map (λ (qs : List Pair). ps ++ qs) (every f (filter (is_new seen) (firsts (w ∷ ws))))
      go true e h g =
          ap (λ (t : State). (step_all f t ws).pairs) (stepped_by f s w true e) ∙ h
          ∙ ap (λ (ns : List Bytes). Option.map (λ (qs : List Pair). ps ++ qs) (every f ns)) (sym (seen-again w seen xs e) ∙ sym (all_of true e))
      go false e h g =
          ap (λ (t : State). (step_all f t ws).pairs) (stepped_by f s w false e) ∙ next (f w) refl g
          ∙ ap (λ (ns : List Bytes). Option.map (λ (qs : List Pair). ps ++ qs) (every f ns)) (sym (all_of false e))

-- the fields are told by what is told of each listed name
step-alike : (f g : Bytes → Option Pair) (ws : List Bytes) → ((n : Bytes) → among n ws ≡ true → f n ≡ g n) → (s : State) (ns : List Bytes) → all (λ (n : Bytes). among n ws) ns ≡ true → step_all f s ns ≡ step_all g s ns
step-alike f g ws h s [] e = refl
step-alike f g ws h s (n ∷ ns) e =
    let b = (and-eq-true_iff (among n ws) (all (λ (m : Bytes). among m ws) ns)).0 e in
    step-alike f g ws h (stepped f s n) ns b.1
    ∙ ap (λ (y : Option Pair). step_all g (record { passed = suc s.passed; seen = pick (among n s.seen) s.seen (n ∷ s.seen); pairs = pick (among n s.seen) s.pairs (behind_all s.pairs y) }) ns) (h n b.0)

module _ (d part : Bytes) (floors limits : List ℕ) (lows : Holds (auto (record_in d)) (floor_of d (record_in part)) floors) (highs : Holds (auto (record_in d)) (limit_of d) limits) where
  abbrev ws : List Bytes
  ws = auto (record_in d)

  abbrev set : RecSet
  set = ruled (record_in d) (records (read_of part))

  pair_is : (n : Bytes) → among n ws ≡ true → pair_by ws floors limits n ≡ numbered int_bounds set n
  pair_is n h =
      let give : ℕ → Pair = λ (x : ℕ). record { name = n; value = decimal x } in
      ap₂ (λ (a b : ℕ). Option.map give (only_if (ltb a b) a)) (lows n h) (highs n h) ∙ ap (Option.map give) (sym (number_is d part n))

  pub added_is : (new : List Pair) → (step_all (pair_by ws floors limits) (unadded (pair_names new)) ws).pairs ≡ added int_bounds set new
  added_is new =
      ap (λ (t : State). t.pairs) (step-alike (pair_by ws floors limits) (numbered int_bounds set) ws pair_is (unadded (pair_names new)) ws (own-among ws))
      ∙ step-pairs (numbered int_bounds set) 0 (pair_names new) [] ws ∙ whole (added int_bounds set new)
    where
      whole : (y : Option (List Pair)) → Option.map (λ (qs : List Pair). [] ++ qs) y ≡ y
      whole none = refl
      whole (some qs) = refl

  pub limits-are : AreLimits ws limits
  limits-are n h = omega (arith, highs n h, lowest-most d n (values_from d (text "%type") 0))

-- without a list nothing is added
pub none-added : (d : Bytes) (ms : List Record) (new : List Pair) → values_from d (text "%auto") 0 ≡ [] → added int_bounds (ruled (record_in d) ms) new ≡ some []
none-added d ms new e = ap (λ (vs : List Bytes). every (numbered int_bounds (ruled (record_in d) ms)) (filter (λ (n : Bytes). not (among n (pair_names new))) (firsts (flat (map words vs))))) e

-- one number at all places
abbrev pub repeated : ℕ → ℕ → List ℕ
repeated zero c = []
repeated (suc k) c = c ∷ repeated k c

pub all_hold : (ws : List Bytes) (c : ℕ) (l : List ℕ) → all (λ (x : ℕ). eqb x c) l ≡ true → length ws ≤ length l → Holds ws (λ n. c) l
all_hold ws c l e h n q =
    let p = ltb-true (place_in n ws) (length ws) (place-among n ws ∙ q) in
    eqb-true (get_or l (place_in n ws) 0) c (all-at (λ (x : ℕ). eqb x c) 0 l (place_in n ws) e (omega (arith, p, h)))
