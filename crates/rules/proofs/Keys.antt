-- The values of a name in a set's records: those of the singular names, and of the key; and that each record has it once where questions 10 and 11 say so.
use Prim.Native.Nat.{ℕ, zero, suc, ◌≤◌}
use native.Mathlib.Omega.{arith}
use mathlib.Core.Path.{◌≡◌, refl, sym, ap, ◌∙◌, subst}
use mathlib.Core.Bool.{Bool, true, false, ◌&&◌, and-eq-true_iff}
use mathlib.Core.List.{List, [], ◌∷◌, ◌++◌, append-nil, map}
use lib.Dec.{leb}
use lib.ListN.{length, take, length-append}
use borrow.Author.Tests.{leb-true}
use Rattle.format.specs.Lists.{flat}
use Rattle.format.specs.Bytes.{Bytes, text, pick, all, same}
use Rattle.format.specs.Words.{words}
use Rattle.format.specs.Pieces.{read_of}
use Rattle.format.specs.Records.{Record}
use Rattle.format.specs.Sets.{values_of}
use Rattle.format.specs.Numbers.{int_bounds}
use Rattle.format.specs.Rules.{mandatory, unique, singular, key, is_shaped, distinct}
use Rattle.format.specs.Questions.{occurrences, none_prohibited, all_allowed, all_present, none_repeated, all_typed, values_in, keys_of, singular_met}
use Rattle.format.proofs.Elements.{Each, each-parts, each-imp, each_both, all-each, all_alike}
use Rattle.format.proofs.Least.{least, leasts}
use Rattle.format.proofs.Judging.{record_no}
use Rattle.format.proofs.Records.{records}
use Rattle.format.proofs.Walking.{ruled}
use Rattle.values.specs.Value.{value_from}
use Rattle.words.specs.Spans.{span}
use Rattle.records.specs.Places.{is_readable}
use Rattle.records.specs.Walk.{record_in}
use Rattle.records.proofs.Cuts.{fields-records}
use Rattle.records.specs.Named.{values_from, ValueHere}
use Rattle.rules.proofs.Regions.{front-span}
use Rattle.rules.specs.Described.{IsRules}
use Rattle.rules.specs.Chunks.{HaveKeys}
use Rattle.rules.proofs.Room.{records-few}

-- no record of some has a number where the least is 0
least_zero : (a b : ℕ) → least a b ≡ 0 → (a ≡ 0) × (b ≡ 0)
least_zero zero b e = (refl, e)
least_zero (suc a) zero e = absurd (omega arith)
least_zero (suc a) (suc b) e = absurd (omega arith)

leasts-zero : (f : Record → ℕ) (rs : List Record) → leasts (map f rs) ≡ 0 → Each (λ (r : Record). f r ≡ 0) rs
leasts-zero f [] e = tt
leasts-zero f (r ∷ rs) e = let h = least_zero (f r) (leasts (map f rs)) e in (h.0, leasts-zero f rs h.1)

-- no number: each question in the row is passed
passed-all : (p a c d e : Bool) → ◌≡◌ {A = ℕ} (pick p (pick a (pick c (pick d (pick e 0 12) 11) 10) 9) 8) 0 → (c ≡ true) × (d ≡ true)
passed-all true true true true e h = (refl, refl)
passed-all true true true false e h = absurd (omega arith)
passed-all true true false d e h = absurd (omega arith)
passed-all true false c d e h = absurd (omega arith)
passed-all false a c d e h = absurd (omega arith)

module _ (rules r : Record) where
  key-once : all_present rules r ≡ true → none_repeated rules r ≡ true → Each (λ (w : Bytes). occurrences w r ≡ 1) (key rules)
  key-once p q =
      let some : Bytes → Bool = λ (w : Bytes). leb 1 (occurrences w r) in
      let few : Bytes → Bool = λ (w : Bytes). leb (occurrences w r) 1 in
      let a = (each-parts (λ (w : Bytes). some w ≡ true) (mandatory rules) (key rules) (all-each some (mandatory rules ++ key rules) p)).1 in
      let b = (each-parts (λ (w : Bytes). few w ≡ true) (unique rules) (key rules) (all-each few (unique rules ++ key rules) q)).1 in
      each-imp (λ (w : Bytes). (some w ≡ true) × (few w ≡ true)) (λ (w : Bytes). occurrences w r ≡ 1)
      (λ w h. omega (arith, leb-true 1 (occurrences w r) h.0, leb-true (occurrences w r) 1 h.1)) (key rules)
      (each_both (λ (w : Bytes). some w ≡ true) (λ (w : Bytes). few w ≡ true) (key rules) a b)

  asked-once : record_no int_bounds rules r ≡ 0 → Each (λ (w : Bytes). occurrences w r ≡ 1) (key rules)
  unfolding record_no
  asked-once e =
      let h = passed-all (none_prohibited rules r) (all_allowed rules r) (all_present rules r) (none_repeated rules r) (all_typed int_bounds rules r) e in
      key-once h.0 h.1

-- records that questions 8 to 12 pass
pub have-keys : (rules : Record) (ms : List Record) (n : ℕ) → n ≡ leasts (map (record_no int_bounds rules) ms) → n ≡ 0 → HaveKeys rules ms
have-keys rules ms n e z =
    each-imp (λ (r : Record). record_no int_bounds rules r ≡ 0) (λ (r : Record). Each (λ (w : Bytes). occurrences w r ≡ 1) (key rules)) (λ r h. asked-once rules r h) ms
    (leasts-zero (record_no int_bounds rules) ms (sym e ∙ z))

-- the values at a name in records, one after another
values-if : (b : Bool) (x : Bytes) (xs ys zs : List Bytes) → zs ≡ xs ++ ys → pick b (x ∷ zs) zs ≡ pick b (x ∷ xs) xs ++ ys
values-if true x xs ys zs e = ap {B = List Bytes} (λ y. x ∷ y) e
values-if false x xs ys zs e = e

values-append : (w : Bytes) (a b : Record) → values_of w (a ++ b) ≡ values_of w a ++ values_of w b
values-append w [] b = refl
values-append w (f ∷ a) b = values-if (same w f.name) f.value (values_of w a) (values_of w b) (values_of w (a ++ b)) (values-append w a b)

values-flat : (w : Bytes) (ms : List Record) → values_of w (flat ms) ≡ values_in w ms
values-flat w [] = refl
values-flat w (m ∷ ms) = values-append w m (flat ms) ∙ ap (λ (vs : List Bytes). values_of w m ++ vs) (values-flat w ms)

values-part : (w s : Bytes) → values_of w (record_in s) ≡ values_in w (records (read_of s))
values-part w s = ap (values_of w) (fields-records (read_of s)) ∙ values-flat w (records (read_of s))

-- and the singular names have each value once in them
pub singular-part : (rules : Record) (s : Bytes) → all (λ (n : Bytes). distinct (values_of n (record_in s))) (singular rules) ≡ singular_met (ruled rules (records (read_of s)))
singular-part rules s = all_alike (λ (n : Bytes). distinct (values_of n (record_in s))) (λ (n : Bytes). distinct (values_in n (records (read_of s)))) (λ n. ap distinct (values-part n s)) (singular rules)

once-length : (rules : Record) (w : Bytes) (ms : List Record) → key rules ≡ w ∷ [] → HaveKeys rules ms → length (values_in w ms) ≡ length ms
once-length rules w [] e h = refl
once-length rules w (m ∷ ms) e h =
    let o : occurrences w m ≡ 1 = (subst (λ (ws : List Bytes). Each (λ (x : Bytes). occurrences x m ≡ 1) ws) e h.0).0 in
    omega (arith, length-append (values_of w m) (values_in w ms), once-length rules w ms e h.1)

words-one : (ws vs : List Bytes) (w : Bytes) → ws ≡ w ∷ vs → length ws ≤ 1 → ws ≡ w ∷ []
words-one ws [] w e h = e
words-one ws (v ∷ vs) w e h = absurd (let z : suc (suc (length vs)) ≤ 1 = subst (λ (x : List Bytes). length x ≤ 1) e h in omega arith)

-- a descriptor without a `%key` field, and one with
module _ (d s : Bytes) where
  abbrev rules : Record
  rules = record_in d

  abbrev ms : List Record
  ms = records (read_of s)

  none-key : key rules ≡ [] → true ≡ distinct (keys_of (ruled rules ms))
  none-key e = sym (ap (λ (ws : List Bytes). distinct (flat (map (λ (n : Bytes). values_in n ms) ws))) e)

  pub no_key : values_from d (text "%key") 0 ≡ [] → true ≡ distinct (keys_of (ruled rules ms))
  no_key e = none-key (ap (λ (vs : List Bytes). flat (map words vs)) e)

  -- u is the value of the first, and w its first word
  module _ (v e : ℕ) (h : ValueHere d (text "%key") 0 v e) (u : Bytes) (q : u ≡ value_from (span v e d)) where
    key-by : key rules ≡ words u ++ flat (map words (values_from d (text "%key") e))
    key-by = ap (λ (vs : List Bytes). flat (map words vs)) h.values ∙ ap (λ (x : Bytes). words x ++ flat (map words (values_from d (text "%key") e))) (sym q)

    pub no_word : length (values_from d (text "%key") 0) ≤ 1 → words u ≡ [] → true ≡ distinct (keys_of (ruled rules ms))
    no_word l z = none-key (key-by ∙ (λ i. z i ++ flat (map words (last i))))
      where
        empty : (vs : List Bytes) → length vs ≤ 0 → vs ≡ []
        empty [] p = refl
        empty (x ∷ vs) p = absurd (omega arith)

        last : values_from d (text "%key") e ≡ []
        last = empty (values_from d (text "%key") e) (omega (arith, l, ap length h.values))

    module _ (w : Bytes) (ws : List Bytes) (c : words u ≡ w ∷ ws) (few : length (key rules) ≤ 1) where
      key-is : key rules ≡ w ∷ []
      key-is = words-one (key rules) (ws ++ flat (map words (values_from d (text "%key") e))) w (key-by ∙ ap (λ (xs : List Bytes). xs ++ flat (map words (values_from d (text "%key") e))) c) few

      -- its values are the keys, and there is room for them
      pub key-room : is_readable s ≡ true → length s ≤ 65536 → HaveKeys rules ms → length (values_of w (record_in s)) ≤ 16384
      key-room r l o = omega (arith, ap length (values-part w s), once-length rules w ms key-is o, records-few s r)

      pub key-values : (t : Bool) → t ≡ distinct (values_of w (record_in s)) → t ≡ distinct (keys_of (ruled rules ms))
      key-values t p =
          p
          ∙ ap distinct (values-part w s ∙ sym (append-nil (values_in w ms)))
          ∙ ap (λ (xs : List Bytes). distinct (flat (map (λ (n : Bytes). values_in n ms) xs))) (sym key-is)

-- at most one field names a key
pub key-once-named : (d : Bytes) → IsRules d → length (values_from d (text "%key") 0) ≤ 1
key-once-named d r =
    let rules : Record = record_in d in
    let k : Bool = leb (length (values_of (text "%key") rules)) 1 in
    let z : Bool = leb (length (values_of (text "%size") rules)) 1 in
    leb-true (length (values_of (text "%key") rules)) 1 ((and-eq-true_iff (all (is_shaped int_bounds) rules) k).0 ((and-eq-true_iff (all (is_shaped int_bounds) rules && k) z).0 r.well).0).1

-- a word that stands at the front of another text
pub word-span : (x : Bytes) (n a e : ℕ) {vs ws : List Bytes} → e ≤ n → vs ≡ span a e (take n x) ∷ ws → vs ≡ span a e x ∷ ws
word-span x n a e {vs} {ws} h q = q ∙ ap {B = List Bytes} (λ (y : Bytes). y ∷ ws) (front-span n a e x h)
