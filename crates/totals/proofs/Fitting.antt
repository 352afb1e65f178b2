-- A total fits: it is below 10^18 in absolute value, since a value of eight digits before the dot takes eleven bytes or more of the file's 65,536.
use Prim.Native.Nat.{ℕ, zero, suc, ◌+◌, ◌-◌, ◌*◌, ◌≤◌, ◌<◌}
use native.Mathlib.Omega.{arith}
use mathlib.Core.Path.{◌≡◌, refl, sym, ap, subst}
use mathlib.Core.Bool.{Bool, true, false, cond}
use mathlib.Core.List.{List, [], ◌∷◌, map}
use mathlib.Core.Option.{Option, none, some, some-injective}
use lib.Dec.{ltb}
use lib.IntN.{ℤ, pos, negsuc, nat_abs, sub_ℕ, ◌+ℤ◌}
use lib.ListN.{length, take}
use lib.Seq.{length-take-le}
use borrow.Author.Tests.{ltb-true}
use Rattle.format.specs.Bytes.{Bytes, pick, same}
use Rattle.format.specs.Lists.{only_if, sum, flat, keep, kept}
use Rattle.format.specs.Pieces.{Piece, read_of}
use Rattle.format.specs.Records.{Field, Record, Block, fields_of}
use Rattle.format.specs.Sets.{values_of, Group, groups, is_member, member_of, RecSet, set_of, sets_of}
use Rattle.format.specs.Numbering.{every}
use Rattle.format.specs.Questions.{first_no, verdict, values_in}
use Rattle.format.specs.Plain.{Plain, record_count, plain_of, length_of, index_of, Sought, members_in, found_rows}
use Rattle.format.specs.Calls.{sets_in, lookup_no, sought_set}
use Rattle.format.proofs.Elements.{Each}
use Rattle.format.proofs.Lists.{sum-append, flat-each}
use Rattle.format.proofs.Fates.{groups-pieces}
use Rattle.format.proofs.Whole.{Sound}
use Rattle.format.proofs.Applying.{Agrees, agrees-length}
use Rattle.format.proofs.Passing.{verdict-read, Passes, Holds, holds-start, holds-passes, holds-agrees, holds-bytes}
use Rattle.totals.specs.Totals.{millionths_of, sum_of, Total, Totalled, total_answer}
use Rattle.totals.proofs.Sums.{every-cons, every-length, total-value}
use Rattle.totals.proofs.Edited.{none-of-both}
use Rattle.totals.proofs.Digits.{value-small}
use Rattle.totals.proofs.Lengths.{value-size}

-- the absolute value of a sum
sub-abs : (a b : ℕ) → nat_abs (sub_ℕ a b) ≤ a + b
sub-abs a b = go (ltb a b) refl
  where
    go : (t : Bool) → ltb a b ≡ t → nat_abs (cond t (negsuc (b - suc a)) (pos (a - b))) ≤ a + b
    go true e = let l : a < b = ltb-true a b e in omega arith
    go false e = omega arith

pub abs-add : (x y : ℤ) → nat_abs (x +ℤ y) ≤ nat_abs x + nat_abs y
abs-add (pos a) (pos b) = omega arith
abs-add (pos a) (negsuc b) = sub-abs a (suc b)
abs-add (negsuc a) (pos b) = omega (arith, sub-abs b (suc a))
abs-add (negsuc a) (negsuc b) = omega arith

-- a sum of values, by how many they are
pub sum_below : (vs : List Bytes) (zs : List ℤ) → every millionths_of vs ≡ some zs → nat_abs (sum_of zs) ≤ length vs * 100000000000000
sum_below [] zs e = omega (arith, ap (λ (l : List ℤ). nat_abs (sum_of l)) (sym (some-injective [] zs e)))
sum_below (v ∷ vs) zs e =
    let h = every-cons millionths_of v vs zs e in
    omega (arith, ap (λ (l : List ℤ). nat_abs (sum_of l)) h.4, abs-add h.0 (sum_of h.1), (value-small v h.0 h.2).0, sum_below vs h.1 h.3)

-- and by the bytes that their fields take
abbrev takes : Bytes → ℕ
takes v = length v + 3

sum-takes : (vs : List Bytes) (zs : List ℤ) → every millionths_of vs ≡ some zs → nat_abs (sum_of zs) * 11 ≤ sum takes vs * 100000000000000
sum-takes [] zs e = omega (arith, ap (λ (l : List ℤ). nat_abs (sum_of l)) (sym (some-injective [] zs e)))
sum-takes (v ∷ vs) zs e =
    let h = every-cons millionths_of v vs zs e in
    omega (arith, ap (λ (l : List ℤ). nat_abs (sum_of l)) h.4, abs-add h.0 (sum_of h.1), (value-small v h.0 h.2).1, sum-takes vs h.1 h.3)

-- the fields of a file's records take as many bytes

abbrev Sized : Field → Type 0
Sized f = takes f.value ≤ f.count

fields-sized : (b : Block) → Each Sound b → Each Sized (fields_of b)
fields-sized [] h = tt
fields-sized (Piece.blank l ∷ b) h = fields-sized b h.1
fields-sized (Piece.comment l ∷ b) h = fields-sized b h.1
fields-sized (Piece.field n v ls ∷ b) h = (value-size n v ls h.0, fields-sized b h.1)

members-sized : (g : Group) → Each (Each Sound) g → Each (Each Sized) (kept member_of g)
members-sized [] h = tt
members-sized (b ∷ g) h = go (is_member b) (members-sized g h.1)
  where
    go : (t : Bool) → Each (Each Sized) (kept member_of g) → Each (Each Sized) (keep (only_if t (fields_of b)) (kept member_of g))
    go true k = (fields-sized b h.0, k)
    go false k = k

abbrev SizedSet : RecSet → Type 0
SizedSet s = Each (Each Sized) s.members

groups-sized : (gs : List Group) → Each (Each (Each Sound)) gs → Each SizedSet (map set_of gs)
groups-sized [] h = tt
groups-sized (g ∷ gs) h = (members-sized g h.0, groups-sized gs h.1)

sets-sized : (ps : List Piece) → Each Sound ps → Each SizedSet (sets_of ps)
unfolding sets_of
sets-sized ps h = groups-sized (groups ps) (flat-each (Each Sound) (groups ps) (flat-each Sound (flat (groups ps)) (subst (Each Sound) (sym (groups-pieces ps)) h)))

values-take : (m : Bytes) (r : Record) → Each Sized r → sum takes (values_of m r) ≤ record_count r
values-take m [] h = omega arith
values-take m (f ∷ r) h = go (same m f.name) (values-take m r h.1)
  where
    go : (t : Bool) → sum takes (values_of m r) ≤ record_count r → sum takes (pick t (f.value ∷ values_of m r) (values_of m r)) ≤ f.count + record_count r
    go true k = omega (arith, k, h.0)
    go false k = omega (arith, k)

in_take : (m : Bytes) (rs : List Record) → Each (Each Sized) rs → sum takes (values_in m rs) ≤ sum record_count rs
in_take m [] h = omega arith
in_take m (r ∷ rs) h = omega (arith, sum-append takes (values_of m r) (values_in m rs), values-take m r h.0, in_take m rs h.1)

-- one set's records are no more than those of all sets
set-takes : (m : Bytes) (ss : List RecSet) (x : Option ℕ) → Each SizedSet ss → sum takes (values_in m (members_in ss x)) ≤ sum (λ (s : RecSet). sum record_count s.members) ss
set-takes m ss none h = omega arith
set-takes m [] (some i) h = omega arith
set-takes m (s ∷ ss) (some zero) h = omega (arith, in_take m s.members h.0)
set-takes m (s ∷ ss) (some (suc i)) h = omega (arith, set-takes m ss (some i) h.1)

-- so those of one name in a set of a file that passes take no more bytes than a file may have
passing-takes : (buffer : Bytes) (used : ℕ) (m : Bytes) (x : Option ℕ) → verdict buffer used ≡ 0 → sum takes (values_in m (members_in (sets_in buffer used) x)) ≤ 65536
unfolding plain_of length_of
passing-takes buffer used m x v =
    let ps : List Piece = read_of (take used buffer) in
    let p : Plain = plain_of ps in
    let h : Holds buffer used p = holds-start buffer used ps v (verdict-read buffer used v) in
    let c : Passes buffer used ps = holds-passes buffer used p h in
    let a : Agrees p = holds-agrees buffer used p h in
    omega (arith, set-takes m (sets_of ps) x (sets-sized ps a.0), agrees-length p a, ap length (holds-bytes buffer used p h), length-take-le used buffer c.fits, c.small)

takes-three : (vs : List Bytes) → length vs * 3 ≤ sum takes vs
takes-three [] = omega arith
takes-three (v ∷ vs) = omega (arith, takes-three vs)

-- The millionths of a total are below 10^18 in absolute value, and there are at most 21,845 values.
pub total-fits : (buffer : Bytes) (used : ℕ) (set name : Bytes) (t : Total) → total_answer buffer used set name ≡ Totalled.value t → (nat_abs t.millionths < 1000000000000000000) × (t.number ≤ 21845)
unfolding total_answer
total-fits buffer used set name t e =
    let ss : List RecSet = sets_in buffer used in
    let q : Sought = sought_set ss set in
    let vs : List Bytes = values_in name (members_in ss (index_of set ss)) in
    let k = total-value (lookup_no buffer used q) (every millionths_of vs) t e in
    let v : verdict buffer used ≡ 0 = (none-of-both (verdict buffer used) (first_no found_rows q) k.0).0 in
    let zs : List ℤ = k.1.0 in
    let bytes-taken = passing-takes buffer used name (index_of set ss) v in (
      omega (arith, ap (λ (x : Total). nat_abs x.millionths) k.1.2, sum-takes vs zs k.1.1, bytes-taken),
      omega (arith, ap (λ (x : Total). x.number) k.1.2, every-length millionths_of vs zs k.1.1, takes-three vs, bytes-taken),
    )
