-- The kind `size`: its count is the number of a text's characters, and no file that passed by the count of bytes fails by it.
use Prim.Native.Nat.{ℕ, zero, suc, ◌+◌, ◌<◌, ◌≤◌}
use Prim.Native.String.{String}
use native.Mathlib.Omega.{arith}
use mathlib.Core.Path.{◌≡◌, refl, sym, ap, ◌∙◌}
use mathlib.Core.Logic.{◌⊎◌, inl, inr}
use mathlib.Core.Bool.{Bool, true, false, ◌&&◌, ◌||◌, not, and-false, and-eq-true_iff, false≢true}
use mathlib.Core.List.{List, [], ◌∷◌, ◌++◌}
use lib.Dec.{leb, eqb}
use lib.ListN.{length, take, drop, replicate}
use borrow.Author.Tests.{leb-true, le-leb, lt-leb}
use Rattle.format.specs.Lists.{filter, flat}
use Rattle.format.specs.Bytes.{Bytes, text, pick, within, all, among}
use Rattle.format.specs.Pieces.{pieces}
use Rattle.format.specs.Records.{Field, Record}
use Rattle.format.specs.Sets.{RecSet, sets_of}
use Rattle.format.specs.Numbers.{Bounds, int_bounds}
use Rattle.format.specs.Types.{Kind, is_continuation, size_count, meets}
use Rattle.format.specs.Rules.{TypeRule, type_rules, is_typed}
use Rattle.format.specs.Questions.{Row, first_no, File, file_of, each_record, all_typed, questions, verdict_in, verdict}
use Rattle.format.proofs.Elements.{all-imp}
use Rattle.format.proofs.Least.{Above, Rise, first_above}
use Rattle.laws.proofs.Wider.{or_later}

-- well-formed UTF-8

-- a byte that leads n continuation bytes: 00 to 7F none, C0 to DF one, E0 to EF two, F0 to F7 three
abbrev pub leads : ℕ → ℕ → Bool
leads zero c = leb c 127
leads (suc zero) c = within 192 223 c
leads (suc (suc zero)) c = within 224 239 c
leads (suc (suc (suc zero))) c = within 240 247 c
leads (suc (suc (suc (suc n)))) c = false

-- a character: a leading byte and the continuation bytes that it leads; a text is characters one after another
abbrev pub is_character : Bytes → Bool
is_character [] = false
is_character (c ∷ cs) = leads (length cs) c && all is_continuation cs

-- what is counted

pub size-cons : (c : ℕ) (v : Bytes) → size_count (c ∷ v) ≡ pick (is_continuation c) (size_count v) (suc (size_count v))
size-cons c v = go (is_continuation c)
  where
    go : (b : Bool) → length (pick (not b) (c ∷ filter (λ (d : ℕ). not (is_continuation d)) v) (filter (λ (d : ℕ). not (is_continuation d)) v)) ≡ pick b (size_count v) (suc (size_count v))
    go true = refl
    go false = refl

size-append : (v w : Bytes) → size_count (v ++ w) ≡ size_count v + size_count w
size-append [] w = omega arith
size-append (c ∷ v) w = size-cons c (v ++ w) ∙ go (is_continuation c) (size-append v w) ∙ ap (λ (n : ℕ). n + size_count w) (sym (size-cons c v))
  where
    go : (b : Bool) → size_count (v ++ w) ≡ size_count v + size_count w → pick b (size_count (v ++ w)) (suc (size_count (v ++ w))) ≡ pick b (size_count v) (suc (size_count v)) + size_count w
    go true e = e
    go false e = omega (arith, e)

-- a leading byte counts, continuation bytes do not

above-counted : (low high c : ℕ) → 191 < low → within low high c ≡ true → is_continuation c ≡ false
above-counted low high c h e =
    let k = (and-eq-true_iff (leb low c) (leb c high)).0 e in
    ap (λ (b : Bool). leb 128 c && b) (lt-leb c 191 (omega (arith, leb-true low c k.0))) ∙ and-false (leb 128 c)

leads-counted : (n c : ℕ) → leads n c ≡ true → is_continuation c ≡ false
leads-counted zero c e = ap (λ (b : Bool). b && leb c 191) (lt-leb 128 c (omega (arith, leb-true c 127 e)))
leads-counted (suc zero) c e = above-counted 192 223 c (omega arith) e
leads-counted (suc (suc zero)) c e = above-counted 224 239 c (omega arith) e
leads-counted (suc (suc (suc zero))) c e = above-counted 240 247 c (omega arith) e
leads-counted (suc (suc (suc (suc n)))) c e = absurd (false≢true e)

rest-uncounted : (cs : Bytes) → all is_continuation cs ≡ true → size_count cs ≡ 0
rest-uncounted [] e = refl
rest-uncounted (c ∷ cs) e =
    let k = (and-eq-true_iff (is_continuation c) (all is_continuation cs)).0 e in
    size-cons c cs ∙ ap (λ (b : Bool). pick b (size_count cs) (suc (size_count cs))) k.0 ∙ rest-uncounted cs k.1

character-counted : (cs : Bytes) → is_character cs ≡ true → size_count cs ≡ 1
character-counted [] e = absurd (false≢true e)
character-counted (c ∷ cs) e =
    let k = (and-eq-true_iff (leads (length cs) c) (all is_continuation cs)).0 e in
    size-cons c cs ∙ ap (λ (b : Bool). pick b (size_count cs) (suc (size_count cs))) (leads-counted (length cs) c k.0) ∙ ap suc (rest-uncounted cs k.1)

-- "which in UTF-8 is the count of characters"
pub characters-counted : (cs : List Bytes) → all is_character cs ≡ true → size_count (flat cs) ≡ length cs
characters-counted [] e = refl
characters-counted (c ∷ cs) e =
    let k = (and-eq-true_iff (is_character c) (all is_character cs)).0 e in
    omega (arith, size-append c (flat cs), character-counted c k.0, characters-counted cs k.1)

-- never more than the bytes
pub size-least : (v : Bytes) → size_count v ≤ length v
size-least [] = omega arith
size-least (c ∷ v) = go (is_continuation c) (size-cons c v) (size-least v)
  where
    go : (b : Bool) → size_count (c ∷ v) ≡ pick b (size_count v) (suc (size_count v)) → size_count v ≤ length v → size_count (c ∷ v) ≤ suc (length v)
    go true e h = omega (arith, e, h)
    go false e h = omega (arith, e, h)

-- the questions with `size` n as at most n bytes

abbrev pub meets_bytes : Bounds → Kind → Bytes → Bool
meets_bytes b Kind.int v = meets b Kind.int v
meets_bytes b (Kind.range low high) v = meets b (Kind.range low high) v
meets_bytes b Kind.real v = meets b Kind.real v
meets_bytes b Kind.line v = meets b Kind.line v
meets_bytes b (Kind.size n) v = leb (length v) n
meets_bytes b (Kind.enum ws) v = meets b (Kind.enum ws) v
meets_bytes b Kind.bool v = meets b Kind.bool v
meets_bytes b Kind.field v = meets b Kind.field v
meets_bytes b Kind.uuid v = meets b Kind.uuid v

abbrev pub is_typed_bytes : Bounds → List TypeRule → Field → Bool
is_typed_bytes b ts f = all (λ (t : TypeRule). not (among f.name t.names) || meets_bytes b t.kind f.value) ts

abbrev pub all_typed_bytes : Bounds → Record → Record → Bool
all_typed_bytes b rules r = all (is_typed_bytes b (type_rules b rules)) r

-- 1 to 11, 12 by bytes, 13 and later
abbrev pub questions_bytes : Bounds → List (Row File)
questions_bytes b = take 11 (questions b) ++ record { number = 12; asks = λ (f : File). each_record (all_typed_bytes b) f.sets } ∷ drop 12 (questions b)

unfoldable pub verdict_bytes : Bytes → ℕ → ℕ
verdict_bytes buffer used = first_no (questions_bytes int_bounds) (file_of buffer used)

-- what is met by bytes is met

meets-still : (b : Bounds) (k : Kind) (v : Bytes) → meets_bytes b k v ≡ true → meets b k v ≡ true
meets-still b Kind.int v e = e
meets-still b (Kind.range low high) v e = e
meets-still b Kind.real v e = e
meets-still b Kind.line v e = e
meets-still b (Kind.size n) v e = le-leb (size_count v) n (omega (arith, leb-true (length v) n e, size-least v))
meets-still b (Kind.enum ws) v e = e
meets-still b Kind.bool v e = e
meets-still b Kind.field v e = e
meets-still b Kind.uuid v e = e

typed_still : (b : Bounds) (ts : List TypeRule) (f : Field) → is_typed_bytes b ts f ≡ true → is_typed b ts f ≡ true
typed_still b ts f e =
    all-imp (λ (t : TypeRule). not (among f.name t.names) || meets_bytes b t.kind f.value) (λ (t : TypeRule). not (among f.name t.names) || meets b t.kind f.value)
    (λ t h. or_later (not (among f.name t.names)) (meets_bytes b t.kind f.value) (meets b t.kind f.value) (meets-still b t.kind f.value) h) ts e

records-still : (b : Bounds) (ss : List RecSet) → each_record (all_typed_bytes b) ss ≡ true → each_record (all_typed b) ss ≡ true
records-still b ss e =
    all-imp (λ (s : RecSet). all (all_typed_bytes b s.rules) s.members) (λ (s : RecSet). all (all_typed b s.rules) s.members)
    (λ s h. all-imp (all_typed_bytes b s.rules) (all_typed b s.rules) (λ r k. all-imp (is_typed_bytes b (type_rules b s.rules)) (is_typed b (type_rules b s.rules)) (typed_still b (type_rules b s.rules)) r k) s.members h) ss e

-- a file's number by bytes and its number: the same; or 12, and 0 or a later one
abbrev pub Spared : ℕ → ℕ → Type 0
Spared k m = (m ≡ k) ⊎ ((k ≡ 12) × Above 12 m)

spared-by : (a : Bool) (k i j : ℕ) → Spared i j → Spared (pick a i k) (pick a j k)
spared-by true k i j h = h
spared-by false k i j h = inl refl

spared-first : {A : Type 0} (rs ts us : List (Row A)) (a : A) → Spared (first_no ts a) (first_no us a) → Spared (first_no (rs ++ ts) a) (first_no (rs ++ us) a)
spared-first [] ts us a h = h
spared-first (r ∷ rs) ts us a h = spared-by (r.asks a) r.number (first_no (rs ++ ts) a) (first_no (rs ++ us) a) (spared-first rs ts us a h)

spared-asked : (a b : Bool) (i : ℕ) → Above 12 i → (a ≡ true → b ≡ true) → Spared (pick a i 12) (pick b i 12)
spared-asked true true i l h = inl refl
spared-asked true false i l h = absurd (false≢true (h refl))
spared-asked false true i l h = inr (refl, l)
spared-asked false false i l h = inl refl

pub number-spared : (buffer : Bytes) (used : ℕ) → Spared (verdict_bytes buffer used) (verdict buffer used)
unfolding verdict_bytes verdict_in verdict
number-spared buffer used =
    let b : Bounds = int_bounds in
    let f : File = file_of buffer used in
    let later : List (Row File) = drop 12 (questions b) in
    let rise : Rise 12 later = (omega arith, (omega arith, (omega arith, tt))) in
    spared-first (take 11 (questions b)) (drop 11 (questions_bytes b)) (drop 11 (questions b)) f
    (spared-asked (each_record (all_typed_bytes b) f.sets) (each_record (all_typed b) f.sets) (first_no later f) (first_above later 12 rise f) (records-still b f.sets))

spared-pass : (k m : ℕ) → k ≡ 0 → Spared k m → m ≡ 0
spared-pass k m e (inl h) = h ∙ e
spared-pass k m e (inr h) = absurd (omega (arith, e, h.0))

-- no file that passed fails
pub bytes-passes : (buffer : Bytes) (used : ℕ) → verdict_bytes buffer used ≡ 0 → verdict buffer used ≡ 0
bytes-passes buffer used e = spared-pass (verdict_bytes buffer used) (verdict buffer used) e (number-spared buffer used)

-- Computed: a file, its number by bytes, and its number.
pub record Counted : Type 0 where
  pub file : Bytes
  pub bytes : ℕ
  pub characters : ℕ

abbrev counts : Counted → Bool
counts m = eqb (verdict_bytes m.file (length m.file)) m.bytes && eqb (verdict m.file (length m.file)) m.characters

-- a set T whose field A is of a size
abbrev sized : ℕ → ℕ → String → Bytes → Counted
sized k m n v = record { file = text "%rec: T\n%type: A size " ++ text n ++ text "\n\nA: " ++ v ++ text "\n"; bytes = k; characters = m }

-- é, €, 𝄞, and a continuation byte alone
abbrev two : Bytes
two = 195 ∷ 169 ∷ []

abbrev three : Bytes
three = 226 ∷ 130 ∷ 172 ∷ []

abbrev four : Bytes
four = 240 ∷ 157 ∷ 132 ∷ 158 ∷ []

abbrev lone : Bytes
lone = 128 ∷ []

characters-told : all is_character (text "a" ∷ two ∷ three ∷ four ∷ []) ≡ true
characters-told = refl

-- characters at n and at n + 1
accents-told : all counts (
    sized 12 0 "1" two ∷ sized 12 12 "0" two ∷ sized 12 0 "1" three ∷ sized 12 12 "0" three ∷ sized 12 0 "1" four ∷ sized 12 12 "0" four ∷
    sized 12 0 "4" (text "a" ++ two ++ three ++ four) ∷ sized 12 12 "3" (text "a" ++ two ++ three ++ four) ∷
    sized 12 0 "12" (two ++ text "l" ++ two ++ text "mentaire ") ∷ sized 12 12 "11" (two ++ text "l" ++ two ++ text "mentaire ") ∷
    sized 12 0 "3" (two ++ text "\n+ a") ∷ sized 12 12 "3" (two ++ text "\n+ ab") ∷
    sized 0 0 "10" four ∷ sized 0 0 "4" four ∷ sized 0 0 "3" (text "abc") ∷ sized 12 12 "3" (text "abcd") ∷ []) ≡ true
unfolding pieces sets_of file_of verdict_bytes verdict_in verdict
accents-told = refl

-- whether a text is well formed is not asked: bytes at both ends of 80 to BF, continuation bytes alone, characters cut short
unsound-told : all counts (
    sized 12 0 "0" lone ∷ sized 12 0 "0" (191 ∷ []) ∷ sized 12 12 "0" (126 ∷ []) ∷ sized 12 12 "0" (192 ∷ []) ∷ sized 12 12 "0" (255 ∷ []) ∷
    sized 12 0 "0" (replicate 4096 128) ∷ sized 12 0 "1" (text "a" ++ lone ++ lone) ∷ sized 12 0 "2" (255 ∷ 254 ∷ 128 ∷ []) ∷ sized 12 12 "1" (195 ∷ 195 ∷ 169 ∷ []) ∷ []) ≡ true
unfolding pieces sets_of file_of verdict_bytes verdict_in verdict
unsound-told = refl

-- the limit of a value is in bytes, a set's size in records; what fails later is told now
others-told : all counts (
    sized 4 4 "4096" (replicate 4097 128) ∷ sized 12 0 "2048" (flat (replicate 2048 two)) ∷ sized 4 4 "4096" (flat (replicate 2049 two)) ∷
    sized 12 14 "1\n%size: 2" two ∷ sized 12 0 "1\n%size: 1" two ∷ sized 12 13 "1\n%key: A" (two ++ text "\n\nA: " ++ two) ∷ []) ≡ true
unfolding pieces sets_of file_of verdict_bytes verdict_in verdict
others-told = refl
