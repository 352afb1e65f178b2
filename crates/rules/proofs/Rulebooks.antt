-- The tables of a descriptor in their regions, the rulebook that they make, and the records asked by it.
use Prim.Native.Nat.{ℕ, ◌-◌, ◌≤◌}
use native.Mathlib.Omega.{arith}
use mathlib.Core.Path.{◌≡◌, sym, ap, ◌∙◌, subst}
use mathlib.Core.List.{List}
use lib.ListN.{length}
use borrow.Rule.Slice.PartMut.{put_mid, mid_len}
use Rattle.format.specs.Refusals.{no_of}
use Rattle.format.specs.Bytes.{Bytes}
use Rattle.format.specs.Records.{Record}
use Rattle.format.specs.Rules.{mandatory, unique}
use Rattle.words.specs.Spans.{span}
use Rattle.records.specs.Walk.{record_in}
use Rattle.dictionary.specs.Known.{Described, IsDictionary}
use Rattle.dictionary.specs.Numbered.{IsWords}
use Rattle.dictionary.specs.declared.wordsets.Words.{Words}
use Rattle.enums.specs.Rows.{Texts, IsSymbols, Reaches}
use Rattle.enums.specs.declared.Symbols.{Symbols}
use Rattle.columns.proofs.Named.{kinds-texts}
use Rattle.rules.specs.Tables.{unique_at, names_at, symbols_at, entries_end, IsTables}
use Rattle.rules.specs.Members.{IsRulebook, part_no}
use Rattle.rules.specs.Chunks.{IsBook, Chunked}
use Rattle.rules.specs.declared.tables.Tables.{Tables}
use Rattle.rules.specs.declared.members.Rulebook.{Rulebook}
use Rattle.rules.specs.declared.Book.{Book}
use Rattle.rules.specs.declared.Chunk.{Chunk}
use Rattle.rules.proofs.Regions.{put-length, put-here, put-before}

-- in an array the mandatory words are written first, x, then the unique words, y
module _ (l : List ℕ) (room : names_at ≤ length l) where
  pub mandatory-room : length (span 0 unique_at l) ≡ unique_at
  mandatory-room = mid_len 0 unique_at l (omega arith)

  module _ (x : List ℕ) (long : length x ≡ unique_at) where
    abbrev pub with-mandatory : List ℕ
    with-mandatory = put_mid 0 unique_at l x

    pub mandatory-length : length with-mandatory ≡ length l
    mandatory-length = put-length 0 unique_at l x (omega arith) (omega arith) long

    pub unique-room : length (span unique_at names_at with-mandatory) ≡ unique_at
    unique-room = mid_len unique_at names_at with-mandatory (omega (arith, mandatory-length))

    module _ (y : List ℕ) (long-unique : length y ≡ unique_at) where
      abbrev pub with-words : List ℕ
      with-words = put_mid unique_at unique_at with-mandatory y

      pub words-length : length with-words ≡ length l
      words-length = put-length unique_at names_at with-mandatory y (omega arith) (omega (arith, mandatory-length)) long-unique ∙ mandatory-length

      mandatory-region : span 0 unique_at with-words ≡ x
      mandatory-region =
          put-before unique_at names_at with-mandatory y (omega arith) (omega (arith, mandatory-length)) long-unique 0 unique_at (omega arith)
          ∙ put-here 0 unique_at l x (omega arith) (omega arith) long

      unique-region : span unique_at names_at with-words ≡ y
      unique-region = put-here unique_at names_at with-mandatory y (omega arith) (omega (arith, mandatory-length)) long-unique

-- then the names, z, behind the words; the sets of the words stand in an array of their own
module _ (l : List ℕ) (room : entries_end ≤ length l) (z : List ℕ) (long : length z ≡ symbols_at - names_at) where
  abbrev pub with-names : List ℕ
  with-names = put_mid names_at (symbols_at - names_at) l z

  pub names-length : length with-names ≡ length l
  names-length = put-length names_at symbols_at l z (omega arith) (omega arith) long

  words-kept : (a e : ℕ) → e ≤ names_at → span a e with-names ≡ span a e l
  words-kept = put-before names_at symbols_at l z (omega arith) (omega arith) long

  pub tables-are : (d : Bytes) → Described d → (sets : List ℕ) → names_at ≤ length sets → (t : Tables)
      → IsWords d (mandatory (record_in d)) (span 0 unique_at l) (span 0 unique_at sets) t.mandatory
      → IsWords d (unique (record_in d)) (span unique_at names_at l) (span unique_at names_at sets) t.unique
      → IsDictionary d z t.names → IsTables d with-names sets t
  tables-are d h sets many t a b c = record {
    described = h;
    entries-long = omega (arith, names-length);
    sets-long = many;
    mandatory-are = subst (λ (v : List ℕ). IsWords d (mandatory (record_in d)) v (span 0 unique_at sets) t.mandatory) (sym (words-kept 0 unique_at (omega arith))) a;
    unique-are = subst (λ (v : List ℕ). IsWords d (unique (record_in d)) v (span unique_at names_at sets) t.unique) (sym (words-kept unique_at names_at (omega arith))) b;
    names-are = subst (λ (v : List ℕ). IsDictionary d v t.names) (sym (put-here names_at symbols_at l z (omega arith) (omega arith) long)) c;
  }

-- the words in both arrays
module _ (d : Bytes) (l sets x xs y ys : List ℕ) (room : names_at ≤ length l) (many : names_at ≤ length sets)
    (long : length x ≡ unique_at) (longs : length xs ≡ unique_at) (long-unique : length y ≡ unique_at) (longs-unique : length ys ≡ unique_at) where
  abbrev entries : List ℕ
  entries = with-words l room x long y long-unique

  abbrev kept_sets : List ℕ
  kept_sets = with-words sets many xs longs ys longs-unique

  pub mandatory-stand : (m : Words) → IsWords d (mandatory (record_in d)) x xs m → IsWords d (mandatory (record_in d)) (span 0 unique_at entries) (span 0 unique_at kept_sets) m
  mandatory-stand m a =
      subst (λ (v : List ℕ). IsWords d (mandatory (record_in d)) v (span 0 unique_at kept_sets) m) (sym (mandatory-region l room x long y long-unique))
      (subst (λ (v : List ℕ). IsWords d (mandatory (record_in d)) x v m) (sym (mandatory-region sets many xs longs ys longs-unique)) a)

  pub unique-stand : (u : Words) → IsWords d (unique (record_in d)) y ys u → IsWords d (unique (record_in d)) (span unique_at names_at entries) (span unique_at names_at kept_sets) u
  unique-stand u b =
      subst (λ (v : List ℕ). IsWords d (unique (record_in d)) v (span unique_at names_at kept_sets) u) (sym (unique-region l room x long y long-unique))
      (subst (λ (v : List ℕ). IsWords d (unique (record_in d)) y v u) (sym (unique-region sets many xs longs ys longs-unique)) b)

-- the symbols behind the tables
module _ (d : Bytes) (b : Book) (h : IsBook d b) (from : ℕ) (l sets : List ℕ) (t : Tables) (k : IsTables d l sets t) (begins : t.names.from ≡ from) where
  pub next-few : (t.names.next ≤ b.kinds.count) × (t.names.next ≤ 32)
  next-few = (omega (arith, k.names-are.within, h.kinds-are.count), omega (arith, k.names-are.within, h.kinds-are.count, h.kinds-are.few))

  pub texts-to : Texts d b.kinds.texts t.names.next
  texts-to i n low = kinds-texts d b.kinds h.kinds-are i (omega (arith, next-few.0)) low

  module _ (x : List ℕ) (long : length x ≡ entries_end - symbols_at) (e : Symbols) (g : IsSymbols d b.kinds.texts x e) (o : Reaches from t.names.next e) where
    abbrev pub with-symbols : List ℕ
    with-symbols = put_mid symbols_at (entries_end - symbols_at) l x

    pub symbols-length : length with-symbols ≡ length l
    symbols-length = put-length symbols_at entries_end l x (omega arith) k.entries-long long

    -- what stands before the symbols is as it was
    kept : (a f : ℕ) → f ≤ symbols_at → span a f l ≡ span a f with-symbols
    kept a f n = sym (put-before symbols_at entries_end l x (omega arith) k.entries-long long a f n)

    abbrev pub book_of : Rulebook
    book_of = record { tables = t; typed = record { kinds = b.kinds; symbols = e }; limited = b.limited; keyed = b.keyed }

    pub rulebook : IsRulebook d with-symbols sets book_of
    rulebook = record {
      tables-are = record {
        described = k.described;
        entries-long = omega (arith, symbols-length, k.entries-long);
        sets-long = k.sets-long;
        mandatory-are = subst (λ (v : List ℕ). IsWords d (mandatory (record_in d)) v (span 0 unique_at sets) t.mandatory) (kept 0 unique_at (omega arith)) k.mandatory-are;
        unique-are = subst (λ (v : List ℕ). IsWords d (unique (record_in d)) v (span unique_at names_at sets) t.unique) (kept unique_at names_at (omega arith)) k.unique-are;
        names-are = subst (λ (v : List ℕ). IsDictionary d v t.names) (kept names_at symbols_at (omega arith)) k.names-are;
      };
      typed-are = record {
        kinds-are = h.kinds-are;
        symbols-are = subst (λ (v : List ℕ). IsSymbols d b.kinds.texts v e) (sym (put-here symbols_at entries_end l x (omega arith) k.entries-long long)) g;
        within = omega (arith, o.within, next-few.0);
      };
      from_is = o.from_is ∙ sym begins;
      within = o.within;
      limited-is = h.limited-is;
      keyed-is = h.keyed-is;
    }

    pub chunked : (rs : List Record) (c : Chunk) → c.next ≡ e.next → no_of c.answer ≡ part_no d t.names.from (e.next - t.names.from) rs → c.count ≡ length rs → Chunked d from b.kinds.count rs c
    chunked rs c q m n = record {
      begins = omega (arith, q, g.begins, o.from_is);
      within = omega (arith, q, o.within, next-few.0);
      some = λ i. let f = k.names-are.some (omega (arith, h.kinds-are.count, begins)) in let j = o.some (omega (arith, f, begins)) in omega (arith, q);
      number_is = m ∙ ap (λ (i : ℕ). part_no d i (e.next - i) rs) begins ∙ ap (λ (i : ℕ). part_no d from (i - from) rs) (sym q);
      count-is = n;
    }
