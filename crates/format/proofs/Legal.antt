-- Names and values that can be written: what they are, and that what is written of them reads back.
use mathlib.Core.Path.{◌≡◌, refl, sym, ap, ◌∙◌}
use mathlib.Core.Bool.{Bool, true, false, ◌&&◌, not, and-eq-true_iff}
use mathlib.Core.List.{List, [], ◌∷◌, map}
use mathlib.Core.Option.{some}
use lib.Dec.{leb}
use lib.ListN.{length}
use borrow.Author.Tests.{eqb-false, ne_eqb, not-true}
use Rattle.format.specs.Bytes.{Bytes, text, is_allowed, all, same}
use Rattle.format.specs.Lines.{is_name, is_special}
use Rattle.format.specs.Pieces.{pieces}
use Rattle.format.specs.Words.{split}
use Rattle.format.specs.Limits.{name_bytes, value_bytes}
use Rattle.format.specs.Rules.{is_ordinary}
use Rattle.format.specs.Written.{written, Pair, written_all, new_piece, is_legal_name, none_joins, is_legal_value, is_legal_pair}
use Rattle.format.proofs.Elements.{Each, each-imp, each_map, all-each, each_all}
use Rattle.format.proofs.Whole.{Sound, sound-pieces}
use Rattle.format.proofs.Names.{name-allowed}
use Rattle.format.proofs.Writing.{writtenAll-bytes, written-sound, allowed-written}

-- What can be written: a name that does not start with `%`, of any length, with a legal value. A legal pair is such a one, and so is what an insert gets for a name that it omits.
abbrev pub is_writable : Pair → Bool
is_writable p = is_ordinary p.name && is_legal_value p.value

pub legal-ordinary : (n : Bytes) → is_legal_name n ≡ true → is_ordinary n ≡ true
legal-ordinary n e =
    let h = (and-eq-true_iff (is_name n && leb (length n) name_bytes) (not (is_special n))).0 e in
    (and-eq-true_iff (is_name n) (not (is_special n))).1 (((and-eq-true_iff (is_name n) (leb (length n) name_bytes)).0 h.0).0, h.1)

pub legal-writable : (p : Pair) → is_legal_pair p ≡ true → is_writable p ≡ true
legal-writable p e =
    let h = (and-eq-true_iff (is_legal_name p.name) (is_legal_value p.value)).0 e in
    (and-eq-true_iff (is_ordinary p.name) (is_legal_value p.value)).1 (legal-ordinary p.name h.0, h.1)

pub legals-writable : (ps : List Pair) → all is_legal_pair ps ≡ true → all is_writable ps ≡ true
legals-writable ps e = each_all is_writable ps (each-imp (λ (p : Pair). is_legal_pair p ≡ true) (λ (p : Pair). is_writable p ≡ true) legal-writable ps (all-each is_legal_pair ps e))

pub writable-name : (p : Pair) → is_writable p ≡ true → is_ordinary p.name ≡ true
writable-name p e = ((and-eq-true_iff (is_ordinary p.name) (is_legal_value p.value)).0 e).0

writable-value : (p : Pair) → is_writable p ≡ true → is_legal_value p.value ≡ true
writable-value p e = ((and-eq-true_iff (is_ordinary p.name) (is_legal_value p.value)).0 e).1

-- such a name is a name, and does not start with `%`
pub ordinary-is-name : (n : Bytes) → is_ordinary n ≡ true → is_name n ≡ true
ordinary-is-name n e = ((and-eq-true_iff (is_name n) (not (is_special n))).0 e).0

pub ordinary-not-special : (n : Bytes) → is_ordinary n ≡ true → is_special n ≡ false
ordinary-not-special n e = not-true (is_special n) ((and-eq-true_iff (is_name n) (not (is_special n))).0 e).1

not-special-rec : (n : Bytes) → is_special n ≡ false → same (text "%rec") n ≡ false
not-special-rec [] e = refl
not-special-rec (c ∷ s) e = ap (λ (b : Bool). b && same (text "rec") s) (ne_eqb 37 c (λ q. eqb-false c 37 e (sym q)))

pub ordinary-not-rec : (n : Bytes) → is_ordinary n ≡ true → same (text "%rec") n ≡ false
ordinary-not-rec n e = not-special-rec n (ordinary-not-special n e)

-- a legal value is of allowed bytes, and none of its lines takes on the next
pub legal-joins : (v : Bytes) → is_legal_value v ≡ true → none_joins (split 10 v) ≡ true
legal-joins v e = ((and-eq-true_iff (leb (length v) value_bytes && all is_allowed v) (none_joins (split 10 v))).0 e).1

pub legal-allowed : (v : Bytes) → is_legal_value v ≡ true → all is_allowed v ≡ true
legal-allowed v e =
    let h = (and-eq-true_iff (leb (length v) value_bytes && all is_allowed v) (none_joins (split 10 v))).0 e in
    ((and-eq-true_iff (leb (length v) value_bytes) (all is_allowed v)).0 h.0).1

-- Writable pairs are written as sound pieces, and read back as themselves.
pub writable-sound : (p : Pair) → is_writable p ≡ true → Sound (new_piece p)
writable-sound p e = written-sound p.name p.value (ordinary-is-name p.name (writable-name p e)) (legal-joins p.value (writable-value p e))

writables-sound : (ps : List Pair) → all is_writable ps ≡ true → Each Sound (map new_piece ps)
writables-sound ps e = each_map Sound new_piece ps (each-imp (λ (p : Pair). is_writable p ≡ true) (λ (p : Pair). Sound (new_piece p)) writable-sound ps (all-each is_writable ps e))

pub record-reads-back : (ps : List Pair) → all is_writable ps ≡ true → pieces (written_all ps) ≡ some (map new_piece ps)
record-reads-back ps e = sym (ap pieces (writtenAll-bytes ps)) ∙ sound-pieces (map new_piece ps) (writables-sound ps e)

-- what is written of them is allowed
pub written-allowed : (p : Pair) → is_writable p ≡ true → all is_allowed (written p.name p.value) ≡ true
written-allowed p e =
    allowed-written p.name p.value
    ∙ (and-eq-true_iff (all is_allowed p.name) (all is_allowed p.value)).1 (name-allowed p.name (ordinary-is-name p.name (writable-name p e)), legal-allowed p.value (writable-value p e))
