-- What question 4 grants of a descriptor: the numbers of its types and of the words in each of its lists.
use Prim.Native.Nat.{◌≤◌}
use mathlib.Core.Path.{◌≡◌}
use mathlib.Core.Bool.{Bool, true, ◌&&◌, and-eq-true_iff}
use borrow.Author.Tests.{leb-true}
use lib.Dec.{leb}
use lib.ListN.{length}
use Rattle.format.specs.Bytes.{text}
use Rattle.format.specs.Records.{Record}
use Rattle.format.specs.Sets.{values_of}
use Rattle.format.specs.Limits.{typedefs, type_fields, list_words}
use Rattle.format.specs.Rules.{mandatory, prohibited, allowed, unique, singular, auto}
use Rattle.format.specs.Questions.{fits_rules}

pub record Few (r : Record) : Type 0 where
  pub typedefs-few : length (values_of (text "%typedef") r) ≤ typedefs
  pub types-few : length (values_of (text "%type") r) ≤ type_fields
  pub mandatory-few : length (mandatory r) ≤ list_words
  pub prohibited-few : length (prohibited r) ≤ list_words
  pub allowed-few : length (allowed r) ≤ list_words
  pub unique-few : length (unique r) ≤ list_words
  pub singular-few : length (singular r) ≤ list_words
  pub auto-few : length (auto r) ≤ list_words

pub rules-few : (r : Record) → fits_rules r ≡ true → Few r
rules-few r e =
    let d : Bool = leb (length (values_of (text "%typedef") r)) typedefs in
    let t : Bool = leb (length (values_of (text "%type") r)) type_fields in
    let m : Bool = leb (length (mandatory r)) list_words in
    let p : Bool = leb (length (prohibited r)) list_words in
    let a : Bool = leb (length (allowed r)) list_words in
    let u : Bool = leb (length (unique r)) list_words in
    let s : Bool = leb (length (singular r)) list_words in
    let o : Bool = leb (length (auto r)) list_words in
    let ho = (and-eq-true_iff (d && t && m && p && a && u && s) o).0 e in
    let hs = (and-eq-true_iff (d && t && m && p && a && u) s).0 ho.0 in
    let hu = (and-eq-true_iff (d && t && m && p && a) u).0 hs.0 in
    let ha = (and-eq-true_iff (d && t && m && p) a).0 hu.0 in
    let hp = (and-eq-true_iff (d && t && m) p).0 ha.0 in
    let hm = (and-eq-true_iff (d && t) m).0 hp.0 in
    let ht = (and-eq-true_iff d t).0 hm.0 in
    record {
      typedefs-few = leb-true (length (values_of (text "%typedef") r)) typedefs ht.0;
      types-few = leb-true (length (values_of (text "%type") r)) type_fields ht.1;
      mandatory-few = leb-true (length (mandatory r)) list_words hm.1;
      prohibited-few = leb-true (length (prohibited r)) list_words hp.1;
      allowed-few = leb-true (length (allowed r)) list_words ha.1;
      unique-few = leb-true (length (unique r)) list_words hu.1;
      singular-few = leb-true (length (singular r)) list_words hs.1;
      auto-few = leb-true (length (auto r)) list_words ho.1;
    }
