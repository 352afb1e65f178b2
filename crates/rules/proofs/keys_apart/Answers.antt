-- `rules::keys_apart` meets its contract: the key is the word of the only `%key` field, and its values in the records are the keys.
use borrow.Author.Rules.{rules}
use native.Mathlib.Omega.{arith}
use Prim.Native.Nat.{◌≤◌}
use mathlib.Core.Path.{ap, subst}
use mathlib.Core.List.{List, []}
use lib.ListN.{length, get_or}
use Rattle.format.specs.Bytes.{Bytes, text}
use Rattle.values.specs.Value.{value_from}
use Rattle.words.specs.Spans.{span}
use Rattle.words.proofs.Decoded.{decoded-all, decoded-length, decoded-inside}
use Rattle.words.proofs.Finding.{found, not_found}
use Rattle.records.specs.Named.{NamedNext}
use Rattle.columns.proofs.Granted.{fits-at}
use Rattle.rules.proofs.Walking.{key-few}
use Rattle.rules.proofs.Granted.{described-by}
use Rattle.rules.proofs.Keys.{no_key, no_word, key-room, key-values, key-once-named, word-span}
use Rattle.rules.proofs.keys_apart.Goals as goal

pub next_named-requires : goal.next_named-requires
next_named-requires c =
    c.requires.rules.0.reads

pub returns-in_default : goal.returns-in_default
returns-in_default c =
    no_key c.args.d.now c.args.part.now (subst (NamedNext c.args.d.now (text "%key") 0) c.in_default.is c.next_named.ensures).value

pub slice_bounds-copy_value-count : goal.slice_bounds-copy_value-count
slice_bounds-copy_value-count c =
    let h = (subst (NamedNext c.args.d.now (text "%key") 0) c.in-Some.is c.next_named.ensures).value in h.within

pub slice_bounds-copy_value-start : goal.slice_bounds-copy_value-start
slice_bounds-copy_value-start c =
    let h = (subst (NamedNext c.args.d.now (text "%key") 0) c.in-Some.is c.next_named.ensures).value in h.within

pub slice_bounds-copy_value-end : goal.slice_bounds-copy_value-end
slice_bounds-copy_value-end c =
    let h = (subst (NamedNext c.args.d.now (text "%key") 0) c.in-Some.is c.next_named.ensures).value in h.inside

pub copy_value-n-requires : goal.copy_value-n-requires
copy_value-n-requires c =
    let h = (subst (NamedNext c.args.d.now (text "%key") 0) c.in-Some.is c.next_named.ensures).value in
    let f = fits-at c.args.d.now (described-by c.args.d.now c.requires.rules.0 c.requires.rules.1) (text "%key") 0 in
    omega (arith, f, ap (λ (vs : List Bytes). length (get_or vs 0 [])) h.values, c.requires.value_bytes_in_bounds.0)

pub slice_bounds-next_word-end : goal.slice_bounds-next_word-end
slice_bounds-next_word-end c =
    let h = (subst (NamedNext c.args.d.now (text "%key") 0) c.in-Some.is c.next_named.ensures).value in
    let f = fits-at c.args.d.now (described-by c.args.d.now c.requires.rules.0 c.requires.rules.1) (text "%key") 0 in
    let fit : length (value_from (span c.in-Some.field-0.value c.in-Some.field-0.end c.args.d.now)) ≤ length c.args.scratch.now = omega (arith, f, ap (λ (vs : List Bytes). length (get_or vs 0 [])) h.values, c.requires.value_bytes_in_bounds.0) in
    decoded-inside (value_from (span c.in-Some.field-0.value c.in-Some.field-0.end c.args.d.now)) c.args.scratch.now _ c.copy_value-n.result c.copy_value-n.ensures.0 c.copy_value-n.ensures.1 fit

pub slice_bounds-next_word-end-2 : goal.slice_bounds-next_word-end-2
slice_bounds-next_word-end-2 c =
    decoded-length (value_from (span c.in-Some.field-0.value c.in-Some.field-0.end c.args.d.now)) c.args.scratch.now _ c.copy_value-n.result c.copy_value-n.ensures.0 c.copy_value-n.ensures.1

pub returns-in_default-next_word : goal.returns-in_default-next_word
returns-in_default-next_word c =
    let h = (subst (NamedNext c.args.d.now (text "%key") 0) c.in-Some.is c.next_named.ensures).value in
    let q = decoded-all (value_from (span c.in-Some.field-0.value c.in-Some.field-0.end c.args.d.now)) c.args.scratch.now _ c.copy_value-n.result c.copy_value-n.ensures.0 c.copy_value-n.ensures.1 in
    no_word c.args.d.now c.args.part.now c.in-Some.field-0.value c.in-Some.field-0.end h _ q (key-once-named c.args.d.now c.requires.rules.0) (not_found _ c.next_word.ensures c.in_default-next_word.is)

pub slice_bounds-keys_distinct-count : goal.slice_bounds-keys_distinct-count
slice_bounds-keys_distinct-count c =
    let q = found _ c.next_word.ensures c.in-Some-next_word.is in omega (arith, q.0)

pub slice_bounds-keys_distinct-start : goal.slice_bounds-keys_distinct-start
slice_bounds-keys_distinct-start c =
    let q = found _ c.next_word.ensures c.in-Some-next_word.is in omega (arith, q.0)

pub slice_bounds-keys_distinct-end : goal.slice_bounds-keys_distinct-end
slice_bounds-keys_distinct-end c =
    let h = (subst (NamedNext c.args.d.now (text "%key") 0) c.in-Some.is c.next_named.ensures).value in
    let f = fits-at c.args.d.now (described-by c.args.d.now c.requires.rules.0 c.requires.rules.1) (text "%key") 0 in
    let fit : length (value_from (span c.in-Some.field-0.value c.in-Some.field-0.end c.args.d.now)) ≤ length c.args.scratch.now = omega (arith, f, ap (λ (vs : List Bytes). length (get_or vs 0 [])) h.values, c.requires.value_bytes_in_bounds.0) in
    let inside = decoded-inside (value_from (span c.in-Some.field-0.value c.in-Some.field-0.end c.args.d.now)) c.args.scratch.now _ c.copy_value-n.result c.copy_value-n.ensures.0 c.copy_value-n.ensures.1 fit in
    let long = decoded-length (value_from (span c.in-Some.field-0.value c.in-Some.field-0.end c.args.d.now)) c.args.scratch.now _ c.copy_value-n.result c.copy_value-n.ensures.0 c.copy_value-n.ensures.1 in
    let q = found _ c.next_word.ensures c.in-Some-next_word.is in
    omega (arith, q.1, inside, long)

pub keys_distinct-requires : goal.keys_distinct-requires
keys_distinct-requires c =
    let h = (subst (NamedNext c.args.d.now (text "%key") 0) c.in-Some.is c.next_named.ensures).value in
    let u = decoded-all (value_from (span c.in-Some.field-0.value c.in-Some.field-0.end c.args.d.now)) c.args.scratch.now _ c.copy_value-n.result c.copy_value-n.ensures.0 c.copy_value-n.ensures.1 in
    let long = decoded-length (value_from (span c.in-Some.field-0.value c.in-Some.field-0.end c.args.d.now)) c.args.scratch.now _ c.copy_value-n.result c.copy_value-n.ensures.0 c.copy_value-n.ensures.1 in
    let q = found _ c.next_word.ensures c.in-Some-next_word.is in
    let here = word-span _ c.copy_value-n.result c.in-Some-next_word.w.start c.in-Some-next_word.w.end (omega (arith, q.1, long)) q.2 in
    let room = key-room c.args.d.now c.args.part.now c.in-Some.field-0.value c.in-Some.field-0.end h _ u _ _ here (key-few c.args.d.now (described-by c.args.d.now c.requires.rules.0 c.requires.rules.1)) c.requires.part_value.0 c.requires.part_value.1 c.requires.part_value.2 in
    record { s_value = (c.requires.part_value.0, c.requires.part_value.1); s_in_bounds = omega (arith, room, c.requires.value_bytes_in_bounds.1) }

pub returns : goal.returns
returns c =
    let h = (subst (NamedNext c.args.d.now (text "%key") 0) c.in-Some.is c.next_named.ensures).value in
    let u = decoded-all (value_from (span c.in-Some.field-0.value c.in-Some.field-0.end c.args.d.now)) c.args.scratch.now _ c.copy_value-n.result c.copy_value-n.ensures.0 c.copy_value-n.ensures.1 in
    let long = decoded-length (value_from (span c.in-Some.field-0.value c.in-Some.field-0.end c.args.d.now)) c.args.scratch.now _ c.copy_value-n.result c.copy_value-n.ensures.0 c.copy_value-n.ensures.1 in
    let q = found _ c.next_word.ensures c.in-Some-next_word.is in
    let here = word-span _ c.copy_value-n.result c.in-Some-next_word.w.start c.in-Some-next_word.w.end (omega (arith, q.1, long)) q.2 in
    key-values c.args.d.now c.args.part.now c.in-Some.field-0.value c.in-Some.field-0.end h _ u _ _ here (key-few c.args.d.now (described-by c.args.d.now c.requires.rules.0 c.requires.rules.1)) c.keys_distinct.result c.keys_distinct.ensures
