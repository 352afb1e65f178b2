-- `terms::with_next` meets its contract: the entry's own tag, and those of the next entry where that has the same word.
use native.Mathlib.Omega.{arith}
use mathlib.Core.Path.{sym, ap, ◌∙◌}
use Prim.Native.Nat.{ℕ, ◌+◌, ◌^◌, ◌<◌}
use lib.ListN.{length, get_or}
use Rattle.format.proofs.Listing.{same_true}
use Rattle.terms.specs.Entries.{word_at}
use Rattle.terms.proofs.Tests.{same_false}
use Rattle.terms.proofs.Joining.{tags-more, tags-last, tags-apart}
use Rattle.terms.proofs.with_next.Goals as goal

pub single-own-requires : goal.single-own-requires
single-own-requires c =
    c.tag.ensures.1

pub returns-then-i-entries : goal.returns-then-i-entries
returns-then-i-entries c =
    tags-last c.args.s.now c.args.entries.now c.args.i c.single-own.result c.requires.i_in_bounds.0 (c.single-own.ensures ∙ ap (λ (z : ℕ). 2 ^ z) c.tag.ensures.0) c.if-i-entries.true

pub same_word-requires : goal.same_word-requires
same_word-requires c =
    let h = c.requires.i_in_bounds.0 in
    let e = c.if-i-entries.false in
    (c.requires.entries.0 c.args.i h, c.requires.entries.0 (c.args.i + 1) (omega arith))

pub returns-then-same_word : goal.returns-then-same_word
returns-then-same_word c =
    tags-more c.args.s.now c.args.entries.now c.args.i c.single-own.result c.requires.i_in_bounds.0 (c.single-own.ensures ∙ ap (λ (z : ℕ). 2 ^ z) c.tag.ensures.0)
    (same_true (word_at c.args.s.now (get_or c.args.entries.now c.args.i 0)) (word_at c.args.s.now (get_or c.args.entries.now (c.args.i + 1) 0)) (sym c.same_word.ensures ∙ c.if-same_word.true))
    c.args.next c.requires.i_in_bounds.1

pub returns : goal.returns
returns c =
    let h = c.requires.i_in_bounds.0 in
    let e = c.if-i-entries.false in
    let g : c.args.i + 1 < length c.args.entries.now = omega arith in
    tags-apart c.args.s.now c.args.entries.now c.args.i c.single-own.result h (c.single-own.ensures ∙ ap (λ (z : ℕ). 2 ^ z) c.tag.ensures.0) c.requires.entries.1 g
    (same_false (word_at c.args.s.now (get_or c.args.entries.now c.args.i 0)) (word_at c.args.s.now (get_or c.args.entries.now (c.args.i + 1) 0)) (sym c.same_word.ensures ∙ c.if-same_word.false))
