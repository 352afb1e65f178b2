-- `terms::is_twin` meets its contract.
use mathlib.Core.Path.{◌≡◌, sym, ◌∙◌}
use mathlib.Core.Bool.{false≢true}
use Rattle.format.proofs.Listing.{same_true}
use Rattle.terms.specs.Sets.{term_of}
use Rattle.terms.specs.Entries.{tag_of, word_at}
use Rattle.terms.proofs.is_twin.Goals as goal

pub returns-then-tag : goal.returns-then-tag
returns-then-tag c = λ e. absurd (false≢true e)

pub returns : goal.returns
returns c =
    λ e.
    let s = c.args.s.now in
    let w = same_true (word_at s c.args.x) (word_at s c.args.y) (sym c.same_word.ensures ∙ e) in
    let t : tag_of c.args.x ≡ tag_of c.args.y = sym c.tag.ensures.0 ∙ (c.if-tag.false ∙ c.tag-2.ensures.0) in
    (λ i. term_of (t i) (w i))
