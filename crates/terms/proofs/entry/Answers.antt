-- `terms::entry` meets its contract: the number has the place, the tag and the fingerprint side by side.
use Prim.Native.Nat.{ℕ, ◌+◌, ◌*◌, ◌/◌}
use native.Mathlib.Omega.{arith}
use mathlib.Core.Path.{◌≡◌, sym, ap, ◌∙◌, subst}
use mathlib.Core.Bool.{true}
use Rattle.sorting.specs.Texts.{text_at}
use Rattle.terms.specs.Entries.{tag_unit, print_unit, print_of, entry_of, term_at, IsEntry}
use Rattle.terms.proofs.Prints.{entry-is, entry-term}
use Rattle.terms.proofs.entry.Goals as goal

pub returns : goal.returns
unfolding print_of
returns c =
    let s = c.args.s.now in
    let at = c.args.at in
    let t = c.args.tag in
    let p : c.narrow-p.result / print_unit ≡ print_of (text_at true s at) = ap (λ (z : ℕ). z / print_unit) (c.narrow-p.ensures ∙ c.mix.ensures.0) in
    let r : c.narrow.result + tag_unit * t + print_unit * (c.narrow-p.result / print_unit) ≡ entry_of at t (text_at true s at) = omega arith in
    (r, subst (IsEntry s) (sym r) (entry-is s at t c.requires.0 c.requires.1), ap (term_at s) r ∙ entry-term s at t c.requires.0 c.requires.1)
