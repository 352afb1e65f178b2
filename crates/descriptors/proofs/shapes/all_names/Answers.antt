-- `descriptors::shapes::all_names` meets its contract: there is a word, and all may stand in the list.
use mathlib.Core.Path.{sym, ap, ◌∙◌}
use lib.ListN.{length}
use Rattle.format.specs.Rules.{several}
use Rattle.format.specs.Words.{words}
use Rattle.words.specs.Spans.{span}
use Rattle.words.proofs.Finding.{found, not_found}
use Rattle.descriptors.specs.Contents.{listable}
use Rattle.descriptors.proofs.Wording.{several-some}
use Rattle.descriptors.proofs.shapes.all_names.Goals as goal

pub returns-in_default : goal.returns-in_default
returns-in_default c =
    sym (ap (several (listable c.args.special)) (not_found c.args.s.now c.next_word.ensures c.in_default.is))

pub returns : goal.returns
returns c =
    let s = c.args.s.now in
    let f = found s c.next_word.ensures c.in-Some.is in
    c.each_name.ensures ∙ sym (several-some (words s) (span c.in-Some.field-0.start c.in-Some.field-0.end s) (words (span c.in-Some.field-0.end (length s) s)) f.2 (listable c.args.special))
