-- `descriptors::shapes::value_holds` meets its contract: nothing is asked, or the scratch holds the value, which is what is asked.
use mathlib.Core.Path.{refl, sym, ap, ◌∙◌}
use Rattle.values.specs.Value.{value_from}
use Rattle.descriptors.specs.Contents.{holds}
use Rattle.words.proofs.Decoded.{decoded-all, scratch-length}
use Rattle.descriptors.proofs.shapes.value_holds.Goals as goal

pub returns : goal.returns
returns c =
    let v = value_from c.args.value.now in
    ((c.text_holds.ensures ∙ ap (holds c.args.c) (decoded-all v c.args.scratch.now c.copy_value-n.new.out c.copy_value-n.result c.copy_value-n.ensures.0 c.copy_value-n.ensures.1)), scratch-length v c.args.scratch.now c.copy_value-n.new.out c.copy_value-n.result c.copy_value-n.ensures.0 c.copy_value-n.ensures.1 c.requires)
