-- `numbering::autos_counted` meets its contract: without a list there is nothing to ask; else the types are asked one by one.
use mathlib.Core.Path.{sym, ◌∙◌, subst}
use Rattle.format.specs.Bytes.{text}
use Rattle.records.specs.Named.{NamedNext}
use Rattle.dictionary.proofs.Granted.{auto-lists}
use Rattle.numbering.proofs.Counted.{autos-counted, none-counted-all}
use Rattle.numbering.proofs.autos_counted.Goals as goal

pub next_named-requires : goal.next_named-requires
next_named-requires c =
    c.requires.0.reads

pub returns-in_default : goal.returns-in_default
returns-in_default c =
    none-counted-all c.args.d.now (subst (NamedNext c.args.d.now (text "%auto") 0) c.in_default.is c.next_named.ensures).value

pub list-l-requires : goal.list-l-requires
list-l-requires c =
    (c.requires.0, auto-lists c.args.d.now c.requires.0)

pub returns : goal.returns
returns c =
    c.types_counted.ensures ∙ sym (autos-counted c.args.d.now c.requires.0)
