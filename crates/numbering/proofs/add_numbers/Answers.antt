-- `numbering::add_numbers` meets its contract: without a list nothing is added; else the words of the lists are read into a table.
use native.Mathlib.Omega.{arith}
use mathlib.Core.Path.{refl, subst}
use mathlib.Core.List.{[]}
use Rattle.format.specs.Bytes.{text}
use Rattle.format.specs.Pieces.{read_of}
use Rattle.format.proofs.Records.{records}
use Rattle.records.specs.Named.{NamedNext}
use Rattle.requests.specs.Pairs.{pairs_at}
use Rattle.dictionary.proofs.Granted.{auto-lists}
use Rattle.numbering.proofs.Completing.{none-added}
use Rattle.numbering.proofs.add_numbers.Goals as goal

pub next_named-requires : goal.next_named-requires
next_named-requires c =
    c.requires.described.0.reads

pub returns-in_default : goal.returns-in_default
returns-in_default c =
    ([], (none-added c.args.d.now (records (read_of c.args.part.now)) (pairs_at c.args.req.now c.args.from) (subst (NamedNext c.args.d.now (text "%auto") 0) c.in_default.is c.next_named.ensures).value, record { len_is = refl; inside = omega arith; text = refl; short = refl }))

pub list-l-requires : goal.list-l-requires
list-l-requires c =
    (c.requires.described.0, auto-lists c.args.d.now c.requires.described.0)

pub add_listed-requires : goal.add_listed-requires
add_listed-requires c =
    record { described = (c.requires.described.0, c.list-l.ensures, c.requires.described.1); part_value = c.requires.part_value; req_len_bound = c.requires.req_len_bound }
