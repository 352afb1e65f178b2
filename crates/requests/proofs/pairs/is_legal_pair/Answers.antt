-- `requests::pairs::is_legal_pair` meets its contract: the name, and then the value.
use mathlib.Core.Path.{sym, ◌∙◌}
use borrow.Author.Tests.{not-true, not-false}
use Rattle.requests.specs.Fields.{bytes_of}
use Rattle.requests.proofs.Weighing.{legal-both, illegal-name}
use mathlib.Core.Bool.{not}
use mathlib.Core.Path.{ap}
use Rattle.requests.proofs.pairs.is_legal_pair.Goals as goal

pub returns-then-not-is_legal_name : goal.returns-then-not-is_legal_name
returns-then-not-is_legal_name c =
    sym (illegal-name (bytes_of c.args.req.now c.args.name) (bytes_of c.args.req.now c.args.value) (sym c.is_legal_name.ensures ∙ not-true c.is_legal_name.result (ap not c.if-not-is_legal_name.true)))

pub returns : goal.returns
returns c =
    c.is_legal_value.ensures ∙ sym (legal-both (bytes_of c.args.req.now c.args.name) (bytes_of c.args.req.now c.args.value) (sym c.is_legal_name.ensures ∙ not-false c.is_legal_name.result (ap not c.if-not-is_legal_name.false)))
