-- `rules::has_field` meets its contract.
use native.Mathlib.Omega.{arith}
use mathlib.Core.Path.{◌≡◌, sym, ap, ◌∙◌}
use mathlib.Core.Bool.{not}
use mathlib.Core.List.{List}
use lib.Dec.{eqb}
use lib.ListN.{length}
use borrow.Author.Tests.{ne_eqb}
use Rattle.std.specs.Prelude.{Option, Some, None, is_some}
use Rattle.format.specs.Bytes.{Bytes}
use Rattle.records.specs.declared.ValuePlace.{ValuePlace}
use Rattle.records.specs.Named.{values_from, NamedNext}
use Rattle.rules.proofs.has_field.Goals as goal

named : (d n : Bytes) (x : Option ValuePlace) → NamedNext d n 0 x → is_some x ≡ not (eqb (length (values_from d n 0)) 0)
named d n None h = sym (ap (λ (vs : List Bytes). not (eqb (length vs) 0)) h.value)
named d n (Some f) h = sym (ap not (ne_eqb (length (values_from d n 0)) 0 (λ z. omega (arith, ap length h.value.values))))

pub next_named-requires : goal.next_named-requires
next_named-requires c =
    c.requires

pub returns : goal.returns
returns c =
    c.is_some.ensures ∙ named c.args.d.now c.args.name.now c.next_named.result c.next_named.ensures
