-- `lines::name_len` meets its contract.
use mathlib.Core.Path.{◌≡◌, sym, ◌∙◌}
use Rattle.std.proofs.Common.{rules, tests}
use Rattle.std.proofs.lemmas.Iterator.{YieldsList-from_slice}
use Rattle.std.proofs.lemmas.Iterator.Search.{position_from_yields_List}
use Prim.Native.Nat.{◌-◌}
use native.Mathlib.Omega.{arith}
use mathlib.Core.Bool.{not}
use borrow.Author.Tests.{eqb-true, eqb-false}
use lib.ListN.{length, take, drop}
use Rattle.format.specs.Bytes.{Bytes}
use Rattle.format.specs.Lines.{is_later}
use Rattle.lines.specs.Line.{run}
use Rattle.lines.proofs.Cuts.{rest}
use Rattle.lines.proofs.Heads.{name-first, name-none, name-empty}
use Rattle.lines.proofs.Scans.{run_found, not-not}
use Rattle.lines.proofs.name_len.Goals as goal

pub returns-then-is_empty : goal.returns-then-is_empty
returns-then-is_empty c =
    sym (name-empty c.args.s.now (eqb-true _ _ (sym c.is_empty.ensures ∙ c.if-is_empty.true)))

pub returns-then-not-is_first : goal.returns-then-not-is_first
returns-then-not-is_first c =
    sym (name-none c.args.s.now (sym c.is_first.ensures ∙ c.if-not-is_first.true))

pub returns : goal.returns
returns c =
    let s = c.args.s.now in
    let r : Bytes = take (length s - 1) (drop 1 s) in
    let n : c.unwrap_or.result ≡ run is_later r =
    c.unwrap_or.ensures ∙ run_found is_later (λ b. not (is_later b)) (λ b. not-not (is_later b)) r c.position.result
    (position_from_yields_List (λ b. not (is_later b)) _ _ _ c.position.ensures.ran (YieldsList-from_slice r c.iter.ensures.rest) (λ x b q k. search (rules, tests)))
    in rw (n, rest s 1, name-first s (omega (arith, eqb-false _ _ (sym c.is_empty.ensures ∙ c.if-is_empty.false))) (sym c.is_first.ensures ∙ c.if-not-is_first.false))
