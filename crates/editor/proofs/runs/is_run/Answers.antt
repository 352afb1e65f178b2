use Prim.Native.Nat.{◌-◌}
use native.Mathlib.Omega.{arith}
use mathlib.Core.Path.{refl, sym, ap, ◌∙◌}
use lib.ListN.{length, take, drop}
use Rattle.format.specs.Requests.{requests_in}
use Rattle.editor.specs.Runs.{is_run}
use Rattle.editor.proofs.Running.{first_found, first-fault, run-goes, run-stops, run_ends}
use Rattle.editor.proofs.runs.is_run.Goals as goal

pub loop-rest-init : goal.loop-rest-init
loop-rest-init c = refl

pub returns-then-left-eq0 : goal.returns-then-left-eq0
returns-then-left-eq0 c =
    sym (c.loop-rest.invariant ∙ run-stops c.loop-rest.rest.now c.loop-rest.left (omega arith) (omega arith))

pub returns-in_default : goal.returns-in_default
returns-in_default c =
    sym (c.loop-rest.invariant ∙ ap (is_run c.loop-rest.left) (first-fault c.loop-rest.rest.now c.first_request.ensures c.in_default.is))

pub slice_bounds-rest-count : goal.slice_bounds-rest-count
slice_bounds-rest-count c =
    let f = first_found c.loop-rest.rest.now c.first_request.ensures c.in-Some.is in f.1

pub slice_bounds-rest-start : goal.slice_bounds-rest-start
slice_bounds-rest-start c =
    let f = first_found c.loop-rest.rest.now c.first_request.ensures c.in-Some.is in f.1

pub loop-rest-smaller : goal.loop-rest-smaller
loop-rest-smaller c =
    let f = first_found c.loop-rest.rest.now c.first_request.ensures c.in-Some.is in omega (arith, f.0, f.1)

pub loop-rest-preserved : goal.loop-rest-preserved
loop-rest-preserved c =
    let f = first_found c.loop-rest.rest.now c.first_request.ensures c.in-Some.is in c.loop-rest.invariant ∙ run-goes c.loop-rest.left (omega arith) (requests_in c.loop-rest.rest.now) (take (c.in-Some.end - 2) (drop 2 c.loop-rest.rest.now)) (requests_in (take (length c.loop-rest.rest.now - c.in-Some.end) (drop c.in-Some.end c.loop-rest.rest.now))) f.2

pub returns : goal.returns
returns c =
    sym (c.loop-rest.invariant ∙ run_ends c.loop-rest.rest.now c.loop-rest.left (omega arith))
