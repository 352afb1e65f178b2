use Prim.Native.Nat.{ℕ, ◌+◌, ◌-◌}
use native.Mathlib.Omega.{arith}
use mathlib.Core.Path.{◌≡◌, refl, sym, ap, ◌∙◌, subst}
use mathlib.Core.Bool.{true}
use mathlib.Core.List.{List}
use mathlib.Core.Option.{Option}
use lib.ListN.{length, take, drop, length-set}
use Rattle.format.specs.Bytes.{Bytes}
use Rattle.format.specs.Requests.{requests_in}
use Rattle.format.specs.Refusals.{no_of}
use Rattle.editor.specs.Runs.{is_run}
use Rattle.editor.proofs.Running.{first_found, first-fault, run-goes, run_room, no_run, sub-none, Edited, edit_of, number-stays, edited-by, Reached, reached-start, reached-more, reached-end}
use Rattle.editor.proofs.edit_each.Goals as goal

pub loop-rest-init : goal.loop-rest-init
loop-rest-init c =
    (refl, c.requires.used_value, refl, refl, subst (λ (m : ℕ). is_run m (requests_in c.args.run.now) ≡ true) (sub-none (length c.args.answers.now)) c.requires.run_value, reached-start c.args.buf.now c.args.used (requests_in c.args.run.now) c.args.answers.now)

pub shape_of-buf-in_default : goal.shape_of-buf-in_default
shape_of-buf-in_default c =
    omega (arith, c.loop-rest.invariant.2)

pub shape_of-answers-in_default : goal.shape_of-answers-in_default
shape_of-answers-in_default c =
    omega (arith, c.loop-rest.invariant.3)

pub shape_of-copy-in_default : goal.shape_of-copy-in_default
shape_of-copy-in_default c =
    omega (arith, c.loop-rest.invariant.0)

pub returns-in_default : goal.returns-in_default
returns-in_default c =
    absurd (no_run (length c.args.answers.now - c.loop-rest.i) (requests_in c.loop-rest.rest.now) (first-fault c.loop-rest.rest.now c.first_request.ensures c.in_default.is) c.loop-rest.invariant.4)

pub slice_bounds-edit_judged-count : goal.slice_bounds-edit_judged-count
slice_bounds-edit_judged-count c =
    let f = first_found c.loop-rest.rest.now c.first_request.ensures c.in-Some.is in omega (arith, f.0)

pub slice_bounds-edit_judged-start : goal.slice_bounds-edit_judged-start
slice_bounds-edit_judged-start c =
    let f = first_found c.loop-rest.rest.now c.first_request.ensures c.in-Some.is in omega (arith, f.0)

pub slice_bounds-edit_judged-end : goal.slice_bounds-edit_judged-end
slice_bounds-edit_judged-end c =
    let f = first_found c.loop-rest.rest.now c.first_request.ensures c.in-Some.is in f.1

pub edit_judged-e-requires : goal.edit_judged-e-requires
edit_judged-e-requires c =
    record { used_value = c.loop-rest.invariant.1; file_bytes_in_bounds = omega (arith, c.loop-rest.invariant.0, c.requires.file_bytes_in_bounds) }

pub offset_bounds-answers-i : goal.offset_bounds-answers-i
offset_bounds-answers-i c =
    let f = first_found c.loop-rest.rest.now c.first_request.ensures c.in-Some.is in omega (arith, run_room (length c.args.answers.now - c.loop-rest.i) (requests_in c.loop-rest.rest.now) (take (c.in-Some.end - 2) (drop 2 c.loop-rest.rest.now)) (requests_in (take (length c.loop-rest.rest.now - c.in-Some.end) (drop c.in-Some.end c.loop-rest.rest.now))) f.2 c.loop-rest.invariant.4, c.well_formed.1.1.1.0.0)

pub bounds-answers-i : goal.bounds-answers-i
bounds-answers-i c =
    let f = first_found c.loop-rest.rest.now c.first_request.ensures c.in-Some.is in omega (arith, run_room (length c.args.answers.now - c.loop-rest.i) (requests_in c.loop-rest.rest.now) (take (c.in-Some.end - 2) (drop 2 c.loop-rest.rest.now)) (requests_in (take (length c.loop-rest.rest.now - c.in-Some.end) (drop c.in-Some.end c.loop-rest.rest.now))) f.2 c.loop-rest.invariant.4, c.loop-rest.invariant.3)

pub slice_bounds-rest-count : goal.slice_bounds-rest-count
slice_bounds-rest-count c =
    let f = first_found c.loop-rest.rest.now c.first_request.ensures c.in-Some.is in f.1

pub slice_bounds-rest-start : goal.slice_bounds-rest-start
slice_bounds-rest-start c =
    let f = first_found c.loop-rest.rest.now c.first_request.ensures c.in-Some.is in f.1

pub overflow_add-i : goal.overflow_add-i
overflow_add-i c =
    let f = first_found c.loop-rest.rest.now c.first_request.ensures c.in-Some.is in omega (arith, run_room (length c.args.answers.now - c.loop-rest.i) (requests_in c.loop-rest.rest.now) (take (c.in-Some.end - 2) (drop 2 c.loop-rest.rest.now)) (requests_in (take (length c.loop-rest.rest.now - c.in-Some.end) (drop c.in-Some.end c.loop-rest.rest.now))) f.2 c.loop-rest.invariant.4, c.well_formed.1.1.1.0.0)

pub loop-rest-smaller : goal.loop-rest-smaller
loop-rest-smaller c =
    let f = first_found c.loop-rest.rest.now c.first_request.ensures c.in-Some.is in omega (arith, f.0, f.1)

pub loop-rest-preserved : goal.loop-rest-preserved
loop-rest-preserved c =
    let s : Bytes = c.loop-rest.rest.now in
    let end : ℕ = c.in-Some.end in
    let q : Bytes = take (end - 2) (drop 2 s) in
    let x : Option (List Bytes) = requests_in (take (length s - end) (drop end s)) in
    let f = first_found s c.first_request.ensures c.in-Some.is in
    let m : ℕ = length c.args.answers.now - c.loop-rest.i in
    let more = run_room m (requests_in s) q x f.2 c.loop-rest.invariant.4 in
    let e : Edited = record { number = c.number_in.result; length = c.unwrap_or-n.result; buffer = c.edit_judged-e.new.buf } in
    let a : e ≡ edit_of c.loop-rest.buf c.loop-rest.n q = edited-by c.loop-rest.buf c.loop-rest.n q c.edit_judged-e.result c.edit_judged-e.new.buf c.edit_judged-e.ensures c.number_in.result c.unwrap_or-n.result c.number_in.ensures c.unwrap_or-n.ensures in
    let less : m - 1 ≡ length c.args.answers.now - (c.loop-rest.i + 1) = omega arith in
    (omega (arith, c.loop-rest.invariant.0), number-stays c.loop-rest.buf c.loop-rest.n q (no_of c.args.k) c.loop-rest.invariant.1 e a, omega (arith, c.loop-rest.invariant.2), simp length-set (omega (arith, c.loop-rest.invariant.3)), subst (λ (k : ℕ). is_run k x ≡ true) less (sym (run-goes m more (requests_in s) q x f.2) ∙ c.loop-rest.invariant.4), reached-more c.args.buf.now c.args.used (requests_in c.args.run.now) c.args.answers.now q x m c.loop-rest.i c.loop-rest.n c.loop-rest.buf c.loop-rest.answers (subst (λ (y : Option (List Bytes)). Reached c.args.buf.now c.args.used (requests_in c.args.run.now) c.args.answers.now y c.loop-rest.i c.loop-rest.n c.loop-rest.buf c.loop-rest.answers) f.2 c.loop-rest.invariant.5) (ap (is_run m) (sym f.2) ∙ c.loop-rest.invariant.4) (omega arith) e a)

pub shape_of-buf : goal.shape_of-buf
shape_of-buf c =
    omega (arith, c.loop-rest.invariant.2)

pub shape_of-answers : goal.shape_of-answers
shape_of-answers c =
    omega (arith, c.loop-rest.invariant.3)

pub shape_of-copy : goal.shape_of-copy
shape_of-copy c =
    omega (arith, c.loop-rest.invariant.0)

pub returns : goal.returns
returns c =
    reached-end c.args.buf.now c.args.used (requests_in c.args.run.now) c.args.answers.now c.loop-rest.rest.now c.loop-rest.i c.loop-rest.n c.loop-rest.buf c.loop-rest.answers c.loop-rest.invariant.5 (omega arith)
