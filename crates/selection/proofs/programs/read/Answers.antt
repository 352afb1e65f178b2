use native.Mathlib.Omega.{arith}
use mathlib.Core.Path.{refl, sym, ap, ◌∙◌}
use lib.ListN.{length, drop, length-drop}
use Rattle.lines.proofs.Cuts.{rest}
use Rattle.selection.specs.Tokens.{front_in}
use Rattle.selection.specs.declared.programs.Step.{Step}
use Rattle.selection.proofs.Making.{step-is, step-other}
use Rattle.selection.proofs.Turning.{front-told, token-least, token-size, tests-room, past_end, past-refused, past_more, read-start, long-answers, refused-answers, end-answers}
use Rattle.selection.proofs.programs.read.Goals as goal

pub returns-then-s-gt-BYTES : goal.returns-then-s-gt-BYTES
returns-then-s-gt-BYTES c =
    sym (long-answers c.args.s.now c.empty-p.result c.if-s-gt-BYTES.true c.empty-p.ensures.0).0

pub loop-i-init : goal.loop-i-init
loop-i-init c =
    read-start c.args.s.now _ c.empty-p.result refl refl c.empty-p.ensures.0 c.empty-p.ensures.1 c.empty-p.ensures.2

pub slice_bounds-token_at-count : goal.slice_bounds-token_at-count
slice_bounds-token_at-count c =
    c.loop-i.invariant.inside

pub slice_bounds-token_at-start : goal.slice_bounds-token_at-start
slice_bounds-token_at-start c =
    c.loop-i.invariant.inside

pub token_at-t-requires : goal.token_at-t-requires
token_at-t-requires c =
    record { s_nonzero = (omega (arith, ap length (rest c.args.s.now c.loop-i.i), length-drop c.loop-i.i c.args.s.now, c.loop-i-test.true), omega (arith, ap length (rest c.args.s.now c.loop-i.i), length-drop c.loop-i.i c.args.s.now, c.if-s-gt-BYTES.false)) }

pub overflow_sub-s : goal.overflow_sub-s
overflow_sub-s c =
    c.loop-i.invariant.inside

pub returns-then-s-i : goal.returns-then-s-i
returns-then-s-i c =
    sym (refused-answers c.args.s.now c.loop-i.p c.if-s-gt-BYTES.false (past_end c.args.s.now c.loop-i.i c.loop-i.r c.loop-i.p c.loop-i.invariant c.loop-i-test.true (front_in (drop c.loop-i.i c.args.s.now) c.token_at-t.result) c.token_bytes-n.result (front-told c.args.s.now c.loop-i.i c.token_at-t.result c.token_at-t.ensures) (token-size c.token_bytes-n.result (drop c.loop-i.i c.args.s.now) c.token_at-t.result c.token_bytes-n.ensures) c.if-s-i.true) c.loop-i.invariant.filled).0

pub with_token-p-requires : goal.with_token-p-requires
with_token-p-requires c =
    record { filled = (c.loop-i.invariant.filled, omega (arith, c.loop-i.invariant.codes-few, c.loop-i-test.true, c.if-s-gt-BYTES.false), tests-room c.args.s.now c.loop-i.i c.loop-i.r c.loop-i.p c.loop-i.invariant (omega (arith, c.loop-i-test.true, c.if-s-gt-BYTES.false))); bound = (token-least (drop c.loop-i.i c.args.s.now) c.token_at-t.result (front-told c.args.s.now c.loop-i.i c.token_at-t.result c.token_at-t.ensures), omega (arith, c.token_bytes-n.ensures, c.if-s-i.false, c.loop-i.invariant.inside, c.if-s-gt-BYTES.false)) }

pub past_token-r-requires : goal.past_token-r-requires
past_token-r-requires c =
    (token-least (drop c.loop-i.i c.args.s.now) c.token_at-t.result (front-told c.args.s.now c.loop-i.i c.token_at-t.result c.token_at-t.ensures), omega (arith, c.token_bytes-n.ensures, c.if-s-i.false, c.loop-i.invariant.inside, c.if-s-gt-BYTES.false))

pub returns-then-eq : goal.returns-then-eq
returns-then-eq c =
    sym (refused-answers c.args.s.now c.with_token-p.result c.if-s-gt-BYTES.false (past-refused c.args.s.now c.loop-i.i c.loop-i.r c.loop-i.p c.loop-i.invariant c.loop-i-test.true (front_in (drop c.loop-i.i c.args.s.now) c.token_at-t.result) c.token_bytes-n.result (front-told c.args.s.now c.loop-i.i c.token_at-t.result c.token_at-t.ensures) (token-size c.token_bytes-n.result (drop c.loop-i.i c.args.s.now) c.token_at-t.result c.token_bytes-n.ensures) (omega (arith, c.if-s-i.false, c.loop-i.invariant.inside)) c.past_token-r.result c.with_token-p.result (c.past_token-r.ensures c.args.s.now) (step-is c.past_token-r.result.stage Step.Fault c.eq.result c.eq.ensures c.if-eq.true)) (c.with_token-p.ensures c.args.s.now).0.filled).0

pub overflow_add-i : goal.overflow_add-i
overflow_add-i c =
    omega (arith, c.if-s-i.false, c.loop-i.invariant.inside, c.if-s-gt-BYTES.false)

pub loop-i-smaller : goal.loop-i-smaller
loop-i-smaller c =
    omega (arith, (token-least (drop c.loop-i.i c.args.s.now) c.token_at-t.result (front-told c.args.s.now c.loop-i.i c.token_at-t.result c.token_at-t.ensures)), c.token_bytes-n.ensures, c.if-s-i.false, c.loop-i-test.true)

pub loop-i-preserved : goal.loop-i-preserved
loop-i-preserved c =
    past_more c.args.s.now c.loop-i.i c.loop-i.r c.loop-i.p c.loop-i.invariant c.loop-i-test.true (front_in (drop c.loop-i.i c.args.s.now) c.token_at-t.result) c.token_bytes-n.result (front-told c.args.s.now c.loop-i.i c.token_at-t.result c.token_at-t.ensures) (token-size c.token_bytes-n.result (drop c.loop-i.i c.args.s.now) c.token_at-t.result c.token_bytes-n.ensures) (omega (arith, c.if-s-i.false, c.loop-i.invariant.inside)) c.past_token-r.result c.with_token-p.result (c.with_token-p.ensures c.args.s.now).0 (c.with_token-p.ensures c.args.s.now).1 (c.past_token-r.ensures c.args.s.now) (step-other c.past_token-r.result.stage Step.Fault c.eq.result c.eq.ensures c.if-eq.false)

pub returns-then-is_end : goal.returns-then-is_end
returns-then-is_end c =
    let a = end-answers c.args.s.now c.loop-i.i c.loop-i.r c.loop-i.p c.is_end.result c.loop-i.invariant c.loop-i-test.false c.if-s-gt-BYTES.false c.is_end.ensures in
    (sym a.0 ∙ c.if-is_end.true, a.1, a.2)

pub returns-else-is_end : goal.returns-else-is_end
returns-else-is_end c =
    let a = end-answers c.args.s.now c.loop-i.i c.loop-i.r c.loop-i.p c.is_end.result c.loop-i.invariant c.loop-i-test.false c.if-s-gt-BYTES.false c.is_end.ensures in
    sym a.0 ∙ c.if-is_end.false
