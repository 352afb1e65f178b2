-- `lookup::view_place` meets its contract.
use mathlib.Core.Path.{◌≡◌, refl, ◌∙◌, subst}
use Rattle.std.specs.Prelude.{Err}
use Rattle.format.specs.Bytes.{Bytes}
use Rattle.format.specs.declared.refusals.Refusal.{Refusal}
use Rattle.lookup.specs.Answers.{seen_answer, SeenInside, view_in}
use Rattle.lookup.proofs.Buffers.{view-refused, view-text, text-readable}
use Rattle.lookup.proofs.view_place.Goals as goal

pub view_in-requires : goal.view_in-requires
view_in-requires c =
    text-readable c.args.buf.now c.args.used c.in-Ok.ensures.number c.in-Ok.ensures.text

pub returns-in-Ok : goal.returns-in-Ok
returns-in-Ok c =
    let e = subst (λ (x : Bytes). (seen_answer x c.view_in.result ≡ view_in x c.args.set.now c.args.row) × SeenInside x c.view_in.result) c.in-Ok.ensures.text c.view_in.ensures in
    (e.0 ∙ view-text c.args.buf.now c.args.used c.in-Ok.ensures.number c.args.set.now c.args.row, e.1)

pub returns-in-Err : goal.returns-in-Err
returns-in-Err c =
    view-refused c.args.buf.now c.args.used c.in-Err.question c.in-Err.ensures.number (Err (Refusal.File c.in-Err.question)) (refl, refl) c.args.set.now c.args.row
