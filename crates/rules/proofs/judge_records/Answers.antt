use Rattle.format.specs.Refusals.{no_of}
use Prim.Native.Nat.{ℕ, ◌-◌}
use native.Mathlib.Omega.{arith}
use mathlib.Core.Path.{◌≡◌, refl, sym, ap, ◌∙◌, subst}
use mathlib.Core.Bool.{true}
use Rattle.format.specs.Bytes.{all}
use Rattle.format.specs.Pieces.{read_of}
use Rattle.format.proofs.Records.{records}
use Rattle.records.specs.Walk.{record_in}
use Rattle.rules.specs.Members.{fits_in, part_no}
use Rattle.rules.proofs.Chunks.{chunk-more, chunk-last, part-all}
use Rattle.rules.proofs.judge_records.Goals as goal

pub loop-b-init : goal.loop-b-init
loop-b-init c =
    (refl, refl, omega arith, ap (λ (j : ℕ). part_no c.args.d.now 0 j (records (read_of c.args.part.now))) (let e : c.args.b.kinds.count - 0 ≡ c.args.b.kinds.count = omega arith in e))

pub judge_rows-c-requires : goal.judge_rows-c-requires
judge_rows-c-requires c =
    record { book = (c.requires.book, c.loop-b.invariant.2); part_value = (c.requires.part_value.0, c.requires.part_value.1, subst (λ (n : ℕ). all (fits_in n) (record_in c.args.part.now) ≡ true) (sym c.loop-b.invariant.0) c.requires.part_value.2); entries_end_in_bounds = omega (arith, c.loop-b.invariant.1, c.requires.entries_end_in_bounds) }

pub shape_of-scratch-then-count-c : goal.shape_of-scratch-then-count-c
shape_of-scratch-then-count-c c =
    c.judge_rows-c.auto.scratch ∙ c.loop-b.invariant.0

pub shape_of-entries-then-count-c : goal.shape_of-entries-then-count-c
shape_of-entries-then-count-c c =
    c.judge_rows-c.auto.entries ∙ c.loop-b.invariant.1

pub returns-then-count-c : goal.returns-then-count-c
returns-then-count-c c =
    let d = c.args.d.now in
    let rs = records (read_of c.args.part.now) in
    record {
      number_is = chunk-last d rs c.args.b.kinds.count (no_of c.loop-b.worst) c.loop-b.from c.loop-b.invariant.3 c.judge_rows-c.result c.judge_rows-c.ensures (no_of c.lesser-worst.result) c.lesser-worst.ensures c.if-count-c.true ∙ part-all d rs c.args.b.kinds.count c.requires.book.kinds-are.count;
      count-is = c.judge_rows-c.ensures.count-is;
    }

pub loop-b-smaller : goal.loop-b-smaller
loop-b-smaller c =
    let k = c.judge_rows-c.ensures in let f = k.some (omega (arith, k.begins, c.if-count-c.false)) in omega (arith, f, c.if-count-c.false)

pub loop-b-preserved : goal.loop-b-preserved
loop-b-preserved c =
    let d = c.args.d.now in
    let rs = records (read_of c.args.part.now) in
    (c.judge_rows-c.auto.scratch ∙ c.loop-b.invariant.0, c.judge_rows-c.auto.entries ∙ c.loop-b.invariant.1, c.judge_rows-c.ensures.within, chunk-more d rs c.args.b.kinds.count (no_of c.loop-b.worst) c.loop-b.from c.loop-b.invariant.3 c.judge_rows-c.result c.judge_rows-c.ensures (no_of c.lesser-worst.result) c.lesser-worst.ensures)
