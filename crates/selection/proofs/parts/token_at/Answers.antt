-- `selection::parts::token_at` meets its contract: each answer by a law of what is found.
use Rattle.std.specs.Prelude.{Some, None}
use Prim.Native.Nat.{ℕ}
use native.Mathlib.Omega.{arith}
use mathlib.Core.Path.{sym, ap, ◌∙◌}
use mathlib.Core.List.{[], ◌∷◌}
use lib.ListN.{get_or}
use Rattle.format.specs.Lines.{is_later}
use Rattle.words.specs.Spans.{not_byte}
use Rattle.selection.specs.Reading.{all_signs, sign_among}
use Rattle.selection.specs.Tokens.{sign_in}
use Rattle.selection.proofs.Finding.{run-behind, run_short, name-found, int-told-by, gap-found, tab-found, text-found, sign-found}
use borrow.Author.Rules.{rules}
use Rattle.selection.proofs.parts.token_at.Goals as goal

pub overflow_add-result : goal.overflow_add-result
overflow_add-result c =
    omega (arith, run_short is_later c.args.s.now c.name_len-n.result c.requires.s_nonzero.0 c.name_len-n.ensures)

pub returns-then-is_first : goal.returns-then-is_first
returns-then-is_first c =
    name-found c.args.s.now c.name_len-n.result c.requires.s_nonzero.0 (sym c.is_first.ensures ∙ c.if-is_first.true) (run-behind is_later c.args.s.now c.name_len-n.result c.name_len-n.ensures)

pub overflow_add-e : goal.overflow_add-e
overflow_add-e c =
    omega (arith, run_short is_later c.args.s.now c.name_len-n-then-is_int_first.result c.requires.s_nonzero.0 c.name_len-n-then-is_int_first.ensures)

pub slice_bounds-int_of-end : goal.slice_bounds-int_of-end
slice_bounds-int_of-end c =
    let l = run_short is_later c.args.s.now c.name_len-n-then-is_int_first.result c.requires.s_nonzero.0 c.name_len-n-then-is_int_first.ensures in search rules

pub returns-in_default : goal.returns-in_default
returns-in_default c =
    int-told-by c.args.s.now c.name_len-n-then-is_int_first.result c.int_of.result None c.requires.s_nonzero.0 (sym c.is_first.ensures ∙ c.if-is_first.false) (sym c.is_int_first.ensures ∙ c.if-is_int_first.true) c.name_len-n-then-is_int_first.ensures c.int_of.ensures c.in_default.is

pub returns-then-is_int_first : goal.returns-then-is_int_first
returns-then-is_int_first c =
    int-told-by c.args.s.now c.name_len-n-then-is_int_first.result c.int_of.result (Some c.in-Some.w) c.requires.s_nonzero.0 (sym c.is_first.ensures ∙ c.if-is_first.false) (sym c.is_int_first.ensures ∙ c.if-is_int_first.true) c.name_len-n-then-is_int_first.ensures c.int_of.ensures c.in-Some.is

pub returns-then-b-eq32 : goal.returns-then-b-eq32
returns-then-b-eq32 c =
    gap-found c.args.s.now c.if-b-eq32.true

pub returns-then-b-eq9 : goal.returns-then-b-eq9
returns-then-b-eq9 c =
    tab-found c.args.s.now c.if-b-eq9.true

pub overflow_add-result-then-b-eq39 : goal.overflow_add-result-then-b-eq39
overflow_add-result-then-b-eq39 c =
    omega (arith, run_short (not_byte 39) c.args.s.now c.part_end-n.result c.requires.s_nonzero.0 c.part_end-n.ensures, c.requires.s_nonzero.1)

pub returns-then-b-eq39 : goal.returns-then-b-eq39
returns-then-b-eq39 c =
    text-found c.args.s.now c.part_end-n.result c.if-b-eq39.true (run-behind (not_byte 39) c.args.s.now c.part_end-n.result c.part_end-n.ensures)

pub returns : goal.returns
returns c =
    sign-found c.args.s.now (sign_in c.sign_of.result) c.requires.s_nonzero.0 (sym c.is_first.ensures ∙ c.if-is_first.false) (sym c.is_int_first.ensures ∙ c.if-is_int_first.false) c.if-b-eq32.false c.if-b-eq9.false c.if-b-eq39.false
    (c.sign_of.ensures ∙ ap (λ (d : ℕ). sign_among all_signs (get_or c.args.s.now 0 0 ∷ d ∷ [])) c.byte.ensures)
