-- `typedefs::target_in` meets its contract.
use Rattle.std.specs.Prelude.{Option}
use native.Mathlib.Omega.{arith}
use mathlib.Core.Path.{sym, ap, ◌∙◌, subst}
use mathlib.Core.Option.{some}
use Rattle.typing.specs.Meaning.{typed_in, type_answer, SoundType}
use Rattle.typing.specs.declared.Shape.{Shape}
use Rattle.typing.proofs.Meeting.{sound-shape}
use Rattle.typedefs.specs.Walks.{names_from}
use Rattle.typedefs.specs.Targets.{target_by}
use Rattle.typedefs.proofs.Chains.{target-kind}
use borrow.Enum.Refused.{opened}
use Rattle.typedefs.proofs.target_in.Goals as goal

pub returns-in_default : goal.returns-in_default
returns-in_default c =
    sym (ap (λ (x : Option Shape). target_by (names_from c.args.d.now 0) (type_answer c.args.s.now x)) c.in_default.is)

pub slice_bounds-index_from-count : goal.slice_bounds-index_from-count
slice_bounds-index_from-count c =
    let h = sound-shape c.args.s.now c.in-Alias.is (subst (SoundType c.args.s.now) c.in-Some.is c.requires.1) in omega (arith, h.0, h.1)

pub slice_bounds-index_from-start : goal.slice_bounds-index_from-start
slice_bounds-index_from-start c =
    let h = sound-shape c.args.s.now c.in-Alias.is (subst (SoundType c.args.s.now) c.in-Some.is c.requires.1) in omega (arith, h.0, h.1)

pub slice_bounds-index_from-end : goal.slice_bounds-index_from-end
slice_bounds-index_from-end c =
    let h = sound-shape c.args.s.now c.in-Alias.is (subst (SoundType c.args.s.now) c.in-Some.is c.requires.1) in omega (arith, h.0, h.1)

pub index_from-requires : goal.index_from-requires
index_from-requires c =
    (c.requires.0, omega arith)

pub returns-in-Alias : goal.returns-in-Alias
returns-in-Alias c =
    c.index_from.ensures ∙ sym (ap (λ (x : Option Shape). target_by (names_from c.args.d.now 0) (type_answer c.args.s.now x)) c.in-Some.is
    ∙ ap (λ (k : Shape). target_by (names_from c.args.d.now 0) (some (typed_in c.args.s.now k))) c.in-Alias.is)

pub returns-in_default-k : goal.returns-in_default-k
returns-in_default-k c =
    sym (ap (λ (x : Option Shape). target_by (names_from c.args.d.now 0) (type_answer c.args.s.now x)) c.in-Some.is
    ∙ target-kind (names_from c.args.d.now 0) c.args.s.now c.in-Some.k (opened c.in_default-k.in_default-k-own.keys2))
