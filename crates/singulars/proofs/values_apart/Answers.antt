-- `singulars::values_apart` meets its contract: the marks of what was gathered are distinct where the values of each name are; more than there is room for are not.
use Rattle.std.specs.Prelude.{Option, ℕ}
use native.Mathlib.Omega.{arith}
use mathlib.Core.Path.{sym, ap, ◌∙◌, subst}
use Rattle.format.specs.Bytes.{text}
use Rattle.format.specs.Rules.{singular, distinct}
use Rattle.records.specs.Walk.{record_in}
use Rattle.records.specs.Named.{NamedNext}
use Rattle.singulars.specs.Gathered.{GatheredAs}
use Rattle.dictionary.proofs.Granted.{singular-lists}
use Rattle.singulars.proofs.Lists.{none-singular}
use Rattle.singulars.proofs.Marks.{marks-distinct}
use Rattle.singulars.proofs.Room.{many-alike}
use Rattle.singulars.proofs.values_apart.Goals as goal

pub next_named-f-requires : goal.next_named-f-requires
next_named-f-requires c =
    c.requires.described.reads

pub returns-in_default : goal.returns-in_default
returns-in_default c =
    none-singular c.args.d.now c.args.s.now (subst (NamedNext c.args.d.now (text "%singular") 0) c.in_default.is c.next_named-f.ensures).value

pub list-l-requires : goal.list-l-requires
list-l-requires c =
    (c.requires.described, singular-lists c.args.d.now c.requires.described)

pub distinct_marks-requires : goal.distinct_marks-requires
distinct_marks-requires c =
    let g = subst (λ (x : Option ℕ). GatheredAs (singular (record_in c.args.d.now)) c.args.s.now (record_in c.args.s.now) c.gather-g.new.entries x) c.in-Some-g.is c.gather-g.ensures in
    record { n_in_bounds = g.0; inside = g.1 }

pub returns-in-Some-g : goal.returns-in-Some-g
returns-in-Some-g c =
    let g = subst (λ (x : Option ℕ). GatheredAs (singular (record_in c.args.d.now)) c.args.s.now (record_in c.args.s.now) c.gather-g.new.entries x) c.in-Some-g.is c.gather-g.ensures in
    c.distinct_marks.ensures ∙ ap distinct g.2 ∙ marks-distinct (singular (record_in c.args.d.now)) (record_in c.args.s.now)

pub returns-in-None : goal.returns-in-None
returns-in-None c =
    let g = subst (λ (x : Option ℕ). GatheredAs (singular (record_in c.args.d.now)) c.args.s.now (record_in c.args.s.now) c.gather-g.new.entries x) c.in-None.is c.gather-g.ensures in
    sym (many-alike (singular (record_in c.args.d.now)) c.args.s.now c.requires.s_value.0 c.requires.s_value.1 (singular-lists c.args.d.now c.requires.described).few (omega (arith, g, c.gather-g.auto.entries, c.requires.entries_room_in_bounds)))
