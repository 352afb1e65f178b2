-- `lookup::inside::name_in` meets its contract: the default set has no name, and set k of the others is that of descriptor k - 1.
use native.Mathlib.Omega.{arith}
use Prim.Native.Nat.{◌-◌}
use mathlib.Core.Path.{◌∙◌}
use Rattle.records.proofs.Readings.{reads-readable}
use Rattle.lookup.proofs.Names.{descriptor-told, name-default, name-missing, name-found}
use Rattle.lookup.proofs.inside.name_in.Goals as goal

pub returns-then-k-eq0 : goal.returns-then-k-eq0
returns-then-k-eq0 c =
    name-default c.args.s.now c.args.k c.args.out.now c.if-k-eq0.true

pub find_descriptor-requires : goal.find_descriptor-requires
find_descriptor-requires c =
    c.requires

pub returns-in_default : goal.returns-in_default
returns-in_default c =
    name-missing c.args.s.now c.args.k c.args.out.now (c.args.k - 1) (omega (arith, c.if-k-eq0.false)) (descriptor-told c.args.s.now (c.args.k - 1) c.find_descriptor.result c.requires c.find_descriptor.ensures c.in_default.is)

pub slice_bounds-descriptor_name-count : goal.slice_bounds-descriptor_name-count
slice_bounds-descriptor_name-count c =
    let t = descriptor-told c.args.s.now (c.args.k - 1) c.find_descriptor.result c.requires c.find_descriptor.ensures c.in-Some.is in omega (arith, t.stand.filled)

pub slice_bounds-descriptor_name-start : goal.slice_bounds-descriptor_name-start
slice_bounds-descriptor_name-start c =
    let t = descriptor-told c.args.s.now (c.args.k - 1) c.find_descriptor.result c.requires c.find_descriptor.ensures c.in-Some.is in omega (arith, t.stand.filled)

pub slice_bounds-descriptor_name-end : goal.slice_bounds-descriptor_name-end
slice_bounds-descriptor_name-end c =
    let t = descriptor-told c.args.s.now (c.args.k - 1) c.find_descriptor.result c.requires c.find_descriptor.ensures c.in-Some.is in omega (arith, t.stand.within, t.stand.inside)

pub descriptor_name-requires : goal.descriptor_name-requires
descriptor_name-requires c =
    let t = descriptor-told c.args.s.now (c.args.k - 1) c.find_descriptor.result c.requires c.find_descriptor.ensures c.in-Some.is in (reads-readable t.stand.own-reads)

pub returns : goal.returns
returns c =
    let t = descriptor-told c.args.s.now (c.args.k - 1) c.find_descriptor.result c.requires c.find_descriptor.ensures c.in-Some.is in name-found c.args.s.now c.args.k c.args.out.now (c.args.k - 1) (omega (arith, c.if-k-eq0.false)) c.in-Some.p t ∙ c.descriptor_name.ensures
