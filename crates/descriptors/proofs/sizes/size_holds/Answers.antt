-- `descriptors::sizes::size_holds` meets its contract.
use Rattle.descriptors.proofs.sizes.size_holds.Goals as goal

pub returns-in-None : goal.returns-in-None
returns-in-None c =
    rw c.in-None.is

pub returns-in-Exactly : goal.returns-in-Exactly
returns-in-Exactly c =
    rw c.in-Exactly.is

pub returns-in-Below : goal.returns-in-Below
returns-in-Below c =
    rw c.in-Below.is

pub returns-in-AtMost : goal.returns-in-AtMost
returns-in-AtMost c =
    rw c.in-AtMost.is

pub returns-in-Above : goal.returns-in-Above
returns-in-Above c =
    rw c.in-Above.is

pub returns-in-AtLeast : goal.returns-in-AtLeast
returns-in-AtLeast c =
    rw c.in-AtLeast.is
