-- `drafts::given_names` meets its contract: the words of the `%auto` lists are given, then the names of the pairs.
use mathlib.Core.List.{[]}
use Rattle.format.specs.Rules.{auto}
use Rattle.records.specs.Walk.{record_in}
use Rattle.dictionary.proofs.Present.{present-none}
use Rattle.drafts.specs.Giving.{onto}
use Rattle.drafts.proofs.given_names.Goals as goal

pub returns : goal.returns
returns c =
    λ ws i. c.give_pairs.ensures ws (onto [] (auto (record_in c.args.d.now))) i (c.give_list-a.ensures ws [] i (present-none ws))
