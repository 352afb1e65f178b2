-- `drafts::given::give_words` meets its contract. The invariant: the words passed are given, and those of the rest are left. The measure is what is left of the text.
use lib.ListN.{length}
use Rattle.format.specs.Words.{words as words_of}
use Rattle.drafts.proofs.Giving.{Going}
use Rattle.drafts.proofs.given.give_words.Given as goal

abbrev pub invariant-loop-start : goal.invariant-loop-start
invariant-loop-start l = Going l.d l.l (words_of l.s) l.set l.given (words_of l.rest)

abbrev pub decreases-loop-start : goal.decreases-loop-start
decreases-loop-start l = length l.rest
