-- `directory::fill_entries` meets its contract. The invariant: after k turns the list is `filled` of k, and `at` is where entry k begins.
use Rattle.std.specs.Prelude.{◌≡◌}
use Rattle.directory.specs.Rows.{start_of, filled}
use Rattle.directory.proofs.fill_entries.Given as goal

abbrev pub invariant-loop-k : goal.invariant-loop-k
invariant-loop-k l = record { written : l.entries ≡ filled l.buf l.used l.fn.entries l.k; begins : l.at ≡ start_of l.buf l.used l.k }
