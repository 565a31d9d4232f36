-- `tally` meets its contract: after k calls the records so far are counted.
use mathlib.Core.Path.{◌≡◌}
use mathlib.Core.List.{List}
use Prim.Native.Nat.{◌≤◌}
use lib.ListN.{length}
use Rattle.model.specs.Records.{Record}
use Rattle.dump.specs.Layout.{record_count, running_place}
use Rattle.kernel.proofs.CallsMade.{CallsMade}
use Rattle.kernel.proofs.tally.tally.Given as goal

abbrev pub invariant-loop-k : goal.invariant-loop-k
invariant-loop-k l =
    (l.k ≤ l.n) × (done : List Record) × (l.records ≡ length done) × CallsMade l.initial.s.machine.plan l.list l.k l.s done × (l.running ≡ running_place (record_count l.list) l.k)
