-- `write` meets its contract: after k calls their records stand at their places.
use mathlib.Core.Path.{◌≡◌}
use mathlib.Core.List.{List}
use Prim.Native.Nat.{◌+◌, ◌*◌, ◌≤◌}
use lib.ListN.{length}
use Rattle.model.specs.Records.{Record}
use Rattle.dump.specs.Layout.{record_count, running_place}
use Rattle.kernel.specs.Clauses.{records_put}
use Rattle.kernel.proofs.CallsMade.{CallsMade}
use Rattle.kernel.proofs.Placing.{counted}
use Rattle.kernel.proofs.write.write.Given as goal

abbrev pub invariant-loop-k : goal.invariant-loop-k
invariant-loop-k l =
    (l.k ≤ l.calls) × (done : List Record) × (l.i ≡ length done) × CallsMade l.initial.s.machine.plan l.list l.k l.s done × (l.out ≡ records_put 0 (2 + l.n) done (counted l.n l.fn.out))
    × (l.from ≡ running_place (record_count l.list) l.k) × (l.to ≡ 2 + l.n + 2 * length done)
