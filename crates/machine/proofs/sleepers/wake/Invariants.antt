-- `wake` meets its contract: what is done for the sleepers seen so far, and what is left to do, is what is done for all.
use Prim.Native.Nat.{◌+◌, ◌≤◌}
use lib.ListN.{length}
use Rattle.lists.specs.Words.{nibbles}
use Rattle.lists.specs.Lists.{queued}
use Rattle.machine.proofs.Woken.{Waking}
use Rattle.machine.proofs.sleepers.wake.Given as goal

abbrev pub invariant-loop-t : goal.invariant-loop-t
invariant-loop-t l =
    let left = nibbles l.t-iterator.left l.t-iterator.rest in
    record {
      line_room : l.line.count + length left ≤ 16;
      asleep_room : l.asleep.count + length left ≤ 16;
      woken_room : l.woken.count + length left ≤ 16;
      waking : Waking l.wakes l.number.0 (queued l.fn.delays) left l.fn.slots l.fn.queue l.states l.line l.asleep l.woken;
    }
