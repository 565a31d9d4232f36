-- `Queue::others` meets its contract: those kept so far, and those left that stay, are all that stay.
use mathlib.Core.Path.{◌≡◌, ap}
use mathlib.Core.Bool.{not}
use mathlib.Core.List.{◌∷◌, ◌++◌, append-nil}
use native.Mathlib.Omega.{arith}
use borrow.Author.Tests.{eq-eqb, ne_eqb}
use lib.Dec.{eqb}
use lib.ListN.{length, length-append}
use lib.Seq.{append_snoc}
use Rattle.model.specs.Searches.{without}
use Rattle.lists.specs.Words.{nibbles}
use Rattle.lists.specs.Lists.{queued}
use Rattle.lists.proofs.Holdings.{times_bound}
use Rattle.lists.proofs.Queues.{taken_small}
use Rattle.lists.proofs.Laws.{length-queued}
use Rattle.lists.proofs.queue.Queue.others.Goals as goal
use Rattle.lists.proofs.queue.Queue.others.Goals.{Then-t-thread}

-- where the thread that a turn takes stays
stays : (c : goal.Then-t-thread) → queued c.loop-t.kept ++ (c.in-Some.t ∷ without c.args.thread (nibbles c.next.new.self.left c.next.new.self.rest)) ≡ without c.args.thread (queued c.args.self)
stays c = rw (c.in-Some.ensures.steps, ne_eqb c.in-Some.t c.args.thread c.if-t-thread.true) at c.loop-t.invariant

pub push-kept-requires : goal.push-kept-requires
push-kept-requires c =
    let q = c.args.self in (
      omega (arith, c.requires, length-queued q, length-queued c.loop-t.kept, simp length-append at (ap length (stays c)), times_bound (λ u. not (eqb u c.args.thread)) (queued q)),
      taken_small _ _ c.in-Some.ensures.steps,
    )

pub loop-t-preserved-then-t-thread : goal.loop-t-preserved-then-t-thread
loop-t-preserved-then-t-thread c =
    rw (c.push-kept.ensures, append_snoc) (stays (goal.at.loop-t-preserved-then-t-thread c).Then-t-thread)

pub loop-t-preserved : goal.loop-t-preserved
loop-t-preserved c =
    rw (c.in-Some.ensures.steps, eq-eqb c.in-Some.t c.args.thread c.if-t-thread.false) at c.loop-t.invariant

pub returns : goal.returns
returns c = rw (c.in-None.ensures.steps.0, append-nil) at c.loop-t.invariant
