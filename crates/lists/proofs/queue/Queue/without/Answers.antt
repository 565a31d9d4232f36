-- `Queue::without` meets its contract: the first one, if it is this thread, goes, and otherwise all others are kept.
use mathlib.Core.Path.{ap, sym, subst, ◌∙◌}
use mathlib.Core.List.{List}
use Prim.Native.Nat.{ℕ, ◌-◌, ◌/◌, ◌%◌, ◌≤◌}
use borrow.Author.Tests.{eq-eqb}
use lib.Dec.{eqb}
use Rattle.model.specs.Searches.{without}
use Rattle.model.specs.Formed.{times}
use Rattle.lists.specs.Words.{nibbles}
use Rattle.lists.proofs.Holdings.{only_first}
use Rattle.lists.proofs.Queues.{first}
use Rattle.lists.proofs.queue.Queue.without.Goals as goal
use Rattle.lists.proofs.queue.Queue.without.Goals.{Start, Then-first-thread, Then-self-gt0}

pub returns-then-first-thread : goal.returns-then-first-thread
returns-then-first-thread c =
    let q = c.args.self in
    let t = c.args.thread in
    let rest = nibbles (q.count - 1) (q.items / 16) in
    let turn = first q.count q.items c.if-self-gt0.true in
    let few = subst (λ (l : List ℕ). times (λ u. eqb u t) l ≤ 1) turn c.requires.1 in
    sym (ap (without t) turn ∙ only_first (λ u. eqb u t) (q.items % 16) rest (eq-eqb (q.items % 16) t c.if-first-thread.true) few)
