-- `wake` meets its contract: what is done for the sleepers seen so far, and what is left to do, is what is done for all.
use Rattle.std.proofs.Common.{rules, tests}
use mathlib.Core.Path.{◌≡◌, refl, ap, sym, subst}
use mathlib.Core.Bool.{true, false}
use mathlib.Core.List.{List, [], ◌∷◌, ◌++◌, Memᴰ as Mem}
use mathlib.Core.List.Memᴰ.{head as here}
use Prim.Native.Nat.{ℕ, ◌+◌, ◌<◌}
use native.Mathlib.Omega.{arith}
use lib.Dec.{eqb}
use lib.ListN.{length, length-append}
use Rattle.lists.specs.declared.queue.Queue.{Queue}
use Rattle.lists.specs.Words.{nibbles}
use Rattle.lists.specs.Lists.{queued}
use Rattle.lists.proofs.Laws.{length-queued, nibbles_small}
use Rattle.clock.specs.View.{number_at}
use Rattle.machine.proofs.Woken.{Waking, waking_begin, waking_done, wakes_up, sleeps_on}
use Rattle.machine.proofs.sleepers.wake.Goals as goal

-- one more at the end
longer : (q r : Queue) (t : ℕ) → queued r ≡ queued q ++ (t ∷ []) → r.count ≡ q.count + 1
longer q r t e = omega (arith, length-queued r, ap length e, length-append (queued q) (t ∷ []), length-queued q)

-- the sleeper whose turn it is
small : (n w t : ℕ) (more : List ℕ) → nibbles n w ≡ t ∷ more → t < 16
small n w t more e = nibbles_small n w t (subst (Mem t) (sym e) (here refl))

pub loop-t-init : goal.loop-t-init
loop-t-init c =
    let a = c.args in
    let i = c.into_iter-t-iterator in
    let all : nibbles i.result.left i.result.rest ≡ queued a.delays = rw i.ensures.into_iter_gives c.iter-t-items.ensures in
    let asleep = c.none-asleep.ensures in
    let woken = c.none-woken.ensures in
    record {
      line_room = omega (arith, c.requires, ap length all, length-queued a.delays);
      asleep_room = omega (arith, c.requires, ap length all, length-queued a.delays, length-queued c.none-asleep.result, ap length asleep);
      woken_room = omega (arith, c.requires, ap length all, length-queued a.delays, length-queued c.none-woken.result, ap length woken);
      waking =
          subst (λ (l : List ℕ). Waking a.wakes a.number.0 (queued a.delays) l a.slots a.queue a.slots a.queue c.none-asleep.result c.none-woken.result) (sym all)
          (waking_begin a.wakes a.number.0 (queued a.delays) asleep woken);
    }

pub push-woken-requires : goal.push-woken-requires
push-woken-requires c =
    let s = c.in-Some.ensures.steps in
    (omega (arith, c.loop-t.invariant.woken_room, ap length s), small _ _ _ _ s)

pub loop-t-preserved-then-eq : goal.loop-t-preserved-then-eq
loop-t-preserved-then-eq c =
    let a = c.args in
    let l = c.loop-t in
    let t = c.in-Some.t in
    let s = c.in-Some.ensures.steps in
    let now : eqb (number_at a.wakes t) a.number.0 ≡ true = search (rules, tests) in
    let turned = subst (λ (k : List ℕ). Waking a.wakes a.number.0 (queued a.delays) k a.slots a.queue l.states l.line l.asleep l.woken) s l.invariant.waking in
    record {
      line_room = omega (arith, l.invariant.line_room, ap length s, longer l.line c.push-line.result t c.push-line.ensures);
      asleep_room = omega (arith, l.invariant.asleep_room, ap length s);
      woken_room = omega (arith, l.invariant.woken_room, ap length s, longer l.woken c.push-woken.result t c.push-woken.ensures);
      waking = wakes_up a.wakes a.number.0 turned now c.placed-states.ensures c.push-line.ensures c.push-woken.ensures;
    }

pub loop-t-preserved : goal.loop-t-preserved
loop-t-preserved c =
    let a = c.args in
    let l = c.loop-t in
    let t = c.in-Some.t in
    let s = c.in-Some.ensures.steps in
    let later : eqb (number_at a.wakes t) a.number.0 ≡ false = search (rules, tests) in
    let turned = subst (λ (k : List ℕ). Waking a.wakes a.number.0 (queued a.delays) k a.slots a.queue l.states l.line l.asleep l.woken) s l.invariant.waking in
    record {
      line_room = omega (arith, l.invariant.line_room, ap length s);
      asleep_room = omega (arith, l.invariant.asleep_room, ap length s, longer l.asleep c.push-asleep.result t c.push-asleep.ensures);
      woken_room = omega (arith, l.invariant.woken_room, ap length s);
      waking = sleeps_on a.wakes a.number.0 turned later c.push-asleep.ensures;
    }

pub returns : goal.returns
returns c =
    let l = c.loop-t in
    waking_done c.args.wakes c.args.number.0 {d = c.args.delays} (record { slots = l.states; queue = l.line; delays = l.asleep; woken = l.woken }) c.in-None.ensures.steps.0 l.invariant.waking
