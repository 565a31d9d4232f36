-- Demand 3 of bytes: where the whole check answers clean, the records of the dump carry the promise; where it answers a breach, those before it do.
use mathlib.Core.Path.{◌≡◌, ap, ◌∙◌}
use mathlib.Core.List.{List}
use Prim.Native.Nat.{ℕ}
use lib.ListN.{take}
use Rattle.model.specs.Runs.{clean, breach}
use Rattle.model.specs.Promise.{Promise}
use Rattle.model.proofs.Laws.{clean_count, promise, promise_before_breach}
use Rattle.plan.specs.Bytes.{plan_of}
use Rattle.dump.specs.Layout.{decode}
use Rattle.monitor.specs.Answers.{judged, check}
use Rattle.monitor.proofs.Passed.{judged_passed}

pub promise_of_bytes : (plan dump : List ℕ) (n d : ℕ) → check plan dump ≡ judged (clean n d) → Promise (plan_of plan) (decode dump)
promise_of_bytes plan dump n d e =
    let j = judged_passed plan dump (clean n d) e in
    let count = (clean_count (plan_of plan) (decode dump) n d j.1).0 in
    promise (plan_of plan) (decode dump) (record { plan = j.0.valid; operands = j.0.operands; due = d; verdict = j.1 ∙ ap (λ k. clean k d) count })

pub promise_before : (plan dump : List ℕ) (b r : ℕ) → check plan dump ≡ judged (breach b r) → Promise (plan_of plan) (take b (decode dump))
promise_before plan dump b r e =
    let j = judged_passed plan dump (breach b r) e in
    promise_before_breach (plan_of plan) (decode dump) b r j.0.valid j.0.operands j.1
