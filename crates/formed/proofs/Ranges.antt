-- How often the lists name a thread in a condition, said of the number that it is read from.
use mathlib.Core.Path.{◌≡◌, ap, ap₂, sym, ◌∙◌}
use mathlib.Core.Bool.{false, cond, ◌&&◌}
use Prim.Native.Nat.{ℕ, ◌≤◌, ◌<◌}
use native.Mathlib.Omega.{arith}
use borrow.Author.Tests.{le-leb, lt-leb}
use lib.Dec.{leb}
use Rattle.model.specs.Formed.{in_queue, in_waits, in_delays}
use Rattle.machine.specs.View.{condition_of}
use Rattle.machine.proofs.Laws.{at_none, by_state}

-- of a state, the section wanted and the tick number
module _ (s n w : ℕ) where
  above : {m : ℕ} → m ≤ 3 → 3 < s → leb m s && leb s m ≡ false
  above {m} l h = rw (le-leb m s (omega arith)) (lt-leb s m (omega arith))

  pub queued_by : s < 16 → in_queue (condition_of s n w) ≡ cond (leb 1 s && leb s 1) 1 0
  queued_by l =
      by_state s n w (in_queue (condition_of s n w) ≡ cond (leb 1 s && leb s 1) 1 0) (λ e. rw e) (λ e. rw e) (λ e. rw e) (λ e. rw e)
      (λ h. ap in_queue (at_none s n w h) ∙ sym (ap (λ b. cond b 1 0) (above (omega arith) h)))

  pub waits_by : s < 16 → in_waits (condition_of s n w) ≡ cond (leb 3 s && leb s 15) 1 0
  waits_by l =
      by_state s n w (in_waits (condition_of s n w) ≡ cond (leb 3 s && leb s 15) 1 0) (λ e. rw e) (λ e. rw e) (λ e. rw e) (λ e. rw e)
      (λ h. ap in_waits (at_none s n w h) ∙ sym (ap₂ (λ a b. cond (a && b) 1 0) (le-leb 3 s (omega arith)) (le-leb s 15 (omega arith))))

  pub delayed_by : s < 16 → in_delays (condition_of s n w) ≡ cond (leb 2 s && leb s 2) 1 0
  delayed_by l =
      by_state s n w (in_delays (condition_of s n w) ≡ cond (leb 2 s && leb s 2) 1 0) (λ e. rw e) (λ e. rw e) (λ e. rw e) (λ e. rw e)
      (λ h. ap in_delays (at_none s n w h) ∙ sym (ap (λ b. cond b 1 0) (above (omega arith) h)))
