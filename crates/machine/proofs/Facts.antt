-- What is known of a well-formed machine.
use mathlib.Core.Path.{◌≡◌}
use mathlib.Core.List.{Memᴰ as Mem}
use Prim.Native.Nat.{ℕ, ◌≤◌, ◌<◌}
use native.Mathlib.Omega.{arith}
use lib.Dec.{T}
use Rattle.model.specs.Plan.{valid_plan}
use Rattle.model.specs.State.{waiting, Hold, condition}
use Rattle.model.specs.Formed.{formed_machine, last_tick, arming_in_range}
use Rattle.model.proofs.Searches.{Pairwise}
use Rattle.model.proofs.Laws.{OtherSection, Agree, Sleeps, well_standing, in_arming}
use Rattle.plan.specs.View.{Fits}
use Rattle.plan.proofs.Laws.{threads_view, valid_fits}
use Rattle.machine.specs.declared.Machine.{Machine}
use Rattle.machine.specs.View.{plan_of, idle}
use Rattle.machine.proofs.Views.{sized}

-- A machine is well formed, whatever is due.
pub record Formed (m : Machine) : Type 0 where
  pub passes : T (formed_machine (plan_of m) (idle m))

pub record Facts (m : Machine) : Type 0 where
  pub fits : Fits m.plan
  pub valid : T (valid_plan (plan_of m))
  -- conditions and lists agree, and no thread is listed twice
  pub agree : Agree (plan_of m) (idle m).conditions (idle m).queue (idle m).waits
  -- no section is held twice, and each hold is of a section and a thread of the plan
  pub held_once : Pairwise OtherSection (idle m).holds
  pub held : (h : Hold) → Mem h (idle m).holds → (h.section < m.plan.sections) × (h.thread < m.plan.threads)
  pub wants : (t s : ℕ) → condition (idle m) t ≡ waiting s → s < m.plan.sections
  pub tick : m.tick.0 ≤ last_tick
  -- the order of Delays names each sleeper just once
  pub sleeps : Sleeps (idle m).conditions (idle m).delays
  -- an arming in progress is of one of the eight timers
  pub arming : T (arming_in_range (idle m).timers.arming)

pub facts : {m : Machine} → Formed m → Facts m
facts {m} f =
    let w = well_standing (plan_of m) (idle m) (sized m) f.passes in
    record {
      fits = valid_fits m.plan w.valid;
      valid = w.valid;
      agree = w.agree;
      held_once = w.held_once';
      held = λ h i. let r = w.held h i in (r.0, omega (arith, threads_view m.plan, r.1));
      wants = w.wants;
      tick = w.tick;
      sleeps = w.delayed;
      arming = in_arming (idle m).timers.arming w.arms;
    }
