-- How far an arming has come, and what it was given, by its number: where it is in progress, it is of one of the eight timers.
use mathlib.Core.Path.{◌≡◌, ap, sym, ◌∙◌}
use mathlib.Core.Logic.{◌⊎◌, inl, inr, ◌≢◌}
use Prim.Native.Nat.{◌<◌}
use native.Mathlib.Omega.{arith}
use borrow.Author.Tests.{ne_eqb}
use lib.Dec.{T, ltb→lt}
use Rattle.model.specs.Timers as model
use Rattle.model.specs.Timers.{no_arming, after_arm, after_start, is_complete, timer_given, start_given}
use Rattle.model.specs.Rules.{stage}
use Rattle.model.specs.Formed.{arming_in_range}
use Rattle.model.proofs.Tests.{equal?}
use Rattle.clock.specs.declared.timers.Arming.{Arming}
use Rattle.clock.specs.declared.timers.Timers.{Timers}
use Rattle.clock.specs.View.{arming_of, view}
use Rattle.clock.specs.Clauses.{Comes}

-- the three numbers of an arming, and what each stands for
data Stands (a : Arming) (m : model.Arming) : Type 0 where
  idle : a.stage ≡ 0 → m ≡ no_arming → Stands a m
  begun : a.stage ≡ 1 → m ≡ after_arm a.timer → Stands a m
  started : a.stage ≡ 2 → m ≡ after_start a.timer a.start → Stands a m

module _ (a : Arming) where
  -- any other number stands for a timer that there is not
  no_other : a.stage ≢ 0 → a.stage ≢ 1 → a.stage ≢ 2 → arming_of a ≡ after_arm 255
  no_other p q r = rw (ne_eqb a.stage 0 p, ne_eqb a.stage 1 q, ne_eqb a.stage 2 r)

  stands : T (arming_in_range (arming_of a)) → Stands a (arming_of a)
  stands t = go (equal? a.stage 0) (equal? a.stage 1) (equal? a.stage 2)
    where
      go : (a.stage ≡ 0) ⊎ (a.stage ≢ 0) → (a.stage ≡ 1) ⊎ (a.stage ≢ 1) → (a.stage ≡ 2) ⊎ (a.stage ≢ 2) → Stands a (arming_of a)
      go (inl p) q r = idle p (rw p)
      go (inr p) (inl q) r = begun q (rw q)
      go (inr p) (inr q) (inl r) = started r (rw r)
      go (inr p) (inr q) (inr r) = let t' : T (arming_in_range (after_arm 255)) = rw (no_other p q r) at t in absurd (omega (arith, ltb→lt 255 8 t'))

  -- so that the number is how far it has come
  pub stage_number : T (arming_in_range (arming_of a)) → stage (arming_of a) ≡ a.stage
  stage_number t = go (stands t)
    where
      go : Stands a (arming_of a) → stage (arming_of a) ≡ a.stage
      go (idle p e) = ap stage e ∙ sym p
      go (begun p e) = ap stage e ∙ sym p
      go (started p e) = ap stage e ∙ sym p

given_in_range : (m : model.Arming) → T (arming_in_range m) → timer_given m < 8
given_in_range no_arming t = omega arith
given_in_range (after_arm i) t = ltb→lt i 8 t
given_in_range (after_start i s) t = ltb→lt i 8 t

module _ (t : Timers) where
  pub after_start_lem : Comes t 2 → (view t).arming ≡ after_start t.arming.timer t.arming.start
  after_start_lem c = go (stands t.arming c.known)
    where
      go : Stands t.arming (arming_of t.arming) → arming_of t.arming ≡ after_start t.arming.timer t.arming.start
      go (idle p e) = absurd (omega (arith, stage_number t.arming c.known, c.stage'))
      go (begun p e) = absurd (omega (arith, stage_number t.arming c.known, c.stage'))
      go (started p e) = e

  -- the timer and the start that are kept are those given
  pub timer_known : Comes t 2 → t.arming.timer < 8
  timer_known c = omega (arith, given_in_range (view t).arming c.known, ap timer_given (after_start_lem c))

  pub start_kept : Comes t 2 → start_given (view t).arming ≡ t.arming.start
  start_kept c = ap start_given (after_start_lem c)
