-- The Switch after a call: it is due where the number of the chosen thread is not the number last reported.
use mathlib.Core.Path.{◌≡◌, refl, ap, sym, ◌∙◌}
use mathlib.Core.Logic.{◌⊎◌, inl, inr}
use mathlib.Core.Bool.{cond, not}
use mathlib.Core.List.{List, [], ◌∷◌, ◌++◌}
use mathlib.Core.Option.{Option, none, some}
use Prim.Native.Nat.{ℕ, ◌<◌}
use native.Mathlib.Omega.{arith}
use lib.Dec.{T}
use Rattle.model.specs.Searches.{◌▷◌, same}
use Rattle.model.specs.Plan.{Plan}
use Rattle.model.specs.State.{State, last_reported, owe}
use Rattle.model.specs.Records.{Report, Switch}
use Rattle.model.specs.Priorities.{greatest_hold, current, chosen}
use Rattle.model.specs.Calls.{switch}
use Rattle.model.proofs.Tests.{split, is_true, is_false, same_eq, same_refl}
use Rattle.model.proofs.Laws.{chosen_is}
use Rattle.due.specs.declared.reports.Reports.{Reports}
use Rattle.machine.specs.declared.Machine.{Machine}
use Rattle.lists.specs.Lists.{numbered}
use Rattle.lists.proofs.Laws.{numbered-thread_of, thread_of-numbered}
use Rattle.due.specs.Lists.{thread_of, report_room, owed}
use Rattle.machine.specs.View.{plan_of, viewed, idle}
use Rattle.machine.specs.Clauses.{Chooses}

-- who is chosen does not depend on what is due
pub chosen_due : (p : Plan) (m : Machine) (due : List Report) → chosen p (viewed m due) ≡ chosen p (idle m)
unfolding chosen current greatest_hold
chosen_due p m due = refl

module _ (p : Plan) (st : State) where
  -- no Switch is due where the chosen thread is the one last reported
  pub switch_none : last_reported st ≡ chosen p st → switch p st ≡ st
  unfolding switch
  switch_none e = ap (λ b. cond b st (st ▷ owe (Switch (chosen p st) ∷ []))) (ap (λ o. same o (chosen p st)) e ∙ is_true (same (chosen p st) (chosen p st)) (same_refl (chosen p st)))

  pub switch_due_lem : (last_reported st ≡ chosen p st → ⊥) → switch p st ≡ (st ▷ owe (Switch (chosen p st) ∷ []))
  unfolding switch
  switch_due_lem d = go (split (same (last_reported st) (chosen p st)))
    where
      go : T (same (last_reported st) (chosen p st)) ⊎ T (not (same (last_reported st) (chosen p st))) → cond (same (last_reported st) (chosen p st)) st (st ▷ owe (Switch (chosen p st) ∷ [])) ≡ (st ▷ owe (Switch (chosen p st) ∷ []))
      go (inl t) = absurd (d (same_eq (last_reported st) (chosen p st) t))
      go (inr f) = ap (λ b. cond b st (st ▷ owe (Switch (chosen p st) ∷ []))) (is_false (same (last_reported st) (chosen p st)) f)

-- what a call left before its Switch: the chosen thread can be asked for, there is room for the Switch, and none is due yet
pub record Settles (left : Machine) (rs : Reports) : Type 0 where
  pub chooses : Chooses left
  pub room : rs.count < report_room
  pub last : last_reported (viewed left (owed rs)) ≡ thread_of left.reported

-- after a call, where this is the number of the chosen thread
module _ {m : Machine} {rs : Reports} (settles : Settles m rs) (who : ℕ) (is-chosen : who ≡ numbered (chosen (plan_of m) (idle m))) where
  abbrev left : State
  left = viewed m (owed rs)

  below : (t : ℕ) → chosen (plan_of m) (idle m) ≡ some t → t < 16
  below t e = let l = settles.chooses.listed in omega (arith, l.known t (chosen_is (plan_of m) (idle m) t e).0, l.threads')

  named : thread_of who ≡ chosen (plan_of m) left
  named = ap thread_of is-chosen ∙ thread_of-numbered (chosen (plan_of m) (idle m)) (λ t e. omega (arith, below t e)) ∙ sym (chosen_due (plan_of m) m (owed rs))

  -- a thread's number, or nobody's
  pub one_byte : who < 256
  one_byte = omega (arith, is-chosen, go (chosen (plan_of m) (idle m)) refl)
    where
      go : (o : Option ℕ) → chosen (plan_of m) (idle m) ≡ o → numbered o < 256
      go none e = omega arith
      go (some t) e = omega (arith, below t e)

  -- the number is the one last reported
  pub unswitched : who ≡ m.reported → left ≡ switch (plan_of m) left
  unswitched e = sym (switch_none (plan_of m) left (settles.last ∙ ap thread_of (sym e) ∙ named))

  -- it is not, and the Switch stands last
  pub switched : (who ≡ m.reported → ⊥) → viewed m (owed rs ++ (Switch (thread_of who) ∷ [])) ≡ switch (plan_of m) left
  switched d =
      ap (λ o. viewed m (owed rs ++ (Switch o ∷ []))) named
      ∙ sym (switch_due_lem (plan_of m) left (λ q. d (sym (sym (numbered-thread_of m.reported) ∙ ap numbered (sym settles.last ∙ q ∙ sym named) ∙ numbered-thread_of who))))
