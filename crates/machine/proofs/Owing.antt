-- What is due: which of it stands in the array, and what is known of it in a well-formed state.
use mathlib.Core.Path.{◌≡◌, refl, ap, ap₂, sym, ◌∙◌}
use mathlib.Core.Logic.{◌⊎◌, inl, inr}
use mathlib.Core.Bool.{Bool, not, cond}
use mathlib.Core.List.{List, [], ◌∷◌, ◌++◌, append-nil}
use mathlib.Core.Option.{Option}
use Prim.Native.Nat.{ℕ, zero, suc, ◌+◌, ◌-◌, ◌≤◌, ◌<◌}
use native.Mathlib.Omega.{arith}
use borrow.Author.Tests.{lt-ltb, le-ltb}
use lib.Dec.{T, ltb, ltb→lt, nltb→le}
use lib.ListN.{length, get_or, drop}
use Rattle.model.specs.Records as records
use Rattle.model.specs.Records.{Switch, report, allowed, is_switch, operand_thread}
use Rattle.model.specs.State.{without_switch}
use Rattle.model.specs.Formed.{formed_machine, formed_reports, formed}
use Rattle.model.proofs.Tests.{split, and_left}
use Rattle.model.proofs.Searches.{filter-append}
use Rattle.model.proofs.Laws.{well_formed}
use Rattle.model.proofs.Loops.{listed_more, listed_alike}
use Rattle.plan.proofs.Laws.{threads_view}
use Rattle.due.specs.declared.reports.Report.{Report}
use Rattle.due.specs.Lists.{report_room, report_of, IsReport, no_report, switch_to, listed, owed}
use Rattle.due.proofs.Laws.{is_report_lem, none_due, in_due, within}
use Rattle.machine.specs.declared.Machine.{Machine}
use Rattle.machine.specs.declared.state.State.{State}
use Rattle.machine.specs.declared.reporting.Reporting.{Reporting}
use Rattle.machine.specs.View.{plan_of, viewed, view, reports_in, report_at, shown}
use Rattle.machine.specs.Calls.{Apart}
use Rattle.machine.proofs.Facts.{Formed, facts}
use Rattle.machine.proofs.Views.{sized}

module _ (m : Machine) (at : ℕ → Report) (n given : ℕ) (passes : T (formed (plan_of m) (viewed m (drop given (listed at n))))) where
  -- so is the machine, whatever is due
  pub unowed : Formed m
  unfolding formed formed_machine
  unowed = let st = viewed m (drop given (listed at n)) in record { passes = and_left (formed_machine (plan_of m) st) (formed_reports (plan_of m) st) passes }

  -- each report due is one that the plan allows, of one of the papers' kinds
  pub due_allowed : (i : ℕ) → given ≤ i → i < n → T (allowed (plan_of m) (report (report_of (at i))))
  due_allowed i a b = (well_formed (plan_of m) (viewed m (drop given (listed at n))) (sized m) passes).known (report_of (at i)) (in_due at n given i a b)

  pub due_known : (i : ℕ) → given ≤ i → i < n → IsReport (at i)
  due_known i a b = is_report_lem (at i) (plan_of m) (omega (arith, threads_view m.plan, (facts unowed).fits.threads)) (due_allowed i a b)

-- a Switch behind those due is the one that is dropped
none_behind : (n : ℕ) (l : List records.Report) (w : Option ℕ) → without_switch (drop n (l ++ (Switch w ∷ []))) ≡ without_switch (drop n l)
none_behind zero l w = filter-append (λ d. not (is_switch d)) l (Switch w ∷ []) ∙ append-nil (without_switch l)
none_behind (suc zero) [] w = refl
none_behind (suc (suc n)) [] w = refl
none_behind (suc n) (d ∷ l) w = none_behind n l w

-- the reports of the array, and behind them the Switch that may stand apart
module _ (c : Reporting) where
  pub in_array : listed (report_at c) c.count ≡ owed (reports_in c)
  in_array =
      listed_alike (λ i. report_of (report_at c i)) (λ i. report_of (get_or c.reports i no_report)) c.count
      (λ i h. ap (λ b. report_of (cond b (get_or c.reports i no_report) (switch_to c.chosen))) (lt-ltb i c.count h))

  pub switch_behind : listed (report_at c) (c.count + 1) ≡ owed (reports_in c) ++ (report_of (switch_to c.chosen) ∷ [])
  switch_behind =
      listed_more (λ i. report_of (report_at c i)) c.count
      ∙ ap₂ (λ (l : List records.Report) (b : Bool). l ++ (report_of (cond b (get_or c.reports c.count no_report) (switch_to c.chosen)) ∷ [])) in_array (le-ltb c.count c.count (omega arith))

  -- without a Switch it is the array's that are due
  pub array_due : Apart c → without_switch (drop c.given (owed (reports_in c))) ≡ without_switch (drop c.given (listed (report_at c) c.due))
  array_due a = go a.apart
    where
      go : (c.due ≡ c.count) ⊎ ((c.due ≡ c.count + 1) × (c.count < report_room)) → without_switch (drop c.given (owed (reports_in c))) ≡ without_switch (drop c.given (listed (report_at c) c.due))
      go (inl e) = sym (ap (λ n. without_switch (drop c.given (listed (report_at c) n))) e ∙ ap (λ l. without_switch (drop c.given l)) in_array)
      go (inr e) =
          sym (ap (λ n. without_switch (drop c.given (listed (report_at c) n))) e.0 ∙ ap (λ l. without_switch (drop c.given l)) switch_behind
          ∙ none_behind c.given (owed (reports_in c)) (operand_thread (switch_to c.chosen).operand))

  -- those due of the array are in it
  pub array_room : T (formed (plan_of c.machine) (shown c)) → Apart c → length c.reports ≡ report_room → c.given < c.count → c.count ≤ report_room
  array_room f a size h =
      let i = c.count - 1 in
      let b : i < c.count = omega arith in
      omega (arith, within c.reports i size (rw (lt-ltb i c.count b) at (due_known c.machine (report_at c) c.due c.given f i (omega arith) (omega (arith, apart_count a)))))
    where
      apart_count : Apart c → c.count ≤ c.due
      apart_count a = go a.apart
        where
          go : (c.due ≡ c.count) ⊎ ((c.due ≡ c.count + 1) × (c.count < report_room)) → c.count ≤ c.due
          go (inl e) = omega arith
          go (inr e) = omega (arith, e.0)

module _ (s : State) (passes : T (formed (plan_of s.machine) (view s))) where
  abbrev at : ℕ → Report
  at i = get_or s.due.items i no_report

  -- those due are in the array
  pub due_fits : length s.due.items ≡ report_room → s.given < s.due.count → s.due.count ≤ report_room
  due_fits size h = omega (arith, within s.due.items (s.due.count - 1) size (due_known s.machine at s.due.count s.given passes (s.due.count - 1) (omega arith) (omega arith)))

  -- something is due exactly where the count is above those given
  pub owing : 0 < length (view s).due → s.given < s.due.count
  owing h = go (split (ltb s.given s.due.count))
    where
      go : T (ltb s.given s.due.count) ⊎ T (not (ltb s.given s.due.count)) → s.given < s.due.count
      go (inl t) = ltb→lt s.given s.due.count t
      go (inr t) = absurd (omega (arith, h, ap length (none_due at s.due.count s.given (nltb→le s.given s.due.count t))))
