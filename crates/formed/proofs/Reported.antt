-- The reports due that came from outside: which entries are reports of the papers', and what decides where some are due, or none.
use mathlib.Core.Path.{◌≡◌, refl, ap, ap₂, sym, ◌∙◌}
use mathlib.Core.Logic.{◌≢◌}
use mathlib.Core.Bool.{Bool, true, false, ◌&&◌}
use mathlib.Core.List.{List, [], ◌∷◌}
use Prim.Native.Nat.{ℕ, ◌+◌, ◌-◌, ◌≤◌, ◌<◌}
use native.Mathlib.Omega.{arith}
use borrow.Author.Tests.{le-leb, lt-leb, le-ltb, ne_eqb}
use lib.Dec.{T, leb, ltb, le→leb, not_T}
use lib.ListN.{length, get_or, drop, length-drop}
use Rattle.model.specs.Searches.{all, up_to}
use Rattle.model.specs.Plan.{threads}
use Rattle.model.specs.Records as records
use Rattle.model.specs.Records.{timer_count, Yield, nobody, report, allowed}
use Rattle.model.specs.State.{without_switch}
use Rattle.model.specs.Formed.{times, shown_at_rest, switch_last, owed_none, claims, formed_machine, formed_reports, formed}
use Rattle.model.proofs.Tests.{is_false, from_true, and_left, and_right, and_both}
use Rattle.model.proofs.Searches.{all_at}
use Rattle.model.proofs.Loops.{and_true}
use Rattle.model.proofs.Laws.{rest_claims}
use Rattle.plan.specs.declared.Plan.{Plan}
use Rattle.plan.specs.View.{Fits, view}
use Rattle.plan.proofs.Laws.{threads_view}
use Rattle.lists.proofs.Laws.{length-queued}
use Rattle.clock.specs.View as timing
use Rattle.due.specs.declared.reports.Report.{Report}
use Rattle.due.specs.declared.reports.Reports.{Reports}
use Rattle.due.specs.Lists.{report_room, report_of, no_report, owed}
use Rattle.due.proofs.Laws.{by_kind, is_report_lem, length-owed, none_due, in_due, within}
use Rattle.machine.specs.declared.Machine.{Machine}
use Rattle.machine.specs.declared.state.State.{State}
use Rattle.machine.specs.View as machines
use Rattle.machine.specs.View.{plan_of, viewed, idle}
use Rattle.machine.specs.Kept.{kept, sound}
use Rattle.machine.proofs.Laws.{machine_facts}
use Rattle.formed.proofs.Outside.{second_asked, refused, decided, whatever_due}

-- an entry is a report of the papers': a Switch to nobody, the Expire of a timer, a Late of two bytes, or of a kind from 16 to 20 that names a thread
module _ (p : Plan) (r : Report) where
  -- what the code answers
  abbrev Meets : Bool → Type 0
  Meets b = b ≡ allowed (view p) (report (report_of r))

  -- a number that names no kind stands for the report of a thread that no plan has
  pub unknown : Fits p → (16 ≤ r.kind → 22 < r.kind) → Meets false
  unknown fits n =
      by_kind r (Meets false)
      (λ e. absurd (omega (arith, n))) (λ e. absurd (omega (arith, n))) (λ e. absurd (omega (arith, n))) (λ e. absurd (omega (arith, n))) (λ e. absurd (omega (arith, n))) (λ e. absurd (omega (arith, n))) (λ e. absurd (omega (arith, n)))
      (λ i e. rw (e, threads_view p) (sym (le-ltb nobody p.threads (omega (arith, fits.threads)))))

  pub of_thread : (r.kind ≡ 17 → r.operand ≢ nobody) → 16 ≤ r.kind → r.kind ≤ 20 → Meets (ltb r.operand p.threads)
  of_thread d h k =
      by_kind r (Meets (ltb r.operand p.threads))
      (λ e. rw (e, threads_view p)) (λ e. rw (e, ne_eqb r.operand nobody (d e), threads_view p)) (λ e. rw (e, threads_view p)) (λ e. rw (e, threads_view p)) (λ e. rw (e, threads_view p))
      (λ e. absurd (omega arith)) (λ e. absurd (omega arith)) (λ i e. absurd (i (record { least = h; most = omega arith })))

-- those still to be given, where some are
module _ (m : Machine) (rs : Reports) (given : ℕ) (some-due : given < rs.count) where
  abbrev due' : List records.Report
  due' = drop given (owed rs)

  abbrev few : Bool
  few = leb (length due') (threads (plan_of m) + 9)

  abbrev known : Bool
  known = all (λ d. allowed (view m.plan) (report d)) due'

  abbrev last : Bool
  last = switch_last due'

  abbrev room : Bool
  room = leb (claims (viewed m due')) (threads (plan_of m) + 9)

  abbrev shown' : Bool
  shown' = shown_at_rest (plan_of m) (viewed m due')

  still_due : length due' ≡ rs.count - given
  still_due = length-drop given (owed rs) ∙ ap (λ n. n - given) (length-owed rs)

  -- the thread reported is not asked for
  not_asked : T shown'
  not_asked = go due' (omega (arith, still_due))
    where
      go : (l : List records.Report) → 0 < length l → T (shown_at_rest (plan_of m) (viewed m l))
      go [] k = absurd (omega arith)
      go (d ∷ l) k = tt

  -- the questions in the model's order
  record Asked : Type 0 where
    few' : T few
    known' : T known
    last' : T last
    room' : T room

  abbrev passes : Bool
  passes = formed_reports (plan_of m) (viewed m due')

  asks : T passes → Asked
  unfolding formed_reports
  asks t =
      let three = and_left (few && known && shown' && last) room t in
      let two = and_left (few && known && shown') last three in
      let one = and_left (few && known) shown' two in
      record { few' = and_left few known one; known' = and_right few known one; last' = and_right (few && known && shown') last three; room' = and_right (few && known && shown' && last) room t }

  asked_all : T few → T known → T last → T room → T passes
  unfolding formed_reports
  asked_all a b c d = and_both (few && known && shown' && last) room (and_both (few && known && shown') last (and_both (few && known) shown' (and_both few known a b) not_asked) c) d

  -- the answer that the code gives
  abbrev Passes : Bool → Type 0
  Passes r = r ≡ passes

  pub too_many : m.plan.threads + 9 < rs.count - given → Passes false
  too_many h = refused (λ t. (asks t).few') (sym (lt-leb (length due') (threads (plan_of m) + 9) (omega (arith, still_due, threads_view m.plan))))

  pub one_refused : false ≡ known → Passes false
  one_refused e = refused (λ t. (asks t).known') e

  -- an entry past the array's end stands for no report
  pub past_end : Fits m.plan → length rs.items ≡ report_room → report_room < rs.count → Passes false
  past_end fits z b = one_refused (sym (is_false known (not_T known (λ t. omega (arith, is t)))))
    where
      entry : ℕ → Report
      entry i = get_or rs.items i no_report

      end : ℕ
      end = rs.count - 1

      is : T known → end < report_room
      is t =
          within rs.items end z
          (is_report_lem (entry end) (view m.plan) (omega (arith, threads_view m.plan, fits.threads)) (all_at (λ d. allowed (view m.plan) (report d)) due' t (in_due entry rs.count given end (omega arith) (omega arith))))

  -- where they are few, in the code's order
  abbrev pub in_turn : List records.Report → Bool
  in_turn l =
      all (λ d. allowed (view m.plan) (report d)) l && switch_last l && leb (length (without_switch l) + m.delays.count + times (owed_none (timing.view m.timers) due') (up_to timer_count) + 1) (m.plan.threads + 9)

  pub asked_in_turn : rs.count - given ≤ m.plan.threads + 9 → in_turn due' ≡ passes
  asked_in_turn h = same_claims ∙ decided there' back refl
    where
      same_claims : in_turn due' ≡ known && last && room
      same_claims =
          ap₂ (λ d n. known && last && leb (length (without_switch due') + d + times (owed_none (timing.view m.timers) due') (up_to timer_count) + 1) (n + 9)) (sym (length-queued m.delays)) (sym (threads_view m.plan))

      there' : T (known && last && room) → T passes
      there' t =
          let two = and_left (known && last) room t in
          asked_all (le→leb (length due') (threads (plan_of m) + 9) (omega (arith, h, still_due, threads_view m.plan))) (and_left known last two) (and_right known last two) (and_right (known && last) room t)

      back : T passes → T (known && last && room)
      back t = let a = asks t in and_both (known && last) room (and_both known last a.known' a.last') a.room'

-- behind the machine and what it keeps, what is due decides
module _ (s : State) where
  -- the answer that the code gives
  abbrev IsSound : Bool → Type 0
  IsSound r = r ≡ sound s

  pub not_formed : false ≡ formed_machine (plan_of s.machine) (idle s.machine) → IsSound false
  unfolding formed
  not_formed e = ap (λ b. b && formed_reports (plan_of s.machine) (machines.view s) && kept s.machine) (e ∙ sym (whatever_due s.machine (machines.view s).due))

  pub not_kept : false ≡ kept s.machine → IsSound false
  not_kept e = refused (λ t. and_right (formed (plan_of s.machine) (machines.view s)) (kept s.machine) t) e

  module _ (e : formed_machine (plan_of s.machine) (idle s.machine) ≡ true) (k : kept s.machine ≡ true) where
    pub with_due : {r : Bool} → r ≡ formed_reports (plan_of s.machine) (machines.view s) → IsSound r
    unfolding formed
    with_due q =
        second_asked (formed_machine (plan_of s.machine) (machines.view s)) _ (whatever_due s.machine (machines.view s).due ∙ e) q
        ∙ sym (ap (λ b. formed (plan_of s.machine) (machines.view s) && b) k ∙ and_true (formed (plan_of s.machine) (machines.view s)))

    -- with nothing due the thread reported does
    pub at_rest : s.due.count ≤ s.given → {r : Bool} → r ≡ shown_at_rest (plan_of s.machine) (idle s.machine) → IsSound r
    unfolding formed_reports
    at_rest h q = with_due (q ∙ at_once ∙ ap (λ l. formed_reports (plan_of s.machine) (viewed s.machine l)) (sym none))
      where
        none : (machines.view s).due ≡ []
        none = none_due (λ i. get_or s.due.items i no_report) s.due.count s.given h

        shown' : Bool
        shown' = shown_at_rest (plan_of s.machine) (idle s.machine)

        few : leb 0 (threads (plan_of s.machine) + 9) ≡ true
        few = le-leb 0 (threads (plan_of s.machine) + 9) (omega arith)

        room : leb (claims (idle s.machine)) (threads (plan_of s.machine) + 9) ≡ true
        room = le-leb (claims (idle s.machine)) (threads (plan_of s.machine) + 9) (rest_claims (plan_of s.machine) (idle s.machine) (machine_facts s.machine (from_true _ e)) refl)

        at_once : shown' ≡ formed_reports (plan_of s.machine) (idle s.machine)
        at_once = sym (ap₂ (λ a b. a && true && shown' && true && b) few room ∙ and_true (shown' && true) ∙ and_true shown')
