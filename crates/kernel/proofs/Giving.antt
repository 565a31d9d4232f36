-- Giving the reports due, one after another: while one is due the state stays well formed, and in the end all are given.
use mathlib.Core.Path.{◌≡◌, refl, ap, sym, subst, ◌∙◌}
use mathlib.Core.List.Memᴰ.{head as here}
use mathlib.Core.List.Memᴰ.{tail as there}
use mathlib.Core.List.{List, [], ◌∷◌, tail, Memᴰ as Mem}
use mathlib.Core.Bool.{not, ◌||◌}
use mathlib.Core.Option.{Option, some}
use Prim.Native.Nat.{ℕ, ◌≤◌, ◌<◌}
use native.Mathlib.Omega.{arith}
use lib.Dec.{T, ltb→lt}
use lib.ListN.{length}
use Rattle.model.specs.Searches.{◌▷◌, is_empty}
use Rattle.model.specs.Plan.{Plan, threads}
use Rattle.model.specs.Records.{Report, Ready, Switch, Won, Lost, Yield, Expire, Late, report, is_switch, is_thread, allowed}
use Rattle.model.specs.State.{State, switched_to, latest_switch, set_reported, set_due}
use Rattle.model.specs.Runs.{deliver}
use Rattle.model.specs.Formed.{switch_last, formed}
use Rattle.model.specs.Bench.{deliver_all}
use Rattle.model.proofs.Tests.{and_right}
use Rattle.model.proofs.Laws.{WellFormed, passes_all, claims_given, given_none}
use Rattle.plan.specs.View as plans
use Rattle.plan.specs.declared.Plan as declared
use Rattle.machine.specs.declared.state.State as code
use Rattle.due.specs.declared.reports.Report as reports
use Rattle.due.specs.Lists.{report_of}
use Rattle.machine.specs.View.{plan_of, view}
use Rattle.machine.proofs.Laws.{formed_facts}
use Rattle.machine.specs.Clauses.{Owes, FirstDue, Delivers}
use Rattle.kernel.specs.Clauses.{Settles}

-- a thread reported is one of the plan's, also once a report is given that names one
switched_known : (p : Plan) (w : Option ℕ) (d : Report) → ((t : ℕ) → w ≡ some t → t < threads p) → T (allowed p (report d)) → (t : ℕ) → switched_to w d ≡ some t → t < threads p
switched_known p w (Ready u) h a t e = h t e
switched_known p w (Switch v) h a t e = ltb→lt t (threads p) (subst (λ (o : Option ℕ). T (is_thread p o)) e a)
switched_known p w (Won u) h a t e = h t e
switched_known p w (Lost u) h a t e = h t e
switched_known p w (Yield u) h a t e = h t e
switched_known p w (Expire i) h a t e = h t e
switched_known p w (Late n) h a t e = h t e

module _ (p : Plan) (st : State) (d : Report) (q : st.due ≡ d ∷ tail st.due) where
  -- The first report due is given: the state stays well formed where another one is due. With none left the chosen thread of a lent state may be another than
  -- the one reported.
  given_formed : 0 < length (tail st.due) → WellFormed p st → WellFormed p (deliver d st)
  given_formed h w =
      let s = w.standing in
      record {
        standing =
            record {
              valid = s.valid;
              agree = s.agree;
              held_once' = s.held_once';
              held = s.held;
              wants = s.wants;
              sleeps = s.sleeps;
              tick = s.tick;
              reported' = switched_known p st.reported d s.reported' (w.known d (subst (λ l. Mem d l) (sym q) (here refl)));
              arms = s.arms;
              expires = s.expires;
              delayed = s.delayed;
            };
        few = omega (arith, w.few, ap length q);
        known = λ r m. w.known r (subst (λ l. Mem r l) (sym q) (there m));
        shown' = λ e. absurd (omega (arith, h, ap length e));
        last = and_right (not (is_switch d) || is_empty (tail st.due)) (switch_last (tail st.due)) (subst (λ l. T (switch_last l)) q w.last);
        room = omega (arith, claims_given st d (tail st.due) q, w.room);
      }

  -- and once all are given it is the same state
  given_all : deliver_all (deliver d st) ≡ deliver_all st
  given_all = ap (λ l. st ▷ set_reported (latest_switch st.reported l) ▷ set_due []) (sym q)

pub none_left : (l : List Report) → length l ≤ 0 → l ≡ []
none_left [] h = refl
none_left (d ∷ l) h = absurd (omega arith)

abbrev pub IsFormed : code.State → Type 0
IsFormed s = T (formed (plan_of s.machine) (view s))

-- some of the reports that were due in the first state are given, and with the others given it will be settled
pub record Giving (first s : code.State) : Type 0 where
  pub formed' : 0 < length (view s).due → IsFormed s
  pub plan' : s.machine.plan ≡ first.machine.plan
  pub holds' : s.machine.holds ≡ first.machine.holds
  pub left : deliver_all (view s) ≡ deliver_all (view first)

pub giving_begin : (s : code.State) → IsFormed s → Giving s s
giving_begin s f = record { formed' = λ h. f; plan' = refl; holds' = refl; left = refl }

module _ {first s : code.State} (g : Giving first s) where
  pub giving_owes : 0 < length (view s).due → Owes s
  giving_owes h = record { formed' = g.formed' h; due' = h }

  module _ {r : reports.Report} {s' : code.State} (f : FirstDue r s) (d : Delivers s' s r) where
    pub giving_due : (view s).due ≡ report_of r ∷ (view s').due
    giving_due = f.first ∙ ap (λ (st : State). report_of r ∷ st.due) (sym d.seen)

    pub giving_next : Giving first s'
    giving_next =
        let p = plan_of s.machine in
        let st = deliver (report_of r) (view s) in
        record {
          formed' = λ h.
              let more : 0 < length (tail (view s).due) = omega (arith, h, ap (λ (x : State). length x.due) d.seen) in
              let here' = formed_facts s (g.formed' (omega (arith, ap length f.first))) in
              subst (λ (q : declared.Plan). T (formed (plans.view q) (view s'))) (sym d.plan')
              (subst (λ (x : State). T (formed p x)) (sym d.seen) (passes_all p st (given_formed p (view s) (report_of r) f.first more here')));
          plan' = d.plan' ∙ g.plan';
          holds' = d.holds' ∙ g.holds';
          left = ap deliver_all d.seen ∙ given_all p (view s) (report_of r) f.first ∙ g.left;
        }

  pub giving_done : length (view s).due ≤ 0 → Settles s first
  giving_done h = record { plan' = g.plan'; holds' = g.holds'; seen = sym (given_none (view s) (none_left (view s).due h)) ∙ g.left }
