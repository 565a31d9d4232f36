-- `Timers::armed` meets its contract: the stored expiry and period are the slot, and the arming is complete.
use mathlib.Core.Path.{◌≡◌, ap, sym, ◌∙◌}
use mathlib.Core.Bool.{cond}
use mathlib.Core.List.{List}
use mathlib.Core.Option.{Option}
use Prim.Native.Nat.{ℕ}
use native.Mathlib.Omega.{arith}
use lib.ListN.{length, set}
use lib.Seq.{get_or-set_same, get_or-set_other}
use Rattle.model.specs.Records.{Period}
use Rattle.model.specs.Timers as model
use Rattle.model.specs.Timers.{Timer, no_arming, timer_given, start_given, armed_at, set_timer}
use Rattle.clock.specs.declared.time.Tick.{Tick}
use Rattle.clock.specs.declared.timers.Arming.{Arming}
use Rattle.clock.specs.declared.timers.Timers.{Timers}
use Rattle.clock.specs.View.{slot_of, view}
use Rattle.clock.specs.Clauses.{Comes}
use Rattle.clock.proofs.Sized.{expiries_size, periods_size}
use Rattle.clock.proofs.Slots.{slots_set, stored_slot}
use Rattle.clock.proofs.Stages.{after_start_lem, timer_known}
use Rattle.clock.proofs.timers.Timers.armed.Goals as goal
use Rattle.clock.proofs.timers.Timers.armed.Goals.{Start, Then-admitted, else-admitted, then-admitted}

module _ (t : Timers) (k n : ℕ) (c : Comes t 2) where
  abbrev i : ℕ
  i = t.arming.timer

  abbrev idle : List (Option Timer) → model.Timers
  idle l = record { slots = l; arming = no_arming }

  stored : (e : Tick) → length t.expiries ≡ 8 → length t.periods ≡ 8 → slot_of e.0 n ≡ armed_at k (start_given (view t).arming) n
      → view (record { expiries = set t.expiries i e; periods = set t.periods i n; arming = record { stage = 0; timer = i; start = t.arming.start } }) ≡ set_timer (Period n) k (view t)
  stored e es ps q =
      ap idle
      (slots_set t i e (set t.periods i n) (omega (arith, timer_known t c, es)) (λ j d. get_or-set_other t.periods i j n 0 d)
      ∙ ap (λ p. set (view t).slots i (slot_of e.0 p)) (get_or-set_same t.periods i n 0 (omega (arith, timer_known t c, ps)))
      ∙ ap (set (view t).slots i) q)
      ∙ sym (ap (λ (m : model.Arming). idle (set (view t).slots (timer_given m) (armed_at k (start_given (view t).arming) n))) (after_start_lem t c))

abbrev begin : goal.Then-admitted → goal.Start
begin t = t.before.before.before.before

pub first_expiry-requires : goal.first_expiry-requires
first_expiry-requires c = (begin (goal.at.first_expiry-requires c).Then-admitted).requires

pub bounds-expiries-i : goal.bounds-expiries-i
bounds-expiries-i c = let s = begin (goal.at.bounds-expiries-i c).Then-admitted in timer_known s.args.self s.requires.0

pub bounds-periods-i : goal.bounds-periods-i
bounds-periods-i c = let s = begin (goal.at.bounds-periods-i c).Then-admitted in timer_known s.args.self s.requires.0

-- timers of the same numbers
alike : {es es' : List Tick} {ps ps' : List ℕ} {a a' : Arming} → a ≡ a' → es ≡ es' → ps ≡ ps'
    → view (record { expiries = es; periods = ps; arming = a }) ≡ view (record { expiries = es'; periods = ps'; arming = a' })
alike p q r = λ i. view (record { expiries = q i; periods = r i; arming = p i })

pub returns : goal.returns
returns c =
    let a = c.args in
    let t = a.self in
    let to = set_timer (Period a.period) a.now.0 (view t) in
    elim c.if-admitted.branch [
      | then-admitted w ↦ let kept = ap (λ (e : Tick). slot_of e.0 a.period) w.unwrap_or.ensures ∙ stored_slot w.first_expiry.result a.period a.now.0 w.first_expiry.ensures.later ∙ w.first_expiry.ensures.slot in
          alike w.a-is w.expiries-is w.periods-is
          ∙ stored t a.now.0 a.period c.requires.0 w.unwrap_or.result (expiries_size t c.well_formed.0) (periods_size t c.well_formed.0) kept
          ∙ sym (ap (λ b. cond b to (view t)) w.if-admitted.true)
      | else-admitted w ↦ alike w.a-is w.expiries-is w.periods-is ∙ sym (ap (λ b. cond b to (view t)) w.if-admitted.false)
    ]
