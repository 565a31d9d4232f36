-- The known runs P1 to P13 of document 01, P6 with its verdict of document 02, item 4, and P14 of item 3, each with its verdict.
use Rattle.std.specs.Prelude.{◌≡◌, refl, ◌&&◌, List, [], ◌∷◌, ◌++◌, map, ℕ, T, replicate, take, set}
use Rattle.std.proofs.Math.Option.{none, some}
use Rattle.model.specs.Searches.{all}
use Rattle.model.specs.Plan.{Plan, bit, ceiling, valid_plan}
use Rattle.model.specs.Records.{Call, Create, Delay, Relinquish, Take, Give, Tick, Report, Ready, Switch, Won, Lost, Yield, Record, call, report, allowed}
use Rattle.model.specs.Timers.{lost, armed_at}
use Rattle.model.specs.Priorities.{greatest_hold, current, chosen}
use Rattle.model.specs.Calls.{create, tick, delay, relinquish, end, take as take_call, give, timing, switch}
use Rattle.model.specs.Rules.{broken}
use Rattle.model.specs.Runs.{Verdict, clean, breach, step, run, judge}

abbrev pub plan : (sections : ℕ) → (bases needs : List ℕ) → Plan
plan s bs ns = record { sections = s; bases = bs; needs = ns }

-- a call with the reports behind it
abbrev pub made : Call → List Report → List Record
made k rs = call k ∷ map report rs

-- a thread is created and runs at once
abbrev pub started : (thread : ℕ) → List Record
started t = made (Create t) (Ready t ∷ Switch (some t) ∷ [])

-- P1, run A: thread 0 takes section 0, thread 2 loses it, thread 0 gives
abbrev pub plan_a : Plan
plan_a = plan 1 (1 ∷ 2 ∷ 3 ∷ []) (1 ∷ 0 ∷ 1 ∷ [])

abbrev pub run_a : List Record
run_a =
    started 0 ++ made (Take 0) (Won 0 ∷ [])
    ++ started 2 ++ made (Take 0) (Lost 2 ∷ Switch (some 0) ∷ [])
    ++ made (Create 1) (Ready 1 ∷ [])
    ++ made (Give 0) (Won 2 ∷ Ready 2 ∷ Switch (some 2) ∷ [])

-- P3 to P7 and P12: one thread, no section
abbrev pub lone : Plan
lone = plan 0 (1 ∷ []) (0 ∷ [])

abbrev asleep1 : List Record
asleep1 = started 0 ++ made (Delay 1) (Switch none ∷ [])

abbrev pub p4 : List Record
p4 = asleep1 ++ made Tick [] ++ made Tick (Ready 0 ∷ Switch (some 0) ∷ [])

-- P8 and P9: one thread that needs every section there is
abbrev two_sections : Plan
two_sections = plan 2 (1 ∷ []) (3 ∷ [])

abbrev one_section : Plan
one_section = plan 1 (1 ∷ []) (1 ∷ [])

-- P10 and P14: threads of equal priority
abbrev pub pair : Plan
pair = plan 0 (1 ∷ 1 ∷ []) (0 ∷ 0 ∷ [])

abbrev three : Plan
three = plan 0 (1 ∷ 1 ∷ 1 ∷ []) (0 ∷ 0 ∷ 0 ∷ [])

abbrev p10 : List Record
p10 = started 0 ++ made (Create 1) (Ready 1 ∷ []) ++ made Relinquish (Yield 0 ∷ Switch (some 1) ∷ [])

-- P11: a free section under a ceiling
abbrev p11 : List Record
p11 = started 0 ++ made (Take 0) (Won 0 ∷ []) ++ started 1 ++ made (Take 1) (Lost 1 ∷ Switch (some 0) ∷ [])

-- P12: the Delay's bytes are 00 01, low byte first
abbrev p12 : List Record
p12 = started 0 ++ made (Delay 256) (Switch none ∷ []) ++ replicate 257 (call Tick) ++ map report (Ready 0 ∷ Switch (some 0) ∷ [])

-- P13: two threads wait, and the more urgent one wins first
abbrev pub plan13 : Plan
plan13 = plan 1 (1 ∷ 2 ∷ 3 ∷ []) (1 ∷ 1 ∷ 1 ∷ [])

abbrev pub p13 : List Record
p13 =
    started 0 ++ made (Take 0) (Won 0 ∷ [])
    ++ started 1 ++ made (Take 0) (Lost 1 ∷ Switch (some 0) ∷ [])
    ++ started 2 ++ made (Take 0) (Lost 2 ∷ Switch (some 0) ∷ [])
    ++ made (Give 0) (Won 2 ∷ Ready 2 ∷ Switch (some 2) ∷ [])
    ++ made (Give 0) (Won 1 ∷ Ready 1 ∷ [])
    ++ made (Take 0) (Lost 2 ∷ Switch (some 1) ∷ [])
    ++ made (Give 0) (Won 2 ∷ Ready 2 ∷ Switch (some 2) ∷ [])

-- P14: the higher number is delayed first, and both are due at one tick
abbrev pub p14 : List Record
p14 =
    started 1 ++ made (Create 0) (Ready 0 ∷ [])
    ++ made (Delay 1) (Switch (some 0) ∷ []) ++ made (Delay 1) (Switch none ∷ [])
    ++ made Tick [] ++ made Tick (Ready 1 ∷ Ready 0 ∷ Switch (some 1) ∷ [])

-- the same with thread 1 delayed at an earlier tick number
abbrev pub p14_earlier : List Record
p14_earlier =
    started 1 ++ made (Create 0) (Ready 0 ∷ [])
    ++ made (Delay 2) (Switch (some 0) ∷ []) ++ made Tick [] ++ made (Delay 1) (Switch none ∷ [])
    ++ made Tick [] ++ made Tick (Ready 1 ∷ Ready 0 ∷ Switch (some 1) ∷ [])

-- and with three threads, of which 2 and 0 share a tick
abbrev pub p14_three : List Record
p14_three =
    started 2 ++ made (Create 1) (Ready 1 ∷ []) ++ made (Create 0) (Ready 0 ∷ [])
    ++ made (Delay 2) (Switch (some 1) ∷ []) ++ made (Delay 1) (Switch (some 0) ∷ []) ++ made (Delay 2) (Switch none ∷ [])
    ++ made Tick [] ++ made Tick (Ready 1 ∷ Switch (some 1) ∷ []) ++ made Tick (Ready 2 ∷ Ready 0 ∷ [])

-- `P10-cut` is P10 without its last record
pub data Label : Type 0 where
  P1 P2 P3 P4 P5 P6 P7 P8 P9 P10 P10-cut P11 P12 P13 P14 P14-earlier P14-three : Label

pub record Run : Type 0 where
  pub label : Label
  pub of : Plan
  pub records : List Record
  pub verdict : Verdict

abbrev known : Label → Plan → List Record → Verdict → Run
known l p rs v = record { label = l; of = p; records = rs; verdict = v }

abbrev pub runs : List Run
runs =
    known P1 plan_a run_a (clean 17 0)
    ∷ known P2 plan_a (set run_a 10 (report (Switch (some 1)))) (breach 10 30)
    ∷ known P3 lone [] (clean 0 0)
    ∷ known P4 lone p4 (clean 9 0)
    ∷ known P5 lone (asleep1 ++ made Tick (Ready 0 ∷ [])) (breach 6 28)
    ∷ known P6 lone (take 7 p4 ++ made Tick []) (clean 8 2)
    ∷ known P7 lone (started 0 ++ made Relinquish []) (clean 4 0)
    ∷ known P8 two_sections (started 0 ++ made (Take 0) (Won 0 ∷ []) ++ made (Take 1) (Won 0 ∷ []) ++ made (Give 0) []) (breach 7 27)
    ∷ known P9 one_section (started 0 ++ made (Take 0) (Won 0 ∷ []) ++ made (Delay 1) []) (breach 5 24)
    ∷ known P10 pair p10 (clean 8 0)
    ∷ known P10-cut pair (take 7 p10) (clean 7 1)
    ∷ known P11 (plan 2 (1 ∷ 2 ∷ []) (1 ∷ 3 ∷ [])) p11 (clean 11 0)
    ∷ known P12 lone p12 (clean 264 0)
    ∷ known P13 plan13 p13 (clean 31 0)
    ∷ known P14 pair p14 (clean 14 0)
    ∷ known P14-earlier pair p14_earlier (clean 15 0)
    ∷ known P14-three three p14_three (clean 20 0)
    ∷ []

-- a run's name with a verdict
pub record Judged : Type 0 where
  pub label : Label
  pub verdict : Verdict

abbrev stated : Run → Judged
stated r = record { label = r.label; verdict = r.verdict }

abbrev judged : Run → Judged
judged r = record { label = r.label; verdict = judge r.of r.records }

-- Every known run has the verdict that the documents give it.
pub known_runs : map judged runs ≡ map stated runs
unfolding judge run step broken create tick delay relinquish end take_call give timing lost armed_at switch chosen current greatest_hold bit ceiling
known_runs = refl

-- The questions 1 to 4 and 8 pass them all.
pub known_runs_allowed : T (all (λ (r : Run). valid_plan r.of && all (allowed r.of) r.records) runs)
unfolding valid_plan
known_runs_allowed = tt
