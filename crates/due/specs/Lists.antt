-- The reports of the model that the code's array stands for. Of the array only the first `count` entries are in use.
use Rattle.std.specs.Prelude.{◌≡◌, cond, List, [], ◌∷◌, ◌++◌, map, ℕ, ◌+◌, ◌≤◌, ◌<◌, eqb, length, get_or, drop}
use Rattle.model.specs.Searches.{up_to}
use Rattle.model.specs.Records.{Ready, Switch, Won, Lost, Yield, Expire, Late, nobody, operand_number, operand_thread}
use Rattle.model.specs.Records as records
use Rattle.model.specs.Timers.{Timers, expired}
use Rattle.model.specs.State.{without_switch}
use Rattle.due.specs.declared.reports.Kind.{Kind}
use Rattle.due.specs.declared.reports.Report.{Report}
use Rattle.due.specs.declared.reports.Reports.{Reports}
use Rattle.due.specs.declared.made.Made.{Made}
pub use Rattle.lists.specs.Lists.{numbered, thread_of}

-- room for the reports of sixteen threads and eight timers, and a Switch
abbrev pub report_room : ℕ
report_room = 25

-- the papers' numbers for the kinds
abbrev pub kind_number : Kind → ℕ
kind_number Kind.Ready = 16
kind_number Kind.Switch = 17
kind_number Kind.Won = 18
kind_number Kind.Lost = 19
kind_number Kind.Yield = 20
kind_number Kind.Expire = 21
kind_number Kind.Late = 22

-- kinds by the papers' numbers; any other number stands for the report of a thread that no plan has
abbrev pub report_of : Report → records.Report
report_of r =
    cond (eqb r.kind 16) (Ready r.operand)
    (cond (eqb r.kind 17) (Switch (operand_thread r.operand))
    (cond (eqb r.kind 18) (Won r.operand)
    (cond (eqb r.kind 19) (Lost r.operand)
    (cond (eqb r.kind 20) (Yield r.operand) (cond (eqb r.kind 21) (Expire r.operand) (cond (eqb r.kind 22) (Late r.operand) (Yield nobody)))))))

-- a report of one of the papers' kinds
pub record IsReport (r : Report) : Type 0 where
  pub least : 16 ≤ r.kind
  pub most : r.kind ≤ 22

abbrev pub no_report : Report
no_report = record { kind = 0; spare = 0; operand = 0 }

-- the Switch to a thread by its number
abbrev pub switch_to : (thread : ℕ) → Report
switch_to t = record { kind = 17; spare = 0; operand = operand_number (thread_of t) }

-- the report of a kind that names a thread or timer
abbrev pub report_by : (kind who : ℕ) → records.Report
report_by kind who = report_of (record { kind = kind; spare = 0; operand = who })

-- so many reports, by their places
abbrev pub listed : (at : ℕ → Report) (count : ℕ) → List records.Report
listed at n = map (λ i. report_of (at i)) (up_to n)

abbrev pub owed : Reports → List records.Report
owed rs = listed (λ i. get_or rs.items i no_report) rs.count

-- what a call other than Tick makes due: these reports, at most two
pub record Tells (made : Made) (due : List records.Report) : Type 0 where
  pub few : made.count ≤ 2
  pub listed' : listed (λ i. get_or (made.first ∷ made.second ∷ []) i no_report) made.count ≡ due

-- the reports of the array are those that the call made due
pub record Stores (rs : Reports) (made : Made) : Type 0 where
  pub stored : (due : List records.Report) → Tells made due → owed rs ≡ due

-- what a Tick leaves due before its Switch, of these reports due: see model, Calls.tick
abbrev pub after_tick : (due : List records.Report) (number : ℕ) → Timers → (woken : List ℕ) → List records.Report
after_tick due n ts woken = without_switch due ++ (map Expire (expired n due ts) ++ map Ready woken)

-- what it asks: a tick number from 1 on, reports due that are in the array, and room for those that it adds
pub record TickFits (rs : Reports) (given number : ℕ) (ts : Timers) (woken : ℕ) : Type 0 where
  pub later : 0 < number
  pub in_array : given < rs.count → rs.count ≤ report_room
  pub few : woken ≤ 16
  pub room : length (without_switch (drop given (owed rs))) + length (expired number (drop given (owed rs)) ts) + woken ≤ report_room
