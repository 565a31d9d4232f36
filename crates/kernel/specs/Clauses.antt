-- What the bench kernel's parts ask and answer.
use Rattle.std.specs.Prelude.{◌≡◌, true, List, [], ◌∷◌, map, ℕ, ◌+◌, ◌*◌, ◌/◌, ◌%◌, ◌≤◌, T, length, set, Some, None}
use Rattle.std.specs.Prelude as code
use Rattle.std.proofs.Math.Option.{Option, none, some}
use Rattle.model.specs.Searches.{up_to}
use Rattle.model.specs.Plan.{valid_plan, ceiling}
use Rattle.model.specs.Records.{Record, report}
use Rattle.model.specs.Formed.{formed}
use Rattle.model.specs.Bench.{deliver_all, bench, calls_of}
use Rattle.plan.specs.View as plans
use Rattle.plan.specs.declared.Plan.{Plan}
use Rattle.machine.specs.View.{plan_of, view}
use Rattle.machine.specs.declared.state.State.{State}
use Rattle.dump.specs.Layout.{record_count, decode, kind_of, operand_of}
use Rattle.dump.specs.Questions as dumps
use Rattle.dump.specs.Questions.{most_records}
use Rattle.kernel.specs.declared.write.Placed.{Placed}
use Rattle.kernel.specs.Answers.{is_made, records_of, bytes_for}

-- what a run over the calls asks: a plan that passes, with its ceilings, and a call list of n calls that passes
pub record Passed (p : Plan) (ceilings list : List ℕ) (n : ℕ) : Type 0 where
  pub valid : T (valid_plan (plans.view p))
  pub ceilings' : ceilings ≡ map (ceiling (plans.view p)) (up_to 16)
  pub passes : dumps.refusal p.threads p.sections true list ≡ none
  pub count : n ≡ record_count list

-- the same as `made` of Answers, for the plan that the code has read
abbrev pub made_of : Plan → (list : List ℕ) → Option (List Record)
made_of p list = bench (plans.view p) (calls_of (decode list))

-- every report due is given
pub record Settles (r s : State) : Type 0 where
  pub plan' : r.machine.plan ≡ s.machine.plan
  pub holds' : r.machine.holds ≡ s.machine.holds
  pub seen : view r ≡ deliver_all (view s)

-- how many records there are; none where a call is not admitted
abbrev pub tally_of : Option (List Record) → code.Option ℕ
tally_of none = None
tally_of (some rs) = Some (length rs)

-- record i, of this kind and operand: its kind behind N, its operand at the running place
abbrev pub record_put : (i running kind operand : ℕ) → List ℕ → List ℕ
record_put i running k x out = set (set (set out (2 + i) k) running (x % 256)) (running + 1) (x / 256)

-- some records, the first of them as record i
abbrev pub records_put : (i running : ℕ) → List Record → List ℕ → List ℕ
records_put i running [] out = out
records_put i running (r ∷ rs) out = records_put (i + 1) (running + 2) rs (record_put i running (kind_of r) (operand_of r) out)

-- a well-formed state, and room for the kinds and the operands of its reports from record i on
pub record ReportsFit (s : State) (i running : ℕ) (out : List ℕ) : Type 0 where
  pub formed' : T (formed (plan_of s.machine) (view s))
  pub kinds : 2 + i + length (view s).due ≤ length out
  pub operands : running + 2 * length (view s).due ≤ length out

-- every report due is given, and stands at its place, the first as record i
pub record Places (r : Placed) (s : State) (i running : ℕ) (before after : List ℕ) : Type 0 where
  pub settles : Settles r.state s
  pub records' : r.records ≡ i + length (view s).due
  pub running' : r.running ≡ running + 2 * length (view s).due
  pub bytes : after ≡ records_put i running (map report (view s).due) before

-- every call is admitted, there are n records in all, and there is room for them
pub record AllFit (rs : Option (List Record)) (n : ℕ) (out : List ℕ) : Type 0 where
  pub admitted : T (is_made rs)
  pub count : n ≡ length (records_of rs)
  pub few : n ≤ most_records
  pub room : bytes_for n ≤ length out
