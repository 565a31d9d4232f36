-- What other crates may cite of the machine. A state is known by the plan that it carries and the model's state that it stands for; of its numbers
-- and arrays only what reading a lent state and its reports asks.
use mathlib.Core.Path.{◌≡◌, ap, sym, ◌∙◌}
use mathlib.Core.List.{List, map}
use Prim.Native.Nat.{ℕ, ◌≤◌}
use lib.Dec.{T}
use lib.ListN.{get_or}
use Rattle.model.specs.Searches.{up_to}
use Rattle.model.specs.Plan as model
use Rattle.model.specs.Formed.{last_tick, arming_in_range, formed_machine, formed}
use Rattle.model.proofs.Laws.{Reached, Standing, WellFormed, well_standing, well_formed, reached_formed}
use Rattle.plan.specs.View as plans
use Rattle.plan.specs.declared.Plan.{Plan}
use Rattle.clock.specs.View as timing
use Rattle.machine.specs.declared.Machine.{Machine}
use Rattle.machine.specs.declared.state.State.{State}
use Rattle.machine.specs.declared.reporting.Reporting.{Reporting}
use Rattle.due.specs.Lists.{no_report}
use Rattle.machine.specs.View.{plan_of, idle, view, report_at, shown}
use Rattle.machine.specs.Kept.{kept}
use Rattle.machine.specs.Clauses.{Counts, Ceilings, Chooses}
use Rattle.machine.proofs.Views.{sized}
use Rattle.machine.proofs.Facts.{facts}
use Rattle.machine.proofs.Chosen.{listed}
use Rattle.machine.proofs.Owing.{unowed}
use Rattle.machine.proofs.Room.{delays_fit_lem}
-- which condition a number names, and that of a thread of the plan
pub use Rattle.machine.proofs.Conditions.{at_none, by_state}
pub use Rattle.machine.proofs.Views.{condition_at}
-- what is kept says the same where neither plan nor holds have changed
pub use Rattle.machine.proofs.Keeping.{keeps_on}
-- read from the ceilings made once, the ceilings of holds are the model's
pub use Rattle.machine.proofs.Chosen.{ceilings_are}
-- a state opened to be moved on from stands for the same state of the model
pub use Rattle.machine.proofs.Opening.{opened_shown, opened_stands}
-- an answer whose number is not 0 names a rule
pub use Rattle.machine.proofs.Answered.{err_of}
-- the place of a record by its kind; a record moves as in the model, or its rule is answered: what is answered of a record that is heard, of a report with
-- nothing due, and of a Tick at which nothing happens
pub use Rattle.machine.proofs.Questions.{named_place}
pub use Rattle.machine.proofs.Judged.{answers_moved, answers_broke, unasked_answers, heard_answers}
pub use Rattle.machine.proofs.Outcomes.{passed_answers}
pub use Rattle.machine.proofs.Still.{still_moves}

-- a state that stands for one that a run reaches is well formed, up to the last tick number
pub stands_formed : (s : State) → T (model.valid_plan (plan_of s.machine)) → Reached (plan_of s.machine) (view s) → (view s).tick_number ≤ last_tick → T (formed (plan_of s.machine) (view s))
stands_formed s v r k = reached_formed (plan_of s.machine) v (view s) r k

-- what a well-formed state tells, in the model's words
pub formed_facts : (s : State) → T (formed (plan_of s.machine) (view s)) → WellFormed (plan_of s.machine) (view s)
formed_facts s f = well_formed (plan_of s.machine) (view s) (sized s.machine) f

-- and a well-formed machine, whatever is due
pub machine_facts : (m : Machine) → T (formed_machine (plan_of m) (idle m)) → Standing (plan_of m) (idle m)
machine_facts m f = well_standing (plan_of m) (idle m) (sized m) f

-- its lists are within their words

pub counts_within : (m : Machine) → T (formed_machine (plan_of m) (idle m)) → Counts m.queue m.holds m.waits
counts_within m f = (listed (facts {m = m} (record { passes = f }))).counts

pub delays_within : (m : Machine) → T (formed_machine (plan_of m) (idle m)) → m.delays.count ≤ 16
delays_within m f = delays_fit_lem (facts {m = m} (record { passes = f }))

pub lent_delays : (s : State) → T (formed (plan_of s.machine) (view s)) → s.machine.delays.count ≤ 16
lent_delays s f = delays_fit_lem (facts (unowed s.machine (λ i. get_or s.due.items i no_report) s.due.count s.given f))

-- an arming in progress in a well-formed state is of one of the eight timers
pub arming_known : (c : Reporting) → T (formed (plan_of c.machine) (shown c)) → T (arming_in_range (timing.view c.machine.timers).arming)
arming_known c f = (facts (unowed c.machine (report_at c) c.due c.given f)).arming

-- of a well-formed machine with the owner kept the chosen thread can be asked for
pub asks_chosen : (m : Machine) → T (formed_machine (plan_of m) (idle m)) → T (kept m) → Chooses m
asks_chosen m f t = let k = facts {m = m} (record { passes = f }) in record { valid = k.valid; listed = listed k; keeps = t }

-- the ceilings made once of a plan are those that every state carrying it asks for
pub ceilings_of : (m : Machine) (p : Plan) (ceilings : List ℕ) → m.plan ≡ p → ceilings ≡ map (model.ceiling (plans.view p)) (up_to 16) → Ceilings m ceilings
ceilings_of m p ceilings e c = c ∙ ap (λ (q : Plan). map (model.ceiling (plans.view q)) (up_to 16)) (sym e)
