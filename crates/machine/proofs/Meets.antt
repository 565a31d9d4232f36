-- What the proofs of the calls share: two states that remember the same are equal, there are as many reports as the list of them has, and those stored are
-- those that the call made.
use mathlib.Core.Path.{◌≡◌, ap, sym, subst, ◌∙◌}
use mathlib.Core.List.{List, [], ◌∷◌}
use lib.ListN.{length}
use Rattle.model.specs.State.{State}
use Rattle.model.specs.Records as records
use Rattle.due.specs.declared.reports.Reports.{Reports}
use Rattle.due.specs.declared.made.Made.{Made}
use Rattle.due.specs.Lists.{owed, Tells, Stores}
use Rattle.due.proofs.Laws.{length-owed}

-- two states that remember the same are equal
pub alike : {a b : State} → a.tick_number ≡ b.tick_number → a.conditions ≡ b.conditions → a.queue ≡ b.queue → a.holds ≡ b.holds → a.waits ≡ b.waits → a.delays ≡ b.delays → a.reported ≡ b.reported → a.due ≡ b.due → a.timers ≡ b.timers → a ≡ b
alike n cs q hs ws zs w ds ts = λ i. record { tick_number = n i; conditions = cs i; queue = q i; holds = hs i; waits = ws i; delays = zs i; reported = w i; due = ds i; timers = ts i }

-- there are as many reports as the list of them has
pub owed_count : (rs : Reports) {l : List records.Report} → owed rs ≡ l → rs.count ≡ length l
owed_count rs e = sym (length-owed rs) ∙ ap length e

-- what a call makes due is stored in an array of its own
abbrev pub array_of : Made → Reports
array_of made = record { items = made.first ∷ made.second ∷ []; count = made.count }

pub stores_own : (made : Made) → Stores (array_of made) made
stores_own made = record { stored = λ due t. t.listed' }

-- the reports stored are those that the call made on the way that it came
pub told : {rs : Reports} {made way : Made} {due : List records.Report} → Stores rs made → made ≡ way → Tells way due → owed rs ≡ due
told {due = due} s e t = s.stored due (subst (λ (x : Made). Tells x due) (sym e) t)
