-- `Machine::chosen` meets its contract: the parts it passes on are read from the state that the machine stands for.
use mathlib.Core.Path.{ap, ◌∙◌}
use mathlib.Core.List.{[]}
use Rattle.lists.specs.Lists.{numbered, thread_of}
use Rattle.machine.proofs.Chosen.{chosen_by, chosen_same, queue_positive}
use Rattle.machine.proofs.Machine.chosen.Goals as goal
use Rattle.machine.proofs.Machine.chosen.Goals.{After-chosen_of-arg-1}

pub chosen_of-requires : goal.chosen_of-requires
chosen_of-requires c =
    let n = c.requires.listed.counts in
    (n.queue', n.waits', queue_positive c.args.self.plan c.requires.valid c.requires.listed)

pub returns : goal.returns
returns c =
    let m = c.args.self in
    c.chosen_of.ensures ∙ ap numbered (chosen_same m.plan.bases c.requires.listed (thread_of m.holds.top.owner) ∙ chosen_by m c.requires.keeps [])
