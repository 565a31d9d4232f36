-- `has_priorities` meets its contract: what passes is what was read from the bytes.
use mathlib.Core.Path.{ap, ◌∙◌}
use Rattle.model.specs.Searches.{all}
use Rattle.plan.specs.Bytes.{is_priority}
use Rattle.plan.specs.View.{in_use}
use Rattle.plan.proofs.bytes.has_priorities.Goals as goal

pub returns : goal.returns
returns c =
    let bases = c.bases_of-bases.result in
    c.bases_pass.ensures ∙ ap (λ n. all is_priority (in_use n bases)) c.byte_at.ensures ∙ ap (all is_priority) c.bases_of-bases.ensures
