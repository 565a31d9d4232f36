-- `has_needs` meets its contract: what passes is what was read from the bytes.
use mathlib.Core.Path.{ap, ap₂, ◌∙◌}
use Rattle.model.specs.Searches.{all}
use Rattle.plan.specs.Bytes.{section_count, needs_within}
use Rattle.plan.specs.View.{in_use}
use Rattle.plan.proofs.bytes.has_needs.Goals as goal

pub returns : goal.returns
returns c =
    let s = section_count c.args.bytes.now in
    c.needs_pass.ensures
    ∙ ap₂ (λ n s. all (needs_within s) (in_use n c.needs_of-needs.result)) c.byte_at.ensures c.byte_at-2.ensures
    ∙ ap (all (needs_within s)) c.needs_of-needs.ensures
