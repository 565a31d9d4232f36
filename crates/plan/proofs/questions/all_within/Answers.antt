-- `all_within` meets its contract: an array of sixteen is in use as a whole.
use Rattle.std.proofs.Common.{◌≡◌, ◌&&◌, length, true, rules, tests, ap, ◌∙◌}
use mathlib.Core.Path.{sym}
use Rattle.std.proofs.lemmas.Iterator.{YieldsList-from_slice}
use Rattle.std.proofs.lemmas.Iterator.Consumers.{fold_from_yields_List}
use Rattle.model.specs.Searches.{all}
use Rattle.plan.specs.Bytes.{needs_within}
use Rattle.plan.proofs.Entries.{all_folded, in_use_all}
use Rattle.plan.proofs.questions.all_within.Goals as goal

pub returns : goal.returns
returns c =
    let size : length c.args.needs ≡ 16 = search rules in
    fold_from_yields_List _ (λ pass needs. pass && needs_within c.args.sections needs) true _ c.fold.ensures.ran (YieldsList-from_slice c.args.needs cc) (λ a x b q k. search (rules, tests))
    ∙ all_folded (needs_within c.args.sections) true c.args.needs
    ∙ ap (all (needs_within c.args.sections)) (sym (in_use_all 16 c.args.needs size))
