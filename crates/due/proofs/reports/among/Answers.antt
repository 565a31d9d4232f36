-- `among` meets its contract: what the library says of `any`, in the model's words.
use mathlib.Core.Path.{◌≡◌, refl, ap, ◌∙◌}
use mathlib.Core.Bool.{Bool, ◌&&◌, ◌||◌}
use mathlib.Core.List.{List, [], ◌∷◌}
use lib.Dec.{eqb}
use Rattle.std.proofs.Common.{rules, tests}
use Rattle.std.specs.List.{list_any}
use Rattle.std.proofs.lemmas.Iterator.{YieldsList-from_slice}
use Rattle.std.proofs.lemmas.Iterator.Search.{any_from_yields_List}
use Rattle.model.specs.Searches.{any}
use Rattle.due.specs.declared.reports.Report.{Report}
use Rattle.due.specs.Lists.{kind_number}
use Rattle.due.proofs.reports.among.Goals as goal

same_any : (f : Report → Bool) (l : List Report) → list_any f l ≡ any f l
same_any f [] = refl
same_any f (r ∷ l) = ap (λ b. f r || b) (same_any f l)

pub returns : goal.returns
returns c =
    let f : Report → Bool = λ r. eqb r.kind (kind_number c.args.kind) && eqb r.operand c.args.who in
    any_from_yields_List f _ _ _ c.any.ensures.ran (YieldsList-from_slice c.args.due.now cc) (λ x b q k. search (rules, tests))
    ∙ same_any f c.args.due.now
