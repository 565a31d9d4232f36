-- `Holds::last_taken` meets its contract: what `find` returns is the first hold of the thread, whose section is the one taken last.
use mathlib.Core.Path.{refl, ap, sym, ◌∙◌}
use mathlib.Core.Option.{none, some}
use borrow.Author.Rules.{rules}
use Rattle.std.specs.Prelude.{Some, None}
use Rattle.model.specs.Rules.{last_taken}
use Rattle.lists.specs.Lists.{numbered, hold_of, held_in}
use Rattle.lists.proofs.Holdings.{is_of_thread}
use Rattle.lists.proofs.Chains.{find_of}
use Rattle.lists.proofs.holds.Holds.last_taken.Goals as goal

pub returns-in-Some : goal.returns-in-Some
returns-in-Some c =
    let t = c.args.thread in
    let e = find_of hold_of (λ s. held_in s.left s.sections s.threads) (is_of_thread t) (λ l. last_taken l t) none (λ h. some h.section) c.find.new.self (Some c.in-Some.h) c.in-Some.ensures.ran (λ x b h k. search rules) refl (λ b l k. rw k) (λ b l k. rw k) in
    ap numbered (sym e ∙ ap (λ l. last_taken l t) c.iter.ensures)

pub returns-in-None : goal.returns-in-None
returns-in-None c =
    let t = c.args.thread in
    let e = find_of hold_of (λ s. held_in s.left s.sections s.threads) (is_of_thread t) (λ l. last_taken l t) none (λ h. some h.section) c.find.new.self None c.in-None.ensures.ran (λ x b h k. search rules) refl (λ b l k. rw k) (λ b l k. rw k) in
    ap numbered (sym e ∙ ap (λ l. last_taken l t) c.iter.ensures)
