-- `is_rule` meets its contract: the tests are asked in the definition's order.
use borrow.Author.Tests.{le-leb, lt-leb, eq-eqb, ne_eqb}
use Rattle.live.proofs.live.is_rule.Goals as goal

pub returns-then-rule-eq0 : goal.returns-then-rule-eq0
returns-then-rule-eq0 c = rw (eq-eqb c.args.rule 0 c.if-rule-eq0.true)

pub returns-then-rule-ge21 : goal.returns-then-rule-ge21
returns-then-rule-ge21 c =
    let n = c.args.rule in
    rw (ne_eqb n 0 c.if-rule-eq0.false, le-leb 21 n c.if-rule-ge21.true)

pub returns-else-rule-ge21 : goal.returns-else-rule-ge21
returns-else-rule-ge21 c =
    let n = c.args.rule in
    rw (ne_eqb n 0 c.if-rule-eq0.false, lt-leb 21 n c.if-rule-ge21.false)
