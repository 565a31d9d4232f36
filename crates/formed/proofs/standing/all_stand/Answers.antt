-- `all_stand` meets its contract: the words count what stands in the waits, and with them in the queue and in the order of Delays; the tests tell it of every thread.
use mathlib.Core.Path.{◌≡◌, sym, ◌∙◌}
use mathlib.Core.Logic.{inl, inr}
use mathlib.Core.Bool.{Bool, false}
use Prim.Native.Nat.{ℕ, ◌+◌, ◌≤◌, ◌<◌}
use native.Mathlib.Omega.{arith}
use borrow.Author.Rules.{rules}
use borrow.Author.Tests.{eq-eqb, ne_eqb}
use lib.Dec.{T, eqb, T_not}
use lib.Bits.{bit_and}
use Rattle.model.specs.Formed.{times}
use Rattle.model.proofs.Tests.{split, is_true, is_false}
use Rattle.lists.specs.Words.{nibble}
use Rattle.lists.specs.Lists.{queued}
use Rattle.lists.proofs.Laws.{zero_nibble, times_within}
use Rattle.formed.specs.Clauses.{all_stand}
use Rattle.formed.proofs.Bits.{Counting, all_standing, no_high, odds_are, halves_are, both_are}
use Rattle.formed.proofs.standing.all_stand.Goals as goal
use Rattle.formed.proofs.standing.all_stand.Goals.{After-marks-next, After-marks-waiting, Else-states-lowest, Else-states-ne0, Start}

-- what the waits' word counts leaves room for another list
fits : (c : goal.Start) (waiting count : ℕ) → let a = c.args in
    count + a.waits.count < 16 → ((t : ℕ) → t < 16 → nibble waiting t ≡ nibble 0 t + times (λ u. eqb u t) (queued a.waits)) → (count ≤ 16) × ((t : ℕ) → t < 16 → nibble waiting t + count < 16)
fits c waiting count k e =
    let a = c.args in
    (omega (arith, k), λ t h. omega (arith, k, e t h, zero_nibble t, times_within (λ u. eqb u t) a.waits.count a.waits.items))

pub marks-waiting-requires : goal.marks-waiting-requires
marks-waiting-requires c = (omega (arith, c.requires.0), λ t h. omega (arith, c.requires.0, zero_nibble t))

pub marks-lowest-requires : goal.marks-lowest-requires
marks-lowest-requires c = fits (goal.at.marks-lowest-requires c).Start c.marks-waiting.result c.args.queue.count c.requires.0 c.marks-waiting.ensures

pub marks-next-requires : goal.marks-next-requires
marks-next-requires c = fits (goal.at.marks-next-requires c).Start c.marks-waiting.result c.args.delays.count c.requires.1 c.marks-waiting.ensures

-- the words, and the lists that they count
module _ (c : goal.After-marks-next) where
  abbrev start : goal.Start
  start = c.before.before.before

  abbrev words : Counting (queued start.args.queue) (queued start.args.waits) (queued start.args.delays)
  words =
      record {
        waiting = c.marks-waiting.result;
        lowest = c.marks-lowest.result;
        next = c.marks-next.result;
        waiting' = λ t h. omega (arith, c.marks-waiting.ensures t h, zero_nibble t);
        lowest' = c.marks-lowest.ensures;
        next' = c.marks-next.ensures;
        fit = (search rules, search rules, search rules);
      }

  abbrev answer : Bool
  answer = all_stand start.args.states (queued start.args.queue) (queued start.args.waits) (queued start.args.delays)

  -- where not all stand so, the answer is No
  no-unless : (T answer → ⊥) → false ≡ answer
  no-unless f = elim (split answer) [ inl a ↦ absurd (f a) | inr b ↦ sym (is_false answer b) ]

pub returns-then-states-ne0 : goal.returns-then-states-ne0
returns-then-states-ne0 c = no-unless (goal.at.returns-then-states-ne0 c).After-marks-next (λ a. c.if-states-ne0.true (no_high (start (goal.at.returns-then-states-ne0 c).After-marks-next).args.states (words (goal.at.returns-then-states-ne0 c).After-marks-next) a))

pub returns-then-states-lowest : goal.returns-then-states-lowest
returns-then-states-lowest c = no-unless (goal.at.returns-then-states-lowest c).After-marks-next (λ a. c.if-states-lowest.true (odds_are (start (goal.at.returns-then-states-lowest c).After-marks-next).args.states (words (goal.at.returns-then-states-lowest c).After-marks-next) a))

pub returns-then-states-next : goal.returns-then-states-next
returns-then-states-next c = no-unless (goal.at.returns-then-states-next c).After-marks-next (λ a. c.if-states-next.true (halves_are (start (goal.at.returns-then-states-next c).After-marks-next).args.states (words (goal.at.returns-then-states-next c).After-marks-next) a))

pub returns : goal.returns
returns c =
    let s = (start (goal.at.returns c).After-marks-next).args.states in
    let waiting = c.marks-waiting.result in
    let both = bit_and c.marks-lowest.result c.marks-next.result in
    elim (split (answer (goal.at.returns c).After-marks-next)) [
      | inl a ↦ eq-eqb both waiting (both_are s (words (goal.at.returns c).After-marks-next) a) ∙ sym (is_true (answer (goal.at.returns c).After-marks-next) a)
      | inr b ↦ ne_eqb both waiting (λ e. T_not (answer (goal.at.returns c).After-marks-next) b (all_standing s (words (goal.at.returns c).After-marks-next) c.if-states-ne0.false c.if-states-lowest.false c.if-states-next.false e)) ∙ sym (is_false (answer (goal.at.returns c).After-marks-next) b)
    ]
