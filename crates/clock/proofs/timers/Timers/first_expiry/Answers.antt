-- `Timers::first_expiry` meets its contract: a timer that is armed expires above the tick number, so not at 0, and soon enough that no sum is too great.
use mathlib.Core.Path.{◌≡◌, ap, sym, ◌∙◌}
use mathlib.Core.Logic.{◌⊎◌, inl, inr}
use mathlib.Core.Bool.{Bool, true, false}
use mathlib.Core.Option.{none, some}
use Prim.Native.Nat.{ℕ, ◌+◌, ◌*◌, ◌≤◌, ◌<◌}
use native.Mathlib.Omega.{arith}
use borrow.Author.Tests.{ltb-true, ltb-false, lt-ltb, le-ltb}
use Rattle.std.proofs.Common.{is_lt, nat_cmp, rules}
use Rattle.std.proofs.Math.Bool.{or-true}
use lib.Dec.{ltb}
use Rattle.model.specs.Timers.{timer, start_given, lost, armed_at}
use Rattle.model.proofs.Laws.{armed_soon}
use Rattle.model.proofs.Tests.{equal?}
use Rattle.clock.specs.declared.timers.Timers.{Timers}
use Rattle.clock.specs.View.{view}
use Rattle.clock.specs.Clauses.{Comes}
use Rattle.clock.proofs.Stages.{start_kept}
use Rattle.clock.proofs.timers.Timers.first_expiry.Goals as goal

before : (k s : ℕ) → is_lt (nat_cmp k s) ≡ ltb k s
before k s = search rules

-- the timer is armed where its start is above the tick number, or it has a period
by_tests : (b : Bool) (k s n : ℕ) → b ≡ is_lt (nat_cmp k s) → (b ≡ true) ⊎ ((b ≡ false) × (0 < n)) → (k < s) ⊎ (0 < n)
by_tests b k s n e (inl t) = inl (ltb-true k s (sym (before k s) ∙ sym e ∙ t))
by_tests b k s n e (inr p) = inr p.1

-- the sum of start and periods
module _ (t : Timers) (k n : ℕ) (c : Comes t 2) (h : t.arming.start ≤ 65535) (l : n ≤ 65535) where
  abbrev start : ℕ
  start = t.arming.start

  module _ (count : ℕ) (e : count ≡ lost k (start_given (view t).arming) n) where
    counted : start + count * n ≡ start + lost k start n * n
    counted = ap (λ j. start + j * n) (e ∙ ap (λ s. lost k s n) (start_kept t c))

    -- soon enough also where nothing is armed: then there is no period
    sum-soon : start + count * n ≤ k + 65535
    sum-soon = elim (equal? n 0) [ inl z ↦ rw z (omega (arith, h)) | inr d ↦ omega (arith, counted, (armed_soon k start n h l (inr (omega (arith, d)))).soon) ]

    sum-later : (k < start) ⊎ (0 < n) → k < start + count * n
    sum-later w = omega (arith, counted, (armed_soon k start n h l w).later)

    armed-slot : (k < start) ⊎ (0 < n) → (expiry : ℕ) → expiry ≡ start + count * n → some (timer expiry n) ≡ armed_at k (start_given (view t).arming) n
    unfolding armed_at
    armed-slot w expiry q = rw (start_kept t c) (ap (λ x. some (timer x n)) (q ∙ counted) ∙ sym (go w))
      where
        go : (k < start) ⊎ (0 < n) → armed_at k start n ≡ some (timer (start + lost k start n * n) n)
        go (inl i) = rw (lt-ltb k start i)
        go (inr i) = rw (lt-ltb 0 n i, or-true (ltb k start))

  -- an alarm too late
  late_slot : start ≤ k → n ≤ 0 → none ≡ armed_at k (start_given (view t).arming) n
  unfolding armed_at
  late_slot i j = rw (start_kept t c, le-ltb k start i, le-ltb 0 n j)

module _ (c : goal.After-lost-count) where
  soon : let a = c.args in a.self.arming.start + c.lost-count.result * a.period ≤ a.now.0 + 65535
  soon = let a = c.args in sum-soon a.self a.now.0 a.period c.requires.0 (omega arith) (omega arith) c.lost-count.result c.lost-count.ensures

pub overflow_mul-count : goal.overflow_mul-count
overflow_mul-count c = omega (arith, c.requires.1, soon c)

pub plus-requires : goal.plus-requires
plus-requires c = omega (arith, c.requires.1, soon c)

pub returns-then-lt-clause-slot : goal.returns-then-lt-clause-slot
returns-then-lt-clause-slot c =
    let a = c.args in
    armed-slot a.self a.now.0 a.period c.requires.0 (omega arith) (omega arith) c.lost-count.result c.lost-count.ensures
    (by_tests _ _ _ _ c.lt.ensures c.then-lt.either) c.plus.result.0 c.plus.ensures

pub returns-then-lt-clause-later : goal.returns-then-lt-clause-later
returns-then-lt-clause-later c =
    let a = c.args in
    let later = sum-later a.self a.now.0 a.period c.requires.0 (omega arith) (omega arith) c.lost-count.result c.lost-count.ensures (by_tests _ _ _ _ c.lt.ensures c.then-lt.either) in
    omega (arith, later, c.plus.ensures)

pub returns-clause-slot : goal.returns-clause-slot
returns-clause-slot c =
    let a = c.args in
    let start : a.self.arming.start ≤ a.now.0 = ltb-false a.now.0 a.self.arming.start (sym (before a.now.0 a.self.arming.start) ∙ sym c.lt.ensures ∙ c.if-lt.false) in
    late_slot a.self a.now.0 a.period c.requires.0 (omega arith) (omega arith) start (omega arith)
