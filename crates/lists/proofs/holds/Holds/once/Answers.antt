-- `Holds::once` meets its contract: whether a section of the plan is noted, and how often it is left, is how often it is held.
use mathlib.Core.Path.{◌≡◌, refl, ap, sym, subst, ◌∙◌}
use mathlib.Core.Logic.{inl, inr, ◌⊎◌, ◌≢◌}
use mathlib.Core.Bool.{Bool, true, false}
use mathlib.Core.List.{List, ◌∷◌}
use Prim.Native.Nat.{ℕ, suc, ◌+◌, ◌≤◌, ◌<◌}
use native.Mathlib.Omega.{arith}
use borrow.Author.Tests.{eq-eqb, ne_eqb, le-leb}
use lib.Dec.{leb, leb→le, T_not}
use Rattle.model.specs.Searches.{all, up_to}
use Rattle.model.specs.State as state
use Rattle.model.specs.Formed.{times, held_once}
use Rattle.model.proofs.Tests.{is_true, is_false, from_true, not_not, split, equal?}
use Rattle.model.proofs.Searches.{all_at, all_fails, in_up_to, up_to_at}
use Rattle.lists.specs.Words.{nibble, with_nibble}
use Rattle.lists.specs.Lists.{hold_of, held_in, held}
use Rattle.lists.proofs.Holdings.{is_of_section}
use Rattle.lists.proofs.Words.{read_set, read_other}
use Rattle.lists.proofs.holds.Holds.once.Goals as goal

-- how often a section stands among these
abbrev often : (section : ℕ) → List state.Hold → ℕ
often s l = times (is_of_section s) l

one_more : (x y m n : ℕ) → x ≡ 1 → y ≡ 0 → m ≡ suc n → x + n ≡ y + m
one_more x y m n e f g = omega arith

-- a section that was not noted is
noted : (met : ℕ) (h : state.Hold) (l : List state.Hold) → nibble met h.section ≡ 0 → (s : ℕ) → nibble (with_nibble met h.section 1) s + often s l ≡ nibble met s + often s (h ∷ l)
noted met h l e s = go (equal? h.section s)
  where
    k : ℕ
    k = h.section

    go : (k ≡ s) ⊎ (k ≢ s) → nibble (with_nibble met k 1) s + often s l ≡ nibble met s + often s (h ∷ l)
    go (inl z) =
        subst (λ x. nibble (with_nibble met k 1) x + often x l ≡ nibble met x + often x (h ∷ l)) z
        (one_more (nibble (with_nibble met k 1) k) (nibble met k) (often k (h ∷ l)) (often k l) (read_set met k 1 (omega arith)) e (rw (eq-eqb k k refl)))
    go (inr n) = rw (ne_eqb k s n) (ap (λ x. x + often s l) (read_other met k s 1 (omega arith) (λ z. n (sym z))))

noted-once : (met k s : ℕ) → nibble met s ≤ 1 → nibble (with_nibble met k 1) s ≤ 1
noted-once met k s h = elim (equal? s k) [ inl e ↦ rw e (omega (arith, read_set met k 1 (omega arith))) | inr n ↦ omega (arith, h, read_other met k s 1 (omega arith) n) ]

module _ (sections : ℕ) (hs : List state.Hold) where
  abbrev test : (section : ℕ) → Bool
  test s = leb (often s hs) 1

  all_once : ((s : ℕ) → s < sections → often s hs ≤ 1) → true ≡ held_once sections hs
  all_once h = sym (is_true (all test (up_to sections)) (not_not (all test (up_to sections)) (λ b. let r = all_fails test (up_to sections) b in T_not (test r.0) r.2 (from_true (test r.0) (le-leb (often r.0 hs) 1 (h r.0 (up_to_at sections r.1)))))))

  twice : (s : ℕ) → s < sections → 1 < often s hs → false ≡ held_once sections hs
  twice s h k =
      elim (split (all test (up_to sections))) [
        | inl a ↦ absurd (omega (arith, k, leb→le (often s hs) 1 (all_at test (up_to sections) a (in_up_to sections s h))))
        | inr b ↦ sym (is_false (all test (up_to sections)) b)
      ]

pub returns-then-nibble_at-ne0 : goal.returns-then-nibble_at-ne0
returns-then-nibble_at-ne0 c =
    let k = c.in-Some.h.section in
    let e = rw (c.in-Some.ensures.steps, eq-eqb k k refl) at ((c.loop-h.invariant k c.if-h-sections.true).0) in
    twice c.args.sections (held c.args.self) k c.if-h-sections.true (omega (arith, e, c.nibble_at.ensures, c.if-nibble_at-ne0.true))

pub loop-h-preserved-then-h-sections : goal.loop-h-preserved-then-h-sections
loop-h-preserved-then-h-sections c s h =
    let l = c.loop-h in
    let n = c.next.new.self in
    let k = c.in-Some.h in
    let e = rw c.in-Some.ensures.steps at ((l.invariant s h).0) in
    rw c.with_nibble-met.ensures
    (noted l.met (hold_of k) (held_in n.left n.sections n.threads) (omega (arith, c.nibble_at.ensures, c.if-nibble_at-ne0.false)) s ∙ e, noted-once l.met k.section s (l.invariant s h).1)

pub returns : goal.returns
returns c =
    let l = c.loop-h in
    all_once c.args.sections (held c.args.self) (λ s h. let r = l.invariant s h in omega (arith, r.1, rw c.in-None.ensures.steps.0 at r.0))
