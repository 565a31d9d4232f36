-- Where nobody waits: no condition is a wait, so each is in range where no tick number is above the greatest.
use mathlib.Core.Path.{◌≡◌, subst}
use mathlib.Core.Logic.{◌⊎◌, inl, inr}
use mathlib.Core.Bool.{Bool, true, not, ◌&&◌}
use mathlib.Core.List.{List, [], ◌∷◌, map}
use Prim.Native.Nat.{ℕ, ◌≤◌, ◌<◌}
use native.Mathlib.Omega.{arith}
use borrow.Author.Tests.{le-leb}
use lib.Dec.{T, leb, ltb, ltb→lt, nltb→le}
use Rattle.model.specs.Searches.{all, up_to}
use Rattle.model.specs.Formed.{last_wake, condition_in_range}
use Rattle.model.proofs.Tests.{split, is_true, from_true, and_left, and_right, and_both}
use Rattle.model.proofs.Searches.{all_from}
use Rattle.model.proofs.Loops.{all_of_more}
use Rattle.lists.specs.Words.{nibble}
use Rattle.lists.specs.Lists.{queued}
use Rattle.lists.proofs.Laws.{queued_empty}
use Rattle.clock.specs.View.{number_at}
use Rattle.machine.specs.declared.Machine.{Machine}
use Rattle.machine.specs.declared.slots.Slots.{Slots}
use Rattle.clock.specs.declared.time.Tick.{Tick}
use Rattle.machine.specs.View.{condition_of, condition_in, conditions_of}
use Rattle.formed.specs.Clauses.{names_by, names_those, Stood, Calm}
use Rattle.machine.proofs.Laws.{by_state}

-- a test that follows from two
module _ {A : Type 0} (f : A → Bool) where
  both_follow : {B C : Type 0} (d : A → B) (e : B → Bool) (c : A → C) (g : C → Bool) (l : List A) → ((a : A) → T (f a) → T (e (d a)) → T (g (c a))) → T (all f l) → T (all e (map d l)) → T (all g (map c l))
  both_follow d e c g [] h t u = tt
  both_follow d e c g (a ∷ l) h t u =
      and_both (g (c a)) (all g (map c l)) (h a (and_left (f a) (all f l) t) (and_left (e (d a)) (all e (map d l)) u))
      (both_follow d e c g l h (and_right (f a) (all f l) t) (and_right (e (d a)) (all e (map d l)) u))

-- a thread that empty waits do not name is in no wait
stands_calm : (s t : ℕ) → s < 16 → T (names_by [] 3 15 s t) → T (ltb s 3)
stands_calm s t l a = go (split (ltb s 3))
  where
    go : T (ltb s 3) ⊎ T (not (ltb s 3)) → T (ltb s 3)
    go (inl b) = b
    go (inr b) = absurd (rw (le-leb 3 s (nltb→le s 3 b), le-leb s 15 (omega arith)) at a)

pub calm_stood : (m : Machine) → Stood m → m.waits.count ≡ 0 → Calm m.slots.states m.plan.threads
calm_stood m e z =
    let n = m.plan.threads in
    let states = m.slots.states in
    let lined : Bool = names_those n states (queued m.queue) 1 1 in
    let waiting : Bool = names_those n states (queued m.waits) 3 15 in
    let both = and_left (lined && waiting) (names_those n states (queued m.delays) 2 2) (from_true _ e) in
    let stands : T (names_those n states [] 3 15) = subst (λ ws. T (names_those n states ws 3 15)) (queued_empty m.waits z) (and_right lined waiting both) in
    is_true (all (λ t. ltb (nibble states t) 3) (up_to n))
    (all_from (λ t. names_by [] 3 15 (nibble states t) t) (λ t. ltb (nibble states t) 3) (λ t a. stands_calm (nibble states t) t (omega arith) a) (up_to n) stands)

-- a condition that is no wait is in range where its tick number is
in_range_lem : (sections s n w : ℕ) → T (ltb s 3) → T (leb w last_wake) → T (condition_in_range sections (condition_of s n w))
in_range_lem sections s n w a b =
    by_state s n w (T (condition_in_range sections (condition_of s n w))) (λ e. rw e tt) (λ e. rw e tt) (λ e. rw e b) (λ e. absurd (omega (arith, ltb→lt s 3 a)))
    (λ h. absurd (omega (arith, ltb→lt s 3 a)))

pub calm_range : (slots : Slots) (wakes : List Tick) (threads sections : ℕ) → threads ≤ 16 → Calm slots.states threads → all (λ n. leb n last_wake) (map (number_at wakes) (up_to 16)) ≡ true
    → all (condition_in_range sections) (conditions_of threads slots wakes) ≡ true
calm_range slots wakes threads sections h c e =
    let early : all (λ n. leb n last_wake) (map (number_at wakes) (up_to threads)) ≡ true = all_of_more (λ n. leb n last_wake) (number_at wakes) threads 16 h e in
    is_true (all (condition_in_range sections) (conditions_of threads slots wakes))
    (both_follow (λ t. ltb (nibble slots.states t) 3) (number_at wakes) (λ n. leb n last_wake) (condition_in slots wakes) (condition_in_range sections) (up_to threads)
    (λ t a b. in_range_lem sections (nibble slots.states t) (nibble slots.wants t) (number_at wakes t) a b) (from_true _ c) (from_true _ early))
