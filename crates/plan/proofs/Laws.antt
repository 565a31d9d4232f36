-- What other crates may cite of plans.
use mathlib.Core.Path.{◌≡◌, subst}
use mathlib.Core.Bool.{Bool, ◌&&◌}
use mathlib.Core.List.{List, map}
use mathlib.Core.Option.{none, some}
use Prim.Native.Nat.{ℕ, zero, suc, ◌+◌, ◌≤◌, ◌<◌}
use native.Mathlib.Omega.{arith}
use lib.Dec.{T, leb, leb→le}
use lib.ListN.{length, get_or}
use Rattle.model.specs.Searches.{all, count_from, up_to}
use Rattle.model.specs.Plan as model
use Rattle.model.proofs.Tests.{and_left, and_right, and_both}
use Rattle.plan.specs.declared.Plan.{Plan}
use Rattle.plan.specs.Bytes.{thread_count, section_count, base_at, needs_at, plan_of, in_range, is_priority, needs_within, has_priorities, has_needs, questions, refusal, number}
use Rattle.plan.specs.View.{in_use, view, Fits, base_in}
use Rattle.model.proofs.Loops.{listed, length-listed}
use Rattle.plan.proofs.Answers.{valid_listed}
use Rattle.plan.proofs.Entries.{valid_view}
-- what the answers to questions say, of any questions and of those of a plan
pub use Rattle.plan.proofs.Answers.{zero_none, number_some, first_within, in_range_lem, many_threads, accepted, whole}
-- base and needs of a thread, from the parts of the struct that they are read from
pub use Rattle.plan.proofs.Entries.{base_view, may_take-view}
-- question 4 in its own words
pub use Rattle.plan.proofs.Bits.{within_bits}
-- the known plans as bytes, and bytes for each No
pub use Rattle.plan.proofs.Examples.{known_plans, refusals}

-- `refusal` answers 0 only where nothing refuses the bytes, which is what `read` asks for
pub refusal_zero : (bytes : List ℕ) → number (refusal bytes) ≡ 0 → refusal bytes ≡ none
unfolding refusal questions
refusal_zero bytes e = zero_none (questions bytes) tt e

-- what refuses a plan's bytes is one of questions 1 to 4
pub refusal_within : (bytes : List ℕ) (q : ℕ) → refusal bytes ≡ some q → q ≤ 4
unfolding refusal questions
refusal_within bytes q e = first_within 4 (questions bytes) q tt e

-- bytes that nothing refuses stand for a valid plan
pub refusal_none_valid : (bytes : List ℕ) → refusal bytes ≡ none → T (model.valid_plan (plan_of bytes))
refusal_none_valid bytes e =
    let a = accepted bytes e in
    let counts : Bool = in_range (thread_count bytes) (section_count bytes) in
    let first : T counts = and_right (leb 2 (length bytes)) counts a.counts in
    rw (valid_listed (thread_count bytes) (section_count bytes) (base_at bytes) (needs_at bytes))
    (and_both (counts && has_priorities bytes) (has_needs bytes) (and_both counts (has_priorities bytes) first a.priorities) a.needs)

-- bytes, and a struct, stand for a plan with as many threads as they say

pub threads_bytes : (bytes : List ℕ) → model.threads (plan_of bytes) ≡ thread_count bytes
threads_bytes bytes = length-listed (base_at bytes) (thread_count bytes)

pub threads_view : (p : Plan) → model.threads (view p) ≡ p.threads
threads_view p = length-listed (λ t. get_or p.bases t 0) p.threads

-- A struct whose plan is valid has counts that fit its arrays. So `passes` is true exactly of a struct that fits and whose plan is valid.
pub valid_fits : (p : Plan) → T (model.valid_plan (view p)) → Fits p
valid_fits p h =
    let counts : Bool = in_range p.threads p.sections in
    let bases : Bool = all is_priority (in_use p.threads p.bases) in
    let needs : Bool = all (needs_within p.sections) (in_use p.threads p.needs) in
    let r = in_range_lem p.threads p.sections (and_left counts bases (and_left (counts && bases) needs (rw (valid_view p) at h))) in
    record { threads = r.0; sections = r.1 }

-- the base of one of the struct's threads is the entry of its array, and above 0 where the plan is valid

pub base_at_lem : (threads : ℕ) (bases : List ℕ) (t : ℕ) → t < threads → base_in threads bases t ≡ get_or bases t 0
base_at_lem threads bases t h = listed (λ i. get_or bases i 0) threads t 0 h

listed_pass : (f : ℕ → Bool) (g : ℕ → ℕ) (i n t : ℕ) → T (all f (map g (count_from i n))) → t < n → T (f (g (i + t)))
listed_pass f g i zero t h k = absurd (omega arith)
listed_pass f g i (suc n) zero h k = let z : i ≡ i + 0 = omega arith in subst (λ (j : ℕ). T (f (g j))) z (and_left (f (g i)) (all f (map g (count_from (suc i) n))) h)
listed_pass f g i (suc n) (suc t) h k =
    let z : suc i + t ≡ i + suc t = omega arith in
    subst (λ (j : ℕ). T (f (g j))) z (listed_pass f g (suc i) n t (and_right (f (g i)) (all f (map g (count_from (suc i) n))) h) (omega arith))

pub base_positive : (p : Plan) → T (model.valid_plan (view p)) → (t : ℕ) → t < p.threads → 0 < get_or p.bases t 0
base_positive p h t k =
    let counts : Bool = in_range p.threads p.sections in
    let bases : Bool = all is_priority (in_use p.threads p.bases) in
    let needs : Bool = all (needs_within p.sections) (in_use p.threads p.needs) in
    let each = and_right counts bases (and_left (counts && bases) needs (rw (valid_view p) at h)) in
    let b : ℕ = get_or p.bases (0 + t) 0 in
    let z : 0 + t ≡ t = omega arith in
    subst (λ (j : ℕ). 0 < get_or p.bases j 0) z (leb→le 1 b (and_left (leb 1 b) (leb b 64) (listed_pass is_priority (λ i. get_or p.bases i 0) 0 p.threads t each k)))

-- the ceilings made once: entry s is the ceiling of section s
pub ceilings_at : (p : model.Plan) (s : ℕ) → s < 16 → get_or (map (model.ceiling p) (up_to 16)) s 0 ≡ model.ceiling p s
ceilings_at p s h = listed (model.ceiling p) 16 s 0 h
