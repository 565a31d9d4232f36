-- What the answers to questions say.
use mathlib.Core.Path.{◌≡◌, refl, ap, sym}
use mathlib.Core.Bool.{Bool, true, false, cond, ◌&&◌}
use mathlib.Core.List.{List, [], ◌∷◌, map}
use mathlib.Core.Option.{Option, none, some}
use Prim.Native.Nat.{ℕ, ◌≤◌, ◌<◌}
use native.Mathlib.Omega.{arith}
use lib.Dec.{T, not_T, eqb, leb, ltb, eqb_refl, leb→le, eqb→eq, ltb→lt}
use lib.ListN.{length}
use Rattle.model.specs.Searches.{all, up_to}
use Rattle.model.specs.Plan.{valid_plan}
use Rattle.model.specs.Rules.{Question, first_no}
use Rattle.model.proofs.Tests.{is_true, is_false, and_left, and_right}
use Rattle.model.proofs.Laws.{all_yes}
use Rattle.plan.specs.Bytes.{thread_count, section_count, between, in_range, is_priority, needs_within, has_counts, has_length, has_priorities, has_needs, questions, refusal, number, Whole}
use Rattle.model.proofs.Loops.{and_true, length-listed}

-- where no question has the number 0, the answer 0 says that the first No is none
pub zero_none : (qs : List Question) → T (all (λ q. ltb 0 q.number) qs) → number (first_no qs) ≡ 0 → first_no qs ≡ none
zero_none [] t e = refl
zero_none (q ∷ qs) t e = go q.answer (zero_none qs (and_right (ltb 0 q.number) _ t)) e
  where
    go : (b : Bool) → (number (first_no qs) ≡ 0 → first_no qs ≡ none) → number (cond b (first_no qs) (some q.number)) ≡ 0 → cond b (first_no qs) (some q.number) ≡ none
    go true k e = k e
    go false k e = absurd (omega (arith, ltb→lt 0 q.number (and_left (ltb 0 q.number) _ t)))

-- an answer as a number other than 0 is the number of a No
pub number_some : (o : Option ℕ) (n : ℕ) → n ≡ number o → (n ≡ 0 → ⊥) → o ≡ some n
number_some none n e d = absurd (d e)
number_some (some m) n e d = ap {B = Option ℕ} some (sym e)

-- where no question has a number above the greatest, neither has the first No
pub first_within : (greatest : ℕ) (qs : List Question) (n : ℕ) → T (all (λ q. leb q.number greatest) qs) → first_no qs ≡ some n → n ≤ greatest
first_within g [] n t e = let z : ◌≡◌ {A = ℕ} 0 1 = cc in absurd (omega arith)
first_within g (q ∷ qs) n t e = go q.answer (first_within g qs n (and_right (leb q.number g) _ t)) e
  where
    go : (b : Bool) → (first_no qs ≡ some n → n ≤ g) → cond b (first_no qs) (some q.number) ≡ some n → n ≤ g
    go true k e = k e
    go false k e = let same : q.number ≡ n = cc in omega (arith, leb→le q.number g (and_left (leb q.number g) _ t))

-- bytes that nothing refuses have the answer Yes to each question
pub record Accepted (bytes : List ℕ) : Type 0 where
  pub counts : T (has_counts bytes)
  pub size : T (has_length bytes)
  pub priorities : T (has_priorities bytes)
  pub needs : T (has_needs bytes)

pub accepted : (bytes : List ℕ) → refusal bytes ≡ none → Accepted bytes
unfolding refusal questions
accepted bytes e = let r = all_yes (questions bytes) e in record { counts = r.0; size = r.1.0; priorities = r.1.1.0; needs = r.1.1.1.0 }

-- the answer Yes to question 1, and to questions 1 and 2, in numbers
pub in_range_lem : (threads sections : ℕ) → T (in_range threads sections) → (threads ≤ 16) × (sections ≤ 16)
in_range_lem t s h =
    let b : T (between 1 16 t) = and_left (between 1 16 t) (leb s 16) h in
    (leb→le t 16 (and_right (leb 1 t) (leb t 16) b), leb→le s 16 (and_right (between 1 16 t) (leb s 16) h))

-- more than 16 threads are refused by question 1
pub many_threads : (bytes : List ℕ) → 16 < thread_count bytes → refusal bytes ≡ some 1
unfolding refusal questions
many_threads bytes h = rw (is_false (has_counts bytes) (not_T (has_counts bytes) (λ c. omega (arith, (in_range_lem (thread_count bytes) (section_count bytes) (and_right (leb 2 (length bytes)) _ c)).0))))

pub has_two : (bytes : List ℕ) → T (has_counts bytes) → 2 ≤ length bytes
has_two bytes c = leb→le 2 (length bytes) (and_left (leb 2 (length bytes)) _ c)

pub whole : (bytes : List ℕ) → T (has_counts bytes) → T (has_length bytes) → Whole bytes
whole bytes c l =
    let r = in_range_lem (thread_count bytes) (section_count bytes) (and_right (leb 2 (length bytes)) _ c) in
    record { threads = r.0; sections = r.1; size = eqb→eq (length bytes) _ l }

-- with a base and a need listed for each thread, a plan is valid exactly if questions 1, 3 and 4 have the answer Yes
pub valid_listed : (threads sections : ℕ) (base need : ℕ → ℕ)
    → valid_plan (record { sections = sections; bases = map base (up_to threads); needs = map need (up_to threads) })
    ≡ in_range threads sections && all is_priority (map base (up_to threads)) && all (needs_within sections) (map need (up_to threads))
unfolding valid_plan
valid_listed n s f g = rw (length-listed f n, length-listed g n, is_true (eqb n n) (eqb_refl n), and_true (in_range n s))
