-- The owner's number and the greatest base among the waits, as the code has them, give every thread its current priority.
use mathlib.Core.Path.{◌≡◌, ap, ap₂, sym, ◌∙◌}
use mathlib.Core.Bool.{cond, not, ◌&&◌}
use mathlib.Core.List.{List, Memᴰ as Mem}
use Prim.Native.Nat.{ℕ, max, ◌<◌}
use native.Mathlib.Omega.{arith}
use lib.Dec.{eqb}
use Rattle.model.specs.Searches.{any, first_greatest, greatest}
use Rattle.model.proofs.Searches.{any_agree, first_greatest_agree}
use Rattle.lists.specs.Lists.{thread_of, current_in}
use Rattle.lists.specs.Choice.{priority_in, chosen_in, rivalled_in}
use Rattle.lists.proofs.Numbered.{numbered-thread_of, number_is}

module _ (base : ℕ → ℕ) (owner : ℕ) (ws : List ℕ) where
  -- a thread's number is below 255, which stands for nobody
  told : (t : ℕ) → t < 255 → current_in base owner (greatest base ws) t ≡ priority_in base (thread_of owner) ws t
  told t h = ap (λ b. cond b (max (base t) (greatest base ws)) (base t)) (ap (λ n. eqb n t) (sym (numbered-thread_of owner)) ∙ number_is (thread_of owner) t (λ e. omega arith))

  -- so the chosen thread of a queue is found, and whether a thread is rivalled
  module _ (q : List ℕ) (known : (t : ℕ) → Mem t q → t < 255) where
    pub chosen_by : first_greatest (current_in base owner (greatest base ws)) q ≡ chosen_in base (thread_of owner) q ws
    chosen_by = first_greatest_agree (current_in base owner (greatest base ws)) (priority_in base (thread_of owner) ws) q (λ t i. told t (known t i))

    pub rivalled_by : (x : ℕ) → x < 255 → any (λ t. not (eqb t x) && eqb (current_in base owner (greatest base ws) t) (current_in base owner (greatest base ws) x)) q ≡ rivalled_in base (thread_of owner) q ws x
    rivalled_by x h = any_agree _ _ q (λ t i. ap₂ (λ (a b : ℕ). not (eqb t x) && eqb a b) (told t (known t i)) (told x h))
