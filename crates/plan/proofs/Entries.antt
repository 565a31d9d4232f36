-- A struct's parts as parts of its plan: what the contracts over parts say of the whole, and when a loop has filled an array.
use mathlib.Core.Path.{◌≡◌, refl, sym, ◌∙◌}
use mathlib.Core.Bool.{Bool, true, false, ◌&&◌}
use mathlib.Core.List.{List, [], ◌∷◌, map}
use Prim.Native.Nat.{ℕ, ◌≤◌, ◌<◌}
use native.Mathlib.Omega.{arith}
use lib.ListN.{length, get_or, take}
use Rattle.std.specs.List.{fold}
use lib.Seq.{get_or-take, length-take-le, take_all, ext_get_or}
use Rattle.model.specs.Searches.{all, up_to}
use Rattle.model.specs.Plan as model
use Rattle.model.proofs.Loops.{Filled, and_true, full, listed, length-listed}
use Rattle.plan.specs.declared.Plan.{Plan}
use Rattle.plan.specs.Bytes.{in_range, is_priority, needs_within}
use Rattle.plan.specs.View.{in_use, view, base_in, may_take_in}
use Rattle.plan.proofs.Answers.{valid_listed}

module _ (p : Plan) where
  -- what `base` and `may_take` promise, given a struct's own parts
  pub base_view : (t : ℕ) → base_in p.threads p.bases t ≡ model.base (view p) t
  base_view t = refl

  pub may_take-view : (t s : ℕ) → may_take_in p.threads p.needs t s ≡ model.may_take (view p) t s
  may_take-view t s = refl

  -- what it takes to be valid, asked of a struct's numbers
  pub valid_view : model.valid_plan (view p)
      ≡ in_range p.threads p.sections && all is_priority (in_use p.threads p.bases) && all (needs_within p.sections) (in_use p.threads p.needs)
  valid_view = valid_listed p.threads p.sections (λ t. get_or p.bases t 0) (λ t. get_or p.needs t 0)

-- of an array that is long enough, the entries in use are the first ones
pub in_use_lem : (n : ℕ) (items : List ℕ) → n ≤ length items → in_use n items ≡ take n items
in_use_lem n items h =
    ext_get_or 0 (in_use n items) (take n items) (size ∙ sym (length-take-le n items h))
    (λ i k. let b : i < n = omega (arith, size) in listed entry n i 0 b ∙ sym (get_or-take n items i 0 b))
  where
    entry : ℕ → ℕ
    entry t = get_or items t 0

    size : length (in_use n items) ≡ n
    size = length-listed entry n

-- of an array that has as many as there are in use, all are
pub in_use_all : (n : ℕ) (items : List ℕ) → length items ≡ n → in_use n items ≡ items
in_use_all n items e = in_use_lem n items (omega arith) ∙ take_all n items (omega arith)

-- so a loop that has stored an entry for each thread has made a list in use
pub filled : (g : ℕ → ℕ) (n i : ℕ) (items : List ℕ) → i ≡ n → n ≤ length items → Filled g n i items → in_use n items ≡ map g (up_to n)
filled g n i items e h inv = in_use_lem n items h ∙ (rw e at (full g n i items (omega arith) inv))

-- whether all pass, asked of one after another without an early end
pub all_folded : {A : Type 0} (f : A → Bool) (pass : Bool) (l : List A) → fold (λ p a. p && f a) pass l ≡ (pass && all f l)
all_folded f pass [] = sym (and_true pass)
all_folded f true (a ∷ l) = all_folded f (f a) l
all_folded f false (a ∷ l) = all_folded f false l
