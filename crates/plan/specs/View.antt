-- The plan that the code's struct stands for. Of its arrays only the entries in use count: one for each thread.
use Rattle.std.specs.Prelude.{◌≡◌, Bool, List, [], map, ℕ, ◌≤◌, get_or}
use Rattle.model.specs.Searches.{up_to}
use Rattle.model.specs.Plan as model
use Rattle.plan.specs.declared.Plan.{Plan}

-- the first entries of an array, one for each thread
abbrev pub in_use : (threads : ℕ) → List ℕ → List ℕ
in_use threads entries = map (λ t. get_or entries t 0) (up_to threads)

-- the plan that a struct stands for; what its arrays have past the last thread means nothing
abbrev pub view : Plan → model.Plan
view p =
    record {
      sections = p.sections;
      bases = in_use p.threads p.bases;
      needs = in_use p.threads p.needs;
    }

-- the counts are those of arrays with sixteen entries
pub record Fits (p : Plan) : Type 0 where
  pub threads : p.threads ≤ 16
  pub sections : p.sections ≤ 16

-- a struct with such counts that stands for a given plan
pub record Made (r : Plan) (p : model.Plan) : Type 0 where
  pub fits : Fits r
  pub seen : view r ≡ p

-- model's base and may_take from the parts of the struct that they read: `base (view p) t` is `base_in p.threads p.bases t`
abbrev pub base_in : (threads : ℕ) (bases : List ℕ) (thread : ℕ) → ℕ
base_in threads bases t = model.base (record { sections = 0; bases = in_use threads bases; needs = [] }) t

abbrev pub may_take_in : (threads : ℕ) (needs : List ℕ) (thread section : ℕ) → Bool
may_take_in threads needs t s = model.may_take (record { sections = 0; bases = []; needs = in_use threads needs }) t s
