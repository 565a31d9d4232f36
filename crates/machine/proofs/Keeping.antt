-- What is kept says the same as the holds: after a walk over them, with one hold more, and where neither plan nor holds have changed.
use mathlib.Core.Path.{◌≡◌, ap, ap₂, sym, subst, ◌∙◌}
use mathlib.Core.List.{[], ◌∷◌}
use mathlib.Core.Option.{none}
use Prim.Native.Nat.{ℕ}
use lib.Dec.{T}
use Rattle.model.specs.Plan.{Plan, ceiling}
use Rattle.model.specs.State.{Hold, hold}
use Rattle.model.specs.Priorities.{held_ceiling}
use Rattle.keeping.specs.Top.{Top, walk_by, walk, top_fits, gained}
use Rattle.keeping.proofs.Laws.{fits_walk, walk_fits, gained_walk}
use Rattle.plan.specs.View as plans
use Rattle.plan.specs.declared.Plan as declared
use Rattle.lists.specs.declared.holds.Holds.{Holds}
use Rattle.lists.specs.Lists.{held, top_of}
use Rattle.machine.specs.declared.Machine.{Machine}
use Rattle.machine.specs.View.{plan_of}
use Rattle.machine.specs.Kept.{kept}

module _ (p : Plan) where
  -- these holds have the walk's result beside them
  abbrev pub Keeps : Holds → Type 0
  Keeps h = T (top_fits p (held h) (top_of h.top))

  pub keeps_walk : (h : Holds) → top_of h.top ≡ walk p (held h) → Keeps h
  keeps_walk h e = subst (λ (k : Top). T (top_fits p (held h) k)) (sym e) (walk_fits p (held h))

  -- nothing is held
  pub keeps_none : (h : Holds) → held h ≡ [] → top_of h.top ≡ record { owner = none; ceiling = 0 } → Keeps h
  unfolding walk_by
  keeps_none h e k = keeps_walk h (k ∙ ap (walk p) (sym e))

  -- found by a walk with these ceilings
  pub keeps_walked : {f : Hold → ℕ} (h : Holds) → f ≡ held_ceiling p → top_of h.top ≡ walk_by f (held h) → Keeps h
  keeps_walked h c e = keeps_walk h (e ∙ ap (λ (g : Hold → ℕ). walk_by g (held h)) c)

  -- one hold more, by one comparison
  pub keeps_gained : (h r : Holds) (s t : ℕ) {c : ℕ} → Keeps h → c ≡ ceiling p s → held r ≡ hold s t ∷ held h → top_of r.top ≡ gained c t (top_of h.top) → Keeps r
  keeps_gained h r s t k c e g =
      keeps_walk r
      (g
      ∙ ap₂ (λ (n : ℕ) (x : Top). gained n t x) c (fits_walk p (held h) (top_of h.top) k)
      ∙ gained_walk (held_ceiling p) (hold s t) (held h)
      ∙ ap (walk p) (sym e))

-- neither plan nor holds have changed
pub keeps_on : (m m' : Machine) → m'.plan ≡ m.plan → m'.holds ≡ m.holds → T (kept m) → T (kept m')
keeps_on m m' e h t = subst (λ (q : declared.Plan). Keeps (plans.view q) m'.holds) (sym e) (subst (Keeps (plan_of m)) (sym h) t)
