-- What a lent state keeps: its numbers are compared with those of a walk, and where nothing is held with 255 and 0.
use mathlib.Core.Path.{◌≡◌, refl, ap, sym, ◌∙◌}
use mathlib.Core.Logic.{◌⊎◌, inl, inr, ◌≢◌}
use mathlib.Core.Bool.{Bool, true, false, not, ◌&&◌, ◌||◌, true≢false}
use mathlib.Core.List.{List}
use borrow.Author.Tests.{eq-eqb, ne_eqb}
use lib.Dec.{eqb}
use Rattle.model.specs.Searches.{same}
use Rattle.model.specs.Plan.{Plan}
use Rattle.model.specs.State.{Hold}
use Rattle.model.proofs.Tests.{equal?}
use Rattle.keeping.specs.Top as keeping
use Rattle.keeping.specs.Top.{walk_by, walk, top_fits}
use Rattle.lists.specs.declared.holds.Holds.{Holds}
use Rattle.lists.specs.declared.top.Top.{Top}
use Rattle.lists.specs.Lists.{held_in, held, top_of}
use Rattle.lists.proofs.Laws.{same_numbers}

-- the numbers of the pair are compared with those found
pub compared : (p : Plan) (hs : List Hold) (top found : Top) → top_of found ≡ walk p hs → eqb top.owner found.owner && eqb top.ceiling found.ceiling ≡ top_fits p hs (top_of top)
compared p hs top found e =
    ap (λ b. b && eqb top.ceiling found.ceiling) (sym (same_numbers top.owner found.owner))
    ∙ ap (λ (w : keeping.Top). same (top_of top).owner w.owner && eqb top.ceiling w.ceiling) e

-- where nothing is held
module _ (p : Plan) (hs : Holds) where
  abbrev fits : Bool
  fits = eqb hs.top.ceiling 0 && eqb hs.top.owner 255

  abbrev pub empty_fits : Bool
  empty_fits = not (eqb hs.count 0) || fits

  in_turn : (a b : Bool) → a && b ≡ b && a
  in_turn true true = refl
  in_turn true false = refl
  in_turn false true = refl
  in_turn false false = refl

  nothing_held : hs.count ≡ 0 → top_of (record { owner = 255; ceiling = 0 }) ≡ walk p (held hs)
  unfolding walk_by
  nothing_held z = sym (ap (walk p) (ap (λ n. held_in n hs.sections hs.threads) z))

  empty_asked : hs.count ≡ 0 → empty_fits ≡ top_fits p (held hs) (top_of hs.top)
  empty_asked z =
      ap (λ b. not b || fits) (eq-eqb hs.count 0 z)
      ∙ in_turn (eqb hs.top.ceiling 0) (eqb hs.top.owner 255)
      ∙ compared p (held hs) hs.top (record { owner = 255; ceiling = 0 }) (nothing_held z)

  -- it decides where nothing is held, and is asked nowhere else

  pub empty_fits_lem : hs.count ≡ 0 → empty_fits ≡ true → top_fits p (held hs) (top_of hs.top) ≡ true
  empty_fits_lem z e = sym (empty_asked z) ∙ e

  pub empty_unfit : false ≡ empty_fits → false ≡ top_fits p (held hs) (top_of hs.top)
  empty_unfit e = go (equal? hs.count 0)
    where
      go : (hs.count ≡ 0) ⊎ (hs.count ≢ 0) → false ≡ top_fits p (held hs) (top_of hs.top)
      go (inl z) = e ∙ empty_asked z
      go (inr d) = let t : false ≡ true = e ∙ ap (λ b. not b || fits) (ne_eqb hs.count 0 d) in absurd (true≢false (sym t))
