-- A reading place in a signature, with a running place beside it, and what they own taken apart for a function that takes the dump and both numbers.
use mathlib.Core.Path.{◌≡◌, refl}
use Prim.Native.Nat.{ℕ, ◌<◌, ◌^◌}
use mathlib.Core.List.{List, [], ◌∷◌}
use lib.Dec.{T as Holds}
use lib.ListN.{length}
use seplogic.Ra.Ura.{Ura}
use mir.Syntax.{named, w64}
use mir.Val.{Val, WT, has_ty, vint}
use base.Logic.{SProp, ent, sep}
use base.Fml.{Lft, Share, Fml, ftrue, flft}
use types.Logic.{Logic, sem}
use contract.Lifetimes.{Lfts}
use types.Kit.{‵, ◌⊛◌, given, ◌$◌, ◌∵◌, !, qed, move, drop, use1, split, join, learn, fsplit, fjoin, frame, done}
use denote.RattleType.{RattleType, owns}
use denote.Laws.{Is, Tells}
use denote.Plain.{uint_Makes}
use denote.Builtin.{u8, usize}
use denote.Signature.{named_lft}
use denote.Slice.{slice_val, ShrSlice}
use denote.Steps.{owned, nothing}
use denote.Struct.Declared.{Declared}
use denote.Struct.Laws as LL
use denote.Struct.Rest.{all_own, field_own, rest, own_open, own_out}
use denote.Struct.Values.{Values}
use Rattle.dump.specs.declared.place.Place.{Place}
use Rattle.dump.specs.contracts.place.Place as T
use Rattle.dump.proofs.place.Place.TheLaws as T'

-- the struct's type, over the signature's lifetimes
abbrev pub PlaceAt : Lfts 1 → RattleType
PlaceAt κs = T.the_row (named_lft 1 0 tt κs)

-- the machine values that a place has, and that they can be no others
abbrev pub place_vals : Lfts 1 → Place → List Val
place_vals κs = LL.vals (T.the_type (named_lft 1 0 tt κs)) (T'.the_laws (named_lft 1 0 tt κs))

pub place_tells : (κs : Lfts 1) → Tells (PlaceAt κs) (Is (PlaceAt κs)) (place_vals κs)
place_tells κs = LL.tells (T.the_type (named_lft 1 0 tt κs)) (T'.the_laws (named_lft 1 0 tt κs))

-- they have the types that the signature says
abbrev pub TypedPlace : Place → Type 0
TypedPlace d = Holds (has_ty (T'.mir (named 0)) (T'.lowered d)) × WT (T'.lowered d)

pub place_typed : {M : Type 1} {𝓤 : Ura M} (𝓛 : Logic 𝓤) (κs : Lfts 1) (d : Place) → Is (PlaceAt κs) d (place_vals κs d) → TypedPlace d
place_typed 𝓛 κs d is = ((LL.lawful (T.the_type (named_lft 1 0 tt κs)) (T'.the_laws (named_lft 1 0 tt κs)) 𝓛).typed d _ is).0

-- the machine value of the dump that a place holds
abbrev pub dump_val : Place → Val
dump_val d = slice_val d.bytes.ref_ptr (length d.bytes.now)

-- what a place owns
abbrev pub OwnPlace : Lft → Place → Fml
OwnPlace κ d = (PlaceAt (κ, tt)).own_val d (T'.lowered d ∷ [])

-- what it and a running place own, as two arguments
abbrev pub OwnBoth : Lft → Place → ℕ → Fml
OwnBoth κ d running = owns (PlaceAt (κ, tt) ∷ usize ∷ []) (d, (running, tt)) (T'.lowered d ∷ [], (vint w64 running ∷ [], tt))

-- what its dump, its number and the running place own, as three
abbrev pub OwnParts : Lft → Place → ℕ → Fml
OwnParts κ d running =
    owns (ShrSlice (named 0) κ u8 ∷ usize ∷ usize ∷ []) (d.bytes, (d.number, (running, tt))) (dump_val d ∷ [], (vint w64 d.number ∷ [], (vint w64 running ∷ [], tt)))

module _ {M : Type 1} {𝓤 : Ura M} (𝓛 : Logic 𝓤) (κ : Lft) (q : Share) (d : Place) (running : ℕ) where
  open 𝓛 use {A}

  abbrev mach : Val
  mach = T'.lowered d

  abbrev D : Declared
  D = T.the_type (named_lft 1 0 tt (κ, tt))

  abbrev L : LL.Laws D
  L = T'.the_laws (named_lft 1 0 tt (κ, tt))

  abbrev vd : Values D.parts
  vd = (d.bytes, (d.number, tt))

  abbrev token : SProp 𝓤
  token = sep 𝓤 (A.lft κ q) (sem 𝓛 ftrue)

  -- A place is Copy: one copy stays whole, and the other gives what its parts own.
  pub apart : d.number < 2 ^ 64 → running < 2 ^ 64 → ent 𝓤 (sep 𝓤 token (sem 𝓛 (OwnBoth κ d running))) (sep 𝓤 (sep 𝓤 token (sem 𝓛 (OwnParts κ d running))) (sem 𝓛 (OwnPlace κ d)))
  apart fits fits' =
      qed 𝓛 ((‵ (flft κ q) ⊛ ‵ ftrue) ∷ ‵ (OwnBoth κ d running) ∷ []) ∵
      move ! (1 ∷ []) $ fsplit ! $ move ! (1 ∷ []) $ drop ! $ use1 𝓛 (‵ (OwnPlace κ d) ⊛ ‵ (OwnPlace κ d)) ((LL.copy D (T'.the_copy (named_lft 1 0 tt (κ, tt))) 𝓛).twice d (mach ∷ [])) $ split ! $
      use1 𝓛 (given (mach ∷ [] ≡ mach ∷ []) (‵ (all_own D.parts L vd))) (own_open 𝓛 D L vd mach) $ learn ! (λ _. use1 𝓛 (‵ (field_own D.parts L 0 d.bytes) ⊛ ‵ (rest D.parts L 0 vd)) (own_out 𝓛 D.parts L 0 vd) $ split ! $
      -- [what the dump owns; what the number owns; what the place owns; the token]
      move ! (1 ∷ []) $ drop ! $ nothing ! $ owned ! usize (Is usize) (uint_Makes 𝓛 w64) running _ (refl, fits') $ fjoin ! $
      owned ! usize (Is usize) (uint_Makes 𝓛 w64) d.number _ (refl, fits) $ fjoin ! $ move ! (1 ∷ 0 ∷ []) $ fjoin ! $
      move ! (2 ∷ 0 ∷ []) $ join ! $ frame ! $ done !)
