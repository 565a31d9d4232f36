-- What `all`, `any` and `find` return of an iterator whose state shows the list of what is left: what the model's searches find in that list.
use mathlib.Core.Path.{◌≡◌, sym, ap, subst, ◌∙◌}
use mathlib.Core.Bool.{Bool, true, false}
use mathlib.Core.List.{List, [], ◌∷◌}
use denote.Param.Members.{Mut}
use denote.Ref.{Bor}
use Rattle.std.specs.Prelude.{Option, None, Some, IfSome}
use Rattle.std.specs.Fn.{Called, CalledAt}
use Rattle.std.specs.Iterator.{YieldsFirstBy, Yields, ChecksAll, ChecksAny, FindsItem}
use Rattle.std.specs.List.{FoldsTo}
use Rattle.std.specs.Option.{MatchOption}
use Rattle.model.specs.Searches.{all, any}

module _ {S A B F : Type 0} (view : A → B) (rest : S → List B) (g : Mut F (A × Unit {0}) Bool) (p : B → Bool) (f : F) where
  abbrev steps : S → Option A → S → Type 0
  steps = YieldsFirstBy view rest

  -- the closure answers what p does, and stays as it was
  abbrev pub Tests : Type 0
  Tests = (x : A) (b : Bool) (h : F) → Called g f (x, tt) b h → (h ≡ f) × (b ≡ p (view x))

  all_walked : Tests → (xs : List A) (s t u : S) (o : Option A) (q : F) (r : Bool)
      → Yields steps s xs t → steps t o u → FoldsTo (λ h x k. Called g h (x, tt) true k) f xs q
      → MatchOption o (r ≡ true) (λ x. (r ≡ false) × ((h : F) × Called g q (x, tt) false h)) → r ≡ all p (rest s)
  all_walked k [] s t u None q r y e c m = m ∙ sym (ap (λ l. all p l) (ap rest y ∙ e.0))
  all_walked k [] s t u (Some x) q r y e c m =
      let z = k x false m.1.0 (subst (λ h. Called g h (x, tt) false m.1.0) (sym c) m.1.1) in
      m.0 ∙ sym (ap (λ l. all p l) (ap rest y ∙ e) ∙ (rw (← z.1)))
  all_walked k (x ∷ xs) s t u o q r y e c m =
      let z = k x true c.0 c.1 in
      all_walked k xs y.0 t u o q r y.2 e (subst (λ h. FoldsTo (λ h x k. Called g h (x, tt) true k) h xs q) z.0 c.2) m ∙ sym (ap (λ l. all p l) y.1 ∙ (rw (← z.1)))

  any_walked : Tests → (xs : List A) (s t u : S) (o : Option A) (q : F) (r : Bool)
      → Yields steps s xs t → steps t o u → FoldsTo (λ h x k. Called g h (x, tt) false k) f xs q
      → MatchOption o (r ≡ false) (λ x. (r ≡ true) × ((h : F) × Called g q (x, tt) true h)) → r ≡ any p (rest s)
  any_walked k [] s t u None q r y e c m = m ∙ sym (ap (λ l. any p l) (ap rest y ∙ e.0))
  any_walked k [] s t u (Some x) q r y e c m =
      let z = k x true m.1.0 (subst (λ h. Called g h (x, tt) true m.1.0) (sym c) m.1.1) in
      m.0 ∙ sym (ap (λ l. any p l) (ap rest y ∙ e) ∙ (rw (← z.1)))
  any_walked k (x ∷ xs) s t u o q r y e c m =
      let z = k x false c.0 c.1 in
      any_walked k xs y.0 t u o q r y.2 e (subst (λ h. FoldsTo (λ h x k. Called g h (x, tt) false k) h xs q) z.0 c.2) m ∙ sym (ap (λ l. any p l) y.1 ∙ (rw (← z.1)))

module _ {S A B F : Type 0} (view : A → B) (rest : S → List B) {g : Mut F (A × Unit {0}) Bool} (p : B → Bool) {s u : S} {f : F} {r : Bool} where
  pub all_of : ChecksAll (YieldsFirstBy view rest) g s f r u → Tests view rest g p f → r ≡ all p (rest s)
  all_of c k = all_walked view rest g p f k c.0 s c.3.0 u c.1 c.2 r c.3.1 c.3.2 c.4 c.5

  pub any_of : ChecksAny (YieldsFirstBy view rest) g s f r u → Tests view rest g p f → r ≡ any p (rest s)
  any_of c k = any_walked view rest g p f k c.0 s c.3.0 u c.1 c.2 r c.3.1 c.3.2 c.4 c.5

-- a search n of lists that ends with v at the first that passes p, and with d where none does
module _ {S A B C F : Type 0} (view : A → B) (rest : S → List B) (g : Mut F (Bor A × Unit {0}) Bool) (p : B → Bool) (f : F)
    (n : List B → C) (d : C) (v : B → C) where
  abbrev pub TestsAt : Type 0
  TestsAt = (x : A) (b : Bool) (h : F) → CalledAt g f x b h → (h ≡ f) × (b ≡ p (view x))

  find_walked : (none : n [] ≡ d) (hit : (b : B) (l : List B) → p b ≡ true → n (b ∷ l) ≡ v b) (miss : (b : B) (l : List B) → p b ≡ false → n (b ∷ l) ≡ n l)
      → TestsAt → (xs : List A) (s t u : S) (o : Option A) (q : F)
      → Yields (YieldsFirstBy view rest) s xs t → YieldsFirstBy view rest t o u → FoldsTo (λ h x k. CalledAt g h x false k) f xs q
      → IfSome o (λ x. (h : F) × CalledAt g q x true h) → MatchOption o (n (rest s) ≡ d) (λ x. n (rest s) ≡ v (view x))
  find_walked none hit miss k [] s t u None q y e c m = ap n (ap rest y ∙ e.0) ∙ none
  find_walked none hit miss k [] s t u (Some x) q y e c m =
      let z = k x true m.0 (subst (λ h. CalledAt g h x true m.0) (sym c) m.1) in
      ap n (ap rest y ∙ e) ∙ hit (view x) (rest u) (sym z.1)
  find_walked none hit miss k (x ∷ xs) s t u o q y e c m =
      let z = k x false c.0 c.1 in
      let w = ap n y.1 ∙ miss (view x) (rest y.0) (sym z.1) in
      let after = find_walked none hit miss k xs y.0 t u o q y.2 e (subst (λ h. FoldsTo (λ h x k. CalledAt g h x false k) h xs q) z.0 c.2) m in
      subst (λ a. MatchOption o (a ≡ d) (λ x. a ≡ v (view x))) (sym w) after

module _ {S A B C F : Type 0} (view : A → B) (rest : S → List B) {g : Mut F (Bor A × Unit {0}) Bool} (p : B → Bool)
    (n : List B → C) (d : C) (v : B → C) {s : S} {f : F} (u : S) (o : Option A) where
  pub find_of : FindsItem (YieldsFirstBy view rest) g s f o u → TestsAt view rest g p f n d v → (none : n [] ≡ d)
      → (hit : (b : B) (l : List B) → p b ≡ true → n (b ∷ l) ≡ v b) → (miss : (b : B) (l : List B) → p b ≡ false → n (b ∷ l) ≡ n l)
      → MatchOption o (n (rest s) ≡ d) (λ x. n (rest s) ≡ v (view x))
  find_of c k none hit miss = find_walked view rest g p f n d v none hit miss k c.0 s c.2.0 u o c.1 c.2.1 c.2.2 c.3 c.4
