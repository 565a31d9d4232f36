-- What a report of the code stands for, by the number of its kind.
use mathlib.Core.Path.{◌≡◌, refl, ap, sym, ◌∙◌}
use mathlib.Core.Logic.{◌⊎◌, inl, inr, ◌≢◌}
use mathlib.Core.Bool.{false, ◌&&◌, ◌||◌}
use mathlib.Core.List.{List, [], ◌∷◌, map}
use mathlib.Core.Option.{Option}
use Prim.Native.Nat.{ℕ, suc, ◌%◌, ◌≤◌, ◌<◌}
use native.Mathlib.Nat.{mod-eq_of_lt}
use native.Mathlib.Omega.{arith}
use borrow.Author.Tests.{ne_eqb}
use lib.Dec.{T, eqb, ltb→lt}
use Rattle.model.specs.Searches.{same, any}
use Rattle.model.specs.Plan.{Plan, threads}
use Rattle.model.specs.Records.{Switch, Yield, report, report_kind, operand, nobody, operand_thread, is_thread, allowed, is_switch, is_expire}
use Rattle.model.specs.State.{switched_to}
use Rattle.model.proofs.Tests.{equal?}
use Rattle.due.specs.declared.reports.Report.{Report}
use Rattle.due.specs.Lists.{thread_of, report_of, IsReport, switch_to}

-- a number from n on that is not n, and one that is past the last kind

beyond : (n k : ℕ) → n ≤ k → k ≢ n → suc n ≤ k
beyond n k h d = omega arith

no_other : (k : ℕ) → k ≤ 22 → 23 ≤ k → ⊥
no_other k a b = omega arith

module _ (r : Report) where
  -- what holds of each of the seven kinds, and of a number that names no kind, holds
  pub by_kind : (P : Type 0) → (r.kind ≡ 16 → P) → (r.kind ≡ 17 → P) → (r.kind ≡ 18 → P) → (r.kind ≡ 19 → P) → (r.kind ≡ 20 → P) → (r.kind ≡ 21 → P) → (r.kind ≡ 22 → P)
      → ((IsReport r → ⊥) → report_of r ≡ Yield nobody → P)
      → P
  by_kind P a b c d e f g x = go (equal? r.kind 16) (equal? r.kind 17) (equal? r.kind 18) (equal? r.kind 19) (equal? r.kind 20) (equal? r.kind 21) (equal? r.kind 22)
    where
      Either : ℕ → Type 0
      Either n = (r.kind ≡ n) ⊎ (r.kind ≢ n)

      go : Either 16 → Either 17 → Either 18 → Either 19 → Either 20 → Either 21 → Either 22 → P
      go (inl k) w h l y i j = a k
      go (inr n) (inl k) h l y i j = b k
      go (inr n) (inr m) (inl k) l y i j = c k
      go (inr n) (inr m) (inr o) (inl k) y i j = d k
      go (inr n) (inr m) (inr o) (inr p) (inl k) i j = e k
      go (inr n) (inr m) (inr o) (inr p) (inr q) (inl k) j = f k
      go (inr n) (inr m) (inr o) (inr p) (inr q) (inr s) (inl k) = g k
      go (inr n) (inr m) (inr o) (inr p) (inr q) (inr s) (inr t) =
          x (λ i. no_other r.kind i.most (beyond 22 r.kind (beyond 21 r.kind (beyond 20 r.kind (beyond 19 r.kind (beyond 18 r.kind (beyond 17 r.kind (beyond 16 r.kind i.least n) m) o) p) q) s) t))
          (rw (ne_eqb r.kind 16 n, ne_eqb r.kind 17 m, ne_eqb r.kind 18 o, ne_eqb r.kind 19 p, ne_eqb r.kind 20 q, ne_eqb r.kind 21 s, ne_eqb r.kind 22 t))

  -- a Switch given names the thread reported, and no other report does

  pub switches : (o : Option ℕ) → r.kind ≡ 17 → switched_to o (report_of r) ≡ operand_thread r.operand
  switches o e = rw e

  pub switches_not : (o : Option ℕ) → r.kind ≢ 17 → switched_to o (report_of r) ≡ o
  switches_not o n =
      by_kind (switched_to o (report_of r) ≡ o) (λ e. rw e) (λ e. absurd (n e)) (λ e. rw e) (λ e. rw e) (λ e. rw e) (λ e. rw e) (λ e. rw e) (λ i e. ap (switched_to o) e)

  module _ (p : Plan) (h : threads p ≤ 16) (t : T (allowed p (report (report_of r)))) where
    -- a report that a plan allows is of one of the seven kinds
    pub is_report_lem : IsReport r
    is_report_lem =
        by_kind (IsReport r)
        (λ e. record { least = omega arith; most = omega arith })
        (λ e. record { least = omega arith; most = omega arith })
        (λ e. record { least = omega arith; most = omega arith })
        (λ e. record { least = omega arith; most = omega arith })
        (λ e. record { least = omega arith; most = omega arith })
        (λ e. record { least = omega arith; most = omega arith })
        (λ e. record { least = omega arith; most = omega arith })
        (λ i e. absurd (omega (arith, ltb→lt nobody (threads p) (rw e at t))))

    -- the low byte of a Switch's operand is the number of the thread that it names, 255 for nobody
    pub names_one : r.kind ≡ 17 → thread_of (r.operand % 256) ≡ operand_thread r.operand
    names_one k = go (equal? r.operand nobody)
      where
        known : T (is_thread p (operand_thread r.operand))
        known = rw k at t

        go : (r.operand ≡ nobody) ⊎ (r.operand ≢ nobody) → thread_of (r.operand % 256) ≡ operand_thread r.operand
        go (inl e) = rw e
        go (inr d) =
            let b : r.operand < 16 = omega (arith, ltb→lt r.operand (threads p) (rw (ne_eqb r.operand nobody d) at known)) in
            let z : r.operand % 256 ≡ r.operand = mod-eq_of_lt (omega arith) in
            rw (z, ne_eqb r.operand nobody d, ne_eqb r.operand 255 (λ e. omega arith))

  -- a Switch, and an Expire of a timer, by kind and operand

  not_kind : (n : ℕ) → 16 ≤ n → n ≤ 22 → (IsReport r → ⊥) → eqb r.kind n ≡ false
  not_kind n a b i = ne_eqb r.kind n (λ e. i (record { least = omega arith; most = omega arith }))

  pub switch_is : is_switch (report_of r) ≡ eqb r.kind 17
  switch_is =
      by_kind (is_switch (report_of r) ≡ eqb r.kind 17) (λ e. rw e) (λ e. rw e) (λ e. rw e) (λ e. rw e) (λ e. rw e) (λ e. rw e) (λ e. rw e)
      (λ i e. ap is_switch e ∙ sym (not_kind 17 (omega arith) (omega arith) i))

  pub expire_is : (i : ℕ) → is_expire i (report_of r) ≡ eqb r.kind 21 && eqb r.operand i
  expire_is i =
      by_kind (is_expire i (report_of r) ≡ eqb r.kind 21 && eqb r.operand i) (λ e. rw e) (λ e. rw e) (λ e. rw e) (λ e. rw e) (λ e. rw e) (λ e. rw e) (λ e. rw e)
      (λ k e. ap (is_expire i) e ∙ ap (λ b. b && eqb r.operand i) (sym (not_kind 21 (omega arith) (omega arith) k)))

  pub kind_is : IsReport r → report_kind (report_of r) ≡ r.kind
  kind_is i = by_kind (report_kind (report_of r) ≡ r.kind) (λ e. rw e) (λ e. rw e) (λ e. rw e) (λ e. rw e) (λ e. rw e) (λ e. rw e) (λ e. rw e) (λ n e. absurd (n i))

-- the Switch to a thread by its number names it
pub switch_to_lem : (x : ℕ) → x < 256 → report_of (switch_to x) ≡ Switch (thread_of x)
switch_to_lem x h = go (equal? x 255)
  where
    go : (x ≡ 255) ⊎ (x ≢ 255) → report_of (switch_to x) ≡ Switch (thread_of x)
    go (inl e) = rw e
    go (inr d) = rw (ne_eqb x 255 d, ne_eqb x nobody (λ e. omega arith))

-- numbers name the same thread where they are equal
same_number : (m n : ℕ) → same (operand_thread m) (operand_thread n) ≡ eqb m n
same_number m n = go (equal? m nobody) (equal? n nobody)
  where
    go : (m ≡ nobody) ⊎ (m ≢ nobody) → (n ≡ nobody) ⊎ (n ≢ nobody) → same (operand_thread m) (operand_thread n) ≡ eqb m n
    go (inl e) (inl f) = rw (e, f)
    go (inl e) (inr g) = rw (e, ne_eqb n nobody g) (sym (ne_eqb nobody n (λ q. g (sym q))))
    go (inr d) (inl f) = rw (f, ne_eqb m nobody d)
    go (inr d) (inr g) = rw (ne_eqb m nobody d, ne_eqb n nobody g)

-- two reports of one kind have the same operand where their numbers for it are equal
pub same_operand : (a b : Report) → IsReport a → a.kind ≡ b.kind → same (operand (report_of a)) (operand (report_of b)) ≡ eqb a.operand b.operand
same_operand a b i k =
    by_kind a (same (operand (report_of a)) (operand (report_of b)) ≡ eqb a.operand b.operand)
    (λ e. rw (← k, e)) (λ e. rw (← k, e) (same_number a.operand b.operand)) (λ e. rw (← k, e)) (λ e. rw (← k, e)) (λ e. rw (← k, e)) (λ e. rw (← k, e)) (λ e. rw (← k, e))
    (λ n e. absurd (n i))

-- whether an Expire of a timer is among reports, by kind and operand
pub expires_of : (i : ℕ) (l : List Report) → any (λ r. eqb r.kind 21 && eqb r.operand i) l ≡ any (is_expire i) (map report_of l)
expires_of i [] = refl
expires_of i (r ∷ l) = rw (expire_is r i) (ap (λ b. (eqb r.kind 21 && eqb r.operand i) || b) (expires_of i l))
