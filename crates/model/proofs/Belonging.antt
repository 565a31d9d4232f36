-- The Won or Lost that belongs to a Take or Give is the first report that it made due; and what is due gets written.
use mathlib.Core.Path.{◌≡◌, ap, sym, subst, ◌∙◌}
use mathlib.Core.Logic.{◌⊎◌, inl, inr, ◌≢◌}
use mathlib.Core.Bool.{not}
use mathlib.Core.List.{List, [], ◌∷◌, ◌++◌, cons≢nil, head-eq_of_cons-eq, tail-eq_of_cons-eq}
use mathlib.Core.Option.{Option, some}
use Prim.Native.Nat.{ℕ, zero, suc, ◌+◌, ◌-◌, ◌≤◌, ◌<◌}
use native.Mathlib.Omega.{arith}
use lib.Dec.{T, leb, leb→le, nleb→lt, T_not}
use lib.ListN.{length}
use Rattle.model.specs.Searches.{all}
use Rattle.model.specs.Plan.{Plan}
use Rattle.model.specs.Records.{Call, Take, Give, Report, Won, Lost, Record, call, report, report_kind, is_switch, is_tick}
use Rattle.model.specs.State.{without_switch}
use Rattle.model.specs.Words.{Is, TakeOrGive, Belongs}
use Rattle.model.proofs.Tests.{split, is_true, and_left, and_right, equal?}
use Rattle.model.proofs.Searches.{all_at, all_append, filtered, all_in}
use Rattle.model.proofs.Holdings.{call_of}
use Rattle.model.proofs.Dues.{plain, plain_else, Grows, behind, afresh, given, grows}
use Rattle.model.proofs.Numbered.{look, below, same_record}
use Rattle.model.proofs.Trace.{Trace, invariant, idle-take_or_give, first_is_due}

-- no Won or Lost is due, or d is the only one, first
abbrev Front : Report → List Report → Type 0
Front d due = T (all plain due) ⊎ ((ds : List Report) × (due ≡ d ∷ ds) × T (all plain ds) × T (not (plain d)))

-- a Won or Lost in front stays there when a Switch is dropped
won_or_lost_stays : (d : Report) (ds : List Report) → T (not (plain d)) → without_switch (d ∷ ds) ≡ d ∷ without_switch ds
won_or_lost_stays d ds n = rw (is_true (not (is_switch d)) (plain_else d n))

plain_stays : (due : List Report) → T (all plain due) → T (all plain (without_switch due))
plain_stays due t = all_in plain (without_switch due) (λ d m. all_at plain due t (filtered (λ d. not (is_switch d)) due m).0)

module _ (p : Plan) (rs : List Record) (tr : Trace p rs) where
  grows_at : (k : ℕ) (h : k < length rs) → Grows (tr.at k) (look rs k h).0 (tr.at (suc k))
  grows_at k h = let r = look rs k h in grows p (tr.at k) (invariant p rs tr k (omega arith)) (tr.moves k r.0 r.1)

  -- while no Take or Give comes, the front stays or is given
  front_on : (d : Report) (k : ℕ) → k < length rs → (TakeOrGive rs k → ⊥) → Front d (tr.at k).due → Front d (tr.at (suc k)).due
  front_on d k h none_here f = go (grows_at k h) f
    where
      r : (r : Record) × Is rs k r
      r = look rs k h

      take_or_give_lem : (s : ℕ) → (r.0 ≡ call (Take s)) ⊎ (r.0 ≡ call (Give s)) → TakeOrGive rs k
      take_or_give_lem s (inl e) = (s, inl (r.1 ∙ ap {B = Option Record} some e))
      take_or_give_lem s (inr e) = (s, inr (r.1 ∙ ap {B = Option Record} some e))

      go : Grows (tr.at k) r.0 (tr.at (suc k)) → Front d (tr.at k).due → Front d (tr.at (suc k)).due
      go (behind c reps e i t q) (inl u) = inl (rw q (all_append plain (without_switch (tr.at k).due) reps (plain_stays (tr.at k).due u) t))
      go (behind c reps e i t q) (inr u) =
          inr (without_switch u.0 ++ reps, q ∙ ap (λ (l : List Report). l ++ reps) (ap without_switch u.1 ∙ won_or_lost_stays d u.0 u.3), all_append plain (without_switch u.0) reps (plain_stays u.0 u.2) t, u.3)
      go (afresh s x reps e i n t q f) u = absurd (none_here (take_or_give_lem s e))
      go (given x e q) (inl u) = inl (and_right (plain x) (all plain (tr.at (suc k)).due) (rw q at u))
      go (given x e q) (inr u) = inl (rw (tail-eq_of_cons-eq (sym q ∙ u.1)) u.2)

  front_through : (d : Report) (a : ℕ) → Front d (tr.at a).due → (k : ℕ) → a ≤ k → k ≤ length rs → ((e : ℕ) → a ≤ e → e < k → TakeOrGive rs e → ⊥) → Front d (tr.at k).due
  front_through d a f zero h n none_here = let q : a ≡ 0 = omega arith in subst (λ (j : ℕ). Front d (tr.at j).due) q f
  front_through d a f (suc k) h n none_here = go (equal? a (suc k)) (λ x. front_through d a f k x (omega arith) (λ e y z t. none_here e y (omega arith) t))
    where
      go : (a ≡ suc k) ⊎ (a ≢ suc k) → (a ≤ k → Front d (tr.at k).due) → Front d (tr.at (suc k)).due
      go (inl q) g = subst (λ (j : ℕ). Front d (tr.at j).due) q f
      go (inr q) g = front_on d k n (none_here k (omega arith) (omega arith)) (g (omega arith))

  pub belongs_first : (i j : ℕ) (e : Report) → Is rs j (report e) → T (not (plain e)) → Belongs rs j i → (ds : List Report) × ((tr.at (suc i)).due ≡ e ∷ ds)
  belongs_first i j e is n b = go (grows_at i i<)
    where
      h : j < length rs
      h = below rs j (report e) is

      i< : i < length rs
      i< = omega (arith, h, b.before)

      idle : (tr.at i).due ≡ []
      idle = idle-take_or_give p rs tr i b.take_or_give

      at_j : (ds : List Report) × ((tr.at j).due ≡ e ∷ ds)
      at_j = first_is_due p rs tr j e is

      -- what was in front after record i is still in front at j
      end : (d : Report) → Front d (tr.at (suc i)).due → d ≡ e
      end d f = last (front_through d (suc i) f j b.before (omega (arith, h)) b.latest)
        where
          last : Front d (tr.at j).due → d ≡ e
          last (inl t) = absurd (T_not (plain e) n (and_left (plain e) (all plain at_j.0) (rw at_j.1 at t)))
          last (inr u) = head-eq_of_cons-eq (sym u.1 ∙ at_j.1)

      go : Grows (tr.at i) (look rs i i<).0 (tr.at (suc i)) → (ds : List Report) × ((tr.at (suc i)).due ≡ e ∷ ds)
      go (behind c reps x k t q) = absurd (omega (arith, ap report_kind (end (Won 0) (inl (rw (q, idle) t))), ap report_kind (end (Lost 0) (inl (rw (q, idle) t)))))
      go (afresh s d reps x k n t q f) = (reps, q ∙ ap {B = List Report} (λ y. y ∷ reps) (end d (inr (reps, q, t, n))))
      go (given d x q) = absurd (cons≢nil (sym q ∙ idle))

  -- a Won or Lost first due is written by the time that nothing is due, with only Ticks before it
  pub record Written (a k : ℕ) (d : Report) : Type 0 where
    pub place : ℕ
    pub from : a ≤ place
    pub before : place < k
    pub is : Is rs place (report d)
    pub ticks : (e : ℕ) → a ≤ e → e < place → (c : Call) × T (is_tick c) × Is rs e (call c)

  written : (m a k : ℕ) (d : Report) (ds : List Report) → T (not (plain d)) → a + m ≡ k → (tr.at a).due ≡ d ∷ ds → k ≤ length rs → (tr.at k).due ≡ [] → Written a k d
  written zero a k d ds v h e n q = let z : a ≡ k = omega arith in absurd (cons≢nil (sym e ∙ ap (λ (x : ℕ). (tr.at x).due) z ∙ q))
  written (suc m) a k d ds v h e n q = go (grows_at a a<) (λ l x. written m (suc a) k d l v (omega arith) x n q)
    where
      a< : a < length rs
      a< = omega arith

      r : (r : Record) × Is rs a r
      r = look rs a a<

      go : Grows (tr.at a) r.0 (tr.at (suc a)) → ((l : List Report) → (tr.at (suc a)).due ≡ d ∷ l → Written (suc a) k d) → Written a k d
      go (behind c reps x (inl t) u z) ih =
          record { place = w.place; from = omega (arith, w.from); before = w.before; is = w.is; ticks = λ y f g. ticks y f g (equal? y a) }
        where
          w : Written (suc a) k d
          w = ih (without_switch ds ++ reps) (z ∙ ap (λ (l : List Report). l ++ reps) (ap without_switch e ∙ won_or_lost_stays d ds v))

          ticks : (y : ℕ) → a ≤ y → y < w.place → (y ≡ a) ⊎ (y ≢ a) → (c : Call) × T (is_tick c) × Is rs y (call c)
          ticks y f g (inl o) = (c, t, subst (λ (j : ℕ). Is rs j (call c)) (sym o) (r.1 ∙ ap {B = Option Record} some x))
          ticks y f g (inr o) = w.ticks y (omega arith) g
      go (behind c reps x (inr i) u z) ih = absurd (cons≢nil (sym e ∙ i))
      go (afresh s x reps i y n' t z f) ih = absurd (cons≢nil (sym e ∙ y))
      go (given x y z) ih =
          record { place = a; from = omega arith; before = omega arith; is = r.1 ∙ ap {B = Option Record} some (y ∙ ap report (head-eq_of_cons-eq (sym z ∙ e))); ticks = λ y f g. absurd (omega arith) }

  -- a moment at or after k when nothing is due
  pub record Moment (k : ℕ) : Type 0 where
    pub when : ℕ
    pub later : k ≤ when
    pub within : when ≤ length rs
    pub idle : (tr.at when).due ≡ []

  pub write : (a : ℕ) (d : Report) (ds : List Report) (m : Moment a) → T (not (plain d)) → (tr.at a).due ≡ d ∷ ds → Written a m.when d
  write a d ds m v e = let z : a + (m.when - a) ≡ m.when = omega (arith, m.later) in written (m.when - a) a m.when d ds v z e m.within m.idle

  -- a Tick is no Take or Give
  not_tick : (k : ℕ) (c : Call) → T (is_tick c) → Is rs k (call c) → TakeOrGive rs k → ⊥
  not_tick k c t i (s, inl e) = subst (λ (r : Record). T (is_tick (call_of r))) (same_record rs k (call c) (call (Take s)) i e) t
  not_tick k c t i (s, inr e) = subst (λ (r : Record). T (is_tick (call_of r))) (same_record rs k (call c) (call (Give s)) i e) t

  pub written_belongs : (i k : ℕ) (d : Report) (w : Written (suc i) k d) → TakeOrGive rs i → Belongs rs w.place i
  written_belongs i k d w t = record { before = w.from; take_or_give = t; latest = λ e x y u. let c = w.ticks e x y in not_tick e c.0 c.1 c.2 u }

  -- a Take or Give before a report is not after the one that the report belongs to
  pub not_after : (i g j : ℕ) → TakeOrGive rs i → i < j → Belongs rs j g → i ≤ g
  not_after i g j t h b = go (split (leb i g))
    where
      go : T (leb i g) ⊎ T (not (leb i g)) → i ≤ g
      go (inl x) = leb→le i g x
      go (inr x) = absurd (b.latest i (nleb→lt i g x) h t)
