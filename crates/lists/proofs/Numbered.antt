-- Numbers for threads: nobody is 255.
use mathlib.Core.Path.{◌≡◌, refl, sym}
use mathlib.Core.Logic.{◌⊎◌, inl, inr, ◌≢◌}
use mathlib.Core.Option.{Option, none, some}
use Prim.Native.Nat.{ℕ, ◌<◌}
use native.Mathlib.Omega.{arith}
use borrow.Author.Tests.{ne_eqb}
use lib.Dec.{eqb}
use Rattle.model.specs.Searches.{same}
use Rattle.model.proofs.Tests.{equal?}
use Rattle.lists.specs.Lists.{numbered, thread_of}

-- every number but 255 is the thread's own

pub numbered-thread_of : (n : ℕ) → numbered (thread_of n) ≡ n
numbered-thread_of n = go (equal? n 255)
  where
    go : (n ≡ 255) ⊎ (n ≢ 255) → numbered (thread_of n) ≡ n
    go (inl e) = rw e
    go (inr d) = rw (ne_eqb n 255 d)

pub thread_of-numbered : (o : Option ℕ) → ((t : ℕ) → o ≡ some t → t < 255) → thread_of (numbered o) ≡ o
thread_of-numbered none h = refl
thread_of-numbered (some t) h = let k = h t refl in rw (ne_eqb t 255 (λ e. omega arith))

-- numbers are equal where threads are the same

pub same_numbers : (a b : ℕ) → same (thread_of a) (thread_of b) ≡ eqb a b
same_numbers a b = go (equal? a 255) (equal? b 255)
  where
    go : (a ≡ 255) ⊎ (a ≢ 255) → (b ≡ 255) ⊎ (b ≢ 255) → same (thread_of a) (thread_of b) ≡ eqb a b
    go (inl e) (inl f) = rw (e, f)
    go (inl e) (inr d) = rw (e, ne_eqb b 255 d) (sym (ne_eqb 255 b (λ q. d (sym q))))
    go (inr d) (inl f) = rw (f, ne_eqb a 255 d)
    go (inr d) (inr g) = rw (ne_eqb a 255 d, ne_eqb b 255 g)

pub number_is : (o : Option ℕ) (t : ℕ) → t ≢ 255 → eqb (numbered o) t ≡ same o (some t)
number_is none t d = ne_eqb 255 t (λ e. d (sym e))
number_is (some u) t d = refl
