-- A number inside a range, beneath it and beyond it.
use mathlib.Core.Path.{◌≡◌}
use mathlib.Core.Bool.{true, false}
use Prim.Native.Nat.{ℕ, ◌≤◌, ◌<◌}
use borrow.Author.Tests.{le-leb, lt-leb}
use Rattle.plan.specs.Bytes.{between}

pub inside : (low high n : ℕ) → low ≤ n → n ≤ high → between low high n ≡ true
inside low high n a b = rw (le-leb low n a, le-leb n high b)

pub beneath : (low high n : ℕ) → n < low → between low high n ≡ false
beneath low high n a = rw (lt-leb low n a)

pub beyond : (low high n : ℕ) → low ≤ n → high < n → between low high n ≡ false
beyond low high n a b = rw (le-leb low n a, lt-leb n high b)
