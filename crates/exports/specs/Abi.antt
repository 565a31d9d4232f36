-- The number that a caller compares with its header: it rises whenever the layout of the watch state or the signature of a function moves.
use Rattle.std.specs.Prelude.{ℕ}

abbrev pub abi : ℕ
abi = 4
