-- The dumps of run A and of P12 as bytes.
use Rattle.std.specs.Prelude.{List, [], ◌∷◌, ◌++◌, ℕ, replicate}

-- Run A. Dump: `11 00`, kinds `01 10 11 05 12 01 10 11 05 13 11 01 10 06 12 10 11`, operands as
-- numbers 0 0 0 0 0 2 2 2 0 2 0 1 1 0 2 2 2, here each in its two bytes.

abbrev pub dump_a_bytes : List ℕ
dump_a_bytes =
    0x11 ∷ 0x00
    ∷ 0x01 ∷ 0x10 ∷ 0x11 ∷ 0x05 ∷ 0x12 ∷ 0x01 ∷ 0x10 ∷ 0x11 ∷ 0x05 ∷ 0x13 ∷ 0x11 ∷ 0x01 ∷ 0x10 ∷ 0x06 ∷ 0x12 ∷ 0x10 ∷ 0x11
    ∷ 0 ∷ 0 ∷ 0 ∷ 0 ∷ 0 ∷ 0 ∷ 0 ∷ 0 ∷ 0 ∷ 0 ∷ 2 ∷ 0 ∷ 2 ∷ 0 ∷ 2 ∷ 0 ∷ 0 ∷ 0 ∷ 2 ∷ 0 ∷ 0 ∷ 0 ∷ 1 ∷ 0 ∷ 1 ∷ 0 ∷ 0 ∷ 0 ∷ 2 ∷ 0 ∷ 2 ∷ 0 ∷ 2 ∷ 0
    ∷ []

-- P12. 264 records: Create, Ready, Switch; Delay, its bytes `00 01`, and Switch 65535; 257 Ticks; Ready,
-- Switch. Every other operand is 0.

abbrev pub dump12_bytes : List ℕ
dump12_bytes =
    0x08 ∷ 0x01
    ∷ 0x01 ∷ 0x10 ∷ 0x11 ∷ 0x02 ∷ 0x11 ∷ replicate 257 0x07 ++ 0x10 ∷ 0x11
    ∷ 0x00 ∷ 0x00 ∷ 0x00 ∷ 0x00 ∷ 0x00 ∷ 0x00 ∷ 0x00 ∷ 0x01 ∷ 0xFF ∷ 0xFF ∷ replicate 514 0x00 ++ 0x00 ∷ 0x00 ∷ 0x00 ∷ 0x00
    ∷ []
