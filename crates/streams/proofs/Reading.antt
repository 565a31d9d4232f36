-- What reads leave in a buffer, of an input whose bytes are known.
use Rattle.std.proofs.Common.{◌≡◌, ℕ, ◌+◌, ◌≤◌, List, ◌++◌, None, Some, IfSome, subst, Ok, Err, Result, arith, length, take, ap, ap₂, ◌∙◌, le_refl, drop_at, length-take-le}
use Rattle.std.proofs.lemmas.Bool.Decides.{nat_tests}
use Rattle.std.proofs.lemmas.Slice.{take-put_mid_below}
use Rattle.std.specs.Prelude.{Option}
use Rattle.std.specs.declared.io.Error.{Error}
use borrow.Rule.Slice.PartMut.{put_mid, post_of}
use lib.Seq.{take-add, take-append-le}
use Rattle.streams.specs.Input.{meaning_of}

-- a read that moved n bytes answered n
pub moved : (r : Result ℕ Error) (n : ℕ) → meaning_of r ≡ Ok (Some n) → r ≡ Ok n
moved (Ok m) n e = grind (arith, nat_tests)
moved (Err x) n e = grind arith

-- the front of a buffer after n bytes of a read into the room behind it
pub behind : (at room n : ℕ) (buf got : List ℕ) → at ≤ length buf → n ≤ length got → take (at + n) (put_mid at room buf got) ≡ take at buf ++ take n got
behind at room n buf got within fits =
    take-add at n (put_mid at room buf got)
    ∙ ap₂ (λ u v. u ++ v) (take-put_mid_below at room buf got at (le_refl at) within)
    (ap (take n) (drop_at (take at buf) (got ++ post_of at room buf) at (length-take-le at buf within)) ∙ take-append-le n got (post_of at room buf) fits)

-- what is told of the bytes read of a known input is told of the whole input, where the cut at the buffer's end tells the same
pub read_same : {A : Type 0} (tell : List ℕ → A) (P : A → Type 0) (known : Option (List ℕ)) (n size : ℕ) (buf : List ℕ) → ((input : List ℕ) → tell (take size input) ≡ tell input)
    → length buf ≡ size → IfSome known (λ input. take n buf ≡ take (length buf) input) → P (tell (take n buf)) → IfSome known (λ input. P (tell input))
read_same tell P None n size buf same long read p = tt
read_same tell P (Some input) n size buf same long read p = subst P (ap tell (read ∙ ap (λ k. take k input) long) ∙ same input) p
