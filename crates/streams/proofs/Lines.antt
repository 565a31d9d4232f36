-- A line by its word and what its numbers put behind it.
use Rattle.std.proofs.Common.{◌≡◌, ℕ, List, [], ◌∷◌, ◌++◌, refl, ap, sym, ◌∙◌, append_assoc, map}
use Rattle.std.specs.List.{flat_map}
use Rattle.streams.specs.Text.{ascii, decimal, spaced, line}

pub line_by_spaced : (word : List ℕ) (numbers : List ℕ) → line (word ∷ map decimal numbers) ≡ word ++ (flat_map spaced numbers ++ ascii "\n")
line_by_spaced word [] = refl
line_by_spaced word (n ∷ ns) =
    let rest = flat_map spaced ns in
    ap (λ l. word ++ 32 ∷ l) (line_by_spaced (decimal n) ns ∙ sym (append_assoc (decimal n) rest (10 ∷ [])))
