-- Laws of a loop that counts i up to n: what is done so far and the numbers that are left give the answer.
use mathlib.Core.Path.{◌≡◌, refl, ap, sym, ◌∙◌}
use mathlib.Core.Logic.{◌⊎◌, inl, inr, ◌≢◌}
use mathlib.Core.Bool.{Bool, true, false, cond, ◌&&◌}
use mathlib.Core.List.{List, [], ◌∷◌, ◌++◌, map, append_assoc, append-nil}
use Prim.Native.Nat.{ℕ, zero, suc, ◌+◌, ◌-◌, ◌≤◌, ◌<◌, max}
use native.Mathlib.Numerals.{add-one}
use native.Mathlib.Omega.{arith}
use lib.Dec.{T}
use lib.ListN.{length, get_or, take, set, length-map, length-set, get_or-eq_default}
use lib.Seq.{take-suc-set, get_or-set_same, get_or-set_other, ext_get_or}
use Rattle.model.specs.Searches.{all, filter, greatest, count_from, up_to}
use Rattle.model.proofs.Tests.{is_true, from_true, and_left, and_right, and_both, equal?}

-- the numbers from i on that are below n
abbrev pub left : (i n : ℕ) → List ℕ
left i n = count_from i (n - i)

-- Whatever h makes of the numbers that are left: at the start, in a turn, and at the end of the loop. Every law below is made of these.
module _ {ℓ} {R : Type ℓ} (h : List ℕ → R) (n : ℕ) where
  pub begin : h (left 0 n) ≡ h (up_to n)
  begin = let z : n - 0 ≡ n = omega arith in ap (λ k. h (count_from 0 k)) z

  pub turn : (i : ℕ) → i < n → h (left i n) ≡ h (i ∷ left (i + 1) n)
  turn i k = let z : n - i ≡ suc (n - suc i) = omega arith in rw add-one (ap (λ j. h (count_from i j)) z)

  pub done : (i : ℕ) → n ≤ i → h (left i n) ≡ h []
  done i k = let z : n - i ≡ 0 = omega arith in ap (λ j. h (count_from i j)) z

pub and_true : (a : Bool) → a && true ≡ a
and_true true = refl
and_true false = refl

and_false : (a : Bool) → a && false ≡ false
and_false true = refl
and_false false = refl

-- a loop that asks whether all pass: whether all that are left pass is whether all pass
module _ {A : Type 0} (f : A → Bool) (g : ℕ → A) (n : ℕ) where
  abbrev pub AllLeft : ℕ → Type 0
  AllLeft i = all f (map g (left i n)) ≡ all f (map g (up_to n))

  pub all_begin : AllLeft 0
  all_begin = begin (λ l. all f (map g l)) n

  module _ (i : ℕ) (k : i < n) (inv : AllLeft i) where
    turned : f (g i) && all f (map g (left (i + 1) n)) ≡ all f (map g (up_to n))
    turned = sym (turn (λ l. all f (map g l)) n i k) ∙ inv

    pub passed : f (g i) ≡ true → AllLeft (i + 1)
    passed e = rw e at turned

    pub failed : f (g i) ≡ false → false ≡ all f (map g (up_to n))
    failed e = rw e at turned

  pub all_passed : (i : ℕ) → n ≤ i → AllLeft i → true ≡ all f (map g (up_to n))
  all_passed i k inv = sym (done (λ l. all f (map g l)) n i k) ∙ inv

  -- the same loop without an early end: whether all so far passed, and all that are left. It begins with `all_begin`, at true.
  abbrev pub AllPass : (i : ℕ) (pass : Bool) → Type 0
  AllPass i pass = pass && all f (map g (left i n)) ≡ all f (map g (up_to n))

  module _ (i : ℕ) (pass : Bool) (k : i < n) (inv : AllPass i pass) where
    turned_on : pass && (f (g i) && all f (map g (left (i + 1) n))) ≡ all f (map g (up_to n))
    turned_on = sym (turn (λ l. pass && all f (map g l)) n i k) ∙ inv

    pub pass_kept : (next : Bool) → next ≡ pass → f (g i) ≡ true → AllPass (i + 1) next
    pass_kept next q e = rw q (rw e at turned_on)

    pub pass_lost : (next : Bool) → next ≡ false → f (g i) ≡ false → AllPass (i + 1) next
    pass_lost next q e = rw q (sym (and_false pass) ∙ (rw e at turned_on))

  pub all_asked : (i : ℕ) (pass : Bool) → n ≤ i → AllPass i pass → pass ≡ all f (map g (up_to n))
  all_asked i pass k inv = sym (and_true pass) ∙ sym (done (λ l. pass && all f (map g l)) n i k) ∙ inv

  -- where all of more numbers pass, all pass
  pub all_of_more : (m : ℕ) → n ≤ m → all f (map g (up_to m)) ≡ true → all f (map g (up_to n)) ≡ true
  all_of_more m h e = is_true (all f (map g (up_to n))) (fewer 0 n m h (from_true (all f (map g (up_to m))) e))
    where
      fewer : (i few many : ℕ) → few ≤ many → T (all f (map g (count_from i many))) → T (all f (map g (count_from i few)))
      fewer i zero many h t = tt
      fewer i (suc few) zero h t = absurd (omega arith)
      fewer i (suc few) (suc many) h t =
          and_both (f (g i)) (all f (map g (count_from (suc i) few))) (and_left (f (g i)) (all f (map g (count_from (suc i) many))) t)
          (fewer (suc i) few many (omega arith) (and_right (f (g i)) (all f (map g (count_from (suc i) many))) t))

-- a loop that finds the greatest value of those that pass: the greater of the top so far and the greatest of those left
module _ (p : ℕ → Bool) (f : ℕ → ℕ) (n : ℕ) where
  abbrev pub TopLeft : (i top : ℕ) → Type 0
  TopLeft i top = max top (greatest f (filter p (left i n))) ≡ greatest f (filter p (up_to n))

  pub top_begin : TopLeft 0 0
  top_begin = omega (arith, begin (λ l. greatest f (filter p l)) n)

  pub raised : (i top next : ℕ) → i < n → next ≡ cond (p i) (max top (f i)) top → TopLeft i top → TopLeft (i + 1) next
  raised i top next k e inv = go (p i) refl
    where
      rest : List ℕ
      rest = filter p (left (i + 1) n)

      turned : greatest f (filter p (left i n)) ≡ greatest f (cond (p i) (i ∷ rest) rest)
      turned = turn (λ l. greatest f (filter p l)) n i k

      go : (b : Bool) → p i ≡ b → TopLeft (i + 1) next
      go true q = omega (arith, rw q at turned, rw q at e)
      go false q = omega (arith, rw q at turned, rw q at e)

  pub topped : (i top : ℕ) → n ≤ i → TopLeft i top → top ≡ greatest f (filter p (up_to n))
  topped i top k inv = omega (arith, done (λ l. greatest f (filter p l)) n i k)

-- a loop that stores one entry in each turn: what is stored and what is left give the whole list
module _ {A : Type 0} (g : ℕ → A) (n : ℕ) where
  abbrev pub Filled : ℕ → List A → Type 0
  Filled i items = take i items ++ map g (left i n) ≡ map g (up_to n)

  pub fill_begin : Filled 0 []
  fill_begin = begin (map g) n

  pub stored : (i : ℕ) (items : List A) (a : A) → i < n → i < length items → a ≡ g i → Filled i items → Filled (i + 1) (set items i a)
  stored i items a k h e inv =
      rw (e, add-one, take-suc-set items i (g i) h, append_assoc, ← add-one i)
      (sym (turn (λ l. take i items ++ map g l) n i k) ∙ inv)

  pub full : (i : ℕ) (items : List A) → n ≤ i → Filled i items → take i items ≡ map g (up_to n)
  full i items k inv = sym (append-nil (take i items)) ∙ sym (done (λ l. take i items ++ map g l) n i k) ∙ inv

-- the entries of a list made by counting

listed_from : {A : Type 0} (g : ℕ → A) (j n i : ℕ) (d : A) → i < n → get_or (map g (count_from j n)) i d ≡ g (j + i)
listed_from g j zero i d h = absurd (omega arith)
listed_from g j (suc n) zero d h = ap g (omega arith)
listed_from g j (suc n) (suc i) d h = listed_from g (suc j) n i d (omega arith) ∙ ap g (omega arith)

length-count : (i n : ℕ) → length (count_from i n) ≡ n
length-count i zero = refl
length-count i (suc n) = ap suc (length-count (suc i) n)

module _ {A : Type 0} (g : ℕ → A) (n : ℕ) where
  pub listed : (i : ℕ) (d : A) → i < n → get_or (map g (up_to n)) i d ≡ g i
  listed i d h = listed_from g 0 n i d h ∙ ap g (omega arith)

  pub length-listed : length (map g (up_to n)) ≡ n
  length-listed = length-map (up_to n) g ∙ length-count 0 n

  pub unlisted : (i : ℕ) (d : A) → n ≤ i → get_or (map g (up_to n)) i d ≡ d
  unlisted i d h = get_or-eq_default (map g (up_to n)) d (omega (arith, length-listed))

-- lists made by counting: with one more number, and where what they are made of agrees

count_more : (i n : ℕ) → count_from i (suc n) ≡ count_from i n ++ ((i + n) ∷ [])
count_more i zero = let z : i ≡ i + 0 = omega arith in ap (λ k. k ∷ []) z
count_more i (suc n) =
    let z : suc i + n ≡ i + suc n = omega arith in
    ap (λ l. i ∷ l) (count_more (suc i) n ∙ ap (λ k. count_from (suc i) n ++ (k ∷ [])) z)

pub up_to_more : (n : ℕ) → up_to (n + 1) ≡ up_to n ++ (n ∷ [])
up_to_more n = rw add-one (count_more 0 n ∙ ap (λ k. up_to n ++ (k ∷ [])) (omega arith))

pub map-append : {A B : Type 0} (f : A → B) (l m : List A) → map f (l ++ m) ≡ map f l ++ map f m
map-append f [] m = refl
map-append f (a ∷ l) m = ap (λ k. f a ∷ k) (map-append f l m)

module _ {A : Type 0} where
  pub listed_more : (g : ℕ → A) (n : ℕ) → map g (up_to (n + 1)) ≡ map g (up_to n) ++ (g n ∷ [])
  listed_more g n = ap (map g) (up_to_more n) ∙ map-append g (up_to n) (n ∷ [])

  alike_from : (g h : ℕ → A) (i n : ℕ) → ((k : ℕ) → i ≤ k → k < i + n → g k ≡ h k) → map g (count_from i n) ≡ map h (count_from i n)
  alike_from g h i zero e = refl
  alike_from g h i (suc n) e = rw (e i (omega arith) (omega arith), alike_from g h (suc i) n (λ k a b. e k (omega arith) (omega arith)))

  -- two functions that agree below n give the same list
  pub listed_alike : (g h : ℕ → A) (n : ℕ) → ((k : ℕ) → k < n → g k ≡ h k) → map g (up_to n) ≡ map h (up_to n)
  listed_alike g h n e = alike_from g h 0 n (λ k a b. e k (omega arith))

-- an entry stored behind those in use is one more of them
pub stored_next : {A B : Type 0} (f : A → B) (d a : A) (items : List A) (n : ℕ) → n < length items
    → map (λ i. f (get_or (set items n a) i d)) (up_to (n + 1)) ≡ map (λ i. f (get_or items i d)) (up_to n) ++ (f a ∷ [])
stored_next f d a items n h =
    listed_more (λ i. f (get_or (set items n a) i d)) n
    ∙ (rw (get_or-set_same items n a d h, listed_alike (λ i. f (get_or (set items n a) i d)) (λ i. f (get_or items i d)) n (λ k b. ap f (get_or-set_other items n k a d (λ e. omega arith)))))

-- a list made by counting, where what it is made of changes at one place
pub changed_at : {A : Type 0} (f g : ℕ → A) (n t : ℕ) → ((i : ℕ) → i ≢ t → g i ≡ f i) → map g (up_to n) ≡ set (map f (up_to n)) t (g t)
changed_at {A} f g n t same' = ext_get_or (g t) (map g (up_to n)) (set (map f (up_to n)) t (g t)) (length-listed g n ∙ sym (length-set (map f (up_to n)) t (g t) ∙ length-listed f n)) at
  where
    at : (i : ℕ) → i < length (map g (up_to n)) → get_or (map g (up_to n)) i (g t) ≡ get_or (set (map f (up_to n)) t (g t)) i (g t)
    at i k = go (equal? i t)
      where
        b : i < n
        b = omega (arith, length-listed g n)

        go : (i ≡ t) ⊎ (i ≢ t) → get_or (map g (up_to n)) i (g t) ≡ get_or (set (map f (up_to n)) t (g t)) i (g t)
        go (inl e) = listed g n i (g t) b ∙ rw e (sym (get_or-set_same (map f (up_to n)) t (g t) (g t) (omega (arith, b, length-listed f n))))
        go (inr d) = listed g n i (g t) b ∙ same' i d ∙ sym (get_or-set_other (map f (up_to n)) t i (g t) (g t) d ∙ listed f n i (g t) b)

-- those that pass are no more than all
pub filter-few : {A : Type 0} (f : A → Bool) (l : List A) → length (filter f l) ≤ length l
filter-few f [] = omega arith
filter-few f (a ∷ l) = go (f a) (filter-few f l)
  where
    go : (b : Bool) → length (filter f l) ≤ length l → length (cond b (a ∷ filter f l) (filter f l)) ≤ suc (length l)
    go true h = omega arith
    go false h = omega arith
