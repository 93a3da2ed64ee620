-- Lists of distinct numbers: of the numbers from 1 to m they hold at most m.
use Rattle.std.proofs.Common.{◌≡◌, ℕ, suc, ◌<◌, ◌≤◌, Bool, ◌||◌, true, false, cond, eqb, List, [], ◌∷◌, ◌++◌, length, sym, refl, ap, ◌∙◌, ⊎_elim, arith}
use Rattle.std.proofs.lemmas.Bool.{cases_Bool, eqb-true, eqb-false, ne_eqb, cond-false, true≢false}
use Rattle.std.proofs.lemmas.Map.Steps.{length-le_from_distinct_below}
use Rattle.std.specs.List.{AllByRecursion, IsDistinct, list_any}
use Rattle.layout.specs.Chain.{among}
use Rattle.layout.specs.Follows.{Index, Distinct}

either : (p q r : Bool) → cond p true (cond q true r) ≡ cond q true (cond p true r)
either true true r = refl
either true false r = refl
either false q r = refl

neither : (t u : Bool) → cond t true u ≡ false → (t ≡ false) × (u ≡ false)
neither true u h = absurd (true≢false h)
neither false u h = (refl, h)

turned : (a b : ℕ) → eqb a b ≡ false → eqb b a ≡ false
turned a b h = ne_eqb b a (λ e. eqb-false a b h (sym e))

pub among-push : (k x : ℕ) (ys : List ℕ) → among k (ys ++ x ∷ []) ≡ cond (eqb k x) true (among k ys)
among-push k x [] = refl
among-push k x (y ∷ ys) = ap (cond (eqb k y) true) (among-push k x ys) ∙ either (eqb k y) (eqb k x) (among k ys)

-- one more that is not among them
pub distinct_push : (xs : List ℕ) (y : ℕ) → Distinct xs → among y xs ≡ false → Distinct (xs ++ y ∷ [])
distinct_push [] y d h = (refl, tt)
distinct_push (x ∷ xs) y d h =
    let s = neither (eqb y x) (among y xs) h in
    (among-push x y xs ∙ cond-false _ _ _ (turned y x s.0) ∙ d.0, distinct_push xs y d.1 s.1)

apart : (k : ℕ) (xs : List ℕ) (y : ℕ) (ys : List ℕ) → among k (xs ++ y ∷ ys) ≡ false → eqb k y ≡ false
apart k [] y ys h = (neither (eqb k y) (among k ys) h).0
apart k (x ∷ xs) y ys h = apart k xs y ys (neither (eqb k x) (among k (xs ++ y ∷ ys)) h).1

-- each is not among those before it
pub distinct-new : (xs : List ℕ) (y : ℕ) (ys : List ℕ) → Distinct (xs ++ y ∷ ys) → among y xs ≡ false
distinct-new [] y ys d = refl
distinct-new (x ∷ xs) y ys d = cond-false _ _ _ (turned x y (apart x xs y ys d.0)) ∙ distinct-new xs y ys d.1

none_equal : (x : ℕ) (ys : List ℕ) → among x ys ≡ false → AllByRecursion (λ y. eqb x y ≡ false) ys
none_equal x [] h = tt
none_equal x (y ∷ ys) h = let s = neither (eqb x y) (among x ys) h in (s.0, none_equal x ys s.1)

distinct : (xs : List ℕ) → Distinct xs → IsDistinct eqb xs
unfolding IsDistinct
distinct [] d = tt
distinct (x ∷ xs) d = (none_equal x xs d.0, distinct xs d.1)

-- of the indices, with 0 before them
module _ (m : ℕ) where
  none_zero : (xs : List ℕ) → AllByRecursion (Index m) xs → AllByRecursion (λ y. eqb 0 y ≡ false) xs
  none_zero [] h = tt
  none_zero (x ∷ xs) h = (ne_eqb 0 x (λ e. omega (arith, h.0.0)), none_zero xs h.1)

  below : (q : ℕ) (xs : List ℕ) → AllByRecursion (Index m) xs → list_any (eqb q) xs ≡ true → q < suc m
  below q [] h a = absurd (true≢false (sym a))
  below q (x ∷ xs) h a = ⊎_elim (λ same. omega (arith, eqb-true q x same, h.0.1)) (λ other. below q xs h.1 (sym (ap (λ t. t || list_any (eqb q) xs) other) ∙ a)) (cases_Bool (eqb q x))

  with_zero : (xs : List ℕ) → AllByRecursion (Index m) xs → Distinct xs → IsDistinct eqb (0 ∷ xs)
  unfolding IsDistinct
  with_zero xs h d = (none_zero xs h, distinct xs d)

  pub pigeonhole : (xs : List ℕ) → AllByRecursion (Index m) xs → Distinct xs → length xs ≤ m
  pigeonhole xs h d =
      omega (arith, length-le_from_distinct_below (0 ∷ xs) (suc m) (with_zero xs h d) (λ q a. ⊎_elim (λ same. omega (arith, eqb-true q 0 same)) (λ other. below q xs h (sym (ap (λ t. t || list_any (eqb q) xs) other) ∙ a)) (cases_Bool (eqb q 0))))
