-- Boxes that are stacked to a pile.
use Rattle.std.proofs.Common.{◌≡◌, ℕ, zero, suc, ◌+◌, ◌≤◌, Bool, false, List, [], ◌∷◌, length, Some, None, Option, ◌≢◌, refl, sym, ◌∙◌, length-append, ap, ⊎_elim, arith}
use Rattle.std.specs.List.{AllByRecursion}
use Rattle.std.specs.Option.{option_or}
use Rattle.std.proofs.ByRecursion.{All-append}
use Rattle.std.proofs.lemmas.List.Folds.{find-append}
use Rattle.std.proofs.lemmas.Bool.{cases_eq, cond-false}
use Rattle.mail.specs.Collections.{tally, first}
use Rattle.mail.specs.declared.message.Message.{Message}
use Rattle.mail.proofs.Collections.{tally-append}
use Rattle.boxes.specs.Chains.{stacked}

stacked-same : (f g : ℕ → List Message) (n : ℕ) → ((r : ℕ) → 1 ≤ r → r ≤ n → g r ≡ f r) → stacked g n ≡ stacked f n
unfolding stacked
stacked-same f g zero h = refl
stacked-same f g (suc n) h = rw (h (suc n) (omega arith) (omega arith), stacked-same f g n (λ r l u. h r l (omega arith)))

-- what holds of each message in each box holds of the pile
pub stacked-all : (P : Message → Type 0) (f : ℕ → List Message) (n : ℕ) → ((r : ℕ) → 1 ≤ r → r ≤ n → AllByRecursion P (f r)) → AllByRecursion P (stacked f n)
unfolding stacked
stacked-all P f zero h = tt
stacked-all P f (suc n) h = All-append P (f (suc n)) (stacked f n) (h (suc n) (omega arith) (omega arith)) (stacked-all P f n (λ r l u. h r l (omega arith)))

-- one box changes
pub stacked-change : (test : Message → Bool) (f g : ℕ → List Message) (q n : ℕ) → 1 ≤ q → q ≤ n
    → ((r : ℕ) → 1 ≤ r → r ≤ n → (r ≢ q) → g r ≡ f r)
    → tally test (stacked g n) + tally test (f q) ≡ tally test (stacked f n) + tally test (g q)
unfolding stacked
stacked-change test f g q zero l u h = absurd (omega arith)
stacked-change test f g q (suc n) l u h = ⊎_elim
    (λ (e : q ≡ suc n).
    let rest = stacked-same f g n (λ r l' u'. h r l' (omega arith) (λ e'. omega arith)) in
    rw e (omega (arith, tally-append test (g (suc n)) (stacked g n), tally-append test (f (suc n)) (stacked f n), ap (tally test) rest)))
    (λ (ne : q ≡ suc n → ⊥).
    let le : q ≤ n = omega arith in
    let top = h (suc n) (omega arith) (omega arith) (λ e. ne (sym e)) in
    omega (
      arith,
      tally-append test (g (suc n)) (stacked g n),
      tally-append test (f (suc n)) (stacked f n),
      ap (tally test) top,
      stacked-change test f g q n l le (λ r l' u' n'. h r l' (omega arith) n'),
    ))
    (cases_eq q (suc n))

-- a box holds no more than the pile
pub stacked-has : (f : ℕ → List Message) (q n : ℕ) → 1 ≤ q → q ≤ n → length (f q) ≤ length (stacked f n)
unfolding stacked
stacked-has f q zero l u = absurd (omega arith)
stacked-has f q (suc n) l u = ⊎_elim
    (λ (e : q ≡ suc n). rw e (omega (arith, length-append (f (suc n)) (stacked f n))))
    (λ (ne : q ≡ suc n → ⊥).
    let le : q ≤ n = omega arith in
    omega (arith, length-append (f (suc n)) (stacked f n), stacked-has f q n l le))
    (cases_eq q (suc n))

-- the first that passes, where all that pass are in one box
module _ (test : Message → Bool) where
  or_none : (o : Option Message) → option_or o None ≡ o
  or_none None = refl
  or_none (Some m) = refl

  first_absent : (ms : List Message) → AllByRecursion (λ m. test m ≡ false) ms → first test ms ≡ None
  first_absent [] none = refl
  first_absent (m ∷ ms) none = cond-false _ _ _ none.0 ∙ first_absent ms none.1

  pub stacked-first : (f : ℕ → List Message) (q n : ℕ) → 1 ≤ q → q ≤ n
      → ((r : ℕ) → 1 ≤ r → r ≤ n → (r ≢ q) → AllByRecursion (λ m. test m ≡ false) (f r)) → first test (stacked f n) ≡ first test (f q)
  unfolding stacked
  stacked-first f q zero l u h = absurd (omega arith)
  stacked-first f q (suc n) l u h = ⊎_elim
      (λ (e : q ≡ suc n).
      let none = first_absent (stacked f n) (stacked-all (λ m. test m ≡ false) f n (λ r l' u'. h r l' (omega arith) (λ e'. omega arith))) in
      rw e (find-append test (f (suc n)) (stacked f n) ∙ rw none (or_none (first test (f (suc n))))))
      (λ (ne : q ≡ suc n → ⊥).
      let le : q ≤ n = omega arith in
      let none = first_absent (f (suc n)) (h (suc n) (omega arith) (omega arith) (λ e. ne (sym e))) in
      find-append test (f (suc n)) (stacked f n) ∙ rw none (stacked-first f q n l le (λ r l' u' n'. h r l' (omega arith) n')))
      (cases_eq q (suc n))
