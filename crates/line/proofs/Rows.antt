-- The first message of a row that passes a test, by its place, and the row without it.
use Rattle.std.proofs.Common.{◌≡◌, ℕ, suc, ◌+◌, ◌<◌, Bool, true, false, cond, nat_lt, List, [], ◌∷◌, length, get_or, Some, None, refl, ap, ◌∙◌, ⊎_elim, arith}
use Rattle.std.specs.List.{position, position_or_len, remove}
use Rattle.std.proofs.lemmas.List.Edits.{get_or-remove_below, get_or-remove_above}
use Rattle.std.proofs.lemmas.List.Folds.{find_at}
use Rattle.std.proofs.lemmas.List.Quantifiers.{position-Some}
use Rattle.std.proofs.lemmas.Option.{slice_get-get_or, slice_get_past}
use Rattle.std.proofs.lemmas.Bool.{cases_Bool}
use Rattle.std.proofs.lemmas.Bool.Decides.{nat_tests}
use Rattle.mail.specs.Collections.{first, without}
use Rattle.mail.specs.declared.message.Message.{Message}
use Rattle.mail.proofs.Collections as collections

without-at : (test : Message → Bool) (xs : List Message) → without test xs ≡ remove xs (position_or_len test xs)
without-at test [] = refl
without-at test (x ∷ xs) = ⊎_elim
    (λ (t : test x ≡ true). rw t refl)
    (λ (t : test x ≡ false).
    let next : 1 + position_or_len test xs ≡ suc (position_or_len test xs) = omega arith in
    rw (t, next) (ap (λ ys. x ∷ ys) (without-at test xs)))
    (cases_Bool (test x))

-- it stands where the search ends
pub first-at : (test : Message → Bool) (xs : List Message) (i : ℕ) (d : Message) → position test xs ≡ Some i
    → (first test xs ≡ Some (get_or xs i d)) × (without test xs ≡ remove xs i)
first-at test xs i d h =
    let at : position_or_len test xs ≡ i = grind (arith, nat_tests, h) in
    (find_at test xs ∙ rw at (slice_get-get_or xs i d (position-Some test xs i d h).0), without-at test xs ∙ rw at refl)

-- none passes
pub first-none : (test : Message → Bool) (xs : List Message) → position test xs ≡ None → (first test xs ≡ None) × (without test xs ≡ xs)
first-none test xs h =
    let none : first test xs ≡ None = find_at test xs ∙ slice_get_past xs (position_or_len test xs) (grind (arith, nat_tests, h)) in
    (none, (collections.first-none test xs none).1)

-- where the messages of a row without its i-th stood in it
pub removed_from : (xs : List Message) (i k : ℕ) (d : Message) → i < length xs
    → get_or (remove xs i) k d ≡ get_or xs (cond (nat_lt k i) k (k + 1)) d
removed_from xs i k d lt = grind (arith, nat_tests, get_or-remove_below xs i d k, get_or-remove_above xs i d k)
