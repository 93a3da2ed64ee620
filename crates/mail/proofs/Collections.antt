-- Collections by what their tallies are, and the first message that passes a test.
use Rattle.std.proofs.Common.{◌≡◌, ℕ, ◌+◌, ◌≤◌, Bool, true, false, cond, ◌&&◌, eqb, List, [], ◌∷◌, ◌++◌, length, Some, None, Option, sym, refl, ap, ◌∙◌, ⊎_elim, arith}
use Rattle.std.proofs.lemmas.Bool.Decides.{nat_tests}
use Rattle.std.proofs.lemmas.Bool.{cases_Bool}
use Rattle.std.proofs.lemmas.List.Sums.{sum_by-append, sum_by-cons}
use Rattle.mail.specs.Collections.{part, tally, alike, times, Same, first, without, Removed}
use Rattle.mail.specs.Meaning.{Pickable}
use Rattle.mail.specs.Messages.{wanted}
use Rattle.mail.specs.declared.message.Message.{Message}
use Rattle.mail.proofs.Alike.{alike_same, alike-itself}

-- every test is passed by as many messages of one list as of the other
abbrev pub Tallied : List Message → List Message → Type 0
Tallied xs ys = (test : Message → Bool) → tally test xs ≡ tally test ys

pub tally-append : (test : Message → Bool) (xs ys : List Message) → tally test (xs ++ ys) ≡ tally test xs + tally test ys
tally-append test = sum_by-append (λ m. cond (test m) 1 0)

pub tally-cons : (test : Message → Bool) (m : Message) (ms : List Message) → tally test (m ∷ ms) ≡ cond (test m) 1 0 + tally test ms
tally-cons test = sum_by-cons (λ m. cond (test m) 1 0)

-- a message at the end or at the front
pub tallied-push : (xs : List Message) (m : Message) → Tallied (xs ++ m ∷ []) (m ∷ xs)
tallied-push xs m test = omega (arith, tally-append test xs (m ∷ []), tally-cons test m xs)

-- the first that passes, and the others
pub first_some : (test : Message → Bool) (xs : List Message) (m : Message) → first test xs ≡ Some m
    → (test m ≡ true) × Tallied xs (m ∷ without test xs)
first_some test [] m h = absurd cc
first_some test (x ∷ xs) m h = ⊎_elim
    (λ (t : test x ≡ true). let same : x ≡ m = grind (arith, h, t) in (cc, λ other. grind (arith, t, same, tally-cons other x xs)))
    (λ (t : test x ≡ false). let later = first_some test xs m (grind (arith, h, t)) in (later.0, λ other. grind (arith, t, later.1 other, tally-cons)))
    (cases_Bool (test x))

-- none passes, and all are left
pub first-none : (test : Message → Bool) (xs : List Message) → first test xs ≡ None → (tally test xs ≡ 0) × (without test xs ≡ xs)
first-none test [] h = (refl, refl)
first-none test (x ∷ xs) h = ⊎_elim
    (λ (t : test x ≡ true). absurd (grind (arith, h, t)))
    (λ (t : test x ≡ false). let left = first-none test xs (grind (arith, h, t)) in (grind (arith, t, left.0, tally-cons test x xs), grind (arith, t, left.1)))
    (cases_Bool (test x))

-- a tally of a receiver's part is a tally of the whole
tally-part : (test : Message → Bool) (q : ℕ) (xs : List Message) → tally test (part q xs) ≡ tally (λ m. eqb m.receiver q && test m) xs
tally-part test q [] = refl
tally-part test q (x ∷ xs) = grind (arith, tally-part test q xs, tally-cons test x (part q xs), tally-cons (λ m. eqb m.receiver q && test m) x xs)

tally-like : (f g : Message → Bool) (xs : List Message) → ((m : Message) → f m ≡ g m) → tally f xs ≡ tally g xs
tally-like f g [] h = refl
tally-like f g (x ∷ xs) h = grind (arith, h x, tally-like f g xs h, tally-cons f x xs, tally-cons g x xs)

alike-there : (m x : Message) → (eqb x.receiver m.receiver && alike m x) ≡ alike m x
alike-there m x = grind (arith, nat_tests, alike_same m x)

times-part : (m : Message) (xs : List Message) → times m (part m.receiver xs) ≡ times m xs
times-part m xs = tally-part (alike m) m.receiver xs ∙ tally-like (λ x. eqb x.receiver m.receiver && alike m x) (alike m) xs (alike-there m)

-- the same of a list with one message more, where its place in the other list is known
tallied-found : (x : Message) (xs ys : List Message) → ((rest : List Message) → ((m : Message) → times m xs ≡ times m rest) → Tallied xs rest)
    → ((m : Message) → times m (x ∷ xs) ≡ times m ys) → (found : Option Message) → first (alike x) ys ≡ found → Tallied (x ∷ xs) ys
tallied-found x xs ys shorter h None e = absurd (grind (arith, h x, alike-itself x, (first-none (alike x) ys e).0, tally-cons (alike x) x xs))
tallied-found x xs ys shorter h (Some m) e =
    let found = first_some (alike x) ys m e in
    let it : x ≡ m = alike_same x m found.0 in
    let fewer = shorter (without (alike x) ys) (λ k. grind (arith, h k, found.1 (alike k), it, tally-cons (alike k) x xs, tally-cons (alike k) m (without (alike x) ys))) in
    λ test. grind (arith, fewer test, found.1 test, it, tally-cons test x xs, tally-cons test m (without (alike x) ys))

-- two lists in which each message stands as often are the same collection
tallied-times : (xs ys : List Message) → ((m : Message) → times m xs ≡ times m ys) → Tallied xs ys
tallied-times [] [] h = λ test. refl
tallied-times [] (y ∷ ys) h = absurd (grind (arith, h y, alike-itself y, tally-cons (alike y) y ys))
tallied-times (x ∷ xs) ys h = tallied-found x xs ys (tallied-times xs) h (first (alike x) ys) refl

-- what `Same` says of each receiver, tallies say of the whole
pub same-tallied : (xs ys : List Message) → Same xs ys → Tallied xs ys
same-tallied xs ys same = tallied-times xs ys (λ m. sym (times-part m xs) ∙ same m.receiver m ∙ times-part m ys)

pub tallied-same : (xs ys : List Message) → Tallied xs ys → Same xs ys
tallied-same xs ys tallied q m = tally-part (alike m) q xs ∙ tallied (λ x. eqb x.receiver q && alike m x) ∙ sym (tally-part (alike m) q ys)

-- the same collection has the same size
length-tally : (xs : List Message) → tally (λ _. true) xs ≡ length xs
length-tally [] = refl
length-tally (x ∷ xs) = omega (arith, length-tally xs, tally-cons (λ _. true) x xs)

pub tallied-length : (xs ys : List Message) → Tallied xs ys → length xs ≡ length ys
tallied-length xs ys tallied = sym (length-tally xs) ∙ tallied (λ _. true) ∙ length-tally ys

-- a message that stands in a list, and the list without it
pub times-one : (m : Message) (xs ys : List Message) → Tallied xs (m ∷ ys) → 1 ≤ times m xs
times-one m xs ys tallied = grind (arith, tallied (alike m), alike-itself m, tally-cons (alike m) m ys)

tallied-found-as : (m : Message) (xs : List Message) → 1 ≤ times m xs → (found : Option Message) → first (alike m) xs ≡ found → Tallied xs (m ∷ without (alike m) xs)
tallied-found-as m xs one None e = absurd (omega (arith, one, (first-none (alike m) xs e).0))
tallied-found-as m xs one (Some x) e =
    let found = first_some (alike m) xs x e in
    let it : m ≡ x = alike_same m x found.0 in
    λ test. grind (arith, found.1 test, it)

pub tallied-without : (m : Message) (xs : List Message) → 1 ≤ times m xs → Tallied xs (m ∷ without (alike m) xs)
tallied-without m xs one = tallied-found-as m xs one (first (alike m) xs) refl

-- one message less, said by tallies
pub removed-tallied : (m : Message) (before after : List Message) → Removed m before after → Tallied before (m ∷ after)
removed-tallied m before after less test =
    omega (
      arith,
      tallied-without m before less.0 test,
      same-tallied after (without (alike m) before) less.1 test,
      tally-cons test m after,
      tally-cons test m (without (alike m) before),
    )

pub tallied-removed : (m : Message) (before after : List Message) → Tallied before (m ∷ after) → Removed m before after
tallied-removed m before after tallied =
    let one = times-one m before after tallied in (
      one,
      tallied-same after (without (alike m) before) (λ test. omega (
        arith,
        tallied test,
        tallied-without m before one test,
        tally-cons test m after,
        tally-cons test m (without (alike m) before),
      )),
    )

-- to take the first that passes is to take the first like it
pub without-first : (test : Message → Bool) (xs : List Message) (m : Message) → first test xs ≡ Some m → without test xs ≡ without (alike m) xs
without-first test [] m h = refl
without-first test (x ∷ xs) m h = ⊎_elim
    (λ (t : test x ≡ true). let same : x ≡ m = grind (arith, h, t) in grind (arith, t, same, alike-itself m))
    (λ (t : test x ≡ false).
    let later : first test xs ≡ Some m = grind (arith, h, t) in
    let passes = (first_some test xs m later).0 in
    grind (arith, t, passes, alike_same m x, without-first test xs m later))
    (cases_Bool (test x))

-- so what is left is the rest
pub removed-first : (test : Message → Bool) (xs ys : List Message) (m : Message) → first test xs ≡ Some m → ys ≡ without test xs → Removed m xs ys
removed-first test xs ys m h left =
    let gone : ys ≡ without (alike m) xs = left ∙ without-first test xs m h in
    (times-one m xs (without test xs) (first_some test xs m h).1, λ q x. ap (λ zs. times x (part q zs)) gone)

-- and a lawful choice
first-pickable-as : (xs : List Message) (q k : ℕ) (picked : Option Message) → first (wanted q k) xs ≡ picked → Pickable xs q k picked
first-pickable-as xs q k None h = (first-none (wanted q k) xs h).0
first-pickable-as xs q k (Some m) h =
    let found = first_some (wanted q k) xs m h in
    (found.0, times-one m xs (without (wanted q k) xs) found.1)

pub first-pickable : (xs : List Message) (q k : ℕ) → Pickable xs q k (first (wanted q k) xs)
first-pickable xs q k = first-pickable-as xs q k (first (wanted q k) xs) refl
