-- A message posted and one taken back.
use Rattle.std.proofs.Common.{◌≡◌, ℕ, Bool, true, List, [], ◌∷◌, ◌++◌, Some, None, Option, sym, refl, ◌∙◌, subst, arith}
use Rattle.std.specs.Option.{IsSome}
use Rattle.std.proofs.lemmas.Bool.Decides.{nat_tests}
use Rattle.mail.specs.Collections.{tally, alike}
use Rattle.mail.specs.Meaning.{Meaning, Lawful, Pickable}
use Rattle.mail.specs.Messages.{is_class, message, sendable, wanted, class_number, class_of}
use Rattle.mail.specs.declared.message.Message.{Message}
use Rattle.mail.proofs.Alike.{alike_same, alike-itself}
use Rattle.mail.proofs.Collections.{Tallied, tally-append, tally-cons}

-- from one collection to another by way of a third
pub tallied-through : (xs ys zs : List Message) → Tallied ys xs → Tallied ys zs → Tallied xs zs
tallied-through xs ys zs f g test = sym (f test) ∙ g test

-- the message posted is such a one
class-number : (class : ℕ) → is_class class ≡ true → class_number (class_of class) ≡ class
class-number class h = grind (arith, nat_tests, h)

pub posted-wanted : (receiver sender class node : ℕ) → sendable receiver sender class ≡ true → wanted receiver class (message receiver sender class node) ≡ true
posted-wanted receiver sender class node h =
    let k : is_class class ≡ true = grind (arith, h) in
    grind (arith, nat_tests, class-number class k)

-- a message of a kind that does not wait is not among those waiting
none_alike : (test : Message → Bool) (m : Message) (xs : List Message) → test m ≡ true → tally test xs ≡ 0 → tally (alike m) xs ≡ 0
none_alike test m [] t h = refl
none_alike test m (x ∷ xs) t h = grind (arith, t, h, alike_same m x, none_alike test m xs t, tally-cons test x xs, tally-cons (alike m) x xs)

-- where no other such message waited, the one taken is the one posted
pub the-very-one : (test : Message → Bool) (m p : Message) (before after : List Message) → Tallied (before ++ p ∷ []) (m ∷ after)
    → test m ≡ true → tally test before ≡ 0 → m ≡ p
the-very-one test m p before after same t none =
    grind (arith, same (alike m), tally-append (alike m) before (p ∷ []), none_alike test m before t none, alike-itself m, alike_same m p, tally-cons (alike m) m after)

-- and there is always one
pub one-waits : (mail : Meaning) → Lawful mail → (receiver class : ℕ) (p : Message) (before : List Message)
    → Tallied mail.waits (before ++ p ∷ []) → wanted receiver class p ≡ true → (found : Option Message) → mail.picks receiver class ≡ found → IsSome found
one-waits mail law receiver class p before same such None none =
    let zero : tally (wanted receiver class) mail.waits ≡ 0 = subst (Pickable mail.waits receiver class) none (law.choice receiver class) in
    absurd (grind (arith, zero, such, same (wanted receiver class), tally-append (wanted receiver class) before (p ∷ [])))
one-waits mail law receiver class p before same such (Some m) one = refl

pub picked-wanted : (mail : Meaning) → Lawful mail → (receiver class : ℕ) (m : Message) → mail.picks receiver class ≡ Some m → wanted receiver class m ≡ true
picked-wanted mail law receiver class m e = (subst (Pickable mail.waits receiver class) e (law.choice receiver class)).0
