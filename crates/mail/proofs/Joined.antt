-- What two mails may pick, both together may.
use Rattle.std.proofs.Common.{◌≡◌, ℕ, ◌+◌, Bool, true, false, cond, List, ◌++◌, Some, None, Option, ◌∙◌, arith}
use Rattle.std.specs.Option.{option_or}
use Rattle.mail.specs.Collections.{tally, alike}
use Rattle.mail.specs.Meaning.{Pickable}
use Rattle.mail.specs.Messages.{wanted}
use Rattle.mail.specs.declared.message.Message.{Message}
use Rattle.mail.proofs.Collections.{Tallied, tally-append}

-- what one of them or else the other may pick, a collection of the messages of both may
pub pickable-joined : (xs ys zs : List Message) → ((test : Message → Bool) → tally test zs ≡ tally test xs + tally test ys)
    → (q k : ℕ) (p p' : Option Message) → Pickable xs q k p → Pickable ys q k p' → Pickable zs q k (option_or p p')
pickable-joined xs ys zs both q k None None h h' = omega (arith, both (wanted q k))
pickable-joined xs ys zs both q k None (Some m) h h' = (h'.0, omega (arith, h'.1, both (alike m)))
pickable-joined xs ys zs both q k (Some m) p' h h' = (h.0, omega (arith, h.1, both (alike m)))

-- two collections in either order
pub tallied-swap : (xs ys : List Message) → Tallied (xs ++ ys) (ys ++ xs)
tallied-swap xs ys test = omega (arith, tally-append test xs ys, tally-append test ys xs)

-- what one of them or else the other may pick, both in their order may
pub pickable-append : (xs ys : List Message) (q k : ℕ) (p p' : Option Message) → Pickable xs q k p → Pickable ys q k p' → Pickable (xs ++ ys) q k (option_or p p')
pickable-append xs ys = pickable-joined xs ys (xs ++ ys) (λ test. tally-append test xs ys)

-- what may be picked does not depend on the order
pub pickable-swap : (xs ys : List Message) (q k : ℕ) (p : Option Message) → Pickable (xs ++ ys) q k p → Pickable (ys ++ xs) q k p
pickable-swap xs ys q k None h = tallied-swap ys xs (wanted q k) ∙ h
pickable-swap xs ys q k (Some m) h = (h.0, omega (arith, h.1, tallied-swap ys xs (alike m)))

-- whichever of the two is looked in first
pub pickable-sided : (t : Bool) (xs ys : List Message) (q k : ℕ) (p p' : Option Message) → Pickable xs q k p → Pickable ys q k p'
    → Pickable (xs ++ ys) q k (cond t (option_or p' p) (option_or p p'))
pickable-sided true xs ys q k p p' h h' = pickable-swap ys xs q k (option_or p' p) (pickable-append ys xs q k p' p h' h)
pickable-sided false xs ys q k p p' h h' = pickable-append xs ys q k p p' h h'
