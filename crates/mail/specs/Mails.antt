-- What the calls of a mail answer, and what waits after them.
use Rattle.std.specs.Prelude.{◌≡◌, Bool, cond, Some, None, Ok, Err, Option, Result}
use Rattle.mail.specs.Collections.{Added, Removed}
use Rattle.mail.specs.Meaning.{Meaning}
use Rattle.mail.specs.declared.message.Message.{Message}
use Rattle.mail.specs.declared.refusal.MailRefusal.{MailRefusal}
use Rattle.mail.specs.declared.refusal.MailRefusal.TheVariants.{Full, OutOfRange}

-- the answer of a post: may it be sent, and does the mail refuse it?
abbrev pub post_answer : Bool → Bool → Result (Unit {0}) MailRefusal
post_answer sendable refused = cond sendable (cond refused (Err Full) (Ok tt)) (Err OutOfRange)

-- a post that is accepted adds just that message, and a refused one alters nothing
abbrev pub Posted : {S : Type 0} → (S → Meaning) → Message → S → S → Result (Unit {0}) MailRefusal → Type 0
Posted meaning m before after (Ok u) =
    Added m (meaning before).waits (meaning after).waits × ((meaning after).capacity ≡ (meaning before).capacity)
Posted meaning m before after (Err e) = after ≡ before

-- the answer of a take: may one ask, and what does the mail pick?
abbrev pub take_answer : Bool → Option Message → Result (Option Message) MailRefusal
take_answer askable picked = cond askable (Ok picked) (Err OutOfRange)

-- a take removes just the message that it answers, once; where it answers none or is refused, it alters nothing
abbrev pub Taken : {S : Type 0} → (S → Meaning) → S → S → Result (Option Message) MailRefusal → Type 0
Taken meaning before after (Ok (Some m)) =
    Removed m (meaning before).waits (meaning after).waits × ((meaning after).capacity ≡ (meaning before).capacity)
Taken meaning before after (Ok None) = after ≡ before
Taken meaning before after (Err e) = after ≡ before
