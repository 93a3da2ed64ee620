-- What a take asks for.
use Rattle.std.specs.Prelude.{◌≡◌, ℕ, true, false, Ok, Err, Result}
use Rattle.mail.specs.Messages.{askable, class_number}
use Rattle.mail.specs.declared.asked.Asked.{Asked}
use Rattle.mail.specs.declared.refusal.MailRefusal.{MailRefusal}
use Rattle.mail.specs.declared.refusal.MailRefusal.TheVariants.{OutOfRange}

-- leave to ask for these numbers, exactly where one may, or else the refusal of numbers out of range
abbrev pub Asks : ℕ → ℕ → Result Asked MailRefusal → Type 0
Asks receiver class (Ok asked) =
    (askable receiver class ≡ true) × (asked.receiver ≡ receiver) × (class_number asked.class ≡ class)
Asks receiver class (Err e) = (askable receiver class ≡ false) × (e ≡ OutOfRange)
