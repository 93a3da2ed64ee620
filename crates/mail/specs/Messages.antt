-- Messages, and the numbers that make one.
use Rattle.std.specs.Prelude.{ℕ, Bool, cond, ◌&&◌, Ok, Err, Result, ◌==◌, nat_le}
use Rattle.mail.specs.declared.message.Class.{Class}
use Rattle.mail.specs.declared.message.Class.TheVariants.{Request, Reply}
use Rattle.mail.specs.declared.message.Message.{Message}
use Rattle.mail.specs.declared.refusal.MailRefusal.{MailRefusal}
use Rattle.mail.specs.declared.refusal.MailRefusal.TheVariants.{OutOfRange}

-- the number of a class
abbrev pub class_number : Class → ℕ
class_number Request = 1
class_number Reply = 2

-- the class of a number: 1 is a request, any other reads as a reply, but only 1 and 2 are let through
abbrev pub class_of : ℕ → Class
class_of k = cond (k == 1) Request Reply

-- is it a processor?
abbrev pub is_processor : ℕ → Bool
is_processor p = nat_le 1 p && nat_le p 16

-- nothing, or the refusal of a number that is no processor's
abbrev pub processor_checked : ℕ → Result (Unit {0}) MailRefusal
processor_checked p = cond (is_processor p) (Ok tt) (Err OutOfRange)

-- is it a class?
abbrev pub is_class : ℕ → Bool
is_class k = nat_le 1 k && nat_le k 2

-- the class of a number, or the refusal of a number that is none
abbrev pub classed : ℕ → Result Class MailRefusal
classed k = cond (is_class k) (Ok (class_of k)) (Err OutOfRange)

-- may a post carry these numbers?
abbrev pub sendable : ℕ → ℕ → ℕ → Bool
sendable receiver sender class = is_processor receiver && is_processor sender && is_class class

-- may a take ask for these?
abbrev pub askable : ℕ → ℕ → Bool
askable receiver class = is_processor receiver && is_class class

-- the message of these numbers
abbrev pub message : ℕ → ℕ → ℕ → ℕ → Message
message receiver sender class node = record { receiver = receiver; sender = sender; class = class_of class; node = node }

-- that message, or the refusal of numbers out of range
abbrev pub composed : ℕ → ℕ → ℕ → ℕ → Result Message MailRefusal
composed receiver sender class node = cond (sendable receiver sender class) (Ok (message receiver sender class node)) (Err OutOfRange)

-- is this message for that receiver and of that class?
abbrev pub wanted : ℕ → ℕ → Message → Bool
wanted receiver class m = m.receiver == receiver && class_number m.class == class

-- are its receiver and its sender processors?
abbrev pub addressed : Message → Bool
addressed m = is_processor m.receiver && is_processor m.sender
