-- What the boxes mean as a mail, and what each box holds after a call.
use Rattle.std.specs.Prelude.{ℕ, cond, List, ◌∷◌, length, Ok, Err, Option, Result, ◌==◌, nat_le}
use Rattle.mail.specs.Collections.{first, without}
use Rattle.mail.specs.Meaning.{Meaning}
use Rattle.mail.specs.Messages.{wanted}
use Rattle.mail.specs.declared.message.Message.{Message}
use Rattle.mail.specs.declared.refusal.MailRefusal.{MailRefusal}
use Rattle.boxes.specs.Chains.{box_of, pile_of}
use Rattle.boxes.specs.declared.boxes.Boxes.{Boxes}

-- what waits for the receiver q, newest first
abbrev pub box : Boxes → ℕ → List Message
box s q = box_of s.pool q

-- what waits in all
abbrev pub pile : Boxes → List Message
pile s = pile_of s.pool

-- a post is refused exactly when sixty-four wait, and a take picks the first such message in the pile, which is the newest such of the receiver's
abbrev pub boxes_meaning : Boxes → Meaning
boxes_meaning s = record {
  waits = pile s;
  capacity = 64;
  refuses = λ _. nat_le 64 (length (pile s));
  picks = λ receiver class. first (wanted receiver class) (pile s);
}

-- box q after a post of this answer: an accepted message stands at the front of its receiver's box
abbrev pub box_posted : Result (Unit {0}) MailRefusal → Message → ℕ → List Message → List Message
box_posted (Ok u) m q waiting = cond (m.receiver == q) (m ∷ waiting) waiting
box_posted (Err e) m q waiting = waiting

-- box q after a take of this answer: the receiver's box lacks its newest such message
abbrev pub box_taken : Result (Option Message) MailRefusal → ℕ → ℕ → ℕ → List Message → List Message
box_taken (Ok o) receiver class q waiting = cond (receiver == q) (without (wanted receiver class) waiting) waiting
box_taken (Err e) receiver class q waiting = waiting
