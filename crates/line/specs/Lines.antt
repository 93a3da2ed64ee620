-- What waits in a line, in which order, and what its calls do to it.
use Rattle.std.specs.Prelude.{Bool, cond, List, [], ◌∷◌, ◌++◌, length, nat_le}
use Rattle.mail.specs.Collections.{first, without}
use Rattle.mail.specs.Meaning.{Meaning}
use Rattle.mail.specs.Messages.{wanted}
use Rattle.mail.specs.declared.message.Message.{Message}
use Rattle.line.specs.declared.line.Line.{Line}

-- the messages waiting, oldest first
abbrev pub row : Line → List Message
row line = line.waiting.items

-- do sixteen wait?
abbrev pub is_full : List Message → Bool
is_full waiting = nat_le 16 (length waiting)

-- its meaning as a mail: it refuses just where sixteen wait, and a take picks the oldest such message
abbrev pub line_meaning : Line → Meaning
line_meaning line = record {
  waits = row line;
  capacity = 16;
  refuses = λ _. is_full (row line);
  picks = λ receiver class. first (wanted receiver class) (row line);
}

-- the row after a post: the message stands last, if it may be sent and the line is not full
abbrev pub after_post : Bool → Message → List Message → List Message
after_post sendable m waiting = cond sendable (cond (is_full waiting) waiting (waiting ++ m ∷ [])) waiting

-- the row after a take: without the oldest message that passes the test, if one may ask
abbrev pub after_take : Bool → (Message → Bool) → List Message → List Message
after_take askable test waiting = cond askable (without test waiting) waiting
