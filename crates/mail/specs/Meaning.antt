-- What a mail means, and what every mail's meaning obeys.
use Rattle.std.specs.Prelude.{◌≡◌, ℕ, ◌<◌, ◌≤◌, Bool, true, false, List, length, Some, None, Option}
use Rattle.std.specs.List.{AllByRecursion}
use Rattle.mail.specs.Messages.{wanted, addressed}
use Rattle.mail.specs.Collections.{tally, times}
use Rattle.mail.specs.declared.message.Message.{Message}

-- the messages waiting, of which only the collection counts; the capacity; and the two free answers:
-- whether a post of a message is refused for want of room, and which message a take for a receiver and a class picks
pub record Meaning : Type 0 where
  pub waits : List Message
  pub capacity : ℕ
  pub refuses : Message → Bool
  pub picks : ℕ → ℕ → Option Message

-- what a take may pick: none exactly when no such message waits, otherwise one of them
abbrev pub Pickable : List Message → ℕ → ℕ → Option Message → Type 0
Pickable waits receiver class None = tally (wanted receiver class) waits ≡ 0
Pickable waits receiver class (Some m) = (wanted receiver class m ≡ true) × (1 ≤ times m waits)

-- what every mail obeys: the capacity is a 16-bit number, whatever waits is between processors,
-- below the capacity no message is refused, and a take picks what it may
pub record Lawful (mail : Meaning) : Type 0 where
  pub bounded : mail.capacity ≤ 65535
  pub ranged : AllByRecursion (λ m. addressed m ≡ true) mail.waits
  pub accepts : (m : Message) → length mail.waits < mail.capacity → mail.refuses m ≡ false
  pub choice : (receiver class : ℕ) → Pickable mail.waits receiver class (mail.picks receiver class)
