-- Two mails as one: what it means, and which of the two a call alters.
use Rattle.std.specs.Prelude.{◌≡◌, ℕ, min, Bool, cond, not, ◌++◌, is_some, Option, Result, nat_le}
use Rattle.mail.specs.Meaning.{Meaning}
use Rattle.mail.specs.Mails.{Posted, Taken}
use Rattle.mail.specs.declared.message.Message.{Message}
use Rattle.mail.specs.declared.refusal.MailRefusal.{MailRefusal}
use Rattle.std.specs.Option.{option_or}
use Rattle.bridge.specs.declared.bridge.Bridge.{Bridge}

-- what waits in either mail; the smaller capacity; a post is refused where the receiver's own mail refuses it;
-- a take picks what the other mail picks, or else what the receiver's own does.
-- `firsts` says what the first mail means, and `seconds` what the second does
abbrev pub bridge_meaning : {X Y : Type 0} → (X → Meaning) → (Y → Meaning) → Bridge X Y → Meaning
bridge_meaning firsts seconds b = record {
  waits = (firsts b.first).waits ++ (seconds b.second).waits;
  capacity = min (firsts b.first).capacity (seconds b.second).capacity;
  refuses = λ m. cond (nat_le m.receiver b.split) ((firsts b.first).refuses m) ((seconds b.second).refuses m);
  picks = λ receiver class.
      cond (nat_le receiver b.split)
      (option_or ((seconds b.second).picks receiver class) ((firsts b.first).picks receiver class))
      (option_or ((firsts b.first).picks receiver class) ((seconds b.second).picks receiver class));
}

-- a post alters the receiver's own mail, as that mail says; the other mail and the split stay as they were
abbrev pub Routed : {X Y : Type 0} → (X → Meaning) → (Y → Meaning) → Message → Bridge X Y → Bridge X Y → Result (Unit {0}) MailRefusal → Type 0
Routed firsts seconds m b b' r =
    (b'.split ≡ b.split)
    × cond (nat_le m.receiver b.split)
    (Posted firsts m b.first b'.first r × (b'.second ≡ b.second))
    (Posted seconds m b.second b'.second r × (b'.first ≡ b.first))

-- does a take come from the first mail? It does if the first is the receiver's own and the second picks nothing,
-- or if it is the other one and picks something
abbrev pub from_first : {X Y : Type 0} → (X → Meaning) → (Y → Meaning) → ℕ → ℕ → Bridge X Y → Bool
from_first firsts seconds receiver class b =
    cond (nat_le receiver b.split)
    (not (is_some ((seconds b.second).picks receiver class)))
    (is_some ((firsts b.first).picks receiver class))

-- a take alters the mail that it comes from, as that mail says; the other mail and the split stay as they were
abbrev pub TakenFrom : {X Y : Type 0} → (X → Meaning) → (Y → Meaning) → ℕ → ℕ → Bridge X Y → Bridge X Y → Result (Option Message) MailRefusal → Type 0
TakenFrom firsts seconds receiver class b b' r =
    (b'.split ≡ b.split)
    × cond (from_first firsts seconds receiver class b)
    (Taken firsts b.first b'.first r × (b'.second ≡ b.second))
    (Taken seconds b.second b'.second r × (b'.first ≡ b.first))
