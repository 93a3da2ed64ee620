-- A message posted, and one of the same receiver and class taken.
use Rattle.std.specs.Prelude.{◌≡◌, ℕ, true, [], ◌∷◌, ◌++◌, Ok, Err, Result}
use Rattle.mail.specs.Collections.{tally, Removed}
use Rattle.mail.specs.Meaning.{Meaning}
use Rattle.mail.specs.Messages.{message, sendable, wanted}
use Rattle.mail.specs.Mails.{post_answer}
use Rattle.mail.specs.declared.message.Message.{Message}
use Rattle.mail.specs.declared.refusal.MailRefusal.{MailRefusal}

-- it is refused as the post is, altering nothing; otherwise what is taken is such a message, the rest waits on, and if no other such waited it is the very message
abbrev pub Returned : {S : Type 0} → (S → Meaning) → ℕ → ℕ → ℕ → ℕ → S → S → Result Message MailRefusal → Type 0
Returned meaning receiver sender class node before after (Ok m) =
    (post_answer (sendable receiver sender class) ((meaning before).refuses (message receiver sender class node)) ≡ Ok tt)
    × (wanted receiver class m ≡ true)
    × Removed m ((meaning before).waits ++ message receiver sender class node ∷ []) (meaning after).waits
    × ((meaning after).capacity ≡ (meaning before).capacity)
    × (tally (wanted receiver class) (meaning before).waits ≡ 0 → m ≡ message receiver sender class node)
Returned meaning receiver sender class node before after (Err e) =
    (post_answer (sendable receiver sender class) ((meaning before).refuses (message receiver sender class node)) ≡ Err e) × (after ≡ before)
