-- Lists of messages, and how they are read: for each receiver as a collection.
use Rattle.std.specs.Prelude.{◌≡◌, ℕ, ◌≤◌, Bool, cond, ◌&&◌, List, [], ◌∷◌, ◌++◌, Option, ◌==◌}
use Rattle.std.specs.List.{filter, find, count_by}
use Rattle.mail.specs.Messages.{class_number}
use Rattle.mail.specs.declared.message.Message.{Message}

-- the part of a list that is for a receiver
abbrev pub part : ℕ → List Message → List Message
part receiver ms = filter (λ m. m.receiver == receiver) ms

-- how many messages pass a test
abbrev pub tally : (Message → Bool) → List Message → ℕ
tally test ms = count_by test ms

-- are two messages alike in all four numbers?
abbrev pub alike : Message → Message → Bool
alike m x = m.receiver == x.receiver && m.sender == x.sender && class_number m.class == class_number x.class && m.node == x.node

-- how often a message stands in a list
abbrev pub times : Message → List Message → ℕ
times m ms = tally (alike m) ms

-- one receiver's part is read as a collection: which messages, and how many of each.
-- Where their order is to count as well, the clauses stay as they are and this relation becomes a finer one
abbrev pub SamePart : List Message → List Message → Type 0
SamePart xs ys = (m : Message) → times m xs ≡ times m ys

-- for each receiver the same messages wait
abbrev pub Same : List Message → List Message → Type 0
Same xs ys = (receiver : ℕ) → SamePart (part receiver xs) (part receiver ys)

-- the first message of a list that passes a test
abbrev pub first : (Message → Bool) → List Message → Option Message
first test ms = find test ms

-- the list without that one
abbrev pub without : (Message → Bool) → List Message → List Message
without test [] = []
without test (m ∷ ms) = cond (test m) ms (m ∷ without test ms)

-- one message more: what waits after is what waited before, and just this message
abbrev pub Added : Message → List Message → List Message → Type 0
Added m before after = Same after (before ++ m ∷ [])

-- one message less: it waited before, and what waits after is the rest
abbrev pub Removed : Message → List Message → List Message → Type 0
Removed m before after = (1 ≤ times m before) × Same after (without (alike m) before)
