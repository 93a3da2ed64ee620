-- How a pool stores links and messages; what it means is said in Chains.
use Rattle.std.specs.Prelude.{ℕ, cond, ◌==◌, nat_lt, Option, Some, None}
use Rattle.mail.specs.declared.message.Class.TheVariants.{Request}
use Rattle.mail.specs.declared.message.Message.{Message}

-- the link that a number stands for: below 64 it leads to that record, and 64 is the end
abbrev pub link_of : ℕ → Option ℕ
link_of n = cond (nat_lt n 64) (Some n) None

-- what is stored in a free record
abbrev pub blank : Message
blank = record { receiver = 0; sender = 0; class = Request; node = 0 }

-- what a record holds where this is stored: nothing is for receiver 0
abbrev pub content_of : Message → Option Message
content_of m = cond (m.receiver == 0) None (Some m)
