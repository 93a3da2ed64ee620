-- Why a mail refuses.
use Rattle.std.specs.Prelude.{ℕ}
use Rattle.mail.specs.declared.refusal.MailRefusal.{MailRefusal}
use Rattle.mail.specs.declared.refusal.MailRefusal.TheVariants.{Full, OutOfRange}

-- the number of each cause
abbrev pub refusal_number : MailRefusal → ℕ
refusal_number Full = 17
refusal_number OutOfRange = 18
