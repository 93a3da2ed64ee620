-- Where a link leads.
use Rattle.std.specs.Prelude.{ℕ, zero, suc, Option, None, Some}

-- to the record with this index; 0 leads to none
abbrev pub link : ℕ → Option ℕ
link zero = None
link (suc x) = Some (suc x)
