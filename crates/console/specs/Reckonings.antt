-- The words that follow the files: a reckoning, and a start.
use Rattle.std.specs.Prelude.{ℕ, cond, List, Ok, Err, codes, Result}
use Rattle.std.specs.Option.{ok_or}
use Rattle.std.specs.Str.{bytes_eq}
use Rattle.console.specs.Number.{decimal_of}
use Rattle.console.specs.declared.command.Reckoning.{Reckoning}
use Rattle.console.specs.declared.command.Reckoning.TheVariants.{Trail, Summary, Float}
use Rattle.console.specs.declared.usage.UsageError.{UsageError}
use Rattle.console.specs.declared.usage.UsageError.TheVariants.{UnknownReckoning, BadStart}

-- the reckoning of this name
abbrev pub reckoning_of : List ℕ → Result Reckoning UsageError
reckoning_of word =
    cond (bytes_eq word (codes "trail")) (Ok Trail) (cond (bytes_eq word (codes "summary")) (Ok Summary) (cond (bytes_eq word (codes "float")) (Ok Float) (Err UnknownReckoning)))

-- the frame that a recorder begins with
abbrev pub start_of : List ℕ → Result ℕ UsageError
start_of word = ok_or (decimal_of word) BadStart
