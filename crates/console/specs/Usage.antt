-- The commands, and what to write instead of a wrong command line.
use Rattle.std.specs.Prelude.{ℕ, List, codes}
use Rattle.console.specs.declared.usage.UsageError.{UsageError}
use Rattle.console.specs.declared.usage.UsageError.TheVariants.{NoCommand, UnknownCommand, MissingArgument, SurplusArgument, UnknownReckoning, BadStart}

-- the commands, a line each
abbrev pub help_text : List ℕ
help_text = codes "satinonyx evaluate JOB TRACE RECKONING [START]  evaluate a job over a trace by trail, summary or float; with START, over a recorder\nsatinonyx help                                  list the commands\n"

-- the message of each mistake
abbrev pub advice : UsageError → List ℕ
advice NoCommand = codes "no command: run satinonyx help to see the commands"
advice UnknownCommand = codes "unknown command: run satinonyx help to see the commands"
advice MissingArgument = codes "missing argument: run satinonyx help to see what a command takes"
advice SurplusArgument = codes "surplus argument: run satinonyx help to see what a command takes"
advice UnknownReckoning = codes "unknown reckoning: write trail, summary or float"
advice BadStart = codes "the start is no frame number: write decimal digits, at most 18446744073709551615"
