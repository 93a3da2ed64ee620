-- The command in the words after the program's name.
use Rattle.std.specs.Prelude.{ℕ, cond, List, [], ◌∷◌, Some, None, Ok, Err, codes, Option, Result}
use Rattle.std.specs.Str.{bytes_eq}
use Rattle.layout.specs.Steps.{and_then}
use Rattle.console.specs.Reckonings.{reckoning_of, start_of}
use Rattle.console.specs.declared.command.Command.{Command}
use Rattle.console.specs.declared.command.Command.TheVariants.{Help, Evaluate}
use Rattle.console.specs.declared.command.Reckoning.{Reckoning}
use Rattle.console.specs.declared.usage.UsageError.{UsageError}
use Rattle.console.specs.declared.usage.UsageError.TheVariants.{NoCommand, UnknownCommand, MissingArgument, SurplusArgument}

-- a command by the bytes of its files' names
pub data Asked : Type 0 where
  help : Asked
  evaluation : List ℕ → List ℕ → Reckoning → Option ℕ → Asked

-- what a command asks for
abbrev pub asked : Command → Asked
asked Help = help
asked (Evaluate job trace plan) = evaluation job.now trace.now plan.reckoning plan.start

-- help takes no argument
abbrev pub help_with : List (List ℕ) → Result Asked UsageError
help_with [] = Ok help
help_with (w ∷ ws) = Err SurplusArgument

-- an evaluation with this start
abbrev pub planned : List ℕ → List ℕ → List ℕ → Option ℕ → Result Asked UsageError
planned job trace kind start = and_then (reckoning_of kind) (λ r. Ok (evaluation job trace r start))

-- evaluate takes a job, a trace, a reckoning, and a start or none
abbrev pub evaluate_with : List (List ℕ) → Result Asked UsageError
evaluate_with [] = Err MissingArgument
evaluate_with (job ∷ []) = Err MissingArgument
evaluate_with (job ∷ trace ∷ []) = Err MissingArgument
evaluate_with (job ∷ trace ∷ kind ∷ []) = planned job trace kind None
evaluate_with (job ∷ trace ∷ kind ∷ first ∷ []) = and_then (start_of first) (λ n. planned job trace kind (Some n))
evaluate_with (job ∷ trace ∷ kind ∷ first ∷ w ∷ ws) = Err SurplusArgument

-- the first word is the command
abbrev pub parsed : List (List ℕ) → Result Asked UsageError
parsed [] = Err NoCommand
parsed (word ∷ ws) =
    cond (bytes_eq word (codes "help")) (help_with ws) (cond (bytes_eq word (codes "evaluate")) (evaluate_with ws) (Err UnknownCommand))
