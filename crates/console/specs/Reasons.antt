-- Why there is no report.
use Rattle.std.specs.Prelude.{ℕ, List, codes}
use Rattle.layout.specs.Texts.{refusal_text}
use Rattle.console.specs.declared.evaluation.EvaluationError.{EvaluationError}
use Rattle.console.specs.declared.evaluation.EvaluationError.TheVariants.{Load, Memory}

-- a refused job's line, or that there is no memory
abbrev pub reason_text : EvaluationError → List ℕ
reason_text (Load refusal) = refusal_text refusal
reason_text Memory = codes "out of memory"
