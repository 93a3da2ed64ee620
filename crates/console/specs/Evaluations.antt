-- What an evaluation answers.
use Rattle.std.specs.Prelude.{◌≡◌, ℕ, ◌≤◌, true, List, length, IfSome, is_ok, Some, None, Ok, Err, string_bytes, decimal, Option, Result, String}
use Rattle.std.specs.declared.alloc.Global.{Global}
use Rattle.frame.specs.Meaning.{Frames}
use Rattle.frame.specs.Sources.{plain, recorded}
use Rattle.algebra.specs.Meaning.{Rules}
use Rattle.algebra.specs.declared.cell.Cell.{Cell}
use Rattle.figures.specs.Float.{float}
use Rattle.figures.specs.Summary.{summary}
use Rattle.figures.specs.Texts.{figures_text}
use Rattle.figures.specs.Trail.{trail}
use Rattle.layout.specs.Loaded.{loaded}
use Rattle.layout.specs.declared.node.Node.{Node}
use Rattle.evaluate.specs.Filled.{Holds}
use Rattle.evaluate.specs.Order.{Ordered}
use Rattle.render.specs.Report.{report_text}
use Rattle.console.specs.declared.command.Reckoning.{Reckoning}
use Rattle.console.specs.declared.command.Reckoning.TheVariants.{Trail, Summary, Float}
use Rattle.console.specs.declared.evaluation.EvaluationError.{EvaluationError}
use Rattle.console.specs.declared.evaluation.EvaluationError.TheVariants.{Load, Memory}

-- text is the report of these nodes: in left-to-right order, each with its one outcome
pub record Reported {V : Type 0} (show : V → Option (List ℕ)) (nodes : List Node) (source : Frames) (rules : Rules V) (text : List ℕ) : Type 0 where
  pub order : List ℕ
  pub cells : List (Cell V)
  pub ordered : Ordered nodes order
  pub held : (c : ℕ) → 1 ≤ c → c ≤ length nodes → Holds nodes source rules cells c
  pub text_is : IfSome (report_text show nodes source.count order cells) (λ bs. text ≡ bs)

-- the same by the rules of each reckoning; of the text of floats nothing is said
abbrev pub ReportedBy : Reckoning → List Node → Frames → List ℕ → Type 0
ReportedBy Trail nodes source text = Reported (λ n. Some (decimal n)) nodes source trail text
ReportedBy Summary nodes source text = Reported (λ x. Some (figures_text x)) nodes source summary text
ReportedBy Float nodes source text = Reported (λ _. None) nodes source float text

-- a plain trace, or a recorder where a start is given
abbrev pub source_of : List ℕ → Option ℕ → Frames
source_of bytes None = plain bytes
source_of bytes (Some start) = recorded bytes start

-- the report of the nodes that the job's bytes hold, unless memory fails; a refused job is answered by its refusal
abbrev pub TextAnswered : List ℕ → Frames → Reckoning → Result (String Global) EvaluationError → Type 0
TextAnswered job source reckoning (Ok s) = (nodes : List Node) × (loaded job ≡ Ok nodes) × ReportedBy reckoning nodes source (string_bytes s)
TextAnswered job source reckoning (Err (Load refusal)) = loaded job ≡ Err refusal
TextAnswered job source reckoning (Err Memory) = is_ok (loaded job) ≡ true
