-- The report of an evaluation. A part whose values have no known text has none either.
use Rattle.std.specs.Prelude.{ℕ, List, [], ◌∷◌, ◌++◌, length, Some, None, codes, Option}
use Rattle.std.specs.Fmt.{◌++?◌, with_newline}
use Rattle.algebra.specs.Cells.{cell_at}
use Rattle.algebra.specs.Texts.{cell_text}
use Rattle.algebra.specs.declared.cell.Cell.{Cell}
use Rattle.layout.specs.Shape.{nth}
use Rattle.layout.specs.declared.node.Node.{Node}
use Rattle.render.specs.Nodes.{line_text}
use Rattle.render.specs.Words.{counted}

-- how many nodes the job has, and how many frames the trace
abbrev pub head_text : ℕ → ℕ → List ℕ
head_text nodes frames = codes "job: " ++ (counted nodes (codes "node") ++ (codes "\ntrace: " ++ (counted frames (codes "frame") ++ (10 ∷ []))))

module _ {V : Type 0} (show : V → Option (List ℕ)) where
  -- the line of node c, if it is one; no line for any other number
  abbrev pub line_of : List (Cell V) → ℕ → Option Node → Option (List ℕ)
  line_of cells c None = Some []
  line_of cells c (Some node) = with_newline (line_text show c node (cell_at cells c))

  -- the lines of these numbers, in their order
  abbrev pub lines_text : List Node → List (Cell V) → List ℕ → Option (List ℕ)
  lines_text nodes cells [] = Some []
  lines_text nodes cells (c ∷ cs) = line_of cells c (nth nodes c) ++? lines_text nodes cells cs

  -- what the last node yields
  abbrev pub outcome_line : Cell V → Option (List ℕ)
  outcome_line cell = with_newline (Some (codes "outcome: ") ++? cell_text show cell.outcome)

  -- the whole report
  abbrev pub report_text : List Node → ℕ → List ℕ → List (Cell V) → Option (List ℕ)
  report_text nodes frames order cells =
      (Some (head_text (length nodes) frames) ++? lines_text nodes cells order) ++? outcome_line (cell_at cells (length nodes))
