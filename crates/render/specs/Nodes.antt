-- The line of a node in a report.
use Rattle.std.specs.Prelude.{ℕ, List, Some, codes, decimal, Option}
use Rattle.std.specs.Fmt.{◌++?◌}
use Rattle.algebra.specs.Texts.{cell_text}
use Rattle.algebra.specs.declared.cell.Cell.{Cell}
use Rattle.layout.specs.declared.node.Node.{Node}
use Rattle.layout.specs.Texts.{node_text}

-- the line of node c: what it is and what its cell holds
abbrev pub line_text : {V : Type 0} → (V → Option (List ℕ)) → ℕ → Node → Cell V → Option (List ℕ)
line_text show c node cell =
    Some (codes "node ") ++? Some (decimal c) ++? Some (codes ": ") ++? Some (node_text node) ++? Some (codes ": ") ++? cell_text show cell.outcome
