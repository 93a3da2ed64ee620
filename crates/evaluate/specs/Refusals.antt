-- The number of each refusal.
use Rattle.std.specs.Prelude.{ℕ}
use Rattle.evaluate.specs.declared.refusal.EvaluateRefusal.{EvaluateRefusal}
use Rattle.evaluate.specs.declared.refusal.EvaluateRefusal.TheVariants.{EmptyTable, FewCells}

-- 7 for no nodes, 9 for too few cells
abbrev pub number : EvaluateRefusal → ℕ
number EmptyTable = 7
number FewCells = 9
