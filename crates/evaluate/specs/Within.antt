-- Which nodes a node has on its sides.
use Rattle.std.specs.Prelude.{ℕ, List}
use Rattle.layout.specs.Shape.{Nth}
use Rattle.layout.specs.declared.node.Node.{Node}
use Rattle.layout.specs.declared.node.Node.TheVariants.{Fork}

-- node d is node c, or stands somewhere on its left or its right side
pub data Within (ns : List Node) : ℕ → ℕ → Type 0 where
  itself : {c : ℕ} → Within ns c c
  on_left : {c l r d : ℕ} → Nth ns c (Fork l r) → Within ns l d → Within ns c d
  on_right : {c l r d : ℕ} → Nth ns c (Fork l r) → Within ns r d → Within ns c d
