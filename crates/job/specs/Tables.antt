-- What a `Table` holds.
use Rattle.std.specs.Prelude.{◌≡◌, ℕ, ◌<◌, ◌≤◌, ◌⊎◌, List, length, Some, None, Option}
use Rattle.layout.specs.Shape.{Nth}
use Rattle.layout.specs.declared.node.Node.{Node}
use Rattle.layout.specs.declared.node.Node.TheVariants.{Fork}
use Rattle.layout.specs.declared.node.Parent.{Parent}
use Rattle.layout.specs.declared.node.Parent.TheVariants.{Root, LeftOf, RightOf}
use Rattle.job.specs.Rows.{items_of}
use Rattle.job.specs.declared.table.Table.{Table}

-- its nodes
abbrev pub nodes_of : Table → List Node
nodes_of t = items_of t.nodes

-- the parent of each node
abbrev pub parents_of : Table → List Parent
parents_of t = items_of t.parents

-- whose side node c is: a fork's that names it, or the root; none where there is no node c
abbrev pub ParentOf : List Node → ℕ → Option Parent → Type 0
ParentOf ns c None = (c < 1) ⊎ (length ns < c)
ParentOf ns c (Some Root) = (1 ≤ c) × (c ≡ length ns)
ParentOf ns c (Some (LeftOf f)) = (r : ℕ) × Nth ns f (Fork c r)
ParentOf ns c (Some (RightOf f)) = (l : ℕ) × Nth ns f (Fork l c)
