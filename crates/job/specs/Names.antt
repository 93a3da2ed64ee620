-- Whether a node is named.
use Rattle.std.specs.Prelude.{Bool, true, false}
use Rattle.layout.specs.declared.node.Parent.{Parent}
use Rattle.layout.specs.declared.node.Parent.TheVariants.{Root, LeftOf, RightOf}

-- no fork names the node with this parent
abbrev pub unnamed : Parent → Bool
unnamed Root = true
unnamed (LeftOf f) = false
unnamed (RightOf f) = false
