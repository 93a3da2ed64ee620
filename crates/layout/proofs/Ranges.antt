-- A node is in range in one way.
use Rattle.std.proofs.Props.{props}
use Rattle.layout.specs.declared.node.Node.{Node}
use Rattle.layout.specs.declared.node.Node.TheVariants.{Leaf, Fork}
use Rattle.layout.specs.Shape.{Ranged}

pub Ranged-prop : (n : Node) → IsProp (Ranged n)
Ranged-prop (Leaf first count) = Prim.hlevel props
Ranged-prop (Fork l r) = Prim.hlevel props
