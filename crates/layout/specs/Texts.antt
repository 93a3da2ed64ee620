-- The text of a node, and the line that says why a job is refused.
use Rattle.std.specs.Prelude.{ℕ, ◌+◌, ◌-◌, List, ◌++◌, codes, decimal}
use Rattle.layout.specs.Refusals.{number, place}
use Rattle.layout.specs.declared.node.Node.{Node}
use Rattle.layout.specs.declared.node.Node.TheVariants.{Leaf, Fork}
use Rattle.layout.specs.declared.refusal.LoadRefusal.{LoadRefusal}
use Rattle.layout.specs.declared.refusal.LoadRefusal.TheVariants.{Size, Link, Content, Naming}

-- a leaf by its first and last frame, a fork by its sides
abbrev pub node_text : Node → List ℕ
node_text (Leaf first count) = codes "leaf, frames " ++ (decimal first ++ (codes " to " ++ decimal (first + count - 1)))
node_text (Fork l r) = codes "fork of " ++ (decimal l ++ (codes " and " ++ decimal r))

-- the reason in words
abbrev pub in_words : LoadRefusal → List ℕ
in_words Size = codes "the header or the length of the job file is wrong"
in_words (Link i) = codes "the link of this record (0: of the header) leads nowhere, or back"
in_words (Content c) = codes "the record of this node has bad content"
in_words (Naming c) = codes "this fork names a node that it may not name, or no fork names this node"

-- number, place and reason
abbrev pub refused_with : ℕ → ℕ → List ℕ → List ℕ
refused_with number place reason =
    codes "refused " ++ (decimal number ++ (codes " at " ++ (decimal place ++ (codes ": " ++ reason))))

-- the line of a refusal
abbrev pub refusal_text : LoadRefusal → List ℕ
refusal_text x = refused_with (number x) (place x) (in_words x)
