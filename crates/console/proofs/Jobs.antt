-- A job that is loaded has a node.
use Rattle.std.proofs.Common.{◌≡◌, ℕ, ◌≤◌, List, [], ◌∷◌, length, arith}
use Rattle.layout.specs.Follows.{Follows, Linked, Contents}
use Rattle.layout.specs.declared.node.Node.{Node}

some-linked : (b : List ℕ) (x : ℕ) (order : List ℕ) (ns : List Node) → (x ≡ 0 → ⊥) → Linked b x order 0 → Contents b order ns → 1 ≤ length ns
some-linked b x [] ns ne l h = absurd (ne l)
some-linked b x (y ∷ ys) [] ne l h = absurd h
some-linked b x (y ∷ ys) (n ∷ ns) ne l h = omega arith

pub some-node : (b : List ℕ) (ns : List Node) → Follows b ns → 1 ≤ length ns
some-node b ns f = some-linked b _ f.order ns f.chained.some f.chained.reached.linked f.holds
