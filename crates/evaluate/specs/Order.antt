-- The nodes of a job in left-to-right order.
use Rattle.std.specs.Prelude.{◌≡◌, ℕ, ◌≤◌, List, [], ◌∷◌, ◌++◌, length}
use Rattle.std.specs.List.{ContainsAt}
use Rattle.layout.specs.Shape.{Nth}
use Rattle.layout.specs.declared.node.Node.{Node}
use Rattle.layout.specs.declared.node.Node.TheVariants.{Leaf, Fork}

-- a leaf stands alone, a fork comes after its left side and then its right side
pub data Order (ns : List Node) : ℕ → List ℕ → Type 0 where
  leaf_alone : {c first count : ℕ} → Nth ns c (Leaf first count) → Order ns c (c ∷ [])
  fork_last : {c l r : ℕ} {xs ys : List ℕ} → Nth ns c (Fork l r) → Order ns l xs → Order ns r ys → Order ns c ((xs ++ ys) ++ c ∷ [])

-- the order of node c and its sides stands at the end of the list
pub record Appended (ns : List Node) (c : ℕ) (before after : List ℕ) : Type 0 where
  pub added : List ℕ
  pub order : Order ns c added
  pub at_end : after ≡ before ++ added

-- xs is the one order of all nodes, and each is in it; a job of no nodes has none in it
pub record Ordered (ns : List Node) (xs : List ℕ) : Type 0 where
  pub empty : length ns ≡ 0 → xs ≡ []
  pub order : 1 ≤ length ns → Order ns (length ns) xs
  pub only : (ys : List ℕ) → Order ns (length ns) ys → ys ≡ xs
  pub every : (c : ℕ) → 1 ≤ c → c ≤ length ns → ContainsAt xs c
