-- The shape of a job: nodes are numbered from 1, and the last is the root.
use Rattle.std.specs.Prelude.{◌≡◌, ℕ, zero, suc, ◌+◌, ◌-◌, ◌<◌, ◌≤◌, List, [], ◌∷◌, length, Some, None, Option, slice_index_or}
use Rattle.std.specs.List.{AllByRecursion}
use Rattle.layout.specs.declared.node.Node.{Node}
use Rattle.layout.specs.declared.node.Node.TheVariants.{Leaf, Fork}
use Rattle.layout.specs.declared.node.Parent.{Parent}
use Rattle.layout.specs.declared.node.Parent.TheVariants.{Root, LeftOf, RightOf}

-- x stands at number c of the list, counted from 1
pub record Nth {X : Type 0} (xs : List X) (c : ℕ) (x : X) : Type 0 where
  pub low : 1 ≤ c
  pub high : c ≤ length xs
  pub is : x ≡ slice_index_or xs (c - 1) x

-- what stands at number c of a list, counted from 1
abbrev pub nth : {X : Type 0} → List X → ℕ → Option X
nth [] c = None
nth (x ∷ xs) zero = None
nth (x ∷ xs) (suc zero) = Some x
nth (x ∷ xs) (suc (suc c)) = nth xs (suc c)

-- a leaf covers 1 to 256 frames, whose numbers fit in 32 bits
abbrev pub Ranged : Node → Type 0
Ranged (Leaf first count) = (1 ≤ count) × (count ≤ 256) × (first + count ≤ 4294967296)
Ranged (Fork l r) = Unit {0}

-- each fork names two lower nodes, and ps has for each node the one fork that names it: none for the root alone
pub record Shape (ns : List Node) (ps : List Parent) : Type 0 where
  pub few : length ns ≤ 1024
  pub long : length ps ≡ length ns
  pub ranged : AllByRecursion Ranged ns
  pub forks : (f l r : ℕ) → Nth ns f (Fork l r) → (l < f) × (r < f) × Nth ps l (LeftOf f) × Nth ps r (RightOf f)
  pub lefts : (c f : ℕ) → Nth ps c (LeftOf f) → (r : ℕ) × Nth ns f (Fork c r)
  pub rights : (c f : ℕ) → Nth ps c (RightOf f) → (l : ℕ) × Nth ns f (Fork l c)
  pub root : (c : ℕ) → Nth ps c Root → c ≡ length ns
