-- When a file follows the layout of a job.
use Rattle.std.specs.Prelude.{◌≡◌, ℕ, ◌+◌, ◌*◌, ◌≤◌, false, List, [], ◌∷◌, length, slice_index}
use Rattle.std.specs.List.{AllByRecursion}
use Rattle.layout.specs.declared.node.Node.{Node}
use Rattle.layout.specs.declared.node.Node.TheVariants.{Leaf, Fork}
use Rattle.layout.specs.declared.node.Parent.{Parent}
use Rattle.layout.specs.Layout.{short_at, word_at, count, first, start, next}
use Rattle.layout.specs.Chain.{among}
use Rattle.layout.specs.Shape.{Shape}

-- an index of one of m records
abbrev pub Index : ℕ → ℕ → Type 0
Index m x = (1 ≤ x) × (x ≤ m)

-- none of these stands twice
abbrev pub Distinct : List ℕ → Type 0
Distinct [] = Unit {0}
Distinct (x ∷ xs) = (among x xs ≡ false) × Distinct xs

-- the link x leads to the first of these records, each one's link to the next, and the last one's link is y
abbrev pub Linked : List ℕ → ℕ → List ℕ → ℕ → Type 0
Linked b x [] y = x ≡ y
Linked b x (z ∷ zs) y = (x ≡ z) × Linked b (next b z) zs y

-- the record that starts at place i of the file holds this node
abbrev pub Holds : List ℕ → ℕ → Node → Type 0
Holds b i (Leaf a k) = (slice_index b i ≡ 1) × (slice_index b (i + 1) ≡ 0) × (a ≡ word_at b (i + 4)) × (k ≡ short_at b (i + 8)) × (short_at b (i + 10) ≡ 0)
Holds b i (Fork l r) = (slice_index b i ≡ 2) × (slice_index b (i + 1) ≡ 0) × (l ≡ short_at b (i + 4)) × (r ≡ short_at b (i + 6)) × (word_at b (i + 8) ≡ 0)

-- the records with these indices hold these nodes, one by one
abbrev pub Contents : List ℕ → List ℕ → List Node → Type 0
Contents b [] [] = Unit {0}
Contents b [] (n ∷ ns) = ⊥
Contents b (x ∷ xs) [] = ⊥
Contents b (x ∷ xs) (n ∷ ns) = Holds b (start x) n × Contents b xs ns

-- the header counts 1 to 1024 records, and the file ends after the last of them
pub record WellSized (b : List ℕ) : Type 0 where
  pub headed : 4 ≤ length b
  pub counted : Index 1024 (count b)
  pub exact : length b ≡ 4 + 12 * count b

-- the records xs, of m, are reached one after another from the header on, none twice; y is the link of the last (of the header, if none)
pub record Reached (b : List ℕ) (m : ℕ) (xs : List ℕ) (y : ℕ) : Type 0 where
  pub linked : Linked b (first b) xs y
  pub within : AllByRecursion (Index m) xs
  pub distinct : Distinct xs

-- xs are the records on the chain, in order: at least one, and the last one's link is 0
pub record Chained (b : List ℕ) (m : ℕ) (xs : List ℕ) : Type 0 where
  pub some : first b ≡ 0 → ⊥
  pub reached : Reached b m xs 0

-- the file b holds the job with the nodes ns: they stand in the records on its chain, and have the shape of a job
pub record Follows (b : List ℕ) (ns : List Node) : Type 0 where
  pub order : List ℕ
  pub ps : List Parent
  pub sized : WellSized b
  pub chained : Chained b (count b) order
  pub holds : Contents b order ns
  pub shape : Shape ns ps
