-- The pass over the forks: which fork names each node. Node c stands at index c - 1 of a list of nodes or parents.
use Rattle.std.specs.Prelude.{ℕ, ◌+◌, ◌-◌, cond, List, [], ◌∷◌, length, take, replicate, Ok, Err, Result, ◌==◌, nat_lt, slice_index_or, slice_set}
use Rattle.layout.specs.declared.node.Node.{Node}
use Rattle.layout.specs.declared.node.Node.TheVariants.{Leaf, Fork}
use Rattle.layout.specs.declared.node.Parent.{Parent}
use Rattle.layout.specs.declared.node.Parent.TheVariants.{Root, LeftOf, RightOf}
use Rattle.layout.specs.declared.refusal.LoadRefusal.{LoadRefusal}
use Rattle.layout.specs.declared.refusal.LoadRefusal.TheVariants.{Naming}
use Rattle.layout.specs.Steps.{and_then}

-- fork f takes a node whose parent was q, and is p now: one that is named already is refused
abbrev pub taken : ℕ → ℕ → Parent → List Parent → Parent → Result (List Parent) LoadRefusal
taken f c p ps Root = Ok (slice_set ps (c - 1) p)
taken f c p ps (LeftOf g) = Err (Naming f)
taken f c p ps (RightOf g) = Err (Naming f)

-- fork f names node c: not 0, lower than f, and named by no fork before
abbrev pub name : ℕ → ℕ → Parent → List Parent → Result (List Parent) LoadRefusal
name f c p ps =
    cond (c == 0) (Err (Naming f)) (cond (nat_lt c f) (taken f c p ps (slice_index_or ps (c - 1) Root)) (Err (Naming f)))

-- node f names its sides: a leaf has none, a fork names left before right
abbrev pub claims : ℕ → Node → List Parent → Result (List Parent) LoadRefusal
claims f (Leaf a k) ps = Ok ps
claims f (Fork l r) ps = and_then (name f l (LeftOf f) ps) (λ qs. name f r (RightOf f) qs)

-- the nodes name their sides in the order of their numbers, from f on
abbrev pub named : ℕ → List Parent → List Node → Result (List Parent) LoadRefusal
named f ps [] = Ok ps
named f ps (n ∷ ns) = and_then (claims f n ps) (λ qs. named (f + 1) qs ns)

-- every node from c on has a parent
abbrev pub complete : ℕ → List Parent → Result Unit LoadRefusal
complete c [] = Ok tt
complete c (Root ∷ ps) = Err (Naming c)
complete c (LeftOf f ∷ ps) = complete (c + 1) ps
complete c (RightOf f ∷ ps) = complete (c + 1) ps

-- the parents of the nodes; every node but the last, the root, has one
abbrev pub parents : List Node → Result (List Parent) LoadRefusal
parents ns =
    and_then (named 1 (replicate (length ns) Root) ns) (λ ps. and_then (complete 1 (take (length ns - 1) ps)) (λ _. Ok ps))
