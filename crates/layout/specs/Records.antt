-- The pass over the records on a chain: the nodes that they hold.
use Rattle.std.specs.Prelude.{ℕ, ◌+◌, List, [], ◌∷◌, ◌++◌, length, Some, None, Ok, Err, Option, Result}
use Rattle.layout.specs.declared.node.Node.{Node}
use Rattle.layout.specs.declared.refusal.LoadRefusal.{LoadRefusal}
use Rattle.layout.specs.declared.refusal.LoadRefusal.TheVariants.{Content}
use Rattle.layout.specs.Layout.{start, node_at}
use Rattle.layout.specs.Steps.{and_then}

-- the nodes so far, with one more where its record can be read
abbrev pub added : List Node → Option Node → Result (List Node) LoadRefusal
added ns None = Err (Content (length ns + 1))
added ns (Some n) = Ok (ns ++ n ∷ [])

-- the nodes so far, and those in the records with these indices
abbrev pub records : List ℕ → List Node → List ℕ → Result (List Node) LoadRefusal
records b ns [] = Ok ns
records b ns (x ∷ xs) = and_then (added ns (node_at b (start x))) (λ more. records b more xs)
