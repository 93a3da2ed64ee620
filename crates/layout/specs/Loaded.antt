-- What loading a job file gives: the passes, one after another.
use Rattle.std.specs.Prelude.{ℕ, List, [], Ok, Err, Result}
use Rattle.layout.specs.declared.node.Node.{Node}
use Rattle.layout.specs.declared.refusal.LoadRefusal.{LoadRefusal}
use Rattle.layout.specs.Layout.{header}
use Rattle.layout.specs.Chain.{chain}
use Rattle.layout.specs.Records.{records}
use Rattle.layout.specs.Naming.{parents}
use Rattle.layout.specs.Steps.{and_then}

-- the nodes of the job, or the first refusal
abbrev pub loaded : List ℕ → Result (List Node) LoadRefusal
loaded b =
    and_then (header b) (λ m.
    and_then (chain b m) (λ xs.
    and_then (records b [] xs) (λ ns.
    and_then (parents ns) (λ _. Ok ns))))

-- the nodes in the table afterwards: none after a refusal
abbrev pub contents : Result (List Node) LoadRefusal → List Node
contents (Ok ns) = ns
contents (Err e) = []
