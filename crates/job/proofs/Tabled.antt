-- Every table has the shape of a job.
use Rattle.std.proofs.Common.{◌≡◌, ℕ, ◌-◌, length, get_or, Some, None, Option, refl, inl, inr, ⊎_elim, arith}
use Rattle.std.proofs.lemmas.Bool.{cases_lt}
use Rattle.layout.specs.Shape.{Shape, nth}
use Rattle.layout.specs.declared.node.Parent.{Parent}
use Rattle.layout.specs.declared.node.Parent.TheVariants.{Root, LeftOf, RightOf}
use Rattle.layout.proofs.Places.{nth-from, nth-is, nth-some}
use Rattle.layout.proofs.Shapes.{shaped}
use Rattle.job.specs.Tables.{nodes_of, parents_of, ParentOf}
use Rattle.job.specs.declared.table.Table.{Table}

pub table-shape : (t : Table) → Shape (nodes_of t) (parents_of t)
table-shape t = shaped (nodes_of t) (parents_of t) t.nodes.few t.ranged t.wired

-- what is kept of node c is whose side it is
pub parent_of : (t : Table) (c : ℕ) (r : Option Parent) → r ≡ nth (parents_of t) c → ParentOf (nodes_of t) c r
parent_of t c (Some Root) e = let at = nth-is (parents_of t) c Root e in (at.low, (table-shape t).root c at)
parent_of t c (Some (LeftOf f)) e = (table-shape t).lefts c f (nth-is (parents_of t) c (LeftOf f) e)
parent_of t c (Some (RightOf f)) e = (table-shape t).rights c f (nth-is (parents_of t) c (RightOf f) e)
parent_of t c None e =
    ⊎_elim inl
    (λ low.
    ⊎_elim inr
    (λ high.
    let long = (table-shape t).long in
    let found = nth-some (nth-from (parents_of t) c Root (get_or (parents_of t) (c - 1) Root) low (omega arith) refl) in
    absurd cc)
    (cases_lt (length (nodes_of t)) c))
    (cases_lt c 1)
