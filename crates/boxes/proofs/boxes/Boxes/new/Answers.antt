use Rattle.std.proofs.Common.{sym, ap, ◌∙◌, subst}
use Rattle.boxes.specs.Chains.{pile_of}
use Rattle.boxes.proofs.Fresh.{fresh-boxed, fresh-pile}
use Rattle.boxes.proofs.Boxings.{Boxed}
use Rattle.boxes.proofs.boxes.Boxes.new.Goals as goal

pub invariant_of-result : goal.invariant_of-result
invariant_of-result c = let b = subst Boxed (sym c.new.ensures) fresh-boxed in assumption b

pub returns : goal.returns
returns c = ap pile_of c.new.ensures ∙ fresh-pile
