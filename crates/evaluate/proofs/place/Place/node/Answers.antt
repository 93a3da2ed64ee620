use Rattle.std.proofs.Common.{IsSome, sym, subst, ◌∙◌}
use Rattle.layout.proofs.Places.{nth-is}
use Rattle.evaluate.proofs.Sides.{found}
use Rattle.evaluate.proofs.place.Place.node.Goals as goal

pub unwrap-requires : goal.unwrap-requires
unwrap-requires c = subst IsSome (sym c.node.ensures) (found _ _ c.args.self.low c.args.self.high)

pub returns : goal.returns
returns c = nth-is _ _ _ (sym c.unwrap.ensures ∙ c.node.ensures)
