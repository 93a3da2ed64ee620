use Rattle.evaluate.proofs.traversal.+visit.Given as goal

abbrev pub decreases-visit : goal.decreases-visit
decreases-visit l = l.place.number
