use Rattle.cases.proofs.Hand.{by_hand}
use Rattle.cases.proofs.cases_stand.Goals as goal

pub returns-clause-stand : goal.returns-clause-stand
returns-clause-stand c = by_hand
