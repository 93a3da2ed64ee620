use Rattle.std.proofs.Common.{rules}
use Rattle.bridge.proofs.Parts.{taken_from}
use Rattle.bridge.proofs.bridge.BridgeMail.take.Goals as goal

pub returns-then-first_owns-clause-effect : goal.returns-then-first_owns-clause-effect
returns-then-first_owns-clause-effect g c = search (rules, taken_from g.F.Mail.meaning g.S.Mail.meaning c.args.receiver c.args.class)

pub returns-else-first_owns-clause-effect : goal.returns-else-first_owns-clause-effect
returns-else-first_owns-clause-effect g c = search (rules, taken_from g.F.Mail.meaning g.S.Mail.meaning c.args.receiver c.args.class)
