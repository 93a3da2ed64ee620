use Rattle.job.proofs.Filed.{record_below}
use Rattle.job.proofs.walk.reach.Goals as goal

pub bounds-reached-at : goal.bounds-reached-at
bounds-reached-at c = record_below c.record.ensures c.in_ok-record.was c.args.file.now.sized c.from-at.ensures

pub bounds-reached-at-2 : goal.bounds-reached-at-2
bounds-reached-at-2 c = record_below c.record.ensures c.in_ok-record.was c.args.file.now.sized c.from-at.ensures
