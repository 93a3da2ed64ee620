use Rattle.std.proofs.Common.{sym, ◌∙◌}
use Rattle.job.proofs.Filed.{record-none, record-node}
use Rattle.job.proofs.file.JobFile.node.Goals as goal

pub returns-in_err-record : goal.returns-in_err-record
returns-in_err-record c = absurd (record-none c.args.self.now.bytes.now c.args.x c.requires (sym c.in_err-record.was ∙ c.record.ensures))

pub returns : goal.returns
returns c = c.decode.ensures ∙ record-node c.args.self.now.bytes.now c.args.x (sym c.in_ok-record.was ∙ c.record.ensures)
