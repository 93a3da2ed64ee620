use Rattle.std.proofs.Common.{◌≡◌, Some, sym, refl, ap, ◌∙◌, rules}
use Rattle.mail.specs.Collections.{first, without}
use Rattle.mail.specs.Messages.{wanted}
use Rattle.mail.proofs.Collections.{removed-first}
use Rattle.line.specs.Lines.{row}
use Rattle.line.proofs.Rows.{first-at, first-none}
use Rattle.line.proofs.line.LineMail.take.Goals as goal

pub returns-in_default : goal.returns-in_default
returns-in_default c =
    let asked = c.in_ok-asked.ensures in
    let none = first-none (wanted c.args.receiver c.args.class) (row c.args.self.now) (sym (rw (asked.1, asked.2) at c.in_default.ensures)) in
    record { effect = refl; oldest = search rules; order = search rules }

pub returns : goal.returns
returns c =
    let s = c.args.self.now in
    let asked = c.in_ok-asked.ensures in
    let test = wanted c.args.receiver c.args.class in
    let m = c.close.result in
    let found = first-at test (row s) c.in-Some.i m (sym (rw (asked.1, asked.2) at c.in-Some.ensures)) in
    let oldest : first test (row s) ≡ Some m = found.0 ∙ ap (λ t. Some t) (sym c.close.ensures.message) in
    let left : row c.close.new.self ≡ without test (row s) = c.close.ensures.row ∙ sym found.1 in
    record { effect = (removed-first test (row s) _ m oldest left, refl); oldest = search rules; order = search rules }
