use Rattle.std.proofs.Common.{[], ◌∷◌, ◌++◌, sym, ◌∙◌}
use Rattle.mail.specs.Messages.{message, wanted}
use Rattle.mail.proofs.Accepted.{passed, answered}
use Rattle.mail.proofs.Collections.{same-tallied, removed-tallied, tallied-removed}
use Rattle.mail.proofs.Returns.{posted-wanted, tallied-through, the-very-one, one-waits, picked-wanted}
use Rattle.mail.proofs.returned.post_and_take_back.Goals as goal

-- a message waits, so there is one to take
pub unwrap-requires : goal.unwrap-requires
unwrap-requires g c =
    let mail = g.M.Mail.meaning in
    let args = c.args in
    let sent = c.in_ok-post.ensures in
    let posted = message args.receiver args.sender args.class args.node in
    let waited = (mail args.mail.now).waits in
    let between = mail c.post.new.self in
    one-waits between (g.met.M.Mail.lawful c.post.new.self) args.receiver args.class posted waited
    (same-tallied between.waits (waited ++ posted ∷ []) sent.effect.0)
    (posted-wanted args.receiver args.sender args.class args.node (passed _ _ _ sent.answer))
    c.in_ok-take.field-0
    (answered _ _ _ c.in_ok-take.ensures.answer)

pub returns : goal.returns
returns g c =
    let mail = g.M.Mail.meaning in
    let args = c.args in
    let sent = c.in_ok-post.ensures in
    let got = rw c.unwrap.ensures at c.in_ok-take.ensures in
    let posted = message args.receiver args.sender args.class args.node in
    let m = c.unwrap.result in
    let waited = (mail args.mail.now).waits in
    let between = mail c.post.new.self in
    let left = (mail c.take.new.self).waits in
    let such = picked-wanted between (g.met.M.Mail.lawful c.post.new.self) args.receiver args.class m (answered _ _ _ got.answer) in
    let tallied = tallied-through (waited ++ posted ∷ []) between.waits (m ∷ left)
    (same-tallied between.waits (waited ++ posted ∷ []) sent.effect.0) (removed-tallied m between.waits left got.effect.0) in (
      sym sent.answer,
      such,
      tallied-removed m (waited ++ posted ∷ []) left tallied,
      got.effect.1 ∙ sent.effect.1,
      the-very-one (wanted args.receiver args.class) m posted waited left tallied such,
    )
