-- A mail that is made of two: what each of them may do, the whole may.
use Rattle.std.proofs.Common.{◌≡◌, ℕ, min, Bool, true, false, cond, List, [], ◌∷◌, ◌++◌, Some, None, Ok, Err, Option, Result, nat_le, sym, refl, ap, ◌∙◌, arith}
use Rattle.mail.specs.Mails.{Posted, Taken}
use Rattle.mail.specs.Meaning.{Meaning}
use Rattle.mail.specs.declared.message.Message.{Message}
use Rattle.mail.specs.declared.refusal.MailRefusal.{MailRefusal}
use Rattle.mail.proofs.Collections.{Tallied, tally-append, tally-cons, tallied-push, same-tallied, tallied-same, removed-tallied, tallied-removed}
use Rattle.bridge.specs.Bridges.{bridge_meaning, from_first, Routed, TakenFrom}
use Rattle.bridge.specs.declared.bridge.Bridge.{Bridge}

-- a mail as a part of a greater one: the rest of the messages there, and the other bound on its capacity
record Part {X Z : Type 0} (means : X → Meaning) (wholes : Z → Meaning) (whole : X → Z) : Type 0 where
  rest : List Message
  waits : (x : X) → Tallied (wholes (whole x)).waits ((means x).waits ++ rest)
  room : ℕ
  capacity : (x : X) → (wholes (whole x)).capacity ≡ min (means x).capacity room

module _ {X Z : Type 0} {means : X → Meaning} {wholes : Z → Meaning} {whole : X → Z} (part : Part means wholes whole) where
  kept-capacity : (x x' : X) → (means x').capacity ≡ (means x).capacity → (wholes (whole x')).capacity ≡ (wholes (whole x)).capacity
  kept-capacity x x' h = part.capacity x' ∙ ap (λ n. min n part.room) h ∙ sym (part.capacity x)

  -- one message more in the part is one more in the whole
  more-part : (x x' : X) (m : Message) → Tallied (means x).waits (m ∷ (means x').waits) → Tallied (wholes (whole x)).waits (m ∷ (wholes (whole x')).waits)
  more-part x x' m h test = omega (
    arith,
    h test,
    part.waits x test,
    part.waits x' test,
    tally-append test (means x).waits part.rest,
    tally-append test (means x').waits part.rest,
    tally-cons test m (means x').waits,
    tally-cons test m (wholes (whole x')).waits,
  )

  -- a post to the part is one to the whole
  posted-part : (x x' : X) (m : Message) (r : Result (Unit {0}) MailRefusal) → Posted means m x x' r → Posted wholes m (whole x) (whole x') r
  posted-part x x' m (Ok u) h =
      let push = tallied-push (means x).waits m in
      let push-whole = tallied-push (wholes (whole x)).waits m in
      let posts = same-tallied (means x').waits ((means x).waits ++ m ∷ []) h.0 in
      let more = more-part x' x m (λ test. posts test ∙ push test) in (
        tallied-same (wholes (whole x')).waits ((wholes (whole x)).waits ++ m ∷ []) (λ test. more test ∙ sym (push-whole test)),
        kept-capacity x x' h.1,
      )
  posted-part x x' m (Err e) h = ap whole h

  -- a take from the part is one from the whole
  taken-part : (x x' : X) (r : Result (Option Message) MailRefusal) → Taken means x x' r → Taken wholes (whole x) (whole x') r
  taken-part x x' (Ok (Some m)) h =
      let more = more-part x x' m (removed-tallied m (means x).waits (means x').waits h.0) in (
        tallied-removed m (wholes (whole x)).waits (wholes (whole x')).waits more,
        kept-capacity x x' h.1,
      )
  taken-part x x' (Ok None) h = ap whole h
  taken-part x x' (Err e) h = ap whole h

module _ {X Y : Type 0} (firsts : X → Meaning) (seconds : Y → Meaning) where
  abbrev of : ℕ → X → Y → Bridge X Y
  of split x y = record { first = x; second = y; split = split }

  -- the two parts of a bridge
  first_part : (split : ℕ) (y : Y) → Part firsts (bridge_meaning firsts seconds) (λ x. of split x y)
  first_part split y =
      record { rest = (seconds y).waits; waits = λ x test. refl; room = (seconds y).capacity; capacity = λ x. refl }

  second_part : (split : ℕ) (x : X) → Part seconds (bridge_meaning firsts seconds) (of split x)
  second_part split x = record {
    rest = (firsts x).waits;
    waits = λ y test. omega (arith, tally-append test (firsts x).waits (seconds y).waits, tally-append test (seconds y).waits (firsts x).waits);
    room = (firsts x).capacity;
    capacity = λ y. omega arith;
  }

  -- so a post to one of the two is one to the bridge
  posted-either : (t : Bool) (m : Message) (b b' : Bridge X Y) (r : Result (Unit {0}) MailRefusal)
      → cond t (Posted firsts m b.first b'.first r × (b'.second ≡ b.second)) (Posted seconds m b.second b'.second r × (b'.first ≡ b.first))
      → b'.split ≡ b.split → Posted (bridge_meaning firsts seconds) m b b' r
  posted-either true m b b' r h split = rw (split, h.1) (posted-part (first_part b.split b.second) b.first b'.first m r h.0)
  posted-either false m b b' r h split = rw (split, h.1) (posted-part (second_part b.split b.first) b.second b'.second m r h.0)

  pub posted_to : (m : Message) (b b' : Bridge X Y) (r : Result (Unit {0}) MailRefusal)
      → Routed firsts seconds m b b' r → Posted (bridge_meaning firsts seconds) m b b' r
  posted_to m b b' r h = posted-either (nat_le m.receiver b.split) m b b' r h.1 h.0

  -- and a take from one of the two is one from it
  taken-either : (t : Bool) (b b' : Bridge X Y) (r : Result (Option Message) MailRefusal)
      → cond t (Taken firsts b.first b'.first r × (b'.second ≡ b.second)) (Taken seconds b.second b'.second r × (b'.first ≡ b.first))
      → b'.split ≡ b.split → Taken (bridge_meaning firsts seconds) b b' r
  taken-either true b b' r h split = rw (split, h.1) (taken-part (first_part b.split b.second) b.first b'.first r h.0)
  taken-either false b b' r h split = rw (split, h.1) (taken-part (second_part b.split b.first) b.second b'.second r h.0)

  pub taken_from : (q k : ℕ) (b b' : Bridge X Y) (r : Result (Option Message) MailRefusal)
      → TakenFrom firsts seconds q k b b' r → Taken (bridge_meaning firsts seconds) b b' r
  taken_from q k b b' r h = taken-either (from_first firsts seconds q k b) b b' r h.1 h.0
