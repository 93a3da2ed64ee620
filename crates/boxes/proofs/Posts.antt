-- What a post leaves.
use Rattle.std.proofs.Common.{not, ◌≡◌, ℕ, ◌+◌, ◌<◌, ◌≤◌, true, false, cond, eqb, leb, [], ◌∷◌, ◌++◌, length, Some, Ok, sym, refl, ap, arith, length-append}
use Rattle.std.proofs.lemmas.Bool.{leb-false}
use Rattle.std.proofs.lemmas.Bool.Decides.{nat_tests}
use Rattle.std.proofs.lemmas.List.Elements.{All-cons}
use Rattle.mail.specs.Collections.{tally, Same}
use Rattle.mail.specs.Messages.{message, composed, sendable, addressed}
use Rattle.mail.specs.declared.message.Message.{Message}
use Rattle.mail.proofs.Accepted.{passed, answered}
use Rattle.mail.proofs.Collections.{Tallied, tally-cons, tallied-length, tallied-push, tallied-same}
use Rattle.boxes.specs.Chains.{chain_of, box_of, pile_of}
use Rattle.boxes.specs.Inner.{moved, moved_next}
use Rattle.boxes.specs.Meaning.{box, pile}
use Rattle.boxes.specs.declared.boxes.Boxes.{Boxes}
use Rattle.boxes.specs.declared.boxes.pool.Pool.{Pool}
use Rattle.boxes.proofs.Searches.{Spot}
use Rattle.boxes.proofs.Boxings.{Boxed, Between, Moved, moves, none_unaddressed, spot-led}
use Rattle.boxes.proofs.Stacks.{stacked-change}
use Rattle.boxes.proofs.Piles.{one-box, box-fits, free-record}

-- the pool after a post of this message
pub record Posting (s : Boxes) (m : Message) (after : Pool) : Type 0 where
  pub boxed : Boxed after
  pub same : Same (pile_of after) (pile s ++ m ∷ [])
  pub order : (r : ℕ) → 1 ≤ r → r ≤ 16 → box_of after r ≡ cond (eqb m.receiver r) (m ∷ box s r) (box s r)

module _ (s : Boxes) (m : Message) (low : 1 ≤ m.receiver) (high : m.receiver ≤ 16) (by : addressed m ≡ true) (room : s.pool.count < 64) where
  abbrev q : ℕ
  q = m.receiver

  abbrev x : ℕ
  x = (free-record s room).0

  abbrev free : Spot 64 (chain_of s.pool 0) 64 x
  free = (free-record s room).1

  abbrev pool' : Pool
  pool' = moved s.pool 64 x (64 + q) (Some m) (s.pool.count + 1)

  move : Moved s 0 q (Some m) pool' 64 x free
  move = moves s 0 q 64 x (Some m) (s.pool.count + 1) (omega arith) high (λ e. omega arith) refl free (omega (arith, box-fits s q low high))

  others : (r : ℕ) → 1 ≤ r → r ≤ 16 → (r ≡ q → ⊥) → box_of pool' r ≡ box s r
  others r l u ne = move.box-other r u (λ e. omega arith) ne

  one_more : Tallied (pile_of pool') (pile s ++ m ∷ [])
  one_more test = omega (
    arith,
    tallied-push (pile s) m test,
    tally-cons test m (pile s),
    tally-cons test m (box s q),
    ap (tally test) move.box-onto,
    stacked-change test (box s) (box_of pool') q 16 low high others,
  )

  posting : Posting s m pool'
  posting = record {
    boxed = move.boxed
        (omega (arith, one_more (λ z. not (addressed z)), tallied-push (pile s) m (λ z. not (addressed z)), none_unaddressed (m ∷ pile s) (All-cons Between m (pile s) by s.sent)))
        (omega (arith, tallied-length (pile_of pool') (pile s ++ m ∷ []) one_more, length-append (pile s) (m ∷ []), s.counted))
        (omega (arith, s.spare, ap length free.split, ap length move.chain-from, length-append free.front (x ∷ free.back), length-append free.front free.back));
    same = tallied-same (pile_of pool') (pile s ++ m ∷ []) one_more;
    order = λ r l u. one-box q (box_of pool') (box s) (λ z. m ∷ box s z) move.box-onto r (others r l u);
  }

-- where a message was composed of these numbers, the boxes are not full, and it was put
pub posted : (s : Boxes) (receiver sender class node : ℕ) (m : Message) (after : Pool) → Ok m ≡ composed receiver sender class node → false ≡ leb 64 (length (pile s))
    → after ≡ moved_next s.pool 64 (64 + m.receiver) (Some m) (s.pool.count + 1) → Posting s (message receiver sender class node) after
posted s receiver sender class node m after h full put =
    let ok : sendable receiver sender class ≡ true = passed _ _ _ h in
    let room : s.pool.count < 64 = omega (arith, leb-false 64 (length (pile s)) (sym full), s.counted) in
    let free = free-record s room in
    rw (answered _ _ _ h, rw (spot-led s 0 64 free.0 (omega arith) free.1).leads at put)
    (posting s m (grind (arith, nat_tests)) (grind (arith, nat_tests)) (grind (arith, nat_tests)) room)
