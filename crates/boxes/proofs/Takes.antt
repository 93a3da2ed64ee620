-- What a take answers and leaves.
use Rattle.std.proofs.Common.{not, ◌≡◌, ℕ, ◌+◌, ◌-◌, ◌<◌, ◌≤◌, cond, eqb, ◌∷◌, length, Option, Some, None, Ok, sym, refl, ap, ◌∙◌, arith, length-append}
use Rattle.std.proofs.lemmas.Bool.Decides.{nat_tests}
use Rattle.mail.specs.Asked.{Asks}
use Rattle.mail.specs.Collections.{tally, first, without, Removed}
use Rattle.mail.specs.Messages.{addressed, class_number, wanted}
use Rattle.mail.specs.declared.asked.Asked.{Asked}
use Rattle.mail.specs.declared.message.Message.{Message}
use Rattle.mail.proofs.Collections.{Tallied, tally-cons, tallied-length, tallied-removed, first_some, first-none}
use Rattle.boxes.specs.Chains.{held, chain_of, box_of, pile_of}
use Rattle.boxes.specs.Inner.{before, sought, moved, held_next, moved_next}
use Rattle.boxes.specs.Meaning.{box, pile}
use Rattle.boxes.specs.declared.boxes.Boxes.{Boxes}
use Rattle.boxes.specs.declared.boxes.pool.Pool.{Pool}
use Rattle.boxes.proofs.Searches.{Found, search-found, search_none}
use Rattle.boxes.proofs.Boxings.{Boxed, none_unaddressed, spot-led, Moved, moves}
use Rattle.boxes.proofs.Stacks.{stacked-change}
use Rattle.boxes.proofs.Piles.{one-box, pile-first, box-fits}

-- no such message waits
pub record Nothing (s : Boxes) (q k : ℕ) : Type 0 where
  pub pick : first (wanted q k) (pile s) ≡ None
  pub newest : first (wanted q k) (box s q) ≡ None
  pub order : (r : ℕ) → box s r ≡ cond (eqb q r) (without (wanted q k) (box s r)) (box s r)

-- the newest such message is taken, and the pool is left so
pub record Taking (s : Boxes) (q k : ℕ) (result : Option Message) (after : Pool) : Type 0 where
  pub m : Message
  pub is : result ≡ Some m
  pub pick : first (wanted q k) (pile s) ≡ Some m
  pub newest : first (wanted q k) (box s q) ≡ Some m
  pub boxed : Boxed after
  pub removed : Removed m (pile s) (pile_of after)
  pub order : (r : ℕ) → 1 ≤ r → r ≤ 16 → box_of after r ≡ cond (eqb q r) (without (wanted q k) (box s r)) (box s r)

-- where leave to ask for a receiver and a class was given
module _ (s : Boxes) (receiver class : ℕ) (asked : Asked) (leave : Asks receiver class (Ok asked)) where
  abbrev q : ℕ
  q = asked.receiver

  abbrev k : ℕ
  k = class_number asked.class

  low : 1 ≤ q
  low = grind (arith, nat_tests, asked.processor)

  high : q ≤ 16
  high = grind (arith, nat_tests, asked.processor)

  pub nothing : None ≡ before (sought s.pool asked) (64 + q) (chain_of s.pool q) → Nothing s receiver class
  nothing h =
      let none = search_none asked (held s.pool.records) (chain_of s.pool q) (64 + q) (sym h) in
      rw (← leave.1, ← leave.2) (record {
        pick = pile-first s q k low high ∙ none;
        newest = none;
        order = λ r. one-box q (box s) (box s) (λ z. without (wanted q k) (box s z)) (sym (first-none (wanted q k) (box s q) none).1) r (λ ne. refl);
      })

  module _ (cell : ℕ) (h : Some cell ≡ before (sought s.pool asked) (64 + q) (chain_of s.pool q)) where
    found : Found asked (held s.pool.records) (64 + q) (chain_of s.pool q) cell
    found = search-found asked (held s.pool.records) (chain_of s.pool q) (64 + q) cell (sym h)

    abbrev pool' : Pool
    pool' = moved s.pool cell found.x 64 None (s.pool.count - 1)

    pub waits : 0 < s.pool.count
    waits = omega (arith, box-fits s q low high, ap length found.spot.split, length-append found.spot.front (found.x ∷ found.spot.back))

    move : Moved s q 0 None pool' cell found.x found.spot
    move = moves s q 0 cell found.x None (s.pool.count - 1) high (omega arith) (λ e. omega (arith, low)) refl found.spot (omega (arith, waits, s.spare))

    one : box_of pool' q ≡ without (wanted q k) (box s q)
    one = move.box-from ∙ sym found.rest

    others : (r : ℕ) → 1 ≤ r → r ≤ 16 → (r ≡ q → ⊥) → box_of pool' r ≡ box s r
    others r l u ne = move.box-other r u ne (λ e. omega arith)

    one_less : Tallied (pile s) (found.m ∷ pile_of pool')
    one_less t = omega (
      arith,
      (first_some (wanted q k) (box s q) found.m found.pick).1 t,
      tally-cons t found.m (pile_of pool'),
      tally-cons t found.m (without (wanted q k) (box s q)),
      ap (tally t) one,
      stacked-change t (box s) (box_of pool') q 16 low high others,
    )

    pub taking : (result : Option Message) (after : Pool) → result ≡ held_next s.pool cell
        → after ≡ moved_next s.pool cell 64 None (s.pool.count - 1) → Taking s receiver class result after
    taking result after got left =
        let leads = (spot-led s q cell found.x high found.spot).leads in
        rw (← leave.1, ← leave.2, rw leads at left) (record {
          m = found.m;
          is = rw leads at got ∙ found.holds;
          pick = pile-first s q k low high ∙ found.pick;
          newest = found.pick;
          boxed = move.boxed (omega (arith, one_less (λ z. not (addressed z)), none_unaddressed (pile s) s.sent, tally-cons (λ z. not (addressed z)) found.m (pile_of pool')))
              (omega (arith, tallied-length (pile s) (found.m ∷ pile_of pool') one_less, s.counted))
              (omega (arith, s.spare, waits, ap length move.chain-onto));
          removed = tallied-removed found.m (pile s) (pile_of pool') one_less;
          order = λ r l u. one-box q (box_of pool') (box s) (λ z. without (wanted q k) (box s z)) one r (others r l u);
        })
