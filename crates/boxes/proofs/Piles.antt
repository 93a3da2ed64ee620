-- All boxes together.
use Rattle.std.proofs.Common.{◌≡◌, ℕ, suc, ◌+◌, ◌<◌, ◌≤◌, false, cond, List, [], ◌∷◌, filter_map, length, Option, Some, None, ◌==◌, ◌≢◌, refl, sym, subst, ap, ◌∙◌, ⊎_elim, arith}
use Rattle.std.specs.List.{AllByRecursion, cons_option}
use Rattle.std.proofs.ByRecursion.{All-weaker}
use Rattle.std.proofs.lemmas.Bool.{cases_eq, and_left, eq-eqb, ne_eqb, cond-true, cond-false}
use Rattle.mail.specs.Collections.{first}
use Rattle.mail.specs.Messages.{wanted}
use Rattle.mail.specs.declared.message.Message.{Message}
use Rattle.boxes.specs.Chains.{next, held, chain_of}
use Rattle.boxes.specs.Inner.{receiver_of}
use Rattle.boxes.specs.Meaning.{box, pile}
use Rattle.boxes.specs.declared.boxes.Boxes.{Boxes}
use Rattle.boxes.proofs.Runs.{Run}
use Rattle.boxes.proofs.Searches.{Spot}
use Rattle.boxes.proofs.Boxings.{box-run}
use Rattle.boxes.proofs.Stacks.{stacked-has, stacked-first}

-- one box is new, and the others are the old ones
pub one-box : (q : ℕ) (now old new : ℕ → List Message) → now q ≡ new q → (r : ℕ) → ((r ≢ q) → now r ≡ old r) → now r ≡ cond (q == r) (new r) (old r)
one-box q now old new here r else = ⊎_elim
    (λ (e : q ≡ r). subst (λ z. now z ≡ new z) e here ∙ sym (cond-true _ _ _ (eq-eqb q r e)))
    (λ (ne : q ≡ r → ⊥). else (λ e. ne (sym e)) ∙ sym (cond-false _ _ _ (ne_eqb q r ne)))
    (cases_eq q r)

-- each record of a receiver's run holds a message for that receiver
mine : (o : Option Message) (ms : List Message) (r n : ℕ) → 1 ≤ r → receiver_of o ≡ r → AllByRecursion (λ m. m.receiver ≡ r) ms × (length ms ≡ n)
    → AllByRecursion (λ m. m.receiver ≡ r) (cons_option o ms) × (length (cons_option o ms) ≡ suc n)
mine None ms r n l e h = absurd (omega arith)
mine (Some m) ms r n l e h = ((e, h.0), omega arith)

run-mine : (to : ℕ → Option ℕ) (of : ℕ → Option Message) (r : ℕ) (xs : List ℕ) (link : Option ℕ) → 1 ≤ r → Run to (λ i. receiver_of (of i)) r link xs
    → AllByRecursion (λ m. m.receiver ≡ r) (filter_map of xs) × (length (filter_map of xs) ≡ length xs)
run-mine to of r [] link l run = (tt, refl)
run-mine to of r (x ∷ xs) link l run = mine (of x) (filter_map of xs) r (length xs) l run.2 (run-mine to of r xs (to x) l run.3)

-- what holds of each message in the records of r holds of those in a run of r
one-held : (P : Message → Type 0) (o : Option Message) (ms : List Message) → ((m : Message) → o ≡ Some m → P m) → AllByRecursion P ms → AllByRecursion P (cons_option o ms)
one-held P None ms h rest = rest
one-held P (Some m) ms h rest = (h m refl, rest)

run-held : (P : Message → Type 0) (to : ℕ → Option ℕ) (of : ℕ → Option Message) (r : ℕ) → ((i : ℕ) (m : Message) → of i ≡ Some m → m.receiver ≡ r → P m)
    → (xs : List ℕ) (link : Option ℕ) → Run to (λ i. receiver_of (of i)) r link xs → AllByRecursion P (filter_map of xs)
run-held P to of r h [] link run = tt
run-held P to of r h (x ∷ xs) link run =
    one-held P (of x) (filter_map of xs) (λ m e. h x m e (ap receiver_of (sym e) ∙ run.2)) (run-held P to of r h xs (to x) run.3)

module _ (s : Boxes) where
  -- what holds of each message for r in any record holds of those in the box of r
  pub box-all : (P : Message → Type 0) (r : ℕ) → r ≤ 16 → ((i : ℕ) (m : Message) → held s.pool.records i ≡ Some m → m.receiver ≡ r → P m) → AllByRecursion P (box s r)
  box-all P r u h = run-held P (next s.pool.links) (held s.pool.records) r h (chain_of s.pool r) (next s.pool.links (64 + r)) (box-run s r u)

  -- the first in the pile is the first in the box of its receiver
  box-mine : (r : ℕ) → 1 ≤ r → r ≤ 16 → AllByRecursion (λ m. m.receiver ≡ r) (box s r) × (length (box s r) ≡ length (chain_of s.pool r))
  box-mine r l u = run-mine (next s.pool.links) (held s.pool.records) r (chain_of s.pool r) (next s.pool.links (64 + r)) l (box-run s r u)

  pub pile-first : (q class : ℕ) → 1 ≤ q → q ≤ 16 → first (wanted q class) (pile s) ≡ first (wanted q class) (box s q)
  pile-first q class l u = stacked-first (wanted q class) (box s) q 16 l u (λ r l' u' ne.
      All-weaker (λ m. m.receiver ≡ r) (λ m. wanted q class m ≡ false) (λ m e. and_left _ _ (ne_eqb m.receiver q (λ e'. ne (sym e ∙ e')))) (box s r) (box-mine r l' u').0)

  -- a box holds no more than the pile
  pub box-fits : (q : ℕ) → 1 ≤ q → q ≤ 16 → length (chain_of s.pool q) ≤ s.pool.count
  box-fits q l u = omega (arith, s.counted, (box-mine q l u).1, stacked-has (box s) q 16 l u)

  -- the first of these records, if there is one
  opens : (start : ℕ) (xs : List ℕ) → 0 < length xs → (x : ℕ) × Spot start xs start x
  opens start [] h = absurd (omega arith)
  opens start (x ∷ xs) h = (x, record { front = []; back = xs; here = refl; split = refl })

  -- a free record, where less than sixty-four wait
  pub free-record : s.pool.count < 64 → (x : ℕ) × Spot 64 (chain_of s.pool 0) 64 x
  free-record h = opens 64 (chain_of s.pool 0) (omega (arith, s.spare))
