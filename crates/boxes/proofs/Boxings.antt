-- A record that goes from chain a to the front of chain b, and then holds something else.
use Rattle.std.proofs.Common.{true, false, not, ◌≡◌, ℕ, ◌+◌, ◌<◌, ◌≤◌, true, List, [], ◌∷◌, ◌++◌, filter_map, length, ◌≢◌, Option, None, set, refl, sym, ap, subst, ◌∙◌, ⊎_elim, arith, length-append}
use Rattle.std.specs.List.{AllPass, AllByRecursion, cons_option}
use Rattle.std.proofs.lemmas.List.{length-set, get_or-set_same, get_or-set_other}
use Rattle.std.proofs.lemmas.List.Elements.{All-nil, All-cons, All-head, All-tail}
use Rattle.std.proofs.lemmas.Bool.{cases_eq, cases_Bool}
use Rattle.mail.specs.Collections.{tally}
use Rattle.mail.specs.Messages.{addressed}
use Rattle.mail.specs.declared.message.Message.{Message}
use Rattle.mail.proofs.Collections.{tally-cons}
use Rattle.boxes.specs.Chains.{next, held, chain_of, box_of, pile_of}
use Rattle.boxes.specs.Inner.{receiver_of, owner, Tight, moved}
use Rattle.boxes.specs.Meaning.{box}
use Rattle.boxes.specs.declared.boxes.Boxes.{Boxes}
use Rattle.boxes.specs.declared.boxes.pool.Pool.{Pool}
use Rattle.boxes.proofs.Runs.{Run, Led, run-kept, tight-run, run-led, chain_length}
use Rattle.boxes.proofs.Moves.{Relinked, others, joined, cut, relinked-moves}
use Rattle.boxes.proofs.Searches.{Spot}

-- each chain is a run
pub box-run : (s : Boxes) (q : ℕ) → q ≤ 16 → Run (next s.pool.links) (owner s.pool.records) q (next s.pool.links (64 + q)) (chain_of s.pool q)
box-run s q h = tight-run (next s.pool.links) (owner s.pool.records) q 64 (next s.pool.links (64 + q)) (s.chained q h)

-- and each record of it has its cell
module _ (s : Boxes) (q cell x : ℕ) (h : q ≤ 16) (spot : Spot (64 + q) (chain_of s.pool q) cell x) where
  spot-run : Run (next s.pool.links) (owner s.pool.records) q (next s.pool.links (64 + q)) (spot.front ++ x ∷ spot.back)
  spot-run = subst (Run (next s.pool.links) (owner s.pool.records) q (next s.pool.links (64 + q))) spot.split (box-run s q h)

  pub spot-led : Led (next s.pool.links) (owner s.pool.records) q (64 + q) cell x
  spot-led = run-led (next s.pool.links) (owner s.pool.records) q spot.front spot.back (64 + q) cell x spot.here spot-run

-- records other than x hold what they held
map-kept : (records : List (Option Message)) (x : ℕ) (o : Option Message) (xs : List ℕ) → AllByRecursion (λ y. y ≢ x) xs
    → filter_map (held (set records x o)) xs ≡ filter_map (held records) xs
map-kept records x o [] h = refl
map-kept records x o (y ∷ xs) h = rw (get_or-set_other records x y o None h.0, map-kept records x o xs h.1)

-- a record of another lies in no run
elsewhere : (to : ℕ → Option ℕ) (of : ℕ → ℕ) (q : ℕ) (xs : List ℕ) (link : Option ℕ) (x : ℕ) → (of x ≢ q) → Run to of q link xs → AllByRecursion (λ y. y ≢ x) xs
elsewhere to of q [] link x ne r = tt
elsewhere to of q (y ∷ ys) link x ne r = (λ e. ne (ap of (sym e) ∙ r.2), elsewhere to of q ys (to y) x ne r.3)

-- what boxes keep, of those that a call leaves
pub record Boxed (pool : Pool) : Type 0 where
  pub sized : length pool.records ≡ 64
  pub linked : length pool.links ≡ 81
  pub chained : (q : ℕ) → q ≤ 16 → Tight pool q
  pub sent : AllPass addressed (pile_of pool)
  pub counted : length (pile_of pool) ≡ pool.count
  pub spare : length (chain_of pool 0) + pool.count ≡ 64

-- all are between processors where none is not
abbrev pub Between : Message → Type 0
Between m = addressed m ≡ true

pub none_unaddressed : (ms : List Message) → AllPass addressed ms → tally (λ m. not (addressed m)) ms ≡ 0
none_unaddressed [] h = refl
none_unaddressed (m ∷ ms) h = rw (All-head Between m ms h) (omega (arith, none_unaddressed ms (All-tail Between m ms h), tally-cons (λ z. not (addressed z)) m ms))

each-addressed : (ms : List Message) → tally (λ m. not (addressed m)) ms ≡ 0 → AllPass addressed ms
each-addressed [] h = All-nil Between
each-addressed (m ∷ ms) h = ⊎_elim
    (λ (t : addressed m ≡ true). All-cons Between m ms t (each-addressed ms (omega (arith, h, tally-cons (λ z. not (addressed z)) m ms))))
    (λ (f : addressed m ≡ false). absurd (grind (arith, f, h, tally-cons (λ z. not (addressed z)) m ms)))
    (cases_Bool (addressed m))

-- what is left when the record x after `cell` went from chain a to the front of chain b, and then holds o
pub record Moved (s : Boxes) (a b : ℕ) (o : Option Message) (pool' : Pool) (cell x : ℕ) (from : Spot (64 + a) (chain_of s.pool a) cell x) : Type 0 where
  pub boxed : tally (λ m. not (addressed m)) (pile_of pool') ≡ 0 → length (pile_of pool') ≡ pool'.count → length (chain_of pool' 0) + pool'.count ≡ 64 → Boxed pool'
  pub chain-from : chain_of pool' a ≡ from.front ++ from.back
  pub chain-onto : chain_of pool' b ≡ x ∷ chain_of s.pool b
  pub box-from : box_of pool' a ≡ filter_map (held s.pool.records) (from.front ++ from.back)
  pub box-onto : box_of pool' b ≡ cons_option o (box s b)
  pub box-other : (r : ℕ) → r ≤ 16 → (r ≢ a) → (r ≢ b) → box_of pool' r ≡ box s r

module _ (s : Boxes) (a b cell x : ℕ) (o : Option Message) (count : ℕ) (la : a ≤ 16) (lb : b ≤ 16) (apart : a ≡ b → ⊥) (mine : receiver_of o ≡ b)
    (from : Spot (64 + a) (chain_of s.pool a) cell x) (fits : length (chain_of s.pool b) < 64) where
  abbrev pool' : Pool
  pool' = moved s.pool cell x (64 + b) o count

  abbrev to : ℕ → Option ℕ
  to = next s.pool.links

  abbrev of : ℕ → ℕ
  of = owner s.pool.records

  abbrev to' : ℕ → Option ℕ
  to' = next pool'.links

  abbrev of' : ℕ → ℕ
  of' = owner pool'.records

  led : Led to of a (64 + a) cell x
  led = spot-led s a cell x la from

  run-a : Run to of a (to (64 + a)) (from.front ++ x ∷ from.back)
  run-a = spot-run s a cell x la from

  same : held pool'.records x ≡ o
  same = get_or-set_same s.pool.records x o None (omega (arith, led.lt, s.sized))

  other : (y : ℕ) → (y ≢ x) → held pool'.records y ≡ held s.pool.records y
  other y ne = get_or-set_other s.pool.records x y o None ne

  link : Relinked to to' of of' cell x b
  link = relinked-moves s.pool.links of of' a b cell x s.linked la lb apart led (ap receiver_of same ∙ mine) (λ y ne. ap receiver_of (other y ne))

  run-from : Run to' of' a (to' (64 + a)) (from.front ++ from.back)
  run-from = cut to to' of of' a b cell x link apart led from.front from.back (64 + a) from.here (λ e. apart (omega arith)) run-a

  kept-from : (chain_of pool' a ≡ from.front ++ from.back) × Tight pool' a
  kept-from = run-kept to' of' a (from.front ++ from.back) 64 (to' (64 + a))
      (omega (arith, ap length from.split, length-append from.front (x ∷ from.back), length-append from.front from.back, chain_length to 64 (to (64 + a)))) run-from

  kept-onto : (chain_of pool' b ≡ x ∷ chain_of s.pool b) × Tight pool' b
  kept-onto = run-kept to' of' b (x ∷ chain_of s.pool b) 64 (to' (64 + b)) (omega (arith, fits))
      (joined to to' of of' a b cell x link apart led (chain_of s.pool b) (box-run s b lb))

  kept-other : (r : ℕ) → r ≤ 16 → (r ≢ a) → (r ≢ b) → (chain_of pool' r ≡ chain_of s.pool r) × Tight pool' r
  kept-other r lr na nb = run-kept to' of' r (chain_of s.pool r) 64 (to' (64 + r)) (chain_length to 64 (to (64 + r)))
      (others to to' of of' a b cell x link apart led r (chain_of s.pool r) na nb (box-run s r lr))

  -- the record lies in no other box
  box-kept : (r : ℕ) → r ≤ 16 → (r ≢ a) → filter_map (held pool'.records) (chain_of s.pool r) ≡ box s r
  box-kept r lr na = map-kept s.pool.records x o (chain_of s.pool r)
      (elsewhere to of r (chain_of s.pool r) (to (64 + r)) x (λ e. na (sym e ∙ led.own)) (box-run s r lr))

  pub moves : Moved s a b o pool' cell x from
  moves = record {
    boxed = λ none counted spare. record {
      sized = simp length-set s.sized;
      linked = simp length-set s.linked;
      chained = λ r lr. ⊎_elim (λ (e : r ≡ a). subst (Tight pool') (sym e) kept-from.1)
          (λ (na : r ≢ a). ⊎_elim (λ (e : r ≡ b). subst (Tight pool') (sym e) kept-onto.1) (λ (nb : r ≢ b). (kept-other r lr na nb).1) (cases_eq r b))
          (cases_eq r a);
      sent = each-addressed (pile_of pool') none;
      counted = counted;
      spare = spare;
    };
    chain-from = kept-from.0;
    chain-onto = kept-onto.0;
    box-from = ap (filter_map (held pool'.records)) kept-from.0
        ∙ map-kept s.pool.records x o (from.front ++ from.back) (elsewhere to' of' a (from.front ++ from.back) (to' (64 + a)) x (λ e. apart (sym e ∙ link.owned)) run-from);
    box-onto = rw (kept-onto.0, same) (ap (cons_option o) (box-kept b lb (λ e. apart (sym e))));
    box-other = λ r lr na nb. rw (kept-other r lr na nb).0 (box-kept r lr na);
  }
