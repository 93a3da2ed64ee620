-- Runs: what the links lead through to an end.
use Rattle.std.proofs.Common.{◌≡◌, ℕ, zero, suc, ◌+◌, ◌<◌, ◌≤◌, true, ◌&&◌, ltb, eqb, ◌⊎◌, List, [], ◌∷◌, ◌++◌, length, drop, ◌≢◌, get_or, Option, Some, None, refl, subst, sym, ap, ◌∙◌, inl, inr, arith, length-drop, ⊎_elim}
use Rattle.std.specs.List.{AllByRecursion}
use Rattle.std.proofs.ByRecursion.{All-from_get_or}
use Rattle.std.proofs.lemmas.Bool.{lt-ltb, ltb-true, eq-eqb, eqb-true, and_from, and_parts}
use Rattle.boxes.specs.Chains.{chain}
use Rattle.boxes.specs.Inner.{tight}

-- from this link on they lead through these records, all of q, to an end
abbrev pub Run : (ℕ → Option ℕ) → (ℕ → ℕ) → ℕ → Option ℕ → List ℕ → Type 0
Run to of q link [] = link ≡ None
Run to of q link (x ∷ xs) = (link ≡ Some x) × (x < 64) × (of x ≡ q) × Run to of q (to x) xs

-- the last cell of a walk through these records
abbrev pub ends : ℕ → List ℕ → ℕ
ends cell [] = cell
ends cell (x ∷ xs) = ends x xs

-- what is known of a cell on the way from `start`, and of the record after it
pub record Led (to : ℕ → Option ℕ) (of : ℕ → ℕ) (q start cell x : ℕ) : Type 0 where
  pub near : (cell ≡ start) ⊎ ((cell < 64) × (of cell ≡ q))
  pub leads : to cell ≡ Some x
  pub apart : x ≢ cell
  pub lt : x < 64
  pub own : of x ≡ q

-- what two facts hold of each, both hold of each
pub all_both : (P Q : ℕ → Type 0) (xs : List ℕ) → AllByRecursion P xs → AllByRecursion Q xs → AllByRecursion (λ y. P y × Q y) xs
all_both P Q [] p q = tt
all_both P Q (x ∷ xs) p q = ((p.0, q.0), all_both P Q xs p.1 q.1)

module _ (to : ℕ → Option ℕ) (of : ℕ → ℕ) (q : ℕ) where
  -- the same records from the same link on, along other links that agree there
  pub run-from : (to' : ℕ → Option ℕ) (of' : ℕ → ℕ) (xs : List ℕ) (link link' : Option ℕ) → link' ≡ link
      → AllByRecursion (λ y. (to' y ≡ to y) × (of' y ≡ of y)) xs → Run to of q link xs → Run to' of' q link' xs
  run-from to' of' [] link link' e a r = e ∙ r
  run-from to' of' (x ∷ xs) link link' e a r = (e ∙ r.0, r.1, a.0.1 ∙ r.2, run-from to' of' xs (to x) (to' x) a.0.0 a.1 r.3)

  pub run-kept : (xs : List ℕ) (n : ℕ) (link : Option ℕ) → length xs ≤ n → Run to of q link xs
      → (chain to n link ≡ xs) × (tight to of q n link ≡ true)
  unfolding chain tight
  run-kept [] zero link h r = (rw r, rw r)
  run-kept [] (suc n) link h r = (rw r, rw r)
  run-kept (x ∷ xs) zero link h r = absurd (omega arith)
  run-kept (x ∷ xs) (suc n) link h r =
      let on = run-kept xs n (to x) (omega arith) r.3 in
      (rw (r.0, on.0), rw r.0 (and_from _ _ (and_from _ _ (lt-ltb x 64 r.1) (eq-eqb (of x) q r.2)) on.1))

  pub tight-run : (n : ℕ) (link : Option ℕ) → tight to of q n link ≡ true → Run to of q link (chain to n link)
  unfolding chain tight
  tight-run zero None h = refl
  tight-run zero (Some x) h = cc
  tight-run (suc n) None h = refl
  tight-run (suc n) (Some x) h =
      let both = and_parts (ltb x 64 && eqb (of x) q) (tight to of q n (to x)) h in
      let here = and_parts (ltb x 64) (eqb (of x) q) both.0 in
      (refl, ltb-true x 64 here.0, eqb-true (of x) q here.1, tight-run n (to x) both.1)

  -- links lead one way only
  run-same : (xs ys : List ℕ) (link : Option ℕ) → Run to of q link xs → Run to of q link ys → xs ≡ ys
  run-same xs ys link r s = let n = length xs + length ys in sym (run-kept xs n link (omega arith) r).0 ∙ (run-kept ys n link (omega arith) s).0

  run_at : (xs : List ℕ) (link : Option ℕ) (k : ℕ) → k < length xs → Run to of q link xs
      → (get_or xs k 0 < 64) × (of (get_or xs k 0) ≡ q) × Run to of q (to (get_or xs k 0)) (drop (suc k) xs)
  run_at [] link k h r = absurd (omega arith)
  run_at (x ∷ xs) link zero h r = (r.1, r.2, r.3)
  run_at (x ∷ xs) link (suc k) h r = run_at xs (to x) k (omega arith) r.3

  -- so no run comes back to where it began
  pub run-all : (xs : List ℕ) (cell : ℕ) → Run to of q (to cell) xs → AllByRecursion (λ y. (y ≢ cell) × (y < 64) × (of y ≡ q)) xs
  run-all xs cell r = All-from_get_or (λ y. (y ≢ cell) × (y < 64) × (of y ≡ q)) xs 0 (λ k h.
      let on = run_at xs (to cell) k h r in (
        (λ e.
            let again : Run to of q (to cell) (drop (suc k) xs) = subst (λ z. Run to of q (to z) (drop (suc k) xs)) e on.2 in
            omega (arith, ap length (run-same xs (drop (suc k) xs) (to cell) r again), length-drop (suc k) xs)),
        on.0,
        on.1,
      ))

  pub run-led : (front back : List ℕ) (start cell x : ℕ) → cell ≡ ends start front → Run to of q (to start) (front ++ x ∷ back) → Led to of q start cell x
  run-led [] back start cell x here r = record { near = inl here; leads = ap to here ∙ r.0; apart = λ e. (run-all (x ∷ back) start r).0.0 (e ∙ here); lt = r.1; own = r.2 }
  run-led (f ∷ front) back start cell x here r =
      let on = run-led front back f cell x here r.3 in
      record {
        near = inr (⊎_elim (λ (e : cell ≡ f). rw e (r.1, r.2)) (λ h. h) on.near);
        leads = on.leads;
        apart = on.apart;
        lt = on.lt;
        own = on.own;
      }

pub chain_length : (to : ℕ → Option ℕ) (n : ℕ) (link : Option ℕ) → length (chain to n link) ≤ n
unfolding chain
chain_length to zero None = omega arith
chain_length to zero (Some x) = omega arith
chain_length to (suc n) None = omega arith
chain_length to (suc n) (Some x) = omega (arith, chain_length to n (to x))
