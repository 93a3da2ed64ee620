-- A search along a run.
use Rattle.std.proofs.Common.{◌≡◌, ℕ, ◌+◌, Bool, true, false, List, [], ◌∷◌, ◌++◌, filter_map, Option, Some, None, refl, sym, ap, ◌∙◌, ⊎_elim, arith}
use Rattle.std.specs.List.{cons_option}
use Rattle.std.proofs.lemmas.Bool.{cond-true, cond-false, cases_Bool}
use Rattle.mail.specs.Collections.{first, without}
use Rattle.mail.specs.Messages.{class_number, wanted}
use Rattle.mail.specs.declared.asked.Asked.{Asked}
use Rattle.mail.specs.declared.message.Message.{Message}
use Rattle.boxes.specs.Chains.{next, chain, chain_of}
use Rattle.boxes.specs.Inner.{owner, tight, before, is_asked_for, sought}
use Rattle.boxes.specs.declared.boxes.Boxes.{Boxes}
use Rattle.boxes.proofs.Runs.{Run, ends, run-kept, tight-run, chain_length}

-- a record of this chain, and the cell that leads to it
pub record Spot (start : ℕ) (xs : List ℕ) (cell x : ℕ) : Type 0 where
  pub front : List ℕ
  pub back : List ℕ
  pub here : cell ≡ ends start front
  pub split : xs ≡ front ++ x ∷ back

-- a search came to this cell: from it on the search ends where the whole one does
pub record Searching (s : Boxes) (asked : Asked) (cell : ℕ) : Type 0 where
  pub kept : tight (next s.pool.links) (owner s.pool.records) asked.receiver 64 (next s.pool.links cell) ≡ true
  pub onward : before (sought s.pool asked) cell (chain (next s.pool.links) 64 (next s.pool.links cell))
      ≡ before (sought s.pool asked) (64 + asked.receiver) (chain_of s.pool asked.receiver)

-- the record after the cell, and the chain from there on
module _ (s : Boxes) (asked : Asked) (cell x : ℕ) (c : Searching s asked cell) (e : Some x ≡ next s.pool.links cell) where
  abbrev to : ℕ → Option ℕ
  to = next s.pool.links

  abbrev of : ℕ → ℕ
  of = owner s.pool.records

  run : Run to of asked.receiver (Some x) (x ∷ chain to 63 (to x))
  unfolding chain
  run = tight-run to of asked.receiver 64 (Some x) (rw (← e) at c.kept)

  on : (chain to 64 (to x) ≡ chain to 63 (to x)) × (tight to of asked.receiver 64 (to x) ≡ true)
  on = run-kept to of asked.receiver (chain to 63 (to x)) 64 (to x) (omega (arith, chain_length to 63 (to x))) run.3

  pub search-chain : chain to 64 (to cell) ≡ x ∷ chain to 64 (to x)
  unfolding chain
  search-chain = rw (← e, on.0)

  -- the search goes on there, or ends here
  pub search-on : false ≡ sought s.pool asked x → Searching s asked x
  search-on no' = record {
    kept = on.1;
    onward = sym (ap (before (sought s.pool asked) cell) search-chain ∙ cond-false _ _ _ (sym no')) ∙ c.onward;
  }

  pub search-ends : true ≡ sought s.pool asked x → Some cell ≡ before (sought s.pool asked) (64 + asked.receiver) (chain_of s.pool asked.receiver)
  search-ends yes' = sym (ap (before (sought s.pool asked) cell) search-chain ∙ cond-true _ _ _ (sym yes')) ∙ c.onward

-- what is asked for, among the messages in records
module _ (asked : Asked) (of : ℕ → Option Message) where
  abbrev test : Message → Bool
  test = wanted asked.receiver (class_number asked.class)

  abbrev seek : ℕ → List ℕ → Option ℕ
  seek = before (λ i. is_asked_for asked (of i))

  -- where a search ends: the first such message is in the record after the cell
  pub record Found (start : ℕ) (xs : List ℕ) (cell : ℕ) : Type 0 where
    pub x : ℕ
    pub m : Message
    pub spot : Spot start xs cell x
    pub holds : of x ≡ Some m
    pub pick : first test (filter_map of xs) ≡ Some m
    pub rest : without test (filter_map of xs) ≡ filter_map of (spot.front ++ spot.back)

  -- what is not asked for is passed, and what is asked for is a message
  skip : (o : Option Message) (ms : List Message) → is_asked_for asked o ≡ false
      → (first test (cons_option o ms) ≡ first test ms) × (without test (cons_option o ms) ≡ cons_option o (without test ms))
  skip None ms no' = (refl, refl)
  skip (Some m) ms no' = (rw no', rw no')

  taken : (o : Option Message) (ms : List Message) → is_asked_for asked o ≡ true
      → (m : Message) × (o ≡ Some m) × (first test (cons_option o ms) ≡ Some m) × (without test (cons_option o ms) ≡ ms)
  taken None ms yes' = cc
  taken (Some m) ms yes' = (m, refl, rw yes', rw yes')

  pub search-found : (xs : List ℕ) (start cell : ℕ) → seek start xs ≡ Some cell → Found start xs cell
  search-found [] start cell h = cc
  search-found (x ∷ xs) start cell h = ⊎_elim
      (λ (yes' : is_asked_for asked (of x) ≡ true).
      let e : Some start ≡ Some cell = sym (cond-true _ _ _ yes') ∙ h in
      let it = taken (of x) (filter_map of xs) yes' in
      record {
        x = x;
        m = it.0;
        spot = record { front = []; back = xs; here = cc; split = refl };
        holds = it.1;
        pick = it.2;
        rest = it.3;
      })
      (λ (no' : is_asked_for asked (of x) ≡ false).
      let later = search-found xs x cell (sym (cond-false _ _ _ no') ∙ h) in
      let past = skip (of x) (filter_map of xs) no' in
      record {
        x = later.x;
        m = later.m;
        spot = record { front = x ∷ later.spot.front; back = later.spot.back; here = later.spot.here; split = ap (λ ys. x ∷ ys) later.spot.split };
        holds = later.holds;
        pick = past.0 ∙ later.pick;
        rest = past.1 ∙ ap (cons_option (of x)) later.rest;
      })
      (cases_Bool (is_asked_for asked (of x)))

  -- or there is none
  pub search_none : (xs : List ℕ) (start : ℕ) → seek start xs ≡ None → first test (filter_map of xs) ≡ None
  search_none [] start h = refl
  search_none (x ∷ xs) start h = ⊎_elim
      (λ (yes' : is_asked_for asked (of x) ≡ true). let e : Some start ≡ None = sym (cond-true _ _ _ yes') ∙ h in cc)
      (λ (no' : is_asked_for asked (of x) ≡ false). (skip (of x) (filter_map of xs) no').0 ∙ search_none xs x (sym (cond-false _ _ _ no') ∙ h))
      (cases_Bool (is_asked_for asked (of x)))
