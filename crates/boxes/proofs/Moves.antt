-- A record that goes from within one run to the front of another.
use Rattle.std.proofs.Common.{◌≡◌, ℕ, ◌+◌, ◌<◌, ◌≤◌, List, [], ◌∷◌, ◌++◌, length, ◌≢◌, Option, Some, sym, ap, ◌∙◌, ⊎_elim, arith}
use Rattle.std.specs.List.{AllByRecursion}
use Rattle.std.proofs.lemmas.List.{length-set, get_or-set_same, get_or-set_other}
use Rattle.boxes.specs.Chains.{next}
use Rattle.boxes.specs.Inner.{relinked}
use Rattle.std.proofs.ByRecursion.{All-weaker}
use Rattle.boxes.proofs.Runs.{Run, Led, ends, run-all, run-from, all_both}

-- the record x goes from behind `cell` to the front of chain b, and then belongs to b
pub record Relinked (to to' : ℕ → Option ℕ) (of of' : ℕ → ℕ) (cell x b : ℕ) : Type 0 where
  pub at_cell : to' cell ≡ to x
  pub at_record : to' x ≡ to (64 + b)
  pub at_head : to' (64 + b) ≡ Some x
  pub elsewhere : (y : ℕ) → (y ≢ cell) → (y ≢ x) → (y ≢ 64 + b) → to' y ≡ to y
  pub owned : of' x ≡ b
  pub kept : (y : ℕ) → (y ≢ x) → of' y ≡ of y

all-ends : (P : ℕ → Type 0) (f : ℕ) (front rest : List ℕ) → AllByRecursion P (f ∷ (front ++ rest)) → P (ends f front)
all-ends P f [] rest h = h.0
all-ends P f (g ∷ front) rest h = all-ends P g front rest h.1

all-mid : (P : ℕ → Type 0) (front back : List ℕ) (x : ℕ) → AllByRecursion P (front ++ x ∷ back) → P x
all-mid P [] back x h = h.0
all-mid P (f ∷ front) back x h = all-mid P front back x h.1

-- a record that goes behind any place of a run
pub put : (to to' : ℕ → Option ℕ) (of of' : ℕ → ℕ) (b head x : ℕ) → x < 64 → to' head ≡ Some x → to' x ≡ to head → of' x ≡ b
    → (front back : List ℕ) (start : ℕ) → head ≡ ends start front → ((start ≢ head) → to' start ≡ to start)
    → AllByRecursion (λ y. ((y ≢ head) → to' y ≡ to y) × (of' y ≡ of y)) (front ++ back)
    → Run to of b (to start) (front ++ back) → Run to' of' b (to' start) (front ++ x ∷ back)
put to to' of of' b head x lt at_head at_record owned [] back start here off all run =
    let both = all_both _ _ back all (run-all to of b back start run) in
    let agree : AllByRecursion (λ y. (to' y ≡ to y) × (of' y ≡ of y)) back =
    All-weaker _ (λ y. (to' y ≡ to y) × (of' y ≡ of y)) (λ y h. (h.0.0 (λ e. h.1.0 (e ∙ here)), h.0.1)) back both in
    (ap to' (sym here) ∙ at_head, lt, owned, run-from to of b to' of' back (to start) (to' x) (at_record ∙ ap to here) agree run)
put to to' of of' b head x lt at_head at_record owned (f ∷ front) back start here off all run =
    let fresh = run-all to of b (f ∷ (front ++ back)) start run in
    let P : ℕ → Type 0 = λ y. (y ≢ start) × (y < 64) × (of y ≡ b) in (
      off (λ e. (all-ends P f front back fresh).0 (sym (e ∙ here))) ∙ run.0,
      run.1,
      all.0.1 ∙ run.2,
      put to to' of of' b head x lt at_head at_record owned front back f here all.0.0 all.1 run.3,
    )

module _ (to to' : ℕ → Option ℕ) (of of' : ℕ → ℕ) (a b cell x : ℕ) (m : Relinked to to' of of' cell x b) (apart : a ≡ b → ⊥)
    (led : Led to of a (64 + a) cell x) where
  same : (y : ℕ) → y < 64 → (y ≢ cell) → (y ≢ x) → (to' y ≡ to y) × (of' y ≡ of y)
  same y lt c o = (m.elsewhere y c o (λ e. omega arith), m.kept y o)

  -- the runs of others
  stay : (r : ℕ) (xs : List ℕ) (link : Option ℕ) → (r ≢ a) → Run to of r link xs → Run to' of' r link xs
  stay r [] link ne run = run
  stay r (y ∷ ys) link ne run =
      let kept = same y run.1
      (λ e. ⊎_elim (λ (c : cell ≡ 64 + a). omega arith) (λ (c : (cell < 64) × (of cell ≡ a)). ne (sym run.2 ∙ ap of e ∙ c.1)) led.near)
      (λ e. ne (sym run.2 ∙ ap of e ∙ led.own)) in
      (run.0, run.1, kept.1 ∙ run.2, rw kept.0 (stay r ys (to y) ne run.3))

  pub others : (r : ℕ) (xs : List ℕ) → (r ≢ a) → (r ≢ b) → Run to of r (to (64 + r)) xs → Run to' of' r (to' (64 + r)) xs
  others r xs na nb run = rw (m.elsewhere (64 + r)
      (λ e. ⊎_elim (λ (c : cell ≡ 64 + a). na (omega arith)) (λ (c : (cell < 64) × (of cell ≡ a)). omega arith) led.near)
      (λ e. omega (arith, led.lt)) (λ e. nb (omega arith))) (stay r xs (to (64 + r)) na run)

  -- the run that it joins
  pub joined : (xs : List ℕ) → Run to of b (to (64 + b)) xs → Run to' of' b (to' (64 + b)) (x ∷ xs)
  joined xs run = (m.at_head, led.lt, m.owned, rw m.at_record (stay b xs (to (64 + b)) (λ e. apart (sym e)) run))

  -- the run that it leaves
  on : (xs : List ℕ) (link : Option ℕ) → AllByRecursion (λ y. (y ≢ cell) × (y < 64) × (of y ≡ a)) xs
      → AllByRecursion (λ y. (y ≢ x) × (y < 64) × (of y ≡ a)) xs → Run to of a link xs → Run to' of' a link xs
  on [] link c o run = run
  on (y ∷ ys) link c o run =
      let kept = same y run.1 c.0.0 o.0.0 in
      (run.0, run.1, kept.1 ∙ run.2, rw kept.0 (on ys (to y) c.1 o.1 run.3))

  pub cut : (front back : List ℕ) (start : ℕ) → cell ≡ ends start front → (start ≢ 64 + b)
      → Run to of a (to start) (front ++ x ∷ back) → Run to' of' a (to' start) (front ++ back)
  cut [] back start here ne run =
      rw (← here, m.at_cell) (on back (to x) (rw here (run-all to of a (x ∷ back) start run).1) (run-all to of a back x run.3) run.3)
  cut (f ∷ front) back start here ne run =
      let fresh = run-all to of a (f ∷ (front ++ x ∷ back)) start run in
      let off = (all-mid (λ y. (y ≢ f) × (y < 64) × (of y ≡ a)) front back x (run-all to of a (front ++ x ∷ back) f run.3)).0 in
      let P : ℕ → Type 0 = λ y. (y ≢ start) × (y < 64) × (of y ≡ a) in (
        m.elsewhere start (λ e. (all-ends P f front (x ∷ back) fresh).0 (sym (e ∙ here))) (λ e. (all-mid P (f ∷ front) back x fresh).0 (sym e)) ne ∙ run.0,
        run.1,
        m.kept f (λ e. off (sym e)) ∙ run.2,
        cut front back f here (λ e. omega (arith, run.1)) run.3,
      )

-- that is what `relinked` does to the links
pub relinked-moves : (links : List (Option ℕ)) (of of' : ℕ → ℕ) (a b cell x : ℕ) → length links ≡ 81 → a ≤ 16 → b ≤ 16 → (a ≡ b → ⊥)
    → Led (next links) of a (64 + a) cell x → of' x ≡ b → ((y : ℕ) → (y ≢ x) → of' y ≡ of y)
    → Relinked (next links) (next (relinked links cell x (64 + b))) of of' cell x b
relinked-moves links of of' a b cell x long la lb apart led owned kept =
    let c : (cell < 81) × (cell ≢ 64 + b) =
    ⊎_elim (λ (e : cell ≡ 64 + a). (omega arith, λ e'. apart (omega arith))) (λ (h : (cell < 64) × (of cell ≡ a)). (omega arith, λ e'. omega arith)) led.near in
    let r : x < 64 = led.lt in
    let n : x ≢ cell = led.apart in
    record {
      at_cell = grind (arith, get_or-set_same, get_or-set_other, length-set);
      at_record = grind (arith, get_or-set_same, get_or-set_other, length-set);
      at_head = grind (arith, get_or-set_same, get_or-set_other, length-set);
      elsewhere = λ y e o h. grind (arith, get_or-set_same, get_or-set_other, length-set);
      owned = owned;
      kept = kept;
    }
