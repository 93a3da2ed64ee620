-- The pass over the chain answers just the chains of distinct records, and just the bad links.
use Rattle.std.proofs.Common.{◌≡◌, ℕ, zero, suc, ◌+◌, ◌-◌, ◌<◌, ◌≤◌, Bool, true, false, cond, leb, List, [], ◌∷◌, ◌++◌, length, Ok, Err, Result, sym, refl, ap, ◌∙◌, subst, inl, inr, ⊎_elim, append_assoc, append-nil, arith}
use Rattle.std.proofs.ByRecursion.{All-push}
use Rattle.std.proofs.lemmas.List.{length_push}
use Rattle.std.proofs.lemmas.Bool.{cases_eq, cases_Bool, eq-eqb, ne_eqb, leb-true, leb-false, le-leb, lt-leb, both_ways, cond-false}
use Rattle.std.specs.List.{AllByRecursion}
use Rattle.layout.specs.declared.refusal.LoadRefusal.{LoadRefusal}
use Rattle.layout.specs.declared.refusal.LoadRefusal.TheVariants.{Link}
use Rattle.layout.specs.Layout.{first, next}
use Rattle.layout.specs.Chain.{among, leads, walk, chain}
use Rattle.layout.specs.Follows.{Linked, Distinct, Index, Reached, Chained}
use Rattle.layout.specs.Refused.{final, Stray, BadLink}
use Rattle.layout.proofs.Distinct.{distinct_push, distinct-new, pigeonhole}
use Rattle.layout.proofs.Steps.{same-err, clash}

-- a link that leads on, and one that does not
module _ (m : ℕ) (xs : List ℕ) (x : ℕ) where
  pub led : leads m xs x ≡ true → (x ≤ m) × (among x xs ≡ false)
  led h = both (leb x m) (among x xs) (leb-true x m) h
    where
      both : (p q : Bool) → (p ≡ true → x ≤ m) → cond p (cond q false true) false ≡ true → (x ≤ m) × (q ≡ false)
      both true true near h = absurd (both_ways false refl h)
      both true false near h = (near refl, refl)
      both false q near h = absurd (both_ways false refl h)

  pub leading : x ≤ m → among x xs ≡ false → leads m xs x ≡ true
  leading near new = let e = le-leb x m near in rw (e, new)

  lost : leads m xs x ≡ false → Stray m xs x
  lost h = either (leb x m) (among x xs) (leb-false x m) refl h
    where
      either : (p q : Bool) → (p ≡ false → m < x) → q ≡ among x xs → cond p (cond q false true) false ≡ false → Stray m xs x
      either true true far is h = inr (inl (sym is))
      either true false far is h = absurd (both_ways true h refl)
      either false q far is h = inl (far refl)

  above : m < x → leads m xs x ≡ false
  above far = let e = lt-leb x m far in rw e

  again : among x xs ≡ true → leads m xs x ≡ false
  again old = rw old (neither (leb x m))
    where
      neither : (t : Bool) → cond t false false ≡ false
      neither true = refl
      neither false = refl

module _ (b : List ℕ) (m : ℕ) where
  walk-full : (xs : List ℕ) (i x : ℕ) → (x ≡ 0 → ⊥) → walk b m 0 xs i x ≡ Err (Link i)
  walk-full xs i x h = let e = ne_eqb x 0 h in rw e

  pub walk-stops : (left : ℕ) (xs : List ℕ) (i x : ℕ) → (x ≡ 0 → ⊥) → leads m xs x ≡ false → walk b m left xs i x ≡ Err (Link i)
  walk-stops zero xs i x h no_way = walk-full xs i x h
  walk-stops (suc left) xs i x h no_way = let e = ne_eqb x 0 h in rw (e, no_way)

  pub walk-on : (left : ℕ) (xs : List ℕ) (i x : ℕ) → (x ≡ 0 → ⊥) → leads m xs x ≡ true → walk b m (suc left) xs i x ≡ walk b m left (xs ++ x ∷ []) x (next b x)
  walk-on left xs i x h way = let e = ne_eqb x 0 h in rw (e, way)

  pub walk_ends : (left : ℕ) (xs : List ℕ) (i x : ℕ) → x ≡ 0 → walk b m left xs i x ≡ Ok xs
  walk_ends zero xs i x e = ap (walk b m 0 xs i) e
  walk_ends (suc left) xs i x e = ap (walk b m (suc left) xs i) e

  linked-push : (f : ℕ) (xs : List ℕ) (x : ℕ) → Linked b f xs x → Linked b f (xs ++ x ∷ []) (next b x)
  linked-push f [] x h = (h, refl)
  linked-push f (z ∷ zs) x h = (h.0, linked-push (next b z) zs x h.1)

  -- one more record is reached
  pub reached-on : {xs : List ℕ} {x : ℕ} → Reached b m xs x → (x ≡ 0 → ⊥) → leads m xs x ≡ true → Reached b m (xs ++ x ∷ []) (next b x)
  reached-on {xs} {x} r some way =
      let l = led m xs x way in
      record {
        linked = linked-push (first b) xs x r.linked;
        within = All-push (Index m) xs x r.within (omega arith, l.0);
        distinct = distinct_push xs x r.distinct l.1;
      }

  -- so few are reached that there is one more
  pub reached-room : {xs : List ℕ} {x : ℕ} → Reached b m xs x → (x ≡ 0 → ⊥) → leads m xs x ≡ true → length xs < m
  reached-room {xs} {x} r some way =
      let on = reached-on r some way in
      omega (arith, length_push xs x, pigeonhole m (xs ++ x ∷ []) on.within on.distinct)

  final-push : (p : ℕ) (xs : List ℕ) (x : ℕ) → final p (xs ++ x ∷ []) ≡ x
  final-push p [] x = refl
  final-push p (y ∷ ys) x = final-push y ys x

  -- what the walk answers, in words
  abbrev Answer : Result (List ℕ) LoadRefusal → Type 0
  Answer (Ok xs) = Reached b m xs 0
  Answer (Err e) = (p : ℕ) × (e ≡ Link p) × BadLink b m p

  answered : (left : ℕ) (xs : List ℕ) (i x : ℕ) → i ≡ final 0 xs → Reached b m xs x → ((x ≡ 0 → ⊥) → leads m xs x ≡ true → Answer (walk b m left xs i x)) → Answer (walk b m left xs i x)
  answered left xs i x at r on =
      ⊎_elim
      (λ end. subst Answer (sym (walk_ends left xs i x end)) (subst (Reached b m xs) end r))
      (λ some.
      ⊎_elim (on some)
      (λ stop. subst Answer (sym (walk-stops left xs i x some stop)) (i, refl, (xs, x, r, lost m xs x stop, at)))
      (cases_Bool (leads m xs x)))
      (cases_eq x 0)

  answers : (left : ℕ) (xs : List ℕ) (i x : ℕ) → i ≡ final 0 xs → Reached b m xs x → m ≤ length xs + left → Answer (walk b m left xs i x)
  answers zero xs i x at r room = answered 0 xs i x at r (λ some way. absurd (omega (arith, reached-room r some way)))
  answers (suc left) xs i x at r room =
      answered (suc left) xs i x at r (λ some way.
      subst Answer (sym (walk-on left xs i x some way))
      (answers left (xs ++ x ∷ []) x (next b x) (sym (final-push 0 xs x)) (reached-on r some way) (omega (arith, length_push xs x))))

  pub reached-none : Reached b m [] (first b)
  reached-none = record { linked = refl; within = tt; distinct = tt }

  -- the chain where the header has a link, and where it has none
  pub chain-walk : (first b ≡ 0 → ⊥) → chain b m ≡ walk b m m [] 0 (first b)
  chain-walk some = let e = ne_eqb (first b) 0 some in rw e

  chain-none : first b ≡ 0 → chain b m ≡ Err (Link 0)
  chain-none none = let e = eq-eqb (first b) 0 none in rw e

  chain-answers : (first b ≡ 0 → ⊥) → Answer (chain b m)
  chain-answers some = subst Answer (sym (chain-walk some)) (answers m [] 0 (first b) refl reached-none (omega arith))

  pub chain-found : (xs : List ℕ) → chain b m ≡ Ok xs → Chained b m xs
  chain-found xs h =
      ⊎_elim
      (λ none. absurd (clash h (chain-none none)))
      (λ some. record { some = some; reached = subst Answer h (chain-answers some) })
      (cases_eq (first b) 0)

  pub chain-short : (xs : List ℕ) → chain b m ≡ Ok xs → length xs ≤ m
  chain-short xs h = let c = chain-found xs h in pigeonhole m xs c.reached.within c.reached.distinct

  pub chain-refused : (e : LoadRefusal) → chain b m ≡ Err e → (p : ℕ) × (e ≡ Link p) × BadLink b m p
  chain-refused e h =
      ⊎_elim
      (λ none. (0, same-err h (chain-none none), ([], first b, reached-none, inr (inr (none, refl)), refl)))
      (λ some. subst Answer h (chain-answers some))
      (cases_eq (first b) 0)

  -- the walk passes records that are linked
  through : (left n : ℕ) (xs ys : List ℕ) (i x y : ℕ) → n ≡ length ys + left → Linked b x ys y → AllByRecursion (Index m) ys → Distinct (xs ++ ys) → walk b m n xs i x ≡ walk b m left (xs ++ ys) (final i ys) y
  through left n xs [] i x y is l w d =
      let same : n ≡ left = omega arith in
      ap (λ n. walk b m n xs i x) same ∙ ap (walk b m left xs i) l ∙ ap (λ zs. walk b m left zs i y) (sym (append-nil xs))
  through left zero xs (z ∷ zs) i x y is l w d = absurd (omega arith)
  through left (suc n) xs (z ∷ zs) i x y is l w d =
      let some : z ≡ 0 → ⊥ = λ e. omega (arith, w.0.0) in
      ap (walk b m (suc n) xs i) l.0 ∙ walk-on n xs i z some (leading m xs z w.0.1 (distinct-new xs z zs d))
      ∙ through left n (xs ++ z ∷ []) zs z (next b z) y (omega arith) l.1 w.1 (subst Distinct (sym (append_assoc xs (z ∷ []) zs)) d)
      ∙ ap (λ l. walk b m left l (final z zs) y) (append_assoc xs (z ∷ []) zs)

  chain-through : {xs : List ℕ} {y : ℕ} → (first b ≡ 0 → ⊥) → Reached b m xs y → chain b m ≡ walk b m (m - length xs) xs (final 0 xs) y
  chain-through {xs} {y} some r =
      let few = pigeonhole m xs r.within r.distinct in
      chain-walk some ∙ through (m - length xs) m [] xs 0 (first b) y (omega arith) r.linked r.within r.distinct

  pub chain-finds : {xs : List ℕ} → Chained b m xs → chain b m ≡ Ok xs
  chain-finds {xs} c = chain-through c.some c.reached ∙ walk_ends (m - length xs) xs (final 0 xs) 0 refl

  among-low : (y : ℕ) (xs : List ℕ) → AllByRecursion (Index m) xs → among y xs ≡ true → y ≡ 0 → ⊥
  among-low y [] w h none = both_ways false refl h
  among-low y (x ∷ xs) w h none =
      let other = ne_eqb y x (λ e. omega (arith, w.0.0)) in
      among-low y xs w.1 (sym (cond-false _ _ _ other) ∙ h) none

  bad-stops : (xs : List ℕ) (y : ℕ) → (first b ≡ 0 → ⊥) → Reached b m xs y → Stray m xs y → (y ≡ 0 → ⊥) × (leads m xs y ≡ false)
  bad-stops xs y some r (inl far) = (λ e. omega arith, above m xs y far)
  bad-stops xs y some r (inr (inl old)) = (among-low y xs r.within old, again m xs y old)
  bad-stops xs y some r (inr (inr none)) = absurd (some (subst (λ l. Linked b (first b) l y) none.1 r.linked ∙ none.0))

  header-last : (xs : List ℕ) (y : ℕ) → first b ≡ 0 → Reached b m xs y → final 0 xs ≡ 0
  header-last [] y none r = refl
  header-last (x ∷ xs) y none r = absurd (omega (arith, r.within.0.0, r.linked.0))

  pub chain-refuses : (p : ℕ) → BadLink b m p → chain b m ≡ Err (Link p)
  chain-refuses p (xs, y, r, bad, at) =
      ⊎_elim
      (λ none. chain-none none ∙ ap (λ p. Err (Link p)) (sym (at ∙ header-last xs y none r)))
      (λ some.
      let s = bad-stops xs y some r bad in
      chain-through some r ∙ walk-stops (m - length xs) xs (final 0 xs) y s.0 s.1 ∙ ap (λ p. Err (Link p)) (sym at))
      (cases_eq (first b) 0)
