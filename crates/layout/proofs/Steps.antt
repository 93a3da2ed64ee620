-- One pass after another: what an answer says of the passes.
use Rattle.std.proofs.Common.{◌≡◌, ◌⊎◌, IsErrAnd, Ok, Err, Result, sym, refl, ap, ◌∙◌, inl, inr}
use Rattle.layout.specs.Steps.{map_ok, and_then}

module _ {X E : Type 0} where
  pub same_ok : {r : Result X E} {x y : X} → r ≡ Ok x → r ≡ Ok y → x ≡ y
  same_ok p q = cc

  pub same-err : {r : Result X E} {d e : E} → r ≡ Err d → r ≡ Err e → d ≡ e
  same-err p q = cc

  pub clash : {r : Result X E} {x : X} {e : E} → r ≡ Ok x → r ≡ Err e → ⊥
  clash p q = cc

  pub cases-result : (r : Result X E) → ((x : X) × (r ≡ Ok x)) ⊎ ((e : E) × (r ≡ Err e))
  cases-result (Ok x) = inl (x, refl)
  cases-result (Err e) = inr (e, refl)

module _ {X Y E : Type 0} where
  -- where both passes succeed
  pub both_ok : (r : Result X E) (k : X → Result Y E) (y : Y) → and_then r k ≡ Ok y → (x : X) × (r ≡ Ok x) × (k x ≡ Ok y)
  both_ok (Ok x) k y h = (x, refl, h)
  both_ok (Err e) k y h = absurd (clash h refl)

  -- where one of them refuses
  pub one-err : (r : Result X E) (k : X → Result Y E) (e : E) → and_then r k ≡ Err e → (r ≡ Err e) ⊎ ((x : X) × (r ≡ Ok x) × (k x ≡ Err e))
  one-err (Ok x) k e h = inr (x, refl, h)
  one-err (Err d) k e h = inl (ap Err (same-err refl h))

  pub map-err : (f : X → Y) (r : Result X E) (e : E) → map_ok f r ≡ Err e → r ≡ Err e
  map-err f (Ok x) e h = absurd (clash refl h)
  map-err f (Err d) e h = ap Err (same-err refl h)

  -- the exit of a `?`: the callee's refusal is returned
  pub exit : (f : X → Y) (r : Result X E) (e : E) {s : Result Y E} → IsErrAnd r (λ y. y ≡ e) → s ≡ Err e → map_ok f r ≡ s
  exit f (Ok x) e h k = absurd h
  exit f (Err y) e h k = ap Err h ∙ sym k
