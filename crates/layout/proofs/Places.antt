-- What stands at a number of a list, counted from 1.
use Rattle.std.proofs.Common.{◌≡◌, ℕ, zero, suc, ◌+◌, ◌-◌, ◌<◌, ◌≤◌, ◌⊎◌, List, [], ◌∷◌, ◌++◌, length, get_or, set, Some, None, Option, Bor, sym, refl, ap, ◌∙◌, subst, inl, inr, ⊎_elim, arith}
use Rattle.std.proofs.lemmas.List.{get_or-set_same, get_or-set_other, get_or_append_left, get_or_push, get_or_at, get_or_default, length-append, length_push, length-set}
use Rattle.std.proofs.lemmas.Bool.{cases_lt, cases_eq}
use Rattle.std.specs.Option.{option_copied}
use Rattle.std.specs.Slice.{IsItemAt}
use Rattle.layout.specs.Shape.{Nth, nth}

module _ {X : Type 0} where
  pub nth-same : {xs : List X} {c : ℕ} {x y : X} → Nth xs c x → Nth xs c y → x ≡ y
  nth-same {xs} {c} {x} {y} h k = h.is ∙ get_or_default xs (c - 1) x y (omega arith) ∙ sym k.is

  pub nth-from : (xs : List X) (c : ℕ) (d x : X) → 1 ≤ c → c ≤ length xs → x ≡ get_or xs (c - 1) d → Nth xs c x
  nth-from xs c d x low high is = record { low = low; high = high; is = is ∙ get_or_default xs (c - 1) d x (omega arith) }

  pub nth-front : {xs : List X} {c : ℕ} {x : X} (ys : List X) → Nth xs c x → Nth (xs ++ ys) c x
  nth-front {xs} {c} {x} ys h = record {
    low = h.low;
    high = omega (arith, length-append xs ys);
    is = h.is ∙ sym (get_or_append_left xs ys x (c - 1) (omega arith));
  }

  pub nth-within : (xs ys : List X) (c : ℕ) (x : X) → c ≤ length xs → Nth (xs ++ ys) c x → Nth xs c x
  nth-within xs ys c x high h = record {
    low = h.low;
    high = high;
    is = h.is ∙ get_or_append_left xs ys x (c - 1) (omega arith);
  }

  pub nth-middle : (xs : List X) (y : X) (ys : List X) → Nth (xs ++ y ∷ ys) (length xs + 1) y
  nth-middle xs y ys = record {
    low = omega arith;
    high = omega (arith, length-append xs (y ∷ ys));
    is = sym (get_or_at xs y ys y (length xs + 1 - 1) (omega arith));
  }

  pub nth-old : {xs : List X} {c : ℕ} {x : X} (y : X) → Nth xs c x → Nth (xs ++ y ∷ []) c x
  nth-old y h = nth-front (y ∷ []) h

  pub nth-new : (xs : List X) (y : X) → Nth (xs ++ y ∷ []) (length xs + 1) y
  nth-new xs y = nth-middle xs y []

  pub nth-push : {xs : List X} {y : X} {c : ℕ} {x : X} → Nth (xs ++ y ∷ []) c x → Nth xs c x ⊎ ((c ≡ length xs + 1) × (x ≡ y))
  nth-push {xs} {y} {c} {x} h =
      ⊎_elim
      (λ low. inl (nth-within xs (y ∷ []) c x (omega arith) h))
      (λ high. let last : c ≡ length xs + 1 = omega (arith, length_push xs y) in inr (last, h.is ∙ get_or_push xs y x (c - 1) (omega arith)))
      (cases_lt c (length xs + 1))

  pub nth-set : (xs : List X) (c : ℕ) (x : X) → 1 ≤ c → c ≤ length xs → Nth (set xs (c - 1) x) c x
  nth-set xs c x low high = record { low = low; high = omega (arith, length-set xs (c - 1) x); is = sym (get_or-set_same xs (c - 1) x x (omega arith)) }

  pub nth-kept : {xs : List X} {d : ℕ} {y : X} (c : ℕ) (x : X) → 1 ≤ c → (d ≡ c → ⊥) → Nth xs d y → Nth (set xs (c - 1) x) d y
  nth-kept {xs} {d} {y} c x low apart h = record {
    low = h.low;
    high = omega (arith, length-set xs (c - 1) x);
    is = h.is ∙ sym (get_or-set_other xs (c - 1) (d - 1) x y (λ e. apart (omega arith)));
  }

  pub nth-back : (xs : List X) (c : ℕ) (x : X) (d : ℕ) (y : X) → 1 ≤ c → c ≤ length xs → Nth (set xs (c - 1) x) d y → ((d ≡ c) × (y ≡ x)) ⊎ Nth xs d y
  nth-back xs c x d y low high h =
      ⊎_elim
      (λ e. inl (e, nth-same (subst (λ k. Nth (set xs (c - 1) x) k y) e h) (nth-set xs c x low high)))
      (λ apart. inr (record {
        low = h.low;
        high = omega (arith, length-set xs (c - 1) x);
        is = h.is ∙ get_or-set_other xs (c - 1) (d - 1) x y (λ e. apart (omega arith));
      }))
      (cases_eq d c)

  pub nth-none : (xs : List X) (c : ℕ) → (c < 1) ⊎ (length xs < c) → nth xs c ≡ None
  nth-none [] c h = refl
  nth-none (x ∷ xs) zero h = refl
  nth-none (x ∷ xs) (suc zero) h = absurd (⊎_elim (λ a. omega arith) (λ b. omega arith) h)
  nth-none (x ∷ xs) (suc (suc c)) h = nth-none xs (suc c) (⊎_elim (λ a. absurd (omega arith)) (λ b. inr (omega arith)) h)

  pub nth-at : (xs : List X) (c : ℕ) (x : X) → 1 ≤ c → c ≤ length xs → x ≡ get_or xs (c - 1) x → nth xs c ≡ Some x
  nth-at [] c x low high is = absurd (omega arith)
  nth-at (y ∷ xs) zero x low high is = absurd (omega arith)
  nth-at (y ∷ xs) (suc zero) x low high is = ap Some (sym is)
  nth-at (y ∷ xs) (suc (suc c)) x low high is =
      let e : suc (suc c) - 1 ≡ suc c = omega arith in
      let f : suc c - 1 ≡ c = omega arith in
      nth-at xs (suc c) x (omega arith) (omega arith) (is ∙ ap (λ k. get_or (y ∷ xs) k x) e ∙ sym (ap (λ k. get_or xs k x) f))

  -- what `nth` finds
  pub nth-is : (xs : List X) (c : ℕ) (x : X) → Some x ≡ nth xs c → Nth xs c x
  nth-is xs c x h =
      ⊎_elim
      (λ none. absurd (never (h ∙ nth-none xs c (inl none))))
      (λ low.
      ⊎_elim
      (λ past. absurd (never (h ∙ nth-none xs c (inr past))))
      (λ high. let e = nth-at xs c (get_or xs (c - 1) x) low high (get_or_default xs (c - 1) x (get_or xs (c - 1) x) (omega arith)) in nth-from xs c x x low high cc)
      (cases_lt (length xs) c))
      (cases_lt c 1)
    where
      never : Some x ≡ None → ⊥
      never k = cc

  pub nth-some : {xs : List X} {c : ℕ} {x : X} → Nth xs c x → nth xs c ≡ Some x
  nth-some {xs} {c} {x} h = nth-at xs c x h.low h.high h.is

  -- what a slice lends at c - 1
  pub lent-nth : (xs : List X) (c : ℕ) (r : Option (Bor X)) → 1 ≤ c → IsItemAt xs (c - 1) r → option_copied r ≡ nth xs c
  lent-nth xs c None low h = sym (nth-none xs c (inr (omega (arith, h.3))))
  lent-nth xs c (Some x) low h = sym (nth-at xs c x.now low (omega (arith, h.3.0)) h.1)
