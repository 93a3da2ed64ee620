-- The first item of a list with which something is wrong.
use Rattle.std.proofs.Common.{◌≡◌, ℕ, zero, suc, ◌+◌, ◌<◌, List, ◌∷◌, length, get_or, ap, ◌∙◌, arith}
use Rattle.layout.specs.declared.refusal.LoadRefusal.{LoadRefusal}

-- the items before item i are good and item i is bad, so that e refuses c + i
pub record First {X : Type 0} (Good Bad : X → Type 0) (d : X) (refusal : ℕ → LoadRefusal) (c : ℕ) (xs : List X) (e : LoadRefusal) : Type 0 where
  pub i : ℕ
  pub is : e ≡ refusal (c + i)
  pub high : i < length xs
  pub bad : Bad (get_or xs i d)
  pub before : (j : ℕ) → j < i → Good (get_or xs j d)

module _ {X : Type 0} {Good Bad : X → Type 0} {d : X} {refusal : ℕ → LoadRefusal} {c : ℕ} {e : LoadRefusal} where
  pub first_here : (x : X) (xs : List X) → Bad x → e ≡ refusal c → First Good Bad d refusal c (x ∷ xs) e
  first_here x xs bad is =
      let at : c ≡ c + 0 = omega arith in
      record { i = 0; is = is ∙ ap refusal at; high = omega arith; bad = bad; before = λ j lt. absurd (omega arith) }

  pub first_later : (x : X) (xs : List X) → Good x → First Good Bad d refusal (c + 1) xs e → First Good Bad d refusal c (x ∷ xs) e
  first_later x xs good f =
      let at : c + 1 + f.i ≡ c + suc f.i = omega arith in
      record { i = suc f.i; is = f.is ∙ ap refusal at; high = omega (arith, f.high); bad = f.bad; before = before }
    where
      before : (j : ℕ) → j < suc f.i → Good (get_or (x ∷ xs) j d)
      before zero lt = good
      before (suc j) lt = f.before j (omega arith)
