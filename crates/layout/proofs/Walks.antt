-- What one turn of the pass over the chain keeps.
use Rattle.std.proofs.Common.{◌≡◌, ℕ, suc, ◌-◌, ◌<◌, ◌≤◌, Bool, true, false, cond, not, eqb, leb, List, [], ◌∷◌, ◌++◌, length, get_or, set, replicate, Err, sym, refl, ap, ◌∙◌, subst, ⊎_elim, arith}
use Rattle.std.proofs.lemmas.List.{get_or-set_same, get_or-set_other, get_or-replicate, length-set, length-replicate, length_push}
use Rattle.std.proofs.lemmas.Bool.{cases_eq, eq-eqb, ne_eqb, leb-true}
use Rattle.layout.specs.declared.refusal.LoadRefusal.TheVariants.{Link}
use Rattle.layout.specs.Layout.{first, next}
use Rattle.layout.specs.Chain.{among, leads, walk, chain}
use Rattle.layout.specs.Follows.{Reached}
use Rattle.layout.proofs.Chains.{led, walk-stops, walk-on, reached-none, reached-on, reached-room, chain-walk}
use Rattle.layout.proofs.Distinct.{among-push}

mark-more : (k x : ℕ) (reached : List Bool) (ys : List ℕ) → x < length reached → get_or reached k false ≡ among k ys → get_or (set reached x true) k false ≡ cond (eqb k x) true (among k ys)
mark-more k x reached ys lt h =
    ⊎_elim
    (λ same. let e = eq-eqb k x same in rw e (rw same (get_or-set_same reached x true false lt)))
    (λ other. let e = ne_eqb k x other in rw e (get_or-set_other reached x k true false other ∙ h))
    (cases_eq k x)

-- the walk after the records xs, with a mark for each of them
pub record Sofar (b : List ℕ) (m : ℕ) (xs : List ℕ) (marks : List Bool) (i x : ℕ) : Type 0 where
  pub few : m ≤ 1024
  pub goes : walk b m (m - length xs) xs i x ≡ chain b m
  pub on : Reached b m xs x
  pub marked : (k : ℕ) → k ≤ 1024 → get_or marks k false ≡ among k xs
  pub wide : length marks ≡ 1025

pub begun : (b : List ℕ) (m x : ℕ) (xs : List ℕ) → m ≤ 1024 → xs ≡ [] → x ≡ first b → (x ≡ 0 → ⊥) → Sofar b m xs (replicate 1025 false) 0 x
begun b m x xs few none is some =
    let same : m - 0 ≡ m = omega arith in
    subst (λ xs. Sofar b m xs (replicate 1025 false) 0 x) (sym none) (record {
      few = few;
      goes = ap (λ n. walk b m n [] 0 x) same ∙ ap (walk b m m [] 0) is ∙ sym (chain-walk b m (λ none. some (is ∙ none)));
      on = subst (Reached b m []) (sym is) (reached-none b m);
      marked = λ k h. get_or-replicate 1025 k false false (omega arith);
      wide = length-replicate 1025 false;
    })

module _ {b : List ℕ} {m : ℕ} {xs : List ℕ} {marks : List Bool} {i x : ℕ} (s : Sofar b m xs marks i x) where
  -- the test of the marks, t, says whether the link leads on
  module _ (some : x ≡ 0 → ⊥) {t : Bool} (is : t ≡ cond (leb x m) (not (get_or marks x false)) false) where
    tested : t ≡ leads m xs x
    tested = is ∙ by (leb x m) refl
      where
        both : (mark : Bool) → not mark ≡ cond mark false true
        both true = refl
        both false = refl

        by : (u : Bool) → leb x m ≡ u → cond u (not (get_or marks x false)) false ≡ cond u (cond (among x xs) false true) false
        by true near = ap not (s.marked x (omega (arith, leb-true x m near, s.few))) ∙ both (among x xs)
        by false far = refl

    pub stopped : t ≡ false → chain b m ≡ Err (Link i)
    stopped no_way = sym s.goes ∙ walk-stops b m (m - length xs) xs i x some (sym tested ∙ no_way)

    module _ (way : t ≡ true) where
      on : leads m xs x ≡ true
      on = sym tested ∙ way

      pub near : x ≤ m
      near = (led m xs x on).0

      pub room : length xs < m
      room = reached-room b m s.on some on

      pub one_more : (after : List Bool) (ys : List ℕ) → after ≡ cond t (set marks x true) marks → ys ≡ xs ++ x ∷ [] → Sofar b m ys after x (next b x)
      one_more after ys set-one push =
          let fewer : m - length xs ≡ suc (m - length (xs ++ x ∷ [])) = omega (arith, room, length_push xs x) in
          subst (λ ys. Sofar b m ys after x (next b x)) (sym push)
          (subst (λ after. Sofar b m (xs ++ x ∷ []) after x (next b x)) (sym (set-one ∙ ap (λ t. cond t (set marks x true) marks) way))
          (record {
            few = s.few;
            goes = sym (walk-on b m (m - length (xs ++ x ∷ [])) xs i x some on) ∙ ap (λ n. walk b m n xs i x) (sym fewer) ∙ s.goes;
            on = reached-on b m s.on some on;
            marked = λ k in-range. mark-more k x marks xs (omega (arith, s.wide, near, s.few)) (s.marked k in-range) ∙ sym (among-push k x xs);
            wide = length-set marks x true ∙ s.wide;
          }))
