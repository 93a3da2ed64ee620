-- What one turn of the pass over the chain keeps, where it marks the record that it reaches.
use Rattle.std.proofs.Common.{◌≡◌, ℕ, zero, suc, ◌<◌, ◌≤◌, Bool, true, false, cond, not, leb, List, [], ◌∷◌, ◌++◌, length, get_or, set, replicate, is_some, Some, None, Option, Err, sym, refl, ap, ◌∙◌, subst, arith}
use Rattle.std.proofs.lemmas.Bool.{both_ways}
use Rattle.layout.specs.declared.refusal.LoadRefusal.TheVariants.{Link}
use Rattle.layout.specs.Layout.{short_at, count, first, next}
use Rattle.layout.specs.Chain.{chain}
use Rattle.layout.proofs.Walks.{Sofar, begun, stopped, room, one_more}
use Rattle.job.specs.Files.{record_at}
use Rattle.job.specs.Links.{link}
use Rattle.job.proofs.Filed.{record-next, record-test}

-- a link that leads to a record
link-some : (y : ℕ) {x : ℕ} → link y ≡ Some x → (y ≡ x) × (y ≡ 0 → ⊥)
link-some zero h = absurd cc
link-some (suc y) h = (cc, λ e. omega arith)

-- the walk before the link l
abbrev pub Before : List ℕ → List ℕ → List Bool → ℕ → Option ℕ → Type 0
Before b xs marks i l = (y : ℕ) × (l ≡ link y) × Sofar b (count b) xs marks i y

-- the walk before the header's link, where it leads to a record
pub before-first : {b xs : List ℕ} {l : Option ℕ} → count b ≤ 1024 → xs ≡ [] → l ≡ link (first b) → is_some l ≡ true → Before b xs (replicate 1025 false) 0 l
before-first {b} few none is leads = (first b, is, begun b (count b) (first b) _ few none refl (λ e. both_ways true (sym leads ∙ ap is_some is ∙ ap (λ y. is_some (link y)) e) refl))

module _ {b xs : List ℕ} {marks : List Bool} {i x : ℕ} {l : Option ℕ} (turn : Before b xs marks i l) (is : l ≡ Some x) where
  to : (turn.0 ≡ x) × (turn.0 ≡ 0 → ⊥)
  to = link-some turn.0 (sym turn.1 ∙ is)

  some : x ≡ 0 → ⊥
  some e = to.1 (to.0 ∙ e)

  s : Sofar b (count b) xs marks i x
  s = subst (Sofar b (count b) xs marks i) to.0 turn.2

  module _ {r : Option (List ℕ)} (reached : r ≡ cond (get_or marks x false) None (record_at b x)) where
    test : is_some r ≡ cond (leb x (count b)) (not (get_or marks x false)) false
    test = ap is_some reached ∙ record-test b x some (get_or marks x false)

    pub refused : r ≡ None → chain b (count b) ≡ Err (Link i)
    refused none = stopped s some test (ap is_some none)

    module _ {q : List ℕ} (got : r ≡ Some q) where
      way : is_some r ≡ true
      way = ap is_some got

      pub more : length xs < count b
      more = room s some test way

      pub kept : {after : List Bool} {ys : List ℕ} → after ≡ cond (is_some r) (set marks x true) marks → ys ≡ xs ++ x ∷ [] → {m : Option ℕ} → m ≡ link (short_at q 2) → Before b ys after x m
      kept marked pushed on =
          let there : Some q ≡ record_at b x = there_in (get_or marks x false) (sym got ∙ reached) in
          (next b x, on ∙ ap link (record-next b x there), one_more s some test way _ _ marked pushed)
        where
          there_in : (mark : Bool) → Some q ≡ cond mark None (record_at b x) → Some q ≡ record_at b x
          there_in true h = absurd cc
          there_in false h = h
