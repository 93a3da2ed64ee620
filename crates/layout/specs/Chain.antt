-- The pass over the chain: from the header's link on, each record links to the next by its index, and 0 ends it.
use Rattle.std.specs.Prelude.{ℕ, zero, suc, Bool, true, false, cond, List, [], ◌∷◌, ◌++◌, Ok, Err, Result, ◌==◌, nat_le}
use Rattle.layout.specs.declared.refusal.LoadRefusal.{LoadRefusal}
use Rattle.layout.specs.declared.refusal.LoadRefusal.TheVariants.{Link}
use Rattle.layout.specs.Layout.{first, next}

-- x is among the list
abbrev pub among : ℕ → List ℕ → Bool
among x [] = false
among x (y ∷ ys) = cond (x == y) true (among x ys)

-- the link x leads to one of m records, and to none that was reached
abbrev pub leads : ℕ → List ℕ → ℕ → Bool
leads m reached x = cond (nat_le x m) (cond (among x reached) false true) false

-- the chain on from the link x of record i; `left` counts the records that were not reached
abbrev pub walk : List ℕ → ℕ → ℕ → List ℕ → ℕ → ℕ → Result (List ℕ) LoadRefusal
walk b m zero reached i x = cond (x == 0) (Ok reached) (Err (Link i))
walk b m (suc left) reached i x =
    cond (x == 0) (Ok reached)
    (cond (leads m reached x) (walk b m left (reached ++ x ∷ []) x (next b x)) (Err (Link i)))

-- the indices of the records on the chain, in order
abbrev pub chain : List ℕ → ℕ → Result (List ℕ) LoadRefusal
chain b m = cond (first b == 0) (Err (Link 0)) (walk b m m [] 0 (first b))
