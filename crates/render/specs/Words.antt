-- Numbers and nouns.
use Rattle.std.specs.Prelude.{ℕ, cond, List, ◌++◌, codes, decimal, ◌==◌}

-- a noun for so many things: one takes the singular
abbrev pub named : ℕ → List ℕ → List ℕ
named n noun = cond (n == 1) noun (noun ++ codes "s")

-- so many of a thing
abbrev pub counted : ℕ → List ℕ → List ℕ
counted n noun = decimal n ++ (codes " " ++ named n noun)
