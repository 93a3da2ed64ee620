-- The number and the place of each refusal.
use Rattle.std.specs.Prelude.{ℕ}
use Rattle.layout.specs.declared.refusal.LoadRefusal.{LoadRefusal}
use Rattle.layout.specs.declared.refusal.LoadRefusal.TheVariants.{Size, Link, Content, Naming}

-- 1: the size; 2: a link; 3: a record's content; 4: a name
abbrev pub number : LoadRefusal → ℕ
number Size = 1
number (Link i) = 2
number (Content c) = 3
number (Naming c) = 4

-- the index of the record with the bad link, 0 for the header; or the number of the node
abbrev pub place : LoadRefusal → ℕ
place Size = 0
place (Link i) = i
place (Content c) = c
place (Naming c) = c
