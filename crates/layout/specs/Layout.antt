-- The layout of a job file: a header of four bytes, then records of twelve bytes; numbers are big-endian.
use Rattle.std.specs.Prelude.{ℕ, ◌+◌, ◌-◌, ◌*◌, Bool, false, cond, List, length, Some, None, Ok, Err, Option, Result, ◌==◌, nat_le, slice_index}
use Rattle.layout.specs.declared.node.Node.{Node}
use Rattle.layout.specs.declared.node.Node.TheVariants.{Leaf, Fork}
use Rattle.layout.specs.declared.refusal.LoadRefusal.{LoadRefusal}
use Rattle.layout.specs.declared.refusal.LoadRefusal.TheVariants.{Size}

-- the number in the two bytes from place i on
abbrev pub short_at : List ℕ → ℕ → ℕ
short_at b i = slice_index b i * 256 + slice_index b (i + 1)

-- the number in the four bytes from place i on
abbrev pub word_at : List ℕ → ℕ → ℕ
word_at b i = short_at b i * 65536 + short_at b (i + 2)

-- the number of records
abbrev pub count : List ℕ → ℕ
count b = short_at b 0

-- m records after the header, from 1 to 1024 of them
abbrev pub sized : List ℕ → ℕ → Bool
sized b m = cond (nat_le 1 m) (cond (nat_le m 1024) (length b == 4 + 12 * m) false) false

-- the number of records, where the file has just so many
abbrev pub header : List ℕ → Result ℕ LoadRefusal
header b = cond (nat_le 4 (length b)) (cond (sized b (count b)) (Ok (count b)) (Err Size)) (Err Size)

-- the index of the first record on the chain
abbrev pub first : List ℕ → ℕ
first b = short_at b 2

-- where record x starts; records are indexed from 1
abbrev pub start : ℕ → ℕ
start x = 12 * x - 8

-- the index of the record after record x, or 0
abbrev pub next : List ℕ → ℕ → ℕ
next b x = short_at b (start x + 2)

-- first frame (4), count (2), two zeros
abbrev pub leaf_at : List ℕ → ℕ → Option Node
leaf_at b i =
    cond (nat_le 1 (short_at b (i + 8)))
    (cond (nat_le (short_at b (i + 8)) 256)
    (cond (nat_le (word_at b (i + 4) + short_at b (i + 8)) 4294967296)
    (cond (short_at b (i + 10) == 0) (Some (Leaf (word_at b (i + 4)) (short_at b (i + 8)))) None)
    None)
    None)
    None

-- left (2), right (2), four zeros
abbrev pub fork_at : List ℕ → ℕ → Option Node
fork_at b i = cond (word_at b (i + 8) == 0) (Some (Fork (short_at b (i + 4)) (short_at b (i + 6)))) None

-- kind, zero byte, next index (2), eight bytes by kind
abbrev pub node_at : List ℕ → ℕ → Option Node
node_at b i =
    cond (slice_index b (i + 1) == 0)
    (cond (slice_index b i == 1) (leaf_at b i) (cond (slice_index b i == 2) (fork_at b i) None))
    None
