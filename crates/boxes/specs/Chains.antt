-- Chains of records through links. A link leads to a record, or to none where the chain ends.
-- Cell i below 64 is the link of record i; cell 64 + q is where the chain of receiver q begins,
-- and cell 64 where that of the free records does.
use Rattle.std.specs.Prelude.{ℕ, zero, suc, ◌+◌, List, [], ◌∷◌, ◌++◌, filter_map, slice_index_or, Option, Some, None}
use Rattle.mail.specs.declared.message.Message.{Message}
use Rattle.boxes.specs.declared.boxes.pool.Pool.{Pool}

-- the link in a cell
abbrev pub next : List (Option ℕ) → ℕ → Option ℕ
next links cell = slice_index_or links cell None

-- the message in a record; a free one holds none
abbrev pub held : List (Option Message) → ℕ → Option Message
held records i = slice_index_or records i None

-- the records, at most n, that the links lead through from a link on
unfoldable pub chain : (ℕ → Option ℕ) → ℕ → Option ℕ → List ℕ
chain to n None = []
chain to zero (Some x) = []
chain to (suc n) (Some x) = x ∷ chain to n (to x)

-- the records of chain q, newest first; chain 0 is the free one. The boxes keep that each chain ends within 64 records, and that
-- each record of a receiver's chain holds a message for that receiver (`Tight` in Inner), so nothing that waits is left out
abbrev pub chain_of : Pool → ℕ → List ℕ
chain_of pool q = chain (next pool.links) 64 (next pool.links (64 + q))

-- the messages in the box of q
abbrev pub box_of : Pool → ℕ → List Message
box_of pool q = filter_map (held pool.records) (chain_of pool q)

-- the boxes of the receivers 1 to n together
unfoldable pub stacked : (ℕ → List Message) → ℕ → List Message
stacked boxes zero = []
stacked boxes (suc n) = boxes (suc n) ++ stacked boxes n

-- all that waits
abbrev pub pile_of : Pool → List Message
pile_of pool = stacked (box_of pool) 16
