-- Sets of nodes as the bits of a number, and which nodes lead to which.
use Rattle.std.specs.Prelude.{◌≡◌, ◌==◌, ℕ, bit_and, bit_or, if◌then◌else◌, slice_index}
use Rattle.std.specs.Int.{bit_at}
use Rattle.ap_ports.specs.declared.ways.Ways.{Ways}

-- the node is in the set
abbrev pub Has : ℕ → ℕ → Type 0
Has set node = bit_at set node ≡ 1

-- by the edges so far the first node leads to the second, or is it
abbrev pub LeadsTo : Ways → ℕ → ℕ → Type 0
LeadsTo ways from to = Has (slice_index ways.rows from) to

-- a row with what stands behind, where it has one of the sources
abbrev pub joined : ℕ → ℕ → ℕ → ℕ
joined sources behind row = if bit_and row sources == 0 then row else bit_or row behind
