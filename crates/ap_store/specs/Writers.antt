-- The nets of a write port, the lines that tell which cell it writes, and what drives the cells.
use Rattle.std.specs.Prelude.{◌≡◌, ℕ, ◌-◌, ◌^◌, ◌==◌, if◌then◌else◌, List, [], ◌∷◌, bit_and, map, slice_get}
use Rattle.std.specs.List.{flat_map, range_with_len}
use Rattle.std.specs.Option.{option_map_or}
use Rattle.ap_net.specs.declared.cell.Wire.{Wire}
use Rattle.ap_net.specs.declared.net.ModuleNet.{ModuleNet}
use Rattle.ap_net.specs.declared.net.Next.{Next}
use Rattle.ap_net.specs.Cells.{IsNet}
use Rattle.ap_comb.specs.Choices.{IsOfWidth}
use Rattle.ap_store.specs.declared.writes.WritePort.{WritePort}
use Rattle.ap_store.specs.Cells.{CellWrite, write_order}
use Rattle.ap_store.specs.FileModules.{write_of}

-- a value for each number below count: `on` at one of them, and else 0
abbrev pub hot : ℕ → ℕ → ℕ → ℕ
hot on at index = if index == at then on else 0

abbrev pub one_hot : ℕ → ℕ → ℕ → List ℕ
one_hot on at count = map (hot on at) (range_with_len 0 count)

-- two bits for each bit: the first has its value where `bit` is 0, the second where it is 1
abbrev pub split_by : ℕ → ℕ → List ℕ
split_by bit line = bit_and line (1 - bit) ∷ bit_and line bit ∷ []

abbrev pub split_lines : ℕ → List ℕ → List ℕ
split_lines bit lines = flat_map (split_by bit) lines

-- the nets of a write port are declared: it writes values of w bits, and its index numbers so many cells
pub record IsWriter (nets : List ModuleNet) (w count : ℕ) (port : WritePort) : Type 0 where
  pub enable : IsOfWidth nets 1 port.enable
  pub index : IsNet nets port.index
  pub value : IsOfWidth nets w port.value
  pub room : 2 ^ port.index.width ≡ count

-- what a port writes, where read gives the value of each net by its number, and what the ports of a file write
abbrev pub port_write : (ℕ → ℕ) → WritePort → List CellWrite
port_write read port = write_of (read port.enable.number) (read port.index.number) (read port.value.number)

abbrev pub numbered_write : (ℕ → ℕ) → List WritePort → ℕ → List CellWrite
numbered_write read ports port = option_map_or (port_write read) (slice_get ports port) []

abbrev pub ports_write : (ℕ → ℕ) → List WritePort → List ℕ → List CellWrite
ports_write read ports stages = flat_map (numbered_write read ports) (write_order stages)

-- each register with the net that it takes
abbrev pub paired : List Wire → List Wire → List Next
paired [] nets = []
paired (c ∷ cells) [] = []
paired (c ∷ cells) (n ∷ nets) = record { register = c; from = n } ∷ paired cells nets
