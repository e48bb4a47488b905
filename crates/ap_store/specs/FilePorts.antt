-- The names and ports of a register file's module, after clk and rst: for each read port the index and the value that is read, then for
-- each write port the enable, the index and the value that is written.
use Rattle.std.specs.Prelude.{ℕ, ◌+◌, ◌*◌, ◌==◌, List, [], ◌∷◌, ◌++◌, codes, filter, map, not}
use Rattle.std.specs.Fmt.{decimal}
use Rattle.std.specs.List.{flat_map, range_with_len}
use Rattle.ap_desc.specs.declared.design.File.{File}
use Rattle.ap_desc.specs.Designs.{index_bits}
use Rattle.ap_net.specs.declared.net.Port.{Port}
use Rattle.ap_unit.specs.Units.{in_port, out_port}

abbrev pub file_module_name : File → List ℕ
file_module_name file = codes "rf_" ++ file.name

-- the register that is a cell
abbrev pub cell_name : ℕ → List ℕ
cell_name index = codes "c" ++ decimal index

abbrev pub read_index_name : ℕ → List ℕ
read_index_name port = codes "r" ++ decimal port ++ codes "_x"

abbrev pub read_value_name : ℕ → List ℕ
read_value_name port = codes "r" ++ decimal port ++ codes "_y"

abbrev pub write_enable_name : ℕ → List ℕ
write_enable_name port = codes "w" ++ decimal port ++ codes "_e"

abbrev pub write_index_name : ℕ → List ℕ
write_index_name port = codes "w" ++ decimal port ++ codes "_x"

abbrev pub write_value_name : ℕ → List ℕ
write_value_name port = codes "w" ++ decimal port ++ codes "_v"

-- the ports of the module that are a read port of the file, those that are a write port, and all of them in order
abbrev pub read_ports : File → ℕ → List Port
read_ports file port = in_port (read_index_name port) (index_bits file) ∷ out_port (read_value_name port) file.width ∷ []

abbrev pub write_ports : File → ℕ → List Port
write_ports file port = in_port (write_enable_name port) 1 ∷ in_port (write_index_name port) (index_bits file) ∷ in_port (write_value_name port) file.width ∷ []

abbrev pub file_ports : File → List Port
file_ports file = flat_map (read_ports file) (range_with_len 0 file.reads) ++ flat_map (write_ports file) (range_with_len 0 file.writes)

-- Ports have the first numbers of a module's nets, in order: those of a read port
abbrev pub read_index : ℕ → ℕ
read_index port = 2 * port

abbrev pub read_value : ℕ → ℕ
read_value port = 2 * port + 1

-- and those of a write port
abbrev pub write_enable : File → ℕ → ℕ
write_enable file port = 2 * file.reads + 3 * port

abbrev pub write_index : File → ℕ → ℕ
write_index file port = 2 * file.reads + 3 * port + 1

abbrev pub write_value : File → ℕ → ℕ
write_value file port = 2 * file.reads + 3 * port + 2

-- the inputs but this one
abbrev pub inputs_of : File → List ℕ
inputs_of file = map read_index (range_with_len 0 file.reads) ++ range_with_len (2 * file.reads) (3 * file.writes)

abbrev pub inputs_but : File → ℕ → List ℕ
inputs_but file input = filter (λ other. not (other == input)) (inputs_of file)
