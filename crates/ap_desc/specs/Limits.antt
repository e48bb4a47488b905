-- The limits of the language. The numbers stand with the code, in `src/limits.rt`, which uses the same constants.
use Rattle.std.specs.Prelude.{ℕ}
use Rattle.ap_desc.specs.declared.limits.TheConstants as limit

-- the fewest stages that a processor may have
abbrev pub min_stages : ℕ
min_stages = limit.MIN_STAGES

-- the most stages
abbrev pub max_stages : ℕ
max_stages = limit.MAX_STAGES

-- the fewest bits of an instruction's address
abbrev pub min_address_bits : ℕ
min_address_bits = limit.MIN_ADDRESS_BITS

-- the most bits of an instruction's address
abbrev pub max_address_bits : ℕ
max_address_bits = limit.MAX_ADDRESS_BITS

-- the fewest bits of an instruction's word
abbrev pub min_word_bits : ℕ
min_word_bits = limit.MIN_WORD_BITS

-- the most bits of an instruction's word
abbrev pub max_word_bits : ℕ
max_word_bits = limit.MAX_WORD_BITS

-- the most instructions that are always done after a transfer
abbrev pub max_slots : ℕ
max_slots = limit.MAX_SLOTS

-- the most bits of a value; the fewest are 1
abbrev pub max_width : ℕ
max_width = limit.MAX_WIDTH

-- the fewest cells of a file
abbrev pub min_cells : ℕ
min_cells = limit.MIN_CELLS

-- the most cells of a file
abbrev pub max_cells : ℕ
max_cells = limit.MAX_CELLS

-- the most read ports of a file; the fewest are 1
abbrev pub max_read_ports : ℕ
max_read_ports = limit.MAX_READ_PORTS

-- the most write ports of a file; the fewest are 1
abbrev pub max_write_ports : ℕ
max_write_ports = limit.MAX_WRITE_PORTS

-- the most bits of an address of a data memory; the fewest are 1
abbrev pub max_memory_address_bits : ℕ
max_memory_address_bits = limit.MAX_MEMORY_ADDRESS_BITS

-- the most registers
abbrev pub max_registers : ℕ
max_registers = limit.MAX_REGISTERS

-- the most register files
abbrev pub max_files : ℕ
max_files = limit.MAX_FILES

-- the most data memories
abbrev pub max_memories : ℕ
max_memories = limit.MAX_MEMORIES

-- the most input ports
abbrev pub max_inputs : ℕ
max_inputs = limit.MAX_INPUTS

-- the most units
abbrev pub max_units : ℕ
max_units = limit.MAX_UNITS

-- the most formats
abbrev pub max_formats : ℕ
max_formats = limit.MAX_FORMATS

-- the most fields of a format
abbrev pub max_fields : ℕ
max_fields = limit.MAX_FIELDS

-- the most instructions
abbrev pub max_instructions : ℕ
max_instructions = limit.MAX_INSTRUCTIONS

-- the most micro-operations of an instruction
abbrev pub max_micro_operations : ℕ
max_micro_operations = limit.MAX_MICRO_OPERATIONS

-- the most bytes of a description's text
abbrev pub description_limit : ℕ
description_limit = limit.DESCRIPTION_LIMIT
