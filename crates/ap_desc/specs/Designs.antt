-- What holds of the design that a description without fault describes, and which words an instruction matches.
use Rattle.std.specs.Prelude.{◌≡◌, ℕ, ◌+◌, ◌-◌, ◌*◌, ◌/◌, ◌%◌, ◌^◌, ◌<◌, ◌&&◌, nat_le, nat_lt, Bool, IsTrue, List, [], ◌∷◌, ◌++◌, length, map, sum_by, bit_and, codes, Option, Some, None, slice_get, IsSomeAnd, IfSome, if◌then◌else◌, fold, option_to_list}
use Rattle.std.specs.List.{list_all, list_any, flat_map, zip}
use Rattle.std.specs.Option.{option_map_or}
use Rattle.std.specs.Str.{bytes_eq}
use Rattle.ap_bits.specs.Cards.{select_width_for}
use Rattle.ap_desc.specs.Limits.{max_address_bits, max_cells, max_fields, max_files, max_formats, max_inputs, max_instructions, max_memories, max_memory_address_bits, max_micro_operations, max_read_ports, max_registers, max_slots, max_stages, max_units, max_width, max_word_bits, max_write_ports, min_address_bits, min_cells, min_stages, min_word_bits}
use Rattle.ap_desc.specs.declared.design.Design.{Design}
use Rattle.ap_desc.specs.declared.design.Reg.{Reg}
use Rattle.ap_desc.specs.declared.design.File.{File}
use Rattle.ap_desc.specs.declared.design.Mem.{Mem}
use Rattle.ap_desc.specs.declared.design.InPort.{InPort}
use Rattle.ap_desc.specs.declared.design.Unit.{Unit as Resource}
use Rattle.ap_desc.specs.declared.design.Format.{Format}
use Rattle.ap_desc.specs.declared.design.Field.{Field}
use Rattle.ap_desc.specs.declared.design.Instr.{Instr}
use Rattle.ap_desc.specs.declared.design.Micro.{Micro}
use Rattle.ap_desc.specs.declared.design.Arg.{Arg}
use Rattle.ap_desc.specs.declared.design.Arg.TheVariants as arg
use Rattle.ap_desc.specs.declared.design.Act.{Act}
use Rattle.ap_desc.specs.declared.design.Act.TheVariants as act

-- the word has the fixed value in the bits of the mask
abbrev pub Matches : Instr → ℕ → Type 0
Matches instr word = bit_and word instr.fixed_mask ≡ instr.fixed_value

-- the value that a word gives a field: the bits of its place
abbrev pub field_value : Field → ℕ → ℕ
field_value field word = (word / 2 ^ field.low) % 2 ^ field.width

-- the number lies between these two
abbrev pub is_between : ℕ → ℕ → ℕ → Bool
is_between low high n = nat_le low n && nat_le n high

-- a number of bits that a value may have
abbrev pub is_width : ℕ → Bool
is_width width = is_between 1 max_width width

-- a file has a power of two of cells
abbrev pub is_cell_count : ℕ → Bool
is_cell_count cells =
    is_between min_cells max_cells cells
    && list_any (λ bits. nat_le cells (2 ^ bits) && nat_le (2 ^ bits) cells) (1 ∷ 2 ∷ 3 ∷ 4 ∷ 5 ∷ 6 ∷ [])

-- the limits of each number that a description gives: of the header's
abbrev pub is_stage_count : ℕ → Bool
is_stage_count count = is_between min_stages max_stages count

abbrev pub is_address_width : ℕ → Bool
is_address_width bits = is_between min_address_bits max_address_bits bits

abbrev pub is_word_width : ℕ → Bool
is_word_width bits = is_between min_word_bits max_word_bits bits

-- transfers stand in a stage after the first
abbrev pub is_transfer_stage : ℕ → ℕ → Bool
is_transfer_stage stages stage = is_between 1 (stages - 1) stage

abbrev pub is_slot_count : ℕ → Bool
is_slot_count slots = nat_le slots max_slots

-- of a file's and a memory's, of a field's width, and of the stage of a line
abbrev pub is_file_shape : ℕ → ℕ → ℕ → ℕ → Bool
is_file_shape width cells reads writes = is_width width && is_cell_count cells && is_between 1 max_read_ports reads && is_between 1 max_write_ports writes

abbrev pub is_mem_shape : ℕ → ℕ → Bool
is_mem_shape address width = is_between 1 max_memory_address_bits address && is_width width

abbrev pub is_field_width : ℕ → ℕ → Bool
is_field_width word width = is_between 1 word width

abbrev pub is_stage : ℕ → ℕ → Bool
is_stage stages stage = nat_lt stage stages

-- the value has no more bits than these
abbrev pub has_bits : ℕ → ℕ → Bool
has_bits width value = nat_lt value (2 ^ width)

abbrev pub is_reg_within : Reg → Bool
is_reg_within reg = is_width reg.width && has_bits reg.width reg.reset

abbrev pub is_file_within : File → Bool
is_file_within file = is_file_shape file.width file.cells file.reads file.writes

abbrev pub is_mem_within : Mem → Bool
is_mem_within mem = is_mem_shape mem.address mem.width

abbrev pub is_format_within : ℕ → Format → Bool
is_format_within word format = is_between 1 max_fields (length format.fields) && list_all (λ (f : Field). is_field_width word f.width) format.fields

abbrev pub is_instr_within : ℕ → Instr → Bool
is_instr_within stages instr = nat_le (length instr.micros) max_micro_operations && list_all (λ (m : Micro). is_stage stages m.stage) instr.micros

-- the bits that number a file's cells
abbrev pub index_bits : File → ℕ
index_bits file = select_width_for file.cells

-- the design's numbers are within the limits
pub record IsWithinLimits (design : Design) : Type 0 where
  pub stages : IsTrue (is_stage_count design.stages)
  pub address : IsTrue (is_address_width design.address)
  pub word : IsTrue (is_word_width design.word)
  pub branch : IsTrue (is_transfer_stage design.stages design.branch)
  pub slots : IsTrue (is_slot_count design.slots)
  pub regs : IsTrue (nat_le (length design.regs) max_registers && list_all is_reg_within design.regs)
  pub files : IsTrue (nat_le (length design.files) max_files && list_all is_file_within design.files)
  pub mems : IsTrue (nat_le (length design.mems) max_memories && list_all is_mem_within design.mems)
  pub inputs : IsTrue (nat_le (length design.inputs) max_inputs && list_all (λ (p : InPort). is_width p.width) design.inputs)
  pub units : IsTrue (nat_le (length design.units) max_units && list_all (λ (u : Resource). is_width u.width) design.units)
  pub formats : IsTrue (nat_le (length design.formats) max_formats && list_all (is_format_within design.word) design.formats)
  pub instrs : IsTrue (nat_le (length design.instrs) max_instructions && list_all (is_instr_within design.stages) design.instrs)

-- every name in the design, those of operations and locals aside, which it doesn't keep
abbrev pub names_in : Design → List (List ℕ)
names_in design =
    map (λ (r : Reg). r.name) design.regs ++ map (λ (f : File). f.name) design.files ++ map (λ (m : Mem). m.name) design.mems
    ++ map (λ (p : InPort). p.name) design.inputs ++ map (λ (u : Resource). u.name) design.units
    ++ flat_map (λ (f : Format). f.name ∷ map (λ (x : Field). x.name) f.fields) design.formats ++ map (λ (i : Instr). i.name) design.instrs

-- the lines of the design, in the order of the text: transfer, the formats, the instructions, each with its micro-operations
abbrev pub lines_in : Design → List ℕ
lines_in design =
    design.transfer_line ∷ map (λ (f : Format). f.line) design.formats
    ++ flat_map (λ (i : Instr). i.line ∷ map (λ (m : Micro). m.line) i.micros) design.instrs

-- the numbers rise, and the first is above this one
abbrev pub Rise : ℕ → List ℕ → Type 0
Rise low [] = Unit {0}
Rise low (n ∷ rest) = (low < n) × Rise n rest

-- each field's lowest bit is at the sum of the widths of the fields after it
abbrev pub ArePlaced : List Field → Type 0
ArePlaced [] = Unit {0}
ArePlaced (f ∷ fields) = (f.low ≡ sum_by (λ (x : Field). x.width) fields) × ArePlaced fields

-- the fixed field lies below the word's end, and its value fits
abbrev pub is_counted : ℕ → Field → ℕ → Bool
is_counted word field value = nat_le (field.low + field.width) word && nat_lt value (2 ^ field.width)

-- the bits of a fixed field at its place, where it counts
abbrev pub mask_bits : ℕ → Field × Option ℕ → ℕ
mask_bits word (field, value) = option_map_or (λ v. if is_counted word field v then (2 ^ field.width - 1) * 2 ^ field.low else 0) value 0

-- the value of a fixed field at its place, where it counts
abbrev pub value_bits : ℕ → Field × Option ℕ → ℕ
value_bits word (field, value) = option_map_or (λ v. if is_counted word field v then v * 2 ^ field.low else 0) value 0

-- an operand of a line before which so many locals were assigned, in an instruction whose format has these fields
abbrev pub IsArg : ℕ → List Field → Arg → Type 0
IsArg locals fields (arg.Local i) = i < locals
IsArg locals fields (arg.Field i) = i < length fields
IsArg locals fields arg.Pc = Unit {0}
IsArg locals fields arg.Link = Unit {0}

-- the file is declared and has this read port
abbrev pub IsReadPort : Design → ℕ → ℕ → Type 0
IsReadPort design file port = IsSomeAnd (slice_get design.files file) (λ f. port < f.reads)

-- the file is declared and has this write port
abbrev pub IsWritePort : Design → ℕ → ℕ → Type 0
IsWritePort design file port = IsSomeAnd (slice_get design.files file) (λ f. port < f.writes)

-- all that the line names is there
abbrev pub IsInRange : Design → ℕ → List Field → Act → Type 0
IsInRange design locals fields (act.Compute unit op a b) = (unit < length design.units) × IsArg locals fields a × IsArg locals fields b
IsInRange design locals fields (act.ReadFile file port index) = IsReadPort design file port × IsArg locals fields index
IsInRange design locals fields (act.ReadReg reg) = reg < length design.regs
IsInRange design locals fields (act.ReadMem mem at) = (mem < length design.mems) × IsArg locals fields at
IsInRange design locals fields (act.ReadIn input) = input < length design.inputs
IsInRange design locals fields (act.Const width value) = Unit {0}
IsInRange design locals fields (act.Zext width a) = IsArg locals fields a
IsInRange design locals fields (act.Sext width a) = IsArg locals fields a
IsInRange design locals fields (act.Slice high low a) = IsArg locals fields a
IsInRange design locals fields (act.Cat a b) = IsArg locals fields a × IsArg locals fields b
IsInRange design locals fields (act.WriteFile file port index value guard) = IsWritePort design file port × IsArg locals fields index × IsArg locals fields value × IfSome guard (IsArg locals fields)
IsInRange design locals fields (act.WriteReg reg value guard) = (reg < length design.regs) × IsArg locals fields value × IfSome guard (IsArg locals fields)
IsInRange design locals fields (act.WriteMem mem at value guard) = (mem < length design.mems) × IsArg locals fields at × IsArg locals fields value × IfSome guard (IsArg locals fields)
IsInRange design locals fields (act.Branch cond target) = IsArg locals fields cond × IsArg locals fields target
IsInRange design locals fields (act.Jump target) = IsArg locals fields target

-- the width of what is at this place of a list, and 0 where nothing is
abbrev pub width_at : {X : Type 0} → (X → ℕ) → List X → ℕ → ℕ
width_at width xs i = option_map_or width (slice_get xs i) 0

-- the width of an operand, with these widths of the locals; an address has the bits of a code address
abbrev pub arg_width : Design → List ℕ → List Field → Arg → ℕ
arg_width design locals fields (arg.Local i) = width_at (λ w. w) locals i
arg_width design locals fields (arg.Field i) = width_at (λ (f : Field). f.width) fields i
arg_width design locals fields arg.Pc = design.address
arg_width design locals fields arg.Link = design.address

-- the width of the local that a line assigns, and nothing where it assigns none
abbrev pub local_width : Design → List ℕ → List Field → Act → Option ℕ
local_width design locals fields (act.Compute unit op a b) = Some (width_at (λ (u : Resource). u.width) design.units unit)
local_width design locals fields (act.ReadFile file port index) = Some (width_at (λ (f : File). f.width) design.files file)
local_width design locals fields (act.ReadReg reg) = Some (width_at (λ (r : Reg). r.width) design.regs reg)
local_width design locals fields (act.ReadMem mem at) = Some (width_at (λ (m : Mem). m.width) design.mems mem)
local_width design locals fields (act.ReadIn input) = Some (width_at (λ (p : InPort). p.width) design.inputs input)
local_width design locals fields (act.Const width value) = Some width
local_width design locals fields (act.Zext width a) = Some width
local_width design locals fields (act.Sext width a) = Some width
local_width design locals fields (act.Slice high low a) = Some (high - low + 1)
local_width design locals fields (act.Cat a b) = Some (arg_width design locals fields a + arg_width design locals fields b)
local_width design locals fields _ = None

-- how many locals a line assigns: one or none
abbrev pub assigned_count : Act → ℕ
assigned_count (act.WriteFile file port index value guard) = 0
assigned_count (act.WriteReg reg value guard) = 0
assigned_count (act.WriteMem mem at value guard) = 0
assigned_count (act.Branch cond target) = 0
assigned_count (act.Jump target) = 0
assigned_count _ = 1

-- all that the lines name is there, where so many locals were assigned before them
abbrev pub AreInRange : Design → ℕ → List Field → List Micro → Type 0
AreInRange design locals fields [] = Unit {0}
AreInRange design locals fields (m ∷ micros) = IsInRange design locals fields m.act × AreInRange design (locals + assigned_count m.act) fields micros

-- the widths of the locals that these lines assign, in order
abbrev pub widths_of : Design → List Field → List Micro → List ℕ
widths_of design fields micros = fold (λ widths (m : Micro). widths ++ option_to_list (local_width design widths fields m.act)) [] micros

-- an instruction with a format of these fields is as the design's fields say
pub record IsInstr (design : Design) (fields : List Field) (instr : Instr) : Type 0 where
  pub fixed : length instr.fixed ≡ length fields
  pub mask : instr.fixed_mask ≡ sum_by (mask_bits design.word) (zip fields instr.fixed)
  pub value : instr.fixed_value ≡ sum_by (value_bits design.word) (zip fields instr.fixed)
  pub locals : instr.locals ≡ widths_of design fields instr.micros
  pub widths : IsTrue (list_all is_width instr.locals)
  pub range : AreInRange design 0 fields instr.micros

-- its format is declared, and it is as the design's fields say
abbrev pub IsRight : Design → Instr → Type 0
IsRight design instr = IsSomeAnd (slice_get design.formats instr.format) (λ format. IsInstr design format.fields instr)

-- the fields of the instruction's format
abbrev pub fields_of : Design → Instr → List Field
fields_of design instr = option_map_or (λ (f : Format). f.fields) (slice_get design.formats instr.format) []

abbrev pub is_named_nop : Instr → Bool
is_named_nop instr = bytes_eq instr.name (codes "NOP")
