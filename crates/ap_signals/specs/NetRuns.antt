-- The run of a netlist by names: nets and registers of top, and those of its parts.
use Rattle.std.specs.Prelude.{◌≡◌, ℕ, ◌++◌, List, map, codes, position, unwrap_or, slice_get, slice_index, true}
use Rattle.std.specs.Fmt.{decimal}
use Rattle.std.specs.List.{list_any}
use Rattle.std.specs.Str.{bytes_eq}
use Rattle.ap_desc.specs.declared.design.File.{File}
use Rattle.ap_desc.specs.declared.design.Instr.{Instr}
use Rattle.ap_desc.specs.declared.design.Reg.{Reg}
use Rattle.ap_desc.specs.declared.design.Unit.{Unit as Resource}
use Rattle.ap_net.specs.declared.net.Next.{Next}
use Rattle.ap_net.specs.Flat.{Flat, names_net, register_in, register_named, value_in_part, value_named}
use Rattle.ap_net.specs.Runs.{NetState}

-- The opened netlist; the slot that keeps a local, by stage, instruction and local; the state before each cycle and the value of
-- each net in it.
pub record NetRun : Type 0 where
  pub flat : Flat
  pub home : ℕ → Instr → ℕ → ℕ
  pub states : ℕ → NetState
  pub values : ℕ → List ℕ

-- Names.

abbrev pub pc_name : List ℕ
pc_name = codes "pc"

abbrev pub valid_name : ℕ → List ℕ
valid_name stage = codes "v_" ++ decimal stage

abbrev pub word_name : ℕ → List ℕ
word_name stage = codes "x_" ++ decimal stage

abbrev pub place_name : ℕ → List ℕ
place_name stage = codes "a_" ++ decimal stage

abbrev pub slot_name : ℕ → ℕ → List ℕ
slot_name stage slot = codes "l_" ++ decimal stage ++ codes "_" ++ decimal slot

abbrev pub reg_name : Reg → List ℕ
reg_name r = codes "r_" ++ r.name

abbrev pub file_part : File → List ℕ
file_part f = codes "f_" ++ f.name

abbrev pub cell_name : ℕ → List ℕ
cell_name index = codes "c" ++ decimal index

abbrev pub unit_part : Resource → List ℕ
unit_part u = codes "u_" ++ u.name

-- the number of the part of this name
abbrev pub part_number : Flat → List ℕ → ℕ
part_number flat name = unwrap_or (position (bytes_eq name) flat.parts) 0

-- Values.

-- what a net of top, and what one of a part, has in a cycle
abbrev pub net_value : NetRun → ℕ → List ℕ → ℕ
net_value run j name = value_named run.flat.nets (run.values j) name

abbrev pub part_value : NetRun → ℕ → List ℕ → List ℕ → ℕ
part_value run j part name = value_in_part (part_number run.flat part) run.flat.nets (run.values j) name

-- what a register of top holds before a cycle, and what it takes at the edge after it
abbrev pub held_value : NetRun → ℕ → List ℕ → ℕ
held_value run j name = register_named run.flat (run.states j).registers name

abbrev pub taken_value : NetRun → ℕ → List ℕ → ℕ
taken_value run j name = register_named run.flat (map (λ (x : Next). slice_index (run.values j) x.from.number) run.flat.nexts) name

-- what a register of a part holds
abbrev pub part_register : Flat → NetState → List ℕ → List ℕ → ℕ
part_register flat state part name = register_in (part_number flat part) flat state.registers name

-- the part has a register of this name
abbrev pub HasRegister : Flat → ℕ → List ℕ → Type 0
HasRegister flat part name = list_any (λ (x : Next). names_net part name (slice_get flat.nets x.register.number)) flat.nexts ≡ true
