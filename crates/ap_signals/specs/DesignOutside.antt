-- The outside of a design's processor: the ports of its top module, with the names of its parts.
use Rattle.std.specs.Prelude.{ℕ, List, [], map, codes, Option, Some, None, slice_get}
use Rattle.std.specs.Option.{option_map_or}
use Rattle.ap_desc.specs.Designs.{index_bits}
use Rattle.ap_desc.specs.declared.design.Design.{Design}
use Rattle.ap_desc.specs.declared.design.File.{File}
use Rattle.ap_desc.specs.declared.design.InPort.{InPort as Input}
use Rattle.ap_desc.specs.declared.design.Mem.{Mem}
use Rattle.ap_desc.specs.declared.design.Reg.{Reg}
use Rattle.ap_image.specs.declared.shape.MemShape.{MemShape}
use Rattle.ap_model.specs.declared.storage.WritePort.{WritePort}
use Rattle.ap_model.specs.declared.storage.WritePort.TheVariants as port
use Rattle.ap_model.specs.Ports.{write_groups}
use Rattle.ap_net.specs.Outside.{Group, Outside, group_name, mem_name}

-- a memory of the outside
abbrev pub mem_shape : Mem → MemShape
mem_shape m = record { name = m.name; address = m.address; width = m.width }

-- the memory of this place in the design's list; one without a name where there is none
abbrev pub mem_at : Design → ℕ → MemShape
mem_at design mem = option_map_or mem_shape (slice_get design.mems mem) (record { name = []; address = 0; width = 0 })

-- the write group of a register, and of a file's write port
abbrev pub reg_group : Reg → Group
reg_group r = record { storage = r.name; port = None; width = r.width }

abbrev pub file_group : ℕ → File → Group
file_group number f = record { storage = f.name; port = Some (record { number = number; index = index_bits f }); width = f.width }

-- the group of a write port of a file, if it is there
abbrev pub group_of_file : ℕ → Option File → Group
group_of_file number file = option_map_or (file_group number) file (record { storage = []; port = Some (record { number = number; index = 0 }); width = 0 })

-- the group of a register's or a file's write port; one without a name where there is none
abbrev pub group_of : Design → WritePort → Group
group_of design (port.Register reg) = option_map_or reg_group (slice_get design.regs reg) (record { storage = []; port = None; width = 0 })
group_of design (port.Cell file number) = group_of_file number (slice_get design.files file)
group_of design (port.Memory mem) = record { storage = []; port = None; width = 0 }

abbrev pub outside_of : Design → Outside
outside_of design = record {
  address = design.address;
  word = design.word;
  inputs = map (λ (p : Input). record { name = p.name; width = p.width }) design.inputs;
  mems = map mem_shape design.mems;
  groups = map (group_of design) (write_groups design);
}

-- the nets that show a write: its enable, its index or address, its value
abbrev pub enable_name : Design → WritePort → List ℕ
enable_name design (port.Memory mem) = mem_name (mem_at design mem) (codes "we")
enable_name design p = group_name (group_of design p) (codes "e")

abbrev pub index_name : Design → WritePort → List ℕ
index_name design (port.Memory mem) = mem_name (mem_at design mem) (codes "wa")
index_name design p = group_name (group_of design p) (codes "x")

abbrev pub value_name : Design → WritePort → List ℕ
value_name design (port.Memory mem) = mem_name (mem_at design mem) (codes "wd")
value_name design p = group_name (group_of design p) (codes "v")
