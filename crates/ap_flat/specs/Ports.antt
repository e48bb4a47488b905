-- The ports that are due to a module top: those of some outside of a processor.
use Rattle.std.specs.Prelude.{◌≡◌, ◌≢◌, ℕ, ◌<◌, ◌≤◌, ◌^◌, ◌++◌, List, ◌∷◌, length, Option, None, Some, codes, slice_get}
use Rattle.std.specs.List.{AllByRecursion as Each}
use Rattle.std.specs.Fmt.{decimal}
use Rattle.ap_bits.specs.Names.{IsName}
use Rattle.ap_image.specs.declared.shape.MemShape.{MemShape}
use Rattle.ap_image.specs.Shapes.{IsShape}
use Rattle.ap_net.specs.declared.net.Port.{Port}
use Rattle.ap_net.specs.Outside.{Outside, InPort, Group, FilePort, shape_of, output, input_ports, mem_ports, group_ports, ports_of}
use Rattle.ap_flat.specs.declared.outside.Storage.{Storage}

-- an address of a memory has from 1 to 16 bits
pub record IsAddress (bits : ℕ) : Type 0 where
  pub low : 1 ≤ bits
  pub high : bits ≤ 16

abbrev pub IsInPort : InPort → Type 0
IsInPort p = IsName p.name

pub record IsMem (m : MemShape) : Type 0 where
  pub named : IsName m.name
  pub address : IsAddress m.address

-- the number of a file's port is at most 2^64 - 1
abbrev pub IsFilePort : Option FilePort → Type 0
IsFilePort None = Unit {0}
IsFilePort (Some port) = port.number < 2 ^ 64

pub record IsGroup (g : Group) : Type 0 where
  pub named : IsName g.storage
  pub port : IsFilePort g.port

-- what the outside of a processor has: at most 8 inputs and 4 memories, of different names that aren't that of the code memory
pub record IsOutside (o : Outside) : Type 0 where
  pub address : IsAddress o.address
  pub shape : IsShape (shape_of o)
  pub few_inputs : length o.inputs ≤ 8
  pub few_mems : length o.mems ≤ 4
  pub inputs : Each IsInPort o.inputs
  pub mems : Each IsMem o.mems
  pub groups : Each IsGroup o.groups

-- the ports are those of this outside
pub record AreDue (ports : List Port) (o : Outside) : Type 0 where
  pub outside : IsOutside o
  pub same : ports ≡ ports_of o

-- ports that begin with an input, with those of a memory, or with those of a group
pub record BeginsWith (ports : List Port) (piece : List Port) : Type 0 where
  pub rest : List Port
  pub split : ports ≡ piece ++ rest

-- no byte of the text is an underscore
abbrev pub HasNoUnderscore : List ℕ → Type 0
HasNoUnderscore text = Each (λ byte. byte ≢ 95) text

-- a register, or a file with the number of a port, and how it is written in the names of a group's ports
abbrev pub storage_text : List ℕ → Option ℕ → List ℕ
storage_text name None = name
storage_text name (Some number) = name ++ codes "_" ++ decimal number

abbrev pub IsPortNumber : Option ℕ → Type 0
IsPortNumber None = Unit {0}
IsPortNumber (Some number) = number < 2 ^ 64

pub record IsStorage (text : List ℕ) (s : Storage) : Type 0 where
  pub named : IsName s.name
  pub number : IsPortNumber s.port
  pub written : text ≡ storage_text s.name s.port

-- the name of a port of a group
abbrev pub group_port : List ℕ → List ℕ → List ℕ
group_port storage what = codes "w_" ++ storage ++ codes "_" ++ what

-- the second and the third of these ports are the index and the value of the group
pub record IsFileGroup (text : List ℕ) (number : ℕ) (ports : List Port) (g : Group) : Type 0 where
  pub bits : ℕ
  pub port : g.port ≡ Some (record { number = number; index = bits })
  pub index : slice_get ports 1 ≡ Some (output (group_port text (codes "x")) bits)
  pub value : slice_get ports 2 ≡ Some (output (group_port text (codes "v")) g.width)

-- the ports after the enable are those of the group of a register, or of a file's port, that is written so
abbrev pub IsGroupBy : List ℕ → Option ℕ → List Port → Group → Type 0
IsGroupBy text None ports g = (g.port ≡ None) × (slice_get ports 1 ≡ Some (output (group_port text (codes "v")) g.width))
IsGroupBy text (Some number) ports g = IsFileGroup text number ports g

-- the ports after those of the code memory and mwait
abbrev pub ports_after : Outside → List Port
ports_after o = input_ports o.inputs ++ mem_ports o.mems ++ (output (codes "stall") 1 ∷ output (codes "kill") 1 ∷ group_ports o.groups)

-- these are the ports after those of a code memory of these bits and mwait
pub record AreDueAfter (address word : ℕ) (ports : List Port) (o : Outside) : Type 0 where
  pub outside : IsOutside o
  pub address_is : o.address ≡ address
  pub word_is : o.word ≡ word
  pub same : ports ≡ ports_after o
