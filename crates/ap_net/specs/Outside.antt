-- The outside of a processor: the ports of a top module, and the shape of what it is run on.
use Rattle.std.specs.Prelude.{ℕ, ◌++◌, List, [], ◌∷◌, map, codes, Option, Some, None, true, false}
use Rattle.std.specs.Fmt.{decimal}
use Rattle.ap_image.specs.declared.shape.MemShape.{MemShape}
use Rattle.ap_image.specs.Shapes.{Shape}
use Rattle.ap_net.specs.declared.net.Port.{Port}

-- an input port of the description
pub record InPort : Type 0 where
  pub name : List ℕ
  pub width : ℕ

-- the write port of a file: its number, and the bits of an index
pub record FilePort : Type 0 where
  pub number : ℕ
  pub index : ℕ

-- a write group: the register, or the file with its port, and the bits of a value
pub record Group : Type 0 where
  pub storage : List ℕ
  pub port : Option FilePort
  pub width : ℕ

-- what the outside of a processor has
pub record Outside : Type 0 where
  pub address : ℕ
  pub word : ℕ
  pub inputs : List InPort
  pub mems : List MemShape
  pub groups : List Group

-- what it is run on: images and traces fit this
abbrev pub shape_of : Outside → Shape
shape_of o = record { code_address = o.address; code_width = o.word; mems = o.mems; inputs = map (λ (p : InPort). p.width) o.inputs }

abbrev pub output : List ℕ → ℕ → Port
output name width = record { name = name; width = width; output = true }

abbrev pub input : List ℕ → ℕ → Port
input name width = record { name = name; width = width; output = false }

-- the names of the ports of inputs, memories and groups
abbrev pub input_name : InPort → List ℕ
input_name p = codes "p_" ++ p.name

abbrev pub mem_name : MemShape → List ℕ → List ℕ
mem_name m what = codes "m_" ++ m.name ++ codes "_" ++ what

abbrev pub port_name : List ℕ → Option FilePort → List ℕ
port_name storage None = storage
port_name storage (Some port) = storage ++ codes "_" ++ decimal port.number

abbrev pub group_name : Group → List ℕ → List ℕ
group_name g what = codes "w_" ++ port_name g.storage g.port ++ codes "_" ++ what

abbrev pub input_ports : List InPort → List Port
input_ports [] = []
input_ports (p ∷ ps) = input (input_name p) p.width ∷ input_ports ps

abbrev pub mem_ports : List MemShape → List Port
mem_ports [] = []
mem_ports (m ∷ ms) = output (mem_name m (codes "ra")) m.address ∷ input (mem_name m (codes "rd")) m.width ∷ output (mem_name m (codes "we")) 1
    ∷ output (mem_name m (codes "wa")) m.address ∷ output (mem_name m (codes "wd")) m.width ∷ mem_ports ms

abbrev pub index_port : Group → Option FilePort → List Port
index_port g None = []
index_port g (Some port) = output (group_name g (codes "x")) port.index ∷ []

abbrev pub group_ports : List Group → List Port
group_ports [] = []
group_ports (g ∷ gs) = (output (group_name g (codes "e")) 1 ∷ index_port g g.port) ++ output (group_name g (codes "v")) g.width ∷ group_ports gs

-- the ports of a top module, in their order
abbrev pub ports_of : Outside → List Port
ports_of o = (output (codes "iaddr") o.address ∷ input (codes "idata") o.word ∷ input (codes "mwait") 1 ∷ input_ports o.inputs)
    ++ mem_ports o.mems ++ (output (codes "stall") 1 ∷ output (codes "kill") 1 ∷ group_ports o.groups)
