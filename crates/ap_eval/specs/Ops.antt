-- What an operation on the values of nets gives, and which operations compute an opened netlist.
use Rattle.std.specs.Prelude.{◌≡◌, ℕ, ◌+◌, ◌-◌, ◌*◌, ◌/◌, ◌%◌, ◌^◌, ◌<◌, ◌≤◌, ◌==◌, ◌&&◌, nat_lt, nat_le, List, [], ◌∷◌, ◌++◌, length, bit_and, bit_or, bit_xor, Option, Some, None, map, slice_get, slice_index, set, if◌then◌else◌}
use Rattle.ap_net.specs.declared.cell.TwoOp.{TwoOp}
use Rattle.ap_net.specs.declared.cell.TwoOp.TheVariants as two
use Rattle.ap_net.specs.declared.cell.Cell.{Cell}
use Rattle.ap_net.specs.declared.cell.Cell.TheVariants as cell
use Rattle.ap_net.specs.declared.net.FlatNet.{FlatNet}
use Rattle.ap_net.specs.Answering.{first_mem_port}
use Rattle.ap_net.specs.Flat.{reset_in}
use Rattle.ap_flat.specs.Flats.{FlatParts}
use Rattle.ap_flat.specs.declared.driver.Driver.{Driver}
use Rattle.ap_flat.specs.declared.driver.Driver.TheVariants as driver
use Rattle.ap_image.specs.declared.trace.TraceLine.{TraceLine}
use Rattle.ap_image.specs.Words.{with_word}
use Rattle.ap_net.specs.Runs.{bit}
use Rattle.ap_net.specs.declared.net.Next.{Next}
use Rattle.ap_eval.specs.Cells.{Cells, word_in}
use Rattle.ap_eval.specs.declared.op.Op.{Op}
use Rattle.ap_eval.specs.declared.op.Shape.{Shape}
use Rattle.ap_eval.specs.declared.op.Shape.TheVariants as shape

-- The value that an operation gives in 64 bits, where read gives the value of each net and load the word of a memory at an address.
abbrev pub shape_value : (ℕ → ℕ) → (ℕ → ℕ → ℕ) → Shape → ℕ
shape_value read load (shape.Not a mask) = mask - read a
shape_value read load (shape.Add a b mask) = bit_and ((read a + read b) % 2 ^ 64) mask
shape_value read load (shape.Sub a b mask) = bit_and ((read a + (2 ^ 64 - read b)) % 2 ^ 64) mask
shape_value read load (shape.And a b) = bit_and (read a) (read b)
shape_value read load (shape.Or a b) = bit_or (read a) (read b)
shape_value read load (shape.Xor a b) = bit_xor (read a) (read b)
shape_value read load (shape.Eq a b) = if read a == read b then 1 else 0
shape_value read load (shape.Ltu a b) = if nat_lt (read a) (read b) then 1 else 0
shape_value read load (shape.Choose s a b) = if read s == 1 then read a else read b
shape_value read load (shape.Cat a b bits) = bit_or (read a * 2 ^ bits % 2 ^ 64) (read b)
shape_value read load (shape.Slice a low mask) = bit_and (read a / 2 ^ low) mask
shape_value read load (shape.Load memory address) = load memory (read address)

-- what it reads is there, of so many nets and memories, and it shifts by less than 64
abbrev pub ShapeFits : ℕ → ℕ → Shape → Type 0
ShapeFits nets memories (shape.Not a mask) = a < nets
ShapeFits nets memories (shape.Add a b mask) = (a < nets) × (b < nets)
ShapeFits nets memories (shape.Sub a b mask) = (a < nets) × (b < nets)
ShapeFits nets memories (shape.And a b) = (a < nets) × (b < nets)
ShapeFits nets memories (shape.Or a b) = (a < nets) × (b < nets)
ShapeFits nets memories (shape.Xor a b) = (a < nets) × (b < nets)
ShapeFits nets memories (shape.Eq a b) = (a < nets) × (b < nets)
ShapeFits nets memories (shape.Ltu a b) = (a < nets) × (b < nets)
ShapeFits nets memories (shape.Choose s a b) = (s < nets) × (a < nets) × (b < nets)
ShapeFits nets memories (shape.Cat a b bits) = (a < nets) × (b < nets) × (bits < 64)
ShapeFits nets memories (shape.Slice a low mask) = (a < nets) × (low < 64)
ShapeFits nets memories (shape.Load memory address) = (memory < memories) × (address < nets)

pub record OpFits (nets memories : ℕ) (o : Op) : Type 0 where
  pub to : o.to < nets
  pub reads : ShapeFits nets memories o.shape

-- the word of a memory at an address
abbrev pub load_of : List Cells → ℕ → ℕ → ℕ
load_of memories memory address = word_in (slice_get memories memory) address

-- the values after these operations, one after another
abbrev pub computed : (ℕ → ℕ → ℕ) → List Op → List ℕ → List ℕ
computed load [] values = values
computed load (o ∷ ops) values = computed load ops (set values o.to (shape_value (slice_index values) load o.shape))

-- Where the value of each net stands: at the net itself, and that of a copy where the copied net's stands.
abbrev pub root_by : List ℕ → ℕ → Driver → ℕ
root_by roots n driver.Given = n
root_by roots n (driver.Looks m) = n
root_by roots n (driver.Equation (cell.Const c)) = n
root_by roots n (driver.Equation (cell.Copy w)) = slice_index roots w.number
root_by roots n (driver.Equation (cell.Not a)) = n
root_by roots n (driver.Equation (cell.Two o a b)) = n
root_by roots n (driver.Equation (cell.Choose s a b)) = n
root_by roots n (driver.Equation (cell.Cat a b)) = n
root_by roots n (driver.Equation (cell.Slice a h l)) = n

-- what it copies, if it copies, is among so many nets
abbrev pub SourceIsWithin : ℕ → Driver → Type 0
SourceIsWithin nets driver.Given = Unit {0}
SourceIsWithin nets (driver.Looks m) = Unit {0}
SourceIsWithin nets (driver.Equation (cell.Const c)) = Unit {0}
SourceIsWithin nets (driver.Equation (cell.Copy w)) = w.number < nets
SourceIsWithin nets (driver.Equation (cell.Not a)) = Unit {0}
SourceIsWithin nets (driver.Equation (cell.Two o a b)) = Unit {0}
SourceIsWithin nets (driver.Equation (cell.Choose s a b)) = Unit {0}
SourceIsWithin nets (driver.Equation (cell.Cat a b)) = Unit {0}
SourceIsWithin nets (driver.Equation (cell.Slice a h l)) = Unit {0}

pub record AreRoots (drivers : List Driver) (roots : List ℕ) : Type 0 where
  pub long : length roots ≡ length drivers
  pub each : (n : ℕ) (by : Driver) → slice_get drivers n ≡ Some by → slice_index roots n ≡ root_by roots n by

-- the mask of so many bits
abbrev pub mask_of : ℕ → ℕ
mask_of width = 2 ^ width - 1

abbrev pub two_shape : TwoOp → ℕ → ℕ → ℕ → Shape
two_shape two.Add mask a b = shape.Add a b mask
two_shape two.Sub mask a b = shape.Sub a b mask
two_shape two.And mask a b = shape.And a b
two_shape two.Or mask a b = shape.Or a b
two_shape two.Xor mask a b = shape.Xor a b
two_shape two.Eq mask a b = shape.Eq a b
two_shape two.Ltu mask a b = shape.Ltu a b

-- what computes a cell whose result has so many bits; a constant and a copy need nothing
abbrev pub cell_shape : List ℕ → ℕ → Cell → Option Shape
cell_shape roots width (cell.Const c) = None
cell_shape roots width (cell.Copy w) = None
cell_shape roots width (cell.Not a) = Some (shape.Not (slice_index roots a.number) (mask_of width))
cell_shape roots width (cell.Two o a b) = Some (two_shape o (mask_of width) (slice_index roots a.number) (slice_index roots b.number))
cell_shape roots width (cell.Choose s a b) = Some (shape.Choose (slice_index roots s.number) (slice_index roots a.number) (slice_index roots b.number))
cell_shape roots width (cell.Cat a b) = Some (shape.Cat (slice_index roots a.number) (slice_index roots b.number) b.width)
cell_shape roots width (cell.Slice a h l) = Some (shape.Slice (slice_index roots a.number) l (mask_of width))

-- the operands are among so many nets
abbrev pub CellReads : ℕ → Cell → Type 0
CellReads nets (cell.Const c) = Unit {0}
CellReads nets (cell.Copy w) = w.number < nets
CellReads nets (cell.Not a) = a.number < nets
CellReads nets (cell.Two o a b) = (a.number < nets) × (b.number < nets)
CellReads nets (cell.Choose s a b) = (s.number < nets) × (a.number < nets) × (b.number < nets)
CellReads nets (cell.Cat a b) = (a.number < nets) × (b.number < nets)
CellReads nets (cell.Slice a h l) = a.number < nets

-- of a cell's result of so many bits
abbrev pub DriverReads : ℕ → ℕ → Driver → Type 0
DriverReads nets width driver.Given = Unit {0}
DriverReads nets width (driver.Looks m) = Unit {0}
DriverReads nets width (driver.Equation c) = (1 ≤ width) × (width ≤ 64) × CellReads nets c

-- the memory whose word stands at this port, of so many data memories whose ports begin at `first`: the code memory is 0
abbrev pub memory_at : ℕ → ℕ → ℕ → Option ℕ
memory_at first count n = if n == 1 then Some 0 else (if nat_le first n && nat_lt n (first + 5 * count) && (n - first) % 5 == 1 then Some ((n - first) / 5 + 1) else None)

abbrev pub width_of : Option FlatNet → ℕ
width_of None = 1
width_of (Some net) = net.width

abbrev pub driver_shape : List ℕ → ℕ → Option Driver → Option Shape
driver_shape roots width None = None
driver_shape roots width (Some driver.Given) = None
driver_shape roots width (Some (driver.Looks m)) = None
driver_shape roots width (Some (driver.Equation c)) = cell_shape roots width c

-- a word stands at the port after the one that gives its address
abbrev pub net_shape : FlatParts → List ℕ → ℕ → Option ℕ → Option Shape
net_shape f roots n None = driver_shape roots (width_of (slice_get f.net.nets n)) (slice_get f.drivers n)
net_shape f roots n (Some memory) = Some (shape.Load memory (slice_index roots (n - 1)))

-- what computes a net; nothing where the outside or a clock edge gives it, or it is a constant or a copy
abbrev pub shape_of_net : FlatParts → List ℕ → ℕ → Option Shape
shape_of_net f roots n = net_shape f roots n (memory_at (first_mem_port f.outside) (length f.outside.mems) n)

abbrev pub op_list : ℕ → Option Shape → List Op
op_list n None = []
op_list n (Some s) = record { to = n; shape = s } ∷ []

-- the operations of these nets, one after another
abbrev pub ops_of : FlatParts → List ℕ → List ℕ → List Op
ops_of f roots [] = []
ops_of f roots (n ∷ order) = op_list n (shape_of_net f roots n) ++ ops_of f roots order

-- the value of a constant, and 0 for what is none
abbrev pub constant_of : Option Driver → ℕ
constant_of None = 0
constant_of (Some driver.Given) = 0
constant_of (Some (driver.Looks m)) = 0
constant_of (Some (driver.Equation (cell.Const c))) = c
constant_of (Some (driver.Equation (cell.Copy w))) = 0
constant_of (Some (driver.Equation (cell.Not a))) = 0
constant_of (Some (driver.Equation (cell.Two o a b))) = 0
constant_of (Some (driver.Equation (cell.Choose s a b))) = 0
constant_of (Some (driver.Equation (cell.Cat a b))) = 0
constant_of (Some (driver.Equation (cell.Slice a h l))) = 0

-- the plan of a netlist
pub record IsPlan (f : FlatParts) (roots : List ℕ) (ops : List Op) : Type 0 where
  pub rooted : AreRoots f.drivers roots
  pub listed : ops ≡ ops_of f roots f.order

-- the values with those of a trace's line at the ports of the inputs, from number n on
abbrev pub put_from : ℕ → List ℕ → List ℕ → List ℕ
put_from n [] values = values
put_from n (x ∷ xs) values = put_from (n + 1) xs (set values n x)

abbrev pub with_inputs : TraceLine → List ℕ → List ℕ
with_inputs line values = put_from 3 line.ports (set values 2 (bit line.wait))

-- the values with these at the registers
abbrev pub give_all : List Next → List ℕ → List ℕ → List ℕ
give_all [] taken values = values
give_all (x ∷ nexts) [] values = values
give_all (x ∷ nexts) (y ∷ taken) values = give_all nexts taken (set values x.register.number y)

-- a data memory after the edge, whose ports begin with this one
abbrev pub cells_after : (ℕ → ℕ) → ℕ → Cells → Cells
cells_after read port m = record { room = m.room; words = if read (port + 2) == 1 then with_word m.words (read (port + 3)) (read (port + 4)) else m.words }

abbrev pub data_after : (ℕ → ℕ) → ℕ → List Cells → List Cells
data_after read port [] = []
data_after read port (m ∷ memories) = cells_after read port m ∷ data_after read (port + 5) memories

-- the code memory isn't written
abbrev pub memories_after : (ℕ → ℕ) → ℕ → List Cells → List Cells
memories_after read port [] = []
memories_after read port (m ∷ memories) = m ∷ data_after read port memories

-- the net is among so many, and so is that at which its value stands
pub record IsWithin (roots : List ℕ) (nets n : ℕ) : Type 0 where
  pub here : n < length roots
  pub there : slice_index roots n < nets

-- the values before the first cycle: those of constants, and what registers that are driven hold after the reset edge
abbrev pub first_values : FlatParts → List ℕ
first_values f = give_all f.net.nexts (map (λ (x : Next). reset_in f.net x.register.number) f.net.nexts) (map (λ (d : Driver). constant_of (Some d)) f.drivers)
