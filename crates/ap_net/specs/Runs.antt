-- Runs of a netlist in its environment: memories that answer in the same cycle and take a write at the edge.
use Rattle.std.specs.Prelude.{◌≡◌, ℕ, ◌+◌, ◌<◌, ◌==◌, List, [], ◌∷◌, map, codes, slice_index, Bool, if◌then◌else◌}
use Rattle.ap_net.specs.declared.net.FlatNet.{FlatNet}
use Rattle.ap_net.specs.Flat.{Flat, Solves, value_named, reset_in}
use Rattle.ap_image.specs.declared.shape.MemShape.{MemShape}
use Rattle.ap_image.specs.declared.image.Image.{Image}
use Rattle.ap_image.specs.declared.trace.TraceLine.{TraceLine}
use Rattle.ap_image.specs.declared.trace.Trace.{Trace}
use Rattle.ap_image.specs.FitsShape.{line_at}
use Rattle.ap_image.specs.Words.{with_word}
use Rattle.ap_net.specs.Outside.{Outside, InPort, shape_of, input_name, mem_name}

-- what a netlist holds between two cycles: a number for each register, in the order of their drivers, and the memories
pub record NetState : Type 0 where
  pub registers : List ℕ
  pub mems : List (List ℕ)

-- after the reset edge each register has its reset value, and the memories are those of the image
abbrev pub reset_state : Flat → Image → NetState
reset_state f image = record { registers = map (λ x. reset_in f x.register.number) f.nexts; mems = image.mems }

abbrev pub bit : Bool → ℕ
bit b = if b then 1 else 0

-- the inputs have the values of the trace's line
abbrev pub InputsAre : List FlatNet → List ℕ → List InPort → List ℕ → Type 0
InputsAre nets v [] values = Unit {0}
InputsAre nets v (p ∷ ps) [] = ⊥
InputsAre nets v (p ∷ ps) (x ∷ xs) = (value_named nets v (input_name p) ≡ x) × InputsAre nets v ps xs

-- each memory answers in the same cycle with the word at the address that is read
abbrev pub MemsAnswer : List FlatNet → List ℕ → List MemShape → List (List ℕ) → Type 0
MemsAnswer nets v [] mems = Unit {0}
MemsAnswer nets v (m ∷ ms) [] = ⊥
MemsAnswer nets v (m ∷ ms) (words ∷ mems) = (value_named nets v (mem_name m (codes "rd")) ≡ slice_index words (value_named nets v (mem_name m (codes "ra")))) × MemsAnswer nets v ms mems

-- at the edge a memory takes the word that is written, where its enable is 1
abbrev pub mem_after : List FlatNet → List ℕ → MemShape → List ℕ → List ℕ
mem_after nets v m words = if value_named nets v (mem_name m (codes "we")) == 1
    then with_word words (value_named nets v (mem_name m (codes "wa"))) (value_named nets v (mem_name m (codes "wd"))) else words

abbrev pub mems_after : List FlatNet → List ℕ → List MemShape → List (List ℕ) → List (List ℕ)
mems_after nets v [] mems = []
mems_after nets v (m ∷ ms) [] = []
mems_after nets v (m ∷ ms) (words ∷ mems) = mem_after nets v m words ∷ mems_after nets v ms mems

-- One cycle: from the state old, by the solution v, to the state new. The code memory answers in the same cycle.
pub record Cycle (o : Outside) (f : Flat) (code : List ℕ) (line : TraceLine) (old : NetState) (v : List ℕ) (new : NetState) : Type 0 where
  pub solves : Solves f v
  pub registers : map (λ x. slice_index v x.register.number) f.nexts ≡ old.registers
  pub fetch : value_named f.nets v (codes "idata") ≡ slice_index code (value_named f.nets v (codes "iaddr"))
  pub wait : value_named f.nets v (codes "mwait") ≡ bit line.wait
  pub inputs : InputsAre f.nets v o.inputs line.ports
  pub reads : MemsAnswer f.nets v o.mems old.mems
  pub after : new.registers ≡ map (λ x. slice_index v x.from.number) f.nexts
  pub writes : new.mems ≡ mems_after f.nets v o.mems old.mems

-- A run of c cycles on an image and a trace: the state before each cycle, and the solution of each cycle.
pub record Runs (o : Outside) (f : Flat) (image : Image) (trace : Trace) (c : ℕ) (states : ℕ → NetState) (valuations : ℕ → List ℕ) : Type 0 where
  pub starts : states 0 ≡ reset_state f image
  pub goes : (j : ℕ) → j < c → Cycle o f image.code (line_at trace (shape_of o).inputs j) (states j) (valuations j) (states (j + 1))
