-- What the outside of a processor gives the ports of top in a cycle, by their numbers: the code memory and the data memories answer
-- in the same cycle, the inputs have the values of the trace. From it and from readiness there is a run for every image, trace and
-- number of cycles.
use Rattle.std.specs.Prelude.{◌≡◌, ℕ, ◌+◌, List, [], ◌∷◌, ◌++◌, length, map, slice_get, slice_index, Some}
use Rattle.std.specs.List.{AllByRecursion as Each}
use Rattle.ap_image.specs.declared.shape.MemShape.{MemShape}
use Rattle.ap_image.specs.declared.image.Image.{Image}
use Rattle.ap_image.specs.declared.trace.Trace.{Trace}
use Rattle.ap_image.specs.declared.trace.TraceLine.{TraceLine}
use Rattle.ap_image.specs.FitsShape.{ImageFitsShape, TraceFitsShape, MemsFit, line_at}
use Rattle.ap_net.specs.Modules.{ModuleText, IsNetlist}
use Rattle.ap_net.specs.Opened.{AreOrdered}
use Rattle.ap_net.specs.Flat.{Flat, opened_over}
use Rattle.ap_net.specs.Finished.{IsFinished}
use Rattle.ap_net.specs.Draft.{Draft, IsKept}
use Rattle.ap_net.specs.Outside.{Outside, InPort, ports_of, shape_of}
use Rattle.ap_net.specs.Registers.{RegistersFit}
use Rattle.ap_net.specs.Runs.{NetState, Cycle, Runs, bit, reset_state}
use Rattle.ap_net.specs.Ready.{Dependence, AllReady}
use Rattle.ap_net.specs.Pending.{Among}
use Rattle.ap_net.specs.Responding.{AreDependent, looked_in}

-- the address of the code memory is the first port
abbrev pub address_port : ℕ
address_port = 0

-- the ports of memories follow those of the code memory, mwait and the inputs
abbrev pub first_mem_port : Outside → ℕ
first_mem_port o = 3 + length o.inputs

-- what the ports of memories are given, which are numbered from n on, where read gives the nets' numbers; an output is given 0
abbrev pub mem_gives : (ℕ → ℕ) → ℕ → List MemShape → List (List ℕ) → List ℕ
mem_gives read n [] mems = []
mem_gives read n (m ∷ ms) [] = []
mem_gives read n (m ∷ ms) (words ∷ mems) = 0 ∷ slice_index words (read n) ∷ 0 ∷ 0 ∷ 0 ∷ mem_gives read (n + 5) ms mems

-- what the ports of top are given, the memories' words being these
abbrev pub port_gives : Outside → List ℕ → TraceLine → List (List ℕ) → (ℕ → ℕ) → List ℕ
port_gives o code line mems read = (0 ∷ slice_index code (read address_port) ∷ bit line.wait ∷ line.ports) ++ mem_gives read (first_mem_port o) o.mems mems

-- at which ports the outside looks for each port
abbrev pub mem_looks : ℕ → List MemShape → List (List ℕ)
mem_looks n [] = []
mem_looks n (m ∷ ms) = [] ∷ (n ∷ []) ∷ [] ∷ [] ∷ [] ∷ mem_looks (n + 5) ms

abbrev pub port_looks : Outside → List (List ℕ)
port_looks o = ([] ∷ (address_port ∷ []) ∷ [] ∷ map (λ (p : InPort). []) o.inputs) ++ mem_looks (first_mem_port o) o.mems

-- it looks at no other nets than these
abbrev pub LooksByPorts : Outside → (ℕ → List ℕ) → Type 0
LooksByPorts o looked = (n : ℕ) (ports : List ℕ) → slice_get (port_looks o) n ≡ Some ports → Each (Among (looked n)) ports

-- what registers and memories hold fits them
pub record StateFits (o : Outside) (f : Flat) (s : NetState) : Type 0 where
  pub registers : RegistersFit f.nexts s.registers
  pub mems : MemsFit s.mems o.mems

-- one cycle on this line from the state old
pub record GoesOn (o : Outside) (f : Flat) (code : List ℕ) (line : TraceLine) (old : NetState) : Type 0 where
  pub valuation : List ℕ
  pub new : NetState
  pub cycle : Cycle o f code line old valuation new
  pub fits : StateFits o f new

-- where one cycle goes on from each state that fits, there are runs of any length
abbrev pub CyclesRun : Type 0
CyclesRun = (o : Outside) (f : Flat) (image : Image) (trace : Trace) → StateFits o f (reset_state f image)
    → ((j : ℕ) (old : NetState) → StateFits o f old → GoesOn o f image.code (line_at trace (shape_of o).inputs j) old)
    → (c : ℕ) → (states : ℕ → NetState) × (valuations : ℕ → List ℕ) × Runs o f image trace c states valuations

-- there is a run for every image, trace and number of cycles
abbrev pub AlwaysRuns : Outside → Flat → Type 0
AlwaysRuns o f = (image : Image) (trace : Trace) (c : ℕ) → ImageFitsShape image (shape_of o) → TraceFitsShape trace (shape_of o)
    → (states : ℕ → NetState) × (valuations : ℕ → List ℕ) × Runs o f image trace c states valuations

-- Where every net of a draft is ready, its module runs over these modules, if it has the ports of the outside, and the outside looks
-- at no other nets than was said.
abbrev pub ReadyRun : Type 0
ReadyRun = (by : Dependence) (d : Draft) → IsKept d → AllReady by d → (m : ModuleText) (modules : List ModuleText) (fin : IsFinished d m) → IsNetlist (modules ++ m ∷ []) → AreOrdered modules → AreDependent by modules
    → (o : Outside) → m.ports ≡ ports_of o → LooksByPorts o (looked_in m fin.place fin.back by.looks) → AlwaysRuns o (opened_over modules m)
