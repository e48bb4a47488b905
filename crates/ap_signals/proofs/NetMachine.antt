-- A netlist whose signals meet the border is the machine.
use Rattle.std.proofs.Common.{◌≡◌, ℕ, ◌+◌, ◌≤◌, ◌<◌, List, [], ◌∷◌, length, map, refl, ap, ◌∙◌, arith, leb-true}
use Rattle.std.proofs.lemmas.Bool.{and_parts}
use Rattle.ap_bits.specs.declared.card.Card.{Card}
use Rattle.ap_desc.specs.Clean.{FitsCards}
use Rattle.ap_desc.specs.declared.design.Design.{Design}
use Rattle.ap_desc.specs.declared.design.InPort.{InPort as Input}
use Rattle.ap_image.specs.FitsShape.{line_at}
use Rattle.ap_image.specs.declared.image.Image.{Image}
use Rattle.ap_image.specs.declared.trace.Trace.{Trace}
use Rattle.ap_model.specs.Cycles.{inputs_at, over}
use Rattle.ap_model.specs.ShownRows.{row}
use Rattle.ap_net.specs.Flat.{register_named}
use Rattle.ap_net.specs.Outside.{InPort, Outside, shape_of}
use Rattle.ap_net.specs.Rows as net
use Rattle.ap_net.specs.Runs.{Runs}
use Rattle.ap_cycle.specs.Circuit.{IsCircuit}
use Rattle.ap_cycle.proofs.Circuits.{circuit_holds, circuit_rows}
use Rattle.ap_signals.specs.DesignOutside.{outside_of}
use Rattle.ap_signals.specs.KeptNets.{HasRegisters, KeepsMachine}
use Rattle.ap_signals.specs.NetRuns.{NetRun, held_value, taken_value}
use Rattle.ap_signals.specs.NetSignals.{net_signals}
use Rattle.ap_signals.proofs.NetRows.{net_rows}
use Rattle.ap_signals.proofs.NetStates.{net_keeps}

map_twice : {X Y Z : Type 0} (g : Y → Z) (f : X → Y) (xs : List X) → map g (map f xs) ≡ map (λ x. g (f x)) xs
map_twice g f [] = refl
map_twice g f (x ∷ xs) = ap (λ rest. g (f x) ∷ rest) (map_twice g f xs)

-- the netlist is given the inputs that the machine is given
pub same_inputs : (design : Design) (trace : Trace) (j : ℕ) → line_at trace (shape_of (outside_of design)).inputs j ≡ inputs_at design trace j
same_inputs design trace j = ap (λ widths. line_at trace widths j) (map_twice (λ (p : InPort). p.width) (λ (p : Input). record { name = p.name; width = p.width }) design.inputs)

pub net_keeps_machine : (design : Design) (cards : List Card) (image : Image) (trace : Trace) (c : ℕ) (run : NetRun) → FitsCards design cards → length image.mems ≡ length design.mems → HasRegisters design run.flat
    → IsCircuit design cards image trace c (net_signals design run) → (j : ℕ) → j ≤ c → KeepsMachine design run.flat (run.states j) (over design cards image trace j)
net_keeps_machine design cards image trace c run fits memories has circuit j below =
    let stages : 2 ≤ design.stages = leb-true _ _ (and_parts _ _ fits.clean.sound.within.stages).0 in
    net_keeps design run j (over design cards image trace j) (omega (arith, stages)) has (circuit_holds design cards image trace c (net_signals design run) fits memories circuit j below)

pub net_shows_machine : (design : Design) (cards : List Card) (image : Image) (trace : Trace) (c : ℕ) (run : NetRun) → FitsCards design cards → length image.mems ≡ length design.mems
    → IsCircuit design cards image trace c (net_signals design run) → (j : ℕ) → j < c → net.shown_row (outside_of design) run.flat (run.values j) ≡ row design cards image trace j
net_shows_machine design cards image trace c run fits memories circuit j below = net_rows design run j ∙ circuit_rows design cards image trace c (net_signals design run) fits memories circuit j below

-- a register holds in the next cycle what it took at the edge
pub taken_is_held : (o : Outside) (image : Image) (trace : Trace) (c : ℕ) (run : NetRun) → Runs o run.flat image trace c run.states run.values → (j : ℕ) → j < c → (name : List ℕ) → held_value run (j + 1) name ≡ taken_value run j name
taken_is_held o image trace c run runs j below name = ap (λ registers. register_named run.flat registers name) (runs.goes j below).after
