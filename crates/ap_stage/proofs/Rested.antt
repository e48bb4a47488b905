-- Late wires leave what is pending.
use Rattle.std.proofs.Common.{ℕ, ◌<◌, ◌≤◌, List, [], ◌∷◌, length, ⊎_elim}
use Rattle.std.specs.List.{AllByRecursion as Each}
use Rattle.std.proofs.lemmas.Bool.{cases_lt}
use Rattle.ap_net.specs.declared.cell.Wire.{Wire}
use Rattle.ap_net.specs.Draft.{Draft}
use Rattle.ap_net.specs.Ready.{Dependence, ReadyAfter, numbers}
use Rattle.ap_net.proofs.Laws.{Extends-refl}
use Rattle.ap_stage.specs.Reads.{AreReadyAfter}
use Rattle.ap_stage.specs.Resting.{LateWiresLeave, RestedAreReady}
use Rattle.ap_stage.specs.Served.{stage_wires}
use Rattle.ap_stage.proofs.Ported.{given_ready}

each_number : (by : Dependence) (d : Draft) (base : List ℕ) (wires : List Wire) → Each (λ (w : Wire). ReadyAfter by d base w.number) wires → AreReadyAfter by d base (numbers wires)
each_number by d base [] h = tt
each_number by d base (w ∷ wires) h = (h.0, each_number by d base wires h.1)

pub late_wires_leave : LateWiresLeave
late_wires_leave by pending ground nodes old new courses served e rests rows ready stays n lt =
    let made = stays by pending rows ready in
    ⊎_elim (λ (low : n < length old.nets). given_ready by pending (numbers (stage_wires nodes)) old new n e (rests n low) (each_number by new pending (stage_wires nodes) made.wires))
    (λ (high : length old.nets ≤ n). made.came n high lt) (cases_lt n (length old.nets))

pub rested_are_ready : RestedAreReady
rested_are_ready by d h n lt = h n lt d (Extends-refl d) tt
