-- The transfer: the wire that says that it is taken, and its target.
use Rattle.std.specs.Prelude.{◌≡◌, ◌-◌, List, [], ◌∷◌, Some, slice_get}
use Rattle.ap_desc.specs.declared.design.Design.{Design}
use Rattle.ap_net.specs.declared.cell.Wire.{Wire}
use Rattle.ap_net.specs.Cells.{IsNet}
use Rattle.ap_net.specs.Draft.{Draft}
use Rattle.ap_net.specs.Ready.{Dependence, ReadyAfter}
use Rattle.ap_stages.specs.declared.stage.ServedStage.{ServedStage}
use Rattle.ap_effect.specs.declared.transfer.TransferNets.{TransferNets}
use Rattle.ap_bank.specs.Joins.{JoinsNet}
use Rattle.ap_commit.specs.Written.{IsTransferred}
use Rattle.ap_slow.specs.Driven.{DrivesLate}
use Rattle.ap_act.specs.Acting.{acting}

-- In the stage in which transfers are made their nets were made, where the stage has a word. The wire is driven by the one that says
-- whether the transfer is taken; its target has the bits of a code address. Both follow from what has a word and from the nets of the
-- instructions; nothing else was driven.
pub record TakesTransfer (design : Design) (valid : List Wire) (stages : List ServedStage) (taken target : Wire) (old new : Draft) : Type 0 where
  pub served : ServedStage
  pub served_at : slice_get stages (design.branch - 1) ≡ Some served
  pub bit : Wire
  pub bit_at : slice_get valid (design.branch - 1) ≡ Some bit
  pub made : TransferNets
  pub answered : target ≡ made.target
  pub before : Draft
  pub transferred : IsTransferred before design served.ground served.courses.items bit design.address made
  pub joins : JoinsNet taken made.taken before new
  pub net : IsNet new.nets target
  pub wide : target.width ≡ design.address
  pub drives : DrivesLate (taken.number ∷ []) (acting valid stages) old new
  pub taken_ready : (by : Dependence) → ReadyAfter by new (acting valid stages) taken.number
  pub target_ready : (by : Dependence) → ReadyAfter by new (acting valid stages) target.number
