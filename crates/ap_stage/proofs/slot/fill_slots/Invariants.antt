use Rattle.std.proofs.Common.{◌≡◌, ℕ, ◌<◌, Some}
use Rattle.std.specs.Prelude.{slice_get}
use Rattle.ap_net.specs.Making.{Makes}
use Rattle.ap_stage.specs.declared.slot.Stored.{Stored}
use Rattle.ap_stage.specs.Slots.{HasStored}
use Rattle.ap_stage.specs.Sources.{IsRow}
use Rattle.ap_stage.proofs.Slotted.{IsAround}
use Rattle.ap_stage.proofs.slot.fill_slots.Given as goal

abbrev pub invariant-loop-one : goal.invariant-loop-one
invariant-loop-one l = record {
  is_row : IsRow l.out.nets l.scope l.row;
  has : (k : ℕ) (s : Stored) → k < l.one-index → slice_get l.stored k ≡ Some s → HasStored l.out l.scope l.row s;
  slots : IsAround l.stored l.one-index l.fn.out l.fn.row l.out l.row;
  makes : Makes l.fn.out l.out;
}
