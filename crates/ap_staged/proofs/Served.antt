-- A stage that was made, as it was started and served.
use Rattle.ap_staged.specs.Served.{StagedAreServed}

pub staged_served : StagedAreServed
staged_served design stage table choices supplies order modules shared own old new d ground courses nodes h later = record {
  started = h.begins.started;
  between = h.grows;
  later = later;
  are = h.all.are;
  same = h.same;
  full = h.all.full;
  only = h.uses;
  ports = h.all.served;
}
