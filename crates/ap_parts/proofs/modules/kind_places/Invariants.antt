use Rattle.std.proofs.Common.{◌≡◌, [], take}
use Rattle.ap_ctl.specs.Lists.{EachPair}
use Rattle.ap_parts.specs.Parts.{StandsAt, kinds_of}
use Rattle.ap_parts.proofs.modules.kind_places.Given as goal

abbrev pub invariant-loop-unit : goal.invariant-loop-unit
invariant-loop-unit l = record {
  kinds : l.kinds ≡ kinds_of [] (take l.unit-index l.units);
  places : EachPair (StandsAt l.kinds) (take l.unit-index l.units) l.places;
}
