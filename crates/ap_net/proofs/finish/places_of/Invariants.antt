use Rattle.std.proofs.Common.{◌≡◌, ◌+◌, ◌<◌, ℕ, take, length, Some}
use Rattle.std.specs.Prelude.{slice_get, slice_index}
use Rattle.ap_net.specs.declared.net.ModuleNet.{ModuleNet}
use Rattle.ap_net.specs.Draft.{wire_count}
use Rattle.ap_net.specs.Places.{port_count, register_count, place_by}
use Rattle.ap_net.proofs.finish.places_of.Given as goal

-- the free numbers go with the nets that were passed, and each of those has its number
abbrev pub invariant-loop-net : goal.invariant-loop-net
invariant-loop-net l = record {
  port : l.free.port ≡ port_count (take l.net-index l.nets);
  wire : l.free.wire ≡ port_count l.nets + wire_count (take l.net-index l.nets);
  register : l.free.register ≡ (port_count l.nets + wire_count l.nets) + register_count (take l.net-index l.nets);
  length : length l.places.items ≡ l.net-index;
  each : (n : ℕ) (net : ModuleNet) → n < l.net-index → slice_get l.nets n ≡ Some net → slice_index l.places.items n ≡ place_by net.role l.nets n;
}
