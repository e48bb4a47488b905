-- What a caller knows of an opened netlist beside its solutions: instances under other numbers, and where the nets of top stand.
use Rattle.std.proofs.Common.{◌≡◌, ℕ, List, map, Some, ap, ◌∙◌}
use Rattle.std.specs.Prelude.{slice_get, option_map}
use Rattle.std.proofs.lemmas.Option.{slice_get-map}
use Rattle.ap_net.specs.declared.cell.Wire.{Wire}
use Rattle.ap_net.specs.declared.net.ModuleNet.{ModuleNet}
use Rattle.ap_net.specs.declared.net.Instance.{Instance}
use Rattle.ap_net.specs.Modules.{ModuleText, nets_of, IsInstanceIn, placed, instance_placed}
use Rattle.ap_net.specs.Flat.{top_net, part_nets, opened_over}
use Rattle.ap_net.proofs.Lists.{get_left, map-map}

-- an instance over other numbers is of the same module
pub IsInstanceIn-placed : (modules : List ModuleText) (place : ℕ → ℕ) (i : Instance) → IsInstanceIn modules i → IsInstanceIn modules (instance_placed place i)
IsInstanceIn-placed modules place i h = record {
  whole = h.whole;
  found = h.found;
  connects = record { named = (h.connects).named; widths = map-map (placed place) (λ (w : Wire). w.width) i.nets ∙ (h.connects).widths; drives = (h.connects).drives };
}

-- a net of top in the whole
pub top_net_at : (modules : List ModuleText) (top : ModuleText) (n : ℕ) (net : ModuleNet) → slice_get (nets_of top) n ≡ Some net → slice_get (opened_over modules top).nets n ≡ Some (top_net net)
top_net_at modules top n net at = get_left (map top_net (nets_of top)) (part_nets modules 1 top.instances) n (top_net net) (slice_get-map top_net (nets_of top) n ∙ ap (option_map top_net) at)
