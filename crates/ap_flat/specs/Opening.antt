-- What is opened so far: the parts that were placed.
use Rattle.std.specs.Prelude.{ℕ, ◌+◌, Bool, true, false, [], ◌∷◌, ◌++◌, length, map}
use Rattle.ap_net.specs.declared.net.ModuleNet.{ModuleNet}
use Rattle.ap_net.specs.declared.net.FlatNet.{FlatNet}
use Rattle.ap_net.specs.declared.net.Instance.{Instance}
use Rattle.ap_net.specs.declared.net.Role.{Role}
use Rattle.ap_net.specs.Modules.{ModuleText, nets_of, assign_placed, next_placed}
use Rattle.ap_net.specs.Flat.{Flat, inner_role, joins_from}

-- what a net of top, or one of an instance, is in the whole
abbrev pub role_in : Bool → Role → Role
role_in true role = role
role_in false role = inner_role role

-- the net in its part
abbrev pub net_in : Bool → ℕ → ModuleNet → FlatNet
net_in top part net = record { part = part; name = net.name; width = net.width; role = role_in top net.role }

-- nothing is opened
abbrev pub nothing : Flat
nothing = record { parts = []; nets = []; assigns = []; nexts = []; joins = [] }

-- with the module top
abbrev pub with_top : ModuleText → Flat
with_top m = record {
  parts = m.name ∷ [];
  nets = map (net_in true 0) (nets_of m);
  assigns = m.assigns;
  nexts = m.nexts;
  joins = [];
}

-- with an instance of a module as the last part
abbrev pub with_part : ModuleText → Instance → Flat → Flat
with_part m i f = record {
  parts = f.parts ++ i.name ∷ [];
  nets = f.nets ++ map (net_in false (length f.parts)) (nets_of m);
  assigns = f.assigns ++ map (assign_placed (λ n. length f.nets + n)) m.assigns;
  nexts = f.nexts ++ map (next_placed (λ n. length f.nets + n)) m.nexts;
  joins = f.joins ++ joins_from (length f.nets) i.drives i.nets;
}
