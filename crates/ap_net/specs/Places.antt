-- The number that a net gets in the finished module: ports come first, then wires, then registers, each kind in the order
-- of its declaration.
use Rattle.std.specs.Prelude.{ℕ, ◌+◌, List, take, count_by, Bool, true, false, if◌then◌else◌}
use Rattle.ap_net.specs.declared.net.Role.{Role}
use Rattle.ap_net.specs.declared.net.Role.TheVariants as role
use Rattle.ap_net.specs.declared.net.ModuleNet.{ModuleNet}
use Rattle.ap_net.specs.Draft.{wire_count}

abbrev pub has_port_role : Role → Bool
has_port_role role.Input = true
has_port_role role.Output = true
has_port_role role.Plain = false
has_port_role (role.Register reset) = false

abbrev pub has_register_role : Role → Bool
has_register_role role.Input = false
has_register_role role.Output = false
has_register_role role.Plain = false
has_register_role (role.Register reset) = true

abbrev pub is_port : ModuleNet → Bool
is_port net = has_port_role net.role

abbrev pub is_register : ModuleNet → Bool
is_register net = has_register_role net.role

-- one more where the test holds
abbrev pub one_more_if : Bool → ℕ → ℕ
one_more_if b n = if b then n + 1 else n

-- the number for a net of this role, where p, w and r are the next free ones of a port, a wire and a register
abbrev pub number_by : Role → ℕ → ℕ → ℕ → ℕ
number_by role.Input p w r = p
number_by role.Output p w r = p
number_by role.Plain p w r = w
number_by (role.Register reset) p w r = r

abbrev pub port_count : List ModuleNet → ℕ
port_count nets = count_by is_port nets

abbrev pub register_count : List ModuleNet → ℕ
register_count nets = count_by is_register nets

-- the number of the net at place n, by its role
abbrev pub place_by : Role → List ModuleNet → ℕ → ℕ
place_by role nets n = number_by role (port_count (take n nets)) (port_count nets + wire_count (take n nets)) ((port_count nets + wire_count nets) + register_count (take n nets))
