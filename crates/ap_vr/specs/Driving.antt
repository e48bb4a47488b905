-- Lines that drive what they may not, and nets that nothing drives. These are the project's own rules.
use Rattle.std.specs.Prelude.{ℕ, ◌+◌, ◌==◌, ◌||◌, ◌&&◌, nat_lt, not, Bool, true, false, List, [], ◌∷◌, ◌++◌, length, map, Option, Some, None, option_map, if◌then◌else◌}
use Rattle.std.specs.Option.{option_map_or, option_or}
use Rattle.ap_net.specs.declared.net.Port.{Port}
use Rattle.ap_net.specs.declared.net.Role.{Role}
use Rattle.ap_net.specs.declared.net.Role.TheVariants as role
use Rattle.ap_vr.specs.declared.line.NamedAssign.{NamedAssign}
use Rattle.ap_vr.specs.declared.line.NamedNext.{NamedNext}
use Rattle.ap_vr.specs.declared.line.Connection.{Connection}
use Rattle.ap_vr.specs.declared.line.NamedInstance.{NamedInstance}
use Rattle.ap_vr.specs.declared.module.NamedModule.{NamedModule}
use Rattle.ap_vr.specs.declared.nets.NetForm.{NetForm}
use Rattle.ap_vr.specs.Nets.{form_at, net_forms, number_of}
use Rattle.ap_vr.specs.Scope.{assigns_from, instances_from, nexts_from, usable}

-- a line may drive a net: an always line a register, any other line a wire or an output
abbrev pub may_drive : Bool → Role → Bool
may_drive clocked role.Input = false
may_drive clocked role.Output = not clocked
may_drive clocked role.Plain = not clocked
may_drive clocked (role.Register reset) = clocked

-- which nets are driven, as a test of their numbers: none, and one more, and more of them
abbrev pub none_driven : ℕ → Bool
none_driven n = false

abbrev pub also : (ℕ → Bool) → ℕ → ℕ → Bool
also driven n k = driven k || k == n

abbrev pub also_all : (ℕ → Bool) → List ℕ → ℕ → Bool
also_all driven [] = driven
also_all driven (n ∷ numbers) = also_all (also driven n) numbers

-- a line drives these nets one after another, and one of them is driven already or none that such a line may drive
abbrev pub drives_wrongly : List NetForm → Bool → (ℕ → Bool) → List ℕ → Bool
drives_wrongly forms clocked driven [] = false
drives_wrongly forms clocked driven (n ∷ numbers) = (driven n || not (may_drive clocked (form_at forms n).role)) || drives_wrongly forms clocked (also driven n) numbers

-- the first of some lines, whose numbers begin with this one, that does, and what is driven after all of them
abbrev pub first_wrong : List NetForm → Bool → (ℕ → Bool) → ℕ → List (List ℕ) → Option ℕ
first_wrong forms clocked driven line [] = None
first_wrong forms clocked driven line (numbers ∷ more) = if drives_wrongly forms clocked driven numbers then Some line else first_wrong forms clocked (also_all driven numbers) (line + 1) more

abbrev pub driven_after : (ℕ → Bool) → List (List ℕ) → ℕ → Bool
driven_after driven [] = driven
driven_after driven (line ∷ lines) = driven_after (also_all driven line) lines

-- the nets that an assign, the driver of a register and an instance drive: of an instance those at output ports
abbrev pub assign_drives : (List ℕ → ℕ) → NamedAssign → List ℕ
assign_drives number a = number a.to ∷ []

abbrev pub next_drives : (List ℕ → ℕ) → NamedNext → List ℕ
next_drives number x = number x.register ∷ []

abbrev pub port_drives : (List ℕ → ℕ) → Port → Option Connection → List ℕ
port_drives number p None = []
port_drives number p (Some c) = if p.output then number c.net ∷ [] else []

abbrev pub ports_drive : (List ℕ → ℕ) → List Port → List Connection → List ℕ
ports_drive number [] connections = []
ports_drive number (p ∷ ports) [] = []
ports_drive number (p ∷ ports) (c ∷ connections) = port_drives number p (Some c) ++ ports_drive number ports connections

abbrev pub instance_drives : (List ℕ → Option NamedModule) → (List ℕ → ℕ) → NamedInstance → List ℕ
instance_drives found number i = option_map_or (λ (m : NamedModule). ports_drive number m.ports i.connections) (found i.module) []

-- the lines of a module that drive nets, sort by sort, where the nets have these numbers
abbrev pub assigns_drive : (List ℕ → ℕ) → NamedModule → List (List ℕ)
assigns_drive number m = map (assign_drives number) m.assigns

abbrev pub nexts_drive : (List ℕ → ℕ) → NamedModule → List (List ℕ)
nexts_drive number m = map (next_drives number) m.nexts

abbrev pub instances_drive : (List ℕ → Option NamedModule) → (List ℕ → ℕ) → NamedModule → List (List ℕ)
instances_drive found number m = map (instance_drives found number) m.instances

-- the first line that drives what it may not, where nets have these numbers and forms
abbrev pub wrong_by : (List ℕ → Option NamedModule) → (List ℕ → ℕ) → List NetForm → NamedModule → Option ℕ
wrong_by found number forms m = option_or (option_or (first_wrong forms false none_driven (assigns_from m) (assigns_drive number m))
    (first_wrong forms true (driven_after none_driven (assigns_drive number m)) (nexts_from m) (nexts_drive number m)))
    (first_wrong forms false (driven_after (driven_after none_driven (assigns_drive number m)) (nexts_drive number m)) (instances_from m) (instances_drive found number m))

-- and the nets that all lines drive
abbrev pub all_driven : (List ℕ → Option NamedModule) → (List ℕ → ℕ) → NamedModule → ℕ → Bool
all_driven found number m = driven_after (driven_after (driven_after none_driven (assigns_drive number m)) (nexts_drive number m)) (instances_drive found number m)

-- an input alone needs no driver
abbrev pub needs_driver : Role → Bool
needs_driver role.Input = false
needs_driver role.Output = true
needs_driver role.Plain = true
needs_driver (role.Register reset) = true

-- the number of the first net that needs a driver and has none, where the first of these nets has this number
abbrev pub first_undriven : (ℕ → Bool) → ℕ → List NetForm → Option ℕ
first_undriven driven n [] = None
first_undriven driven n (f ∷ forms) = if needs_driver f.role && not (driven n) then Some n else first_undriven driven (n + 1) forms

-- the line in which the net of this number is declared: the end of the ports has a line
abbrev pub net_line : NamedModule → ℕ → ℕ
net_line m n = m.line + (if nat_lt n (length m.ports) then 3 else 4) + n

-- the first line of a module that drives what it may not, where instances are of modules that are found
unfoldable pub driven_twice_in : (List ℕ → Option NamedModule) → NamedModule → Option ℕ
driven_twice_in found m = wrong_by found (number_of (usable m)) (net_forms m) m

-- the first line that declares a net without a driver
unfoldable pub undriven_in : (List ℕ → Option NamedModule) → NamedModule → Option ℕ
undriven_in found m = option_map (net_line m) (first_undriven (all_driven found (number_of (usable m)) m) 0 (net_forms m))
