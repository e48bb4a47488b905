-- Lines whose widths aren't those that they need. These are the project's own rules.
use Rattle.std.specs.Prelude.{ℕ, ◌+◌, ◌^◌, ◌==◌, ◌&&◌, nat_le, nat_lt, not, Bool, true, List, zip, Option}
use Rattle.std.specs.List.{list_all, position_from}
use Rattle.std.specs.Option.{option_map_or, option_or}
use Rattle.ap_net.specs.declared.cell.TwoOp.{TwoOp}
use Rattle.ap_net.specs.declared.cell.TwoOp.TheVariants as op
use Rattle.ap_net.specs.declared.net.Port.{Port}
use Rattle.ap_vr.specs.declared.line.Right.{Right}
use Rattle.ap_vr.specs.declared.line.Right.TheVariants as right
use Rattle.ap_vr.specs.declared.line.NamedAssign.{NamedAssign}
use Rattle.ap_vr.specs.declared.line.NamedNext.{NamedNext}
use Rattle.ap_vr.specs.declared.line.Connection.{Connection}
use Rattle.ap_vr.specs.declared.line.NamedInstance.{NamedInstance}
use Rattle.ap_vr.specs.declared.module.NamedModule.{NamedModule}
use Rattle.ap_vr.specs.Nets.{net_forms, width_of}
use Rattle.ap_vr.specs.Scope.{assigns_from, instances_from, nexts_from, usable}

-- a comparison gives one bit, any other operator a result as wide as its operands
abbrev pub result_bits : TwoOp → ℕ → ℕ
result_bits op.Add w = w
result_bits op.Sub w = w
result_bits op.And w = w
result_bits op.Or w = w
result_bits op.Xor w = w
result_bits op.Eq w = 1
result_bits op.Ltu w = 1

-- the right side is as its operator needs it for a result of these bits, where width gives the bits of nets by their names
abbrev pub right_fits : (List ℕ → ℕ) → ℕ → Right → Bool
right_fits width bits (right.Const w value) = (w == bits) && nat_lt value (2 ^ w)
right_fits width bits (right.Copy a) = width a == bits
right_fits width bits (right.Not a) = width a == bits
right_fits width bits (right.Two o a b) = (width a == width b) && (result_bits o (width a) == bits)
right_fits width bits (right.Choose s a b) = (width s == 1) && (width a == bits) && (width b == bits)
right_fits width bits (right.Cat a b) = width a + width b == bits
right_fits width bits (right.Slice a h l) = nat_le l h && nat_lt h (width a) && (h + 1 == l + bits)

abbrev pub assign_fits : (List ℕ → ℕ) → NamedAssign → Bool
assign_fits width a = right_fits width (width a.to) a.right

abbrev pub next_fits : (List ℕ → ℕ) → NamedNext → Bool
next_fits width x = (x.width == width x.register) && nat_lt x.reset (2 ^ x.width) && (width x.from == x.width)

-- the net that is connected is as wide as the port
abbrev pub is_as_wide : (List ℕ → ℕ) → Connection × Port → Bool
is_as_wide width q = width q.0.net == q.1.width

abbrev pub connections_fit : (List ℕ → ℕ) → List Connection → List Port → Bool
connections_fit width connections ports = list_all (is_as_wide width) (zip connections ports)

abbrev pub instance_fits : (List ℕ → Option NamedModule) → (List ℕ → ℕ) → NamedInstance → Bool
instance_fits found width i = option_map_or (λ (m : NamedModule). connections_fit width i.connections m.ports) (found i.module) true

-- the first of some lines, whose numbers begin with this one, whose widths differ
abbrev pub misfit_assign : (List ℕ → ℕ) → ℕ → List NamedAssign → Option ℕ
misfit_assign width from assigns = position_from (λ (a : NamedAssign). not (assign_fits width a)) from assigns

abbrev pub misfit_next : (List ℕ → ℕ) → ℕ → List NamedNext → Option ℕ
misfit_next width from nexts = position_from (λ (x : NamedNext). not (next_fits width x)) from nexts

abbrev pub misfit_instance : (List ℕ → Option NamedModule) → (List ℕ → ℕ) → ℕ → List NamedInstance → Option ℕ
misfit_instance found width from instances = position_from (λ (i : NamedInstance). not (instance_fits found width i)) from instances

-- the first line of a module whose widths differ, where instances are of modules that are found
abbrev pub misfit_by : (List ℕ → Option NamedModule) → (List ℕ → ℕ) → NamedModule → Option ℕ
misfit_by found width m = option_or (option_or (misfit_assign width (assigns_from m) m.assigns) (misfit_next width (nexts_from m) m.nexts)) (misfit_instance found width (instances_from m) m.instances)

unfoldable pub misfit_in : (List ℕ → Option NamedModule) → NamedModule → Option ℕ
misfit_in found m = misfit_by found (width_of (usable m) (net_forms m)) m
