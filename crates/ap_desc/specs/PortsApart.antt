-- That the ports of a design are apart: each is used in one stage, and in an instruction by one line at most.
use Rattle.std.specs.Prelude.{◌≡◌, ℕ, ◌-◌, ◌≤◌, ◌==◌, ◌&&◌, Bool, true, false, filter, length}
use Rattle.std.specs.List.{AllByRecursion as Each, list_any}
use Rattle.std.specs.Option.{option_map_or}
use Rattle.ap_desc.specs.declared.design.Act.{Act}
use Rattle.ap_desc.specs.declared.design.Design.{Design}
use Rattle.ap_desc.specs.declared.design.Instr.{Instr}
use Rattle.ap_desc.specs.declared.design.Micro.{Micro}
use Rattle.ap_desc.specs.Ports.{Port, is_same_port, is_transfer, micros_in, port_of}

-- the line uses the port
abbrev pub uses_port : Port → Act → Bool
uses_port p a = option_map_or (is_same_port p) (port_of a) false

-- some line of this stage uses the port
abbrev pub is_port_used_in : Design → ℕ → Port → Bool
is_port_used_in design stage p = list_any (λ (m : Micro). (m.stage == stage) && uses_port p m.act) (micros_in design)

-- a port is used in one stage; an instruction uses it once at most; every line stands in a stage from 1 on, a transfer in its own
pub record PortsApart (design : Design) : Type 0 where
  pub one_stage : (p : Port) (s t : ℕ) → is_port_used_in design s p ≡ true → is_port_used_in design t p ≡ true → s ≡ t
  pub once : Each (λ (i : Instr). (p : Port) → length (filter (λ (m : Micro). uses_port p m.act) i.micros) ≤ 1) design.instrs
  pub in_stages : Each (λ (m : Micro). (1 ≤ m.stage) × (m.stage ≤ design.stages - 1)) (micros_in design)
  pub transfers : Each (λ (m : Micro). is_transfer m.act ≡ true → m.stage ≡ design.branch) (micros_in design)
