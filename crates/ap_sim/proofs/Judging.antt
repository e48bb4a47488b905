-- A text whose netlist can be run is judged in one way.
use Rattle.std.proofs.Common.{◌≡◌, ℕ, List, ◌∷◌, ◌++◌, length, map, ◌<◌, refl, sym, ap, subst, ◌∙◌, append_assoc}
use Rattle.std.specs.Prelude.{codes}
use Rattle.ap_flat.specs.Dependence.{DependsIn, IsLooped}
use Rattle.ap_flat.specs.Ports.{AreDue, AreDueAfter, ports_after}
use Rattle.ap_flat.proofs.Dues.{IsRead, IsSame, after_is, tail_of, one_way}
use Rattle.ap_flat.proofs.PortLists.{mems_no_input, tail_no_mem}
use Rattle.ap_image.specs.Shapes.{Shape}
use Rattle.ap_image.specs.TextFaults.{IsFaultlessText, Judge}
use Rattle.ap_image.specs.declared.fault.TextKind.{TextKind}
use Rattle.ap_net.specs.Flat.{opened, top_ports}
use Rattle.ap_net.specs.Modules.{IsNetlist, ModuleText}
use Rattle.ap_net.specs.Outside.{InPort, Outside, group_ports, input, input_ports, mem_ports, output, shape_of}
use Rattle.ap_net.specs.declared.net.Port.{Port}
use Rattle.ap_vr.proofs.NamedFaultless.{one_netlist}
use Rattle.ap_vr.specs.declared.fault.NetFault.TheVariants as reading
use Rattle.ap_sim.specs.declared.fault.RunKind.{RunKind}
use Rattle.ap_sim.specs.declared.fault.RunKind.TheVariants.{Text, Loop, BadPorts}
use Rattle.ap_sim.specs.Inputs.{IsFaultlessFor, IsLeastFor}
use Rattle.ap_sim.specs.Runnable.{CanRun, HasRunFault, IsRunnable, IsTextOf}

-- a text spells one netlist
one_net : (text : List ℕ) (a b : List ModuleText) → IsTextOf text a → IsTextOf text b → a ≡ b
one_net text a b h g = one_netlist a b h.netlist g.netlist (sym h.spelled ∙ g.spelled)

-- a text whose netlist can be run has no fault
pub runnable_faultless : (text : List ℕ) → CanRun text → (kind : RunKind) (line : ℕ) → HasRunFault text kind line → ⊥
runnable_faultless text can (Text kind) line fault = can.2.text_of.faultless line kind fault
runnable_faultless text can Loop line fault = can.2.no_loop (subst (λ net. IsLooped (DependsIn net)) (one_net text fault.1.0 can.0 fault.1.1 can.2.text_of) fault.1.2)
runnable_faultless text can BadPorts line fault = fault.1.3 can.1 (subst (λ net. AreDue (top_ports net) can.1) (one_net text can.0 fault.1.0 can.2.text_of fault.1.1) can.2.due)

-- ports after those of the code memory are read in one way
module _ (o p : Outside) (ports : List Port) (h : AreDue ports o) (g : AreDue ports p) where
  abbrev rest : List Port
  rest = ports_after o

  split : ports ≡ output (codes "iaddr") o.address ∷ input (codes "idata") o.word ∷ input (codes "mwait") 1 ∷ rest
  split = h.same

  read : IsRead rest o.inputs o.mems (mem_ports o.mems ++ tail_of o.groups) (tail_of o.groups)
  read = record {
    inputs_split = append_assoc (input_ports o.inputs) (mem_ports o.mems) (tail_of o.groups);
    mems_split = refl;
    each_input = h.outside.inputs;
    each_mem = h.outside.mems;
    inputs_end = mems_no_input o.mems 1 (output (codes "kill") 1 ∷ group_ports o.groups);
    mems_end = tail_no_mem 1 (output (codes "kill") 1 ∷ group_ports o.groups);
  }

  due_after : AreDueAfter o.address o.word rest p
  due_after = after_is ports rest (output (codes "iaddr") o.address) (input (codes "idata") o.word) (input (codes "mwait") 1) p split g

  pub same_shape : shape_of o ≡ shape_of p
  same_shape =
      let same = one_way o.address o.word rest o.inputs o.mems (mem_ports o.mems ++ tail_of o.groups) (tail_of o.groups) read p due_after in
      λ i. record {
        code_address = sym due_after.address_is i;
        code_width = sym due_after.word_is i;
        mems = same.mems_same i;
        inputs = map (λ (q : InPort). q.width) (same.inputs_same i);
      }

pub one_shape : (text : List ℕ) (a b : List ModuleText) (o p : Outside) → IsRunnable text a o → IsRunnable text b p → (a ≡ b) × (shape_of o ≡ shape_of p)
one_shape text a b o p h g =
    let same = one_net text a b h.text_of g.text_of in
    (same, same_shape o p (top_ports b) (subst (λ net. AreDue (top_ports net) o) same h.due) g.due)

pub faultless_taken : (judge : Shape → Judge) (netlist text : List ℕ) → IsFaultlessFor judge netlist text → (kind : TextKind) (line : ℕ) → IsLeastFor judge netlist text kind line → ⊥
faultless_taken judge netlist text good kind line bad =
    let same = (one_shape netlist good.net bad.net good.outside bad.outside good.runs bad.runs).1 in
    subst (λ s. IsFaultlessText (judge s) text) same good.faultless kind line bad.least.holds
