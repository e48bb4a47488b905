-- In a clean design the ports through which lines write are apart, as all ports are.
use Rattle.std.proofs.Common.{◌≡◌, ℕ, ◌-◌, ◌≤◌, ◌==◌, ◌&&◌, true, List, [], ◌∷◌, length, filter, refl, ap, sym, subst, ◌∙◌, arith}
use Rattle.std.specs.List.{AllByRecursion as Each, list_any}
use Rattle.ap_desc.proofs.OnePort.{clean_apart, each_as, from_any}
use Rattle.ap_desc.specs.Clean.{IsClean}
use Rattle.ap_desc.specs.PortsApart.{PortsApart, is_port_used_in, uses_port}
use Rattle.ap_desc.specs.Ports.{Port, file_write, is_transfer, mem_write, micros_in, reg_write, transfer}
use Rattle.ap_desc.specs.declared.design.Act.{Act}
use Rattle.ap_desc.specs.declared.design.Act.TheVariants as act
use Rattle.ap_desc.specs.declared.design.Design.{Design}
use Rattle.ap_desc.specs.declared.design.Instr.{Instr}
use Rattle.ap_desc.specs.declared.design.Micro.{Micro}
use Rattle.ap_model.specs.declared.storage.WritePort.{WritePort}
use Rattle.ap_model.specs.declared.storage.WritePort.TheVariants as port
use Rattle.ap_model.specs.PortForms.{writes_once}
use Rattle.ap_model.specs.Ports.{is_used, is_used_in, writes_in, writes_through}
use Rattle.ap_model.proofs.ListLemmas.{finds_itself}

-- a port is written in one stage, one of those from 1 on; and of the lines of an instruction one at most writes through it, and one
-- at most transfers
pub record WritesApart (design : Design) : Type 0 where
  pub one_stage : (p : WritePort) (s t : ℕ) → is_used_in design s p ≡ true → is_used_in design t p ≡ true → s ≡ t
  pub some_stage : (p : WritePort) → is_used design p ≡ true → (s : ℕ) × (1 ≤ s) × (s ≤ design.stages - 1) × (is_used_in design s p ≡ true)
  pub one_transfer : Each (λ (i : Instr). length (filter (λ (m : Micro). is_transfer m.act) i.micros) ≤ 1) design.instrs
  pub one_line : Each (λ (i : Instr). (p : WritePort) → length (writes_once p i.micros) ≤ 1) design.instrs

-- a port of the design as its lines name it
abbrev port_as : WritePort → Port
port_as (port.Register reg) = reg_write reg
port_as (port.Cell file number) = file_write file number
port_as (port.Memory mem) = mem_write mem

same_use : (p : WritePort) (a : Act) → writes_through p a ≡ uses_port (port_as p) a
same_use (port.Register reg) (act.WriteReg other v guard) = refl
same_use (port.Register reg) _ = refl
same_use (port.Cell file number) (act.WriteFile other k index v guard) = refl
same_use (port.Cell file number) _ = refl
same_use (port.Memory mem) (act.WriteMem other at v guard) = refl
same_use (port.Memory mem) _ = refl

same_transfer : (a : Act) → is_transfer a ≡ uses_port transfer a
same_transfer (act.Branch c t) = refl
same_transfer (act.Jump t) = refl
same_transfer _ = refl

used_as : (design : Design) (stage : ℕ) (p : WritePort) → is_used_in design stage p ≡ is_port_used_in design stage (port_as p)
used_as design stage p = λ i. list_any (λ (m : Micro). (m.stage == stage) && same_use p m.act i) (micros_in design)

same_uses : (p : WritePort) (micros : List Micro) → length (writes_once p micros) ≡ length (filter (λ (m : Micro). uses_port (port_as p) m.act) micros)
same_uses p micros = λ i. length (filter (λ (m : Micro). same_use p m.act i) micros)

same_transfers : (micros : List Micro) → length (filter (λ (m : Micro). is_transfer m.act) micros) ≡ length (filter (λ (m : Micro). uses_port transfer m.act) micros)
same_transfers micros = λ i. length (filter (λ (m : Micro). same_transfer m.act i) micros)

is_same : (n : ℕ) → (n == n) ≡ true
is_same n = grind arith

-- the stage of a line that writes through the port
stage_of_line : (design : Design) (p : WritePort) (m : Micro) → (1 ≤ m.stage) × (m.stage ≤ design.stages - 1) → (writes_through p m.act ≡ true → is_used_in design m.stage p ≡ true) → writes_through p m.act ≡ true
    → (s : ℕ) × (1 ≤ s) × (s ≤ design.stages - 1) × (is_used_in design s p ≡ true)
stage_of_line design p m bounds itself uses = (m.stage, bounds.0, bounds.1, itself uses)

each_with : {X : Type 0} (P Q R : X → Type 0) → ((x : X) → P x → Q x → R x) → (xs : List X) → Each P xs → Each Q xs → Each R xs
each_with P Q R f [] p q = tt
each_with P Q R f (x ∷ xs) p q = (f x p.0 q.0, each_with P Q R f xs p.1 q.1)

in_some_stage : (design : Design) (p : WritePort) → PortsApart design → is_used design p ≡ true → (s : ℕ) × (1 ≤ s) × (s ≤ design.stages - 1) × (is_used_in design s p ≡ true)
in_some_stage design p apart used =
    let G = (s : ℕ) × (1 ≤ s) × (s ≤ design.stages - 1) × (is_used_in design s p ≡ true) in
    from_any (λ (m : Micro). writes_through p m.act) G (micros_in design) used
    (each_with (λ (m : Micro). (1 ≤ m.stage) × (m.stage ≤ design.stages - 1)) (λ (m : Micro). writes_through p m.act ≡ true → is_used_in design m.stage p ≡ true) (λ (m : Micro). writes_through p m.act ≡ true → G)
    (stage_of_line design p) (micros_in design) apart.in_stages
    (finds_itself (λ (m : Micro) (e : Micro). writes_in m.stage p e) (λ (m : Micro). writes_through p m.act ≡ true) (λ m h. ap (λ b. b && writes_through p m.act) (is_same m.stage) ∙ h) (micros_in design)))

pub writes_apart : (design : Design) → IsClean design → WritesApart design
writes_apart design clean =
    let apart = clean_apart design clean in
    record {
      one_stage = λ p s t in_s in_t. apart.one_stage (port_as p) s t (sym (used_as design s p) ∙ in_s) (sym (used_as design t p) ∙ in_t);
      some_stage = λ p used. in_some_stage design p apart used;
      one_transfer = each_as (λ (i : Instr). (q : Port) → length (filter (λ (m : Micro). uses_port q m.act) i.micros) ≤ 1) (λ (i : Instr). length (filter (λ (m : Micro). is_transfer m.act) i.micros) ≤ 1)
          (λ i once. subst (λ n. n ≤ 1) (sym (same_transfers i.micros)) (once transfer)) design.instrs apart.once;
      one_line = each_as (λ (i : Instr). (q : Port) → length (filter (λ (m : Micro). uses_port q m.act) i.micros) ≤ 1) (λ (i : Instr). (p : WritePort) → length (writes_once p i.micros) ≤ 1)
          (λ i once p. subst (λ n. n ≤ 1) (sym (same_uses p i.micros)) (once (port_as p))) design.instrs apart.once;
    }
