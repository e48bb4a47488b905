-- A memory that no line writes is never written.
use Rattle.std.proofs.Common.{◌≡◌, ℕ, zero, suc, ◌+◌, ◌<◌, false, List, [], ◌∷◌, Some, length, refl, sym, ap, subst, ◌∙◌, arith}
use Rattle.std.specs.Prelude.{◌||◌, codes, slice_get, Option}
use Rattle.std.specs.Option.{option_map_or}
use Rattle.std.specs.List.{AllByRecursion as Each, list_any}
use Rattle.std.proofs.lemmas.Option.{same_Some}
use Rattle.ap_desc.specs.Ports.{mem_write, micros_in}
use Rattle.ap_desc.specs.PortsApart.{uses_port}
use Rattle.ap_desc.specs.declared.design.Act.{Act}
use Rattle.ap_desc.specs.declared.design.Act.TheVariants as act
use Rattle.ap_desc.specs.declared.design.Design.{Design}
use Rattle.ap_desc.specs.declared.design.Mem.{Mem}
use Rattle.ap_desc.specs.declared.design.Micro.{Micro}
use Rattle.ap_model.specs.declared.storage.WritePort.TheVariants as port
use Rattle.ap_model.specs.Ports.{writes_through}
use Rattle.ap_net.specs.Draft.{Draft}
use Rattle.ap_net.specs.Outside.{mem_name, output}
use Rattle.ap_net.proofs.Lists.{All-back, All-front}
use Rattle.ap_signals.specs.DesignOutside.{mem_shape}
use Rattle.ap_ctl.specs.Lists.{EachPair}
use Rattle.ap_border.specs.Storages.{IsOff}
use Rattle.ap_bank.specs.FileBorder.{RestsAreOff}
use Rattle.ap_bank.specs.Joins.{IsAtRest}
use Rattle.ap_bank.proofs.Joined.{rest_later}
use Rattle.ap_front.specs.declared.ports.MemPorts.{MemPorts}
use Rattle.ap_front.specs.PortNets.{PortsAreNets}
use Rattle.ap_front.specs.Ports.{AreMemPorts}
use Rattle.ap_rest.specs.Memories.{IdleMemoriesAreOff}
use Rattle.ap_rest.specs.Reads.{idle_writes, unless_used}
use Rattle.ap_rest.specs.Uses.{is_port_used}

-- a line writes through the port of a memory where it uses that
same_use : (mem : ℕ) (a : Act) → uses_port (mem_write mem) a ≡ writes_through (port.Memory mem) a
same_use mem (act.Compute u op a b) = refl
same_use mem (act.ReadFile file number index) = refl
same_use mem (act.ReadReg reg) = refl
same_use mem (act.ReadMem m at) = refl
same_use mem (act.ReadIn input) = refl
same_use mem (act.Const width value) = refl
same_use mem (act.Zext width a) = refl
same_use mem (act.Sext width a) = refl
same_use mem (act.Slice high low a) = refl
same_use mem (act.Cat a b) = refl
same_use mem (act.WriteFile file number index value guard) = refl
same_use mem (act.WriteReg reg value guard) = refl
same_use mem (act.WriteMem m at value guard) = refl
same_use mem (act.Branch cond target) = refl
same_use mem (act.Jump target) = refl

any_same : (mem : ℕ) (micros : List Micro) → list_any (λ (m : Micro). uses_port (mem_write mem) m.act) micros ≡ list_any (λ (m : Micro). writes_through (port.Memory mem) m.act) micros
any_same mem [] = refl
any_same mem (m ∷ micros) = λ i. same_use mem m.act i || any_same mem micros i

-- the enable of a memory is among the nets at rest
rests_at : (design : Design) (a : Draft) (first : ℕ) (mems : List MemPorts) (k : ℕ) (p : MemPorts) → slice_get mems k ≡ Some p → is_port_used design (mem_write (first + k)) ≡ false → Each (IsAtRest a) (idle_writes design first mems) → IsAtRest a p.enable
rests_at design a first [] k p at unused rest = cc
rests_at design a first (m ∷ mems) zero p at unused rest =
    let here : first + 0 ≡ first = omega arith in
    let nets = m.enable ∷ m.address ∷ m.value ∷ [] in
    let off : is_port_used design (mem_write first) ≡ false = ap (λ n. is_port_used design (mem_write n)) (sym here) ∙ unused in
    let three = subst (λ b. Each (IsAtRest a) (unless_used b nets)) off (All-front (IsAtRest a) (unless_used (is_port_used design (mem_write first)) nets) (idle_writes design (first + 1) mems) rest) in
    subst (λ (x : MemPorts). IsAtRest a x.enable) (same_Some m p at) three.0
rests_at design a first (m ∷ mems) (suc k) p at unused rest =
    let next : first + 1 + k ≡ first + suc k = omega arith in
    let nets = m.enable ∷ m.address ∷ m.value ∷ [] in
    rests_at design a (first + 1) mems k p at (ap (λ n. is_port_used design (mem_write n)) next ∙ unused) (All-back (IsAtRest a) (unless_used (is_port_used design (mem_write first)) nets) (idle_writes design (first + 1) mems) rest)

pair_at : (d : Draft) (mems : List Mem) (ports : List MemPorts) → EachPair (AreMemPorts d) mems ports → (k : ℕ) → k < length mems → (m : Mem) × (p : MemPorts) × (slice_get mems k ≡ Some m) × (slice_get ports k ≡ Some p) × AreMemPorts d m p
pair_at d [] ports h k lt = absurd (omega arith)
pair_at d (m ∷ mems) [] h k lt = absurd h
pair_at d (m ∷ mems) (p ∷ ports) h zero lt = (m, p, refl, refl, h.0)
pair_at d (m ∷ mems) (p ∷ ports) h (suc k) lt = pair_at d mems ports h.1 k (omega arith)

pub idle_memories_are_off : PortsAreNets → RestsAreOff → IdleMemoriesAreOff
idle_memories_are_off nets off design p old a d rests grows has mem low unused =
    let (m, ports, at, there, are) = pair_at d design.mems p.mems has.mems mem low in
    let plain : 0 + mem ≡ mem = omega arith in
    let none : is_port_used design (mem_write (0 + mem)) ≡ false = ap (λ n. is_port_used design (mem_write n)) plain ∙ any_same mem (micros_in design) ∙ unused in
    let enable = rest_later grows (rests_at design a 0 p.mems mem ports there none rests.rest) in
    let named : mem_name (option_map_or mem_shape (slice_get design.mems mem) (record { name = []; address = 0; width = 0 })) (codes "we") ≡ mem_name (mem_shape m) (codes "we") =
    ap (λ (o : Option Mem). mem_name (option_map_or mem_shape o (record { name = []; address = 0; width = 0 })) (codes "we")) at in
    subst (IsOff d) (sym named) (off d (mem_name (mem_shape m) (codes "we")) ports.enable (nets.named d (output (mem_name (mem_shape m) (codes "we")) 1) ports.enable are.enable) are.enable.wide enable)
