-- What the lines of a top do, and its front, follows as it should.
use Rattle.std.proofs.Common.{◌≡◌, ℕ, zero, suc, ◌+◌, false, List, [], ◌∷◌, Some, refl, sym, ap, subst, ◌∙◌, arith}
use Rattle.std.specs.Prelude.{◌||◌, slice_get}
use Rattle.std.specs.List.{AllByRecursion as Each, list_any}
use Rattle.ap_bits.specs.declared.card.Card.{Card}
use Rattle.ap_desc.specs.Ports.{mem_write as write_port, micros_in}
use Rattle.ap_desc.specs.PortsApart.{uses_port}
use Rattle.ap_desc.specs.declared.design.Act.{Act}
use Rattle.ap_desc.specs.declared.design.Act.TheVariants as act
use Rattle.ap_desc.specs.declared.design.Design.{Design}
use Rattle.ap_desc.specs.declared.design.Micro.{Micro}
use Rattle.ap_model.specs.declared.storage.WritePort.TheVariants as port
use Rattle.ap_model.specs.Ports.{writes_through}
use Rattle.ap_net.specs.declared.cell.Wire.{Wire}
use Rattle.ap_net.specs.Draft.{Draft, Extends}
use Rattle.ap_net.specs.Modules.{ModuleText}
use Rattle.ap_net.specs.Ready.{Dependence}
use Rattle.ap_net.proofs.Growing.{ReadyAfter-Extends}
use Rattle.ap_net.proofs.Lists.{All-back, All-front, All-from, All-map}
use Rattle.ap_bank.specs.Joins.{IsAtRest}
use Rattle.ap_front.specs.declared.ports.MemPorts.{MemPorts}
use Rattle.ap_rest.specs.Reads.{idle_writes, unless_used}
use Rattle.ap_rest.specs.Uses.{is_port_used}
use Rattle.ap_steps.specs.TopOrder.{ActFollows, Follows, TopDrafts, TopNumbers}
use Rattle.ap_act.specs.Follow.{RestFollows}
use Rattle.ap_flow.specs.Followed.{FollowsFlow}
use Rattle.ap_flow.proofs.Followed.{flows_follow}
use Rattle.ap_gen.specs.declared.tables.Tables.{Tables}
use Rattle.ap_gen.specs.declared.top.Top.{Top}
use Rattle.ap_gen.specs.Tops.{Tops, control_of, front_of, ports_of}
use Rattle.ap_gen.specs.Whole.{drafts_of, numbers_of}
use Rattle.ap_gen.proofs.OrderGrowth.{transfer_of, writes_of}

-- Memories that no line writes. --------------------------------------------------------------------------------------------------

-- a line writes through the port of a memory where it uses that
same_use : (mem : ℕ) (a : Act) → uses_port (write_port mem) a ≡ writes_through (port.Memory mem) a
same_use mem (act.Compute u op a b) = refl
same_use mem (act.ReadFile file number index) = refl
same_use mem (act.ReadReg reg) = refl
same_use mem (act.ReadMem m at) = refl
same_use mem (act.ReadIn input) = refl
same_use mem (act.Const width value) = refl
same_use mem (act.Zext width a) = refl
same_use mem (act.Sext width a) = refl
same_use mem (act.Slice high low a) = refl
same_use mem (act.Cat a b) = refl
same_use mem (act.WriteFile file number index value guard) = refl
same_use mem (act.WriteReg reg value guard) = refl
same_use mem (act.WriteMem m at value guard) = refl
same_use mem (act.Branch cond target) = refl
same_use mem (act.Jump target) = refl

any_same : (mem : ℕ) (micros : List Micro) → list_any (λ (m : Micro). uses_port (write_port mem) m.act) micros ≡ list_any (λ (m : Micro). writes_through (port.Memory mem) m.act) micros
any_same mem [] = refl
any_same mem (m ∷ micros) = λ i. same_use mem m.act i || any_same mem micros i

-- the nets at which such a memory would be written are at rest
rest_at : (design : Design) (a : Draft) (first : ℕ) (mems : List MemPorts) (k : ℕ) (p : MemPorts) → slice_get mems k ≡ Some p → is_port_used design (write_port (first + k)) ≡ false → Each (IsAtRest a) (idle_writes design first mems)
    → Each (IsAtRest a) (p.enable ∷ p.address ∷ p.value ∷ [])
rest_at design a first [] k p at unused rest = absurd cc
rest_at design a first (m ∷ mems) zero p at unused rest =
    let here : first + 0 ≡ first = omega arith in
    let same : m ≡ p = cc in
    let off : is_port_used design (write_port first) ≡ false = ap (λ n. is_port_used design (write_port n)) (sym here) ∙ unused in
    let nets = m.enable ∷ m.address ∷ m.value ∷ [] in
    let front = All-front (IsAtRest a) (unless_used (is_port_used design (write_port first)) nets) (idle_writes design (first + 1) mems) rest in
    subst (λ (q : MemPorts). Each (IsAtRest a) (q.enable ∷ q.address ∷ q.value ∷ [])) same (subst (λ b. Each (IsAtRest a) (unless_used b nets)) off front)
rest_at design a first (m ∷ mems) (suc k) p at unused rest =
    let next : first + suc k ≡ first + 1 + k = omega arith in
    let nets = m.enable ∷ m.address ∷ m.value ∷ [] in
    rest_at design a (first + 1) mems k p at (ap (λ n. is_port_used design (write_port n)) (sym next) ∙ unused)
    (All-back (IsAtRest a) (unless_used (is_port_used design (write_port first)) nets) (idle_writes design (first + 1) mems) rest)

rest_follows : (by : Dependence) (a b : Draft) (w : Wire) → Extends a b → IsAtRest a w → Follows by b [] w.number
rest_follows by a b w later h = ([], tt, ReadyAfter-Extends by a b [] w.number later (h.came by))

module _ (cards : List Card) (design : Design) (tables : Tables) (modules : List ModuleText) (places : List ℕ) (made : Top) (new : Draft) (h : Tops design tables modules places made new) (other : Dependence) where
  abbrev t : TopDrafts
  t = drafts_of design tables modules places made new h

  abbrev n : TopNumbers
  n = numbers_of made

  mems_rest : RestFollows other design h.before.acts.written (ports_of made.start)
  mems_rest mem m at off =
      let rested = h.before.rested in
      let unused : is_port_used design (write_port (0 + mem)) ≡ false = (let plain : 0 + mem ≡ mem = omega arith in ap (λ k. is_port_used design (write_port k)) plain ∙ any_same mem (micros_in design) ∙ off) in
      let later : Extends rested h.before.acts.written = h.before.acts.writes.drives.extends in
      let three = rest_at design rested 0 (ports_of made.start).mems mem m at unused h.before.before.rests.writes.rest in
      All-map (Follows other h.before.acts.written []) (λ (w : Wire). w.number) (m.enable ∷ m.address ∷ m.value ∷ [])
      (All-from (IsAtRest rested) (λ (w : Wire). Follows other h.before.acts.written [] w.number) (λ w k. rest_follows other rested h.before.acts.written w later k) (m.enable ∷ m.address ∷ m.value ∷ []) three)

  flow_of : FollowsFlow other t n
  flow_of =
      flows_follow other design tables.slots (front_of made.start) (ports_of made.start) (control_of made.start) made.target made.stages.stages.items made.flow h.acted new h.flows t n
      (record { transferred = refl; flown = refl; fetched = refl; shown = refl })
      (record { front = refl; hold = refl; kill = refl; address = refl; stall = refl; kill_shown = refl })

  pub act_follows : ActFollows other t n
  act_follows =
      let writes = writes_of cards design tables modules places made new h other in
      let transfer = transfer_of cards design tables modules places made new h other in
      let flow = flow_of in
      record {
        written = writes.came;
        outputs = writes.outputs mems_rest;
        transferred = transfer.came;
        taken = transfer.taken_follows;
        flown = flow.flown;
        fetched = flow.fetched;
        shown = flow.shown;
        address = flow.address;
        stall = flow.stall;
        kill = flow.kill;
      }
