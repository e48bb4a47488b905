-- What the calls that make the stages of a top need, by what its first two parts give.
use Rattle.std.proofs.Common.{◌≡◌, ℕ, List, length, subst}
use Rattle.std.specs.List.{AllByRecursion as Each}
use Rattle.ap_bank.specs.declared.bank.FileNets.{FileNets}
use Rattle.ap_desc.specs.Clean.{IsClean}
use Rattle.ap_desc.specs.declared.design.Design.{Design}
use Rattle.ap_flight.specs.declared.stage.StageRegisters.{StageRegisters}
use Rattle.ap_front.specs.declared.ports.MemPorts.{MemPorts}
use Rattle.ap_net.specs.declared.cell.Wire.{Wire}
use Rattle.ap_net.specs.Draft.{Draft}
use Rattle.ap_net.specs.Modules.{ModuleText}
use Rattle.ap_parts.specs.Known.{known_by}
use Rattle.ap_pipe.specs.declared.table.SlotTable.{SlotTable}
use Rattle.ap_pipe.specs.Slots.{AreSlotsOf}
use Rattle.ap_slow.specs.declared.place.SlowPlaced.{SlowPlaced}
use Rattle.ap_stages.specs.Begun.{AreShared}
use Rattle.ap_stages.specs.Own.{AreNetsOf, AreReadable}
use Rattle.ap_stages.specs.Stood.{AreApartSupplies, AreStanding}
use Rattle.ap_stages.specs.declared.begin.SharedNets.{SharedNets}
use Rattle.ap_stages.specs.declared.begin.StageNets.{StageNets}
use Rattle.ap_stages.specs.declared.nodes.Supplied.{Supplied}
use Rattle.ap_supply.specs.Listing.{HaveQuickModules, HaveReadNets, WerePlaced}
use Rattle.ap_supply.specs.Supplies.{AreSupplied, AreSuppliesOf, IsEntry, Placed, placed_of}
use Rattle.ap_supply.proofs.SlowOnes.{slow_were_placed}
use Rattle.ap_staged.specs.Grounds.{AreSharedOf}
use Rattle.ap_staged.proofs.Led.{leads_have_read_nets}
use Rattle.ap_staged.proofs.Ports.{known_are_quick}
use Rattle.ap_work.specs.Working.{StandsControlled}
use Rattle.ap_gen.specs.declared.start.Start.{Start}
use Rattle.ap_gen.specs.declared.tables.Tables.{Tables}
use Rattle.ap_gen.specs.Started.{KnowsParts, Starts}
use Rattle.ap_gen.specs.Tables.{AreTablesOf}
use Rattle.ap_gen.specs.Tops.{control_of, front_of, placed_in, ports_of, regs_of}
use Rattle.ap_gen.proofs.DataShared.{decoded_long, own_readable, shared_there}
use Rattle.ap_gen.proofs.DataStanding.{controlled, first_later, mems_long, orders_stand, supplies_apart}

-- What was placed serves the nodes of the design, and each stage has its registers and its conditions.
pub record CanSupply (design : Design) (modules : List ModuleText) (places : List ℕ) (s : Start) : Type 0 where
  pub quick : HaveQuickModules design modules places
  pub slow : WerePlaced design s.work.units
  pub reads : HaveReadNets design s.lead.files
  pub mems : length (ports_of s).mems ≡ length design.mems
  pub decoded : length (control_of s).decoded ≡ length (front_of s).stages

pub can_supply : (design : Design) (slots : SlotTable) (modules : List ModuleText) (places : List ℕ) (kinds : ℕ) (s : Start) (d : Draft)
    → IsClean design → AreSlotsOf design slots → KnowsParts design modules places kinds
    → Starts design slots modules places s d → CanSupply design modules places s
can_supply design slots modules places kinds s d clean are parts h =
    let control : StandsControlled design s.work d = controlled design slots modules places s d h clean in
    record {
      quick = known_are_quick (known_by parts.cards) design modules places kinds parts.known;
      slow = slow_were_placed design s.work.units h.works.placed.are;
      reads = leads_have_read_nets design slots.stages s.lead h.filed h.leads;
      mems = mems_long design slots modules places s d h;
      decoded = decoded_long design slots.stages s.lead h.filed d h.leads (first_later design slots modules places s d h) (control_of s).decoded are.count control.nets.there.decoded_count;
    }

-- What serves the nodes of the stages' orders stands, no wire of it for two nodes, and the nets on which the stages stand can be read.
pub record CanStage (design : Design) (tables : Tables) (modules : List ModuleText) (supplies : List Supplied) (shared : SharedNets) (owns : List StageNets) (d : Draft) : Type 0 where
  pub stand : Each (AreStanding design d modules supplies) tables.paths.orders
  pub apart : AreApartSupplies supplies
  pub there : AreShared design d.nets shared
  pub own : AreReadable design d tables.slots.stages shared owns

module _ (design : Design) (tables : Tables) (modules : List ModuleText) (places : List ℕ) (kinds : ℕ) (s : Start) (d : Draft) (supplies : List Supplied) (shared : SharedNets) (owns : List StageNets) where
  can_stage : IsClean design → AreTablesOf design tables → KnowsParts design modules places kinds → Starts design tables.slots modules places s d
      → Each (IsEntry design (placed_in modules places s)) supplies
      → AreSuppliesOf design (placed_in modules places s) supplies → AreSupplied design supplies → AreSharedOf (regs_of s) (ports_of s) shared
      → AreNetsOf (front_of s).stages (control_of s).decoded owns
      → CanStage design tables modules supplies shared owns d
  can_stage clean are parts h entries of all shares own =
      let control : StandsControlled design s.work d = controlled design tables.slots modules places s d h clean in
      let later = first_later design tables.slots modules places s d h in
      record {
        stand = orders_stand design tables.slots modules places s d h kinds clean parts supplies of all tables.paths.orders are.paths.orders;
        apart = supplies_apart design tables.slots modules places s d h supplies entries;
        there = shared_there design tables.slots.stages s.lead h.filed d h.leads later shared shares;
        own = own_readable design tables.slots.stages s.lead h.filed d h.leads later (control_of s).decoded shared owns are.slots.count control.nets.there.decoded_count control.nets.there.decoded shares own;
      }

  -- by lists that are the same
  pub can_stage_by : (ms : List ModuleText) (ps : List ℕ) (slow : List SlowPlaced) (files : List FileNets) (mems : List MemPorts) (regs : List Wire) (registers : List StageRegisters) (decoded : List (List Wire))
      → IsClean design → AreTablesOf design tables
      → KnowsParts design modules places kinds → Starts design tables.slots modules places s d → ms ≡ modules → ps ≡ places → slow ≡ s.work.units
      → files ≡ s.lead.files → mems ≡ (ports_of s).mems → regs ≡ regs_of s → registers ≡ (front_of s).stages
      → decoded ≡ (control_of s).decoded → Each (IsEntry design (placed_of ms ps slow files mems)) supplies
      → AreSuppliesOf design (placed_of ms ps slow files mems) supplies → AreSupplied design supplies → AreSharedOf regs (ports_of s) shared
      → AreNetsOf registers decoded owns → CanStage design tables modules supplies shared owns d
  can_stage_by ms ps slow files mems regs registers decoded clean are parts h e1 e2 e3 e4 e5 e6 e7 e8 entries of all shares own =
      let placed : placed_of ms ps slow files mems ≡ placed_in modules places s = λ i. placed_of (e1 i) (e2 i) (e3 i) (e4 i) (e5 i) in
      can_stage clean are parts h (subst (λ (p : Placed). Each (IsEntry design p) supplies) placed entries) (subst (λ (p : Placed). AreSuppliesOf design p supplies) placed of) all
      (subst (λ ws. AreSharedOf ws (ports_of s) shared) e6 shares) (subst (λ rs. AreNetsOf rs (control_of s).decoded owns) e7 (subst (λ cs. AreNetsOf registers cs owns) e8 own))
