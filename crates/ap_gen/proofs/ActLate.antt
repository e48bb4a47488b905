-- Wires that are driven neither for the nodes of stages nor where what no line uses rests are late still once both were made.
use Rattle.std.proofs.Common.{◌≡◌, ◌≢◌, ℕ, ◌+◌, Bool, true, false, List, [], ◌∷◌, Some, sym, subst}
use Rattle.std.specs.Prelude.{slice_get}
use Rattle.std.specs.List.{AllByRecursion as Each}
use Rattle.ap_desc.specs.Chains.{IsChainOrder, IsNodeOf}
use Rattle.ap_desc.specs.Clean.{IsClean}
use Rattle.ap_desc.specs.Ports.{file_read, mem_read}
use Rattle.ap_desc.specs.declared.design.Design.{Design}
use Rattle.ap_desc.specs.declared.design.Node.{Node as DesignNode}
use Rattle.ap_desc.specs.declared.design.Node.TheVariants as design_node
use Rattle.ap_net.specs.declared.cell.Wire.{Wire}
use Rattle.ap_net.specs.Draft.{Draft}
use Rattle.ap_net.specs.Late.{IsLate}
use Rattle.ap_net.specs.Modules.{ModuleText}
use Rattle.ap_net.specs.Ready.{numbers}
use Rattle.ap_net.proofs.Lists.{All-join, All-map}
use Rattle.ap_ports.proofs.Members.{contains_at, each_get, place_of}
use Rattle.ap_stage.specs.declared.chain.Node.{Node}
use Rattle.ap_stage.specs.Reads.{IsNone}
use Rattle.ap_stage.specs.Served.{stage_wires, wires_of}
use Rattle.ap_stages.specs.Stages.{all_nodes}
use Rattle.ap_stages.specs.Stood.{wires_with}
use Rattle.ap_stages.specs.declared.nodes.Supply.{Supply}
use Rattle.ap_stages.specs.declared.nodes.Supply.TheVariants as by
use Rattle.ap_stages.proofs.Around.{each_node}
use Rattle.ap_stages.proofs.Leaving.{wires_each}
use Rattle.ap_stages.proofs.Standing.{wires_are}
use Rattle.ap_bank.specs.declared.bank.FileNets.{FileNets}
use Rattle.ap_front.specs.declared.ports.MemPorts.{MemPorts}
use Rattle.ap_slow.specs.declared.place.SlowPlaced.{SlowPlaced}
use Rattle.ap_work.proofs.Waiting.{work_leaves_late}
use Rattle.ap_supply.specs.Apart.{asked_wires}
use Rattle.ap_supply.specs.Supplies.{IsSupplyOf, Placed}
use Rattle.ap_rest.specs.Reads.{idle_indices, idle_of_files, idle_of_mems, idle_reads, idle_writes, unless_used}
use Rattle.ap_rest.specs.Uses.{is_port_used}
use Rattle.ap_rest.proofs.Used.{node_numbered}
use Rattle.ap_gen.specs.declared.data.Data.{Data}
use Rattle.ap_gen.specs.declared.start.Start.{Start}
use Rattle.ap_gen.specs.declared.tables.Tables.{Tables}
use Rattle.ap_gen.specs.Tables.{AreTablesOf}
use Rattle.ap_gen.specs.Tops.{HasRests, HasStages, front_of, placed_in, ports_of}

-- no wire that stages drive for what was placed has this number
pub record IsUnasked (p : Placed) (n : ℕ) : Type 0 where
  pub asked : Each (λ (x : SlowPlaced). Each (λ (w : Wire). w.number ≢ n) (asked_wires x)) p.slow
  pub indices : Each (λ (f : FileNets). Each (λ (w : Wire). w.number ≢ n) f.indices) p.files
  pub addresses : Each (λ (m : MemPorts). m.read_address.number ≢ n) p.mems

-- and no output of a memory that no line writes
pub record IsSpared (design : Design) (p : Placed) (n : ℕ) : Type 0 where
  pub unasked : IsUnasked p n
  pub unwritten : Each (λ k. k ≢ n) (numbers (idle_writes design 0 p.mems))

three_of : (P : Wire → Type 0) (a b c : Wire) → Each P (a ∷ b ∷ c ∷ []) → P a × P b × P c
three_of P a b c (x, (y, (z, none))) = (x, y, z)

unasked_supply : (design : Design) (p : Placed) (x : DesignNode) (s : Supply) (n : ℕ) → IsUnasked p n → IsSupplyOf design p x s → Each (λ (w : Wire). w.number ≢ n) (wires_with s)
unasked_supply design p (design_node.Unit v) (by.Quick place bits) n h of = tt
unasked_supply design p (design_node.Unit v) (by.Slow sel a b y) n h of =
    let (i, at) = place_of p.slow of.placed of.among in
    let (one, two, three) = three_of (λ (w : Wire). w.number ≢ n) of.placed.inputs.sel of.placed.inputs.a of.placed.inputs.b (each_get (λ (x : SlowPlaced). Each (λ (w : Wire). w.number ≢ n) (asked_wires x)) p.slow i of.placed h.asked at) in
    (subst (λ (w : Wire). w.number ≢ n) (sym of.sel_is) one, (subst (λ (w : Wire). w.number ≢ n) (sym of.a_is) two, (subst (λ (w : Wire). w.number ≢ n) (sym of.b_is) three, tt)))
unasked_supply design p (design_node.FileRead file port) (by.Read index value) n h of =
    (each_get (λ (w : Wire). w.number ≢ n) of.nets.indices port index (each_get (λ (f : FileNets). Each (λ (w : Wire). w.number ≢ n) f.indices) p.files file of.nets h.indices of.made) of.index_at, tt)
unasked_supply design p (design_node.MemRead mem) (by.Read index value) n h of =
    (subst (λ (w : Wire). w.number ≢ n) (sym of.index_is) (each_get (λ (m : MemPorts). m.read_address.number ≢ n) p.mems mem of.ports h.addresses of.made), tt)
unasked_supply design p _ _ n h of = absurd of

-- Nets at rest are some of those.

unless_each : (P : Wire → Type 0) (b : Bool) (nets : List Wire) → Each P nets → Each P (unless_used b nets)
unless_each P true nets h = tt
unless_each P false nets h = h

indices_each : (P : Wire → Type 0) (design : Design) (file port : ℕ) (ws : List Wire) → Each P ws → Each P (idle_indices design file port ws)
indices_each P design file port [] h = tt
indices_each P design file port (w ∷ ws) h =
    All-join P (unless_used (is_port_used design (file_read file port)) (w ∷ [])) (idle_indices design file (port + 1) ws) (unless_each P (is_port_used design (file_read file port)) (w ∷ []) (h.0, tt)) (indices_each P design file (port + 1) ws h.1)

files_each : (P : Wire → Type 0) (design : Design) (file : ℕ) (files : List FileNets) → Each (λ (f : FileNets). Each P f.indices) files → Each P (idle_of_files design file files)
files_each P design file [] h = tt
files_each P design file (f ∷ files) h = All-join P (idle_indices design file 0 f.indices) (idle_of_files design (file + 1) files) (indices_each P design file 0 f.indices h.0) (files_each P design (file + 1) files h.1)

mems_each : (P : Wire → Type 0) (design : Design) (mem : ℕ) (mems : List MemPorts) → Each (λ (m : MemPorts). P m.read_address) mems → Each P (idle_of_mems design mem mems)
mems_each P design mem [] h = tt
mems_each P design mem (m ∷ mems) h =
    All-join P (unless_used (is_port_used design (mem_read mem)) (m.read_address ∷ [])) (idle_of_mems design (mem + 1) mems) (unless_each P (is_port_used design (mem_read mem)) (m.read_address ∷ []) (h.0, tt)) (mems_each P design (mem + 1) mems h.1)

pub reads_each : (P : Wire → Type 0) (design : Design) (files : List FileNets) (mems : List MemPorts) → Each (λ (f : FileNets). Each P f.indices) files → Each (λ (m : MemPorts). P m.read_address) mems → Each P (idle_reads design files mems)
reads_each P design files mems f m = All-join P (idle_of_files design 0 files) (idle_of_mems design 0 mems) (files_each P design 0 files f) (mems_each P design 0 mems m)

-- What is late still.
module _ (design : Design) (tables : Tables) (modules : List ModuleText) (places : List ℕ) (s : Start) (made : Data) (clean : IsClean design) (are : AreTablesOf design tables) where
  pub staged_late : (d : Draft) (h : HasStages design tables modules places s made d) (w : Wire) → IsUnasked (placed_in modules places s) w.number → IsLate h.steered w → IsLate d w
  staged_late d h w spared late = h.makes.staged.serves.serves.late w late none
    where
      of_node : (k : ℕ) (order : List DesignNode) (j : ℕ) (y : DesignNode) (supply : Supply) → slice_get tables.paths.orders k ≡ Some order → slice_get order j ≡ Some y → (IsNodeOf design (k + 1) y → IsSupplyOf design (placed_in modules places s) y supply) → IsNone (wires_with supply) w
      of_node k order j y supply has at of =
          let chain : IsChainOrder design (k + 1) order = are.paths.orders.each k order has in
          unasked_supply design (placed_in modules places s) y supply w.number spared (of ((chain.nodes y).0 (contains_at order j y at)))

      nodes : Each (λ (n : Node). IsNone (wires_of n) w) (all_nodes made.stages.items)
      nodes = each_node design tables.slots.stages tables.merged.choices made.supplies tables.paths.orders modules made.shared made.own.items h.steered d made.stages.items h.makes.staged (λ (n : Node). IsNone (wires_of n) w)
          (λ k order j y n has at for. subst (λ ws. IsNone ws w) (sym (wires_are design for.select y for.supply n for.made))
          (of_node k order j y for.supply has at (λ of. h.makes.supplied y for.supply (node_numbered design (k + 1) y clean of) for.found)))

      none : IsNone (stage_wires (all_nodes made.stages.items)) w
      none = wires_each (λ (z : Wire). z.number ≢ w.number) (all_nodes made.stages.items) (λ i n at. each_get (λ (x : Node). IsNone (wires_of x) w) (all_nodes made.stages.items) i n nodes at)

  pub rested_late : (d : Draft) (h : HasRests design tables modules places s made d) (w : Wire) → IsSpared design (placed_in modules places s) w.number → IsLate h.before.steered w → IsLate d w
  rested_late d h w spared late =
      let r = h.rests in
      let files = s.lead.files in
      let mems = (ports_of s).mems in
      let reads : Each (λ n. n ≢ w.number) (numbers (idle_reads design files mems)) = All-map (λ n. n ≢ w.number) (λ (x : Wire). x.number) (idle_reads design files mems)
      (reads_each (λ (x : Wire). x.number ≢ w.number) design files mems spared.unasked.indices spared.unasked.addresses) in
      r.writes.drives.late w spared.unwritten (r.reads.drives.late w reads (r.idles.adds.late w (staged_late h.staged h.before w spared.unasked late)))

  -- so are those that were late after the first part
  pub filed_late : (d : Draft) (h : HasRests design tables modules places s made d) (w : Wire) → IsSpared design (placed_in modules places s) w.number → IsLate h.before.starts.filed w → IsLate d w
  filed_late d h w spared late =
      rested_late d h w spared ((work_leaves_late design (front_of s) (ports_of s) modules places s.work h.before.starts.filed h.before.steered h.before.starts.works).others w late)
