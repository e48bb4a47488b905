-- The ports of a stage are ports of the design, by what was placed for its nodes.
use Rattle.std.proofs.Common.{◌≡◌, ℕ, ◌+◌, ◌*◌, ◌<◌, ◌≤◌, List, length, Some, nat_lt, refl, sym, ap, subst, ◌∙◌, arith}
use Rattle.std.specs.Prelude.{codes, if◌then◌else◌, slice_get}
use Rattle.std.specs.Option.{option_map_or}
use Rattle.std.proofs.lemmas.Bool.{le-ltb, lt-ltb}
use Rattle.std.proofs.lemmas.Option.{slice_get_within}
use Rattle.ap_bits.specs.Cards.{cycles_at, latency_at}
use Rattle.ap_bits.specs.declared.card.Card.{Card}
use Rattle.ap_bits.specs.declared.card.Latency.{Latency}
use Rattle.ap_bits.specs.declared.card.Latency.TheVariants.{One, WidthPlusOne}
use Rattle.ap_desc.specs.Clean.{FitsCards}
use Rattle.ap_desc.specs.declared.design.Design.{Design}
use Rattle.ap_desc.specs.declared.design.Node.{Node as DesignNode}
use Rattle.ap_desc.specs.declared.design.Node.TheVariants as design_node
use Rattle.ap_desc.specs.declared.design.Unit.{Unit as Resource}
use Rattle.ap_image.specs.declared.shape.MemShape.{MemShape}
use Rattle.ap_merge.specs.declared.table.Choice.{Choice}
use Rattle.ap_merge.specs.declared.table.Select.{Select}
use Rattle.ap_model.specs.UnitUse.{latency_of}
use Rattle.ap_net.specs.declared.cell.Wire.{Wire}
use Rattle.ap_net.specs.Draft.{Draft}
use Rattle.ap_net.specs.Modules.{ModuleText, module_named}
use Rattle.ap_net.specs.Outside.{input, mem_name, output}
use Rattle.ap_net.proofs.Lists.{some_same}
use Rattle.ap_net.proofs.Renumbered.{some_within}
use Rattle.ap_ports.specs.Numbers.{number_of_node}
use Rattle.ap_signals.specs.DesignOutside.{mem_shape}
use Rattle.ap_unit.specs.Units.{Behaves, Computes, ports_by}
use Rattle.ap_stage.specs.declared.chain.Node.{Node}
use Rattle.ap_stage.specs.declared.chain.Node.TheVariants as node
use Rattle.ap_stage.specs.declared.serve.SlowUnit.{SlowUnit}
use Rattle.ap_stages.specs.Supplies.{AreNodesFor, IsNodeBy, IsNodeFor, quick_of, supply_of}
use Rattle.ap_stages.specs.declared.nodes.Supplied.{Supplied}
use Rattle.ap_stages.specs.declared.nodes.Supply.{Supply}
use Rattle.ap_stages.specs.declared.nodes.Supply.TheVariants as by
use Rattle.ap_stages.proofs.Standing.{port_is}
use Rattle.ap_border.specs.Files.{HasFiles}
use Rattle.ap_border.specs.Named.{IsNamed}
use Rattle.ap_data.specs.Stage.{IsPortOf, IsQuickOf}
use Rattle.ap_bank.specs.declared.bank.FileNets.{FileNets}
use Rattle.ap_bank.specs.FileBorder.{BanksFiles}
use Rattle.ap_ctl.proofs.Beside.{EachPair-at}
use Rattle.ap_front.specs.Ports.{AreMemPorts}
use Rattle.ap_front.proofs.PortNets.{port_named}
use Rattle.ap_parts.specs.Known.{HasParts, HasUnitNamed, Knows, StandsThere, known_ports}
use Rattle.ap_parts.proofs.KindNames.{width_fits}
use Rattle.ap_parts.proofs.KnownPorts.{card_at}
use Rattle.ap_parts.proofs.Lists.{pair_at}
use Rattle.ap_built.specs.Top.{JoinsBanks}
use Rattle.ap_supply.specs.Supplies.{IsSupplyOf, Placed}
use Rattle.ap_staged.specs.Ports.{FileReadsAreOf, HasReads, IsPlacedIn, JoinsPlaced, KnownAreQuick, MemReadsAreOf, QuickUnitsAreOf, SlowPortsArePlaced, SlowUnitsAreOf, SuppliedPortsAreOf}

-- Units of one cycle. -----------------------------------------------------------------------------------------------------

latency_is : (design : Design) (unit : ℕ) (u : Resource) → slice_get design.units unit ≡ Some u → latency_of design unit ≡ u.latency
latency_is design unit u at = ap (λ o. option_map_or (λ (x : Resource). x.latency) o 0) at

-- a module that behaves as a unit of one cycle computes
quick_computes : (l : Latency) (m : ModuleText) (card : Card) (w : ℕ) → cycles_at l w ≤ 1 → 1 ≤ w → Behaves l m card w → Computes m card w
quick_computes One m card w low some behaves = behaves
quick_computes WidthPlusOne m card w low some behaves = let wrong : w + 1 ≤ 1 = low in absurd (omega arith)

pub known_are_quick : KnownAreQuick
known_are_quick knows design own places kinds known unit u at low =
    let (place, there, stands) = pair_at (λ (x : Resource) (k : ℕ). StandsThere own k (knows.names x) (known_ports knows x)) design.units places known.units unit u at in
    record {
      whole = stands.whole;
      stands = record { place = place; there = there; at = stands.at };
      select = knows.selects u;
      ports = stands.has ∙ ap (λ b. ports_by (if b then WidthPlusOne else One) (knows.selects u) u.width) (le-ltb 1 u.latency low);
    }

pub quick_units_are_of : QuickUnitsAreOf
quick_units_are_of knows cards design modules p kinds fits parts known unit place bits u select q at =
    let stands = EachPair-at (λ (x : Resource) (k : ℕ). StandsThere p.modules k (knows.names x) (known_ports knows x)) design.units p.places known.units unit u place at q.there in
    let has : HasUnitNamed cards modules (knows.names u) (knows.selects u) u = parts.units unit u at in
    let (card, card_there, allows, latency) = card_at cards design fits unit u at in
    let one : q.resource ≡ u = some_same (sym q.at ∙ at) in
    let low : u.latency ≤ 1 = subst (λ (x : Resource). x.latency ≤ 1) one q.fast in
    let same : card ≡ has.card = some_same (sym card_there ∙ has.at) in
    let cycles : cycles_at has.card.latency u.width ≤ 1 = subst (λ n. n ≤ 1) (latency ∙ ap (λ (c : Card). latency_at c u.width) same) low in
    record {
      m = stands.whole;
      is_module = stands.at;
      whole = has.whole;
      found = ap (module_named modules) stands.named ∙ has.found;
      resource = u;
      at = at;
      card = has.card;
      of_card = has.at;
      fast = ap (λ n. nat_lt 1 n) (latency_is design unit u at) ∙ le-ltb 1 u.latency low;
      width = refl;
      computes = quick_computes has.card.latency has.whole has.card u.width cycles (width_fits card u.width allows).0 has.is_unit.behaves;
    }

-- Units of several cycles. ------------------------------------------------------------------------------------------------

pub slow_units_are_of : SlowUnitsAreOf
slow_units_are_of design p unit sel a b y h = ap (λ n. nat_lt 1 n) (latency_is design unit h.resource h.at) ∙ lt-ltb 1 h.resource.latency h.several

-- Read ports. -------------------------------------------------------------------------------------------------------------

pub file_reads_are_of : FileReadsAreOf
file_reads_are_of design d modules banks files p joins reads file port r h =
    let bank = banks file h.of h.at in
    let has : HasReads design d modules file h.of bank p.files = reads file h.of h.at in
    let joined = joins file h.of h.at in
    let same : has.nets ≡ h.nets = some_same (sym has.at ∙ h.made) in
    let index : slice_get bank.reads port ≡ Some r.index = ap (λ (ws : List Wire). slice_get ws port) (has.reads_are ∙ ap (λ (n : FileNets). n.indices) same) ∙ h.index_at in
    let value : slice_get bank.values port ≡ Some r.value = ap (λ (ws : List Wire). slice_get ws port) (has.values_are ∙ ap (λ (n : FileNets). n.shown) same) ∙ h.value_at in
    let inside = slice_get_within bank.values port r.value value in
    record {
      of = h.of;
      at = h.at;
      within = subst (λ n. port < n) bank.placed.count inside;
      index = joined.index port r.index index;
      value = joined.value port r.value value;
    }

pub mem_reads_are_of : MemReadsAreOf
mem_reads_are_of design d p are mem r h =
    let ports : AreMemPorts d h.of h.ports = EachPair-at (AreMemPorts d) design.mems p.mems are mem h.of h.ports h.at h.made in
    let shape : MemShape = mem_shape h.of in
    record {
      of = h.of;
      at = h.at;
      index = subst (IsNamed d (mem_name shape (codes "ra"))) (sym h.index_is) (port_named d (output (mem_name shape (codes "ra")) h.of.address) h.ports.read_address ports.read_address);
      value = subst (IsNamed d (mem_name shape (codes "rd"))) (sym h.value_is) (port_named d (input (mem_name shape (codes "rd")) h.of.width) h.ports.read ports.read);
    }

-- All ports. --------------------------------------------------------------------------------------------------------------

module _ (knows : Knows) (cards : List Card) (design : Design) (d : Draft) (modules : List ModuleText) (banks : BanksFiles design d modules) (files : HasFiles design d modules) (p : Placed)
    (fits : FitsCards design cards) (parts : HasParts knows cards design modules) (placed : IsPlacedIn knows design d modules banks p) (joins : JoinsBanks design d modules banks files) where
  abbrev Is : DesignNode → Node → Type 0
  Is x n = IsPortOf design cards d modules files p.modules x n

  -- what is served with what was placed for the node is the node's, if the port has its number
  is_port : (x y : DesignNode) (s : Supply) (select : Select) (n : Node) → number_of_node x ≡ number_of_node y → IsSupplyOf design p x s → IsNodeBy design select y s n → Is x n
  is_port (design_node.Unit v) (design_node.Unit w) (by.Quick place bits) select n same is (u, at, named, made) =
      let own : slice_get design.units v ≡ Some u = ap (slice_get design.units) same ∙ at in
      let quick = quick_units_are_of knows cards design modules p placed.kinds fits parts placed.known v place bits u select is own in
      subst (Is (design_node.Unit v)) (sym made) (subst (λ k. IsQuickOf design cards modules p.modules v (quick_of u k select place bits)) same quick)
  is_port (design_node.Unit v) (design_node.Unit w) (by.Slow sel a b y) select n same is made = subst (Is (design_node.Unit v)) (sym made) (slow_units_are_of design p v sel a b y is)
  is_port (design_node.Unit v) (design_node.FileRead file port) (by.Quick place bits) select n same is made = absurd made
  is_port (design_node.Unit v) (design_node.FileRead file port) (by.Slow sel a b y) select n same is made = absurd made
  is_port (design_node.Unit v) (design_node.MemRead mem) (by.Quick place bits) select n same is made = absurd made
  is_port (design_node.Unit v) (design_node.MemRead mem) (by.Slow sel a b y) select n same is made = absurd made
  is_port (design_node.Unit v) y (by.Read index value) select n same is made = absurd is
  is_port (design_node.FileRead file port) y (by.Quick place bits) select n same is made = absurd is
  is_port (design_node.FileRead file port) y (by.Slow sel a b r) select n same is made = absurd is
  is_port (design_node.FileRead file port) (design_node.Unit w) (by.Read index value) select n same is made = absurd made
  is_port (design_node.FileRead file port) (design_node.FileRead other number) (by.Read index value) select n same is made =
      subst (Is (design_node.FileRead file port)) (sym made) (file_reads_are_of design d modules banks files p joins placed.reads file port (record { port = 32 + 4 * other + number; select = select; index = index; value = value }) is)
  is_port (design_node.FileRead file port) (design_node.MemRead other) (by.Read index value) select n same is made =
      subst (Is (design_node.FileRead file port)) (sym made) (file_reads_are_of design d modules banks files p joins placed.reads file port (record { port = 64 + other; select = select; index = index; value = value }) is)
  is_port (design_node.MemRead mem) y (by.Quick place bits) select n same is made = absurd is
  is_port (design_node.MemRead mem) y (by.Slow sel a b r) select n same is made = absurd is
  is_port (design_node.MemRead mem) (design_node.Unit w) (by.Read index value) select n same is made = absurd made
  is_port (design_node.MemRead mem) (design_node.FileRead other number) (by.Read index value) select n same is made =
      subst (Is (design_node.MemRead mem)) (sym made) (mem_reads_are_of design d p placed.mems_are mem (record { port = 32 + 4 * other + number; select = select; index = index; value = value }) is)
  is_port (design_node.MemRead mem) (design_node.MemRead other) (by.Read index value) select n same is made =
      subst (Is (design_node.MemRead mem)) (sym made) (mem_reads_are_of design d p placed.mems_are mem (record { port = 64 + other; select = select; index = index; value = value }) is)

-- the node of which a port was made
record WasNode (design : Design) (choices : List Choice) (supplies : List Supplied) (n : Node) : Type 0 where
  x : DesignNode
  is : IsNodeFor design choices supplies x n

was_node : (design : Design) (choices : List Choice) (supplies : List Supplied) (order : List DesignNode) (nodes : List Node) → AreNodesFor design choices supplies order nodes → (place : ℕ) (n : Node) → slice_get nodes place ≡ Some n
    → WasNode design choices supplies n
was_node design choices supplies order nodes are place n at =
    let inside = slice_get_within nodes place n at in
    let long : length nodes ≡ length order = are.long in
    let (x, there) = some_within order place (omega (arith, inside, long)) in
    record { x = x; is = are.each place x n there at }

pub ports_are_of : SuppliedPortsAreOf
ports_are_of knows cards design d modules banks files p choices supplies order nodes fits parts placed joins supplied are place x n at number numbered =
    let was = was_node design choices supplies order nodes are place n at in
    let same : number_of_node x ≡ number_of_node was.x = number ∙ port_is design was.is.select was.x was.is.supply n was.is.made in
    let own = supplied x was.is.supply numbered (ap (supply_of supplies) same ∙ was.is.found) in
    is_port knows cards design d modules banks files p fits parts placed joins x was.x was.is.supply was.is.select n same own was.is.made

-- Wires of units that were placed. ----------------------------------------------------------------------------------------

joined_by : (design : Design) (p : Placed) (y : DesignNode) (s : Supply) (select : Select) (x : SlowUnit) → IsSupplyOf design p (design_node.Unit x.port) s → IsNodeBy design select y s (node.Slow x) → JoinsPlaced p x
joined_by design p (design_node.Unit v) (by.Slow sel a b y) select x is made =
    let same : x ≡ record { port = v; select = select; sel = sel; a = a; b = b; y = y } = cc in
    record {
      placed = is.placed;
      among = is.among;
      own = is.own;
      wires = record {
        sel = ap (λ (u : SlowUnit). u.sel) same ∙ is.sel_is;
        a = ap (λ (u : SlowUnit). u.a) same ∙ is.a_is;
        b = ap (λ (u : SlowUnit). u.b) same ∙ is.b_is;
        y = ap (λ (u : SlowUnit). u.y) same ∙ is.y_is;
      };
    }
joined_by design p (design_node.Unit v) (by.Quick place bits) select x is (u, at, named, made) = absurd cc
joined_by design p (design_node.Unit v) (by.Read index value) select x is made = absurd made
joined_by design p (design_node.FileRead file port) (by.Read index value) select x is made = absurd cc
joined_by design p (design_node.FileRead file port) (by.Quick place bits) select x is made = absurd made
joined_by design p (design_node.FileRead file port) (by.Slow sel a b y) select x is made = absurd made
joined_by design p (design_node.MemRead mem) (by.Read index value) select x is made = absurd cc
joined_by design p (design_node.MemRead mem) (by.Quick place bits) select x is made = absurd made
joined_by design p (design_node.MemRead mem) (by.Slow sel a b y) select x is made = absurd made

pub slow_ports_are_placed : SlowPortsArePlaced
slow_ports_are_placed design p choices supplies order nodes supplied are place x at low =
    let was = was_node design choices supplies order nodes are place (node.Slow x) at in
    let same : x.port ≡ number_of_node was.x = port_is design was.is.select was.x was.is.supply (node.Slow x) was.is.made in
    let own = supplied (design_node.Unit x.port) was.is.supply low (ap (supply_of supplies) same ∙ was.is.found) in
    joined_by design p was.x was.is.supply was.is.select x own was.is.made
