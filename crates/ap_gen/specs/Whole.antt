-- What a top that was put together of its parts is: built in steps of the pieces of a processor, with all its nets in order, and of instances
-- that fit any modules that have the design's parts.
use Rattle.std.specs.Prelude.{ℕ, List, ◌++◌, flat_map, map}
use Rattle.std.specs.List.{AllByRecursion as Each}
use Rattle.ap_bits.specs.declared.card.Card.{Card}
use Rattle.ap_desc.specs.Clean.{FitsCards}
use Rattle.ap_desc.specs.declared.design.Design.{Design}
use Rattle.ap_net.specs.declared.cell.Wire.{Wire}
use Rattle.ap_net.specs.Draft.{Draft, IsKept}
use Rattle.ap_net.specs.Modules.{IsInstanceIn, ModuleText}
use Rattle.ap_net.specs.Ready.{numbers}
use Rattle.ap_signals.specs.DesignOutside.{outside_of}
use Rattle.ap_stage.specs.Served.{stage_wires}
use Rattle.ap_stages.specs.Stages.{all_nodes}
use Rattle.ap_front.specs.NewNames.{ported}
use Rattle.ap_front.specs.Opened.{front_wires}
use Rattle.ap_parts.specs.Known.{AreKnown, HasParts, dependence_of, known_by}
use Rattle.ap_steps.specs.Steps.{placed_by}
use Rattle.ap_steps.specs.TopOrder.{TopDrafts, TopNumbers, steps_of}
use Rattle.ap_built.specs.Ordered.{IsTopOrdered}
use Rattle.ap_built.specs.Top.{IsTopBuilt}
use Rattle.ap_lead.specs.Declaring.{opened}
use Rattle.ap_lead.specs.Leading.{given_numbers, mem_read, output_numbers}
use Rattle.ap_lead.specs.Seen.{lead_registers}
use Rattle.ap_lead.specs.Storing.{index_numbers}
use Rattle.ap_work.specs.Ordering as work
use Rattle.ap_act.specs.Acting as act
use Rattle.ap_gen.specs.declared.tables.Tables.{Tables}
use Rattle.ap_gen.specs.declared.top.Top.{Top}
use Rattle.ap_gen.specs.Tables.{AreTablesOf}
use Rattle.ap_gen.specs.Tops.{Tops, control_of, front_of, ports_of, regs_of}

-- the drafts, step by step
abbrev pub drafts_of : (design : Design) (tables : Tables) (modules : List ModuleText) (places : List ℕ) (made : Top) (new : Draft) → Tops design tables modules places made new → TopDrafts
drafts_of design tables modules places made new h =
    let rested = h.before.before in
    let staged = rested.before in
    let leads = staged.starts.leads in
    let works = staged.starts.works in
    record {
      ported = ported design;
      opened = opened design tables.slots.stages;
      declared = leads.first;
      registered = leads.driven;
      filed = staged.starts.filed;
      united = works.united;
      stood = works.stood;
      controlled = works.controlled;
      steered = staged.steered;
      staged = rested.staged;
      idled = rested.rests.idled;
      rested = h.before.rested;
      written = h.before.acts.written;
      transferred = h.acted;
      flown = h.flows.flown;
      fetched = h.flows.fetched;
      shown = new;
      files = leads.stores.placed;
      slow = works.placed.parts;
      quick = staged.makes.staged.serves.placed;
      idle = rested.rests.idles.placed;
    }

-- the numbers of its nets
abbrev pub numbers_of : Top → TopNumbers
numbers_of made =
    let s = made.start in
    let p = ports_of s in
    let c = control_of s in
    record {
      front = numbers (front_wires (front_of s));
      regs = numbers (regs_of s);
      valid = numbers c.valid;
      address = p.iaddr.number;
      word = p.idata.number;
      given = given_numbers p;
      mems = map mem_read p.mems;
      outputs = output_numbers p;
      stall = p.stall.number;
      kill_shown = p.kill.number;
      indices = index_numbers s.lead.files;
      units = map work.numbers_of s.work.units;
      taken = s.work.taken.number;
      decoded = flat_map numbers c.decoded;
      hold = numbers c.hold;
      kill = c.kill.number;
      fires = numbers c.fires;
      driven = numbers (stage_wires (all_nodes made.stages.stages.items));
      rows = flat_map act.stage_numbers made.stages.stages.items;
    }

-- its registers: of the front, of the description, and the valid bits
abbrev pub registers_of : Top → List Wire
registers_of made = lead_registers made.start.lead ++ (control_of made.start).valid

-- What came in each step is in order.
abbrev pub TopsAreOrdered : Type 0
TopsAreOrdered = (cards : List Card) (design : Design) (tables : Tables) (modules : List ModuleText) (places : List ℕ) (kinds : ℕ) (made : Top) (new : Draft) → FitsCards design cards → HasParts (known_by cards) cards design modules
    → AreKnown (known_by cards) design modules places kinds → AreTablesOf design tables → IsKept new → (h : Tops design tables modules places made new)
    → IsTopOrdered (dependence_of (known_by cards).names design) (outside_of design) (registers_of made) (drafts_of design tables modules places made new h) (numbers_of made)

-- Its pieces are those of a processor, whatever the modules are that have the design's parts, and their cards.
abbrev pub TopsAreBuilt : Type 0
TopsAreBuilt = (cards other : List Card) (design : Design) (tables : Tables) (modules exchange : List ModuleText) (places : List ℕ) (kinds : ℕ) (made : Top) (new : Draft) → FitsCards design cards → HasParts (known_by cards) cards design modules
    → AreKnown (known_by cards) design modules places kinds → AreTablesOf design tables → IsKept new → FitsCards design other → HasParts (known_by cards) other design exchange → Tops design tables modules places made new
    → IsTopBuilt design other new exchange

-- Its instances are instances of these.
abbrev pub TopsFitParts : Type 0
TopsFitParts = (cards other : List Card) (design : Design) (tables : Tables) (modules exchange : List ModuleText) (places : List ℕ) (kinds : ℕ) (made : Top) (new : Draft) → FitsCards design cards → HasParts (known_by cards) cards design modules
    → AreKnown (known_by cards) design modules places kinds → IsKept new → FitsCards design other → HasParts (known_by cards) other design exchange → (h : Tops design tables modules places made new)
    → Each (IsInstanceIn exchange) (placed_by (steps_of (drafts_of design tables modules places made new h)))
