-- What stands for the nodes of a stage stands on while wires are made, and the ports that are made of the nodes can be served.
use Rattle.std.proofs.Common.{◌≡◌, ℕ, List, [], ◌∷◌, Some, refl, sym, ap, subst, ◌∙◌}
use Rattle.std.specs.Prelude.{slice_get}
use Rattle.std.specs.List.{AllByRecursion as Each}
use Rattle.std.proofs.lemmas.Option.{same_Some}
use Rattle.ap_bits.specs.declared.card.Card.{Card}
use Rattle.ap_desc.specs.Chains.{IsNodeOf}
use Rattle.ap_desc.specs.Clean.{FitsCards}
use Rattle.ap_desc.specs.declared.design.Design.{Design}
use Rattle.ap_desc.specs.declared.design.Node.{Node as DesignNode}
use Rattle.ap_desc.specs.declared.design.Node.TheVariants as design_node
use Rattle.ap_desc.specs.declared.design.Unit.{Unit as Resource}
use Rattle.ap_merge.specs.declared.table.Select.{Select}
use Rattle.ap_net.specs.declared.cell.Wire.{Wire}
use Rattle.ap_net.specs.Draft.{Draft}
use Rattle.ap_net.specs.Late.{StayLate}
use Rattle.ap_net.specs.Making.{Makes}
use Rattle.ap_net.specs.Modules.{ModuleText}
use Rattle.ap_net.specs.Names.{IsNetName}
use Rattle.ap_net.proofs.Laws.{IsNet-Makes, IsNotNumbered-other}
use Rattle.ap_ports.specs.Numbers.{number_of_node}
use Rattle.ap_signals.specs.NetRuns.{unit_part}
use Rattle.ap_stage.specs.declared.chain.Node.{Node}
use Rattle.ap_stage.specs.declared.chain.Node.TheVariants as node
use Rattle.ap_stage.specs.declared.node.Course.{Course}
use Rattle.ap_stage.specs.declared.source.Ground.{Ground}
use Rattle.ap_stage.specs.Chained.{IsNode}
use Rattle.ap_stage.specs.Served.{IsGiven, IsServable, names_placed, port_of, wires_of}
use Rattle.ap_stage.proofs.Shallow.{shallow_on}
use Rattle.ap_course.specs.Instrs.{AreCoursesOf, IsGroundOf}
use Rattle.ap_course.proofs.Fitting.{fit_files, fit_mems, fit_units}
use Rattle.ap_stages.specs.Stood.{Stands, wires_with}
use Rattle.ap_stages.specs.Supplies.{IsNodeBy, quick_of}
use Rattle.ap_stages.specs.declared.nodes.Supply.{Supply}
use Rattle.ap_stages.specs.declared.nodes.Supply.TheVariants as by

-- What stands, as wires are made. ------------------------------------------------------------------------------------------

given_on : (a b : Draft) (y : Wire) → Makes a b → IsGiven a y → IsGiven b y
given_on a b y makes h = record { net = IsNet-Makes _ _ _ makes h.net; low = shallow_on a b 0 y.number makes.adds.extends h.low }

pub stands_on : (design : Design) (cards : List Card) (a b : Draft) (modules : List ModuleText) (x : DesignNode) (s : Supply) → Makes a b → StayLate a b → Stands design cards a modules x s → Stands design cards b modules x s
stands_on design cards a b modules (design_node.Unit v) (by.Quick place bits) makes late h = record {
  has = h.has;
  whole = h.whole;
  there = h.there;
  ports = h.ports;
  new = makes.names (unit_part h.has.unit) (IsNotNumbered-other (unit_part h.has.unit) refl) h.new;
}
stands_on design cards a b modules (design_node.Unit v) (by.Slow sel one other y) makes late h = record {
  has = h.has;
  sel_late = late sel h.sel_late;
  a_late = late one h.a_late;
  b_late = late other h.b_late;
  sel_a = h.sel_a;
  sel_b = h.sel_b;
  a_b = h.a_b;
  a_wide = h.a_wide;
  b_wide = h.b_wide;
  y_wide = h.y_wide;
  given = given_on a b y makes h.given;
}
stands_on design cards a b modules (design_node.FileRead file port) (by.Read index value) makes late h =
    (h.0, h.1, record { late = late index h.2.late; index_wide = h.2.index_wide; value_wide = h.2.value_wide; given = given_on a b value makes h.2.given })
stands_on design cards a b modules (design_node.MemRead mem) (by.Read index value) makes late h =
    (h.0, h.1, record { late = late index h.2.late; index_wide = h.2.index_wide; value_wide = h.2.value_wide; given = given_on a b value makes h.2.given })
stands_on design cards a b modules _ _ makes late h = absurd h

-- What a port that is made of a node has. ----------------------------------------------------------------------------------

pub port_is : (design : Design) (select : Select) (x : DesignNode) (s : Supply) (n : Node) → IsNodeBy design select x s n → port_of n ≡ number_of_node x
port_is design select (design_node.Unit v) (by.Quick place bits) n h = ap port_of h.3
port_is design select (design_node.Unit v) (by.Slow sel a b y) n h = ap port_of h
port_is design select (design_node.FileRead file port) (by.Read index value) n h = ap port_of h
port_is design select (design_node.MemRead mem) (by.Read index value) n h = ap port_of h
port_is design select _ _ n h = absurd h

pub wires_are : (design : Design) (select : Select) (x : DesignNode) (s : Supply) (n : Node) → IsNodeBy design select x s n → wires_of n ≡ wires_with s
wires_are design select (design_node.Unit v) (by.Quick place bits) n h = ap wires_of h.3
wires_are design select (design_node.Unit v) (by.Slow sel a b y) n h = ap wires_of h
wires_are design select (design_node.FileRead file port) (by.Read index value) n h = ap wires_of h
wires_are design select (design_node.MemRead mem) (by.Read index value) n h = ap wires_of h
wires_are design select _ _ n h = absurd h

-- the name is that of the instance of the unit of this number
pub record IsPartName (design : Design) (number : ℕ) (name : List ℕ) : Type 0 where
  pub unit : Resource
  pub at : slice_get design.units number ≡ Some unit
  pub is : name ≡ unit_part unit

pub names_are : (design : Design) (select : Select) (x : DesignNode) (s : Supply) (n : Node) → IsNodeBy design select x s n → Each (IsPartName design (number_of_node x)) (names_placed n)
names_are design select (design_node.Unit v) (by.Quick place bits) n h = subst (λ m. Each (IsPartName design v) (names_placed m)) (sym h.3) (record { unit = h.0; at = h.1; is = refl }, tt)
names_are design select (design_node.Unit v) (by.Slow sel a b y) n h = subst (λ m. Each (IsPartName design v) (names_placed m)) (sym h) tt
names_are design select (design_node.FileRead file port) (by.Read index value) n h = subst (λ m. Each (IsPartName design (number_of_node (design_node.FileRead file port))) (names_placed m)) (sym h) tt
names_are design select (design_node.MemRead mem) (by.Read index value) n h = subst (λ m. Each (IsPartName design (number_of_node (design_node.MemRead mem))) (names_placed m)) (sym h) tt
names_are design select _ _ n h = absurd h

each_all : {X : Type 0} (P Q : X → Type 0) (xs : List X) → ((x : X) → P x → Q x) → Each P xs → Each Q xs
each_all P Q [] f h = tt
each_all P Q (x ∷ xs) f h = (f x h.0, each_all P Q xs f h.1)

-- A port can be served. ----------------------------------------------------------------------------------------------------

module _ (design : Design) (cards : List Card) (stage : ℕ) (d : Draft) (modules : List ModuleText) (ground : Ground) (courses : List Course) (fits : FitsCards design cards) (of_ground : IsGroundOf design ground) (are : AreCoursesOf design stage courses) where
  pub can_be_node : (select : Select) (x : DesignNode) (s : Supply) (n : Node) → IsNodeOf design stage x → IsServable courses (number_of_node x) select → Stands design cards d modules x s → IsNodeBy design select x s n → IsNode d ground courses modules n
  can_be_node select (design_node.Unit v) (by.Quick place bits) n is_node servable h made =
      let u = h.has.unit in
      let same : made.0 ≡ u = same_Some made.0 u (sym made.1 ∙ h.has.at) in
      let is : n ≡ node.Quick (quick_of u v select place bits) = made.3 ∙ ap (λ r. node.Quick (quick_of r v select place bits)) same in
      subst (IsNode d ground courses modules) (sym is) (
        h.whole,
        h.there,
        record {
          servable = servable;
          ports = h.ports;
          is_name = subst (λ (r : Resource). IsNetName (unit_part r)) same made.2;
          other = IsNotNumbered-other (unit_part u) refl;
          new = h.new;
          fit = fit_units design cards stage v bits u h.has.card ground courses fits of_ground are is_node h.has.at h.has.kind h.has.some h.has.most h.has.room;
        },
      )
  can_be_node select (design_node.Unit v) (by.Slow sel a b y) n is_node servable h made =
      let u = h.has.unit in
      subst (IsNode d ground courses modules) (sym made) (record {
        servable = servable;
        sel = h.sel_late;
        a = h.a_late;
        b = h.b_late;
        sel_a = h.sel_a;
        sel_b = h.sel_b;
        a_b = h.a_b;
        same = h.b_wide ∙ sym h.a_wide;
        wide = h.y_wide ∙ sym h.a_wide;
        y = h.given;
        fit = rw h.a_wide (fit_units design cards stage v sel.width u h.has.card ground courses fits of_ground are is_node h.has.at h.has.kind h.has.some h.has.most h.has.room);
      })
  can_be_node select (design_node.FileRead file port) (by.Read index value) n is_node servable h made =
      subst (IsNode d ground courses modules) (sym made) (record {
        servable = servable;
        index = h.2.late;
        value = h.2.given;
        fit = rw (h.2.index_wide, h.2.value_wide) (fit_files design cards stage file port h.0 ground courses fits of_ground are is_node h.1);
      })
  can_be_node select (design_node.MemRead mem) (by.Read index value) n is_node servable h made =
      subst (IsNode d ground courses modules) (sym made) (record {
        servable = servable;
        index = h.2.late;
        value = h.2.given;
        fit = rw (h.2.index_wide, h.2.value_wide) (fit_mems design cards stage mem h.0 ground courses fits of_ground are is_node h.1);
      })
  can_be_node select _ _ n is_node servable h made = absurd h
