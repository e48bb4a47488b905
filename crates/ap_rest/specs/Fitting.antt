-- Units that no line uses, by what a top knows of modules: they can be placed, and fit any modules that have the design's parts.
use Rattle.std.specs.Prelude.{ℕ, List, []}
use Rattle.std.specs.List.{AllByRecursion as Each}
use Rattle.ap_bits.specs.declared.card.Card.{Card}
use Rattle.ap_desc.specs.Clean.{FitsCards}
use Rattle.ap_desc.specs.declared.design.Design.{Design}
use Rattle.ap_net.specs.Draft.{Draft}
use Rattle.ap_net.specs.Modules.{IsInstanceIn, ModuleText}
use Rattle.ap_parts.specs.Known.{AreKnown, HasParts, Knows}
use Rattle.ap_steps.specs.Steps.{Grows}
use Rattle.ap_steps.specs.TopOrder.{step}
use Rattle.ap_net.specs.declared.cell.Wire.{Wire}
use Rattle.ap_rest.specs.Idle.{HaveQuickModules, IdlesUnits}
use Rattle.ap_rest.specs.Reads.{RestsLate}

-- By the places of known modules each unit of one cycle has its module.
abbrev pub KnownAreQuick : Type 0
KnownAreQuick = (knows : Knows) (design : Design) (modules : List ModuleText) (places : List ℕ) (kinds : ℕ) → AreKnown knows design modules places kinds → HaveQuickModules design modules places

-- The instances that were placed are instances of any modules that have the design's parts.
abbrev pub IdleFitParts : Type 0
IdleFitParts = (knows : Knows) (cards : List Card) (design : Design) (own : List ModuleText) (places : List ℕ) (kinds : ℕ) (modules : List ModuleText) (units : List ℕ) (a b : Draft)
    → AreKnown knows design own places kinds → FitsCards design cards → HasParts knows cards design modules → (h : IdlesUnits design own places units a b) → Each (IsInstanceIn modules) h.placed

-- Both steps grow from the draft before, the first by these instances and the second by none.
abbrev pub IdlesGrow : Type 0
IdlesGrow = (design : Design) (modules : List ModuleText) (places : List ℕ) (units : List ℕ) (a b : Draft) (h : IdlesUnits design modules places units a b) → Grows a (step b h.placed)

abbrev pub RestsGrow : Type 0
RestsGrow = (nets : List Wire) (a b : Draft) → RestsLate nets a b → Grows a (step b [])
