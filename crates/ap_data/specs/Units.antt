-- What a unit of several cycles is asked by the lines of a stage, and what they get from it.
use Rattle.std.specs.Prelude.{◌≡◌, ℕ, ◌<◌, List, length, slice_get, Some, true}
use Rattle.ap_bits.specs.declared.card.Card.{Card}
use Rattle.ap_desc.specs.Chains.{maker_in}
use Rattle.ap_desc.specs.Clean.{FitsCards}
use Rattle.ap_desc.specs.declared.design.Act.TheVariants as act
use Rattle.ap_desc.specs.declared.design.Arg.{Arg}
use Rattle.ap_desc.specs.declared.design.Arg.TheVariants as arg
use Rattle.ap_desc.specs.declared.design.Design.{Design}
use Rattle.ap_desc.specs.declared.design.Instr.{Instr}
use Rattle.ap_desc.specs.declared.design.Micro.{Micro}
use Rattle.ap_desc.specs.declared.design.Unit.{Unit as Resource}
use Rattle.ap_model.specs.Fire.{instr_of, lines_in}
use Rattle.ap_model.specs.UnitUse.{asks, lines_ask}
use Rattle.ap_net.specs.declared.cell.Wire.{Wire}
use Rattle.ap_net.specs.declared.net.Instance.{Instance}
use Rattle.ap_net.specs.Draft.{Draft}
use Rattle.ap_net.specs.Modules.{ModuleText, module_named}
use Rattle.ap_net.specs.Readings.{Reading}
use Rattle.ap_stage.specs.declared.chain.Node.{Node}
use Rattle.ap_stage.specs.declared.chain.Node.TheVariants as node
use Rattle.ap_stage.specs.declared.node.Course.{Course}
use Rattle.ap_stage.specs.declared.serve.SlowUnit.{SlowUnit}
use Rattle.ap_stage.specs.declared.source.Ground.{Ground}
use Rattle.ap_border.specs.Files.{HasFiles}
use Rattle.ap_border.specs.StageData.{WhereMatched}
use Rattle.ap_data.specs.Stage.{IsStageOf, data_value}

-- the wires of the stage's port are joined to this instance: what it is asked, and its result
pub record JoinsUnit (d : Draft) (modules : List ModuleText) (k : ℕ) (x : SlowUnit) : Type 0 where
  pub of : Instance
  pub placed : slice_get d.instances k ≡ Some of
  pub whole : ModuleText
  pub found : module_named modules of.module ≡ Some whole
  pub sel : slice_get of.nets 0 ≡ Some x.sel
  pub a : slice_get of.nets 1 ≡ Some x.a
  pub b : slice_get of.nets 2 ≡ Some x.b
  pub y : slice_get of.nets 6 ≡ Some x.y

-- The instance is asked what the one line of the instruction asks that uses the unit, by an operation of the card; and the local of a line
-- that uses it has the result.
pub record AsksInstance (d : Draft) (modules : List ModuleText) (word : Wire) (instr : Instr) (value : Reading → Arg → ℕ) (stage unit k : ℕ) (card : Card) : Type 0 where
  pub chosen : WhereMatched d modules word instr (λ r. r.parts k 0 < length card.ops)
  pub asked : WhereMatched d modules word instr (λ r. lines_ask (value r) unit (lines_in stage instr) ≡ Some (record { sel = r.parts k 0; a = r.parts k 1; b = r.parts k 2 }))
  pub result : (n op : ℕ) (a b : Arg) (m : Micro) → maker_in instr stage (arg.Local n) ≡ Some m → m.act ≡ act.Compute unit op a b
      → WhereMatched d modules word instr (λ r. (value r (arg.Local n) ≡ r.parts k 6) × (r.parts k 0 ≡ op) × (r.parts k 1 ≡ value r a) × (r.parts k 2 ≡ value r b))

-- So is each unit of several cycles that an instruction of the stage asks.
abbrev pub UnitsAreAsked : Type 0
UnitsAreAsked = (design : Design) (cards : List Card) (d : Draft) (modules : List ModuleText) (files : HasFiles design d modules) (units : List ModuleText) (home : ℕ → Instr → ℕ → ℕ) (stage : ℕ) (base : Ground) (courses : List Course) (nodes : List Node)
    → FitsCards design cards → IsStageOf design cards d modules files units home stage base courses nodes → (k : ℕ) (instr : Instr) (c : Course) → slice_get design.instrs k ≡ Some instr → slice_get courses k ≡ Some c
    → (unit part : ℕ) (resource : Resource) (card : Card) → slice_get design.units unit ≡ Some resource → slice_get cards resource.kind ≡ Some card
    → ((place : ℕ) (x : SlowUnit) → slice_get nodes place ≡ Some (node.Slow x) → x.port ≡ unit → JoinsUnit d modules part x) → (seen : ℕ) → instr_of design seen ≡ Some instr → asks design stage seen unit ≡ true
    → AsksInstance d modules base.word instr (λ r a. data_value design r base c a) stage unit part card
