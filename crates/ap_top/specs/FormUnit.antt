-- The module of the unit, which a boxed kind builds: the processor knows it by its card alone.
use Rattle.std.specs.Prelude.{◌≡◌, ℕ, ◌<◌, ◌≤◌, ◌^◌, List, ◌++◌, codes}
use Rattle.std.specs.Fmt.{decimal}
use Rattle.ap_bits.specs.declared.card.Latency.TheVariants.{One}
use Rattle.ap_bits.specs.Cards.{select_width}
use Rattle.ap_net.specs.Modules.{ModuleText, IsModule}
use Rattle.ap_unit.specs.Units.{IsUnit, ports_by}
use Rattle.ap_top.specs.Additions.{Operation, IsQuick}

-- the name of the module, by its width
abbrev pub unit_name : ℕ → List ℕ
unit_name width = codes "k_alu_" ++ decimal width

-- The module is a unit of the operation's card at w bits, which can do the operation in one cycle, and its input sel has s
-- bits. Whether it has registers, and of what it is built, doesn't matter.
pub record IsFormUnit (operation : Operation) (w s : ℕ) (m : ModuleText) : Type 0 where
  pub name : m.name ≡ unit_name w
  pub kept : IsModule m
  pub unit : IsUnit m operation.card w
  pub quick : IsQuick operation w
  pub select : select_width operation.card ≡ s

-- What the circuit sees of it: its name and its ports. A number of an operation fits sel.
pub record IsSeen (w number select : ℕ) (m : ModuleText) : Type 0 where
  pub name : m.name ≡ unit_name w
  pub ports : m.ports ≡ ports_by One select w
  pub low : 1 ≤ select
  pub high : select ≤ 64
  pub fits : number < 2 ^ select
