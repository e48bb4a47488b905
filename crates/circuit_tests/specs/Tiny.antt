-- A small top: a unit of several cycles that is placed before its operand and adv are driven, and a memory port whose address is
-- driven late and whose word is the operand.
use Rattle.std.specs.Prelude.{◌≡◌, ℕ, ◌==◌, List, [], ◌∷◌, codes, if◌then◌else◌}
use Rattle.ap_bits.specs.declared.card.Card.{Card}
use Rattle.ap_bits.specs.declared.card.Latency.TheVariants.{WidthPlusOne}
use Rattle.ap_net.specs.declared.cell.Wire.{Wire}
use Rattle.ap_net.specs.declared.net.Role.TheVariants as role
use Rattle.ap_net.specs.declared.net.ModuleNet.{ModuleNet}
use Rattle.ap_net.specs.declared.net.Instance.{Instance}
use Rattle.ap_net.specs.declared.net.Next.{Next}
use Rattle.ap_net.specs.Modules.{ModuleText, IsModule}
use Rattle.ap_net.specs.Placing.{placed_instance}
use Rattle.ap_net.specs.Flat.{plain_nets, opened_over, Solves}
use Rattle.ap_net.specs.Sources.{Given, Takes}
use Rattle.ap_net.specs.Finished.{IsFinished}
use Rattle.ap_net.specs.Draft.{Draft}
use Rattle.ap_unit.specs.Units.{IsUnit}
use Rattle.ap_net.specs.Ready.{Dependence}
use Rattle.ap_net.specs.Responding.{LooksAt, looked_in}
use Rattle.ap_unit.specs.declared.slow.SlowInputs.{SlowInputs}
use Rattle.ap_unit.specs.Slow.{input_nets, slow_needs}

abbrev pub wire : ℕ → ℕ → Wire
wire number width = record { number = number; width = width }

-- the nets that are declared first: a register, the ports, and two wires that are driven late
abbrev pub tiny_nets : ℕ → ℕ → List ModuleNet
tiny_nets select width = record { name = codes "r_R"; width = width; role = role.Register 0 } ∷ record { name = codes "m_M_ra"; width = 1; role = role.Output } ∷ record { name = codes "m_M_rd"; width = width; role = role.Input }
    ∷ record { name = codes "go"; width = 1; role = role.Input } ∷ record { name = codes "sel"; width = select; role = role.Input } ∷ record { name = codes "a"; width = width; role = role.Plain }
    ∷ record { name = codes "adv"; width = 1; role = role.Plain } ∷ []

abbrev pub tiny_base : ℕ → ℕ → Draft
tiny_base select width = record { name = codes "top"; nets = tiny_nets select width; assigns = []; nexts = []; instances = [] }

-- the unit's inputs, the instance, and what the register takes
abbrev pub tiny_inputs : ℕ → ℕ → SlowInputs
tiny_inputs select width = record { sel = wire 4 select; a = wire 5 width; b = wire 0 width; go = wire 3 1; adv = wire 6 1 }

abbrev pub tiny_instance : ModuleText → ℕ → ℕ → Instance
tiny_instance unit select width = placed_instance 7 (codes "u_U") unit (input_nets (tiny_inputs select width))

abbrev pub tiny_next : ℕ → Next
tiny_next width = record { register = wire 0 width; from = wire 8 width }

-- the word that is read depends on the address
abbrev pub tiny_looks : ℕ → List ℕ
tiny_looks n = if n == 2 then 1 ∷ [] else []

abbrev pub tiny_by : Dependence
tiny_by = record { looks = tiny_looks; needs = λ name. slow_needs }

-- With every unit of this name and these ports there is a solution for all that registers and inputs are given, where m_M_rd
-- may be given by what m_M_ra is.
abbrev pub AlwaysAnswers : ModuleText → ℕ → ModuleText → Type 0
AlwaysAnswers unit width top = (d : Draft) × (fin : IsFinished d top) × ((exchange : ModuleText) (card : Card) → exchange.name ≡ unit.name → exchange.ports ≡ unit.ports → IsModule exchange → card.latency ≡ WidthPlusOne → IsUnit exchange card width
    → (given : Given (plain_nets (opened_over (exchange ∷ []) top).nets)) → LooksAt (plain_nets (opened_over (exchange ∷ []) top).nets) given (looked_in top fin.place fin.back tiny_looks)
    → (v : List ℕ) × Solves (opened_over (exchange ∷ []) top) v × Takes (plain_nets (opened_over (exchange ∷ []) top).nets) given v)
