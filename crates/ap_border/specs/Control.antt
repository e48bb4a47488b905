-- Control in a finished draft, and what the signals of its run show of it.
use Rattle.std.specs.Prelude.{◌≡◌, ℕ, ◌+◌, ◌-◌, ◌<◌, ◌==◌, false, List, codes, length, slice_get, Some}
use Rattle.ap_desc.specs.declared.design.Design.{Design}
use Rattle.ap_desc.specs.declared.design.Unit.{Unit as Resource}
use Rattle.ap_net.specs.declared.cell.Wire.{Wire}
use Rattle.ap_net.specs.Draft.{Draft}
use Rattle.ap_net.specs.Modules.{ModuleText}
use Rattle.ap_net.specs.Readings.{Reading}
use Rattle.ap_cycle.specs.Circuit.{EachStage}
use Rattle.ap_signals.specs.NetRuns.{NetRun, net_value, unit_part, valid_name, word_name}
use Rattle.ap_signals.specs.NetSignals.{net_signals, stage_valid, stage_word, unit_value_at}
use Rattle.ap_ctl.specs.declared.nets.ControlGiven.{ControlGiven}
use Rattle.ap_ctl.specs.declared.nets.ControlNets.{ControlNets}
use Rattle.ap_ctl.specs.Border.{ShowsControl}
use Rattle.ap_ctl.specs.Building.{is_on}
use Rattle.ap_ctl.specs.Given.{slow_units}
use Rattle.ap_ctl.specs.Lists.{EachFrom, EachPair}
use Rattle.ap_ctl.specs.Meaning.{Look, is_held, kills, next_valid}
use Rattle.ap_ctl.specs.Nets.{IsControl, Shows}
use Rattle.ap_border.specs.Named.{IsNamed, IsPartNet, IsReadBy, IsRegisterNamed, IsZeroNamed}

-- the busy net of a unit
pub record IsBusyOf (design : Design) (d : Draft) (modules : List ModuleText) (unit : ℕ) (w : Wire) : Type 0 where
  pub resource : Resource
  pub at : slice_get design.units unit ≡ Some resource
  pub net : IsPartNet d modules (unit_part resource) (codes "busy") w

-- the register that has the word of a stage
abbrev pub IsWordOf : Draft → ℕ → Wire → Type 0
IsWordOf d stage w = (from : Wire) × IsRegisterNamed d (word_name stage) 0 w from

-- Control by names: what it is given and what it makes stand at the names by which signals are read, and ports show what it says.
pub record HasControl (design : Design) (d : Draft) (modules : List ModuleText) (given : ControlGiven) (nets : ControlNets) : Type 0 where
  pub control : IsControl design given d nets
  pub words : EachFrom (IsWordOf d) 1 given.words
  pub valid : EachFrom (λ stage. IsZeroNamed d (valid_name stage)) 1 nets.valid
  pub count : length nets.valid ≡ design.stages - 1
  pub mwait : IsNamed d (codes "mwait") given.mwait
  pub busy : EachPair (IsBusyOf design d modules) (slow_units design) given.busy
  pub stall : Wire
  pub stall_named : IsNamed d (codes "stall") stall
  pub stall_shows : (stage : ℕ) → Shows design given nets.valid d (λ look. is_held design look stage) stall
  pub kill : Wire
  pub kill_named : IsNamed d (codes "kill") kill
  pub kill_shows : Shows design given nets.valid d (kills design) kill

-- what control looks at in a cycle of a run
abbrev pub look_at : Design → ControlGiven → NetRun → (ℕ → Reading) → ℕ → Look
look_at design given run reading j = record {
  word = stage_word run j;
  valid = stage_valid run j;
  wait = net_value run j (codes "mwait") == 1;
  busy = λ unit. unit_value_at design run j unit (codes "busy") == 1;
  taken = is_on (reading j) given.taken;
}

-- a draft with control, and its run
pub record RunsControl (design : Design) (given : ControlGiven) (run : NetRun) (c : ℕ) (reading : ℕ → Reading) : Type 0 where
  pub draft : Draft
  pub modules : List ModuleText
  pub nets : ControlNets
  pub read : IsReadBy draft modules run c reading
  pub has : HasControl design draft modules given nets

-- the signals of each cycle show what control means by what it looks at
abbrev pub ControlIsShown : Type 0
ControlIsShown = (design : Design) (given : ControlGiven) (run : NetRun) (c : ℕ) (reading : ℕ → Reading) → RunsControl design given run c reading
    → (j : ℕ) → j < c → ShowsControl design (look_at design given run reading j) (net_signals design run j)

-- no stage has a word at the start
abbrev pub ValidBitsStart : Type 0
ValidBitsStart = (design : Design) (given : ControlGiven) (run : NetRun) (c : ℕ) (reading : ℕ → Reading) → RunsControl design given run c reading → EachStage design (λ stage. (net_signals design run 0).valid stage ≡ false)

-- and in the next cycle those that control says
abbrev pub ValidBitsGo : Type 0
ValidBitsGo = (design : Design) (given : ControlGiven) (run : NetRun) (c : ℕ) (reading : ℕ → Reading) → RunsControl design given run c reading
    → (j : ℕ) → j < c → EachStage design (λ stage. (net_signals design run (j + 1)).valid stage ≡ next_valid design (look_at design given run reading j) stage)
