-- The nets of control beside the valid bits, which a draft has already.
use Rattle.std.specs.Prelude.{◌≡◌, ℕ, ◌++◌, List, length}
use Rattle.std.specs.List.{AllByRecursion as Each}
use Rattle.ap_desc.specs.declared.design.Design.{Design}
use Rattle.ap_net.specs.declared.cell.Wire.{Wire}
use Rattle.ap_net.specs.Draft.{Draft}
use Rattle.ap_net.specs.Ready.{Dependence, ReadyAfter, numbers}
use Rattle.ap_ctl.specs.declared.control.Made.{Made}
use Rattle.ap_ctl.specs.declared.nets.ControlGiven.{ControlGiven}
use Rattle.ap_ctl.specs.Given.{holding, killing}
use Rattle.ap_ctl.specs.Lists.{EachFrom, EachPair}
use Rattle.ap_ctl.specs.Meaning.{fires, is_held, kills, next_valid}
use Rattle.ap_ctl.specs.Nets.{AreDecoded, FollowsWord, Shows}

-- what each of them always tells
pub record IsMade (design : Design) (given : ControlGiven) (valid : List Wire) (d : Draft) (m : Made) : Type 0 where
  pub decoded : EachPair (AreDecoded design d) given.words m.decoded
  pub hold : (stage : ℕ) → Shows design given valid d (λ look. is_held design look stage) m.gates.hold
  pub kill : Shows design given valid d (kills design) m.gates.kill
  pub flights : length m.fires ≡ length valid
  pub fires : EachFrom (λ stage. Shows design given valid d (λ look. fires design look stage)) 1 m.fires
  pub count : length m.next ≡ length valid
  pub next : EachFrom (λ stage. Shows design given valid d (λ look. next_valid design look stage)) 1 m.next

-- and what they follow from
pub record MadeFollows (given : ControlGiven) (valid : List Wire) (d : Draft) (m : Made) : Type 0 where
  pub hold : (by : Dependence) → ReadyAfter by d (numbers valid ++ holding given) m.gates.hold.number
  pub decoded : EachPair (FollowsWord d) given.words m.decoded
  pub fires : (by : Dependence) → Each (λ (w : Wire). ReadyAfter by d (numbers valid ++ killing given) w.number) m.fires
  pub kill : (by : Dependence) → ReadyAfter by d (numbers valid ++ killing given) m.gates.kill.number
