-- Nets that were declared as ports, and are driven by those that show a write, or are 0.
use Rattle.std.specs.Prelude.{◌≡◌, ◌≢◌, ℕ, List, [], ◌∷◌, Option, Some, None, option_to_list}
use Rattle.std.specs.List.{AllByRecursion as Each}
use Rattle.ap_net.specs.declared.cell.Wire.{Wire}
use Rattle.ap_net.specs.Cells.{IsNet}
use Rattle.ap_net.specs.Draft.{Draft, Extends}
use Rattle.ap_net.specs.Late.{IsLate}
use Rattle.ap_net.specs.Readings.{Carries}
use Rattle.ap_net.specs.Ready.{Dependence, ReadyAfter, numbers}
use Rattle.ap_net.specs.Wiring.{NoneTwice}
use Rattle.ap_effect.specs.declared.write.WriteNets.{WriteNets}

-- Late nets of these numbers were driven, and nothing else came.
pub record Wires (driven : List ℕ) (old new : Draft) : Type 0 where
  pub extends : Extends old new
  pub nets : new.nets ≡ old.nets
  pub nexts : new.nexts ≡ old.nexts
  pub instances : new.instances ≡ old.instances
  pub late : (x : Wire) → Each (λ n. n ≢ x.number) driven → IsLate old x → IsLate new x

-- the net is driven by the other: it has its value, and is ready once the other is
pub record IsCopy (d : Draft) (to from : Wire) : Type 0 where
  pub carries : Carries d from.width (λ r x. x ≡ r.read from.number) to
  pub came : (by : Dependence) → ReadyAfter by d (from.number ∷ []) to.number

-- the net is driven by nothing: it is always 0
pub record IsAtRest (d : Draft) (to : Wire) : Type 0 where
  pub never : Carries d to.width (λ r x. x ≡ 0) to
  pub came : (by : Dependence) → ReadyAfter by d [] to.number

-- a net that was declared is driven by another
pub record JoinsNet (to from : Wire) (old new : Draft) : Type 0 where
  pub copy : IsCopy new to from
  pub wires : Wires (to.number ∷ []) old new

pub record RestsNet (to : Wire) (old new : Draft) : Type 0 where
  pub rest : IsAtRest new to
  pub wires : Wires (to.number ∷ []) old new

-- the net is driven later, the other is there, and they are as wide
pub record CanJoinNet (d : Draft) (to from : Wire) : Type 0 where
  pub late : IsLate d to
  pub net : IsNet d.nets from
  pub same : to.width ≡ from.width

abbrev pub CanJoinIndex : Draft → Option Wire → Option Wire → Type 0
CanJoinIndex d None None = Unit {0}
CanJoinIndex d (Some to) (Some from) = CanJoinNet d to from
CanJoinIndex d _ _ = ⊥

-- the numbers of a port's nets
abbrev pub index_numbers : Option Wire → List ℕ
index_numbers index = numbers (option_to_list index)

abbrev pub port_numbers : WriteNets → List ℕ
port_numbers port = port.enable.number ∷ port.value.number ∷ index_numbers port.index

-- A port whose nets are driven later, and a write that fits it.
pub record CanJoin (d : Draft) (to from : WriteNets) : Type 0 where
  pub enable : CanJoinNet d to.enable from.enable
  pub value : CanJoinNet d to.value from.value
  pub index : CanJoinIndex d to.index from.index
  pub apart : NoneTwice (port_numbers to)

abbrev pub IsCopyIndex : Draft → Option Wire → Option Wire → Type 0
IsCopyIndex d None None = Unit {0}
IsCopyIndex d (Some to) (Some from) = IsCopy d to from
IsCopyIndex d _ _ = ⊥

pub record JoinsIndex (to from : Option Wire) (old new : Draft) : Type 0 where
  pub copy : IsCopyIndex new to from
  pub wires : Wires (index_numbers to) old new

-- Each net of the port is driven by that of the write.
pub record JoinsPort (to from : WriteNets) (old new : Draft) : Type 0 where
  pub enable : IsCopy new to.enable from.enable
  pub value : IsCopy new to.value from.value
  pub index : IsCopyIndex new to.index from.index
  pub wires : Wires (port_numbers to) old new

-- A port whose nets are driven later, and that nobody uses.
abbrev pub AreLate : Draft → List Wire → Type 0
AreLate d nets = Each (IsLate d) nets × NoneTwice (numbers nets)

-- The nets are 0.
pub record RestsNets (nets : List Wire) (old new : Draft) : Type 0 where
  pub rest : Each (IsAtRest new) nets
  pub wires : Wires (numbers nets) old new
