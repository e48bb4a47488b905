-- What every piece of circuit says of what it makes.
use Rattle.std.specs.Prelude.{◌≡◌, ℕ, ◌<◌, ◌≤◌, List, ◌++◌, length}
use Rattle.std.specs.List.{AllByRecursion as Each}
use Rattle.ap_net.specs.declared.net.Assign.{Assign}
use Rattle.ap_net.specs.Modules.{ports_among}
use Rattle.ap_net.specs.Draft.{Draft, Extends, Adds, RegistersBelow, CanFresh, KeepsNew}
use Rattle.ap_net.specs.Ready.{Dependence, Ready}

-- Whatever is built further on, every net of the new draft is ready where those of the old one are.
abbrev pub ReadyOver : Dependence → Draft → Draft → Type 0
ReadyOver by old new = (later : Draft) → Extends new later → ((n : ℕ) → n < length old.nets → Ready by later n) → (n : ℕ) → n < length new.nets → Ready by later n

-- the assigns that came drive nets that came
pub record DrivesItsOwn (old new : Draft) : Type 0 where
  pub more : List Assign
  pub assigns : new.assigns ≡ old.assigns ++ more
  pub above : Each (λ (a : Assign). length old.nets ≤ a.to.number) more

-- What came is driven by what came, and follows from what was there; no register is among it.
pub record Closes (old new : Draft) : Type 0 where
  pub ready : (by : Dependence) → ReadyOver by old new
  pub own : DrivesItsOwn old new
  pub registers : (k : ℕ) → RegistersBelow old.nets k → RegistersBelow new.nets k

-- Fresh wires were made, each with its cell: they are driven, further ones can be had, a name that isn't n and a number
-- is as new as it was, and the ports are as they were.
pub record Makes (old new : Draft) : Type 0 where
  pub adds : Adds old new
  pub instances : new.instances ≡ old.instances
  pub closes : Closes old new
  pub fresh : CanFresh old → CanFresh new
  pub names : KeepsNew old new
  pub ports : ports_among new.nets ≡ ports_among old.nets
