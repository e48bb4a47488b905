-- The pc, the address that is fetched, and what the pc takes.
use Rattle.std.specs.Prelude.{◌≡◌, ◌≢◌, ℕ, ◌+◌, ◌%◌, ◌^◌, ◌<◌, ◌≤◌, if◌then◌else◌, List, [], ◌∷◌, ◌++◌, length, codes}
use Rattle.ap_desc.specs.declared.design.Design.{Design}
use Rattle.ap_net.specs.declared.cell.Wire.{Wire}
use Rattle.ap_net.specs.Draft.{Draft, Extends, CanFresh, KeepsNew}
use Rattle.ap_net.specs.Late.{IsLate}
use Rattle.ap_net.specs.Modules.{ports_among}
use Rattle.ap_net.specs.Readings.{Carries, Reading}
use Rattle.ap_net.specs.Ready.{Dependence, ReadyAfter}
use Rattle.ap_signals.specs.NetRuns.{pc_name}
use Rattle.ap_ctl.specs.declared.nets.ControlGiven.{ControlGiven}
use Rattle.ap_ctl.specs.declared.nets.ControlNets.{ControlNets}
use Rattle.ap_ctl.specs.Building.{IsBit, is_on}
use Rattle.ap_ctl.specs.Meaning.{is_held, kills}
use Rattle.ap_ctl.specs.Nets.{Shows}
use Rattle.ap_flight.specs.Stages.{IsLike, IsOpen, TakesNet}
use Rattle.ap_border.specs.Fetch.{HasFetch}
use Rattle.ap_border.specs.Named.{IsNamed, IsZeroNamed}
use Rattle.ap_front.specs.declared.fetch.Fetching.{Fetching}

-- The pc is a register that takes nothing yet, and the address an output that is driven later; what says whether stage 0 is held and a
-- transfer is taken has one bit, and the target the bits of the pc.
pub record IsFetching (d : Draft) (f : Fetching) : Type 0 where
  pub pc : IsOpen d f.pc
  pub address : IsLate d f.address
  pub same : f.address.width ≡ f.pc.width
  pub hold : IsBit d.nets f.hold
  pub kill : IsBit d.nets f.kill
  pub target : IsLike d.nets f.pc f.target

-- the pc stays where stage 0 is held, takes the target where a transfer is taken, and else the next address
abbrev pub PcTakes : Fetching → Reading → ℕ → Type 0
PcTakes f r x = x ≡ (if is_on r f.hold then r.read f.pc.number else if is_on r f.kill then r.read f.target.number else (r.read f.pc.number + 1) % 2 ^ f.pc.width)

abbrev pub fetching_numbers : Fetching → List ℕ
fetching_numbers f = f.pc.number ∷ f.hold.number ∷ f.kill.number ∷ f.target.number ∷ []

-- The pc got what it takes, and the address shows it. Fresh wires came, which follow from these nets; all else stays.
pub record DrivesFetch (f : Fetching) (old new : Draft) : Type 0 where
  pub takes : TakesNet new (PcTakes f) f.pc
  pub shows : Carries new f.pc.width (λ r x. x ≡ r.read f.pc.number) f.address
  pub extends : Extends old new
  pub nexts : (from : Wire) × (new.nexts ≡ old.nexts ++ record { register = f.pc; from = from } ∷ [])
  pub instances : new.instances ≡ old.instances
  pub ports : ports_among new.nets ≡ ports_among old.nets
  pub fresh : CanFresh new
  pub names : KeepsNew old new
  pub late : (x : Wire) → x.number ≢ f.address.number → IsLate old x → IsLate new x
  pub came : (by : Dependence) (n : ℕ) → length old.nets ≤ n → n < length new.nets → ReadyAfter by new (fetching_numbers f) n
  pub address : (by : Dependence) → ReadyAfter by new (f.pc.number ∷ []) f.address.number

-- The pc and the address by their names, in a draft in which they are driven.
pub record IsFetched (design : Design) (d : Draft) (f : Fetching) : Type 0 where
  pub pc : IsZeroNamed d pc_name f.pc
  pub wide : f.pc.width ≡ design.address
  pub address : IsNamed d (codes "iaddr") f.address
  pub takes : TakesNet d (PcTakes f) f.pc
  pub shows : Carries d f.pc.width (λ r x. x ≡ r.read f.pc.number) f.address

-- this goes on where the draft grows
abbrev pub FetchGoesOn : Type 0
FetchGoesOn = (design : Design) (a b : Draft) (f : Fetching) → Extends a b → IsFetched design a f → IsFetched design b f

-- A draft with control has what the border asks of the pc, where its nets say what control means of them.
abbrev pub FetchGivesBorder : Type 0
FetchGivesBorder = (design : Design) (d : Draft) (given : ControlGiven) (nets : ControlNets) (f : Fetching) → IsFetched design d f
    → Shows design given nets.valid d (λ look. is_held design look 0) f.hold → Shows design given nets.valid d (kills design) f.kill → HasFetch design d given nets
