-- What instructions write through a port, by the nets of a stage. A transfer is written to the pc in the same way.
use Rattle.std.specs.Prelude.{◌≡◌, ℕ, ◌&&◌, Bool, true, IfSome, List, [], ◌∷◌, ◌++◌, Option, Some, None, filter_map, map, option_map, option_to_list, slice_get}
use Rattle.std.specs.List.{list_any}
use Rattle.std.specs.Option.{option_map_or}
use Rattle.ap_net.specs.declared.cell.Wire.{Wire}
use Rattle.ap_net.specs.declared.net.ModuleNet.{ModuleNet}
use Rattle.ap_net.specs.Cells.{IsNet}
use Rattle.ap_net.specs.Draft.{Draft, Extends}
use Rattle.ap_net.specs.Ready.{numbers}
use Rattle.ap_net.specs.Readings.{Carries, Reading}
use Rattle.ap_ctl.specs.Building.{IsBit, Tells, is_on}
use Rattle.ap_stage.specs.declared.offer.Offer.{Offer}
use Rattle.ap_effect.specs.declared.transfer.Transfer.{Transfer}
use Rattle.ap_effect.specs.declared.transfer.TransferNets.{TransferNets}
use Rattle.ap_effect.specs.declared.write.Writer.{Writer}
use Rattle.ap_effect.specs.declared.write.WriteNets.{WriteNets}

-- the condition has one bit, and so has the guard, where there is one
pub record IsGuarded (nets : List ModuleNet) (w : Writer) : Type 0 where
  pub cond : IsBit nets w.cond
  pub guard : IfSome w.guard (IsBit nets)

-- an index has so many bits, and is there where there are bits for it
abbrev pub IsIndex : List ModuleNet → Option ℕ → Option Wire → Type 0
IsIndex nets None None = Unit {0}
IsIndex nets (Some bits) (Some index) = IsNet nets index × (index.width ≡ bits)
IsIndex nets _ _ = ⊥

-- the nets of a writer are there; what it writes has so many bits
pub record IsWriter (nets : List ModuleNet) (bits : Option ℕ) (width : ℕ) (w : Writer) : Type 0 where
  pub guarded : IsGuarded nets w
  pub index : IsIndex nets bits w.index
  pub value : IsNet nets w.value
  pub wide : w.value.width ≡ width

-- parts of it: what it writes, and where, under its condition
pub record HasValue (nets : List ModuleNet) (width : ℕ) (w : Writer) : Type 0 where
  pub cond : IsBit nets w.cond
  pub value : IsNet nets w.value
  pub wide : w.value.width ≡ width

pub record HasIndex (nets : List ModuleNet) (bits : ℕ) (w : Writer) : Type 0 where
  pub cond : IsBit nets w.cond
  pub index : Wire
  pub is : w.index ≡ Some index
  pub net : IsNet nets index
  pub wide : index.width ≡ bits

-- the numbers of a writer's nets, and of those of all writers
abbrev pub writer_numbers : Writer → List ℕ
writer_numbers w = w.cond.number ∷ w.value.number ∷ numbers (option_to_list w.guard) ++ numbers (option_to_list w.index)

abbrev pub writing_numbers : List Writer → List ℕ
writing_numbers [] = []
writing_numbers (w ∷ writers) = writer_numbers w ++ writing_numbers writers

-- the numbers of what is written, and of where
abbrev pub value_numbers : List Writer → List ℕ
value_numbers writers = map (λ (w : Writer). w.value.number) writers

abbrev pub index_numbers : List Writer → List ℕ
index_numbers writers = filter_map (λ (w : Writer). option_map (λ (index : Wire). index.number) w.index) writers

-- what is written, and where, each offered under the writer's condition
abbrev pub offer_value : Writer → Offer
offer_value w = record { cond = w.cond; net = w.value }

abbrev pub offer_index : Writer → Option Offer
offer_index w = option_map (λ (index : Wire). record { cond = w.cond; net = index }) w.index

-- the writer acts: its condition is 1, and so is its guard, where it has one
abbrev pub is_acting : Reading → Writer → Bool
is_acting r w = is_on r w.cond && option_map_or (is_on r) w.guard true

-- the condition of the writer at this place is 1, and no other's
pub record IsOnlyWriter (r : Reading) (writers : List Writer) (place : ℕ) : Type 0 where
  pub on : (w : Writer) → slice_get writers place ≡ Some w → is_on r w.cond ≡ true
  pub alone : (other : ℕ) (w : Writer) → slice_get writers other ≡ Some w → is_on r w.cond ≡ true → other ≡ place

-- Where the condition of one writer alone is 1, the value is what that one writes, or where it writes.
abbrev pub GivesValue : List Writer → Reading → ℕ → Type 0
GivesValue writers r x = (place : ℕ) (w : Writer) → slice_get writers place ≡ Some w → IsOnlyWriter r writers place → x ≡ r.read w.value.number

abbrev pub GivesIndex : List Writer → Reading → ℕ → Type 0
GivesIndex writers r x = (place : ℕ) (w : Writer) (index : Wire) → slice_get writers place ≡ Some w → w.index ≡ Some index → IsOnlyWriter r writers place → x ≡ r.read index.number

-- the net of the index, where there are bits for it
abbrev pub IsIndexNet : Draft → List Writer → Option ℕ → Option Wire → Type 0
IsIndexNet d writers None None = Unit {0}
IsIndexNet d writers (Some bits) (Some index) = Carries d bits (GivesIndex writers) index
IsIndexNet d writers _ _ = ⊥

-- Something is written exactly where the stage fires and one of the writers acts; what is written, and where, is that of the one whose
-- condition alone is 1.
pub record AreWriteNets (d : Draft) (fires : Wire) (writers : List Writer) (bits : Option ℕ) (width : ℕ) (nets : WriteNets) : Type 0 where
  pub enable : Tells d (λ r. is_on r fires && list_any (is_acting r) writers) nets.enable
  pub index : IsIndexNet d writers bits nets.index
  pub value : Carries d width (GivesValue writers) nets.value

abbrev pub write_wires : WriteNets → List Wire
write_wires nets = nets.enable ∷ nets.value ∷ option_to_list nets.index

-- Transfers.

-- a transfer writes its target to the pc
abbrev pub writer_of : Transfer → Writer
writer_of t = record { cond = t.cond; guard = t.branch; index = None; value = t.target }

-- The transfer is taken exactly where the stage has a word and one of these acts; its target is that of the one whose condition alone is 1.
pub record AreTransferNets (d : Draft) (valid : Wire) (transfers : List Transfer) (width : ℕ) (nets : TransferNets) : Type 0 where
  pub taken : Tells d (λ r. is_on r valid && list_any (is_acting r) (map writer_of transfers)) nets.taken
  pub target : Carries d width (GivesValue (map writer_of transfers)) nets.target

abbrev pub transfer_wires : TransferNets → List Wire
transfer_wires nets = nets.taken ∷ nets.target ∷ []

-- What is said of a port's nets goes on where a draft grows.
abbrev pub PortsGoOn : Type 0
PortsGoOn = (a b : Draft) (fires : Wire) (writers : List Writer) (bits : Option ℕ) (width : ℕ) (nets : WriteNets) → Extends a b → AreWriteNets a fires writers bits width nets → AreWriteNets b fires writers bits width nets

abbrev pub TransfersGoOn : Type 0
TransfersGoOn = (a b : Draft) (valid : Wire) (transfers : List Transfer) (width : ℕ) (nets : TransferNets) → Extends a b → AreTransferNets a valid transfers width nets → AreTransferNets b valid transfers width nets
