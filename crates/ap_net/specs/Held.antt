-- What a register holds is said of a register that is there, and not by a look-up that gives 0 where no register has the name.
use Rattle.std.specs.Prelude.{◌≡◌, ℕ, List, length, slice_get, slice_index, Some}
use Rattle.ap_net.specs.declared.net.FlatNet.{FlatNet}
use Rattle.ap_net.specs.declared.net.Next.{Next}
use Rattle.ap_net.specs.Flat.{Flat, NamesDiffer, AreClocked, register_in}

-- the part has a register of this name, and it holds this value, where the registers' numbers stand in the order of their drivers
pub record Holds (f : Flat) (registers : List ℕ) (part : ℕ) (name : List ℕ) (value : ℕ) : Type 0 where
  pub place : ℕ
  pub driver : Next
  pub net : FlatNet
  pub driven : slice_get f.nexts place ≡ Some driver
  pub declared : slice_get f.nets driver.register.number ≡ Some net
  pub within : net.part ≡ part
  pub named : net.name ≡ name
  pub held : slice_get registers place ≡ Some value

-- what a register's driver drives holds the number at the driver's place
abbrev pub RegistersHold : Type 0
RegistersHold = (f : Flat) (registers : List ℕ) → length registers ≡ length f.nexts → (k : ℕ) (x : Next) (net : FlatNet) → slice_get f.nexts k ≡ Some x → slice_get f.nets x.register.number ≡ Some net
    → Holds f registers net.part net.name (slice_index registers k)

-- a register holds one value, which the look-up by its name finds
pub record HeldOnce : Type 0 where
  pub found : (f : Flat) (registers : List ℕ) (part : ℕ) (name : List ℕ) (value : ℕ) → NamesDiffer f.nets → AreClocked f → length registers ≡ length f.nexts → Holds f registers part name value → register_in part f registers name ≡ value
  pub once : (f : Flat) (registers : List ℕ) (part : ℕ) (name : List ℕ) (one other : ℕ) → NamesDiffer f.nets → AreClocked f → length registers ≡ length f.nexts
      → Holds f registers part name one → Holds f registers part name other → one ≡ other
