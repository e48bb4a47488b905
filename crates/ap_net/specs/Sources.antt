-- Inputs and registers, which no assign drives: what gives them their numbers, and that each choice of it has one solution.
use Rattle.std.specs.Prelude.{◌≡◌, ℕ, ◌<◌, ◌^◌, List, length, slice_get, slice_index, Some}
use Rattle.ap_net.specs.declared.net.ModuleNet.{ModuleNet}
use Rattle.ap_net.specs.Wiring.{IsSource, Ranked}
use Rattle.ap_net.specs.Flat.{Flat, IsFlat, IsFlatDriven, Solves, plain_nets, equations}

-- The number that each source gets from outside, where a reading gives the number of every net: what a memory answers
-- depends on the net of the address.
pub record Given (nets : List ModuleNet) : Type 0 where
  pub number : ℕ → (ℕ → ℕ) → ℕ
  pub fits : (n : ℕ) (net : ModuleNet) (read : ℕ → ℕ) → slice_get nets n ≡ Some net → IsSource net.role → number n read < 2 ^ net.width

-- what a source is given depends on declared nets of lower rank alone
abbrev pub LooksLower : (nets : List ModuleNet) → Given nets → (ℕ → ℕ) → Type 0
LooksLower nets given rank = (n : ℕ) (net : ModuleNet) (f g : ℕ → ℕ) → slice_get nets n ≡ Some net → IsSource net.role
    → ((k : ℕ) → k < length nets → rank k < rank n → f k ≡ g k) → given.number n f ≡ given.number n g

-- some rank orders the equations and what the sources are given: so no net depends on itself, through an instance or a memory
-- neither
pub record IsOrderedWith (f : Flat) (given : Given (plain_nets f.nets)) : Type 0 where
  pub rank : ℕ → ℕ
  pub ranked : Ranked rank (equations f)
  pub looks : LooksLower (plain_nets f.nets) given rank

-- every source has the number that it is given
abbrev pub Takes : (nets : List ModuleNet) → Given nets → List ℕ → Type 0
Takes nets given v = (n : ℕ) (net : ModuleNet) → slice_get nets n ≡ Some net → IsSource net.role → slice_index v n ≡ given.number n (slice_index v)

-- whatever the sources are given in some order, the equations have a solution
abbrev pub AlwaysSolvable : Type 0
AlwaysSolvable = (f : Flat) → IsFlat f → (given : Given (plain_nets f.nets)) → IsOrderedWith f given → (v : List ℕ) × Solves f v × Takes (plain_nets f.nets) given v

-- and where every net has its driver, no other one
abbrev pub SolvedOnce : Type 0
SolvedOnce = (f : Flat) → IsFlatDriven f → (given : Given (plain_nets f.nets)) → IsOrderedWith f given
    → (u v : List ℕ) → Solves f u → Solves f v → Takes (plain_nets f.nets) given u → Takes (plain_nets f.nets) given v → u ≡ v

-- two solutions that have the same numbers at inputs and registers are one, where some rank orders the equations
abbrev pub AgreeingAreEqual : Type 0
AgreeingAreEqual = (f : Flat) → IsFlatDriven f → (rank : ℕ → ℕ) → Ranked rank (equations f) → (u v : List ℕ) → Solves f u → Solves f v
    → ((n : ℕ) (net : ModuleNet) → slice_get (plain_nets f.nets) n ≡ Some net → IsSource net.role → slice_index u n ≡ slice_index v n) → u ≡ v
