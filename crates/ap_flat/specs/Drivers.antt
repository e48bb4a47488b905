-- What drives each net of an opened netlist.
use Rattle.std.specs.Prelude.{◌≡◌, ℕ, ◌<◌, List, [], ◌∷◌, map, length, slice_get, Some}
use Rattle.std.specs.List.{AllByRecursion as Each}
use Rattle.ap_net.specs.declared.cell.Wire.{Wire}
use Rattle.ap_net.specs.declared.cell.Cell.{Cell}
use Rattle.ap_net.specs.declared.net.Assign.{Assign}
use Rattle.ap_net.specs.declared.net.Port.{Port}
use Rattle.ap_net.specs.Cells.{operands}
use Rattle.ap_net.specs.Pending.{Among}
use Rattle.ap_net.specs.Flat.{Flat, equations}
use Rattle.ap_flat.specs.declared.driver.Driver.{Driver}
use Rattle.ap_flat.specs.declared.driver.Driver.TheVariants as driver
use Rattle.ap_flat.specs.Dependence.{Looks}

-- the nets that are read for it
abbrev pub reads_of : Driver → List ℕ
reads_of driver.Given = []
reads_of (driver.Looks m) = m ∷ []
reads_of (driver.Equation cell) = map (λ (o : Wire). o.number) (operands cell)

-- an equation of these drives the net n by this cell
pub record Drives (assigns : List Assign) (n : ℕ) (cell : Cell) : Type 0 where
  pub place : ℕ
  pub equation : Assign
  pub among : slice_get assigns place ≡ Some equation
  pub to : equation.to.number ≡ n
  pub by : equation.cell ≡ cell

-- the drivers are those of these equations
pub record AreEquations (assigns : List Assign) (drivers : List Driver) : Type 0 where
  pub every : (n : ℕ) (cell : Cell) → Drives assigns n cell → slice_get drivers n ≡ Some (driver.Equation cell)
  pub only : (n : ℕ) (cell : Cell) → slice_get drivers n ≡ Some (driver.Equation cell) → Drives assigns n cell
  pub given : (n m : ℕ) → slice_get drivers n ≡ Some (driver.Looks m) → ⊥

-- what drives each net of a netlist: the cell of its equation, or the port by which the outside looks it up, or else the outside
-- or a clock edge gives it
pub record AreDrivers (f : Flat) (ports : List Port) (drivers : List Driver) : Type 0 where
  pub long : length drivers ≡ length f.nets
  pub every : (n : ℕ) (cell : Cell) → Drives (equations f) n cell → slice_get drivers n ≡ Some (driver.Equation cell)
  pub only : (n : ℕ) (cell : Cell) → slice_get drivers n ≡ Some (driver.Equation cell) → Drives (equations f) n cell
  pub looked : (n m : ℕ) → Looks ports n m → slice_get drivers n ≡ Some (driver.Looks m)
  pub looks : (n m : ℕ) → slice_get drivers n ≡ Some (driver.Looks m) → Looks ports n m

-- the net n has a driver that reads the net m
pub record Reads (drivers : List Driver) (n m : ℕ) : Type 0 where
  pub by : Driver
  pub at : slice_get drivers n ≡ Some by
  pub read : Among (reads_of by) m

-- all that is read is below this number
abbrev pub AreWithin : List Driver → ℕ → Type 0
AreWithin drivers count = (n : ℕ) (by : Driver) → slice_get drivers n ≡ Some by → Each (λ m. m < count) (reads_of by)
