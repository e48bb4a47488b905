-- The rules that the nets, assigns and register drivers of a module keep, and the equations that they state.
use Rattle.std.specs.Prelude.{◌≡◌, ◌≢◌, ℕ, ◌<◌, ◌≤◌, ◌^◌, List, [], ◌∷◌, ◌++◌, length, codes, slice_get, map, Some, Bool, true, false}
use Rattle.std.specs.List.{AllByRecursion as Each}
use Rattle.ap_net.specs.declared.cell.Wire.{Wire}
use Rattle.ap_net.specs.declared.net.Role.{Role}
use Rattle.ap_net.specs.declared.net.Role.TheVariants as role
use Rattle.ap_net.specs.declared.net.ModuleNet.{ModuleNet}
use Rattle.ap_net.specs.declared.net.Assign.{Assign}
use Rattle.ap_net.specs.declared.net.Next.{Next}
use Rattle.ap_net.specs.declared.net.Instance.{Instance}
use Rattle.ap_net.specs.Names.{IsNetName, AreDistinct}
use Rattle.ap_net.specs.Cells.{cell_value, operands, IsNet, CellFits, widths_of}

-- inputs and registers are sources: no assign drives one
abbrev pub IsSource : Role → Type 0
IsSource role.Input = Unit {0}
IsSource role.Output = ⊥
IsSource role.Plain = ⊥
IsSource (role.Register reset) = Unit {0}

-- the value of a register after the reset edge; 0 for what is no register
abbrev pub reset_of : Role → ℕ
reset_of role.Input = 0
reset_of role.Output = 0
reset_of role.Plain = 0
reset_of (role.Register reset) = reset

-- an assign may drive the net
abbrev pub IsFree : List ModuleNet → ℕ → Type 0
IsFree nets n = (net : ModuleNet) → slice_get nets n ≡ Some net → IsSource net.role → ⊥

-- the net is a register
abbrev pub IsRegister : List ModuleNet → ℕ → Type 0
IsRegister nets n = (net : ModuleNet) → slice_get nets n ≡ Some net → net.role ≡ role.Register (reset_of net.role)

-- no assign drives the net
abbrev pub Undriven : List Assign → ℕ → Type 0
Undriven assigns n = Each (λ (a : Assign). a.to.number ≢ n) assigns

-- the register has no driver
abbrev pub Unclocked : List Next → ℕ → Type 0
Unclocked nexts n = Each (λ (x : Next). x.register.number ≢ n) nexts

-- no net is driven twice
abbrev pub DrivenOnce : List Assign → Type 0
DrivenOnce [] = Unit {0}
DrivenOnce (a ∷ assigns) = Each (λ (b : Assign). b.to.number ≢ a.to.number) assigns × DrivenOnce assigns

-- no register is driven twice
abbrev pub ClockedOnce : List Next → Type 0
ClockedOnce [] = Unit {0}
ClockedOnce (x ∷ nexts) = Each (λ (y : Next). y.register.number ≢ x.register.number) nexts × ClockedOnce nexts

-- the names that nets take: their own, and those of the two ports that every module has
abbrev pub taken_names : List ModuleNet → List (List ℕ)
taken_names nets = codes "clk" ∷ codes "rst" ∷ map (λ n. n.name) nets

-- instances and nets share one space of names
abbrev pub names_taken : List Instance → List ModuleNet → List (List ℕ)
names_taken instances nets = map (λ (i : Instance). i.name) instances ++ taken_names nets

-- the numbers of the nets that stand where a connection drives
abbrev pub driven_among : List Bool → List Wire → List ℕ
driven_among [] nets = []
driven_among (drives ∷ more) [] = []
driven_among (true ∷ more) (w ∷ nets) = w.number ∷ driven_among more nets
driven_among (false ∷ more) (w ∷ nets) = driven_among more nets

-- the numbers of the nets that instances drive
abbrev pub driven_by : List Instance → List ℕ
driven_by [] = []
driven_by (i ∷ instances) = driven_among i.drives i.nets ++ driven_by instances

-- no instance drives the net
abbrev pub Unjoined : List Instance → ℕ → Type 0
Unjoined instances n = Each (λ driven. driven ≢ n) (driven_by instances)

-- no number stands twice
abbrev pub NoneTwice : List ℕ → Type 0
NoneTwice [] = Unit {0}
NoneTwice (n ∷ numbers) = Each (λ other. other ≢ n) numbers × NoneTwice numbers

-- a register takes a declared net of its own width
pub record NextFits (nets : List ModuleNet) (x : Next) : Type 0 where
  pub register : IsNet nets x.register
  pub clocked : IsRegister nets x.register.number
  pub from : IsNet nets x.from
  pub same : x.register.width ≡ x.from.width

-- the rules that hold from the first declaration on: names differ, widths are from 1 to 64, reset values fit, operands and
-- results are declared and of the right width, no source is assigned, and nothing is driven twice
pub record IsWired (nets : List ModuleNet) (assigns : List Assign) (nexts : List Next) : Type 0 where
  pub names : Each (λ (n : ModuleNet). IsNetName n.name) nets
  pub distinct : AreDistinct (taken_names nets)
  pub widths : Each (λ (n : ModuleNet). (1 ≤ n.width) × (n.width ≤ 64)) nets
  pub resets : Each (λ (n : ModuleNet). reset_of n.role < 2 ^ n.width) nets
  pub results : Each (λ (a : Assign). IsNet nets a.to) assigns
  pub cells : Each (λ (a : Assign). CellFits nets a.to.width a.cell) assigns
  pub free : Each (λ (a : Assign). IsFree nets a.to.number) assigns
  pub once : DrivenOnce assigns
  pub registers : Each (NextFits nets) nexts
  pub clocked_once : ClockedOnce nexts

-- the rules of instances: their names differ from each other and from those of nets, what they connect is declared, and the
-- nets that they drive are no sources and have no other driver
pub record IsConnected (nets : List ModuleNet) (assigns : List Assign) (instances : List Instance) : Type 0 where
  pub names : Each (λ (i : Instance). IsNetName i.name) instances
  pub distinct : AreDistinct (names_taken instances nets)
  pub declared : Each (λ (i : Instance). Each (IsNet nets) i.nets) instances
  pub paired : Each (λ (i : Instance). length i.drives ≡ length i.nets) instances
  pub free : Each (IsFree nets) (driven_by instances)
  pub undriven : Each (Undriven assigns) (driven_by instances)
  pub once : NoneTwice (driven_by instances)

-- every net has its driver: a wire or output an assign or an instance, a register a next
pub record IsDriven (nets : List ModuleNet) (assigns : List Assign) (nexts : List Next) (instances : List Instance) : Type 0 where
  pub driven : (n : ℕ) (net : ModuleNet) → slice_get nets n ≡ Some net → (IsSource net.role → ⊥) → Undriven assigns n → Unjoined instances n → ⊥
  pub clocked : (n : ℕ) (net : ModuleNet) → slice_get nets n ≡ Some net → net.role ≡ role.Register (reset_of net.role) → Unclocked nexts n → ⊥

-- the equation of an assign, where read gives the value of each net by its number
abbrev pub Holds : (ℕ → ℕ) → Assign → Type 0
Holds read a = read a.to.number ≡ cell_value read a.to.width a.cell

-- the values fit the widths, and every equation holds
pub record Settles (nets : List ModuleNet) (assigns : List Assign) (read : ℕ → ℕ) : Type 0 where
  pub fits : (n w : ℕ) → slice_get (widths_of nets) n ≡ Some w → read n < 2 ^ w
  pub holds : Each (Holds read) assigns

-- every operand has a lower rank than what it drives: so no net depends on itself
abbrev pub Ranked : (ℕ → ℕ) → List Assign → Type 0
Ranked rank assigns = Each (λ (a : Assign). Each (λ (o : Wire). rank o.number < rank a.to.number) (operands a.cell)) assigns

-- some rank orders the assigns
abbrev pub IsOrdered : List Assign → Type 0
IsOrdered assigns = (rank : ℕ → ℕ) × Ranked rank assigns
