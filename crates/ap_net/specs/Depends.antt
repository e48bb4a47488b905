-- On which nets a net depends through the assigns of a module.
use Rattle.std.specs.Prelude.{◌≡◌, ◌≢◌, ℕ, List, slice_get, Some, IsTrue, Bool, false}
use Rattle.std.specs.List.{AllByRecursion as Each}
use Rattle.ap_net.specs.declared.cell.Wire.{Wire}
use Rattle.ap_net.specs.declared.net.Assign.{Assign}
use Rattle.ap_net.specs.Cells.{operands}

-- with each net of a set that is driven so are in the set those that its cell reads
abbrev pub IsClosed : List Assign → (ℕ → Bool) → Type 0
IsClosed assigns among = Each (λ (a : Assign). IsTrue (among a.to.number) → Each (λ (o : Wire). IsTrue (among o.number)) (operands a.cell)) assigns

-- all that the net n depends on is among these nets
pub record DependsWithin (assigns : List Assign) (n : ℕ) (among : ℕ → Bool) : Type 0 where
  pub itself : IsTrue (among n)
  pub closed : IsClosed assigns among

-- the net n depends on none of these others
abbrev pub DependsOnNone : List Assign → ℕ → List ℕ → Type 0
DependsOnNone assigns n others = (among : ℕ → Bool) × DependsWithin assigns n among × Each (λ other. among other ≡ false) others

-- a walk from the net n to the net k: it is there, or it goes on from a net that the cell reads which drives n
pub data Walks (assigns : List Assign) : ℕ → ℕ → Type 0 where
  there : {n : ℕ} → Walks assigns n n
  on : {k : ℕ} (a : Assign) (o : Wire) (i j : ℕ) → slice_get assigns i ≡ Some a → slice_get (operands a.cell) j ≡ Some o → Walks assigns o.number k → Walks assigns a.to.number k

-- no walk from a net leads to one on which the net depends by none of the assigns
abbrev pub WalksMissThem : Type 0
WalksMissThem = (assigns : List Assign) (n k : ℕ) (others : List ℕ) → DependsOnNone assigns n others → Walks assigns n k → Each (λ other. other ≢ k) others
