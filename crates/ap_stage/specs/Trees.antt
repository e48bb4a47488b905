-- How many `? :` stand between a net and what a module has from elsewhere, while the module is being built.
use Rattle.std.specs.Prelude.{◌≡◌, ◌⊎◌, ℕ, ◌+◌, Bool, true, false, List, slice_get, Some}
use Rattle.std.specs.List.{AllByRecursion as Each}
use Rattle.ap_net.specs.declared.net.Assign.{Assign}
use Rattle.ap_net.specs.declared.net.Instance.{Instance}
use Rattle.ap_net.specs.declared.net.ModuleNet.{ModuleNet}
use Rattle.ap_net.specs.declared.cell.Cell.{Cell}
use Rattle.ap_net.specs.declared.cell.Cell.TheVariants as cell
use Rattle.ap_net.specs.declared.cell.Wire.{Wire}
use Rattle.ap_net.specs.Cells.{operands}
use Rattle.ap_net.specs.Draft.{Draft}
use Rattle.ap_net.specs.Pending.{Among}
use Rattle.ap_net.specs.Ready.{numbers}
use Rattle.ap_net.specs.Wiring.{IsSource}

-- an assign of the draft drives the net with this choice
pub record Chooses (d : Draft) (n : ℕ) (cond left right : Wire) : Type 0 where
  pub place : ℕ
  pub assign : Assign
  pub is_there : slice_get d.assigns place ≡ Some assign
  pub drives : assign.to.number ≡ n
  pub chooses : assign.cell ≡ cell.Choose cond left right

-- From the net every path back by the two sides of each `? :`, and not by its condition, comes to one of the leaves over at most so many
-- `? :`, and over nothing else.
pub data IsTree (d : Draft) (leaves : List ℕ) : ℕ → ℕ → Type 0 where
  leaf : (depth n : ℕ) → Among leaves n → IsTree d leaves depth n
  choice : (depth n : ℕ) (cond left right : Wire) → Chooses d n cond left right → IsTree d leaves depth left.number → IsTree d leaves depth right.number → IsTree d leaves (depth + 1) n

-- the net is the choice of two, or the one net that both are
abbrev pub IsEither : Draft → Wire → Wire → Wire → Wire → Type 0
IsEither d cond left right y = ((left ≡ right) × (y ≡ left)) ⊎ Chooses d y.number cond left right

abbrev pub is_choice : Cell → Bool
is_choice (cell.Choose cond left right) = true
is_choice _ = false

-- From the net every path back through assigns, which goes through the sides of a `? :` and not through its condition, ends at a
-- register, an input or the output of an instance, or at a constant, and meets at most so many `? :`.
pub data IsShallow (d : Draft) : ℕ → ℕ → Type 0 where
  source : (depth n : ℕ) (net : ModuleNet) → slice_get d.nets n ≡ Some net → IsSource net.role → IsShallow d depth n
  output : (depth n k p : ℕ) (i : Instance) (w : Wire) → slice_get d.instances k ≡ Some i → slice_get i.nets p ≡ Some w → slice_get i.drives p ≡ Some true → w.number ≡ n → IsShallow d depth n
  wiring : (depth n k : ℕ) (a : Assign) → slice_get d.assigns k ≡ Some a → a.to.number ≡ n → is_choice a.cell ≡ false
      → ((j m : ℕ) → slice_get (numbers (operands a.cell)) j ≡ Some m → IsShallow d depth m) → IsShallow d depth n
  question : (depth n : ℕ) (cond left right : Wire) → Chooses d n cond left right → IsShallow d depth left.number → IsShallow d depth right.number → IsShallow d (depth + 1) n

-- over these nets of the old draft at most so many `? :` more stand before the net
abbrev pub StandsOver : ℕ → List ℕ → Draft → Draft → ℕ → Type 0
StandsOver more leaves old new n = (most : ℕ) → Each (IsShallow old most) leaves → IsShallow new (more + most) n
