-- What every piece of control says of what it builds: which nets came, what drives them, and what they follow from.
use Rattle.std.specs.Prelude.{◌≡◌, ℕ, ◌+◌, ◌-◌, ◌≤◌, ◌==◌, Bool, true, false, List, [], ◌++◌, length, filter, Contains}
use Rattle.std.specs.List.{AllByRecursion as Each}
use Rattle.ap_net.specs.declared.cell.Cell.{Cell}
use Rattle.ap_net.specs.declared.cell.Cell.TheVariants as cell
use Rattle.ap_net.specs.declared.cell.TwoOp.TheVariants as op
use Rattle.ap_net.specs.declared.cell.Wire.{Wire}
use Rattle.ap_net.specs.declared.net.Assign.{Assign}
use Rattle.ap_net.specs.declared.net.ModuleNet.{ModuleNet}
use Rattle.ap_net.specs.declared.net.Role.TheVariants as role
use Rattle.ap_net.specs.Cells.{IsNet}
use Rattle.ap_net.specs.Draft.{Draft, CanFresh, KeepsNew}
use Rattle.ap_net.specs.Late.{Reads}
use Rattle.ap_net.specs.Modules.{ports_among}
use Rattle.ap_net.specs.Names.{numbered}
use Rattle.ap_net.specs.Pending.{IsFrom}
use Rattle.ap_net.specs.Readings.{Reading, Carries}
use Rattle.ap_net.specs.Runs.{bit}
use Rattle.ap_ctl.specs.declared.field.FieldTest.{FieldTest}
use Rattle.ap_ctl.specs.Lists.{EachPair}

-- the net is declared, with one bit
pub record IsBit (nets : List ModuleNet) (w : Wire) : Type 0 where
  pub net : IsNet nets w
  pub bit : w.width ≡ 1

-- the net is 1
abbrev pub is_on : Reading → Wire → Bool
is_on r w = r.read w.number == 1

-- the net is there with one bit, which is always 1 exactly where this holds
pub record Tells (d : Draft) (fact : Reading → Bool) (w : Wire) : Type 0 where
  pub carries : Carries d 1 (λ r x. x ≡ bit (fact r)) w

-- control is made of constants, slices and `==`, and of `&`, `|`, `~` and choices of one bit. It has no sum, no difference and
-- no `<`
abbrev pub IsControlCell : ℕ → Cell → Type 0
IsControlCell width (cell.Const c) = Unit {0}
IsControlCell width (cell.Slice a h l) = Unit {0}
IsControlCell width (cell.Two op.Eq a b) = Unit {0}
IsControlCell width (cell.Two op.And a b) = width ≡ 1
IsControlCell width (cell.Two op.Or a b) = width ≡ 1
IsControlCell width (cell.Not a) = width ≡ 1
IsControlCell width (cell.Choose s a b) = width ≡ 1
IsControlCell width _ = ⊥

-- a comparison
abbrev pub is_equality : Cell → Bool
is_equality (cell.Two op.Eq a b) = true
is_equality _ = false

-- the net is a wire with the name of a fresh one
pub record IsFreshWire (net : ModuleNet) : Type 0 where
  pub number : ℕ
  pub named : net.name ≡ numbered number
  pub plain : net.role ≡ role.Plain

-- fresh wires came, and no other nets
abbrev pub AddsWires : Draft → Draft → Type 0
AddsWires old new = (more : List ModuleNet) × (new.nets ≡ old.nets ++ more) × Each IsFreshWire more

-- the assign drives a net that came with the cell of control
pub record IsControlAssign (old : Draft) (a : Assign) : Type 0 where
  pub own : length old.nets ≤ a.to.number
  pub cell : IsControlCell a.to.width a.cell

-- assigns came that drive what came, each with a cell of control
abbrev pub AddsAssigns : Draft → Draft → Type 0
AddsAssigns old new = (more : List Assign) × (new.assigns ≡ old.assigns ++ more) × Each (IsControlAssign old) more

-- Comparisons.

-- the assign compares two nets
abbrev pub is_comparison : Assign → Bool
is_comparison a = is_equality a.cell

abbrev pub comparisons : Draft → List Assign
comparisons d = filter is_comparison d.assigns

-- the assign tells whether the word passes the test: it compares the bits of the test, a slice of the word, with the value, a constant
pub record IsComparison (d : Draft) (compared : Wire × FieldTest) (a : Assign) : Type 0 where
  pub bits : Wire
  pub value : Wire
  pub compares : a.cell ≡ cell.Two op.Eq bits value
  pub slice : Contains d.assigns (record { to = bits; cell = cell.Slice compared.0 (compared.1.low + compared.1.width - 1) compared.1.low })
  pub constant : Contains d.assigns (record { to = value; cell = cell.Const compared.1.value })

-- the comparisons that came are of these words and tests, each one once and in this order
abbrev pub AddsComparisons : List (Wire × FieldTest) → Draft → Draft → Type 0
AddsComparisons compared old new = (more : List Assign) × (comparisons new ≡ comparisons old ++ more) × EachPair (IsComparison new) compared more

-- Fresh wires came, which read these of the old nets alone, and are driven by cells of control. They compare these words with these
-- values, and no others. All else stays.
pub record BuildsComparing (compared : List (Wire × FieldTest)) (from : List ℕ) (old new : Draft) : Type 0 where
  pub reads : Reads from old new
  pub instances : new.instances ≡ old.instances
  pub fresh : CanFresh new
  pub names : KeepsNew old new
  pub ports : ports_among new.nets ≡ ports_among old.nets
  pub wires : AddsWires old new
  pub assigns : AddsAssigns old new
  pub compares : AddsComparisons compared old new

-- and the net that is answered is one of these, or came
pub record GivesComparing (compared : List (Wire × FieldTest)) (from : List ℕ) (old new : Draft) (w : Wire) : Type 0 where
  pub builds : BuildsComparing compared from old new
  pub result : IsFrom from old new w.number

-- and so is each net that is answered
pub record GivesEachComparing (compared : List (Wire × FieldTest)) (from : List ℕ) (old new : Draft) (nets : List Wire) : Type 0 where
  pub builds : BuildsComparing compared from old new
  pub results : Each (λ (w : Wire). IsFrom from old new w.number) nets

-- most pieces compare nothing
abbrev pub Builds : List ℕ → Draft → Draft → Type 0
Builds from old new = BuildsComparing [] from old new

abbrev pub Gives : List ℕ → Draft → Draft → Wire → Type 0
Gives from old new w = GivesComparing [] from old new w

abbrev pub GivesEach : List ℕ → Draft → Draft → List Wire → Type 0
GivesEach from old new nets = GivesEachComparing [] from old new nets
