-- The rows of a netlist that is run for some cycles, one after another: what is still to be made.
use Rattle.std.specs.Prelude.{◌≡◌, ℕ, ◌+◌, ◌-◌, ◌<◌, ◌≤◌, ◌++◌, Bool, true, false, List}
use Rattle.ap_eval.specs.Benches.{BenchState, StandsIn, Steps, labels_by, started}
use Rattle.ap_flat.specs.Flats.{FlatParts, IsFlattened}
use Rattle.ap_image.specs.FitsShape.{TraceFitsShape, idle, line_at}
use Rattle.ap_image.specs.RowTexts.{row_text}
use Rattle.ap_image.specs.declared.image.Image.{Image}
use Rattle.ap_image.specs.declared.trace.Trace.{Trace}
use Rattle.ap_image.specs.declared.trace.TraceLine.{TraceLine}
use Rattle.ap_net.specs.Outside.{Outside, shape_of}
use Rattle.ap_net.specs.Runs.{NetState, Runs}
use Rattle.ap_vw.specs.Printing.{Prints}
use Rattle.ap_sim.specs.Rows.{AreLinesOf, lines_from}

-- a bench, the trace that it takes, the number of the next cycle, and how many cycles are made in all
pub record RowsLeft : Type 0 where
  pub bench : BenchState
  pub trace : Trace
  pub next : ℕ
  pub cycles : ℕ

-- how many cycles are left
abbrev pub count_left : RowsLeft → ℕ
count_left r = r.cycles - r.next

-- before the first cycle
abbrev pub begun : FlatParts → Image → Trace → ℕ → RowsLeft
begun flat image trace cycles = record { bench = started flat image; trace = trace; next = 0; cycles = cycles }

-- what is always kept: the trace fits, and no cycle comes after the last one
pub record IsLeft (r : RowsLeft) : Type 0 where
  pub fits : TraceFitsShape r.trace (shape_of r.bench.flat.outside)
  pub within : r.next ≤ r.cycles
  pub most : r.cycles ≤ 1000000

-- the line of a cycle after the last one of a trace
abbrev pub HasIdle : TraceLine → Outside → Type 0
HasIdle line o = line ≡ idle (shape_of o).inputs

-- the lines are those of the rows that are left of a run
pub record Shows (r : RowsLeft) (lines : List (List ℕ)) : Type 0 where
  pub rules : IsFlattened r.bench.flat
  pub image : Image
  pub states : ℕ → NetState
  pub valuations : ℕ → List ℕ
  pub runs : Runs r.bench.flat.outside r.bench.flat.net image r.trace r.cycles states valuations
  pub stands : StandsIn r.bench.flat image r.trace r.next states valuations r.bench
  pub lines_are : lines ≡ lines_from r.bench.flat.outside r.bench.flat.net valuations r.next (count_left r)

-- the next cycle was made, and the line of its row appended
pub record IsNextRow (old new : RowsLeft) (before after : List ℕ) : Type 0 where
  pub some : old.next < old.cycles
  pub steps : Steps (line_at old.trace (shape_of old.bench.flat.outside).inputs old.next) old.bench new.bench
  pub text : after ≡ before ++ row_text (labels_by old.bench.flat.outside) old.next new.bench.row
  pub next : new.next ≡ old.next + 1
  pub trace : new.trace ≡ old.trace
  pub cycles : new.cycles ≡ old.cycles

-- the next row was made, or all had been
abbrev pub Makes : RowsLeft → RowsLeft → List ℕ → List ℕ → Bool → Type 0
Makes old new before after true = IsNextRow old new before after
Makes old new before after false = (old.next ≡ old.cycles) × (new ≡ old) × (after ≡ before)

-- of these lines the first was appended and the others are left, or none was left
abbrev pub IsNextLine : RowsLeft → List (List ℕ) → List ℕ → List ℕ → Bool → Type 0
IsNextLine new lines before after more = (rest : List (List ℕ)) × Shows new rest × Prints lines rest before after more
