-- The rows that the netlist of a text shows, when it is run on an image and a trace.
use Rattle.std.specs.Prelude.{◌≡◌, ℕ, zero, suc, ◌+◌, List, [], ◌∷◌}
use Rattle.ap_eval.specs.Benches.{labels_by}
use Rattle.ap_image.specs.ImageTexts.{image_of}
use Rattle.ap_image.specs.RowTexts.{row_text}
use Rattle.ap_image.specs.TraceTexts.{trace_of}
use Rattle.ap_image.specs.declared.image.Image.{Image}
use Rattle.ap_image.specs.declared.trace.Trace.{Trace}
use Rattle.ap_net.specs.Flat.{Flat, opened}
use Rattle.ap_net.specs.Modules.{ModuleText}
use Rattle.ap_net.specs.Outside.{Outside, shape_of}
use Rattle.ap_net.specs.Rows.{shown_row}
use Rattle.ap_net.specs.Runs.{NetState, Runs}
use Rattle.ap_text.specs.Lines.{lines_of}
use Rattle.ap_vw.specs.NetLines.{text_of}
use Rattle.ap_sim.specs.Runnable.{IsRunnable}

-- the line of the row that the solution of cycle j shows
abbrev pub line_of : Outside → Flat → (ℕ → List ℕ) → ℕ → List ℕ
line_of o f valuations j = row_text (labels_by o) j (shown_row o f (valuations j))

-- the lines of so many cycles from cycle j on
abbrev pub lines_from : Outside → Flat → (ℕ → List ℕ) → ℕ → ℕ → List (List ℕ)
lines_from o f valuations j zero = []
lines_from o f valuations j (suc n) = line_of o f valuations j ∷ lines_from o f valuations (j + 1) n

-- the lines of the rows of a run of so many cycles
pub record AreLinesOf (o : Outside) (f : Flat) (image : Image) (trace : Trace) (cycles : ℕ) (lines : List (List ℕ)) : Type 0 where
  pub states : ℕ → NetState
  pub valuations : ℕ → List ℕ
  pub runs : Runs o f image trace cycles states valuations
  pub lines_are : lines ≡ lines_from o f valuations 0 cycles

-- the text is that of the rows of the netlist, run on what the texts of the image and of the trace say
pub record AreRowsOf (netlist image trace : List ℕ) (cycles : ℕ) (text : List ℕ) : Type 0 where
  pub net : List ModuleText
  pub outside : Outside
  pub can_run : IsRunnable netlist net outside
  pub lines : List (List ℕ)
  pub shown : AreLinesOf outside (opened net) (image_of (shape_of outside) (lines_of image)) (trace_of (lines_of trace)) cycles lines
  pub text_is : text ≡ text_of lines
