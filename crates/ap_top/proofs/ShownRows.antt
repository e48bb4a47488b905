-- The rows of a netlist that are appended to a file as they are made.
use Rattle.std.proofs.Common.{◌≡◌, ℕ, ◌+◌, ◌≤◌, ◌<◌, List, [], length, Bool, true, false, Option, refl, arith}
use Rattle.ap_desk.specs.Files.{Files, Gains, GainsFront, Goes, Stands}
use Rattle.ap_sim.specs.RowLines.{IsNextLine, RowsLeft, Shows}
use Rattle.ap_vw.specs.NetLines.{text_of}
use Rattle.ap_top.specs.Streaming.{Moves}
use Rattle.ap_top.proofs.Streamed.{IsStreaming, streaming_done, streaming_failed, streaming_first, streaming_line, streaming_moved, streaming_stopped}

-- of the lines that were left before, some are appended or held, and the others are left
abbrev pub IsShowing : List ℕ → Option Files → Option Files → List ℕ → RowsLeft → RowsLeft → Bool → Type 0
IsShowing name start now held before rows more = (lines : List (List ℕ)) → Shows before lines → (rest : List (List ℕ)) × Shows rows rest × IsStreaming name (text_of lines) start now held rest more

module _ (name : List ℕ) (start : Option Files) (before : RowsLeft) where
  pub showing_first : IsShowing name start start [] before before true
  showing_first lines h = (lines, h, streaming_first name (text_of lines) start lines refl)

  -- one more line is held
  pub showing_line : (now : Option Files) (held held' : List ℕ) (rows new : RowsLeft) (more next : Bool) → IsShowing name start now held before rows more → ((lines : List (List ℕ)) → Shows rows lines → IsNextLine new lines held held' next) → IsShowing name start now held' before new next
  showing_line now held held' rows new more next s one lines h =
      let p = s lines h in
      let q = one p.0 p.1 in
      (q.0, q.1, streaming_line name (text_of lines) start now held held' p.0 q.0 more next p.2 q.2)

  -- what was held is appended, or stays
  pub showing_moved : (now now' : Option Files) (held held' : List ℕ) (rows : RowsLeft) (more : Bool) → IsShowing name start now held before rows more → Moves name held held' now now' → IsShowing name start now' held' before rows more
  showing_moved now now' held held' rows more s m lines h = let p = s lines h in (p.0, p.1, streaming_moved name (text_of lines) start now now' held held' p.0 more p.2 m)

  -- a front of what was held is appended
  pub showing_failed : (now now' : Option Files) (held : List ℕ) (rows : RowsLeft) (more : Bool) → IsShowing name start now held before rows more → Goes (GainsFront name held) now now' → (lines : List (List ℕ)) → Shows before lines → Goes (GainsFront name (text_of lines)) start now'
  showing_failed now now' held rows more s g lines h = let p = s lines h in streaming_failed name (text_of lines) start now now' held p.0 more p.2 g

  -- what was appended is a front of the lines
  pub showing_stopped : (now : Option Files) (held : List ℕ) (rows : RowsLeft) (more : Bool) → IsShowing name start now held before rows more → (lines : List (List ℕ)) → Shows before lines → Goes (GainsFront name (text_of lines)) start now
  showing_stopped now held rows more s lines h = let p = s lines h in streaming_stopped name (text_of lines) start now held p.0 more p.2

  -- nothing is held, and no row is left
  pub showing_done : (now : Option Files) (held : List ℕ) (rows : RowsLeft) → IsShowing name start now held before rows false → length held < 1 → Stands name start → (lines : List (List ℕ)) → Shows before lines → Goes (Gains name (text_of lines)) start now
  showing_done now held rows s few there lines h = let p = s lines h in streaming_done name (text_of lines) start now held p.0 p.2 few there

-- rows are made as long as there are some
pub fewer_rows : (new more old : ℕ) → new + more ≤ old → new + more < old + 1
fewer_rows new more old h = omega (arith, h)
