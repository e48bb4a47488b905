-- How many `? :` stand before the nets of a stage and of a row.
use Rattle.std.proofs.Common.{ℕ, zero, suc, List, [], ◌∷◌, ◌++◌, Option, Some, None}
use Rattle.std.specs.Prelude.{slice_set}
use Rattle.std.specs.List.{AllByRecursion as Each}
use Rattle.ap_net.specs.declared.cell.Wire.{Wire}
use Rattle.ap_net.specs.Draft.{Draft, Extends}
use Rattle.ap_net.specs.Ready.{numbers}
use Rattle.ap_stage.specs.declared.source.Ground.{Ground}
use Rattle.ap_stage.specs.Rows.{StaysLow}
use Rattle.ap_stage.specs.Sources.{row_numbers, source_numbers}
use Rattle.ap_stage.specs.Trees.{IsShallow, StandsOver}
use Rattle.ap_stage.proofs.Listed.{each_among, each_both, each_left, each_right}
use Rattle.ap_stage.proofs.Shallow.{shallow_on}
use Rattle.ap_stage.proofs.Wired.{all_of, each_of, none_over}

-- one more net of the row
pub each_set : (P : ℕ → Type 0) (row : List (Option Wire)) (i : ℕ) (w : Wire) → Each P (row_numbers row) → P w.number → Each P (row_numbers (slice_set row i (Some w)))
each_set P [] i w h p = h
each_set P (None ∷ row) zero w h p = (p, h)
each_set P (Some x ∷ row) zero w h p = (p, h.1)
each_set P (None ∷ row) (suc i) w h p = each_set P row i w h p
each_set P (Some x ∷ row) (suc i) w h p = (h.0, each_set P row i w h.1 p)

pub sources_set : (P : ℕ → Type 0) (ground : Ground) (row : List (Option Wire)) (i : ℕ) (w : Wire) → Each P (source_numbers ground row) → P w.number → Each P (source_numbers ground (slice_set row i (Some w)))
sources_set P ground row i w h p =
    let regs = numbers ground.regs in
    let inputs = numbers ground.inputs in
    let rest = h.1.1.1 in
    let later = each_right P regs (inputs ++ row_numbers row) rest in (
      h.0,
      (
        h.1.0,
        (
          h.1.1.0,
          each_both P regs (inputs ++ row_numbers (slice_set row i (Some w))) (each_left P regs (inputs ++ row_numbers row) rest)
              (each_both P inputs (row_numbers (slice_set row i (Some w))) (each_left P inputs (row_numbers row) later) (each_set P row i w (each_right P inputs (row_numbers row) later) p)),
        ),
      ),
    )

pub low_on : (a b : Draft) (ground : Ground) (row : List (Option Wire)) → Extends a b → StaysLow ground a row b row
low_on a b ground row e most each =
    each_of (IsShallow b most) (source_numbers ground row) (source_numbers ground row) (λ n h. shallow_on a b most n e (each_among (IsShallow a most) (source_numbers ground row) each n h)) (all_of (source_numbers ground row))

pub low_filled : (a b : Draft) (ground : Ground) (row : List (Option Wire)) (i : ℕ) (w : Wire) → Extends a b → StandsOver 0 (source_numbers ground row) a b w.number → StaysLow ground a row b (slice_set row i (Some w))
low_filled a b ground row i w e over most each = sources_set (IsShallow b most) ground row i w (low_on a b ground row e most each) (none_over b most w.number (over most each))
