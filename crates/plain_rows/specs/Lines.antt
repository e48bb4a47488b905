-- The lines of rows, one for each cycle from 0 on.
use Rattle.std.specs.Prelude.{ℕ, List, [], length, slice_get}
use Rattle.std.specs.List.{flat_map, range_with_len}
use Rattle.std.specs.Option.{option_map_or}
use Rattle.ap_image.specs.RowTexts.{row_text}
use Rattle.ap_image.specs.declared.row.Row.{Row}

-- the line of this cycle's row, where there is one
abbrev pub line_at : List (List ℕ) → List Row → ℕ → List ℕ
line_at labels rows cycle = option_map_or (row_text labels cycle) (slice_get rows cycle) []

-- the lines of all
abbrev pub lines_of_rows : List (List ℕ) → List Row → List ℕ
lines_of_rows labels rows = flat_map (line_at labels rows) (range_with_len 0 (length rows))
