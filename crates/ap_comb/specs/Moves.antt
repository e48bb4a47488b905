-- A value of w bits that is moved by k places, where k is at most w.
use Rattle.std.specs.Prelude.{ℕ, ◌+◌, ◌-◌, ◌*◌, ◌/◌, ◌%◌, ◌^◌, ◌==◌, if◌then◌else◌, Bool}
use Rattle.ap_net.specs.declared.cell.Wire.{Wire}
use Rattle.ap_bits.specs.Operations.{rotated}
use Rattle.ap_comb.specs.declared.levels.Way.{Way}
use Rattle.ap_comb.specs.declared.levels.Way.TheVariants as way

-- to the left: where it turns, what goes out at the top comes in below, else zeros come in
abbrev pub moved_left : Bool → ℕ → ℕ → ℕ → ℕ
moved_left turn w x k = if turn then rotated w x k else x * 2 ^ k % 2 ^ w

-- to the right: where it is filled, ones come in above, else zeros
abbrev pub moved_right : Bool → ℕ → ℕ → ℕ → ℕ
moved_right fill w x k = (if fill then 2 ^ w - 2 ^ (w - k) else 0) + x / 2 ^ k

-- in a way, where read gives the value of the net that says what comes in
abbrev pub moved : (ℕ → ℕ) → Way → ℕ → ℕ → ℕ → ℕ
moved read (way.Left turn) w x k = moved_left (read turn.number == 1) w x k
moved read (way.Right fill) w x k = moved_right (read fill.number == 1) w x k

-- the net that says what comes in
abbrev pub inlet : Way → Wire
inlet (way.Left turn) = turn
inlet (way.Right fill) = fill
