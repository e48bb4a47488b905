-- That each group of a program stands at the least place at which it may, after those before it. This tests a finished list of starts.
use Rattle.std.specs.Prelude.{◌≡◌, ℕ, ◌+◌, ◌-◌, ◌<◌, ◌≤◌, Bool, false, IsTrue, if◌then◌else◌, List, [], ◌∷◌, length, fold, max, slice_get, slice_index, suc}
use Rattle.std.specs.Option.{option_map_or}
use Rattle.ap_desc.specs.declared.design.Design.{Design}
use Rattle.ap_image.specs.declared.image.Image.{Image}
use Rattle.ap_dist.specs.Distances.{dist_of, instr_out, out_of}
use Rattle.ap_dist.specs.Places.{does_transfer, end_before, has_line, is_landing, lines_of_group}
use Rattle.ap_dist.specs.Spaced.{word_at}
use Rattle.ap_dist.specs.declared.source.Group.{Group}
use Rattle.ap_dist.specs.declared.source.Source.{Source}
use Rattle.ap_dist.specs.declared.source.SourceLine.{SourceLine}

-- how many NOPs a landing has to begin with for the line that stands so many places after its transfer
abbrev pub drain_of_line : Design → ℕ → SourceLine → ℕ
drain_of_line design after line = option_map_or (instr_out design) (slice_get design.instrs line.instr) 1 + after - (design.branch + 1)

abbrev pub drain_of_lines : Design → ℕ → List SourceLine → ℕ
drain_of_lines design after [] = 0
drain_of_lines design after (line ∷ lines) = max (drain_of_line design after line) (drain_of_lines design (suc after) lines)

-- for a transfer and its slot lines; other groups ask for none
abbrev pub drain_of_group : Design → Group → ℕ
drain_of_group design group = if does_transfer design group.first.instr then drain_of_lines design 0 (lines_of_group group) else 0

-- the drain of a program: so many NOPs stand at each of its landings
abbrev pub drain_of : Design → Source → ℕ
drain_of design source = fold (λ most group. max most (drain_of_group design group)) 0 source.groups

abbrev pub transfers_at : Design → Source → ℕ → Bool
transfers_at design source g = option_map_or (λ (group : Group). does_transfer design group.first.instr) (slice_get source.groups g) false

-- the group of this number may start at a place, where those before it stand at their starts: it stands behind them, and behind the
-- drain where there is a landing; each of its words is far enough from each older one; and before it is taken, a transfer is far enough
-- from each older word for any word at a landing
pub record MayStart (design : Design) (source : Source) (starts : List ℕ) (image : Image) (drain g place : ℕ) : Type 0 where
  pub behind : end_before design source starts g ≤ place
  pub drained : IsTrue (is_landing design source g) → end_before design source starts g + drain ≤ place
  pub apart : (h i j : ℕ) → h < g → IsTrue (has_line source h i) → IsTrue (has_line source g j)
      → dist_of design (word_at design image (slice_index starts h + i)) (word_at design image (slice_index starts g + j)) + (slice_index starts h + i) ≤ place + j
  pub taken : (h i : ℕ) → h < g → IsTrue (has_line source h i) → IsTrue (transfers_at design source g)
      → out_of design (word_at design image (slice_index starts h + i)) + (slice_index starts h + i) ≤ design.branch + 1 + drain + place

-- the drain is the program's, and each group stands where it may, but not a place earlier
pub record AreLeastStarts (design : Design) (source : Source) (starts : List ℕ) (image : Image) (drain : ℕ) : Type 0 where
  pub drain_of_program : drain ≡ drain_of design source
  pub may : (g : ℕ) → g < length source.groups → MayStart design source starts image drain g (slice_index starts g)
  pub least : (g place : ℕ) → g < length source.groups → suc place ≡ slice_index starts g → MayStart design source starts image drain g place → ⊥
