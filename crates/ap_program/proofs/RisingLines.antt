-- The numbers of a program's lines rise.
use Rattle.std.proofs.Common.{◌≡◌, ℕ, ◌+◌, ◌<◌, not, Bool, true, false, cond, List, [], ◌∷◌, map, sym, subst, arith}
use Rattle.std.specs.Prelude.{filter}
use Rattle.std.specs.List.{slice_split}
use Rattle.ap_text.specs.Lines.{TextLine, is_line_feed, is_skipped, lines_of, numbered_from}
use Rattle.ap_program.specs.LineFaults.{LinesRise}
use Rattle.ap_program.specs.Statements.{program_line, program_of}
use Rattle.ap_program.specs.declared.statement.ProgramLine.{ProgramLine}

rise_kept : (n number : ℕ) (line : TextLine) (rest : List TextLine) (keep : Bool) → n < line.number → LinesRise line.number (map program_line rest) → LinesRise n (map program_line rest) → LinesRise n (map program_line (cond keep (line ∷ rest) rest))
rise_kept n number line rest true lt rise later = (lt, rise)
rise_kept n number line rest false lt rise later = later

rise_filter : (n number : ℕ) (parts : List (List ℕ)) → n < number → LinesRise n (map program_line (filter (λ line. not (is_skipped line)) (numbered_from number parts)))
rise_filter n number [] lt = tt
rise_filter n number (part ∷ parts) lt = rise_kept n number _ _ _ lt (rise_filter number (number + 1) parts (omega arith)) (rise_filter n (number + 1) parts (omega arith))

pub program_rises : (text : List ℕ) → LinesRise 0 (program_of text)
unfolding lines_of
program_rises text = rise_filter 0 1 (slice_split is_line_feed text) (omega arith)

pub lines_rise : (text : List ℕ) (lines : List ProgramLine) → lines ≡ program_of text → LinesRise 0 lines
lines_rise text lines e = subst (LinesRise 0) (sym e) (program_rises text)
