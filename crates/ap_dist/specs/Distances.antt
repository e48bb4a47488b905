-- How far apart two words of a program have to stand so that the younger one sees what the older one does, and undoes nothing of it:
-- a cycle lies between two words that stand side by side. The rules are the project's own.
use Rattle.std.specs.Prelude.{ℕ, ◌+◌, ◌-◌, ◌==◌, ◌&&◌, ◌||◌, not, max, Bool, false, List, fold, Option, Some, None, if◌then◌else◌}
use Rattle.std.specs.Option.{option_map_or}
use Rattle.ap_desc.specs.declared.design.Design.{Design}
use Rattle.ap_desc.specs.declared.design.Instr.{Instr}
use Rattle.ap_model.specs.Fire.{instr_of}
use Rattle.ap_dist.specs.Accesses.{accesses, accesses_of}
use Rattle.ap_dist.specs.declared.access.Access.{Access}
use Rattle.ap_dist.specs.declared.access.Part.{Part}
use Rattle.ap_dist.specs.declared.access.Part.TheVariants as part

-- both indices are fixed, and they differ
abbrev pub are_apart : Option ℕ → Option ℕ → Bool
are_apart (Some i) (Some j) = not (i == j)
are_apart _ _ = false

-- both are one register or memory, or may be one cell
abbrev pub do_meet : Part → Part → Bool
do_meet (part.Register a) (part.Register b) = a == b
do_meet (part.Cell a i) (part.Cell b j) = (a == b) && not (are_apart i j)
do_meet (part.Memory a) (part.Memory b) = a == b
do_meet _ _ = false

abbrev pub do_conflict : Access → Access → Bool
do_conflict a b = do_meet a.part b.part

-- how many places later the younger has to stand because of two accesses in conflict. A read comes a cycle after the write that it is
-- to see; a write comes in the cycle of an earlier read or write, or later
abbrev pub places_between : Access → Access → ℕ
places_between older younger =
    if older.writes && not younger.writes then older.stage + 1 - younger.stage else if older.writes || younger.writes then older.stage - younger.stage else 0

abbrev pub gap : Access → Access → ℕ
gap older younger = if do_conflict older younger then places_between older younger else 0

-- the greatest of 1 and what these give
abbrev pub greatest : {X : Type 0} → (X → ℕ) → List X → ℕ
greatest of xs = fold (λ most x. max most (of x)) 1 xs

-- the distance of accesses from older ones
abbrev pub gap_between : List Access → List Access → ℕ
gap_between older younger = greatest (λ a. greatest (gap a) younger) older

-- the distance of the younger word from the older one
unfoldable pub dist_of : Design → ℕ → ℕ → ℕ
dist_of design older younger = gap_between (accesses_of design older) (accesses_of design younger)

-- the greatest distance of any instruction from this one, where any two indices may be equal
unfoldable pub instr_out : Design → Instr → ℕ
instr_out design instr = greatest (λ (other : Instr). gap_between (accesses design instr None) (accesses design other None)) design.instrs

-- the same of a word's instruction; 1 where it matches none
abbrev pub out_of : Design → ℕ → ℕ
out_of design word = option_map_or (instr_out design) (instr_of design word) 1
