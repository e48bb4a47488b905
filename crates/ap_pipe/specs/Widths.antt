-- How wide the slots of a stage are: the first holds the widest live local of every instruction, the second the second widest, and so on.
-- The rule is the project's own.
use Rattle.std.specs.Prelude.{ℕ, nat_lt, max, List, [], ◌∷◌, fold, if◌then◌else◌}
use Rattle.ap_desc.specs.declared.design.Design.{Design}
use Rattle.ap_desc.specs.declared.design.Instr.{Instr}
use Rattle.ap_pipe.specs.Live.{live_widths}

-- widths in falling order, with one more
abbrev pub with_width : List ℕ → ℕ → List ℕ
with_width [] width = width ∷ []
with_width (w ∷ widths) width = if nat_lt w width then width ∷ w ∷ widths else w ∷ with_width widths width

-- the widths in falling order
abbrev pub falling : List ℕ → List ℕ
falling widths = fold with_width [] widths

-- at each place the greater of the two
abbrev pub widest : List ℕ → List ℕ → List ℕ
widest [] others = others
widest (w ∷ widths) [] = w ∷ widths
widest (w ∷ widths) (x ∷ others) = max w x ∷ widest widths others

-- the bits of the slots of a stage: at each place the greatest, over the instructions, of the widths of live locals in falling order
abbrev pub slot_widths : Design → ℕ → List ℕ
slot_widths design stage = fold (λ widths (i : Instr). widest widths (falling (live_widths design stage i))) [] design.instrs
