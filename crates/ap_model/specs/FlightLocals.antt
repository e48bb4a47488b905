-- The locals of a flight: how many it has in a stage, and which of them a later line looks at.
use Rattle.std.specs.Prelude.{◌≡◌, ℕ, ◌+◌, ◌==◌, ◌&&◌, nat_lt, not, IfSome, Bool, false, List, [], ◌∷◌, length, Option, Some}
use Rattle.std.specs.List.{list_any}
use Rattle.std.specs.Option.{option_map_or}
use Rattle.ap_desc.specs.Chains.{operands_of}
use Rattle.ap_desc.specs.declared.design.Arg.{Arg}
use Rattle.ap_desc.specs.declared.design.Arg.TheVariants as arg
use Rattle.ap_desc.specs.declared.design.Design.{Design}
use Rattle.ap_desc.specs.declared.design.Instr.{Instr}
use Rattle.ap_desc.specs.declared.design.Micro.{Micro}
use Rattle.ap_model.specs.declared.state.Flight.{Flight}
use Rattle.ap_model.specs.Fire.{instr_of}
use Rattle.ap_model.specs.Fitting.{assigned_by, lines_before}

-- a flight in a stage has as many locals as the lines of its instruction's earlier stages assign
abbrev pub HasLocals : Design → ℕ → Flight → Type 0
HasLocals design stage flight = (instr : Instr) → instr_of design flight.word ≡ Some instr → length flight.locals ≡ assigned_by design instr (lines_before stage instr)

-- so have the flights from a stage on
abbrev pub HaveLocals : Design → ℕ → List (Option Flight) → Type 0
HaveLocals design stage [] = Unit {0}
HaveLocals design stage (flight ∷ flights) = IfSome flight (HasLocals design stage) × HaveLocals design (stage + 1) flights

-- the line looks at the local of this number
abbrev pub is_local : ℕ → Arg → Bool
is_local i (arg.Local k) = k == i
is_local i _ = false

abbrev pub looks_at : ℕ → Micro → Bool
looks_at i m = list_any (is_local i) (operands_of m.act)

-- a local is live in a stage: a line of an earlier stage assigns it, and one of this stage or a later one looks at it
abbrev pub is_live_in : Design → ℕ → ℕ → Instr → Bool
is_live_in design stage i instr = nat_lt i (assigned_by design instr (lines_before stage instr)) && list_any (λ (m : Micro). not (nat_lt m.stage stage) && looks_at i m) instr.micros

-- the same of a word's instruction, by word, stage and local; a word that matches no instruction has no live local
unfoldable pub is_live : Design → ℕ → ℕ → ℕ → Bool
is_live design word stage i = option_map_or (is_live_in design stage i) (instr_of design word) false
