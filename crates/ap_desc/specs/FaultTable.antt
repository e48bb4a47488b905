-- The kinds of fault: their phases, their numbers and how they are printed. All of this is the project's own.
use Rattle.std.specs.Prelude.{ℕ, List, codes}
use Rattle.ap_desc.specs.declared.fault.Fault.{Fault}
use Rattle.ap_desc.specs.declared.fault.Fault.TheVariants as f

-- the phase that looks for the kind: form, names, widths, words, ports, stages
abbrev pub phase_of : Fault → ℕ
phase_of f.BadLine = 1
phase_of f.BadOrder = 1
phase_of f.TooMany = 1
phase_of f.Missing = 1
phase_of f.TooLong = 1
phase_of f.Unknown = 2
phase_of f.Twice = 2
phase_of f.NoKind = 2
phase_of f.NoOperation = 2
phase_of f.Range = 3
phase_of f.Differs = 3
phase_of f.Slice = 3
phase_of f.TooWideConstant = 3
phase_of f.NotOneBit = 3
phase_of f.Target = 3
phase_of f.KindRefuses = 3
phase_of f.FormatSum = 4
phase_of f.FieldValue = 4
phase_of f.Overlap = 4
phase_of f.NopNotEmpty = 4
phase_of f.TwiceInInstruction = 5
phase_of f.TwoStages = 5
phase_of f.StageZero = 6
phase_of f.StageOrder = 6
phase_of f.EarlyCommit = 6
phase_of f.ChainLoop = 6
phase_of f.UnstableOperand = 6
phase_of f.TooManySlots = 6

-- the number of the kind within its phase
abbrev pub number_of : Fault → ℕ
number_of f.BadLine = 1
number_of f.BadOrder = 2
number_of f.TooMany = 3
number_of f.Missing = 4
number_of f.TooLong = 5
number_of f.Unknown = 1
number_of f.Twice = 2
number_of f.NoKind = 3
number_of f.NoOperation = 4
number_of f.Range = 1
number_of f.Differs = 2
number_of f.Slice = 3
number_of f.TooWideConstant = 4
number_of f.NotOneBit = 5
number_of f.Target = 6
number_of f.KindRefuses = 7
number_of f.FormatSum = 1
number_of f.FieldValue = 2
number_of f.Overlap = 3
number_of f.NopNotEmpty = 4
number_of f.TwiceInInstruction = 1
number_of f.TwoStages = 2
number_of f.StageZero = 1
number_of f.StageOrder = 2
number_of f.EarlyCommit = 3
number_of f.ChainLoop = 4
number_of f.UnstableOperand = 5
number_of f.TooManySlots = 6

-- the kind as it is printed
abbrev pub code_of : Fault → List ℕ
code_of f.BadLine = codes "F1 BadLine"
code_of f.BadOrder = codes "F2 BadOrder"
code_of f.TooMany = codes "F3 TooMany"
code_of f.Missing = codes "F4 Missing"
code_of f.TooLong = codes "F5 TooLong"
code_of f.Unknown = codes "N1 Unknown"
code_of f.Twice = codes "N2 Twice"
code_of f.NoKind = codes "N3 NoKind"
code_of f.NoOperation = codes "N4 NoOperation"
code_of f.Range = codes "W1 Range"
code_of f.Differs = codes "W2 Differs"
code_of f.Slice = codes "W3 Slice"
code_of f.TooWideConstant = codes "W4 TooWideConstant"
code_of f.NotOneBit = codes "W5 NotOneBit"
code_of f.Target = codes "W6 Target"
code_of f.KindRefuses = codes "W7 KindRefuses"
code_of f.FormatSum = codes "E1 FormatSum"
code_of f.FieldValue = codes "E2 FieldValue"
code_of f.Overlap = codes "E3 Overlap"
code_of f.NopNotEmpty = codes "E4 NopNotEmpty"
code_of f.TwiceInInstruction = codes "P1 TwiceInInstruction"
code_of f.TwoStages = codes "P2 TwoStages"
code_of f.StageZero = codes "S1 StageZero"
code_of f.StageOrder = codes "S2 StageOrder"
code_of f.EarlyCommit = codes "S3 EarlyCommit"
code_of f.ChainLoop = codes "S4 ChainLoop"
code_of f.UnstableOperand = codes "S5 UnstableOperand"
code_of f.TooManySlots = codes "S6 TooManySlots"
