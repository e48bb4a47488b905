use Rattle.std.proofs.Common.{◌≡◌, ℕ, ◌<◌, [], refl, true, arith}
use Rattle.ap_desc.proofs.Apart.{no_word_shared}
use Rattle.ap_desc.specs.Clean.{HasDesignFault}
use Rattle.ap_desc.specs.StageFaults.{is_slow}
use Rattle.ap_desc.specs.declared.design.Act.{Act}
use Rattle.ap_desc.specs.declared.design.Act.TheVariants as act
use Rattle.ap_desc.specs.declared.fault.Fault.{Fault}
use Rattle.ap_desc.specs.declared.fault.Fault.TheVariants as f
use Rattle.ap_enc.specs.Examples.{words_design}
use Rattle.language_tests.proofs.code_tests.words_are_clean.Goals as goal

none_slow : (a : Act) → is_slow (words_design []) a ≡ true → ⊥
none_slow (act.Compute unit op a b) e = cc
none_slow _ e = cc

faultless : (kind : Fault) (line : ℕ) → HasDesignFault (words_design []) kind line → ⊥
faultless f.FormatSum line h = cc
faultless f.FieldValue line h = cc
faultless f.Overlap line h = no_word_shared (words_design []) refl line h
faultless f.NopNotEmpty line h = cc
faultless f.TwiceInInstruction line h = cc
faultless f.TwoStages line h = cc
faultless f.StageZero line h = cc
faultless f.StageOrder line h = cc
faultless f.EarlyCommit line h = cc
faultless f.ChainLoop line h = (let none : h.1.is_line.0 < 0 = h.1.is_line.1 in omega arith)
faultless f.UnstableOperand line h = none_slow h.micro.act h.slow
faultless f.TooManySlots line h = cc
faultless _ line h = h

pub returns : goal.returns
returns c = record { sound = c.words_are_sound.ensures; faultless = faultless }
