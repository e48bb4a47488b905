use Rattle.std.proofs.Common.{◌≡◌, ℕ, zero, suc, refl, true}
use Rattle.ap_desc.proofs.Apart.{no_word_shared}
use Rattle.ap_desc.proofs.Behind.{none_closes}
use Rattle.ap_desc.proofs.FlowFacts.{rank}
use Rattle.ap_desc.specs.Clean.{HasDesignFault}
use Rattle.ap_desc.specs.Examples.{adder_design}
use Rattle.ap_desc.specs.StageFaults.{is_slow}
use Rattle.ap_desc.specs.declared.design.Act.{Act}
use Rattle.ap_desc.specs.declared.design.Act.TheVariants as act
use Rattle.ap_desc.specs.declared.fault.Fault.{Fault}
use Rattle.ap_desc.specs.declared.fault.Fault.TheVariants as f
use Rattle.machine_tests.proofs.distance_tests.adder_is_clean.Goals as goal

none_slow : (a : Act) → is_slow adder_design a ≡ true → ⊥
none_slow (act.Compute zero op a b) e = cc
none_slow (act.Compute (suc unit) op a b) e = cc
none_slow _ e = cc

faultless : (kind : Fault) (line : ℕ) → HasDesignFault adder_design kind line → ⊥
faultless f.FormatSum line h = cc
faultless f.FieldValue line h = cc
faultless f.Overlap line h = no_word_shared adder_design refl line h
faultless f.NopNotEmpty line h = cc
faultless f.TwiceInInstruction line h = cc
faultless f.TwoStages line h = cc
faultless f.StageZero line h = cc
faultless f.StageOrder line h = cc
faultless f.EarlyCommit line h = cc
faultless f.ChainLoop line h = none_closes 8 rank adder_design refl line h
faultless f.UnstableOperand line h = none_slow h.micro.act h.slow
faultless f.TooManySlots line h = cc
faultless _ line h = h

pub returns : goal.returns
returns c = record { sound = c.adder_is_sound.ensures; faultless = faultless }
