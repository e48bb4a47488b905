-- A sound design in which neither words nor ports and stages have a fault is clean.
use Rattle.std.proofs.Common.{ℕ, refl, arith}
use Rattle.ap_desc.specs.Clean.{HasDesignFault, IsClean}
use Rattle.ap_desc.specs.Least.{HoldsNowhere}
use Rattle.ap_desc.specs.Meaning.{MeetsPortFault, MeetsWordFault}
use Rattle.ap_desc.specs.Sound.{IsSound}
use Rattle.ap_desc.specs.declared.design.Design.{Design}
use Rattle.ap_desc.specs.declared.fault.Fault.{Fault}
use Rattle.ap_desc.specs.declared.fault.Fault.TheVariants as f

faultless : (design : Design) → HoldsNowhere (MeetsWordFault design) → HoldsNowhere (MeetsPortFault design) → (kind : Fault) (line : ℕ) → HasDesignFault design kind line → ⊥
faultless design words ports f.FormatSum line h = words f.FormatSum line (refl, h)
faultless design words ports f.FieldValue line h = words f.FieldValue line (refl, h)
faultless design words ports f.Overlap line h = words f.Overlap line (refl, h)
faultless design words ports f.NopNotEmpty line h = words f.NopNotEmpty line (refl, h)
faultless design words ports f.TwiceInInstruction line h = ports f.TwiceInInstruction line (omega arith, h)
faultless design words ports f.TwoStages line h = ports f.TwoStages line (omega arith, h)
faultless design words ports f.StageZero line h = ports f.StageZero line (omega arith, h)
faultless design words ports f.StageOrder line h = ports f.StageOrder line (omega arith, h)
faultless design words ports f.EarlyCommit line h = ports f.EarlyCommit line (omega arith, h)
faultless design words ports f.ChainLoop line h = ports f.ChainLoop line (omega arith, h)
faultless design words ports f.UnstableOperand line h = ports f.UnstableOperand line (omega arith, h)
faultless design words ports f.TooManySlots line h = ports f.TooManySlots line (omega arith, h)
faultless design words ports _ line h = h

pub cleaned : (design : Design) → IsSound design → HoldsNowhere (MeetsWordFault design) → HoldsNowhere (MeetsPortFault design) → IsClean design
cleaned design sound words ports = record { sound = sound; faultless = faultless design words ports }
