-- A sound design in which neither judge finds a fault is clean.
use Rattle.std.proofs.Common.{ℕ, refl, arith}
use Rattle.ap_desc.specs.Clean.{HasDesignFault, IsClean}
use Rattle.ap_desc.specs.Least.{HoldsNowhere}
use Rattle.ap_desc.specs.Meaning.{MeetsPortFault, MeetsWordFault}
use Rattle.ap_desc.specs.Sound.{IsSound}
use Rattle.ap_desc.specs.declared.design.Design.{Design}
use Rattle.ap_desc.specs.declared.fault.Fault.{Fault}
use Rattle.ap_desc.specs.declared.fault.Fault.TheVariants as f

module _ (design : Design) (words : HoldsNowhere (MeetsWordFault design)) (ports : HoldsNowhere (MeetsPortFault design)) where
  faultless : (kind : Fault) (line : ℕ) → HasDesignFault design kind line → ⊥
  faultless f.FormatSum line h = words f.FormatSum line (refl, h)
  faultless f.FieldValue line h = words f.FieldValue line (refl, h)
  faultless f.Overlap line h = words f.Overlap line (refl, h)
  faultless f.NopNotEmpty line h = words f.NopNotEmpty line (refl, h)
  faultless f.TwiceInInstruction line h = ports f.TwiceInInstruction line (omega arith, h)
  faultless f.TwoStages line h = ports f.TwoStages line (omega arith, h)
  faultless f.StageZero line h = ports f.StageZero line (omega arith, h)
  faultless f.StageOrder line h = ports f.StageOrder line (omega arith, h)
  faultless f.EarlyCommit line h = ports f.EarlyCommit line (omega arith, h)
  faultless f.ChainLoop line h = ports f.ChainLoop line (omega arith, h)
  faultless f.UnstableOperand line h = ports f.UnstableOperand line (omega arith, h)
  faultless f.TooManySlots line h = ports f.TooManySlots line (omega arith, h)
  faultless _ line h = h

  pub clean_from : IsSound design → IsClean design
  clean_from sound = record { sound = sound; faultless = faultless }
