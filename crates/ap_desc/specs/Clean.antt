-- The faults of a design's words, ports and stages; designs that are clean, and designs that fit the cards of a shelf.
use Rattle.std.specs.Prelude.{ℕ, IsTrue, List}
use Rattle.ap_bits.specs.declared.card.Card.{Card}
use Rattle.ap_desc.specs.declared.design.Design.{Design}
use Rattle.ap_desc.specs.declared.fault.Fault.{Fault}
use Rattle.ap_desc.specs.declared.fault.Fault.TheVariants as f
use Rattle.ap_desc.specs.Chains.{ClosesLoop}
use Rattle.ap_desc.specs.Ports.{has_port_twice, has_port_in_two_stages}
use Rattle.ap_desc.specs.Shelf.{IsOfCards}
use Rattle.ap_desc.specs.Sound.{IsSound}
use Rattle.ap_desc.specs.StageFaults.{has_stage_zero, has_stage_order, has_early_commit, HasUnstableOperand, has_too_many_slots}
use Rattle.ap_desc.specs.WordFaults.{has_wrong_sum, has_unfit_value, SharesWord, has_full_nop}

-- a fault of words, ports or stages holds at the line
abbrev pub HasDesignFault : Design → Fault → ℕ → Type 0
HasDesignFault design f.FormatSum line = IsTrue (has_wrong_sum design line)
HasDesignFault design f.FieldValue line = IsTrue (has_unfit_value design line)
HasDesignFault design f.Overlap line = SharesWord design line
HasDesignFault design f.NopNotEmpty line = IsTrue (has_full_nop design line)
HasDesignFault design f.TwiceInInstruction line = IsTrue (has_port_twice design line)
HasDesignFault design f.TwoStages line = IsTrue (has_port_in_two_stages design line)
HasDesignFault design f.StageZero line = IsTrue (has_stage_zero design line)
HasDesignFault design f.StageOrder line = IsTrue (has_stage_order design line)
HasDesignFault design f.EarlyCommit line = IsTrue (has_early_commit design line)
HasDesignFault design f.ChainLoop line = (stage : ℕ) × ClosesLoop design stage line
HasDesignFault design f.UnstableOperand line = HasUnstableOperand design line
HasDesignFault design f.TooManySlots line = IsTrue (has_too_many_slots design line)
HasDesignFault design _ line = ⊥

-- the design is sound, and no fault of words, ports or stages holds of it
pub record IsClean (design : Design) : Type 0 where
  pub sound : IsSound design
  pub faultless : (kind : Fault) (line : ℕ) → HasDesignFault design kind line → ⊥

-- the design is clean, and its units are those of the cards
pub record FitsCards (design : Design) (cards : List Card) : Type 0 where
  pub clean : IsClean design
  pub of_cards : IsOfCards design cards
