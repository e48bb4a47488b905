use Rattle.std.proofs.Common.{subst, ℕ, List, [], ◌∷◌, Some, ⊎_elim, arith}
use Rattle.ap_bits.specs.declared.card.Card.{Card}
use Rattle.ap_desk.specs.Files.{Files}
use Rattle.ap_desk.specs.declared.counts.Counts.{Counts}
use Rattle.ap_desk.specs.Causes.{Rose}
use Rattle.ap_top.specs.declared.command.Command.{Command}
use Rattle.ap_top.proofs.Calls.{one_command}
use Rattle.ap_top.specs.Commands.{IsCall}
use Rattle.ap_top.specs.Inputs.{Source, AreGood, AreInputsGood, LacksOne, FailsOn, HasFailed, inputs_of, with_text}

-- the counts of a desk on which no call fails
abbrev without_faults : ℕ → Counts
without_faults absent = record { faults = 0; absent = absent }

module _ (cards : List Card) where
  -- inputs that are all there and without fault don't lack one
  none_lacks : (files : Files) (before : List (List ℕ)) (sources : List Source) → AreGood cards files before sources → LacksOne cards files before sources → ⊥
  none_lacks files before [] good lacks = lacks
  none_lacks files before (source ∷ sources) good lacks =
      ⊎_elim (λ none. let there = good.0.there in cc) (λ later. none_lacks files (with_text files before source) sources good.1 later.1) lacks

  -- a count that is 0 for ever doesn't rise
  stays_zero : Rose 0 0 → ⊥
  stays_zero rose = absurd (omega arith)

  fails_not : (files : Files) (sources : List Source) (absent absent' : ℕ) → AreGood cards files [] sources → FailsOn cards sources (Some files) (without_faults absent) (without_faults absent') → ⊥
  fails_not files sources absent absent' good failed = ⊎_elim stays_zero (λ h. none_lacks files [] sources good h.1) failed

  -- on a desk without faults, a command with good inputs doesn't fail
  pub never_fails : (words : List (List ℕ)) (files : Files) (absent absent' : ℕ) → AreInputsGood cards words files → HasFailed (record { cards = cards; words = words; told = Some files }) (without_faults absent) (without_faults absent') → ⊥
  never_fails words files absent absent' good failed = ⊎_elim stays_zero (λ h. same_command h.0 h.1 h.2) failed
    where
      same_command : (other : Command) → IsCall other words → FailsOn cards (inputs_of other words) (Some files) (without_faults absent) (without_faults absent') → ⊥
      same_command other is fails =
          fails_not files (inputs_of good.0 words) absent absent' good.2 (subst (λ c. FailsOn cards (inputs_of c words) (Some files) (without_faults absent) (without_faults absent')) (one_command other good.0 words is good.1) fails)
