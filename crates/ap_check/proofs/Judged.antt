-- The least fault of a description from those of its lines, and of the words, ports and stages of its design.
use Rattle.std.proofs.Common.{◌≡◌, ℕ, List, inr, subst, sym}
use Rattle.ap_bits.specs.declared.card.Card.{Card}
use Rattle.ap_desc.proofs.Composed.{least_of_lines, least_of_ports, least_of_words, none_of_all}
use Rattle.ap_desc.specs.Clean.{FitsCards, HasDesignFault}
use Rattle.ap_desc.specs.DesignOf.{design_of}
use Rattle.ap_desc.specs.Least.{HoldsNowhere}
use Rattle.ap_desc.specs.Meaning.{IsLeastPortFault, IsLeastWordFault, IsMeaningful, MeetsPortFault, MeetsWordFault}
use Rattle.ap_desc.specs.Shelf.{IsOfCards}
use Rattle.ap_desc.specs.Sound.{IsSound}
use Rattle.ap_desc.specs.StatementFaults.{HasStatementFault}
use Rattle.ap_desc.specs.declared.description.Numbered.{Numbered}
use Rattle.ap_desc.specs.declared.design.Design.{Design}
use Rattle.ap_desc.specs.declared.fault.DescFault.{DescFault}
use Rattle.ap_desc.specs.declared.fault.DescFault.TheVariants.{Refused, NoMemory}
use Rattle.ap_desc.specs.declared.fault.Fault.{Fault}
use Rattle.ap_check.specs.Resolved.{IsLineFault, IsMeaningFault, IsPortFault, IsWordFault}

-- a fault of lines
pub lines_refused : (cards : List Card) (statements : List Numbered) (why : DescFault) → IsLineFault statements cards why → IsMeaningFault statements cards why
lines_refused cards statements (Refused refusal) fault = least_of_lines statements cards refusal fault
lines_refused cards statements NoMemory fault = tt

module _ (cards : List Card) (statements : List Numbered) (design : Design) (is : design ≡ design_of statements cards) (right : HoldsNowhere (HasStatementFault statements cards)) where
  -- of words, where lines have none
  pub words_refused : (why : DescFault) → IsWordFault design why → IsMeaningFault statements cards why
  words_refused (Refused refusal) fault = least_of_words statements cards refusal right (subst (λ (d : Design). IsLeastWordFault d refusal) is fault)
  words_refused NoMemory fault = tt

  module _ (no_word : HoldsNowhere (MeetsWordFault design)) where
    -- of ports and stages, where words have none
    pub ports_refused : (why : DescFault) → IsPortFault design why → IsMeaningFault statements cards why
    ports_refused (Refused refusal) fault =
        least_of_ports statements cards refusal right (subst (λ (d : Design). HoldsNowhere (MeetsWordFault d)) is no_word) (subst (λ (d : Design). IsLeastPortFault d refusal) is fault)
    ports_refused NoMemory fault = tt

    module _ (no_port : HoldsNowhere (MeetsPortFault design)) where
      -- where nothing has a fault
      pub meaningful : IsMeaningful statements cards
      meaningful = none_of_all statements cards right (subst (λ (d : Design). HoldsNowhere (MeetsWordFault d)) is no_word) (subst (λ (d : Design). HoldsNowhere (MeetsPortFault d)) is no_port)

      pub fits : IsSound (design_of statements cards) → IsOfCards (design_of statements cards) cards → FitsCards design cards
      fits sound of_cards = record {
        clean = record {
          sound = subst IsSound (sym is) sound;
          faultless = λ (kind : Fault) (line : ℕ) h. meaningful kind line (inr (subst (λ (d : Design). HasDesignFault d kind line) is h));
        };
        of_cards = subst (λ (d : Design). IsOfCards d cards) (sym is) of_cards;
      }
