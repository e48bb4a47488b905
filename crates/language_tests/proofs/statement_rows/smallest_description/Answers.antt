use Rattle.std.proofs.Common.{refl}
use Rattle.std.specs.Prelude.{codes}
use Rattle.ap_text.specs.Lines.{lines_of}
use Rattle.ap_text.specs.Numbers.{number_value, spelled_value}
use Rattle.language_tests.proofs.statement_rows.smallest_description.Goals as goal

pub returns-clause-reads : goal.returns-clause-reads
unfolding lines_of number_value spelled_value
returns-clause-reads c = record {
  lines = (
    record { number = refl; spells = record { clean = refl; spells = record { spellable = record { pieces = refl }; spelled = (refl, ((codes "2", refl, refl), tt)) } } },
    (
      record { number = refl; spells = record { clean = refl; spells = record { spellable = record { pieces = refl }; spelled = (refl, ((codes "4", refl, refl), tt)) } } },
      (
        record { number = refl; spells = record { clean = refl; spells = record { spellable = record { pieces = refl }; spelled = (refl, ((codes "8", refl, refl), tt)) } } },
        (
          record { number = refl; spells = record { clean = refl; spells = record { spellable = record { pieces = refl }; spelled = (refl, ((codes "1", refl, refl), ((codes "0", refl, refl), tt))) } } },
          (
            record { number = refl; spells = record { clean = refl; spells = record { spellable = record { pieces = refl }; spelled = (refl, (refl, ((codes "8", refl, refl), tt))) } } },
            (
              record { number = refl; spells = record { clean = refl; spells = record { spellable = record { pieces = refl }; spelled = (refl, (refl, (refl, ((codes "0", refl, refl), tt)))) } } },
              (
                record { number = refl; spells = record { clean = refl; spells = record { spellable = record { pieces = refl }; spelled = (refl, tt) } } },
                tt,
              ),
            ),
          ),
        ),
      ),
    ),
  );
}
