use Rattle.std.proofs.Common.{refl, lit≤, [], ◌∷◌, true}
use Rattle.std.specs.Prelude.{codes}
use Rattle.ap_text.specs.Lines.{TextLine, lines_of}
use Rattle.ap_text.specs.Numbers.{number_value, spelled_value}
use Rattle.ap_desc.specs.declared.statement.Statement.TheVariants as s
use Rattle.ap_desc.specs.Forms.{statement_in, declaration_in}
use Rattle.ap_desc.proofs.NotSpelled.{says_none}
use Rattle.language_tests.proofs.statement_rows.faults_of_form.Goals as goal

pub returns-clause-stray_end : goal.returns-clause-stray_end
unfolding lines_of number_value spelled_value
returns-clause-stray_end c = (
  lit≤ tt,
  (
    s.Stages 2 ∷ [],
    s.End,
    record {
      before = record { number = 1; tokens = codes "stages" ∷ codes "2" ∷ []; clean = true } ∷ [];
      line = record { number = 2; tokens = codes "end" ∷ []; clean = true };
      place = record { after = []; parts = refl; numbered = refl };
      said = (record { clean = refl; spells = record { spellable = record { pieces = refl }; spelled = (refl, ((codes "2", refl, refl), tt)) } }, tt);
      says = record { clean = refl; spells = record { spellable = record { pieces = refl }; spelled = (refl, tt) } };
    },
    refl,
  ),
)

pub returns-clause-second_header : goal.returns-clause-second_header
unfolding lines_of number_value spelled_value
returns-clause-second_header c = (
  lit≤ tt,
  (
    s.Stages 2 ∷ [],
    s.Stages 2,
    record {
      before = record { number = 1; tokens = codes "stages" ∷ codes "2" ∷ []; clean = true } ∷ [];
      line = record { number = 3; tokens = codes "stages" ∷ codes "0x2" ∷ []; clean = true };
      place = record { after = []; parts = refl; numbered = refl };
      said = (record { clean = refl; spells = record { spellable = record { pieces = refl }; spelled = (refl, ((codes "2", refl, refl), tt)) } }, tt);
      says = record { clean = refl; spells = record { spellable = record { pieces = refl }; spelled = (refl, ((codes "0x2", refl, refl), tt)) } };
    },
    refl,
  ),
)

pub returns-clause-too_many : goal.returns-clause-too_many
unfolding lines_of number_value spelled_value
returns-clause-too_many c = (
  lit≤ tt,
  (
    s.Mem (codes "A") 1 1 ∷ s.Mem (codes "B") 1 1 ∷ s.Mem (codes "C") 1 1 ∷ s.Mem (codes "D") 1 1 ∷ [],
    s.Mem (codes "E") 1 1,
    record {
      before = record { number = 1; tokens = codes "mem" ∷ codes "A" ∷ codes "1" ∷ codes "1" ∷ []; clean = true } ∷ record { number = 2; tokens = codes "mem" ∷ codes "B" ∷ codes "1" ∷ codes "1" ∷ []; clean = true } ∷ record { number = 3; tokens = codes "mem" ∷ codes "C" ∷ codes "1" ∷ codes "1" ∷ []; clean = true } ∷ record { number = 4; tokens = codes "mem" ∷ codes "D" ∷ codes "1" ∷ codes "1" ∷ []; clean = true } ∷ [];
      line = record { number = 5; tokens = codes "mem" ∷ codes "E" ∷ codes "1" ∷ codes "1" ∷ []; clean = true };
      place = record { after = []; parts = refl; numbered = refl };
      said = (record { clean = refl; spells = record { spellable = record { pieces = refl }; spelled = (refl, (refl, ((codes "1", refl, refl), ((codes "1", refl, refl), tt)))) } }, (record { clean = refl; spells = record { spellable = record { pieces = refl }; spelled = (refl, (refl, ((codes "1", refl, refl), ((codes "1", refl, refl), tt)))) } }, (record { clean = refl; spells = record { spellable = record { pieces = refl }; spelled = (refl, (refl, ((codes "1", refl, refl), ((codes "1", refl, refl), tt)))) } }, (record { clean = refl; spells = record { spellable = record { pieces = refl }; spelled = (refl, (refl, ((codes "1", refl, refl), ((codes "1", refl, refl), tt)))) } }, tt))));
      says = record { clean = refl; spells = record { spellable = record { pieces = refl }; spelled = (refl, (refl, ((codes "1", refl, refl), ((codes "1", refl, refl), tt)))) } };
    },
    refl,
  ),
)

pub returns-clause-no_number : goal.returns-clause-no_number
unfolding lines_of number_value spelled_value statement_in declaration_in
returns-clause-no_number c =
    let line : TextLine = record { number = 1; tokens = codes "stages" ∷ codes "two" ∷ []; clean = true } in
    (lit≤ tt, ([], line, record { after = []; parts = refl; numbered = refl }, says_none line refl))
