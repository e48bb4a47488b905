use Rattle.ap_space.proofs.Law.{law_entries, law_members, law_rows, law_stands, law_writes}
use Rattle.ap_space.proofs.laws.prefix.Goals as goal

pub returns-clause-entries : goal.returns-clause-entries
returns-clause-entries c = law_entries

pub returns-clause-members : goal.returns-clause-members
returns-clause-members c = law_members

pub returns-clause-writes : goal.returns-clause-writes
returns-clause-writes c = law_writes

pub returns-clause-stands : goal.returns-clause-stands
returns-clause-stands c = law_stands

pub returns-clause-rows : goal.returns-clause-rows
returns-clause-rows c = law_rows
