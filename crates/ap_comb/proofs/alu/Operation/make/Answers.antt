use Rattle.ap_net.proofs.Laws.{Makes-refl}
use Rattle.ap_comb.proofs.alu.Operation.make.Goals as goal

pub returns-in-Add-clause-value : goal.returns-in-Add-clause-value
returns-in-Add-clause-value c = rw c.in-Add.is c.word.ensures.value

pub returns-in-Sub-clause-value : goal.returns-in-Sub-clause-value
returns-in-Sub-clause-value c = rw c.in-Sub.is c.word-in-Sub.ensures.value

pub returns-in-And-clause-value : goal.returns-in-And-clause-value
returns-in-And-clause-value c = rw c.in-And.is c.word-in-And.ensures.value

pub returns-in-Or-clause-value : goal.returns-in-Or-clause-value
returns-in-Or-clause-value c = rw c.in-Or.is c.word-in-Or.ensures.value

pub returns-in-Xor-clause-value : goal.returns-in-Xor-clause-value
returns-in-Xor-clause-value c = rw c.in-Xor.is c.word-in-Xor.ensures.value

pub returns-in-Eq-clause-value : goal.returns-in-Eq-clause-value
returns-in-Eq-clause-value c = rw c.in-Eq.is c.flag.ensures.value

pub returns-in-Ltu-clause-value : goal.returns-in-Ltu-clause-value
returns-in-Ltu-clause-value c = rw c.in-Ltu.is c.flag-in-Ltu.ensures.value

pub returns-in-Lts-clause-value : goal.returns-in-Lts-clause-value
returns-in-Lts-clause-value c = rw c.in-Lts.is c.signed_flag.ensures.value

pub returns-in-Pass-clause-makes : goal.returns-in-Pass-clause-makes
returns-in-Pass-clause-makes c = Makes-refl _
