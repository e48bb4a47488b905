-- The least fault of all, and too many slots.
use Rattle.std.proofs.Common.{◌<◌, ◌≤◌, Option, Some, None, refl, arith, eqb-true, ltb-true}
use Rattle.std.specs.Prelude.{◌==◌, IfNone, IfSome, IsTrue, nat_lt}
use Rattle.std.proofs.lemmas.Bool.{and_from, and_parts, eq-eqb, lt-ltb}
use Rattle.ap_desc.specs.Least.{HoldsNowhere, IsLeast}
use Rattle.ap_desc.specs.Meaning.{IsLeastPortFault, MeetsPortFault}
use Rattle.ap_desc.specs.StageFaults.{has_too_many_slots}
use Rattle.ap_desc.specs.declared.design.Design.{Design}
use Rattle.ap_desc.specs.declared.fault.Refusal.{Refusal}
use Rattle.ap_ports.specs.Firsts.{IsFirst, IsLeastIn}

pub if_some_least : (design : Design) (found : Option Refusal) → ((r : Refusal) → IsLeast (MeetsPortFault design) r → IsLeastPortFault design r) → IsLeastIn (MeetsPortFault design) found → IfSome found (IsLeastPortFault design)
if_some_least design None looked h = tt
if_some_least design (Some r) looked h = looked r h

pub if_none_least : (design : Design) (found : Option Refusal) → IsLeastIn (MeetsPortFault design) found → IfNone found (HoldsNowhere (MeetsPortFault design))
if_none_least design None h = h
if_none_least design (Some r) h = tt

pub slots_first : (design : Design) → design.branch < design.slots → IsFirst (λ line. IsTrue (has_too_many_slots design line)) (Some design.transfer_line)
slots_first design many = (
  and_from (nat_lt design.branch design.slots) (design.transfer_line == design.transfer_line) (lt-ltb design.branch design.slots many) (eq-eqb design.transfer_line design.transfer_line refl),
  λ other h. (let same = eqb-true design.transfer_line other (and_parts (nat_lt design.branch design.slots) (design.transfer_line == other) h).1 in omega arith),
)

pub slots_none : (design : Design) → design.slots ≤ design.branch → IsFirst (λ line. IsTrue (has_too_many_slots design line)) None
slots_none design few = λ line h. (let many = ltb-true design.branch design.slots (and_parts (nat_lt design.branch design.slots) (design.transfer_line == line) h).0 in absurd (omega arith))
