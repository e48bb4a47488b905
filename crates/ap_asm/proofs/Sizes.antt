-- The sizes of a clean design.
use Rattle.std.proofs.Common.{◌≡◌, ◌+◌, ◌-◌, ◌^◌, ◌<◌, ◌≤◌, refl, arith, ⊎_elim}
use Rattle.std.specs.Prelude.{nat_le, nat_lt, ◌==◌}
use Rattle.std.proofs.Math.Pow.{pow_mono}
use Rattle.std.proofs.lemmas.Bool.{and_from, and_parts, cases_lt, eq-eqb, leb-true, lt-ltb}
use Rattle.ap_desc.specs.Clean.{IsClean}
use Rattle.ap_desc.specs.declared.design.Design.{Design}
use Rattle.ap_desc.specs.declared.fault.Fault.TheVariants as fault
use Rattle.ap_asm.specs.LinePlaces.{room_of}

pub few_stages : (design : Design) → IsClean design → design.stages ≤ 8
few_stages design clean = leb-true design.stages 8 (and_parts (nat_le 2 design.stages) (nat_le design.stages 8) clean.sound.within.stages).1

pub some_stages : (design : Design) → IsClean design → 2 ≤ design.stages
some_stages design clean = leb-true 2 design.stages (and_parts (nat_le 2 design.stages) (nat_le design.stages 8) clean.sound.within.stages).0

pub enough_places : (design : Design) → IsClean design → 16 ≤ 2 ^ design.address
enough_places design clean = pow_mono (leb-true 4 design.address (and_parts (nat_le 4 design.address) (nat_le design.address 16) clean.sound.within.address).0)

pub few_places : (design : Design) → IsClean design → 2 ^ design.address ≤ 65536
few_places design clean = pow_mono (leb-true design.address 16 (and_parts (nat_le 4 design.address) (nat_le design.address 16) clean.sound.within.address).1)

pub branch_below : (design : Design) → IsClean design → design.branch ≤ design.stages - 1
branch_below design clean = leb-true design.branch (design.stages - 1) (and_parts (nat_le 1 design.branch) (nat_le design.branch (design.stages - 1)) clean.sound.within.branch).1

pub slots_within : (design : Design) → IsClean design → design.slots ≤ design.branch
slots_within design clean = ⊎_elim
    (λ lt. absurd (clean.faultless fault.TooManySlots design.transfer_line (and_from (nat_lt design.branch design.slots) (design.transfer_line == design.transfer_line) (lt-ltb design.branch design.slots lt) (eq-eqb design.transfer_line design.transfer_line refl))))
    (λ le. le)
    (cases_lt design.branch design.slots)

pub room_low : (design : Design) → IsClean design → room_of design < 65536
room_low design clean = (let a = few_places design clean in let b = enough_places design clean in let c = some_stages design clean in omega arith)

pub room_ends : (design : Design) → IsClean design → room_of design + design.stages ≡ 2 ^ design.address
room_ends design clean = (let a = few_stages design clean in let b = enough_places design clean in omega arith)
