-- The limits of a clean design.
use Rattle.std.proofs.Common.{◌<◌, ◌≤◌, ℕ, arith}
use Rattle.std.specs.Prelude.{nat_le}
use Rattle.std.proofs.lemmas.Bool.{and_parts, leb-true}
use Rattle.ap_desc.specs.Clean.{IsClean}
use Rattle.ap_desc.specs.declared.design.Design.{Design}
use Rattle.ap_flight.proofs.SlotWidths.{IsFit}

pub few_stages : (design : Design) (stage : ℕ) → IsClean design → stage < design.stages → stage < 10
few_stages design stage clean lt =
    let parts = and_parts (nat_le 2 design.stages) (nat_le design.stages 8) clean.sound.within.stages in
    let le = leb-true design.stages 8 parts.1 in
    omega arith

pub word_fits : (design : Design) → IsClean design → IsFit design.word
word_fits design clean =
    let parts = and_parts (nat_le 8 design.word) (nat_le design.word 64) clean.sound.within.word in
    let low = leb-true 8 design.word parts.0 in
    record { low = omega arith; high = leb-true design.word 64 parts.1 }

pub address_fits : (design : Design) → IsClean design → IsFit design.address
address_fits design clean =
    let parts = and_parts (nat_le 4 design.address) (nat_le design.address 16) clean.sound.within.address in
    let low = leb-true 4 design.address parts.0 in
    let high = leb-true design.address 16 parts.1 in
    record { low = omega arith; high = omega arith }

pub stages_few : (design : Design) → IsClean design → design.stages ≤ 8
stages_few design clean = leb-true design.stages 8 (and_parts (nat_le 2 design.stages) (nat_le design.stages 8) clean.sound.within.stages).1
