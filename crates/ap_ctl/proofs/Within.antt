-- The limits of a clean design.
use Rattle.std.proofs.Common.{◌≤◌, length}
use Rattle.std.specs.Prelude.{nat_le}
use Rattle.std.specs.List.{list_all}
use Rattle.std.proofs.lemmas.Bool.{and_parts, leb-true}
use Rattle.ap_desc.specs.Clean.{IsClean}
use Rattle.ap_desc.specs.Designs.{is_width}
use Rattle.ap_desc.specs.declared.design.Design.{Design}
use Rattle.ap_desc.specs.declared.design.Unit.{Unit as Resource}

pub stages_within : (design : Design) → IsClean design → (2 ≤ design.stages) × (design.stages ≤ 8)
stages_within design clean =
    let parts = and_parts (nat_le 2 design.stages) (nat_le design.stages 8) clean.sound.within.stages in
    (leb-true 2 design.stages parts.0, leb-true design.stages 8 parts.1)

pub units_within : (design : Design) → IsClean design → length design.units ≤ 32
units_within design clean = leb-true (length design.units) 32 (and_parts (nat_le (length design.units) 32) (list_all (λ (u : Resource). is_width u.width) design.units) clean.sound.within.units).0
