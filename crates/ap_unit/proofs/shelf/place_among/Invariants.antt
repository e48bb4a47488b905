use Rattle.std.proofs.Common.{◌≡◌, drop, map}
use Rattle.std.specs.List.{position_from}
use Rattle.std.specs.Str.{bytes_eq}
use Rattle.ap_bits.specs.declared.card.Card.{Card}
use Rattle.ap_unit.proofs.shelf.place_among.Given as goal

-- the place in the rest is the place in all
abbrev pub invariant-loop-i : goal.invariant-loop-i
invariant-loop-i g l = position_from (λ (c : Card). bytes_eq c.name l.name) l.i (map (λ b. (goal.UnitKind-dyn g (b.vtable, b.value)).card b.value) (drop l.i l.kinds))
    ≡ position_from (λ (c : Card). bytes_eq c.name l.name) 0 (map (λ b. (goal.UnitKind-dyn g (b.vtable, b.value)).card b.value) l.kinds)
