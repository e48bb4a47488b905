-- The slots of a stage's flights have its names.
use Rattle.std.proofs.Common.{◌≡◌, ◌+◌, subst, arith}
use Rattle.ap_ctl.proofs.Beside.{EachFrom-at}
use Rattle.ap_border.specs.Flights.{IsSlotOf}
use Rattle.ap_values.specs.Served.{FlightsNameSlots}

pub flights_name_slots : FlightsNameSlots
flights_name_slots design d flights before stage next high number slot at =
    let stands = flights.each before stage next high in
    let is = EachFrom-at (IsSlotOf d (flights.homes stage) (flights.locals stage) (flights.hold stage) stage) 0 (flights.registers stage).slots stands.slots number slot at in
    let same : 0 + number ≡ number = omega arith in
    let own : IsSlotOf d (flights.homes stage) (flights.locals stage) (flights.hold stage) stage number slot = subst (λ n. IsSlotOf d (flights.homes stage) (flights.locals stage) (flights.hold stage) stage n slot) same is in
    (own.takes.from, record { begins = own.named; next = own.takes.next })
