use Rattle.std.proofs.Common.{length, refl, sym, ap, subst, ◌∙◌, arith}
use Rattle.std.specs.Prelude.{slice_index}
use Rattle.ap_asm.specs.Listings.{listing_text}
use Rattle.ap_asm.specs.Standing.{ArePicked, AreRising, HoldsGroups}
use Rattle.ap_asm.specs.Words.{AreAddresses}
use Rattle.ap_asm.proofs.Ending.{ends_address, ends_rising, is_assembled, starts_low}
use Rattle.ap_asm.proofs.Placings.{drain_small}
use Rattle.ap_asm.proofs.assembling.place.Goals as goal

pub landings_of-requires : goal.landings_of-requires
landings_of-requires c = subst AreRising (sym c.as_slice-ends.ensures.value) (ends_rising c.args.design.now c.requires.clean c.args.layout.source c.args.starts.now c.in_ok-ends.ends.items c.requires.starts c.in_ok-ends.ensures)

pub code_of-requires-clause-addresses : goal.code_of-requires-clause-addresses
code_of-requires-clause-addresses c = subst (AreAddresses c.args.design.now) (sym c.as_slice-ends.ensures.value) (ends_address c.args.design.now c.requires.clean c.args.layout.source c.args.starts.now c.in_ok-ends.ends.items c.requires.starts c.in_ok-ends.ensures)

pub overflow_cast-drain : goal.overflow_cast-drain
overflow_cast-drain c = (let low = drain_small c.args.design.now c.requires.clean c.args.layout c.requires.layout in omega arith)

pub in_32_bits-requires : goal.in_32_bits-requires
in_32_bits-requires c = λ g. (let low = starts_low c.args.design.now c.requires.clean c.args.layout.source c.args.starts.now c.requires.starts g in omega arith)

pub returns : goal.returns
returns c =
    let size = length c.args.layout.source.groups in
    let is_placed = ap (λ es. slice_index es c.len.result) c.as_slice-ends.ensures.value ∙ ap (slice_index c.in_ok-ends.ends.items) c.len.ensures in
    is_assembled c.args.design.now c.args.layout.source c.args.starts.now c.in_ok-ends.ends.items c.in_ok-landings.landings c.in_ok-code.code.items c.args.layout.drain _ c.requires.clean c.requires.layout.fits c.requires.apart c.requires.starts c.in_ok-ends.ensures
    (subst (λ es. ArePicked c.args.design.now c.args.layout.source es (length es) c.in_ok-landings.landings) c.as_slice-ends.ensures.value c.in_ok-landings.ensures)
    (subst (λ es. HoldsGroups c.args.design.now c.args.layout.source c.args.starts.now es (length c.args.layout.source.groups) c.in_ok-code.code.items) c.as_slice-ends.ensures.value c.in_ok-code.ensures)
    c.requires.mems c.requires.layout.drain c.of-code.ensures refl c.in_ok-starts.ensures refl refl is_placed
    (c.in_ok-listing.ensures ∙ ap (λ n. listing_text c.args.design.now c.args.layout.drain c.in_ok-landings.landings n c.in_ok-code.code.items) is_placed)
