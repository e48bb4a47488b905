use Rattle.std.proofs.Common.{◌≡◌, ◌%◌, ◌^◌, ◌<◌, ◌≤◌, length, get_or, sym, subst, arith}
use Rattle.std.proofs.lemmas.Option.{slice_get-get_or, slice_get_within}
use Rattle.ap_net.specs.Readings.{Carries}
use Rattle.ap_net.proofs.Laws.{IsNet-Makes, Makes-refl, Makes-trans}
use Rattle.ap_stage.specs.declared.slot.Stored.{Stored}
use Rattle.ap_stage.specs.Slots.{IsStored, local_bits}
use Rattle.ap_stage.proofs.Filled.{row_filled}
use Rattle.ap_stage.proofs.Lined.{rows_on}
use Rattle.ap_stage.proofs.Listed.{each_at}
use Rattle.ap_stage.proofs.Slotted.{around_all, around_more, around_none}
use Rattle.ap_stage.proofs.Stored.{bits_are, stored_more}
use Rattle.ap_stage.proofs.slot.fill_slots.Goals as goal

abbrev blank : Stored
blank = record { local = 0; slot = record { number = 0; width = 0 } }

pub loop-one-init : goal.loop-one-init
loop-one-init c = record { is_row = c.requires.row; has = λ k s low at. absurd (omega arith); slots = around_none c.args.stored.now _ _ c.requires.none; makes = Makes-refl _ }

pub width_of-requires : goal.width_of-requires
width_of-requires c = (each_at (IsStored c.args.out.now.nets c.args.scope.now) c.args.stored.now c.loop-one.one-index (get_or c.args.stored.now c.loop-one.one-index blank) c.requires.stored (slice_get-get_or c.args.stored.now c.loop-one.one-index blank (omega arith))).local

pub low_bits-requires-clause-fresh : goal.low_bits-requires-clause-fresh
low_bits-requires-clause-fresh c = c.loop-one.invariant.makes.fresh c.requires.fresh

pub low_bits-requires-clause-net : goal.low_bits-requires-clause-net
low_bits-requires-clause-net c =
    IsNet-Makes _ _ _ c.loop-one.invariant.makes (each_at (IsStored c.args.out.now.nets c.args.scope.now) c.args.stored.now c.loop-one.one-index (get_or c.args.stored.now c.loop-one.one-index blank) c.requires.stored (slice_get-get_or c.args.stored.now c.loop-one.one-index blank (omega arith))).slot

pub low_bits-requires-clause-low : goal.low_bits-requires-clause-low
low_bits-requires-clause-low c =
    subst (λ n. 1 ≤ n) (bits_are c.args.scope.now (get_or c.args.stored.now c.loop-one.one-index blank).local c.width_of.result c.width_of.ensures)
    (each_at (IsStored c.args.out.now.nets c.args.scope.now) c.args.stored.now c.loop-one.one-index (get_or c.args.stored.now c.loop-one.one-index blank) c.requires.stored (slice_get-get_or c.args.stored.now c.loop-one.one-index blank (omega arith))).some

pub low_bits-requires-clause-room : goal.low_bits-requires-clause-room
low_bits-requires-clause-room c =
    subst (λ n. n ≤ (get_or c.args.stored.now c.loop-one.one-index blank).slot.width) (bits_are c.args.scope.now (get_or c.args.stored.now c.loop-one.one-index blank).local c.width_of.result c.width_of.ensures)
    (each_at (IsStored c.args.out.now.nets c.args.scope.now) c.args.stored.now c.loop-one.one-index (get_or c.args.stored.now c.loop-one.one-index blank) c.requires.stored (slice_get-get_or c.args.stored.now c.loop-one.one-index blank (omega arith))).room

pub put-requires : goal.put-requires
put-requires c =
    subst (λ n. (get_or c.args.stored.now c.loop-one.one-index blank).local < n) (sym c.loop-one.invariant.is_row.long)
    (each_at (IsStored c.args.out.now.nets c.args.scope.now) c.args.stored.now c.loop-one.one-index (get_or c.args.stored.now c.loop-one.one-index blank) c.requires.stored (slice_get-get_or c.args.stored.now c.loop-one.one-index blank (omega arith))).local

pub loop-one-preserved : goal.loop-one-preserved
loop-one-preserved c =
    let h = c.loop-one.invariant in
    let y = c.in_ok-net.ensures in
    let one : Stored = get_or c.args.stored.now c.loop-one.one-index blank in
    let here : c.loop-one.one-index < length c.args.stored.now = omega arith in
    let inside = subst (λ n. one.local < n) (sym h.is_row.long)
    (each_at (IsStored c.args.out.now.nets c.args.scope.now) c.args.stored.now c.loop-one.one-index one c.requires.stored (slice_get-get_or c.args.stored.now c.loop-one.one-index blank here)).local in
    let bits = bits_are c.args.scope.now one.local c.width_of.result c.width_of.ensures in
    let carries : Carries c.low_bits.new.out (local_bits c.args.scope.now one.local) (λ r x. x ≡ r.read one.slot.number % 2 ^ local_bits c.args.scope.now one.local) c.in_ok-net.net =
    subst (λ n. Carries c.low_bits.new.out n (λ r x. x ≡ r.read one.slot.number % 2 ^ n) c.in_ok-net.net) (sym bits) y.carries in
    rw c.put.ensures (record {
      is_row = row_filled _ c.args.scope.now _ one.local c.in_ok-net.net inside carries.net carries.wide (rows_on _ _ c.args.scope.now _ y.wiring.makes h.is_row);
      has = stored_more _ _ c.args.scope.now c.args.stored.now _ c.loop-one.one-index one c.in_ok-net.net y.wiring.makes c.requires.once (slice_get-get_or c.args.stored.now c.loop-one.one-index blank (omega arith)) inside carries h.has;
      slots = around_more c.args.stored.now c.loop-one.one-index one c.in_ok-net.net _ _ _ _ _ (slice_get-get_or c.args.stored.now c.loop-one.one-index blank (omega arith)) h.makes y.wiring h.slots;
      makes = Makes-trans _ _ _ h.makes y.wiring.makes;
    })

pub returns-clause-stored : goal.returns-clause-stored
returns-clause-stored c = λ k s at. let inside : k < length c.args.stored.now = slice_get_within c.args.stored.now k s at in c.loop-one.invariant.has k s (omega arith) at

pub returns-clause-slots : goal.returns-clause-slots
returns-clause-slots c = around_all c.args.stored.now c.loop-one.one-index _ _ _ _ (omega arith) c.loop-one.invariant.slots
