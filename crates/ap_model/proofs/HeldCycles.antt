-- A cycle in which all stages are held.
use Rattle.std.proofs.Common.{◌≡◌, ℕ, zero, suc, ◌+◌, List, [], ◌∷◌, map, slice_index_or, Option, None, option_map, refl, ap}
use Rattle.ap_bits.specs.declared.card.Card.{Card}
use Rattle.ap_desc.specs.declared.design.Design.{Design}
use Rattle.ap_image.specs.declared.image.Image.{Image}
use Rattle.ap_image.specs.declared.trace.TraceLine.{TraceLine}
use Rattle.ap_model.specs.declared.state.Entry.{Entry}
use Rattle.ap_model.specs.declared.state.Flight.{Flight}
use Rattle.ap_model.specs.declared.state.State.{State}
use Rattle.ap_model.specs.Cycles.{after_control, cycle_entries, cycle_flights, entering, flight_entries, flights_from, leaving, staying}
use Rattle.ap_model.specs.HeldStages.{HoldsAll, all_held}
use Rattle.ap_model.specs.Stored.{with_writes}
use Rattle.ap_model.proofs.CountedLaws.{nothing_told}

held_storages : (design : Design) (cards : List Card) (image : Image) (inputs : TraceLine) (state : State) (taken : Option ℕ) → (after_control design cards image inputs state (all_held taken)).storages ≡ state.storages
unfolding after_control cycle_entries with_writes
held_storages design cards image inputs state taken = ap (λ es. with_writes state.storages (map (λ (e : Entry). e.write) es)) (nothing_told (flight_entries design cards inputs state (all_held taken)) (λ stage flight. refl) 1 state.flights)

held_at : (design : Design) (cards : List Card) (inputs : TraceLine) (state : State) (taken : Option ℕ) (stage : ℕ) (coming : Option Flight) (flights : List (Option Flight)) (i : ℕ)
    → slice_index_or (flights_from design cards inputs state (all_held taken) stage coming flights) i None ≡ option_map staying (slice_index_or flights i None)
held_at design cards inputs state taken stage coming [] i = refl
held_at design cards inputs state taken stage coming (flight ∷ flights) zero = refl
held_at design cards inputs state taken stage coming (flight ∷ flights) (suc i) = held_at design cards inputs state taken (stage + 1) (leaving design cards inputs state (all_held taken) stage flight) flights i

held_flights : (design : Design) (cards : List Card) (image : Image) (inputs : TraceLine) (state : State) (taken : Option ℕ) (i : ℕ)
    → slice_index_or (after_control design cards image inputs state (all_held taken)).flights i None ≡ option_map staying (slice_index_or state.flights i None)
unfolding after_control cycle_flights
held_flights design cards image inputs state taken i = held_at design cards inputs state taken 1 (entering design image state (all_held taken)) state.flights i

pub held_cycles : (design : Design) (cards : List Card) (image : Image) (inputs : TraceLine) (state : State) (taken : Option ℕ) → HoldsAll state (after_control design cards image inputs state (all_held taken))
held_cycles design cards image inputs state taken = record { storages = held_storages design cards image inputs state taken; flights = held_flights design cards image inputs state taken }
