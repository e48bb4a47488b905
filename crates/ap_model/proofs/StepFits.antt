-- A cycle keeps a state fitting.
use Rattle.std.proofs.Common.{◌≡◌, ℕ, zero, suc, ◌+◌, ◌-◌, ◌<◌, ◌^◌, ◌%◌, ◌||◌, Bool, true, false, if◌then◌else◌, IfSome, List, [], ◌∷◌, length, replicate, unwrap_or, Option, Some, None, refl, ap, sym, subst, ◌∙◌, mod-lt, pow_pos}
use Rattle.ap_bits.specs.declared.card.Card.{Card}
use Rattle.ap_model.specs.Runnable.{IsRunnable}
use Rattle.ap_desc.specs.declared.design.Design.{Design}
use Rattle.ap_image.specs.FitsShape.{ImageFitsShape}
use Rattle.ap_image.specs.declared.image.Image.{Image}
use Rattle.ap_image.specs.declared.trace.TraceLine.{TraceLine}
use Rattle.ap_model.specs.declared.state.Flight.{Flight}
use Rattle.ap_model.specs.declared.state.State.{State}
use Rattle.ap_model.specs.Cycles.{CycleControl, after_control, cycle_flights, entering, fetched, flights_from, is_killed, leaving, next_pc}
use Rattle.ap_model.specs.DesignShape.{shape_of}
use Rattle.ap_model.specs.Fitting.{FlightFits, FlightsFit, StateFits, StoragesFit}
use Rattle.ap_model.specs.States.{start}
use Rattle.ap_model.proofs.MachineFits.{empty_fits, fetched_fits, start_fits}

-- the pc stays an address
pub next_pc_fits : (design : Design) (state : State) (control : CycleControl) → state.pc < 2 ^ design.address → IfSome control.taken (λ t. t < 2 ^ design.address) → next_pc design state control < 2 ^ design.address
next_pc_fits design state control pc taken = go (control.held 0) control.taken taken
  where
    go : (b : Bool) (o : Option ℕ) → IfSome o (λ t. t < 2 ^ design.address) → (if b then state.pc else unwrap_or o ((state.pc + 1) % 2 ^ design.address)) < 2 ^ design.address
    go true o h = pc
    go false None h = mod-lt (state.pc + 1) (pow_pos design.address)
    go false (Some t) h = h

pub entering_fits : (design : Design) (cards : List Card) (image : Image) (state : State) (control : CycleControl) → IsRunnable design cards → ImageFitsShape image (shape_of design) → state.pc < 2 ^ design.address
    → IfSome (entering design image state control) (FlightFits design 1)
entering_fits design cards image state control fits shaped pc = go (control.held 0 || is_killed design control 0)
  where
    go : (b : Bool) → IfSome (if b then None else Some (fetched image state)) (FlightFits design 1)
    go true = tt
    go false = fetched_fits design cards image state fits shaped pc

flights_length : (design : Design) (cards : List Card) (inputs : TraceLine) (state : State) (control : CycleControl) (stage : ℕ) (coming : Option Flight) (flights : List (Option Flight))
    → length (flights_from design cards inputs state control stage coming flights) ≡ length flights
flights_length design cards inputs state control stage coming [] = refl
flights_length design cards inputs state control stage coming (flight ∷ flights) = ap suc (flights_length design cards inputs state control (stage + 1) (leaving design cards inputs state control stage flight) flights)

-- the state after a cycle fits, where its flights and storages do
pub after_fits : (design : Design) (cards : List Card) (image : Image) (inputs : TraceLine) (state next : State) (control : CycleControl) → StateFits design state → IfSome control.taken (λ t. t < 2 ^ design.address)
    → next ≡ after_control design cards image inputs state control → FlightsFit design 1 next.flights → StoragesFit design next.storages → StateFits design next
unfolding after_control cycle_flights
after_fits design cards image inputs state next control fits taken same flights storages = record {
  pc = subst (λ n. n < 2 ^ design.address) (sym (ap (λ (s : State). s.pc) same)) (next_pc_fits design state control fits.pc taken);
  storages = storages;
  flights = flights;
  count = ap (λ (s : State). length s.flights) same ∙ flights_length design cards inputs state control 1 (entering design image state control) state.flights ∙ fits.count;
}

length_empty : (n : ℕ) → length {A = Option Flight} (replicate n None) ≡ n
length_empty zero = refl
length_empty (suc n) = ap suc (length_empty n)

pub start_state_fits : (design : Design) (cards : List Card) (image : Image) → IsRunnable design cards → ImageFitsShape image (shape_of design) → StateFits design (start design image)
unfolding start
start_state_fits design cards image fits shaped = record {
  pc = pow_pos design.address;
  storages = start_fits design cards image fits shaped;
  flights = empty_fits design 1 (design.stages - 1);
  count = length_empty (design.stages - 1);
}
