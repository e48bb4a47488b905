-- A netlist's state keeps the machine's where its signals do.
use Rattle.std.proofs.Common.{◌≡◌, ℕ, zero, suc, ◌+◌, ◌≤◌, ◌<◌, ◌==◌, true, List, [], ◌∷◌, length, map, Option, Some, None, slice_get, slice_index, slice_index_or, refl, ap, sym, ◌∙◌, arith}
use Rattle.std.specs.List.{range_with_len}
use Rattle.ap_desc.specs.declared.design.Design.{Design}
use Rattle.ap_desc.specs.declared.design.File.{File}
use Rattle.ap_desc.specs.declared.design.Reg.{Reg}
use Rattle.ap_model.specs.declared.state.Flight.{Flight}
use Rattle.ap_model.specs.declared.state.State.{State}
use Rattle.ap_model.specs.Stored.{file_cell_value, reg_value}
use Rattle.ap_cycle.specs.KeptStates.{KeepsFrom, KeepsStage, KeepsState}
use Rattle.ap_signals.specs.KeptNets.{HasRegisters, KeepsFlight, KeepsFlights, KeepsMachine}
use Rattle.ap_signals.specs.NetRuns.{NetRun, cell_name, file_part, held_value, part_register, place_name, reg_name, valid_name, word_name}
use Rattle.ap_signals.specs.NetSignals.{by_stage, net_signals}

-- what a list that is made of another one has at a place
at_mapped : {X : Type 0} (f : X → ℕ) (xs : List X) (i : ℕ) (x : X) → slice_get xs i ≡ Some x → slice_index (map f xs) i ≡ f x
at_mapped f [] i x e = cc
at_mapped f (y ∷ ys) zero x e = let same : y ≡ x = cc in ap f same
at_mapped f (y ∷ ys) (suc i) x e = at_mapped f ys i x e

list_at_mapped : {X : Type 0} (f : X → List ℕ) (xs : List X) (i : ℕ) (x : X) → slice_get xs i ≡ Some x → slice_index_or (map f xs) i [] ≡ f x
list_at_mapped f [] i x e = cc
list_at_mapped f (y ∷ ys) zero x e = let same : y ≡ x = cc in ap f same
list_at_mapped f (y ∷ ys) (suc i) x e = list_at_mapped f ys i x e

in_range : (f : ℕ → ℕ) (a n k : ℕ) → k < n → slice_index (map f (range_with_len a n)) k ≡ f (a + k)
in_range f a zero k h = let none : ⊥ = omega (arith, h) in absurd none
in_range f a (suc n) zero h = let none : a ≡ a + 0 = omega arith in ap f none
in_range f a (suc n) (suc k) h = let more : a + 1 + k ≡ a + suc k = omega arith in in_range f (a + 1) n k (omega (arith, h)) ∙ ap f more

-- what the later stages have
later : {X : Type 0} (first : X) (rest : ℕ → X) (stage : ℕ) → 1 ≤ stage → by_stage first rest stage ≡ rest stage
later first rest zero h = let none : ⊥ = omega (arith, h) in absurd none
later first rest (suc stage) h = refl

module _ (design : Design) (run : NetRun) (j : ℕ) (has : HasRegisters design run.flat) where
  keeps_flight : (stage : ℕ) → 1 ≤ stage → stage < design.stages → (flight : Option Flight) → KeepsStage design (net_signals design run j) stage flight → KeepsFlight run.flat (run.states j) stage flight
  keeps_flight stage low high None keeps = record {
    there = (has.stages stage low high).0;
    valid = sym (later true (λ s. held_value run j (valid_name s) == 1) stage low) ∙ keeps;
    word = tt;
    place = tt;
  }
  keeps_flight stage low high (Some f) keeps = record {
    there = (has.stages stage low high).0;
    valid = sym (later true (λ s. held_value run j (valid_name s) == 1) stage low) ∙ keeps.valid;
    word = record { there = (has.stages stage low high).1; holds = sym (later _ (λ s. held_value run j (word_name s)) stage low) ∙ keeps.word };
    place = record { there = (has.stages stage low high).2; holds = sym (later _ (λ s. held_value run j (place_name s)) stage low) ∙ keeps.place };
  }

  keeps_flights : (stage : ℕ) (flights : List (Option Flight)) → 1 ≤ stage → stage + length flights ≤ design.stages → KeepsFrom design (net_signals design run j) stage flights → KeepsFlights run.flat (run.states j) stage flights
  keeps_flights stage [] low high keeps = tt
  keeps_flights stage (flight ∷ flights) low high keeps =
      (keeps_flight stage low (omega (arith, high)) flight keeps.0, keeps_flights (stage + 1) flights (omega (arith, low)) (omega (arith, high)) keeps.1)

-- at least the stages 0 and 1
pub net_keeps : (design : Design) (run : NetRun) (j : ℕ) (state : State) → 1 ≤ design.stages → HasRegisters design run.flat → KeepsState design (net_signals design run j) state → KeepsMachine design run.flat (run.states j) state
net_keeps design run j state some has keeps = record {
  pc = record { there = has.pc; holds = keeps.pc };
  regs = λ reg r at. record {
    there = has.regs reg r at;
    holds = sym (at_mapped (λ (r : Reg). held_value run j (reg_name r)) design.regs reg r at) ∙ ap (λ s. reg_value s reg) keeps.storages;
  };
  cells = λ file index f at low. record {
    there = has.cells file index f at low;
    holds =
        let cells = λ (f : File). map (λ k. part_register run.flat (run.states j) (file_part f) (cell_name k)) (range_with_len 0 f.cells) in
        let none : 0 + index ≡ index = omega arith in
        sym (ap (λ k. part_register run.flat (run.states j) (file_part f) (cell_name k)) none)
        ∙ sym (in_range (λ k. part_register run.flat (run.states j) (file_part f) (cell_name k)) 0 f.cells index low)
        ∙ sym (ap (λ l. slice_index l index) (list_at_mapped cells design.files file f at))
        ∙ ap (λ s. file_cell_value s file index) keeps.storages;
  };
  mems = ap (λ s. s.mems) keeps.storages;
  flights = let count = keeps.count in keeps_flights design run j has 1 state.flights (omega arith) (omega (arith, count, some)) keeps.flights;
}
