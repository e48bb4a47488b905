-- All pieces together are the machine.
use Rattle.std.proofs.Common.{◌≡◌, ℕ, zero, suc, ◌+◌, ◌-◌, ◌<◌, ◌≤◌, List, [], ◌∷◌, length, map, replicate, Some, Bool, true, false, refl, sym, ap, subst, ◌∙◌, arith}
use Rattle.std.specs.Prelude.{◌==◌, slice_get}
use Rattle.std.specs.List.{range_with_len}
use Rattle.ap_bits.specs.declared.card.Card.{Card}
use Rattle.ap_desc.specs.declared.design.Design.{Design}
use Rattle.ap_desc.specs.declared.design.File.{File}
use Rattle.ap_desc.specs.declared.design.Reg.{Reg}
use Rattle.ap_image.specs.declared.image.Image.{Image}
use Rattle.ap_image.specs.declared.trace.Trace.{Trace}
use Rattle.ap_image.specs.declared.trace.TraceLine.{TraceLine}
use Rattle.ap_model.specs.declared.storage.Storages.{Storages}
use Rattle.ap_model.specs.declared.storage.WritePort.TheVariants as port
use Rattle.ap_model.specs.Ports.{is_used}
use Rattle.ap_model.specs.States.{start_storages}
use Rattle.ap_net.specs.declared.net.Next.{Next}
use Rattle.ap_net.specs.Flat.{register_in}
use Rattle.ap_net.specs.Readings.{Reading}
use Rattle.ap_net.specs.Runs.{NetState, bit}
use Rattle.ap_net.proofs.Renumbered.{some_within}
use Rattle.ap_cycle.specs.Circuit.{EachStage, IsCircuit, IsQuiet, NextState, Starts}
use Rattle.ap_cycle.specs.Signals.{Signals}
use Rattle.ap_signals.specs.DesignOutside.{outside_of}
use Rattle.ap_signals.specs.KeptNets.{HasRegisters}
use Rattle.ap_signals.specs.NetRuns.{HasRegister, NetRun, cell_name, file_part, held_value, part_register, pc_name, place_name, reg_name, valid_name, word_name}
use Rattle.ap_signals.specs.NetSignals.{net_signals}
use Rattle.ap_signals.proofs.NetMachine.{net_keeps_machine, net_shows_machine, same_inputs}
use Rattle.ap_ctl.specs.Border.{GivesBorder, ShowsControl, ValidGoesOn}
use Rattle.ap_ctl.specs.Meaning.{Look, is_held}
use Rattle.ap_ctl.proofs.Border.{gives_border}
use Rattle.ap_store.specs.Cells.{CellsGoAlone}
use Rattle.ap_border.specs.Control.{RunsControl, look_at}
use Rattle.ap_border.specs.Fetch.{FetchGoes}
use Rattle.ap_border.specs.Flights.{FlightsGo, RunsFlights}
use Rattle.ap_border.specs.Processor.{ProcessorsAreCircuits, ProcessorsAreTheMachine, ProcessorsHaveRegisters, RunsProcessor, ShowsData}
use Rattle.ap_border.specs.SlowUnits.{ShowsWait}
use Rattle.ap_border.specs.Storages.{RunsRegs}
use Rattle.ap_border.proofs.ControlShown.{bit_says, control_is_shown, sees, stage_bit, valid_bits_go, valid_bits_start, valid_read}
use Rattle.ap_border.proofs.FetchShown.{fetch_is_shown, fetch_starts}
use Rattle.ap_border.proofs.FilesStored.{cell_goes, number_is, storages_go}
use Rattle.ap_border.proofs.FlightsShown.{flights_go_on}
use Rattle.ap_border.proofs.NamesRead.{registers_are_read}
use Rattle.ap_border.proofs.RegsStored.{ports_are_shown}
use Rattle.ap_border.proofs.SlowUnitsShown.{ages_are_shown, busy_is_shown}

-- lists that are made alike
map_same : {X Y : Type 0} (f g : X → Y) (xs : List X) → ((k : ℕ) (x : X) → slice_get xs k ≡ Some x → f x ≡ g x) → map f xs ≡ map g xs
map_same f g [] h = refl
map_same f g (x ∷ xs) h = λ i. h 0 x refl i ∷ map_same f g xs (λ k y at. h (suc k) y at) i

zeros : (f : ℕ → ℕ) (a n : ℕ) → ((i : ℕ) → a ≤ i → i < a + n → f i ≡ 0) → map f (range_with_len a n) ≡ replicate n 0
zeros f a zero h = refl
zeros f a (suc n) h = λ i. h a (omega arith) (omega arith) i ∷ zeros f (a + 1) n (λ k low high. h k (omega arith) (omega arith)) i

-- the storages at the start
abbrev first_storages : Design → Image → Storages
first_storages design image = record { regs = map (λ (r : Reg). r.reset) design.regs; files = map (λ (f : File). replicate f.cells 0) design.files; mems = image.mems }

first_is : (design : Design) (image : Image) → first_storages design image ≡ start_storages design image
unfolding start_storages
first_is design image = refl

module _ (alone : CellsGoAlone) (design : Design) (image : Image) (trace : Trace) (run : NetRun) (c : ℕ) (reading : ℕ → Reading) (p : RunsProcessor design image trace run c reading) where
  abbrev signals : ℕ → Signals
  signals = net_signals design run

  abbrev look : ℕ → Look
  look = look_at design p.given run reading

  abbrev control : RunsControl design p.given run c reading
  control = record { draft = p.draft; modules = p.modules; nets = p.nets; read = p.read; has = p.control }

  abbrev regs : RunsRegs design image trace run c reading
  regs = record { draft = p.draft; modules = p.modules; runs = p.runs; mems = p.mems; read = p.read; has = p.regs }

  abbrev flights : RunsFlights design (outside_of design) image trace run c reading
  flights = record { draft = p.draft; modules = p.modules; runs = p.runs; read = p.read; has = p.flights; homes = p.homes }

  shown : (j : ℕ) → j < c → ShowsControl design (look j) (signals j)
  shown j lt = control_is_shown design p.given run c reading control j lt

  gives : (j : ℕ) → j < c → GivesBorder design (look j) (signals j)
  gives j lt = gives_border design (look j) (signals j) p.branch (shown j lt)

  valid : (j : ℕ) → j < c → EachStage design (ValidGoesOn design (signals j) (signals (j + 1)))
  valid j lt = (gives j lt).next (signals (j + 1)) (valid_bits_go design p.given run c reading control j lt)

  flights_go : (j : ℕ) → j < c → FlightsGo design run j
  flights_go j lt = flights_go_on design (outside_of design) image trace run c reading flights j lt
      (λ stage low high. ap (λ n. n == 1) ((p.held stage low high).means.holds (reading j) (p.read.settled j lt) (look j) (sees design p.given run c reading control j lt)) ∙ bit_says (is_held design (look j) stage) ∙ sym ((shown j lt).hold stage))
      (valid j lt)

  fetch : (j : ℕ) → j < c → FetchGoes design p.given image run reading p.fetch.target j
  fetch j lt = fetch_is_shown design p.given (outside_of design) image trace run c reading control p.runs p.fetch j lt

  next : (j : ℕ) → j < c → NextState design (signals j) (signals (j + 1))
  next j lt = record {
    pc = (fetch j lt).pc;
    storages = storages_go alone design image trace run c reading regs p.files j lt;
    ages = λ stage unit of_stage. ages_are_shown design p.given run c reading control p.units j lt stage unit of_stage;
    passes = (flights_go j lt).passes;
    stays = (flights_go j lt).stays;
  }

  -- the start

  reg_starts : (reg : ℕ) (r : Reg) → slice_get design.regs reg ≡ Some r → held_value run 0 (reg_name r) ≡ r.reset
  reg_starts reg r at = go (is_used design (port.Register reg)) refl
    where
      go : (b : Bool) → is_used design (port.Register reg) ≡ b → held_value run 0 (reg_name r) ≡ r.reset
      go true e = let h = p.regs.written reg r at e in (registers_are_read p.draft p.modules run c reading p.read (reg_name r) r.reset h.register h.takes.from (record { begins = h.begins; next = h.takes.next })).starts
      go false e = let h = p.regs.kept reg r at e in (registers_are_read p.draft p.modules run c reading p.read (reg_name r) r.reset h.register h.takes.from (record { begins = h.begins; next = h.takes.next })).starts

  cell_of : (file : ℕ) (x : File) (at : slice_get design.files file ≡ Some x) (index : ℕ) → index < x.cells → (y : Next) × (slice_get ((p.files.each file x at).whole).nexts index ≡ Some y)
  cell_of file x at index below = let count : length ((p.files.each file x at).whole).nexts ≡ x.cells = (p.files.each file x at).is_file.cells.count in some_within ((p.files.each file x at).whole).nexts index (omega (arith, count))

  cell_starts : (file : ℕ) (x : File) → slice_get design.files file ≡ Some x → (index : ℕ) → index < x.cells → part_register run.flat (run.states 0) (file_part x) (cell_name index) ≡ 0
  cell_starts file x at index below =
      let y = cell_of file x at index below in
      ap (λ n. register_in n run.flat (run.states 0).registers (cell_name index)) (number_is design image trace run c reading regs p.files file x at) ∙ (cell_goes design image trace run c reading regs p.files file x at index y.0 y.1).starts

  starts : Starts design image (signals 0)
  starts = record {
    pc = fetch_starts design p.given run c reading control p.fetch;
    storages = (λ i. record {
      regs = map_same (λ (r : Reg). held_value run 0 (reg_name r)) (λ (r : Reg). r.reset) design.regs reg_starts i;
      files = map_same (λ (x : File). map (λ index. part_register run.flat (run.states 0) (file_part x) (cell_name index)) (range_with_len 0 x.cells)) (λ (x : File). replicate x.cells 0) design.files
          (λ file x at. zeros (λ index. part_register run.flat (run.states 0) (file_part x) (cell_name index)) 0 x.cells (λ index low high. cell_starts file x at index (omega (arith, high)))) i;
      mems = ap (λ (s : NetState). s.mems) p.runs.starts i;
    }) ∙ first_is design image;
    empty = valid_bits_start design p.given run c reading control;
    fresh = λ unit. refl;
  }

  waits : (j : ℕ) → j < c → ShowsWait trace design run j
  waits j lt = (p.runs.goes j lt).wait ∙ ap (λ (line : TraceLine). bit line.wait) (same_inputs design trace j)

  registers : HasRegisters design run.flat
  registers = record {
    pc = (registers_are_read p.draft p.modules run c reading p.read pc_name 0 p.fetch.pc p.fetch.pc_from p.fetch.pc_named).there;
    regs = λ reg r at. reg_there reg r at (is_used design (port.Register reg)) refl;
    cells = λ file index x at below.
        let y = cell_of file x at index below in
        subst (λ n. HasRegister run.flat n (cell_name index)) (sym (number_is design image trace run c reading regs p.files file x at)) (cell_goes design image trace run c reading regs p.files file x at index y.0 y.1).there;
    stages = λ stage low high. stage_there stage (omega arith) (omega arith);
  }
    where
      reg_there : (reg : ℕ) (r : Reg) → slice_get design.regs reg ≡ Some r → (b : Bool) → is_used design (port.Register reg) ≡ b → HasRegister run.flat 0 (reg_name r)
      reg_there reg r at true e = let h = p.regs.written reg r at e in (registers_are_read p.draft p.modules run c reading p.read (reg_name r) r.reset h.register h.takes.from (record { begins = h.begins; next = h.takes.next })).there
      reg_there reg r at false e = let h = p.regs.kept reg r at e in (registers_are_read p.draft p.modules run c reading p.read (reg_name r) r.reset h.register h.takes.from (record { begins = h.begins; next = h.takes.next })).there

      stage_there : (stage : ℕ) → 1 ≤ stage → stage ≤ design.stages - 1 → HasRegister run.flat 0 (valid_name stage) × HasRegister run.flat 0 (word_name stage) × HasRegister run.flat 0 (place_name stage)
      stage_there stage low high =
          let v = stage_bit design p.given run c reading control stage low high in
          let before : stage - 1 + 1 ≡ stage = omega arith in
          let h = p.flights.each (stage - 1) stage before high in (
            (valid_read design p.given run c reading control stage v.0 v.1).there,
            (registers_are_read p.draft p.modules run c reading p.read (word_name stage) 0 (p.flights.registers stage).word h.word_takes.from (record { begins = h.word_named; next = h.word_takes.next })).there,
            (registers_are_read p.draft p.modules run c reading p.read (place_name stage) 0 (p.flights.registers stage).place h.place_takes.from (record { begins = h.place_named; next = h.place_takes.next })).there,
          )

  module _ (cards : List Card) (facts : ShowsData design cards image trace run c reading p) where
    quiet : (j : ℕ) → j < c → EachStage design (IsQuiet design (signals j))
    quiet j lt stage low high = record {
      untaken = λ at empty. (gives j lt).untaken (p.taken j lt) (subst (λ s. (signals j).valid s ≡ false) at empty);
      held = λ at on. (gives j lt).held (subst (λ s. (signals j).hold s ≡ true) at on);
      unwritten = facts.unwritten j lt stage low high;
    }

    circuit : IsCircuit design cards image trace c signals
    circuit = record {
      starts = starts;
      next = next;
      fetches = λ j lt. (fetch j lt).fetches;
      writes = λ j lt. ports_are_shown design image trace run c reading regs j lt;
      hold = λ j lt. (gives j lt).hold;
      quiet = quiet;
      busy = λ j lt proper. busy_is_shown design p.given trace run c reading control p.units facts.operations flights_go j lt (waits j lt) proper;
      asked = facts.asked;
      shown = facts.shown;
    }

pub processors_are_circuits : CellsGoAlone → ProcessorsAreCircuits
processors_are_circuits alone design cards image trace run c reading p facts = circuit alone design image trace run c reading p cards facts

pub processors_have_registers : CellsGoAlone → ProcessorsHaveRegisters
processors_have_registers alone design image trace run c reading p = registers alone design image trace run c reading p

pub processors_are_the_machine : CellsGoAlone → ProcessorsAreTheMachine
processors_are_the_machine alone design cards image trace run c reading fits p facts = record {
  keeps = net_keeps_machine design cards image trace c run fits p.mems (registers alone design image trace run c reading p) (circuit alone design image trace run c reading p cards facts);
  rows = net_shows_machine design cards image trace c run fits p.mems (circuit alone design image trace run c reading p cards facts);
}
