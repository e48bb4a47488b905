-- A whole processor runs, and each of its runs is the machine.
use Rattle.std.proofs.Common.{◌≡◌, ℕ, zero, suc, ◌+◌, ◌-◌, ◌^◌, ◌<◌, ◌≤◌, List, [], ◌∷◌, length, map, Some, true, false, refl, sym, ap, subst, ◌∙◌, arith, ⊎_elim}
use Rattle.std.specs.Prelude.{◌==◌, slice_get}
use Rattle.std.proofs.lemmas.Bool.{cases_lt}
use Rattle.std.proofs.lemmas.List.{length-map}
use Rattle.ap_bits.specs.declared.card.Card.{Card}
use Rattle.ap_desc.specs.Clean.{FitsCards, IsClean}
use Rattle.ap_desc.specs.PortsApart.{PortsApart}
use Rattle.ap_desc.specs.Sound.{AreApart, IsEncoded}
use Rattle.ap_desc.specs.declared.design.Arg.{Arg}
use Rattle.ap_desc.specs.declared.design.Arg.TheVariants as arg
use Rattle.ap_desc.specs.declared.design.Design.{Design}
use Rattle.ap_desc.specs.declared.design.Instr.{Instr}
use Rattle.ap_image.specs.declared.image.Image.{Image}
use Rattle.ap_image.specs.declared.shape.MemShape.{MemShape}
use Rattle.ap_image.specs.declared.trace.Trace.{Trace}
use Rattle.ap_image.specs.FitsShape.{ImageFitsShape, MemsFit}
use Rattle.ap_model.specs.declared.storage.WritePort.{WritePort}
use Rattle.ap_model.specs.Fire.{instr_of, is_match}
use Rattle.ap_model.specs.FlightLocals.{is_live}
use Rattle.ap_model.specs.Ports.{is_used_in}
use Rattle.ap_net.specs.Answering.{ReadyRun}
use Rattle.ap_net.specs.Draft.{Draft}
use Rattle.ap_net.specs.Flat.{Flat, opened_over}
use Rattle.ap_net.specs.Modules.{ModuleText}
use Rattle.ap_net.specs.Outside.{shape_of}
use Rattle.ap_net.specs.Readings.{Reading}
use Rattle.ap_net.specs.Runs.{NetState, Runs}
use Rattle.ap_runs.specs.RunReadings.{RunsAreRead, reading_by}
use Rattle.ap_cycle.specs.Signals.{Signals}
use Rattle.ap_signals.specs.DesignOutside.{mem_shape, outside_of}
use Rattle.ap_signals.specs.NetRuns.{NetRun, word_name}
use Rattle.ap_signals.specs.NetSignals.{net_signals}
use Rattle.ap_ctl.specs.Border.{ControlGivesBorder}
use Rattle.ap_ctl.specs.Building.{is_on}
use Rattle.ap_ctl.specs.Meaning.{is_held}
use Rattle.ap_effect.specs.Border.{GivesTransfer, GivesWrite, PortsGiveBorder, TransferGivesBorder}
use Rattle.ap_flight.specs.Locals.{SlotsTakeLive}
use Rattle.ap_border.specs.Control.{RunsControl, look_at}
use Rattle.ap_border.specs.Named.{IsReadBy}
use Rattle.ap_border.specs.Processor.{RunsProcessor}
use Rattle.ap_border.specs.StageShown.{CompleteProcessorsAreTheMachine, HasData}
use Rattle.ap_border.proofs.ControlShown.{bit_says, control_is_shown, later_word, sees}
use Rattle.ap_border.proofs.InstrsRead.{found_matches}
use Rattle.ap_border.proofs.NamesRead.{registers_are_read}
use Rattle.ap_whole.specs.Whole.{IsProcessor, ShowsMachine, WholeProcessorsRun}
use Rattle.ap_whole.proofs.Effects.{taken_there, transfer_given, write_given}
use Rattle.ap_whole.proofs.Leaving.{last_live, left_is}
use Rattle.ap_whole.specs.Homes.{match_number}
use Rattle.ap_whole.proofs.Matching.{match_is}

mems_long : (mems : List (List ℕ)) (shapes : List MemShape) → MemsFit mems shapes → length mems ≡ length shapes
mems_long [] [] h = refl
mems_long [] (m ∷ shapes) h = absurd h
mems_long (words ∷ mems) [] h = absurd h
mems_long (words ∷ mems) (m ∷ shapes) h = ap suc (mems_long mems shapes h.1)

-- the laws that are used
pub record Laws (design : Design) : Type 0 where
  pub clean : IsClean design
  pub encoded : IsEncoded design
  pub ports : PortsApart design
  pub border : ControlGivesBorder
  pub writes : PortsGiveBorder
  pub transfer : TransferGivesBorder
  pub slots : SlotsTakeLive

module _ (design : Design) (cards : List Card) (laws : Laws design) (d : Draft) (modules : List ModuleText) (p : IsProcessor design cards d modules) (image : Image) (trace : Trace) (flat : Flat) (c : ℕ) (states : ℕ → NetState) (values : ℕ → List ℕ)
    (fits : ImageFitsShape image (shape_of (outside_of design))) (goes : Runs (outside_of design) flat image trace c states values) (reading : ℕ → Reading) where
  abbrev run : NetRun
  run = record { flat = flat; home = p.home; states = states; values = values }

  module _ (read : IsReadBy d modules run c reading) where
    abbrev control : RunsControl design p.given run c reading
    control = record { draft = d; modules = modules; nets = p.nets; read = read; has = p.control }

    apart : AreApart design.word design.instrs
    apart = laws.encoded.words

    abbrev signals : ℕ → Signals
    signals = net_signals design run

    -- the word of a stage is that of its register, and fits it
    word_is : (j : ℕ) → j < c → (stage : ℕ) → 1 ≤ stage → stage ≤ design.stages - 1 → (signals j).word stage ≡ (reading j).read (p.flights.registers stage).word.number
    word_is j lt stage low high =
        let before : stage - 1 + 1 ≡ stage = omega arith in
        let s = p.flights.each (stage - 1) stage before high in
        later_word run j stage low
        ∙ (registers_are_read d modules run c reading read (word_name stage) 0 (p.flights.registers stage).word s.word_takes.from (record { begins = s.word_named; next = s.word_takes.next })).holds j lt

    word_fits : (j : ℕ) → j < c → (stage : ℕ) → 1 ≤ stage → stage ≤ design.stages - 1 → (reading j).read (p.flights.registers stage).word.number < 2 ^ design.word
    word_fits j lt stage low high =
        let w = p.words stage low high in
        subst (λ n. (reading j).read (p.flights.registers stage).word.number < 2 ^ n) w.1 ((read.settled j lt).own.fits (p.flights.registers stage).word.number (p.flights.registers stage).word.width w.0.declared)

    abbrev processor : RunsProcessor design image trace run c reading
    processor = record {
      draft = d;
      modules = modules;
      given = p.given;
      nets = p.nets;
      runs = goes;
      mems = mems_long image.mems (map mem_shape design.mems) fits.mems ∙ length-map design.mems mem_shape;
      read = read;
      branch = p.branch;
      control = p.control;
      taken = λ j lt on. taken_there design laws.clean apart p.given run c reading control p.branch laws.border j lt (p.flights.registers design.branch).word p.fetch.target (p.value design.branch) (word_fits j lt design.branch p.transfers p.branch) p.transfer on;
      fetch = p.fetch;
      flights = p.flights;
      homes = p.homes;
      held = p.held;
      regs = p.regs;
      files = p.files;
      units = p.units;
    }

    -- the values of the instruction that is in a stage in a cycle
    abbrev value : ℕ → ℕ → Arg → ℕ
    value j stage = p.value stage (match_number ((reading j).read (p.flights.registers stage).word.number) design.instrs) (reading j)

    values_are : (j stage k : ℕ) (instr : Instr) (low : 1 ≤ stage) (high : stage ≤ design.stages - 1) (at : slice_get design.instrs k ≡ Some instr) → j < c → instr_of design ((signals j).word stage) ≡ Some instr
        → (a : Arg) → value j stage a ≡ (p.instrs stage k instr low high at).value (reading j) a
    values_are j stage k instr low high at lt found a =
        let matches : is_match ((reading j).read (p.flights.registers stage).word.number) instr ≡ true = subst (λ w. is_match w instr ≡ true) (word_is j lt stage low high) (found_matches design ((signals j).word stage) instr found) in
        ap (λ n. p.value stage n (reading j) a) (match_is design.word ((reading j).read (p.flights.registers stage).word.number) (word_fits j lt stage low high) design.instrs apart k instr at matches)
        ∙ p.values stage k instr low high at (reading j) a

    writes : (j stage : ℕ) → j < c → 1 ≤ stage → stage ≤ design.stages - 1 → (q : WritePort) → is_used_in design stage q ≡ true → GivesWrite design (signals j) stage ((signals j).word stage) q (value j stage)
    writes j stage lt low high q used =
        subst (λ w. GivesWrite design (signals j) stage w q (value j stage)) (sym (word_is j lt stage low high))
        (write_given design laws.clean apart p.given run c reading control p.branch laws.border j lt (p.flights.registers stage).word (p.value stage) (word_fits j lt stage low high) laws.writes stage high q (p.writes stage q low high used))

    taken : (j : ℕ) → j < c → GivesTransfer design (signals j) ((signals j).word design.branch) (value j design.branch)
    taken j lt =
        subst (λ w. GivesTransfer design (signals j) w (value j design.branch)) (sym (word_is j lt design.branch p.transfers p.branch))
        (transfer_given design laws.clean apart p.given run c reading control p.branch laws.border j lt (p.flights.registers design.branch).word p.fetch.target (p.value design.branch) (word_fits j lt design.branch p.transfers p.branch) p.transfer
        laws.transfer (outside_of design) image trace goes p.fetch refl)

    left : (j stage i : ℕ) → j < c → 1 ≤ stage → stage ≤ design.stages - 1 → (signals j).hold stage ≡ false → (signals j).valid stage ≡ true → is_live design ((signals j).word stage) (stage + 1) i ≡ true
        → (signals j).left stage i ≡ value j stage (arg.Local i)
    left j stage i lt low high free valid live = ⊎_elim (λ late. let wrong : zero ≡ suc zero = last_live design laws.ports ((signals j).word stage) i (stage + 1) late live in cc) passes (cases_lt (design.stages - 1) (stage + 1))
      where
        passes : stage + 1 ≤ design.stages - 1 → (signals j).left stage i ≡ value j stage (arg.Local i)
        passes next =
            let off : is_on (reading j) (p.flights.hold (stage + 1)) ≡ false =
            ap (λ n. n == 1) ((p.held (stage + 1) (omega arith) next).means.holds (reading j) (read.settled j lt) (look_at design p.given run reading j) (sees design p.given run c reading control j lt))
            ∙ bit_says (is_held design (look_at design p.given run reading j) (stage + 1)) ∙ sym ((control_is_shown design p.given run c reading control j lt).hold (stage + 1)) ∙ free in
            left_is design laws.clean apart laws.slots p.given run c reading control p.flights (p.flights.registers stage).word (p.value stage) stage next (p.leaves stage low next) j lt (word_fits j lt stage low high) off i
            ((signals j).word stage) (word_is j lt stage low high) live refl

    all_data : HasData design cards image trace run c reading processor
    all_data = record {
      instrs = λ stage k instr low high at. p.instrs stage k instr low high at;
      units = λ stage k instr low high at unit slow seen found asked. p.asked stage k instr low high at unit slow seen found asked;
      value = value;
      values = values_are;
      writes = writes;
      taken = taken;
      left = left;
    }

    pub shows : FitsCards design cards → CompleteProcessorsAreTheMachine → ShowsMachine design cards image trace flat c states values
    shows fits law = let m = law design cards image trace run c reading fits processor all_data in record { keeps = m.keeps; rows = m.rows }

pub whole_processors_run : ReadyRun → RunsAreRead → CompleteProcessorsAreTheMachine → ((design : Design) (cards : List Card) → FitsCards design cards → Laws design) → WholeProcessorsRun
whole_processors_run runs reads complete laws by design cards d modules top fits f = record {
  exists = runs by d f.kept f.ready top modules f.finished f.netlist f.ordered f.dependent (outside_of design) f.ports f.looks;
  machine = λ image trace c states values image_fits trace_fits goes.
      shows design cards (laws design cards fits) d modules f.processor image trace (opened_over modules top) c states values image_fits goes (λ j. reading_by modules top f.finished.place (values j))
      (reads d modules top f.finished f.netlist (outside_of design) image trace c states values goes) fits complete;
}
