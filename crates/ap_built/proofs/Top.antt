-- A top that was built of its pieces is a whole processor.
use Rattle.std.proofs.Common.{◌≡◌, ℕ, zero, suc, ◌+◌, ◌-◌, ◌≤◌, List, [], ◌∷◌, length, Option, Some, true, refl, sym, ap, subst, ◌∙◌, arith}
use Rattle.std.specs.Prelude.{slice_get}
use Rattle.std.specs.Option.{option_map_or}
use Rattle.ap_bits.specs.declared.card.Card.{Card}
use Rattle.ap_desc.specs.Clean.{FitsCards}
use Rattle.ap_desc.specs.declared.design.Arg.{Arg}
use Rattle.ap_desc.specs.declared.design.Design.{Design}
use Rattle.ap_desc.specs.declared.design.Instr.{Instr}
use Rattle.ap_model.specs.Fire.{instr_of}
use Rattle.ap_model.specs.declared.storage.WritePort.{WritePort}
use Rattle.ap_model.specs.Ports.{is_used_in}
use Rattle.ap_model.specs.UnitUse.{asks}
use Rattle.ap_net.specs.declared.cell.Wire.{Wire}
use Rattle.ap_net.specs.Draft.{Draft}
use Rattle.ap_net.specs.Modules.{ModuleText}
use Rattle.ap_net.specs.Readings.{Reading}
use Rattle.ap_cycle.proofs.Steps.{branch_high, branch_low}
use Rattle.ap_signals.specs.NetSignals.{is_slow_unit_of}
use Rattle.ap_flight.specs.declared.stage.StageRegisters.{StageRegisters}
use Rattle.ap_stage.specs.declared.node.Course.{Course}
use Rattle.ap_border.specs.Files.{HasFiles}
use Rattle.ap_border.specs.Flights.{HasFlights}
use Rattle.ap_border.specs.StageData.{HasInstr}
use Rattle.ap_border.specs.StageShown.{AsksUnit}
use Rattle.ap_data.specs.Stage.{IsStageOf, StagesHaveData, data_value}
use Rattle.ap_data.specs.Units.{AsksInstance, UnitsAreAsked}
use Rattle.ap_values.specs.Values.{LeavesAreByData, TransfersAreByData, WritesAreByData, data_values}
use Rattle.ap_whole.specs.Effects.{HasTransfer, HasWrites, LeavesStage}
use Rattle.ap_whole.specs.Whole.{IsProcessor}
use Rattle.ap_bank.specs.Border.{RegsGiveBorder}
use Rattle.ap_bank.specs.FileBorder.{FilesGiveBorder, GivesFiles}
use Rattle.ap_built.specs.FileReads.{FilesJoinReads}
use Rattle.ap_built.specs.Front.{FrontsGiveBorder, GivesFront, kept_in}
use Rattle.ap_built.specs.Top.{IsTopBuilt, TopsAreProcessors}

-- the laws that are used
pub record Laws : Type 0 where
  pub front : FrontsGiveBorder
  pub regs : RegsGiveBorder
  pub files : FilesGiveBorder
  pub reads : FilesJoinReads
  pub instrs : StagesHaveData
  pub units : UnitsAreAsked
  pub writes : WritesAreByData
  pub transfer : TransfersAreByData
  pub leaves : LeavesAreByData

-- lists of one length have a member at the same places
other_at : {X Y : Type 0} (xs : List X) (ys : List Y) (k : ℕ) (x : X) → length ys ≡ length xs → slice_get xs k ≡ Some x → (y : Y) × (slice_get ys k ≡ Some y)
other_at [] ys k x e at = cc
other_at (x ∷ xs) [] k y e at = cc
other_at (x ∷ xs) (y ∷ ys) zero z e at = (y, refl)
other_at (x ∷ xs) (y ∷ ys) (suc k) z e at = other_at xs ys k z (omega arith) at

module _ (laws : Laws) (design : Design) (cards : List Card) (d : Draft) (modules : List ModuleText) (fits : FitsCards design cards) (h : IsTopBuilt design cards d modules) where
  front : GivesFront design d modules h.table h.r h.comings h.f h.given h.nets
  front = laws.front design d modules h.table h.r h.comings h.f h.given h.nets fits.clean h.front

  gives : GivesFiles design d modules h.banks
  gives = laws.files design d modules fits.clean h.top h.banks

  abbrev files : HasFiles design d modules
  files = gives.files

  abbrev flights : HasFlights design d
  flights = (front.flights).has

  abbrev home : ℕ → Instr → ℕ → ℕ
  home = kept_in design h.table.stages

  stage_of : (stage : ℕ) → 1 ≤ stage → stage ≤ design.stages - 1 → IsStageOf design cards d modules files h.parts home stage (h.base stage) (h.courses stage) (h.nodes stage)
  stage_of = h.stages files (λ file f at. laws.reads design d modules h.banks gives file f at)

  word_is : (stage : ℕ) → 1 ≤ stage → stage ≤ design.stages - 1 → (h.base stage).word ≡ (flights.registers stage).word
  word_is stage low high = h.words stage low high ∙ ap (λ (q : StageRegisters). q.word) (sym ((front.flights).registers stage))

  place_is : (stage : ℕ) → 1 ≤ stage → stage ≤ design.stages - 1 → (h.base stage).place ≡ (flights.registers stage).place
  place_is stage low high = h.places stage low high ∙ ap (λ (q : StageRegisters). q.place) (sym ((front.flights).registers stage))

  abbrev value : ℕ → ℕ → Reading → Arg → ℕ
  value stage = data_values design (h.base stage) (h.courses stage)

  -- the data of an instruction, by the nets of its course
  record HasOne (stage k : ℕ) (instr : Instr) : Type 0 where
    c : Course
    at : slice_get (h.courses stage) k ≡ Some c
    has : (i : HasInstr design cards d modules files home stage (flights.registers stage).word (flights.registers stage).place instr) × (i.value ≡ (λ r a. data_value design r (h.base stage) c a))

  one : (stage k : ℕ) (instr : Instr) → 1 ≤ stage → stage ≤ design.stages - 1 → slice_get design.instrs k ≡ Some instr → HasOne stage k instr
  one stage k instr low high at =
      let of = stage_of stage low high in
      let c = other_at design.instrs (h.courses stage) k instr of.long at in
      let data_of = laws.instrs design cards d modules files h.parts home stage (h.base stage) (h.courses stage) (h.nodes stage) fits of k instr c.0 at c.1 in
      record {
        c = c.0;
        at = c.1;
        has = subst (λ (w : Wire). (i : HasInstr design cards d modules files home stage w (flights.registers stage).place instr) × (i.value ≡ (λ r a. data_value design r (h.base stage) c.0 a))) (word_is stage low high)
            (subst (λ (p : Wire). (i : HasInstr design cards d modules files home stage (h.base stage).word p instr) × (i.value ≡ (λ r a. data_value design r (h.base stage) c.0 a))) (place_is stage low high) data_of);
      }

  by_value : (stage k : ℕ) (c : Course) (r : Reading) (a : Arg) → slice_get (h.courses stage) k ≡ Some c → value stage k r a ≡ data_value design r (h.base stage) c a
  by_value stage k c r a at = ap (λ (o : Option Course). option_map_or (λ (x : Course). data_value design r (h.base stage) x a) o 0) at

  asked : (stage k : ℕ) (instr : Instr) (low : 1 ≤ stage) (high : stage ≤ design.stages - 1) (at : slice_get design.instrs k ≡ Some instr) (unit : ℕ) (slow : is_slow_unit_of design stage unit ≡ true) (seen : ℕ) → instr_of design seen ≡ Some instr
      → asks design stage seen unit ≡ true
      → AsksUnit design cards d modules files h.given h.nets home stage (flights.registers stage).word (flights.registers stage).place instr ((one stage k instr low high at).has).0 unit (h.slow stage unit slow)
  asked stage k instr low high at unit slow seen found asking =
      let of = stage_of stage low high in
      let s = h.slow stage unit slow in
      let o = one stage k instr low high at in
      let told = laws.units design cards d modules files h.parts home stage (h.base stage) (h.courses stage) (h.nodes stage) fits of k instr o.c at o.at unit s.k s.resource s.card s.at (h.carded stage unit slow) (h.joins stage unit slow) seen found asking in
      let there = subst (λ (w : Wire). AsksInstance d modules w instr (λ r a. data_value design r (h.base stage) o.c a) stage unit s.k s.card) (word_is stage low high) told in
      let by = subst (λ (v : Reading → Arg → ℕ). AsksInstance d modules (flights.registers stage).word instr v stage unit s.k s.card) (sym o.has.1) there in
      record { card = h.carded stage unit slow; chosen = by.chosen; asked = by.asked; result = by.result }

  written : (stage : ℕ) (p : WritePort) → 1 ≤ stage → stage ≤ design.stages - 1 → is_used_in design stage p ≡ true → HasWrites design d modules h.given h.nets (flights.registers stage).word (value stage) stage p
  written stage p low high used =
      subst (λ (w : Wire). HasWrites design d modules h.given h.nets w (value stage) stage p) (word_is stage low high)
      (laws.writes design d modules h.given h.nets (h.base stage) (h.courses stage) stage p (stage_of stage low high).link (h.written stage p low high used))

  low_branch : 1 ≤ design.branch
  low_branch = branch_low design fits.clean

  high_branch : design.branch ≤ design.stages - 1
  high_branch = branch_high design fits.clean

  transfer : HasTransfer design d modules h.given h.nets (flights.registers design.branch).word (front.fetch).target (value design.branch)
  transfer =
      subst (λ (t : Wire). HasTransfer design d modules h.given h.nets (flights.registers design.branch).word t (value design.branch)) (sym front.target)
      (subst (λ (w : Wire). HasTransfer design d modules h.given h.nets w h.f.target (value design.branch)) (word_is design.branch low_branch high_branch)
      (laws.transfer design d modules h.given h.nets (h.base design.branch) h.f.target (h.courses design.branch) (stage_of design.branch low_branch high_branch).link h.transfer))

  leaves : (stage : ℕ) → 1 ≤ stage → stage + 1 ≤ design.stages - 1 → LeavesStage design d modules home flights (flights.registers stage).word (value stage) stage
  leaves stage low high =
      let before : stage ≤ design.stages - 1 = omega arith in
      subst (λ (w : Wire). LeavesStage design d modules home flights w (value stage) stage) (word_is stage low before)
      (laws.leaves design d modules home flights (h.base stage) (h.courses stage) stage (h.leaves front.flights stage low high))

  pub processor : IsProcessor design cards d modules
  processor = record {
    home = home;
    given = h.given;
    nets = h.nets;
    branch = high_branch;
    transfers = low_branch;
    control = front.control;
    fetch = front.fetch;
    flights = flights;
    homes = front.homes;
    words = front.words;
    held = front.holds;
    regs = laws.regs design d h.registers h.writes h.regs h.idle;
    files = files;
    units = h.slow;
    value = value;
    instrs = λ stage k instr low high at. ((one stage k instr low high at).has).0;
    values = λ stage k instr low high at r a. let o = one stage k instr low high at in by_value stage k o.c r a o.at ∙ sym (ap (λ (v : Reading → Arg → ℕ). v r a) o.has.1);
    asked = asked;
    writes = written;
    transfer = transfer;
    leaves = leaves;
  }

pub tops_are_processors : Laws → TopsAreProcessors
tops_are_processors laws design cards d modules fits h = processor laws design cards d modules fits h
