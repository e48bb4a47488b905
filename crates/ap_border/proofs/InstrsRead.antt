-- The values of an instruction's operands meet the equations of its lines.
use Rattle.std.proofs.Common.{◌≡◌, ℕ, zero, suc, ◌+◌, ◌-◌, ◌<◌, ◌≤◌, ◌%◌, ◌^◌, List, [], ◌∷◌, length, map, Option, Some, Bool, true, false, refl, sym, ap, subst, ◌∙◌, arith}
use Rattle.std.specs.Prelude.{codes, find, if◌then◌else◌, option_map, slice_get, slice_index, slice_index_or}
use Rattle.std.specs.List.{range_with_len}
use Rattle.std.specs.Option.{option_map_or}
use Rattle.std.proofs.lemmas.List.{length-map}
use Rattle.std.proofs.lemmas.Option.{get_or_from_slice_get, slice_get-map, slice_get_within}
use Rattle.ap_bits.specs.declared.card.Card.{Card}
use Rattle.ap_desc.specs.Designs.{field_value, fields_of}
use Rattle.ap_desc.specs.declared.design.Act.{Act}
use Rattle.ap_desc.specs.declared.design.Act.TheVariants as act
use Rattle.ap_desc.specs.declared.design.Arg.{Arg}
use Rattle.ap_desc.specs.declared.design.Arg.TheVariants as arg
use Rattle.ap_desc.specs.declared.design.Design.{Design}
use Rattle.ap_desc.specs.declared.design.Field.{Field}
use Rattle.ap_desc.specs.declared.design.File.{File}
use Rattle.ap_desc.specs.declared.design.InPort.{InPort as Input}
use Rattle.ap_desc.specs.declared.design.Instr.{Instr}
use Rattle.ap_desc.specs.declared.design.Reg.{Reg}
use Rattle.ap_image.specs.declared.image.Image.{Image}
use Rattle.ap_image.specs.declared.shape.MemShape.{MemShape}
use Rattle.ap_image.specs.declared.trace.Trace.{Trace}
use Rattle.ap_image.specs.declared.trace.TraceLine.{TraceLine}
use Rattle.ap_image.specs.FitsShape.{line_at}
use Rattle.ap_model.specs.declared.state.Flight.{Flight}
use Rattle.ap_model.specs.Cycles.{inputs_at}
use Rattle.ap_model.specs.Fire.{act_value, instr_of, is_match, link_of}
use Rattle.ap_model.specs.FlightLocals.{is_live}
use Rattle.ap_model.specs.LineForms.{ReadsLines, flight_sight}
use Rattle.ap_model.specs.UnitUse.{is_quick}
use Rattle.ap_net.specs.declared.cell.Wire.{Wire}
use Rattle.ap_net.specs.declared.net.FlatNet.{FlatNet}
use Rattle.ap_net.specs.declared.net.Next.{Next}
use Rattle.ap_net.specs.Flat.{register_in, value_named}
use Rattle.ap_net.specs.Outside.{InPort, input_name, mem_name, shape_of}
use Rattle.ap_net.specs.Readings.{Reading}
use Rattle.ap_net.specs.Runs.{InputsAre, MemsAnswer}
use Rattle.ap_net.proofs.Lists.{some_same}
use Rattle.ap_net.proofs.Renumbered.{some_within}
use Rattle.ap_cycle.specs.KeptStates.{HasFlight}
use Rattle.ap_cycle.specs.Signals.{Signals}
use Rattle.ap_signals.specs.DesignOutside.{mem_shape, outside_of}
use Rattle.ap_signals.specs.NetRuns.{NetRun, cell_name, file_part, held_value, net_value, part_register, place_name, reg_name, slot_name, word_name}
use Rattle.ap_signals.specs.NetSignals.{net_signals, slot_local}
use Rattle.ap_signals.proofs.NetMachine.{same_inputs}
use Rattle.ap_store.specs.FileModules.{held}
use Rattle.ap_border.specs.Named.{IsNamed}
use Rattle.ap_border.specs.Processor.{RunsProcessor}
use Rattle.ap_border.specs.StageData.{GivesLine, HasInstr, InstrsAreRead, IsMatched, ReadsFile, ReadsInput, ReadsMem, ReadsRegister}
use Rattle.ap_border.specs.Storages.{RunsRegs}
use Rattle.ap_border.proofs.ControlShown.{later_word}
use Rattle.ap_border.proofs.FilesStored.{cell_goes, number_is}
use Rattle.ap_border.proofs.FlightsShown.{later_place}
use Rattle.ap_border.proofs.NamesRead.{names_are_read, registers_are_read}
use Rattle.ap_border.proofs.RegsStored.{mapped_at, memories}

find_passes : {X : Type 0} (p : X → Bool) (xs : List X) (x : X) → find p xs ≡ Some x → p x ≡ true
find_passes p [] x e = cc
find_passes p (y ∷ xs) x e = go (p y) refl e (find_passes p xs x)
  where
    go : (b : Bool) → p y ≡ b → (if b then Some y else find p xs) ≡ Some x → (find p xs ≡ Some x → p x ≡ true) → p x ≡ true
    go true is e later = ap p (sym (some_same e)) ∙ is
    go false is e later = later e

pub found_matches : (design : Design) (word : ℕ) (instr : Instr) → instr_of design word ≡ Some instr → is_match word instr ≡ true
unfolding instr_of
found_matches design word instr e = find_passes (is_match word) design.instrs instr e

same_lists : (xs ys : List ℕ) → length xs ≡ length ys → ((i : ℕ) → i < length xs → slice_index xs i ≡ slice_index ys i) → xs ≡ ys
same_lists [] [] e h = refl
same_lists [] (y ∷ ys) e h = absurd (omega (arith, e))
same_lists (x ∷ xs) [] e h = absurd (omega (arith, e))
same_lists (x ∷ xs) (y ∷ ys) e h =
    let long : length xs ≡ length ys = omega (arith, e) in
    λ i. h 0 (omega arith) i ∷ same_lists xs ys long (λ k lt. h (suc k) (omega (arith, lt))) i

-- what inputs and memories give, by number
input_at : (nets : List FlatNet) (v : List ℕ) (ps : List InPort) (values : List ℕ) (k : ℕ) (p : InPort) → InputsAre nets v ps values → slice_get ps k ≡ Some p → value_named nets v (input_name p) ≡ slice_index values k
input_at nets v [] values k p h at = cc
input_at nets v (q ∷ ps) [] k p h at = absurd h
input_at nets v (q ∷ ps) (x ∷ values) zero p h at = ap (λ (z : InPort). value_named nets v (input_name z)) (sym (some_same at)) ∙ h.0
input_at nets v (q ∷ ps) (x ∷ values) (suc k) p h at = input_at nets v ps values k p h.1 at

answer_at : (nets : List FlatNet) (v : List ℕ) (shapes : List MemShape) (mems : List (List ℕ)) (k : ℕ) (m : MemShape) (words : List ℕ) → MemsAnswer nets v shapes mems → slice_get shapes k ≡ Some m → slice_get mems k ≡ Some words
    → value_named nets v (mem_name m (codes "rd")) ≡ slice_index words (value_named nets v (mem_name m (codes "ra")))
answer_at nets v [] mems k m words h at there = cc
answer_at nets v (x ∷ shapes) [] k m words h at there = cc
answer_at nets v (x ∷ shapes) (w ∷ mems) zero m words h at there =
    ap (λ (z : MemShape). value_named nets v (mem_name z (codes "rd"))) (sym (some_same at)) ∙ h.0 ∙ (λ i. slice_index (some_same there i) (value_named nets v (mem_name (some_same at i) (codes "ra"))))
answer_at nets v (x ∷ shapes) (w ∷ mems) (suc k) m words h at there = answer_at nets v shapes mems k m words h.1 at there

ranged_long : (a n : ℕ) → length (range_with_len a n) ≡ n
ranged_long a zero = refl
ranged_long a (suc n) = let more : length (range_with_len (a + 1) n) ≡ n = ranged_long (a + 1) n in let all : length (range_with_len a (suc n)) ≡ suc n = omega (arith, more) in all

ranged_at : (a n index : ℕ) → index < n → slice_get (range_with_len a n) index ≡ Some (a + index)
ranged_at a zero index lt = absurd (omega arith)
ranged_at a (suc n) zero lt = let e : a ≡ a + 0 = omega arith in ap Some e
ranged_at a (suc n) (suc index) lt = ranged_at (a + 1) n index (omega arith) ∙ (let e : a + 1 + index ≡ a + suc index = omega arith in ap Some e)

module _ (design : Design) (cards : List Card) (image : Image) (trace : Trace) (run : NetRun) (c : ℕ) (reading : ℕ → Reading) (p : RunsProcessor design image trace run c reading) (j : ℕ) (lt : j < c) where
  abbrev regs : RunsRegs design image trace run c reading
  regs = record { draft = p.draft; modules = p.modules; runs = p.runs; mems = p.mems; read = p.read; has = p.regs }

  abbrev signals : Signals
  signals = net_signals design run j

  abbrev r : Reading
  r = reading j

  named : (name : List ℕ) (w : Wire) → IsNamed p.draft name w → net_value run j name ≡ r.read w.number
  named name w h = names_are_read p.draft p.modules run c reading p.read name w h j lt

  -- the cells of a file are its registers
  cells_are : (file : ℕ) (x : File) (at : slice_get design.files file ≡ Some x) → held (p.files.each file x at).whole (r.parts (p.files.each file x at).k)
      ≡ map (λ index. part_register run.flat (run.states j) (file_part x) (cell_name index)) (range_with_len 0 x.cells)
  cells_are file x at =
      let own = p.files.each file x at in
      let cell : ℕ → ℕ = λ index. part_register run.flat (run.states j) (file_part x) (cell_name index) in
      let count : length own.whole.nexts ≡ x.cells = own.is_file.cells.count in
      let long : length (held own.whole (r.parts own.k)) ≡ length own.whole.nexts = simp length-map in
      let mapped : length (map cell (range_with_len 0 x.cells)) ≡ length (range_with_len 0 x.cells) = simp length-map in
      let ranged : length (range_with_len 0 x.cells) ≡ x.cells = ranged_long 0 x.cells in
      same_lists (held own.whole (r.parts own.k)) (map cell (range_with_len 0 x.cells)) (omega (arith, count, long, mapped, ranged)) (λ index below.
      let y = some_within own.whole.nexts index (omega (arith, below, long)) in
      let first : 0 + index ≡ index = omega arith in
      mapped_at (λ (z : Next). r.parts own.k z.register.number) own.whole.nexts index y.0 y.1
      ∙ sym ((cell_goes design image trace run c reading regs p.files file x at index y.0 y.1).holds j lt)
      ∙ sym (ap (λ n. register_in n run.flat (run.states j).registers (cell_name index)) (number_is design image trace run c reading regs p.files file x at))
      ∙ sym (mapped_at cell (range_with_len 0 x.cells) index index (ranged_at 0 x.cells index (omega (arith, below, long, count)) ∙ ap Some first)))

  module _ (stage : ℕ) (low : 1 ≤ stage) (high : stage ≤ design.stages - 1) (instr : Instr) (h : HasInstr design cards p.draft p.modules p.files run.home stage (p.flights.registers stage).word (p.flights.registers stage).place instr)
      (flight : Flight) (there : HasFlight design signals stage flight) (at : instr_of design flight.word ≡ Some instr) where
    abbrev word : Wire
    word = (p.flights.registers stage).word

    abbrev place : Wire
    place = (p.flights.registers stage).place

    word_is : r.read word.number ≡ flight.word
    word_is =
        let before : stage - 1 + 1 ≡ stage = omega arith in
        let s = p.flights.each (stage - 1) stage before high in
        sym ((registers_are_read p.draft p.modules run c reading p.read (word_name stage) 0 word s.word_takes.from (record { begins = s.word_named; next = s.word_takes.next })).holds j lt) ∙ sym (later_word run j stage low) ∙ there.word

    place_is : r.read place.number ≡ flight.place
    place_is =
        let before : stage - 1 + 1 ≡ stage = omega arith in
        let s = p.flights.each (stage - 1) stage before high in
        sym ((registers_are_read p.draft p.modules run c reading p.read (place_name stage) 0 place s.place_takes.from (record { begins = s.place_named; next = s.place_takes.next })).holds j lt) ∙ sym (later_place run j stage low) ∙ there.place

    pub matched : IsMatched p.draft p.modules word instr r
    matched = record { settled = p.read.settled j lt; over = p.read.over j; matches = subst (λ w. is_match w instr ≡ true) (sym word_is) (found_matches design flight.word instr at) }

    abbrev value : Arg → ℕ
    value = h.value r

    old : (i : ℕ) → is_live design flight.word stage i ≡ true → value (arg.Local i) ≡ signals.local stage i
    old i live =
        let s = h.old flight.word i at live in
        let seen : instr_of design (signals.word stage) ≡ Some instr = ap (instr_of design) there.word ∙ at in
        s.reads r matched ∙ ap (λ n. n % 2 ^ slice_index instr.locals i) (sym ((registers_are_read p.draft p.modules run c reading p.read (slot_name stage (run.home stage instr i)) 0 s.slot s.from s.named).holds j lt))
        ∙ sym (ap (λ (o : Option Instr). option_map_or (slot_local run (held_value run j) stage i) o 0) seen)

    reg_read : (reg n : ℕ) → ReadsRegister design p.draft p.modules word instr reg (λ x. h.value x (arg.Local n)) → value (arg.Local n) ≡ slice_index signals.storages.regs reg
    reg_read reg n g =
        g.reads r matched ∙ sym ((registers_are_read p.draft p.modules run c reading p.read (reg_name (g.of)) (g.of).reset g.register g.from g.named).holds j lt)
        ∙ sym (mapped_at (λ (x : Reg). held_value run j (reg_name x)) design.regs reg g.of g.at)

    input_read : (input n : ℕ) → ReadsInput design p.draft p.modules word instr input (λ x. h.value x (arg.Local n)) → value (arg.Local n) ≡ slice_index (inputs_at design trace j).ports input
    input_read input n g =
        let port : InPort = record { name = (g.of).name; width = (g.of).width } in
        g.reads r matched ∙ sym (named (input_name port) g.net g.named)
        ∙ input_at run.flat.nets (run.values j) (outside_of design).inputs (line_at trace (shape_of (outside_of design)).inputs j).ports input port (p.runs.goes j lt).inputs
        (slice_get-map (λ (x : Input). record { name = x.name; width = x.width }) design.inputs input ∙ ap (option_map (λ (x : Input). record { name = x.name; width = x.width })) g.at)
        ∙ ap (λ (line : TraceLine). slice_index line.ports input) (same_inputs design trace j)

    mem_read : (mem n : ℕ) (address : Arg) → ReadsMem design p.draft p.modules word instr mem (λ x. h.value x address) (λ x. h.value x (arg.Local n))
        → value (arg.Local n) ≡ slice_index (slice_index_or signals.storages.mems mem []) (value address)
    mem_read mem n address g =
        let count : length (run.states j).mems ≡ length design.mems = memories design image trace run c reading regs j (omega arith) in
        let inside : mem < length design.mems = slice_get_within design.mems mem g.of g.at in
        let words = some_within (run.states j).mems mem (omega (arith, count, inside)) in
        g.reads r matched ∙ sym (named (mem_name (mem_shape g.of) (codes "rd")) g.net g.named)
        ∙ answer_at run.flat.nets (run.values j) (outside_of design).mems (run.states j).mems mem (mem_shape g.of) words.0 (p.runs.goes j lt).reads (slice_get-map mem_shape design.mems mem ∙ ap (option_map mem_shape) g.at) words.1
        ∙ (λ i. slice_index (sym (get_or_from_slice_get (run.states j).mems mem words.0 [] words.1) i) ((named (mem_name (mem_shape g.of) (codes "ra")) g.asked g.asked_named ∙ g.asks r matched) i))

    file_read : (file number n : ℕ) (index : Arg) → ReadsFile design p.draft p.modules p.files word instr file number (λ x. h.value x index) (λ x. h.value x (arg.Local n))
        → value (arg.Local n) ≡ slice_index (slice_index_or signals.storages.files file []) (value index)
    file_read file number n index g =
        let own = p.files.each file g.of g.at in
        let cells = λ (x : File). map (λ i. part_register run.flat (run.states j) (file_part x) (cell_name i)) (range_with_len 0 x.cells) in
        let settled = ((p.read.parts own.k own.of own.whole own.placed own.found).alone (omega arith)).solves j lt in
        let files : slice_index_or signals.storages.files file [] ≡ cells g.of = get_or_from_slice_get (map cells design.files) file (cells g.of) [] (slice_get-map cells design.files file ∙ ap (option_map cells) g.at) in
        g.reads r matched ∙ own.is_file.reads number (r.parts own.k) g.within settled ∙ (λ i. slice_index ((cells_are file g.of g.at ∙ sym files) i) (g.asks r matched i))

    gives : (a : Act) (line n : ℕ) → GivesLine design cards p.draft p.modules p.files word instr h.value n a → is_quick design a ≡ true
        → Some (value (arg.Local n)) ≡ act_value (flight_sight design cards (inputs_at design trace j) signals.storages flight instr) value line a
    gives (act.Compute unit op a b) line n g quick = ap Some (g quick r matched)
    gives (act.ReadFile file number index) line n g quick = ap Some (file_read file number n index g)
    gives (act.ReadReg reg) line n g quick = ap Some (reg_read reg n g)
    gives (act.ReadMem mem address) line n g quick = ap Some (mem_read mem n address g)
    gives (act.ReadIn input) line n g quick = ap Some (input_read input n g)
    gives (act.Const width number) line n g quick = ap Some (g r matched)
    gives (act.Zext width a) line n g quick = ap Some (g r matched)
    gives (act.Sext width a) line n g quick = ap Some (g r matched)
    gives (act.Slice top bottom a) line n g quick = ap Some (g r matched)
    gives (act.Cat a b) line n g quick = ap Some (g r matched)
    gives (act.WriteFile file number index v guard) line n g quick = absurd g
    gives (act.WriteReg reg v guard) line n g quick = absurd g
    gives (act.WriteMem mem address v guard) line n g quick = absurd g
    gives (act.Branch cond target) line n g quick = absurd g
    gives (act.Jump target) line n g quick = absurd g

    pub reads_lines : ReadsLines design cards (inputs_at design trace j) signals.storages stage flight instr (is_quick design) (signals.local stage) value
    reads_lines = record {
      field = λ i. h.field i r matched ∙ ap (λ w. option_map_or (λ (f : Field). field_value f w) (slice_get (fields_of design instr) i) 0) word_is;
      pc = h.pc r matched ∙ place_is;
      link = h.link r matched ∙ ap (link_of design) place_is;
      old = old;
      new = λ n m maker quick. gives m.act m.line n (h.new n m maker) quick;
    }

pub instrs_are_read : InstrsAreRead
instrs_are_read design cards image trace run c reading p stage low high instr h j lt flight there at = reads_lines design cards image trace run c reading p j lt stage low high instr h flight there at
