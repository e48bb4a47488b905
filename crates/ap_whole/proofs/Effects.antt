-- What write ports and the transfer show in a cycle of a run.
use Rattle.std.proofs.Common.{◌≡◌, ℕ, ◌-◌, ◌^◌, ◌<◌, ◌≤◌, ◌&&◌, List, map, Option, Some, None, Bool, true, false, refl, sym, ap, ◌∙◌}
use Rattle.std.specs.Prelude.{◌==◌, if◌then◌else◌, not, option_map, slice_get}
use Rattle.std.specs.List.{list_any}
use Rattle.std.specs.Option.{option_map_or}
use Rattle.ap_desc.specs.Clean.{IsClean}
use Rattle.ap_desc.specs.Sound.{AreApart}
use Rattle.ap_desc.specs.declared.design.Arg.{Arg}
use Rattle.ap_desc.specs.declared.design.Design.{Design}
use Rattle.ap_desc.specs.declared.design.Instr.{Instr}
use Rattle.ap_image.specs.declared.image.Image.{Image}
use Rattle.ap_image.specs.declared.trace.Trace.{Trace}
use Rattle.ap_model.specs.declared.storage.WritePort.{WritePort}
use Rattle.ap_model.specs.declared.storage.WritePort.TheVariants as port
use Rattle.ap_model.specs.Fire.{is_match}
use Rattle.ap_model.specs.declared.storage.PortWrite.{PortWrite}
use Rattle.ap_net.specs.declared.cell.Wire.{Wire}
use Rattle.ap_net.specs.Draft.{Draft}
use Rattle.ap_net.specs.Modules.{ModuleText}
use Rattle.ap_net.specs.Outside.{Outside}
use Rattle.ap_net.specs.Readings.{IsSettled, Reading}
use Rattle.ap_net.specs.Runs.{Runs}
use Rattle.ap_net.proofs.Lists.{some_same}
use Rattle.ap_cycle.specs.Signals.{Signals}
use Rattle.ap_signals.specs.DesignOutside.{enable_name, index_name, value_name}
use Rattle.ap_signals.specs.NetRuns.{NetRun, net_value}
use Rattle.ap_signals.specs.NetSignals.{net_signals, write_index}
use Rattle.ap_ctl.specs.declared.nets.ControlGiven.{ControlGiven}
use Rattle.ap_ctl.specs.Border.{ControlGivesBorder, GivesBorder}
use Rattle.ap_ctl.specs.Building.{is_on}
use Rattle.ap_ctl.specs.Lists.{EachPair}
use Rattle.ap_ctl.specs.Meaning.{Look, fires, is_held}
use Rattle.ap_ctl.proofs.Beside.{EachPair-weaker}
use Rattle.ap_effect.specs.declared.line.PortLine.{PortLine}
use Rattle.ap_effect.specs.declared.write.Writer.{Writer}
use Rattle.ap_effect.specs.Border.{GivesTransfer, GivesWrite, PortsGiveBorder, TransferGivesBorder}
use Rattle.ap_effect.specs.Lines.{transfer_lines, write_lines}
use Rattle.ap_effect.specs.Shown as shown
use Rattle.ap_effect.specs.Writers.{is_acting, writer_of}
use Rattle.ap_border.specs.Control.{RunsControl, look_at}
use Rattle.ap_border.specs.Fetch.{HasFetch}
use Rattle.ap_border.specs.StageData.{IsMatched}
use Rattle.ap_border.proofs.ControlShown.{bit_says, control_is_shown, sees}
use Rattle.ap_border.proofs.FetchShown.{fetch_is_shown}
use Rattle.ap_border.proofs.NamesRead.{names_are_read}
use Rattle.ap_whole.specs.Effects.{HasTransfer, HasWrites, IsIndexShown, IsShownAs, WritesLine}
use Rattle.ap_whole.specs.Homes.{match_number}
use Rattle.ap_whole.proofs.Matching.{match_is}

-- the write that is shown where the enable is 1
abbrev written : WritePort → ℕ → ℕ → ℕ → Option PortWrite
written p enable at value = if enable == 1 then Some (record { port = p; at = at; value = value }) else None

same_write : (p : WritePort) (a b x y u v : ℕ) → a ≡ b → x ≡ y → u ≡ v → written p a x u ≡ written p b y v
same_write p a b x y u v e f g = λ i. written p (e i) (f i) (g i)

-- a transfer is shown where it is taken and its stage isn't held
shown_unless : {X : Type 0} (taken held : Bool) (t : X) → (if taken && not held then Some t else None) ≡ (if held then None else if taken then Some t else None)
shown_unless true true t = refl
shown_unless true false t = refl
shown_unless false true t = refl
shown_unless false false t = refl

pub first_on : (a b : Bool) → (a && b) ≡ true → a ≡ true
first_on true b e = refl
first_on false b e = e

module _ (design : Design) (d : Draft) (modules : List ModuleText) (apart : AreApart design.word design.instrs) (word : Wire) (value : ℕ → Reading → Arg → ℕ) (r : Reading) (settled : IsSettled d r) (over : r.modules ≡ modules) (lt : r.read word.number < 2 ^ design.word) where
  -- the word in the reading, and the values of the instruction that it matches
  abbrev seen : ℕ
  seen = r.read word.number

  abbrev values : Arg → ℕ
  values = value (match_number seen design.instrs) r

  matched_by : (instr : Instr) → is_match seen instr ≡ true → IsMatched d modules word instr r
  matched_by instr m = record { settled = settled; over = over; matches = m }

  values_by : (k : ℕ) (instr : Instr) → slice_get design.instrs k ≡ Some instr → is_match seen instr ≡ true → value k r ≡ values
  values_by k instr at m = ap (λ n. value n r) (sym (match_is design.word seen lt design.instrs apart k instr at m))

  writes_line : (line : PortLine) (w : Writer) → WritesLine design d modules word value line w → shown.IsWriterOf design seen values r line w
  writes_line line w h = record {
    cond = λ instr at. on_is ∙ ap (is_match seen) (some_same (sym h.at ∙ at));
    guard = λ on. let m = matches on in h.guard r (matched_by h.instr m) ∙ ap (λ (v : Arg → ℕ). option_map v line.guard) (values_by line.instr h.instr h.at m);
    index = λ on. let m = matches on in h.index r (matched_by h.instr m) ∙ ap (λ (v : Arg → ℕ). option_map v line.index) (values_by line.instr h.instr h.at m);
    value = λ on. let m = matches on in h.written r (matched_by h.instr m) ∙ ap (λ (v : Arg → ℕ). v line.value) (values_by line.instr h.instr h.at m);
  }
    where
      on_is : is_on r w.cond ≡ is_match seen h.instr
      on_is = ap (λ n. n == 1) (h.cond.carries.means.holds r settled) ∙ bit_says (is_match seen h.instr)

      matches : is_on r w.cond ≡ true → is_match seen h.instr ≡ true
      matches on = sym on_is ∙ on

  pub write_lines_of : (lines : List PortLine) (writers : List Writer) → EachPair (WritesLine design d modules word value) lines writers → shown.AreWritersOf design seen values r lines writers
  write_lines_of lines writers h = EachPair-weaker (WritesLine design d modules word value) (shown.IsWriterOf design seen values r) writes_line lines writers h

module _ (design : Design) (clean : IsClean design) (apart : AreApart design.word design.instrs) (given : ControlGiven) (run : NetRun) (c : ℕ) (reading : ℕ → Reading) (runs : RunsControl design given run c reading) (branch : design.branch ≤ design.stages - 1) (border : ControlGivesBorder) where
  abbrev signals : ℕ → Signals
  signals = net_signals design run

  module _ (j : ℕ) (lt : j < c) where
    abbrev r : Reading
    r = reading j

    abbrev look : Look
    look = look_at design given run reading j

    settled : IsSettled runs.draft r
    settled = runs.read.settled j lt

    gives : GivesBorder design look (signals j)
    gives = border design look (signals j) branch (control_is_shown design given run c reading runs j lt)

    -- what is shown under a name
    shows_as : (name : List ℕ) (w : Wire) → IsShownAs runs.draft name w → net_value run j name ≡ r.read w.number
    shows_as name w h = names_are_read runs.draft runs.modules run c reading runs.read name h.net h.named j lt ∙ h.same.holds r settled

    index_shown : (p : WritePort) (index : Option Wire) → IsIndexShown design runs.draft p index → write_index design run j p ≡ option_map_or (shown.net_value r) index 0
    index_shown (port.Register reg) index h = ap (λ (o : Option Wire). option_map_or (shown.net_value r) o 0) (sym h)
    index_shown (port.Cell file number) None h = absurd h
    index_shown (port.Cell file number) (Some index) h = shows_as (index_name design (port.Cell file number)) index h
    index_shown (port.Memory mem) None h = absurd h
    index_shown (port.Memory mem) (Some index) h = shows_as (index_name design (port.Memory mem)) index h

    module _ (word : Wire) (value : ℕ → Reading → Arg → ℕ) (word_lt : r.read word.number < 2 ^ design.word) where
      pub write_given : PortsGiveBorder → (stage : ℕ) → stage ≤ design.stages - 1 → (p : WritePort) → HasWrites design runs.draft runs.modules given runs.nets word value stage p
          → GivesWrite design (signals j) stage (r.read word.number) p (value (match_number (r.read word.number) design.instrs) r)
      write_given law stage high p h =
          law design (signals j) stage (r.read word.number) p (value (match_number (r.read word.number) design.instrs) r) h.old runs.draft h.fires h.writers h.bits h.width h.made r clean word_lt h.fit h.are settled
          (write_lines_of design runs.draft runs.modules apart word value r settled (runs.read.over j) word_lt (write_lines design stage p) h.writers h.lines)
          (gives.goes_on stage high ∙ sym (ap (λ n. n == 1) (h.goes.means.holds r settled look (sees design given run c reading runs j lt)) ∙ bit_says (fires design look stage)))
          (same_write p _ _ _ _ _ _ (shows_as (enable_name design p) h.made.enable h.enable) (index_shown p h.made.index h.index) (shows_as (value_name design p) h.made.value h.shown))

    module _ (word target : Wire) (value : ℕ → Reading → Arg → ℕ) (word_lt : r.read word.number < 2 ^ design.word) (h : HasTransfer design runs.draft runs.modules given runs.nets word target value) where
      valid_is : look.valid design.branch ≡ is_on r h.valid
      valid_is = sym (ap (λ n. n == 1) (h.there.means.holds r settled look (sees design given run c reading runs j lt)) ∙ bit_says (look.valid design.branch))

      taken_is : look.taken ≡ is_on r h.made.taken
      taken_is = ap (λ n. n == 1) (h.taken.holds r settled)

      -- a transfer is taken only where its stage has a word
      pub taken_there : look.taken ≡ true → look.valid design.branch ≡ true
      taken_there on =
          valid_is ∙ first_on (is_on r h.valid) (list_any (is_acting r) (map writer_of h.transfers))
          (sym (ap (λ n. n == 1) (h.are.taken.carries.means.holds r settled) ∙ bit_says (is_on r h.valid && list_any (is_acting r) (map writer_of h.transfers))) ∙ sym taken_is ∙ on)

      pub transfer_given : TransferGivesBorder → (o : Outside) (image : Image) (trace : Trace) → Runs o run.flat image trace c run.states run.values → (fetch : HasFetch design runs.draft given runs.nets) → fetch.target ≡ target
          → GivesTransfer design (signals j) (r.read word.number) (value (match_number (r.read word.number) design.instrs) r)
      transfer_given law o image trace goes fetch same =
          let f = fetch_is_shown design given o image trace run c reading runs goes fetch j lt in
          let held : (signals j).hold design.branch ≡ is_held design look design.branch = (control_is_shown design given run c reading runs j lt).hold design.branch in
          law design (signals j) (r.read word.number) (value (match_number (r.read word.number) design.instrs) r) runs.draft h.valid h.transfers h.width h.made r clean word_lt h.are settled
          (write_lines_of design runs.draft runs.modules apart word value r settled (runs.read.over j) word_lt (transfer_lines design design.branch) (map writer_of h.transfers) h.lines)
          valid_is
          (f.taken ∙ (λ i. if taken_is i && not (is_held design look design.branch) then Some (r.read (same i).number) else None)
          ∙ ap (λ n. if is_on r h.made.taken && not (is_held design look design.branch) then Some n else None) (h.goes.holds r settled)
          ∙ shown_unless (is_on r h.made.taken) (is_held design look design.branch) (r.read h.made.target.number)
          ∙ (λ i. if sym held i then None else if is_on r h.made.taken then Some (r.read h.made.target.number) else None))
