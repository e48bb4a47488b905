-- What registers and memories store.
use Rattle.std.proofs.Common.{◌≡◌, ℕ, zero, suc, ◌+◌, ◌<◌, ◌≤◌, List, [], ◌∷◌, length, map, Option, Some, None, Bool, true, false, refl, sym, ap, subst, ◌∙◌, arith, ⊎_elim}
use Rattle.std.specs.Prelude.{◌==◌, if◌then◌else◌, option_map, slice_get, slice_index, slice_index_or}
use Rattle.std.specs.Option.{option_map_or}
use Rattle.std.proofs.lemmas.List.{length-map}
use Rattle.std.proofs.lemmas.Option.{get_or_from_slice_get, slice_get-map}
use Rattle.ap_desc.specs.declared.design.Design.{Design}
use Rattle.ap_desc.specs.declared.design.Mem.{Mem}
use Rattle.ap_desc.specs.declared.design.Reg.{Reg}
use Rattle.ap_image.specs.Words.{with_word}
use Rattle.ap_image.specs.declared.image.Image.{Image}
use Rattle.ap_image.specs.declared.shape.MemShape.{MemShape}
use Rattle.ap_image.specs.declared.trace.Trace.{Trace}
use Rattle.ap_model.specs.declared.storage.PortWrite.{PortWrite}
use Rattle.ap_model.specs.declared.storage.WritePort.{WritePort}
use Rattle.ap_model.specs.declared.storage.WritePort.TheVariants as port
use Rattle.ap_model.specs.PortForms.{GoesThroughPorts}
use Rattle.ap_model.specs.Ports.{is_used}
use Rattle.ap_net.specs.declared.net.FlatNet.{FlatNet}
use Rattle.ap_net.specs.Readings.{Reading}
use Rattle.ap_net.specs.Runs.{NetState, mem_after, mems_after}
use Rattle.ap_net.proofs.Lists.{some_same}
use Rattle.ap_net.proofs.Renumbered.{some_within}
use Rattle.ap_cycle.specs.Signals.{Signals}
use Rattle.ap_signals.specs.DesignOutside.{enable_name, index_name, mem_at, mem_shape, value_name}
use Rattle.ap_signals.specs.NetRuns.{NetRun, held_value, net_value, reg_name}
use Rattle.ap_signals.specs.NetSignals.{net_signals, write_index}
use Rattle.ap_border.specs.Storages.{IsOff, KeepsReg, PortsAreShown, RegsAreStored, RunsRegs, StoresRegs, WritesReg}
use Rattle.ap_border.proofs.NamesRead.{names_are_read, registers_are_read}

pub mapped_at : {X : Type 0} (f : X → ℕ) (xs : List X) (k : ℕ) (x : X) → slice_get xs k ≡ Some x → slice_index (map f xs) k ≡ f x
mapped_at f xs k x at = get_or_from_slice_get (map f xs) k (f x) 0 (slice_get-map f xs k ∙ ap (option_map f) at)

-- a write where a bit is 1
written_value : (b : Bool) (p : WritePort) (at value old : ℕ) → option_map_or (λ (w : PortWrite). w.value) (if b then Some (record { port = p; at = at; value = value }) else None) old ≡ (if b then value else old)
written_value true p at value old = refl
written_value false p at value old = refl

written_words : (b : Bool) (p : WritePort) (at value : ℕ) (words : List ℕ)
    → option_map_or (λ (w : PortWrite). with_word words w.at w.value) (if b then Some (record { port = p; at = at; value = value }) else None) words ≡ (if b then with_word words at value else words)
written_words true p at value words = refl
written_words false p at value words = refl

same_port : (b : Bool) (p : WritePort) (at value : ℕ) (w : PortWrite) → (if b then Some (record { port = p; at = at; value = value }) else None) ≡ Some w → w.port ≡ p
same_port true p at value w e = sym (ap (λ (x : PortWrite). x.port) (some_same e))
same_port false p at value w e = cc

none_written : (n : ℕ) (p : WritePort) (at value : ℕ) → n ≡ 0 → if◌then◌else◌ {A = Option PortWrite} (n == 1) (Some (record { port = p; at = at; value = value })) None ≡ None
none_written n p at value e = rw e refl

-- Memories.

memory_after : (nets : List FlatNet) (v : List ℕ) (shapes : List MemShape) (mems : List (List ℕ)) (k : ℕ) (m : MemShape) (words : List ℕ) → slice_get shapes k ≡ Some m → slice_get mems k ≡ Some words
    → slice_get (mems_after nets v shapes mems) k ≡ Some (mem_after nets v m words)
memory_after nets v [] mems k m words at there = cc
memory_after nets v (x ∷ shapes) [] k m words at there = cc
memory_after nets v (x ∷ shapes) (w ∷ mems) zero m words at there = λ i. Some (mem_after nets v (some_same at i) (some_same there i))
memory_after nets v (x ∷ shapes) (w ∷ mems) (suc k) m words at there = memory_after nets v shapes mems k m words at there

memories_stay : (nets : List FlatNet) (v : List ℕ) (shapes : List MemShape) (mems : List (List ℕ)) → length mems ≡ length shapes → length (mems_after nets v shapes mems) ≡ length mems
memories_stay nets v [] [] e = refl
memories_stay nets v [] (w ∷ mems) e = absurd (omega (arith, e))
memories_stay nets v (x ∷ shapes) [] e = refl
memories_stay nets v (x ∷ shapes) (w ∷ mems) e =
    let more : length mems ≡ length shapes = omega (arith, e) in
    let rest : length (mems_after nets v shapes mems) ≡ length mems = memories_stay nets v shapes mems more in
    let all : length (mems_after nets v (x ∷ shapes) (w ∷ mems)) ≡ length (w ∷ mems) = omega (arith, rest) in
    all

module _ (design : Design) (image : Image) (trace : Trace) (run : NetRun) (c : ℕ) (reading : ℕ → Reading) (f : RunsRegs design image trace run c reading) where
  -- there are as many memories before each cycle
  pub memories : (j : ℕ) → j ≤ c → length (run.states j).mems ≡ length design.mems
  memories zero le = ap (λ (s : NetState). length s.mems) f.runs.starts ∙ f.mems
  memories (suc j) le =
      let lt : j < c = omega arith in
      let before : length (run.states j).mems ≡ length design.mems = memories j (omega arith) in
      let shapes : length (map mem_shape design.mems) ≡ length design.mems = simp length-map in
      let next : j + 1 ≡ suc j = omega arith in
      subst (λ n. length (run.states n).mems ≡ length design.mems) next
      (ap length (f.runs.goes j lt).writes ∙ memories_stay run.flat.nets (run.values j) (map mem_shape design.mems) (run.states j).mems (before ∙ sym shapes) ∙ before)

  module _ (j : ℕ) (lt : j < c) where
    abbrev now : Signals
    now = net_signals design run j

    abbrev next : Signals
    next = net_signals design run (j + 1)

    off_is_zero : (name : List ℕ) → IsOff f.draft name → net_value run j name ≡ 0
    off_is_zero name off = ⊎_elim (λ none. f.read.absent j name none)
        (λ never. names_are_read f.draft f.modules run c reading f.read name never.net never.named j lt ∙ never.never.means.holds (reading j) (f.read.settled j lt)) off

    pub idle : (p : WritePort) → is_used design p ≡ false → now.write p ≡ None
    idle p unused = none_written (net_value run j (enable_name design p)) p (write_index design run j p) (net_value run j (value_name design p)) (off_is_zero (enable_name design p) (f.has.idle p unused))

    ports : GoesThroughPorts design now.write
    ports = record {
      theirs = λ p w. same_port (net_value run j (enable_name design p) == 1) p (write_index design run j p) (net_value run j (value_name design p)) w;
      idle = idle;
    }

    -- a register
    written : (reg : ℕ) (r : Reg) → WritesReg design f.draft reg r → held_value run (j + 1) (reg_name r) ≡ option_map_or (λ (w : PortWrite). w.value) (now.write (port.Register reg)) (held_value run j (reg_name r))
    written reg r h =
        let register = registers_are_read f.draft f.modules run c reading f.read (reg_name r) r.reset h.register h.takes.from (record { begins = h.begins; next = h.takes.next }) in
        let enable = names_are_read f.draft f.modules run c reading f.read (enable_name design (port.Register reg)) h.enable h.enable_named j lt in
        let value = names_are_read f.draft f.modules run c reading f.read (value_name design (port.Register reg)) h.value h.value_named j lt in
        register.goes j lt ∙ h.takes.carries.means.holds (reading j) (f.read.settled j lt)
        ∙ (λ i. if sym enable i == 1 then sym value i else sym (register.holds j lt) i)
        ∙ sym (written_value (net_value run j (enable_name design (port.Register reg)) == 1) (port.Register reg) 0 (net_value run j (value_name design (port.Register reg))) (held_value run j (reg_name r)))

    kept : (reg : ℕ) (r : Reg) → is_used design (port.Register reg) ≡ false → KeepsReg f.draft r
        → held_value run (j + 1) (reg_name r) ≡ option_map_or (λ (w : PortWrite). w.value) (now.write (port.Register reg)) (held_value run j (reg_name r))
    kept reg r unused h =
        let register = registers_are_read f.draft f.modules run c reading f.read (reg_name r) r.reset h.register h.takes.from (record { begins = h.begins; next = h.takes.next }) in
        register.goes j lt ∙ h.takes.carries.means.holds (reading j) (f.read.settled j lt) ∙ sym (register.holds j lt)
        ∙ sym (ap (λ (w : Option PortWrite). option_map_or (λ (x : PortWrite). x.value) w (held_value run j (reg_name r))) (idle (port.Register reg) unused))

    stored : (reg : ℕ) (r : Reg) → slice_get design.regs reg ≡ Some r → held_value run (j + 1) (reg_name r) ≡ option_map_or (λ (w : PortWrite). w.value) (now.write (port.Register reg)) (held_value run j (reg_name r))
    stored reg r at = go (is_used design (port.Register reg)) refl
      where
        go : (b : Bool) → is_used design (port.Register reg) ≡ b → held_value run (j + 1) (reg_name r) ≡ option_map_or (λ (w : PortWrite). w.value) (now.write (port.Register reg)) (held_value run j (reg_name r))
        go true e = written reg r (f.has.written reg r at e)
        go false e = kept reg r e (f.has.kept reg r at e)

    regs : (reg : ℕ) → reg < length now.storages.regs → slice_index next.storages.regs reg ≡ option_map_or (λ (w : PortWrite). w.value) (now.write (port.Register reg)) (slice_index now.storages.regs reg)
    regs reg inside =
        let long : length (map (λ (r : Reg). held_value run j (reg_name r)) design.regs) ≡ length design.regs = simp length-map in
        let found = some_within design.regs reg (omega (arith, long)) in
        mapped_at (λ (r : Reg). held_value run (j + 1) (reg_name r)) design.regs reg found.0 found.1 ∙ stored reg found.0 found.1
        ∙ ap (option_map_or (λ (w : PortWrite). w.value) (now.write (port.Register reg))) (sym (mapped_at (λ (r : Reg). held_value run j (reg_name r)) design.regs reg found.0 found.1))

    mems : (mem : ℕ) → mem < length now.storages.mems
        → slice_index_or next.storages.mems mem [] ≡ option_map_or (λ (w : PortWrite). with_word (slice_index_or now.storages.mems mem []) w.at w.value) (now.write (port.Memory mem)) (slice_index_or now.storages.mems mem [])
    mems mem inside =
        let count : length (run.states j).mems ≡ length design.mems = memories j (omega arith) in
        let m = some_within design.mems mem (omega (arith, count)) in
        let words = some_within (run.states j).mems mem inside in
        let shape : mem_at design mem ≡ mem_shape m.0 = ap (λ (o : Option Mem). option_map_or mem_shape o (record { name = []; address = 0; width = 0 })) m.1 in
        let old : slice_index_or (run.states j).mems mem [] ≡ words.0 = get_or_from_slice_get (run.states j).mems mem words.0 [] words.1 in
        let after : slice_get (run.states (j + 1)).mems mem ≡ Some (mem_after run.flat.nets (run.values j) (mem_shape m.0) words.0) =
        ap (λ (l : List (List ℕ)). slice_get l mem) (f.runs.goes j lt).writes
        ∙ memory_after run.flat.nets (run.values j) (map mem_shape design.mems) (run.states j).mems mem (mem_shape m.0) words.0 (slice_get-map mem_shape design.mems mem ∙ ap (option_map mem_shape) m.1) words.1 in
        get_or_from_slice_get (run.states (j + 1)).mems mem (mem_after run.flat.nets (run.values j) (mem_shape m.0) words.0) [] after
        ∙ (λ i. mem_after run.flat.nets (run.values j) (sym shape i) (sym old i))
        ∙ sym (written_words (net_value run j (enable_name design (port.Memory mem)) == 1) (port.Memory mem) (net_value run j (index_name design (port.Memory mem))) (net_value run j (value_name design (port.Memory mem))) (slice_index_or (run.states j).mems mem []))

    regs_stored : StoresRegs now.write now.storages next.storages
    regs_stored = record {
      reg_count = (let a : length (map (λ (r : Reg). held_value run (j + 1) (reg_name r)) design.regs) ≡ length design.regs = simp length-map in a)
          ∙ (let b : length design.regs ≡ length (map (λ (r : Reg). held_value run j (reg_name r)) design.regs) = simp length-map in b);
      regs = regs;
      mem_count = memories (j + 1) (omega arith) ∙ sym (memories j (omega arith));
      mems = mems;
    }

pub ports_are_shown : PortsAreShown
ports_are_shown design image trace run c reading f j lt = ports design image trace run c reading f j lt

pub regs_are_stored : RegsAreStored
regs_are_stored design image trace run c reading f j lt = regs_stored design image trace run c reading f j lt
