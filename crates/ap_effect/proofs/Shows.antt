-- What the nets of a write port show of a line, and what the line writes.
use Rattle.std.proofs.Common.{◌≡◌, ℕ, ◌==◌, ◌&&◌, Bool, true, false, if◌then◌else◌, List, [], ◌∷◌, Option, Some, None, refl, sym, ap, ◌∙◌, filter}
use Rattle.std.specs.Prelude.{find, option_and_then, option_map, slice_get}
use Rattle.std.specs.List.{AllByRecursion as Each, list_any}
use Rattle.std.specs.Option.{option_map_or}
use Rattle.std.proofs.lemmas.Option.{same_Some}
use Rattle.std.proofs.lemmas.Bool.{and_parts}
use Rattle.ap_desc.specs.Ports.{is_transfer}
use Rattle.ap_desc.specs.declared.design.Act.{Act}
use Rattle.ap_desc.specs.declared.design.Act.TheVariants as act
use Rattle.ap_desc.specs.declared.design.Arg.{Arg}
use Rattle.ap_desc.specs.declared.design.Design.{Design}
use Rattle.ap_desc.specs.declared.design.Instr.{Instr}
use Rattle.ap_desc.specs.declared.design.Micro.{Micro}
use Rattle.ap_model.specs.declared.storage.PortWrite.{PortWrite}
use Rattle.ap_model.specs.declared.storage.WritePort.{WritePort}
use Rattle.ap_model.specs.declared.storage.WritePort.TheVariants as port
use Rattle.ap_model.specs.Fire.{lines_in, target_of, where_guard, write_of}
use Rattle.ap_model.specs.Ports.{writes_through}
use Rattle.ap_model.specs.PortForms.{line_target, line_write}
use Rattle.ap_model.proofs.PortsOnce.{same_port}
use Rattle.ap_net.specs.declared.cell.Wire.{Wire}
use Rattle.ap_net.specs.declared.net.ModuleNet.{ModuleNet}
use Rattle.ap_net.specs.Draft.{Draft}
use Rattle.ap_net.specs.Readings.{IsSettled, Reading}
use Rattle.ap_ctl.specs.Building.{is_on}
use Rattle.ap_stage.proofs.Listed.{each_at}
use Rattle.ap_effect.specs.declared.line.PortLine.{PortLine}
use Rattle.ap_effect.specs.declared.write.Writer.{Writer}
use Rattle.ap_effect.specs.Lines.{handed_by, is_line_of, line_of}
use Rattle.ap_effect.specs.Shown.{net_value}
use Rattle.ap_effect.specs.Writers.{IsIndex, IsIndexNet, IsOnlyWriter, IsWriter, is_acting}
use Rattle.ap_effect.proofs.Matched.{Finds, none_acts}

-- what a line does with what it hands in: build makes it of the index, 0 where there is none, and of the value
abbrev pub effect_of : {X : Type 0} → (ℕ → ℕ → X) → (Arg → ℕ) → PortLine → Option X
effect_of build value l = where_guard value l.guard (build (option_map_or value l.index 0) (value l.value))

-- Lines of a stage.

-- a line that is found passes the test
passes : {X : Type 0} (test : X → Bool) (xs : List X) (x : X) → find test xs ≡ Some x → test x ≡ true
passes test [] x e = cc
passes {X} test (y ∷ xs) x e = go (test y) refl e (λ h. passes test xs x h)
  where
    go : (b : Bool) → test y ≡ b → (if b then Some y else find test xs) ≡ Some x → (find test xs ≡ Some x → test x ≡ true) → test x ≡ true
    go true t h rest = ap test (sym (same_Some y x h)) ∙ t
    go false t h rest = rest h

-- the first of those in the stage is the first that stands in the stage
find_both : (is_one : Act → Bool) (stage : ℕ) (micros : List Micro) → find (is_line_of is_one stage) micros ≡ find (λ (m : Micro). is_one m.act) (filter (λ (m : Micro). m.stage == stage) micros)
find_both is_one stage [] = refl
find_both is_one stage (m ∷ micros) = go (m.stage == stage) (find_both is_one stage micros)
  where
    go : (b : Bool) → find (is_line_of is_one stage) micros ≡ find (λ (m : Micro). is_one m.act) (filter (λ (m : Micro). m.stage == stage) micros)
        → (if b && is_one m.act then Some m else find (is_line_of is_one stage) micros) ≡ find (λ (m : Micro). is_one m.act) (if b then m ∷ filter (λ (m : Micro). m.stage == stage) micros else filter (λ (m : Micro). m.stage == stage) micros)
    go true rest = ap (λ o. if is_one m.act then Some m else o) rest
    go false rest = rest

-- what the line of an instruction does, by what it hands in
by_line : {X : Type 0} (build : ℕ → ℕ → X) (value : Arg → ℕ) (is_one : Act → Bool) (does : Act → Option X) (n stage : ℕ) (i : Instr) → ((a : Act) → is_one a ≡ true → does a ≡ option_and_then (effect_of build value) (handed_by n a))
    → option_and_then (λ (m : Micro). does m.act) (find (λ (m : Micro). is_one m.act) (lines_in stage i)) ≡ option_and_then (effect_of build value) (line_of is_one stage (n, i))
by_line {X} build value is_one does n stage i each =
    ap (option_and_then (λ (m : Micro). does m.act)) (sym (find_both is_one stage i.micros)) ∙ go (find (is_line_of is_one stage) i.micros) (λ m e. (and_parts (m.stage == stage) (is_one m.act) (passes (is_line_of is_one stage) i.micros m e)).1)
  where
    go : (o : Option Micro) → ((m : Micro) → o ≡ Some m → is_one m.act ≡ true) → option_and_then (λ (m : Micro). does m.act) o ≡ option_and_then (effect_of build value) (option_and_then (λ (m : Micro). handed_by n m.act) o)
    go None h = refl
    go (Some m) h = each m.act (h m refl)

-- what a line writes through a port
abbrev pub write_at : WritePort → ℕ → ℕ → PortWrite
write_at p at v = record { port = p; at = at; value = v }

written : (p : WritePort) (value : Arg → ℕ) (n : ℕ) (a : Act) → writes_through p a ≡ true → write_of value a ≡ option_and_then (effect_of (write_at p) value) (handed_by n a)
written p value n (act.WriteFile file number index v guard) e = ap (λ q. where_guard value guard (write_at q (value index) (value v))) (sym (same_port p (port.Cell file number) e))
written p value n (act.WriteReg reg v guard) e = ap (λ q. where_guard value guard (write_at q 0 (value v))) (sym (same_port p (port.Register reg) e))
written p value n (act.WriteMem mem at v guard) e = ap (λ q. where_guard value guard (write_at q (value at) (value v))) (sym (same_port p (port.Memory mem) e))
written p value n _ e = cc

pub written_by_line : (p : WritePort) (value : Arg → ℕ) (n stage : ℕ) (i : Instr) → line_write value p (lines_in stage i) ≡ option_and_then (effect_of (write_at p) value) (line_of (writes_through p) stage (n, i))
written_by_line p value n stage i = by_line (write_at p) value (writes_through p) (write_of value) n stage i (written p value n)

-- the target of a line
abbrev pub target_at : ℕ → ℕ → ℕ
target_at at v = v

transferred : (value : Arg → ℕ) (n : ℕ) (a : Act) → is_transfer a ≡ true → target_of value a ≡ option_and_then (effect_of target_at value) (handed_by n a)
transferred value n (act.Branch cond target) e = refl
transferred value n (act.Jump target) e = refl
transferred value n _ e = cc

pub target_by_line : (value : Arg → ℕ) (n stage : ℕ) (i : Instr) → line_target value (lines_in stage i) ≡ option_and_then (effect_of target_at value) (line_of is_transfer stage (n, i))
target_by_line value n stage i = by_line target_at value is_transfer (target_of value) n stage i (transferred value n)

-- What the nets show.

module _ {X : Type 0} (build : ℕ → ℕ → X) (design : Design) (word : ℕ) (value : Arg → ℕ) (r : Reading) (is_one : Act → Bool) (stage : ℕ) where
  -- a guard that stands beside a guard
  guarded : (x : X) (w : Option Wire) (g : Option Arg) → option_map (net_value r) w ≡ option_map value g → (if option_map_or (is_on r) w true then Some x else None) ≡ where_guard value g x
  guarded x None None e = refl
  guarded x None (Some a) e = cc
  guarded x (Some w) None e = cc
  guarded x (Some w) (Some a) e = ap (λ n. if n == 1 then Some x else None) (same_Some (r.read w.number) (value a) e)

  at_value : (o : Option Wire) (a : Option Arg) → option_map (net_value r) o ≡ option_map value a → option_map_or (net_value r) o 0 ≡ option_map_or value a 0
  at_value None None e = refl
  at_value None (Some a) e = cc
  at_value (Some w) None e = cc
  at_value (Some w) (Some a) e = same_Some (r.read w.number) (value a) e

  -- where nothing is enabled, nothing is shown
  off : (fires : Bool) (x : X) → (if fires && false then Some x else None) ≡ (if fires then None else None)
  off true x = refl
  off false x = refl

  on : (fires acts : Bool) (x : X) (o : Option X) → (if acts then Some x else None) ≡ o → (if fires && acts then Some x else None) ≡ (if fires then o else None)
  on true acts x o e = e
  on false acts x o e = refl

  -- nothing is shown of a word without a line
  pub shows_none : (writers : List Writer) (fires enable : Bool) (at v : ℕ) → Finds design word value r is_one stage None writers → enable ≡ (fires && list_any (is_acting r) writers) → (if enable then Some (build at v) else None) ≡ (if fires then None else None)
  shows_none writers fires enable at v found e = ap (λ b. if b then Some (build at v) else None) (e ∙ ap (λ b. fires && b) (none_acts design word value r is_one stage writers found)) ∙ off fires (build at v)

  -- and of a line what it does
  pub shows_line : (line : Option PortLine) (writers : List Writer) (fires enable : Bool) (at v : ℕ) → Finds design word value r is_one stage line writers → enable ≡ (fires && list_any (is_acting r) writers)
      → ((p : ℕ) (w : Writer) → slice_get writers p ≡ Some w → IsOnlyWriter r writers p → (at ≡ option_map_or (net_value r) w.index 0) × (v ≡ r.read w.value.number))
      → (if enable then Some (build at v) else None) ≡ (if fires then option_and_then (effect_of build value) line else None)
  shows_line None writers fires enable at v found e gives = shows_none writers fires enable at v found e
  shows_line (Some line) writers fires enable at v found e gives =
      let w : Writer = found.writer in
      let nets = gives found.place w found.at found.only in
      let same_at : at ≡ option_map_or value line.index 0 = nets.0 ∙ at_value w.index line.index (found.of.index found.on) in
      let same_v : v ≡ value line.value = nets.1 ∙ found.of.value found.on in
      let acts : list_any (is_acting r) writers ≡ option_map_or (is_on r) w.guard true = found.acts ∙ ap (λ b. b && option_map_or (is_on r) w.guard true) found.on in
      ap (λ b. if b then Some (build at v) else None) (e ∙ ap (λ b. fires && b) acts)
      ∙ on fires (option_map_or (is_on r) w.guard true) (build at v) (where_guard value line.guard (build at v)) (guarded (build at v) w.guard line.guard (found.of.guard found.on))
      ∙ ap (λ x. if fires then where_guard value line.guard x else None) ((λ i. build (same_at i) (same_v i)))

-- where the net of the index reads
pub index_shown : (d : Draft) (old : List ModuleNet) (writers : List Writer) (bits : Option ℕ) (width : ℕ) (index : Option Wire) (r : Reading) → IsSettled d r → Each (IsWriter old bits width) writers → IsIndexNet d writers bits index
    → (p : ℕ) (w : Writer) → slice_get writers p ≡ Some w → IsOnlyWriter r writers p → option_map_or (net_value r) index 0 ≡ option_map_or (net_value r) w.index 0
index_shown d old writers bits width index r s each net p w at only = go bits index w.index refl (each_at (IsWriter old bits width) writers p w each at).index net
  where
    go : (b : Option ℕ) (o i : Option Wire) → w.index ≡ i → IsIndex old b i → IsIndexNet d writers b o → option_map_or (net_value r) o 0 ≡ option_map_or (net_value r) i 0
    go None None None e x y = refl
    go None None (Some j) e x y = absurd x
    go None (Some k) i e x y = absurd y
    go (Some n) None i e x y = absurd y
    go (Some n) (Some k) None e x y = absurd x
    go (Some n) (Some k) (Some j) e x y = y.means.holds r s p w j at e only
