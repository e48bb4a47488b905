-- What lines hand to write ports and to the pc, by the values of a stage's data.
use Rattle.std.proofs.Common.{◌≡◌, ℕ, suc, ◌+◌, ◌==◌, Bool, true, false, cond, List, [], ◌∷◌, filter_map, find, map, Option, None, Some, refl, sym, ap, subst, ◌∙◌, arith, eqb-true}
use Rattle.std.specs.Prelude.{IfSome, option_and_then, option_map, option_to_list, slice_get}
use Rattle.std.specs.List.{AllByRecursion as Each, cons_option, enumerate_from}
use Rattle.std.specs.Option.{option_map_or}
use Rattle.std.proofs.lemmas.Bool.{and_parts}
use Rattle.std.proofs.lemmas.Option.{same_Some}
use Rattle.ap_desc.specs.Chains.{operands_of}
use Rattle.ap_desc.specs.Ports.{is_transfer}
use Rattle.ap_desc.specs.declared.design.Act.{Act}
use Rattle.ap_desc.specs.declared.design.Act.TheVariants as act
use Rattle.ap_desc.specs.declared.design.Arg.{Arg}
use Rattle.ap_desc.specs.declared.design.Arg.TheVariants as arg
use Rattle.ap_desc.specs.declared.design.Design.{Design}
use Rattle.ap_desc.specs.declared.design.Instr.{Instr}
use Rattle.ap_desc.specs.declared.design.Micro.{Micro}
use Rattle.ap_model.specs.Ports.{writes_through}
use Rattle.ap_net.specs.Draft.{Draft}
use Rattle.ap_net.specs.Modules.{ModuleText}
use Rattle.ap_net.specs.Readings.{IsSettled, Reading}
use Rattle.ap_ctl.specs.Lists.{EachPair}
use Rattle.ap_ctl.proofs.Beside.{EachPair-weaker}
use Rattle.ap_pipe.specs.declared.table.Home.{Home}
use Rattle.ap_flight.specs.declared.entry.Leaving.{Leaving}
use Rattle.ap_stage.specs.declared.node.Course.{Course}
use Rattle.ap_stage.specs.declared.source.Ground.{Ground}
use Rattle.ap_stage.specs.Shown.{course_value as of_course}
use Rattle.ap_effect.specs.declared.line.PortLine.{PortLine}
use Rattle.ap_effect.specs.declared.write.Writer.{Writer}
use Rattle.ap_effect.specs.Lines.{handed_by, is_line_of, line_of, lines_of}
use Rattle.ap_effect.specs.Writers.{writer_of}
use Rattle.ap_data.specs.Operands.{IsOperandOf}
use Rattle.ap_data.specs.Stage.{IsLinkNet, data_value}
use Rattle.ap_data.proofs.Operands.{same_by_net}
use Rattle.ap_whole.specs.Effects.{LeavesLocal, WritesLine}
use Rattle.ap_whole.specs.Handed.{course_value}
use Rattle.ap_values.specs.Values.{LeavesAreByData, TransfersAreByData, WritesAreByData, data_values}

-- Lists. -----------------------------------------------------------------------------------------------------------------

-- where the first stands that passes a test
found_at : {X : Type 0} (test : X → Bool) (xs : List X) (x : X) → find test xs ≡ Some x → (i : ℕ) × (slice_get xs i ≡ Some x) × (test x ≡ true)
found_at test [] x e = absurd cc
found_at {X} test (y ∷ xs) x e = go (test y) refl e (found_at test xs x)
  where
    go : (b : Bool) → test y ≡ b → cond b (Some y) (find test xs) ≡ Some x → (find test xs ≡ Some x → (i : ℕ) × (slice_get xs i ≡ Some x) × (test x ≡ true)) → (i : ℕ) × (slice_get (y ∷ xs) i ≡ Some x) × (test x ≡ true)
    go true t e later = (0, e, ap test (sym (same_Some y x e)) ∙ t)
    go false t e later = let l = later e in (suc l.0, l.1, l.2)

-- what holds of pairs, where something is known of the firsts
pairs_known : {X Y : Type 0} (Known : X → Type 0) (P Q : X → Y → Type 0) → ((x : X) (y : Y) → Known x → P x y → Q x y) → (xs : List X) (ys : List Y) → Each Known xs → EachPair P xs ys → EachPair Q xs ys
pairs_known Known P Q step [] [] known h = tt
pairs_known Known P Q step [] (y ∷ ys) known h = absurd h
pairs_known Known P Q step (x ∷ xs) [] known h = absurd h
pairs_known Known P Q step (x ∷ xs) (y ∷ ys) known h = (step x y known.0 h.0, pairs_known Known P Q step xs ys known.1 h.1)

-- Operands of lines. -----------------------------------------------------------------------------------------------------

-- what the line hands in are operands of a line of the stage
record HandsOperands (design : Design) (stage : ℕ) (line : PortLine) : Type 0 where
  guard : IfSome line.guard (IsOperandOf design stage line.instr)
  index : IfSome line.index (IsOperandOf design stage line.instr)
  value : IsOperandOf design stage line.instr line.value

module _ (is_one : Act → Bool) (design : Design) (stage : ℕ) where
  module _ (n : ℕ) (x : Instr) (at : slice_get design.instrs n ≡ Some x) (place : ℕ) (m : Micro) (there : slice_get x.micros place ≡ Some m) (here : m.stage ≡ stage) where
    operand : (a : Act) → m.act ≡ a → (j : ℕ) (o : Arg) → slice_get (operands_of a) j ≡ Some o → IsOperandOf design stage n o
    operand a is j o e = record { instr = x; at = at; place = place; line = m; there = there; in_stage = here; number = j; operand = ap (λ z. slice_get (operands_of z) j) is ∙ e }

    guard_there : (a : Act) → m.act ≡ a → (j : ℕ) (g : Option Arg) → ((o : Arg) → g ≡ Some o → slice_get (operands_of a) j ≡ Some o) → IfSome g (IsOperandOf design stage n)
    guard_there a is j None e = tt
    guard_there a is j (Some o) e = operand a is j o (e o refl)

    hands : (a : Act) → m.act ≡ a → (l : PortLine) → handed_by n a ≡ Some l → HandsOperands design stage l
    hands (act.WriteFile file port index value guard) is l e = subst (HandsOperands design stage) (same_Some (record { instr = n; index = Some index; value = value; guard = guard }) l e) (record {
      guard = guard_there (act.WriteFile file port index value guard) is 2 guard (λ o g. ap (λ z. slice_get (option_to_list z) 0) g);
      index = operand (act.WriteFile file port index value guard) is 0 index refl;
      value = operand (act.WriteFile file port index value guard) is 1 value refl;
    })
    hands (act.WriteReg reg value guard) is l e = subst (HandsOperands design stage) (same_Some (record { instr = n; index = None; value = value; guard = guard }) l e) (record {
      guard = guard_there (act.WriteReg reg value guard) is 1 guard (λ o g. ap (λ z. slice_get (option_to_list z) 0) g);
      index = tt;
      value = operand (act.WriteReg reg value guard) is 0 value refl;
    })
    hands (act.WriteMem mem to value guard) is l e = subst (HandsOperands design stage) (same_Some (record { instr = n; index = Some to; value = value; guard = guard }) l e) (record {
      guard = guard_there (act.WriteMem mem to value guard) is 2 guard (λ o g. ap (λ z. slice_get (option_to_list z) 0) g);
      index = operand (act.WriteMem mem to value guard) is 0 to refl;
      value = operand (act.WriteMem mem to value guard) is 1 value refl;
    })
    hands (act.Branch test target) is l e = subst (HandsOperands design stage) (same_Some (record { instr = n; index = None; value = target; guard = Some test }) l e) (record {
      guard = operand (act.Branch test target) is 0 test refl;
      index = tt;
      value = operand (act.Branch test target) is 1 target refl;
    })
    hands (act.Jump target) is l e = subst (HandsOperands design stage) (same_Some (record { instr = n; index = None; value = target; guard = None }) l e) (record {
      guard = tt;
      index = tt;
      value = operand (act.Jump target) is 0 target refl;
    })
    hands (act.Compute unit op a b) is l e = absurd cc
    hands (act.ReadFile file port index) is l e = absurd cc
    hands (act.ReadReg reg) is l e = absurd cc
    hands (act.ReadMem mem from) is l e = absurd cc
    hands (act.ReadIn input) is l e = absurd cc
    hands (act.Const width value) is l e = absurd cc
    hands (act.Zext width a) is l e = absurd cc
    hands (act.Sext width a) is l e = absurd cc
    hands (act.Slice high low a) is l e = absurd cc
    hands (act.Cat a b) is l e = absurd cc

  of_instr : (n : ℕ) (x : Instr) (l : PortLine) → slice_get design.instrs n ≡ Some x → line_of is_one stage (n, x) ≡ Some l → HandsOperands design stage l
  of_instr n x l at e = go (find (is_line_of is_one stage) x.micros) refl e
    where
      go : (o : Option Micro) → find (is_line_of is_one stage) x.micros ≡ o → option_and_then (λ (m : Micro). handed_by n m.act) o ≡ Some l → HandsOperands design stage l
      go None found e = absurd cc
      go (Some m) found e =
          let f = found_at (is_line_of is_one stage) x.micros m found in
          hands n x at f.0 m f.1 (eqb-true m.stage stage (and_parts (m.stage == stage) (is_one m.act) f.2).0) m.act refl l e

  lines_from : (n : ℕ) (instrs : List Instr) → ((j : ℕ) (x : Instr) → slice_get instrs j ≡ Some x → slice_get design.instrs (n + j) ≡ Some x) → Each (HandsOperands design stage) (filter_map (line_of is_one stage) (enumerate_from n instrs))
  lines_from n [] from = tt
  lines_from n (x ∷ instrs) from =
      let next : (j : ℕ) (y : Instr) → slice_get instrs j ≡ Some y → slice_get design.instrs (n + 1 + j) ≡ Some y = λ j y at. (let same : n + suc j ≡ n + 1 + j = omega arith in subst (λ i. slice_get design.instrs i ≡ Some y) same (from (suc j) y at)) in
      let here : n + 0 ≡ n = omega arith in
      go (line_of is_one stage (n, x)) refl (subst (λ i. slice_get design.instrs i ≡ Some x) here (from 0 x refl)) (lines_from (n + 1) instrs next)
    where
      go : (o : Option PortLine) → line_of is_one stage (n, x) ≡ o → slice_get design.instrs n ≡ Some x → Each (HandsOperands design stage) (filter_map (line_of is_one stage) (enumerate_from (n + 1) instrs))
          → Each (HandsOperands design stage) (cons_option o (filter_map (line_of is_one stage) (enumerate_from (n + 1) instrs)))
      go None is at rest = rest
      go (Some l) is at rest = (of_instr n x l at is, rest)

  lines_hand : Each (HandsOperands design stage) (lines_of is_one design stage)
  lines_hand = lines_from 0 design.instrs (λ j x at. let same : j ≡ 0 + j = omega arith in subst (λ i. slice_get design.instrs i ≡ Some x) same at)

-- Values. ----------------------------------------------------------------------------------------------------------------

module _ (design : Design) (d : Draft) (modules : List ModuleText) (ground : Ground) (courses : List Course) where
  abbrev by_net : ℕ → Reading → Arg → ℕ
  by_net = course_value ground courses

  abbrev value : ℕ → Reading → Arg → ℕ
  value = data_values design ground courses

  local_same : (k i : ℕ) (r : Reading) → by_net k r (arg.Local i) ≡ value k r (arg.Local i)
  local_same k i r = refl

  leaves_local : (home : Home) (l : Leaving) → LeavesLocal design d modules ground.word by_net home l → LeavesLocal design d modules ground.word value home l
  leaves_local home l h = record { instr = h.instr; at = h.at; cond = h.cond; net = h.net; wide = h.wide; left = λ r m. h.left r m ∙ local_same home.instr home.local r }

  module _ (stage : ℕ) (link : IsLinkNet design stage d ground.place ground.link) where
    same : (k : ℕ) (a : Arg) → IsOperandOf design stage k a → (r : Reading) → IsSettled d r → by_net k r a ≡ value k r a
    same k a o r settled = go (slice_get courses k)
      where
        go : (c : Option Course) → option_map_or (λ (x : Course). of_course r ground x a) c 0 ≡ option_map_or (λ (x : Course). data_value design r ground x a) c 0
        go None = refl
        go (Some c) = same_by_net design d stage k ground c a link o r settled

    given_same : (k : ℕ) (a : Option Arg) → IfSome a (IsOperandOf design stage k) → (r : Reading) → IsSettled d r → option_map (by_net k r) a ≡ option_map (value k r) a
    given_same k None o r settled = refl
    given_same k (Some a) o r settled = ap Some (same k a o r settled)

    writes_line : (line : PortLine) (w : Writer) → HandsOperands design stage line → WritesLine design d modules ground.word by_net line w → WritesLine design d modules ground.word value line w
    writes_line line w o h = record {
      instr = h.instr;
      at = h.at;
      cond = h.cond;
      guard = λ r m. h.guard r m ∙ given_same line.instr line.guard o.guard r m.settled;
      index = λ r m. h.index r m ∙ given_same line.instr line.index o.index r m.settled;
      written = λ r m. h.written r m ∙ same line.instr line.value o.value r m.settled;
    }

    lines_written : (is_one : Act → Bool) (writers : List Writer) → EachPair (WritesLine design d modules ground.word by_net) (lines_of is_one design stage) writers → EachPair (WritesLine design d modules ground.word value) (lines_of is_one design stage) writers
    lines_written is_one writers h =
        pairs_known (HandsOperands design stage) (WritesLine design d modules ground.word by_net) (WritesLine design d modules ground.word value) writes_line (lines_of is_one design stage) writers (lines_hand is_one design stage) h

pub writes_by_data : WritesAreByData
writes_by_data design d modules given nets ground courses stage p link h = record {
  fires = h.fires;
  goes = h.goes;
  old = h.old;
  writers = h.writers;
  bits = h.bits;
  width = h.width;
  made = h.made;
  fit = h.fit;
  are = h.are;
  lines = lines_written design d modules ground courses stage link (writes_through p) h.writers h.lines;
  enable = h.enable;
  index = h.index;
  shown = h.shown;
}

pub transfers_by_data : TransfersAreByData
transfers_by_data design d modules given nets ground target courses link h = record {
  valid = h.valid;
  there = h.there;
  transfers = h.transfers;
  width = h.width;
  made = h.made;
  are = h.are;
  lines = lines_written design d modules ground courses design.branch link is_transfer (map writer_of h.transfers) h.lines;
  taken = h.taken;
  goes = h.goes;
}

pub leaves_by_data : LeavesAreByData
leaves_by_data design d modules home flights ground courses stage h = record {
  slots = h.slots;
  are = h.are;
  homes = h.homes;
  each = EachPair-weaker (LeavesLocal design d modules ground.word (course_value ground courses)) (LeavesLocal design d modules ground.word (data_values design ground courses)) (leaves_local design d modules ground courses) h.slots.homes (flights.locals (stage + 1)) h.each;
  count = h.count;
  kept = h.kept;
}
