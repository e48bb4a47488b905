-- Writers and what is left, by the nets of a stage's instructions.
use Rattle.std.proofs.Common.{◌≡◌, ℕ, zero, suc, Bool, List, [], ◌∷◌, Option, Some, None, refl, sym, ap, subst, ◌∙◌}
use Rattle.std.specs.Prelude.{option_map, slice_get, slice_index}
use Rattle.std.specs.Option.{option_map_or}
use Rattle.ap_desc.specs.Designs.{width_at}
use Rattle.ap_desc.specs.declared.design.Arg.{Arg}
use Rattle.ap_desc.specs.declared.design.Arg.TheVariants as arg
use Rattle.ap_desc.specs.declared.design.Design.{Design}
use Rattle.ap_model.specs.Fire.{is_match}
use Rattle.ap_net.specs.declared.cell.Wire.{Wire}
use Rattle.ap_net.specs.Draft.{Draft}
use Rattle.ap_net.specs.Modules.{ModuleText}
use Rattle.ap_net.specs.Readings.{IsSettled, Reading}
use Rattle.ap_net.proofs.Lists.{some_same}
use Rattle.ap_ctl.specs.Building.{Tells}
use Rattle.ap_ctl.specs.Lists.{EachPair}
use Rattle.ap_ctl.proofs.Beside.{EachPair-weaker}
use Rattle.ap_pipe.specs.declared.table.Home.{Home}
use Rattle.ap_flight.specs.declared.entry.Leaving.{Leaving}
use Rattle.ap_stage.specs.declared.node.Course.{Course}
use Rattle.ap_stage.specs.declared.source.Ground.{Ground}
use Rattle.ap_stage.specs.Sources.{net_value as row_value, value_of}
use Rattle.ap_effect.specs.declared.line.PortLine.{PortLine}
use Rattle.ap_effect.specs.declared.write.Writer.{Writer}
use Rattle.ap_effect.specs.Shown.{net_value}
use Rattle.ap_outcome.specs.Outcomes.{IsLeavingOf, IsLineWriter, IsNetOf}
use Rattle.ap_whole.specs.Effects.{LeavesLocal, WritesLine}
use Rattle.ap_whole.specs.Handed.{AreInstrCourses, IsInstrCourse, LinesAreWritten, LocalsAreLeft, course_value}

-- what stands beside the element at a place
beside : {X Y : Type 0} (P : X → Y → Type 0) (xs : List X) (ys : List Y) → EachPair P xs ys → (k : ℕ) (y : Y) → slice_get ys k ≡ Some y → (x : X) × (slice_get xs k ≡ Some x) × P x y
beside P [] [] h k y at = cc
beside P [] (z ∷ ys) h k y at = absurd h
beside P (x ∷ xs) [] h k y at = absurd h
beside P (x ∷ xs) (z ∷ ys) h zero y at = (x, refl, subst (P x) (some_same at) h.0)
beside P (x ∷ xs) (z ∷ ys) h (suc k) y at = beside P xs ys h.1 k y at

width_is : (widths : List ℕ) (i : ℕ) → width_at (λ (width : ℕ). width) widths i ≡ slice_index widths i
width_is [] i = refl
width_is (w ∷ widths) zero = refl
width_is (w ∷ widths) (suc i) = width_is widths i

module _ (design : Design) (d : Draft) (modules : List ModuleText) (ground : Ground) (courses : List Course) (are : AreInstrCourses design d ground courses) where
  abbrev value : ℕ → Reading → Arg → ℕ
  value = course_value ground courses

  -- the values of the instruction whose course stands at a place
  value_is : (k : ℕ) (c : Course) → slice_get courses k ≡ Some c → (r : Reading) (a : Arg) → value_of r ground c.scope c.row.items a ≡ value k r a
  value_is k c at r a = ap (λ (o : Option Course). option_map_or (λ (x : Course). value_of r ground x.scope x.row.items a) o 0) (sym at)

  net_is : (k : ℕ) (c : Course) → slice_get courses k ≡ Some c → (r : Reading) → IsSettled d r → (a : Option Arg) (w : Option Wire) → IsNetOf d ground c a w → option_map (net_value r) w ≡ option_map (value k r) a
  net_is k c at r settled None None h = refl
  net_is k c at r settled None (Some w) h = absurd h
  net_is k c at r settled (Some a) None h = absurd h
  net_is k c at r settled (Some a) (Some w) h = ap Some (h.means.holds r settled ∙ value_is k c at r a)

  tells_same : (fact : Reading → Bool) (v w : Wire) → w ≡ v → Tells d fact v → Tells d fact w
  tells_same fact v w e h = subst (Tells d fact) (sym e) h

  writes_line : (line : PortLine) (w : Writer) → IsLineWriter d ground courses line w → WritesLine design d modules ground.word value line w
  writes_line line w h =
      let i = beside (IsInstrCourse d ground) design.instrs courses are line.instr h.course h.at in
      record {
        instr = i.0;
        at = i.1;
        cond = tells_same (λ r. is_match (r.read ground.word.number) i.0) (h.course).cond w.cond h.writer.cond i.2.cond;
        guard = λ r m. net_is line.instr h.course h.at r m.settled line.guard w.guard h.writer.guard;
        index = λ r m. net_is line.instr h.course h.at r m.settled line.index w.index h.writer.index;
        written = λ r m. h.writer.value.means.holds r m.settled ∙ value_is line.instr h.course h.at r line.value;
      }

  leaves_local : (home : Home) (l : Leaving) → IsLeavingOf courses home l → LeavesLocal design d modules ground.word value home l
  leaves_local home l h =
      let i = beside (IsInstrCourse d ground) design.instrs courses are home.instr h.course h.at in
      record {
        instr = i.0;
        at = i.1;
        cond = tells_same (λ r. is_match (r.read ground.word.number) i.0) (h.course).cond l.cond h.cond i.2.cond;
        net = i.2.row.nets_are home.local l.net h.has;
        wide = i.2.row.wide home.local l.net h.has ∙ width_is (h.course).scope.widths home.local ∙ ap (λ widths. slice_index widths home.local) i.2.widths;
        left = λ r m. ap (row_value r) (sym h.has) ∙ value_is home.instr h.course h.at r (arg.Local home.local);
      }

pub lines_are_written : LinesAreWritten
lines_are_written design d modules ground courses lines writers are h =
    EachPair-weaker (IsLineWriter d ground courses) (WritesLine design d modules ground.word (course_value ground courses)) (writes_line design d modules ground courses are) lines writers h.each

pub locals_are_left : LocalsAreLeft
locals_are_left design d modules ground courses homes list are h =
    EachPair-weaker (IsLeavingOf courses) (LeavesLocal design d modules ground.word (course_value ground courses)) (leaves_local design d modules ground courses are) homes list h
