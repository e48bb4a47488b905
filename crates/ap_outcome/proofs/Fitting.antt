-- What is handed on fits what takes it.
use Rattle.std.proofs.Common.{◌≡◌, ◌≤◌, ℕ, zero, suc, List, [], ◌∷◌, ◌++◌, Option, Some, None, inl, inr, refl, sym, subst, ◌∙◌}
use Rattle.std.specs.Prelude.{IfSome, slice_get}
use Rattle.std.specs.List.{AllByRecursion as Each}
use Rattle.std.proofs.lemmas.Option.{same_Some}
use Rattle.ap_desc.specs.declared.design.Arg.{Arg}
use Rattle.ap_net.specs.declared.cell.Wire.{Wire}
use Rattle.ap_net.specs.Draft.{Draft}
use Rattle.ap_net.specs.Pending.{Among}
use Rattle.ap_net.specs.Ready.{numbers}
use Rattle.ap_ctl.specs.Building.{IsBit}
use Rattle.ap_ctl.specs.Lists.{EachPair}
use Rattle.ap_pipe.specs.declared.table.Home.{Home}
use Rattle.ap_flight.specs.declared.entry.Leaving.{Leaving}
use Rattle.ap_flight.specs.Stages.{FitsHome}
use Rattle.ap_stage.specs.declared.node.Course.{Course}
use Rattle.ap_stage.specs.declared.source.Ground.{Ground}
use Rattle.ap_stage.specs.Courses.{IsCourse, courses_numbers}
use Rattle.ap_stage.specs.Sources.{row_numbers, source_numbers}
use Rattle.ap_stage.proofs.Coursed.{among_at}
use Rattle.ap_stage.proofs.Listed.{among_right, each_at}
use Rattle.ap_effect.specs.declared.line.PortLine.{PortLine}
use Rattle.ap_effect.specs.declared.write.Writer.{Writer}
use Rattle.ap_effect.specs.Writers.{IsIndex, IsWriter}
use Rattle.ap_outcome.specs.Fitting.{FitsPort, FitsSlot, HasBits, HasIndexBits, HasPortBits, LeavingsAreAmong, LeavingsFit, LineWritersFit}
use Rattle.ap_outcome.specs.Outcomes.{IsLeavingOf, IsLineWriter, IsNetOf}

module _ (d : Draft) (ground : Ground) (courses : List Course) (are : Each (IsCourse d ground) courses) where
  guard_fits : (c : Course) (a : Option Arg) (o : Option Wire) → IfSome a (HasBits ground c 1) → IsNetOf d ground c a o → IfSome o (IsBit d.nets)
  guard_fits c None None bits h = tt
  guard_fits c None (Some w) bits h = absurd h
  guard_fits c (Some a) None bits h = tt
  guard_fits c (Some a) (Some w) bits h = record { net = h.net; bit = h.wide ∙ bits }

  index_fits : (c : Course) (n : Option ℕ) (a : Option Arg) (o : Option Wire) → HasIndexBits ground c n a → IsNetOf d ground c a o → IsIndex d.nets n o
  index_fits c None None None bits h = tt
  index_fits c None None (Some w) bits h = absurd h
  index_fits c None (Some a) o bits h = absurd bits
  index_fits c (Some n) None o bits h = absurd bits
  index_fits c (Some n) (Some a) None bits h = absurd h
  index_fits c (Some n) (Some a) (Some w) bits h = (h.net, h.wide ∙ bits)

  line_fits : (bits : Option ℕ) (width : ℕ) (line : PortLine) (w : Writer) → FitsPort ground courses bits width line → IsLineWriter d ground courses line w → IsWriter d.nets bits width w
  line_fits bits width line w fits h =
      let c : Course = h.course in
      let has : HasPortBits ground bits width c line = fits c h.at in
      let is : IsCourse d ground c = each_at (IsCourse d ground) courses line.instr c are h.at in
      record {
        guarded = record { cond = subst (IsBit d.nets) (sym h.writer.cond) (record { net = is.cond; bit = is.one_bit }); guard = guard_fits c line.guard w.guard has.guard h.writer.guard };
        index = index_fits c bits line.index w.index has.index h.writer.index;
        value = h.writer.value.net;
        wide = h.writer.value.wide ∙ has.value;
      }

  lines_fit : (bits : Option ℕ) (width : ℕ) (lines : List PortLine) (writers : List Writer) → Each (FitsPort ground courses bits width) lines → EachPair (IsLineWriter d ground courses) lines writers → Each (IsWriter d.nets bits width) writers
  lines_fit bits width [] [] fits h = tt
  lines_fit bits width [] (w ∷ writers) fits h = absurd h
  lines_fit bits width (l ∷ lines) [] fits h = absurd h
  lines_fit bits width (l ∷ lines) (w ∷ writers) fits h = (line_fits bits width l w fits.0 h.0, lines_fit bits width lines writers fits.1 h.1)

  leaving_fits : (slots : List Wire) (home : Home) (l : Leaving) → FitsSlot courses slots home → IsLeavingOf courses home l → FitsHome d.nets slots home l
  leaving_fits slots home l fits h =
      let c : Course = h.course in
      let is : IsCourse d ground c = each_at (IsCourse d ground) courses home.instr c are h.at in
      record {
        cond = subst (IsBit d.nets) (sym h.cond) (record { net = is.cond; bit = is.one_bit });
        net = is.row.nets_are home.local l.net h.has;
        fits = λ slot at. subst (λ n. n ≤ slot.width) (sym (is.row.wide home.local l.net h.has)) (fits c slot h.at at);
      }

  leaving_all : (slots : List Wire) (homes : List Home) (list : List Leaving) → Each (FitsSlot courses slots) homes → EachPair (IsLeavingOf courses) homes list → EachPair (FitsHome d.nets slots) homes list
  leaving_all slots [] [] fits h = tt
  leaving_all slots [] (l ∷ list) fits h = absurd h
  leaving_all slots (x ∷ homes) [] fits h = absurd h
  leaving_all slots (x ∷ homes) (l ∷ list) fits h = (leaving_fits slots x l fits.0 h.0, leaving_all slots homes list fits.1 h.1)

pub line_writers_fit : LineWritersFit
line_writers_fit d ground courses bits width lines writers are fits h = lines_fit d ground courses are bits width lines writers fits h.each

pub leavings_fit : LeavingsFit
leavings_fit d ground courses slots homes list are fits h = leaving_all d ground courses are slots homes list fits h

-- Each net that is left is one of the stage's.

row_among : (row : List (Option Wire)) (i : ℕ) (w : Wire) → slice_get row i ≡ Some (Some w) → Among (row_numbers row) w.number
row_among [] i w at = absurd cc
row_among (None ∷ row) zero w at = absurd cc
row_among (Some x ∷ row) zero w at = inl (subst (λ (y : Wire). x.number ≡ y.number) (same_Some x w (same_Some (Some x) (Some w) at)) refl)
row_among (None ∷ row) (suc i) w at = row_among row i w at
row_among (Some x ∷ row) (suc i) w at = inr (row_among row i w at)

sources_among : (ground : Ground) (row : List (Option Wire)) (n : ℕ) → Among (row_numbers row) n → Among (source_numbers ground row) n
sources_among ground row n h = inr (inr (inr (among_right (numbers ground.regs) (numbers ground.inputs ++ row_numbers row) n (among_right (numbers ground.inputs) (row_numbers row) n h))))

pub leavings_among : LeavingsAreAmong
leavings_among ground courses [] [] h = tt
leavings_among ground courses [] (l ∷ list) h = absurd h
leavings_among ground courses (x ∷ homes) [] h = absurd h
leavings_among ground courses (x ∷ homes) (l ∷ list) h =
    let one : IsLeavingOf courses x l = h.0 in
    let c : Course = one.course in
    let cond : Among (courses_numbers ground courses) l.cond.number = subst (λ (w : Wire). Among (courses_numbers ground courses) w.number) (sym one.cond) (among_at ground courses x.instr c one.at c.cond.number (inl refl)) in
    let net : Among (courses_numbers ground courses) l.net.number = among_at ground courses x.instr c one.at l.net.number (inr (sources_among ground c.row.items l.net.number (row_among c.row.items x.local l.net one.has))) in
    (cond, (net, leavings_among ground courses homes list h.1))
