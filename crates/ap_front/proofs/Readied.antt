-- What the front needs is there.
use Rattle.std.proofs.Common.{◌≡◌, ◌≢◌, ℕ, zero, suc, ◌+◌, ◌<◌, ◌≤◌, List, [], ◌∷◌, ◌++◌, length, map, flat_map, Some, refl, sym, ap, subst, ◌∙◌, arith}
use Rattle.std.specs.Prelude.{codes, slice_get}
use Rattle.std.specs.List.{AllByRecursion as Each}
use Rattle.std.proofs.lemmas.List.{map-append}
use Rattle.ap_desc.specs.declared.design.Design.{Design}
use Rattle.ap_net.specs.declared.cell.Wire.{Wire}
use Rattle.ap_net.specs.Cells.{IsNet}
use Rattle.ap_net.specs.Draft.{Draft, Extends}
use Rattle.ap_net.specs.Ready.{numbers}
use Rattle.ap_net.specs.Wiring.{NoneTwice}
use Rattle.ap_net.proofs.Laws.{Extends-trans}
use Rattle.ap_net.proofs.Lists.{All-back, All-front}
use Rattle.ap_pipe.specs.declared.table.StageSlots.{StageSlots}
use Rattle.ap_ctl.specs.Given.{IsWordNet}
use Rattle.ap_ctl.specs.Building.{IsBit}
use Rattle.std.proofs.lemmas.Option.{slice_get_within}
use Rattle.ap_flight.specs.declared.stage.StageRegisters.{StageRegisters}
use Rattle.ap_flight.specs.Stages.{IsOpen, stage_wires}
use Rattle.ap_flight.proofs.SlotWidths.{AreFit, slots_fit}
use Rattle.ap_border.specs.Named.{IsNamed, IsZeroNamed}
use Rattle.ap_signals.specs.NetRuns.{valid_name}
use Rattle.ap_front.specs.Controlling.{words_of}
use Rattle.ap_front.specs.Opened.{NamesStages, wire_width}
use Rattle.ap_front.specs.Ready.{ControlStands, FrontGivesControl, OpenCanBeDriven}
use Rattle.ap_front.proofs.Controlled.{IsControl-Extends, from_weaker}
use Rattle.ap_front.proofs.Flying.{names_at, names_long, there}
use Rattle.ap_front.proofs.Named.{IsNamed-Extends, IsResetNamed-Extends}
use Rattle.ap_front.proofs.PortNets.{port_is_net, port_named}
use Rattle.ap_front.proofs.Shown.{valid_bits_are_named}

pub mapped_long : {X Y : Type 0} (f : X → Y) (xs : List X) → length (map f xs) ≡ length xs
mapped_long f [] = refl
mapped_long f (x ∷ xs) = ap suc (mapped_long f xs)

-- Wires of stages that are apart.

once_front : (xs ys : List ℕ) → NoneTwice (xs ++ ys) → NoneTwice xs
once_front [] ys h = tt
once_front (x ∷ xs) ys h = (All-front (λ n. n ≢ x) xs ys h.0, once_front xs ys h.1)

once_back : (xs ys : List ℕ) → NoneTwice (xs ++ ys) → NoneTwice ys
once_back [] ys h = h
once_back (x ∷ xs) ys h = once_back xs ys h.1

cross : (xs ys : List ℕ) → NoneTwice (xs ++ ys) → Each (λ y. Each (λ x. x ≢ y) xs) ys
cross xs [] h = tt
cross xs (y ∷ ys) h = (first xs h, cross xs ys (without xs h))
  where
    first : (zs : List ℕ) → NoneTwice (zs ++ y ∷ ys) → Each (λ x. x ≢ y) zs
    first [] k = tt
    first (z ∷ zs) k = ((λ e. (All-back (λ n. n ≢ z) zs (y ∷ ys) k.0).0 (sym e)), first zs k.1)

    drops : (P : ℕ → Type 0) (zs : List ℕ) → Each P (zs ++ y ∷ ys) → Each P (zs ++ ys)
    drops P [] k = k.1
    drops P (z ∷ zs) k = (k.0, drops P zs k.1)

    without : (zs : List ℕ) → NoneTwice (zs ++ y ∷ ys) → NoneTwice (zs ++ ys)
    without [] k = k.1
    without (z ∷ zs) k = (drops (λ n. n ≢ z) zs k.0, without zs k.1)

flat_numbers : (r : StageRegisters) (rs : List StageRegisters) → numbers (flat_map stage_wires (r ∷ rs)) ≡ numbers (stage_wires r) ++ numbers (flat_map stage_wires rs)
flat_numbers r rs = map-append (λ (w : Wire). w.number) (stage_wires r) (flat_map stage_wires rs)

each_place : (P : Wire → Type 0) (rs : List StageRegisters) (place : ℕ) (r : StageRegisters) → Each P (flat_map stage_wires rs) → slice_get rs place ≡ Some r → Each P (stage_wires r)
each_place P [] place r h at = cc
each_place P (q ∷ rs) zero r h at = let same : q ≡ r = cc in subst (λ (x : StageRegisters). Each P (stage_wires x)) same (All-front P (stage_wires q) (flat_map stage_wires rs) h)
each_place P (q ∷ rs) (suc place) r h at = each_place P rs place r (All-back P (stage_wires q) (flat_map stage_wires rs) h) at

apart_place : (rs : List StageRegisters) (place : ℕ) (r : StageRegisters) → NoneTwice (numbers (flat_map stage_wires rs)) → slice_get rs place ≡ Some r → NoneTwice (numbers (stage_wires r))
apart_place [] place r h at = cc
apart_place (q ∷ rs) zero r h at = let same : q ≡ r = cc in subst (λ (x : StageRegisters). NoneTwice (numbers (stage_wires x))) same (once_front (numbers (stage_wires q)) (numbers (flat_map stage_wires rs)) (subst NoneTwice (flat_numbers q rs) h))
apart_place (q ∷ rs) (suc place) r h at = apart_place rs place r (once_back (numbers (stage_wires q)) (numbers (flat_map stage_wires rs)) (subst NoneTwice (flat_numbers q rs) h)) at

of_numbers : (P : ℕ → Type 0) (ws : List Wire) → Each P (numbers ws) → Each (λ (w : Wire). P w.number) ws
of_numbers P [] h = tt
of_numbers P (w ∷ ws) h = (h.0, of_numbers P ws h.1)

apart_places : (rs : List StageRegisters) (place other : ℕ) (r q : StageRegisters) → place < other → NoneTwice (numbers (flat_map stage_wires rs)) → slice_get rs place ≡ Some r → slice_get rs other ≡ Some q
    → Each (λ (w : Wire). Each (λ m. m ≢ w.number) (numbers (stage_wires r))) (stage_wires q)
apart_places [] place other r q lt h p1 p2 = cc
apart_places (t ∷ rs) place zero r q lt h p1 p2 = absurd (omega arith)
apart_places (t ∷ rs) zero (suc other) r q lt h p1 p2 =
    let same : t ≡ r = cc in
    let all : Each (λ (w : Wire). Each (λ m. m ≢ w.number) (numbers (stage_wires t))) (flat_map stage_wires rs) =
    of_numbers (λ n. Each (λ m. m ≢ n) (numbers (stage_wires t))) (flat_map stage_wires rs) (cross (numbers (stage_wires t)) (numbers (flat_map stage_wires rs)) (subst NoneTwice (flat_numbers t rs) h)) in
    subst (λ (x : StageRegisters). Each (λ (w : Wire). Each (λ m. m ≢ w.number) (numbers (stage_wires x))) (stage_wires q)) same (each_place (λ (w : Wire). Each (λ m. m ≢ w.number) (numbers (stage_wires t))) rs other q all p2)
apart_places (t ∷ rs) (suc place) (suc other) r q lt h p1 p2 = apart_places rs place other r q (omega arith) (once_back (numbers (stage_wires t)) (numbers (flat_map stage_wires rs)) (subst NoneTwice (flat_numbers t rs) h)) p1 p2

pub open_can_be_driven : OpenCanBeDriven
open_can_be_driven design d table r comings clean slots names free long comes =
    let count = names_long design d 1 table.stages r.stages names.each in
    record {
      slots = sym count;
      long = long;
      few = λ place q at. few_slots place q at;
      each = λ place q at. each_place (IsOpen d) r.stages place q free.each at;
      apart = λ place q at. apart_place r.stages place q free.apart at;
      others = λ place other q t lt p1 p2. apart_places r.stages place other q t lt free.apart p1 p2;
      comes = comes;
    }
  where
    none : StageSlots
    none = record { widths = []; homes = [] }

    few_slots : (place : ℕ) (q : StageRegisters) → slice_get r.stages place ≡ Some q → length q.slots ≤ 64
    few_slots place q at =
        let count = names_long design d 1 table.stages r.stages names.each in
        let lt = slice_get_within r.stages place q at in
        let p = there table.stages place none (omega arith) in
        let n = names_at design d 1 place table.stages r.stages _ q names.each p at in
        let fit : AreFit _ = subst AreFit (sym (slots.each place _ p).widths) (slots_fit design clean.sound (place + 1)) in
        let few = fit.few in
        let same = sym (mapped_long wire_width q.slots) ∙ ap length n.slots_wide in
        omega arith

-- What control is given.

words_are : (design : Design) (d : Draft) (stage : ℕ) (stages : List StageSlots) (rs : List StageRegisters) → NamesStages design d stage stages rs → Each (IsNet d.nets) (flat_map stage_wires rs) → Each (IsWordNet design d.nets) (words_of rs)
words_are design d stage [] [] h n = tt
words_are design d stage [] (r ∷ rs) h n = absurd h
words_are design d stage (s ∷ stages) [] h n = absurd h
words_are design d stage (s ∷ stages) (r ∷ rs) h n = (record { net = n.0; wide = h.0.word_wide }, words_are design d (stage + 1) stages rs h.1 (All-back (IsNet d.nets) (stage_wires r) (flat_map stage_wires rs) n))

pub front_gives_control : FrontGivesControl
front_gives_control design d table r p given clean slots kept names nets ports words wait taken units busy = record {
  stages = ap length words ∙ mapped_long (λ (q : StageRegisters). q.word) r.stages ∙ names_long design d 1 table.stages r.stages names.each ∙ slots.count;
  words = subst (Each (IsWordNet design d.nets)) (sym words) (words_are design d 1 table.stages r.stages names.each nets.1);
  mwait = subst (λ (w : Wire). IsBit d.nets w) (sym wait) (record { net = port_is_net d _ p.mwait kept ports.mwait; bit = ports.mwait.wide });
  taken = taken;
  units = units;
  busy = busy;
}

pub control_stands : ControlStands
control_stands design given nets a b c d p ports wait adds control grows shows =
    let later : Extends b d = Extends-trans b c d grows shows.extends in
    let all : Extends a d = Extends-trans a b d adds.extends later in
    let valid = valid_bits_are_named design given a b nets adds in
    record {
      control = IsControl-Extends design given b d nets later control;
      valid = from_weaker (λ stage. IsZeroNamed b (valid_name stage)) (λ stage. IsZeroNamed d (valid_name stage)) (λ n w. IsResetNamed-Extends later) 1 nets.valid valid.0;
      count = valid.1;
      wait_named = subst (λ (w : Wire). IsNamed d (codes "mwait") w) (sym wait) (IsNamed-Extends all (port_named a _ p.mwait ports.mwait));
      first = shows.first;
      stall_named = IsNamed-Extends all (port_named a _ p.stall ports.stall);
      stall_shows = shows.stall_shows;
      kill_named = IsNamed-Extends all (port_named a _ p.kill ports.kill);
      kill_shows = shows.kill_shows;
    }
