-- A module by itself: it has solutions, those that agree at the sources of a closed set agree on it, and the part of an instance runs
-- as its module does alone.
use Rattle.std.proofs.Common.{◌≡◌, ℕ, zero, suc, ◌+◌, ◌<◌, List, [], ◌∷◌, ◌++◌, length, map, Some, None, refl, sym, ap, subst, ◌∙◌, arith, append-nil}
use Rattle.std.specs.Prelude.{slice_get, slice_index, IsTrue, Bool}
use Rattle.std.specs.List.{AllByRecursion as Each}
use Rattle.ap_image.specs.declared.image.Image.{Image}
use Rattle.ap_image.specs.declared.trace.Trace.{Trace}
use Rattle.ap_net.specs.declared.cell.Wire.{Wire}
use Rattle.ap_net.specs.declared.net.Role.{Role}
use Rattle.ap_net.specs.declared.net.Role.TheVariants as role
use Rattle.ap_net.specs.declared.net.ModuleNet.{ModuleNet}
use Rattle.ap_net.specs.declared.net.Assign.{Assign}
use Rattle.ap_net.specs.declared.net.Next.{Next}
use Rattle.ap_net.specs.declared.net.Instance.{Instance}
use Rattle.ap_net.specs.Cells.{operands, IsNet, CellFits}
use Rattle.ap_net.specs.Wiring.{IsSource, Holds, Settles, Undriven, Unjoined, NextFits, reset_of}
use Rattle.ap_net.specs.Modules.{ModuleText, IsModule, IsInstanceIn, module_named, nets_of, next_placed, reset_at, reset_value}
use Rattle.ap_net.specs.Flat.{Flat, IsFlat, plain_nets, opened_over, base_of, base_from, part_size, part_nexts, nexts_in, inner_role, reset_in, spread}
use Rattle.ap_net.specs.Depends.{IsClosed}
use Rattle.ap_net.specs.Sources.{Given}
use Rattle.ap_net.specs.Outside.{Outside}
use Rattle.ap_net.specs.Runs.{NetState, Runs}
use Rattle.ap_net.specs.Alone.{IsPlainModule, ModulesAreSolvable, AgreeAtSources, AgreeOnClosedSets, RunsAlone, IsPart, PartsRunAlone}
use Rattle.ap_net.proofs.Lists.{All-from, All-both, All-front, All-back, All-unmap, some_same}
use Rattle.ap_net.proofs.Wired.{number-IsNet, operands-CellFits}
use Rattle.ap_net.proofs.Renumbered.{some_within}
use Rattle.ap_net.proofs.Parts.{plain-opened, own-solves, parts-solve, own_net_at, part_net_at, net_of_width, open-ranked, inner_net, nets_by, All-named}
use Rattle.ap_net.proofs.Whole.{opened-IsFlat}
use Rattle.ap_net.proofs.Fits.{always_solvable, constant}
use Rattle.ap_net.proofs.Solution.{cell_value-agree, driver, All-driver, Undriven-driver}

-- opened over no modules it is the whole
alone_nets : (m : ModuleText) → m.instances ≡ [] → plain_nets (opened_over [] m).nets ≡ nets_of m
alone_nets m alone = plain-opened [] m ∙ ap (λ (l : List Instance). nets_of m ++ nets_by inner_net [] l) alone ∙ append-nil (nets_of m)

pub modules_are_solvable : ModulesAreSolvable
modules_are_solvable m plain numbers fits =
    let flat : Flat = opened_over [] m in
    let nets : List ModuleNet = plain_nets flat.nets in
    let within : Each (IsInstanceIn []) m.instances = subst (Each (IsInstanceIn [])) (sym plain.alone) tt in
    let whole : IsFlat flat = opened-IsFlat [] m tt plain.kept within in
    let given : Given nets = constant nets numbers (λ n net at source. fits n net (ap (λ (l : List ModuleNet). slice_get l n) (sym (alone_nets m plain.alone)) ∙ at) source) in
    let solution = always_solvable flat whole given (record {
      rank = spread [] m (plain.ordered).0 (λ k n. 0);
      ranked = open-ranked [] m (plain.ordered).0 (λ k n. 0) tt plain.kept within (record { ranked = (plain.ordered).1; each = λ k i x at found. cc });
      looks = λ n net f g at source agree. refl;
    }) in (
      slice_index solution.0,
      record { settles = own-solves [] m solution.0 solution.1; sources = λ n net at source. solution.2 n net (own_net_at [] m n net at) source },
    )

module _ (m : ModuleText) (plain : IsPlainModule m) (among : ℕ → Bool) (closed : IsClosed m.assigns among) (f g : ℕ → ℕ) (sf : Settles (nets_of m) m.assigns f) (sg : Settles (nets_of m) m.assigns g)
    (same : AgreeAtSources (nets_of m) among f g) where
  abbrev rank : ℕ → ℕ
  rank = (plain.ordered).0

  -- a net that no assign drives is a source
  undriven : (n : ℕ) (net : ModuleNet) → slice_get (nets_of m) n ≡ Some net → Undriven m.assigns n → IsTrue (among n) → (r : Role) → net.role ≡ r → f n ≡ g n
  undriven n net at none is r e = go r e
    where
      driven : (IsSource net.role → ⊥) → ⊥
      driven free = plain.kept.driven.driven n net at free none (subst (λ (l : List Instance). Unjoined l n) (sym plain.alone) tt)

      go : (r : Role) → net.role ≡ r → f n ≡ g n
      go role.Input e = same n net at (subst IsSource (sym e) tt) is
      go role.Output e = absurd (driven (subst IsSource e))
      go role.Plain e = absurd (driven (subst IsSource e))
      go (role.Register reset) e = same n net at (subst IsSource (sym e) tt) is

  agree_at : (fuel n : ℕ) → rank n < fuel → n < length (nets_of m) → IsTrue (among n) → f n ≡ g n
  agree_at zero n lt within is = absurd (omega arith)
  agree_at (suc fuel) n lt within is =
      elim (driver m.assigns n) as (λ r. driver m.assigns n ≡ r → f n ≡ g n) [
        | None ↦ λ e. let net = some_within (nets_of m) n within in undriven n net.0 net.1 (Undriven-driver m.assigns n e) is net.0.role refl
        | Some a ↦ λ e.
            let lower = All-driver (λ (x : Assign). Each (λ (o : Wire). rank o.number < rank x.to.number) (operands x.cell)) m.assigns n a (plain.ordered).1 e in
            let nets = All-driver (λ (x : Assign). Each (IsNet (nets_of m)) (operands x.cell)) m.assigns n a
            (All-from (λ (x : Assign). CellFits (nets_of m) x.to.width x.cell) (λ (x : Assign). Each (IsNet (nets_of m)) (operands x.cell)) (λ x. operands-CellFits (nets_of m) x.to.width x.cell) m.assigns plain.kept.wired.cells) e in
            let inside = All-driver (λ (x : Assign). IsTrue (among x.to.number) → Each (λ (o : Wire). IsTrue (among o.number)) (operands x.cell)) m.assigns n a closed e in
            let p = All-driver (Holds f) m.assigns n a sf.holds e in
            let q = All-driver (Holds g) m.assigns n a sg.holds e in
            let here : rank a.to.number ≡ rank n = ap rank p.1 in
            let both : Each (λ (o : Wire). (rank o.number < rank a.to.number) × (o.number < length (nets_of m))) (operands a.cell) =
            All-both (λ (o : Wire). rank o.number < rank a.to.number) (IsNet (nets_of m)) (λ (o : Wire). (rank o.number < rank a.to.number) × (o.number < length (nets_of m)))
            (λ o less net. (less, number-IsNet (nets_of m) o net)) (operands a.cell) lower.0 nets.0 in
            ap f (sym p.1) ∙ p.0
            ∙ cell_value-agree f g a.to.width a.cell
            (All-both (λ (o : Wire). (rank o.number < rank a.to.number) × (o.number < length (nets_of m))) (λ (o : Wire). IsTrue (among o.number)) (λ (o : Wire). f o.number ≡ g o.number)
            (λ o low in_set. agree_at fuel o.number (omega (arith, low.0)) low.1 in_set) (operands a.cell) both (inside.0 (subst (λ k. IsTrue (among k)) (sym p.1) is)))
            ∙ sym q.0 ∙ ap g p.1
      ] refl

pub agree_on_closed_sets : AgreeOnClosedSets
agree_on_closed_sets m plain among closed f g sf sg same n within is = agree_at m plain among closed f g sf sg same ((plain.ordered).0 n + 1) n (omega arith) within is

-- equal lists of what two functions give are equal at each element
maps_same : {X : Type 0} (f g : X → ℕ) (xs : List X) → map f xs ≡ map g xs → Each (λ x. f x ≡ g x) xs
maps_same f g [] e = tt
maps_same f g (x ∷ xs) e = ((cc), maps_same f g xs (cc))

-- what holds of all registers' drivers of instances, by instance
part_nexts-at : (P : Next → Type 0) (modules : List ModuleText) (base : ℕ) (instances : List Instance) → Each P (part_nexts modules base instances) → (k : ℕ) (i : Instance) → slice_get instances k ≡ Some i
    → Each (λ x. P (next_placed (λ n. base_from modules base instances k + n) x)) (nexts_in (module_named modules i.module))
part_nexts-at P modules base [] h k i at = cc
part_nexts-at P modules base (j ∷ instances) h zero i at =
    let same : j ≡ i = some_same at in
    let own : List Next = nexts_in (module_named modules j.module) in
    subst (λ (x : Instance). Each (λ y. P (next_placed (λ n. base + n) y)) (nexts_in (module_named modules x.module))) same
    (All-unmap P (next_placed (λ n. base + n)) own (All-front P (map (next_placed (λ n. base + n)) own) (part_nexts modules (base + part_size modules j) instances) h))
part_nexts-at P modules base (j ∷ instances) h (suc k) i at =
    part_nexts-at P modules (base + part_size modules j) instances (All-back P (map (next_placed (λ n. base + n)) (nexts_in (module_named modules j.module))) (part_nexts modules (base + part_size modules j) instances) h) k i at

-- an inner net is reset as it is in its module
same_reset : (r : Role) → reset_of (inner_role r) ≡ reset_of r
same_reset role.Input = refl
same_reset role.Output = refl
same_reset role.Plain = refl
same_reset (role.Register reset) = refl

module _ (o : Outside) (modules : List ModuleText) (top : ModuleText) (each : Each IsModule modules) (kept : IsModule top) (within : Each (IsInstanceIn modules) top.instances) (image : Image) (trace : Trace) (c : ℕ)
    (states : ℕ → NetState) (valuations : ℕ → List ℕ) (runs : Runs o (opened_over modules top) image trace c states valuations) (some : 0 < c) (k : ℕ) (m : ModuleText) (part : IsPart modules top k m) where
  abbrev flat : Flat
  flat = opened_over modules top

  abbrev base : ℕ
  base = base_of modules top k

  abbrev reads : ℕ → ℕ → ℕ
  reads j n = slice_index (valuations j) (base + n)

  own : IsModule m
  own = (All-named IsModule modules (part.of).module m each part.found).0

  -- what holds of each driver of the whole holds of those of the part
  of_part : (P : Next → Type 0) → Each P flat.nexts → Each (λ x. P (next_placed (λ n. base + n) x)) m.nexts
  of_part P h = subst (λ l. Each (λ x. P (next_placed (λ n. base + n) x)) (nexts_in l)) part.found
      (part_nexts-at P modules (length (nets_of top)) top.instances (All-back P top.nexts (part_nexts modules (length (nets_of top)) top.instances) h) k part.of part.at)

  reset_same : (x : Next) → NextFits (nets_of m) x → reset_in flat (base + x.register.number) ≡ reset_at (nets_of m) x.register.number
  reset_same x fits =
      let net = net_of_width (nets_of m) x.register.number x.register.width fits.register.declared in
      ap reset_value (part_net_at modules top k part.of m part.at part.found x.register.number net.0 net.1) ∙ same_reset (net.0).role ∙ sym (ap reset_value net.1)

  parts_run : RunsAlone m c reads
  parts_run = record {
    solves = λ j lt. (parts-solve modules top (valuations j) kept.connected.paired (runs.goes j lt).solves k part.of m part.at part.found).settles;
    starts = All-both (λ (x : Next). slice_index (valuations 0) (base + x.register.number) ≡ reset_in flat (base + x.register.number)) (NextFits (nets_of m)) (λ (x : Next). reads 0 x.register.number ≡ reset_at (nets_of m) x.register.number)
        (λ x e fits. e ∙ reset_same x fits) m.nexts
        (of_part (λ (x : Next). slice_index (valuations 0) x.register.number ≡ reset_in flat x.register.number)
        (maps_same (λ (x : Next). slice_index (valuations 0) x.register.number) (λ (x : Next). reset_in flat x.register.number) flat.nexts ((runs.goes 0 some).registers ∙ ap (λ (s : NetState). s.registers) runs.starts)))
        own.wired.registers;
    goes = λ j lt. of_part (λ (x : Next). slice_index (valuations (j + 1)) x.register.number ≡ slice_index (valuations j) x.from.number)
        (maps_same (λ (x : Next). slice_index (valuations (j + 1)) x.register.number) (λ (x : Next). slice_index (valuations j) x.from.number) flat.nexts ((runs.goes (j + 1) lt).registers ∙ (runs.goes j (omega arith)).after));
  }

pub parts_run_alone : PartsRunAlone
parts_run_alone o modules top each kept within image trace c states valuations runs some k m part = parts_run o modules top each kept within image trace c states valuations runs some k m part
