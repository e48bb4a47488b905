use Rattle.std.proofs.Common.{◌≡◌, ℕ, ◌+◌, ◌<◌, ◌≤◌, ◌^◌, suc, zero, List, [], ◌∷◌, length, Some, None, refl, sym, ap, subst, ◌∙◌, arith, ⊎_elim}
use Rattle.std.specs.Prelude.{slice_index, slice_get, option_map}
use Rattle.std.specs.List.{AllByRecursion as Each}
use Rattle.std.proofs.lemmas.Bool.{cases_lt}
use Rattle.std.proofs.lemmas.List.{get_or_past}
use Rattle.std.proofs.lemmas.Option.{slice_get-map}
use Rattle.ap_net.specs.declared.cell.Wire.{Wire}
use Rattle.ap_net.specs.declared.net.Role.{Role}
use Rattle.ap_net.specs.declared.net.Role.TheVariants as role
use Rattle.ap_net.specs.declared.net.ModuleNet.{ModuleNet}
use Rattle.ap_net.specs.declared.net.Assign.{Assign}
use Rattle.ap_net.specs.Cells.{operands, widths_of}
use Rattle.ap_net.specs.Wiring.{IsSource, Holds, Undriven}
use Rattle.ap_net.specs.Flat.{Flat, Solves, IsFlatDriven, plain_nets, equations}
use Rattle.ap_net.specs.Sources.{Given, IsOrderedWith, Takes, SolvedOnce, AgreeingAreEqual}
use Rattle.ap_net.proofs.Lists.{All-from}
use Rattle.ap_net.proofs.Renumbered.{some_within}
use Rattle.ap_net.proofs.Fits.{constant, length-plain}
use Rattle.ap_net.proofs.Solution.{cell_value-agree, driver, All-driver, Undriven-driver}

-- lists of one length that agree at each index are equal
same_lists : (u v : List ℕ) → length u ≡ length v → ((n : ℕ) → n < length u → slice_index u n ≡ slice_index v n) → u ≡ v
same_lists [] [] long f = refl
same_lists [] (y ∷ v) long f = absurd (omega arith)
same_lists (x ∷ u) [] long f = absurd (omega arith)
same_lists (x ∷ u) (y ∷ v) long f =
    let head : x ≡ y = f zero (omega arith) in
    let tail : u ≡ v = same_lists u v (omega arith) (λ n lt. f (suc n) (omega arith)) in
    (λ i. head i ∷ tail i)

-- past the end a list of numbers gives 0
both_past : (u v : List ℕ) (n count : ℕ) → length u ≡ count → length v ≡ count → count ≤ n → slice_index u n ≡ slice_index v n
both_past u v n count lu lv le = get_or_past u n 0 (omega arith) ∙ sym (get_or_past v n 0 (omega arith))

module _ (f : Flat) (driven : IsFlatDriven f) (given : Given (plain_nets f.nets)) (order : IsOrderedWith f given) (u v : List ℕ) (hu : Solves f u) (hv : Solves f v) (tu : Takes (plain_nets f.nets) given u) (tv : Takes (plain_nets f.nets) given v) where
  -- at a source, where they agree below its rank, and at no other net that nothing drives
  at_source : (n : ℕ) (net : ModuleNet) → slice_get (plain_nets f.nets) n ≡ Some net → Undriven (equations f) n → ((k : ℕ) → order.rank k < order.rank n → slice_index u k ≡ slice_index v k) → (r : Role) → net.role ≡ r → slice_index u n ≡ slice_index v n
  at_source n net at none below r e = go r e
    where
      agree : IsSource net.role → slice_index u n ≡ slice_index v n
      agree source = tu n net at source ∙ order.looks n net (slice_index u) (slice_index v) at source (λ k declared less. below k less) ∙ sym (tv n net at source)

      go : (r : Role) → net.role ≡ r → slice_index u n ≡ slice_index v n
      go role.Input e = agree (subst IsSource (sym e) tt)
      go role.Output e = absurd (driven n net at (subst IsSource e) none)
      go role.Plain e = absurd (driven n net at (subst IsSource e) none)
      go (role.Register reset) e = agree (subst IsSource (sym e) tt)

  -- the two solutions agree at each net, by its rank
  same_at : (fuel n : ℕ) → order.rank n < fuel → slice_index u n ≡ slice_index v n
  same_at zero n lt = absurd (omega arith)
  same_at (suc fuel) n lt =
      elim (driver (equations f) n) as (λ r. driver (equations f) n ≡ r → slice_index u n ≡ slice_index v n) [
        | None ↦ λ e. ⊎_elim
            (λ within. let net = some_within (plain_nets f.nets) n within in at_source n net.0 net.1 (Undriven-driver (equations f) n e) (λ k less. same_at fuel k (omega arith)) net.0.role refl)
            (λ past. both_past u v n (length (plain_nets f.nets)) (hu.long ∙ sym (length-plain f.nets)) (hv.long ∙ sym (length-plain f.nets)) past)
            (cases_lt n (length (plain_nets f.nets)))
        | Some a ↦ λ e.
            let x = All-driver (λ (x : Assign). Each (λ (o : Wire). order.rank o.number < order.rank x.to.number) (operands x.cell)) (equations f) n a order.ranked e in
            let p = All-driver (Holds (slice_index u)) (equations f) n a hu.settles.holds e in
            let q = All-driver (Holds (slice_index v)) (equations f) n a hv.settles.holds e in
            let here : order.rank a.to.number ≡ order.rank n = ap order.rank x.1 in
            ap (slice_index u) (sym x.1) ∙ p.0
            ∙ cell_value-agree (slice_index u) (slice_index v) a.to.width a.cell
            (All-from (λ (o : Wire). order.rank o.number < order.rank a.to.number) (λ (o : Wire). slice_index u o.number ≡ slice_index v o.number)
            (λ o less. same_at fuel o.number (omega arith)) (operands a.cell) x.0)
            ∙ sym q.0 ∙ ap (slice_index v) x.1
      ] refl

pub solved_once : SolvedOnce
solved_once f driven given order u v hu hv tu tv = same_lists u v (hu.long ∙ sym hv.long) (λ n lt. same_at f driven given order u v hu hv tu tv (order.rank n + 1) n (omega arith))

-- the numbers of a solution fit
source_fits : (nets : List ModuleNet) (read : ℕ → ℕ) → ((n w : ℕ) → slice_get (widths_of nets) n ≡ Some w → read n < 2 ^ w) → (n : ℕ) (net : ModuleNet) → slice_get nets n ≡ Some net → IsSource net.role → read n < 2 ^ net.width
source_fits nets read fits n net at source = fits n net.width (slice_get-map (λ (x : ModuleNet). x.width) nets n ∙ ap (option_map (λ (x : ModuleNet). x.width)) at)

pub agreeing_are_equal : AgreeingAreEqual
agreeing_are_equal f driven rank ranked u v hu hv same =
    let given : Given (plain_nets f.nets) = constant (plain_nets f.nets) (slice_index u) (source_fits (plain_nets f.nets) (slice_index u) hu.settles.fits) in
    solved_once f driven given (record { rank = rank; ranked = ranked; looks = λ n net a b at source agree. refl }) u v hu hv (λ n net at source. refl) (λ n net at source. sym (same n net at source))
