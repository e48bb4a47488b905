-- Where the values of nets stand, net by net in their order.
use Rattle.std.proofs.Common.{◌≡◌, ℕ, zero, suc, ◌+◌, ◌<◌, ◌≤◌, ◌⊎◌, inl, inr, List, [], ◌∷◌, length, get_or, Some, refl, sym, ap, subst, ◌∙◌, arith, set}
use Rattle.std.specs.Prelude.{slice_get, slice_index}
use Rattle.std.proofs.lemmas.Bool.{cases_lt}
use Rattle.std.proofs.lemmas.List.{get_or-set_same, get_or-set_other, length-set, set-get_or}
use Rattle.std.proofs.lemmas.Option.{slice_get_within}
use Rattle.ap_net.specs.declared.cell.Wire.{Wire}
use Rattle.ap_net.specs.declared.cell.Cell.TheVariants as cell
use Rattle.ap_flat.specs.Flats.{FlatParts, IsFlattened}
use Rattle.ap_flat.specs.declared.driver.Driver.{Driver}
use Rattle.ap_flat.specs.declared.driver.Driver.TheVariants as driver
use Rattle.ap_eval.specs.Ops.{AreRoots, SourceIsWithin, root_by}
use Rattle.ap_net.proofs.Lists.{some_same as some_of}
use Rattle.ap_eval.proofs.Ordering.{rank, net_at_rank}
use Rattle.ap_eval.proofs.Computing.{equation, operand_lower}

-- the roots of the nets before this place of the order, and of no other yet
pub record AreRootsTo (drivers : List Driver) (order : List ℕ) (i : ℕ) (roots : List ℕ) : Type 0 where
  pub long : length roots ≡ length drivers
  pub done : (j n : ℕ) (by : Driver) → j < i → slice_get order j ≡ Some n → slice_get drivers n ≡ Some by → slice_index roots n ≡ root_by roots n by
  pub rest : (j n : ℕ) → i ≤ j → slice_get order j ≡ Some n → slice_index roots n ≡ n

-- an element that is read by its index
pub got : {X : Type 0} (xs : List X) (n : ℕ) (d : X) → n < length xs → slice_get xs n ≡ Some (get_or xs n d)
got [] n d lt = absurd (omega arith)
got (x ∷ xs) zero d lt = refl
got (x ∷ xs) (suc n) d lt = got xs n d (omega arith)

module _ (f : FlatParts) (is : IsFlattened f) where
  pub begin : (roots : List ℕ) → length roots ≡ length f.drivers → ((n : ℕ) → n < length f.drivers → slice_index roots n ≡ n) → AreRootsTo f.drivers f.order 0 roots
  begin roots long each = record {
    long = long;
    done = λ j n by less at there. absurd (omega arith);
    rest = λ j n le at. each n (let lt : n < length f.net.nets = is.order.within j n at in let e : length f.drivers ≡ length f.net.nets = is.drivers.long in omega arith);
  }

  -- what a copy reads stands before it in the order
  source_before : (i n : ℕ) (w : Wire) → slice_get f.order i ≡ Some n → slice_get f.drivers n ≡ Some (driver.Equation (cell.Copy w)) → (w.number < length f.net.nets) × (rank f is w.number < i)
  source_before i n w at by =
      let l = (operand_lower f is n (cell.Copy w) (is.order.within i n at) (equation f is n (cell.Copy w) by)).0 in
      let r : rank f is n ≡ i = net_at_rank f is n i at in
      let b : rank f is w.number < rank f is n = l.1 in
      (l.0, omega arith)

  pub copied : (roots : List ℕ) (i n : ℕ) (w : Wire) → AreRootsTo f.drivers f.order i roots → slice_get f.order i ≡ Some n → slice_get f.drivers n ≡ Some (driver.Equation (cell.Copy w))
      → AreRootsTo f.drivers f.order (i + 1) (set roots n (slice_index roots w.number))
  copied roots i n w so at by =
      let x : ℕ = slice_index roots w.number in
      let lt : n < length f.net.nets = is.order.within i n at in
      let e : length f.drivers ≡ length f.net.nets = is.drivers.long in
      let long : length roots ≡ length f.drivers = so.long in
      let r : rank f is n ≡ i = net_at_rank f is n i at in
      let here = source_before i n w at by in
      let below : rank f is w.number < i = here.1 in
      let same_n : slice_index (set roots n x) n ≡ x = get_or-set_same roots n x 0 (omega arith) in
      let other : (m : ℕ) → rank f is m < i → slice_index (set roots n x) m ≡ slice_index roots m = λ m less. get_or-set_other roots n m x 0 (λ same. let q : rank f is m ≡ rank f is n = ap (rank f is) same in absurd (omega arith)) in
      record {
        long = length-set roots n x ∙ so.long;
        done = λ j m by' less there driven. go j m by' (cases_lt j i) less there driven same_n other below;
        rest = λ j m le there. get_or-set_other roots n m x 0 (λ same. let q : rank f is m ≡ rank f is n = ap (rank f is) same in let p : rank f is m ≡ j = net_at_rank f is m j there in absurd (omega arith)) ∙ so.rest j m (omega arith) there;
      }
    where
      early : (j m : ℕ) (by' : Driver) → j < i → slice_get f.order j ≡ Some m → slice_get f.drivers m ≡ Some by' → ((k : ℕ) → rank f is k < i → slice_index (set roots n (slice_index roots w.number)) k ≡ slice_index roots k)
          → root_by roots m by' ≡ root_by (set roots n (slice_index roots w.number)) m by'
      early j m driver.Given less there driven other = refl
      early j m (driver.Looks k) less there driven other = refl
      early j m (driver.Equation (cell.Const c)) less there driven other = refl
      early j m (driver.Equation (cell.Copy u)) less there driven other = let s = source_before j m u there driven in let b : rank f is u.number < j = s.1 in sym (other u.number (omega arith))
      early j m (driver.Equation (cell.Not a)) less there driven other = refl
      early j m (driver.Equation (cell.Two o a b)) less there driven other = refl
      early j m (driver.Equation (cell.Choose s a b)) less there driven other = refl
      early j m (driver.Equation (cell.Cat a b)) less there driven other = refl
      early j m (driver.Equation (cell.Slice a h l)) less there driven other = refl

      go : (j m : ℕ) (by' : Driver) → (j < i) ⊎ (i ≤ j) → j < i + 1 → slice_get f.order j ≡ Some m → slice_get f.drivers m ≡ Some by' → slice_index (set roots n (slice_index roots w.number)) n ≡ slice_index roots w.number
          → ((k : ℕ) → rank f is k < i → slice_index (set roots n (slice_index roots w.number)) k ≡ slice_index roots k) → rank f is w.number < i
          → slice_index (set roots n (slice_index roots w.number)) m ≡ root_by (set roots n (slice_index roots w.number)) m by'
      go j m by' (inl less) lt there driven same_n other below =
          let p : rank f is m ≡ j = net_at_rank f is m j there in
          other m (omega arith) ∙ so.done j m by' less there driven ∙ early j m by' less there driven other
      go j m by' (inr le) lt there driven same_n other below =
          let ji : j ≡ i = omega arith in
          let mn : n ≡ m = some_of (sym at ∙ ap (slice_get f.order) (sym ji) ∙ there) in
          let d : driver.Equation (cell.Copy w) ≡ by' = some_of (sym by ∙ ap (slice_get f.drivers) mn ∙ driven) in
          subst (λ (b : Driver). slice_index (set roots n (slice_index roots w.number)) m ≡ root_by (set roots n (slice_index roots w.number)) m b) d
          (ap (slice_index (set roots n (slice_index roots w.number))) (sym mn) ∙ same_n ∙ sym (other w.number below))

  -- a net that is no copy stands at itself
  pub passed_by : (roots : List ℕ) (i n : ℕ) (by : Driver) → AreRootsTo f.drivers f.order i roots → slice_get f.order i ≡ Some n → slice_get f.drivers n ≡ Some by → root_by roots n by ≡ n → AreRootsTo f.drivers f.order (i + 1) roots
  passed_by roots i n by so at driven own = record {
    long = so.long;
    done = λ j m by' less there d. go j m by' (cases_lt j i) less there d;
    rest = λ j m le there. so.rest j m (omega arith) there;
  }
    where
      go : (j m : ℕ) (by' : Driver) → (j < i) ⊎ (i ≤ j) → j < i + 1 → slice_get f.order j ≡ Some m → slice_get f.drivers m ≡ Some by' → slice_index roots m ≡ root_by roots m by'
      go j m by' (inl less) lt there d = so.done j m by' less there d
      go j m by' (inr le) lt there d =
          let ji : j ≡ i = omega arith in
          let mn : n ≡ m = some_of (sym at ∙ ap (slice_get f.order) (sym ji) ∙ there) in
          let e : by ≡ by' = some_of (sym driven ∙ ap (slice_get f.drivers) mn ∙ d) in
          let here : slice_index roots n ≡ root_by roots n by = so.rest i n (omega arith) at ∙ sym own in
          subst (λ (b : Driver). slice_index roots m ≡ root_by roots m b) e (subst (λ k. slice_index roots k ≡ root_by roots k by) mn here)

  same_root : (roots : List ℕ) (i n : ℕ) → AreRootsTo f.drivers f.order i roots → slice_get f.order i ≡ Some n → roots ≡ set roots n n
  same_root roots i n so at = sym (set-get_or roots n 0) ∙ ap (set roots n) (so.rest i n (omega arith) at)

  pub placed : (roots : List ℕ) (i n : ℕ) (by : Driver) → AreRootsTo f.drivers f.order i roots → slice_get f.order i ≡ Some n → slice_get f.drivers n ≡ Some by → AreRootsTo f.drivers f.order (i + 1) (set roots n (root_by roots n by))
  placed roots i n (driver.Equation (cell.Copy w)) so at driven = copied roots i n w so at driven
  placed roots i n driver.Given so at driven = subst (AreRootsTo f.drivers f.order (i + 1)) (same_root roots i n so at) (passed_by roots i n driver.Given so at driven refl)
  placed roots i n (driver.Looks m) so at driven = subst (AreRootsTo f.drivers f.order (i + 1)) (same_root roots i n so at) (passed_by roots i n (driver.Looks m) so at driven refl)
  placed roots i n (driver.Equation (cell.Const c)) so at driven = subst (AreRootsTo f.drivers f.order (i + 1)) (same_root roots i n so at) (passed_by roots i n (driver.Equation (cell.Const c)) so at driven refl)
  placed roots i n (driver.Equation (cell.Not a)) so at driven = subst (AreRootsTo f.drivers f.order (i + 1)) (same_root roots i n so at) (passed_by roots i n (driver.Equation (cell.Not a)) so at driven refl)
  placed roots i n (driver.Equation (cell.Two o a b)) so at driven = subst (AreRootsTo f.drivers f.order (i + 1)) (same_root roots i n so at) (passed_by roots i n (driver.Equation (cell.Two o a b)) so at driven refl)
  placed roots i n (driver.Equation (cell.Choose s a b)) so at driven = subst (AreRootsTo f.drivers f.order (i + 1)) (same_root roots i n so at) (passed_by roots i n (driver.Equation (cell.Choose s a b)) so at driven refl)
  placed roots i n (driver.Equation (cell.Cat a b)) so at driven = subst (AreRootsTo f.drivers f.order (i + 1)) (same_root roots i n so at) (passed_by roots i n (driver.Equation (cell.Cat a b)) so at driven refl)
  placed roots i n (driver.Equation (cell.Slice a h l)) so at driven = subst (AreRootsTo f.drivers f.order (i + 1)) (same_root roots i n so at) (passed_by roots i n (driver.Equation (cell.Slice a h l)) so at driven refl)

  pub source_within : (i n : ℕ) (by : Driver) → slice_get f.order i ≡ Some n → slice_get f.drivers n ≡ Some by → (count : ℕ) → count ≡ length f.net.nets → SourceIsWithin count by
  source_within i n driver.Given at driven count e = tt
  source_within i n (driver.Looks m) at driven count e = tt
  source_within i n (driver.Equation (cell.Const c)) at driven count e = tt
  source_within i n (driver.Equation (cell.Copy w)) at driven count e = subst (λ k. w.number < k) (sym e) (source_before i n w at driven).0
  source_within i n (driver.Equation (cell.Not a)) at driven count e = tt
  source_within i n (driver.Equation (cell.Two o a b)) at driven count e = tt
  source_within i n (driver.Equation (cell.Choose s a b)) at driven count e = tt
  source_within i n (driver.Equation (cell.Cat a b)) at driven count e = tt
  source_within i n (driver.Equation (cell.Slice a h l)) at driven count e = tt

  pub all_rooted : (roots : List ℕ) (i : ℕ) → length f.order ≤ i → AreRootsTo f.drivers f.order i roots → AreRoots f.drivers roots
  all_rooted roots i le so = record {
    long = so.long;
    each = λ n by driven.
        let lt : n < length f.drivers = slice_get_within f.drivers n by driven in
        let e : length f.drivers ≡ length f.net.nets = is.drivers.long in
        let at = is.order.all n (omega arith) in
        let w : at.0 < length f.order = slice_get_within f.order at.0 n at.1 in
        so.done at.0 n by (omega arith) at.1 driven;
  }

  -- one more place of the order, as a loop has it
  module _ (order : List ℕ) (drivers : List Driver) (order_is : order ≡ f.order) (drivers_are : drivers ≡ f.drivers) (i : ℕ) (lt : i < length order) where
    abbrev pub net : ℕ
    net = get_or order i 0

    net_at : slice_get f.order i ≡ Some net
    net_at = subst (λ (l : List ℕ). slice_get l i ≡ Some net) order_is (got order i 0 lt)

    pub net_low : net < length f.net.nets
    net_low = is.order.within i net net_at

    driven : slice_get f.drivers net ≡ Some (get_or drivers net driver.Given)
    driven =
        let e : length f.drivers ≡ length f.net.nets = is.drivers.long in
        let n : net < length f.net.nets = net_low in
        subst (λ (l : List Driver). slice_get l net ≡ Some (get_or drivers net driver.Given)) drivers_are (got drivers net driver.Given (subst (λ (l : List Driver). net < length l) (sym drivers_are) (omega arith)))

    pub source_more : (count : ℕ) → count ≡ length f.net.nets → SourceIsWithin count (get_or drivers net driver.Given)
    source_more count e = source_within i net (get_or drivers net driver.Given) net_at driven count e

    pub root_more : (roots shown : List ℕ) (x : ℕ) → shown ≡ roots → x ≡ root_by shown net (get_or drivers net driver.Given) → AreRootsTo f.drivers f.order i roots → AreRootsTo f.drivers f.order (i + 1) (set roots net x)
    root_more roots shown x same x_is so =
        let e : root_by roots net (get_or drivers net driver.Given) ≡ x = ap (λ (l : List ℕ). root_by l net (get_or drivers net driver.Given)) (sym same) ∙ sym x_is in
        subst (λ y. AreRootsTo f.drivers f.order (i + 1) (set roots net y)) e (placed roots i net (get_or drivers net driver.Given) so net_at driven)
