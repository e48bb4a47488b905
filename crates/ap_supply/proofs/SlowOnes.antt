-- Units of several cycles, as they were placed.
use Rattle.std.proofs.Common.{◌≡◌, ℕ, zero, suc, ◌+◌, ◌<◌, ◌==◌, true, List, [], ◌∷◌, length, map, Some, None, nat_lt, eqb-true, inl, inr, refl, sym, ap, subst, ◌∙◌, arith}
use Rattle.std.specs.Prelude.{Contains, slice_get}
use Rattle.std.specs.List.{range_with_len}
use Rattle.std.specs.Option.{option_map_or}
use Rattle.std.proofs.lemmas.Bool.{eq-eqb, lt-ltb}
use Rattle.std.proofs.lemmas.Option.{slice_get_within}
use Rattle.ap_course.proofs.Standing.{filter_in, finds, found_in}
use Rattle.ap_ctl.specs.Given.{is_slow_unit, slow_units}
use Rattle.ap_desc.proofs.Members.{In, contains_in, get_in, in_contains}
use Rattle.ap_desc.specs.declared.design.Unit.{Unit as Resource}
use Rattle.ap_slow.specs.declared.place.SlowPlaced.{SlowPlaced}
use Rattle.ap_supply.specs.Listing.{SlowWerePlaced, WasPlaced, slow_for}

range_at : (low count k : ℕ) → k < count → slice_get (range_with_len low count) k ≡ Some (low + k)
range_at low zero k lt = absurd (omega arith)
range_at low (suc count) zero lt = let same : low ≡ low + 0 = omega arith in ap Some same
range_at low (suc count) (suc k) lt = let next : low + 1 + k ≡ low + suc k = omega arith in range_at (low + 1) count k (omega arith) ∙ ap Some next

was_mapped : (xs : List SlowPlaced) (n : ℕ) → In n (map (λ (x : SlowPlaced). x.unit) xs) → (x : SlowPlaced) × In x xs × (x.unit ≡ n)
was_mapped [] n h = absurd h
was_mapped (x ∷ xs) n (inl same) = (x, inl refl, sym same)
was_mapped (x ∷ xs) n (inr later) = let (y, inside, own) = was_mapped xs n later in (y, inr inside, own)

-- the one that is found for a number is that of it; and one is found where it was placed
pub slow_is : (slow : List SlowPlaced) (unit : ℕ) (x : SlowPlaced) → slow_for slow unit ≡ Some x → Contains slow x × (x.unit ≡ unit)
slow_is slow unit x found = let (inside, own) = found_in (λ (y : SlowPlaced). y.unit == unit) slow x found in (in_contains slow x inside, eqb-true x.unit unit own)

pub slow_there : (slow : List SlowPlaced) (unit : ℕ) → WasPlaced slow unit → slow_for slow unit ≡ None → ⊥
slow_there slow unit was none =
    let (y, found) = finds (λ (x : SlowPlaced). x.unit == unit) slow was.placed (contains_in slow was.placed was.among) (eq-eqb (was.placed).unit unit was.own) in
    let wrong : None ≡ Some y = sym none ∙ found in
    absurd cc

pub slow_were_placed : SlowWerePlaced
slow_were_placed design slow are unit u at more =
    let low = slice_get_within design.units unit u at in
    let latency : is_slow_unit design unit ≡ true = ap (λ o. nat_lt 1 (option_map_or (λ (x : Resource). x.latency) o 0)) at ∙ lt-ltb 1 u.latency more in
    let from_none : 0 + unit ≡ unit = omega arith in
    let ranged : In unit (range_with_len 0 (length design.units)) = get_in (range_with_len 0 (length design.units)) unit unit (range_at 0 (length design.units) unit low ∙ ap Some from_none) in
    let among : In unit (slow_units design) = filter_in (is_slow_unit design) (range_with_len 0 (length design.units)) unit ranged latency in
    let (x, inside, own) = was_mapped slow unit (subst (In unit) (sym are) among) in
    record { placed = x; among = in_contains slow x inside; own = own }
