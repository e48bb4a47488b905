-- Units that no line uses, one after the other.
use Rattle.std.proofs.Common.{◌≡◌, ◌≢◌, ℕ, zero, suc, ◌+◌, ◌<◌, ◌≤◌, ◌&&◌, Bool, true, false, if◌then◌else◌, List, [], ◌∷◌, ◌++◌, filter, length, map, refl, sym, ap, subst, ◌∙◌, arith, append-nil}
use Rattle.std.specs.Prelude.{nat_lt, not, slice_get, Option, Some}
use Rattle.std.specs.Option.{option_map_or}
use Rattle.std.specs.List.{AllByRecursion as Each, range_with_len}
use Rattle.std.proofs.lemmas.Bool.{ltb-false}
use Rattle.std.proofs.lemmas.Option.{slice_get_within}
use Rattle.ap_desc.specs.Clean.{IsClean}
use Rattle.ap_desc.specs.Parts.{file_names, input_names, mem_names, reg_names, unit_names}
use Rattle.ap_desc.specs.Ports.{unit}
use Rattle.ap_desc.specs.declared.design.Design.{Design}
use Rattle.ap_desc.specs.declared.design.Unit.{Unit as Resource}
use Rattle.ap_net.specs.declared.net.Instance.{Instance}
use Rattle.ap_net.specs.Draft.{Draft, CanFresh, Extends, names_of}
use Rattle.ap_net.specs.Modules.{ModuleText}
use Rattle.ap_net.specs.Names.{IsNew}
use Rattle.ap_net.proofs.Laws.{IsNotNumbered-other}
use Rattle.ap_signals.specs.NetRuns.{unit_part}
use Rattle.ap_ctl.specs.Lists.{EachPair}
use Rattle.ap_ctl.proofs.Beside.{EachPair-push, EachPair-weaker}
use Rattle.ap_front.proofs.Apart.{Once, each_range, filter_each, once_back, same_place}
use Rattle.ap_front.proofs.PartNames.{all_once}
use Rattle.ap_slow.specs.Placed.{StandsAt}
use Rattle.ap_rest.specs.Uses.{is_port_used}
use Rattle.ap_rest.specs.Idle.{AreNewIdle, HasQuickModule, HasQuickPorts, IdlesUnits, IsIdleUnit, PlacesOwn, is_idle}
use Rattle.ap_rest.proofs.IdleOne.{adds_more, adds_none, idle_later}

-- Which units are idle.

pub idle_is : (design : Design) (n : ℕ) (u : Resource) → slice_get design.units n ≡ Some u → is_idle design n ≡ (not (nat_lt 1 u.latency) && not (is_port_used design (unit n)))
idle_is design n u at = ap (λ (o : Option Resource). not (nat_lt 1 (option_map_or (λ (x : Resource). x.latency) o 0)) && not (is_port_used design (unit n))) at

pub idle_quick : (design : Design) (n : ℕ) (u : Resource) → slice_get design.units n ≡ Some u → is_idle design n ≡ true → u.latency ≤ 1
idle_quick design n u at idle = go (nat_lt 1 u.latency) refl
  where
    go : (b : Bool) → nat_lt 1 u.latency ≡ b → u.latency ≤ 1
    go true e = let clash : false ≡ true = sym (idle_is design n u at ∙ ap (λ b. not b && not (is_port_used design (unit n))) e) ∙ idle in cc
    go false e = let h = ltb-false 1 u.latency e in omega arith

-- The numbers of units so far.

cons_append : (b : Bool) (x : ℕ) (xs ys : List ℕ) → (if b then x ∷ xs ++ ys else xs ++ ys) ≡ (if b then x ∷ xs else xs) ++ ys
cons_append true x xs ys = refl
cons_append false x xs ys = refl

filter_last : (p : ℕ → Bool) (low k m : ℕ) → m ≡ low + k → filter p (range_with_len low (suc k)) ≡ filter p (range_with_len low k) ++ (if p m then m ∷ [] else [])
filter_last p low zero m e = let same : low ≡ m = omega arith in ap (λ n. if p n then n ∷ [] else []) same
filter_last p low (suc k) m e =
    ap (λ l. if p low then low ∷ l else l) (filter_last p (low + 1) k m (omega arith))
    ∙ cons_append (p low) low (filter p (range_with_len (low + 1) k)) (if p m then m ∷ [] else [])

abbrev pub idle_before : Design → ℕ → List ℕ
idle_before design n = filter (is_idle design) (range_with_len 0 n)

pub idle_more : (design : Design) (n : ℕ) → idle_before design (n + 1) ≡ idle_before design n ++ (if is_idle design n then n ∷ [] else [])
idle_more design n = let more : n + 1 ≡ suc n = omega arith in ap (idle_before design) more ∙ filter_last (is_idle design) 0 n n (omega arith)

-- The names of units differ.

unit_at : (units : List Resource) (n : ℕ) (u : Resource) → slice_get units n ≡ Some u → slice_get (map (λ (x : Resource). x.name) units) n ≡ Some u.name
unit_at [] n u at = cc
unit_at (x ∷ units) zero u at = let same : x ≡ u = cc in ap (λ (y : Resource). Some y.name) same
unit_at (x ∷ units) (suc n) u at = unit_at units n u at

part_differs : (design : Design) → IsClean design → (k n : ℕ) (v u : Resource) → slice_get design.units k ≡ Some v → slice_get design.units n ≡ Some u → k < n → unit_part v ≢ unit_part u
part_differs design clean k n v u there at lt e =
    let names : Once (unit_names design) = once_back (reg_names design ++ file_names design ++ mem_names design ++ input_names design) (unit_names design) (all_once design clean) in
    let same : v.name ≡ u.name = cc in
    let place : k ≡ n = same_place (unit_names design) k n u.name names (unit_at design.units k v there ∙ ap Some same) (unit_at design.units n u at) in
    absurd (omega arith)

module _ (design : Design) (modules : List ModuleText) (places : List ℕ) where
  apart_from : IsClean design → (d : Draft) (n : ℕ) (u : Resource) → slice_get design.units n ≡ Some u → (ks : List ℕ) (placed : List Instance) → Each (λ k. k < n) ks → EachPair (IsIdleUnit design modules places d) ks placed
      → Each (λ (i : Instance). i.name ≢ unit_part u) placed
  apart_from clean d n u at [] [] low h = tt
  apart_from clean d n u at [] (i ∷ placed) low h = absurd h
  apart_from clean d n u at (k ∷ ks) [] low h = absurd h
  apart_from clean d n u at (k ∷ ks) (i ∷ placed) low h =
      ((λ e. part_differs design clean k n (h.0).resource u (h.0).at at low.0 (sym (h.0).is.named ∙ e)), apart_from clean d n u at ks placed low.1 h.1)

  pub name_new : (n : ℕ) (u : Resource) (a b : Draft) → IsClean design → IdlesUnits design modules places (idle_before design n) a b → AreNewIdle design a → slice_get design.units n ≡ Some u → is_idle design n ≡ true → IsNew (unit_part u) (names_of b)
  name_new n u a b clean h new at idle =
      h.adds.names (unit_part u) (IsNotNumbered-other (unit_part u) refl)
      (apart_from clean b n u at (idle_before design n) h.placed (filter_each (λ k. k < n) (is_idle design) (range_with_len 0 n) (each_range (λ k. k < n) 0 n (λ k lt. omega arith))) h.each)
      (new n u at idle)

  -- One step of the loop.

  pub idles_none : (d : Draft) → CanFresh d → IdlesUnits design modules places [] d d
  idles_none d fresh = record { placed = []; each = tt; adds = adds_none d fresh }

  unit_later : (a b : Draft) (n : ℕ) (i : Instance) → Extends a b → IsIdleUnit design modules places a n i → IsIdleUnit design modules places b n i
  unit_later a b n i e h = record { resource = h.resource; at = h.at; quick = h.quick; whole = h.whole; stands = h.stands; is = idle_later a b h.resource h.whole i e h.is }

  pub more_placed : (n : ℕ) (u : Resource) (a b c : Draft) → IdlesUnits design modules places (idle_before design n) a b → slice_get design.units n ≡ Some u → is_idle design n ≡ true → PlacesOwn modules places n u b c
      → IdlesUnits design modules places (idle_before design (n + 1)) a c
  more_placed n u a b c h at idle p =
      let next : idle_before design (n + 1) ≡ idle_before design n ++ n ∷ [] = idle_more design n ∙ ap (λ s. idle_before design n ++ (if s then n ∷ [] else [])) idle in
      let of : Instance = p.placed.of in
      let one : IsIdleUnit design modules places c n of = record { resource = u; at = at; quick = idle_quick design n u at idle; whole = p.whole; stands = p.stands; is = p.placed.is } in
      subst (λ units. IdlesUnits design modules places units a c) (sym next) (record {
        placed = h.placed ++ of ∷ [];
        each = EachPair-push (IsIdleUnit design modules places c) (idle_before design n) h.placed n of
            (EachPair-weaker (IsIdleUnit design modules places b) (IsIdleUnit design modules places c) (λ k i q. unit_later b c k i p.placed.adds.extends q) (idle_before design n) h.placed h.each) one;
        adds = adds_more h.placed (of ∷ []) a b c h.adds p.placed.adds;
      })

  pub more_kept : (n : ℕ) (a b : Draft) → IdlesUnits design modules places (idle_before design n) a b → is_idle design n ≡ false → IdlesUnits design modules places (idle_before design (n + 1)) a b
  more_kept n a b h busy =
      let next : idle_before design (n + 1) ≡ idle_before design n = idle_more design n ∙ ap (λ s. idle_before design n ++ (if s then n ∷ [] else [])) busy ∙ append-nil (idle_before design n) in
      subst (λ units. IdlesUnits design modules places units a b) (sym next) h

-- The module at the unit's place.

pub own_module : (modules : List ModuleText) (places : List ℕ) (number p : ℕ) (u : Resource) (m : ModuleText) → (h : HasQuickModule modules places number u) → slice_get places number ≡ Some p → slice_get modules p ≡ Some m → HasQuickPorts u m × StandsAt modules places number m
own_module modules places number p u m h there at =
    let e : Some p ≡ Some h.stands.place = sym there ∙ h.stands.there in
    let same : h.stands.place ≡ p = cc in
    let f : Some h.whole ≡ Some m = sym (subst (λ q. slice_get modules q ≡ Some h.whole) same h.stands.at) ∙ at in
    let is : h.whole ≡ m = cc in
    (subst (HasQuickPorts u) is h.has, record { place = p; there = there; at = at })

pub place_low : (modules : List ModuleText) (places : List ℕ) (number p : ℕ) (u : Resource) → (h : HasQuickModule modules places number u) → slice_get places number ≡ Some p → p < length modules
place_low modules places number p u h there =
    let e : Some p ≡ Some h.stands.place = sym there ∙ h.stands.there in
    let same : h.stands.place ≡ p = cc in
    subst (λ q. q < length modules) same (slice_get_within modules h.stands.place h.whole h.stands.at)
