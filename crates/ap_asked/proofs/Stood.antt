-- Units that were placed and driven, and modules that are known.
use Rattle.std.proofs.Common.{◌≡◌, ℕ, zero, suc, List, [], ◌∷◌, refl, sym, ap, subst, ◌∙◌}
use Rattle.std.specs.Prelude.{slice_get, Some}
use Rattle.std.specs.List.{AllByRecursion as Each}
use Rattle.ap_desc.specs.declared.design.Design.{Design}
use Rattle.ap_desc.specs.declared.design.Unit.{Unit as Resource}
use Rattle.ap_net.specs.Draft.{Draft, Extends}
use Rattle.ap_net.specs.Modules.{ModuleText}
use Rattle.ap_net.proofs.Lists.{some_same}
use Rattle.ap_ctl.specs.declared.nets.ControlNets.{ControlNets}
use Rattle.ap_ctl.specs.Lists.{EachPair}
use Rattle.ap_parts.specs.Known.{AreKnown, Knows, StandsThere, known_ports}
use Rattle.ap_parts.proofs.KnownPorts.{slow_ports}
use Rattle.ap_slow.specs.declared.place.SlowPlaced.{SlowPlaced}
use Rattle.ap_slow.specs.Driven.{IsServed}
use Rattle.ap_slow.specs.Placed.{IsPlaced}
use Rattle.ap_slow.proofs.DrivenAll.{served_later}
use Rattle.ap_slow.proofs.PlacedOne.{stands_later}
use Rattle.ap_asked.specs.Served.{IsServedUnit, KnownHaveModules, PlacedAreServed}

pair_there : {X Y : Type 0} (P : X → Y → Type 0) (xs : List X) (ys : List Y) (i : ℕ) (x : X) → EachPair P xs ys → slice_get xs i ≡ Some x → (y : Y) × (slice_get ys i ≡ Some y) × P x y
pair_there P [] ys i x h at = cc
pair_there P (z ∷ xs) [] i x h at = absurd h
pair_there P (z ∷ xs) (y ∷ ys) zero x h at = let same : z ≡ x = some_same at in (y, refl, subst (λ w. P w y) same h.0)
pair_there P (z ∷ xs) (y ∷ ys) (suc i) x h at = pair_there P xs ys i x h.1 at

pub known_have : KnownHaveModules
known_have knows design own places kinds h unit u at slow =
    let (place, there, s) = pair_there (λ (u : Resource) (place : ℕ). StandsThere own place (knows.names u) (known_ports knows u)) design.units places unit u h.units at in
    record { whole = s.whole; stands = record { place = place; there = there; at = s.at }; has = record { select = knows.selects u; ports = s.has ∙ slow_ports knows u slow } }

served_one : (knows : Knows) (design : Design) (own : List ModuleText) (places : List ℕ) (kinds : ℕ) (nets : ControlNets) (b e d : Draft) → AreKnown knows design own places kinds → Extends b d → Extends e d → (x : SlowPlaced) → IsPlaced design own places b x
    → IsServed design nets e x → IsServedUnit knows design d nets x
served_one knows design own places kinds nets b e d h f g x p s =
    let (place, there, k) = pair_there (λ (u : Resource) (place : ℕ). StandsThere own place (knows.names u) (known_ports knows u)) design.units places x.unit p.resource h.units p.at in
    let same : place ≡ (p.there).place = some_same (sym there ∙ (p.there).there) in
    let one : k.whole ≡ p.whole = some_same (sym k.at ∙ ap (slice_get own) same ∙ (p.there).at) in
    record {
      resource = p.resource;
      at = p.at;
      slow = p.slow;
      whole = p.whole;
      named = sym (ap (λ (m : ModuleText). m.name) one) ∙ k.named;
      stands = stands_later b d p.resource p.whole x f p.stands;
      served = served_later design nets e d x g s;
    }

each_both : {X : Type 0} (P Q R : X → Type 0) → ((x : X) → P x → Q x → R x) → (xs : List X) → Each P xs → Each Q xs → Each R xs
each_both P Q R f [] p q = tt
each_both P Q R f (x ∷ xs) p q = (f x p.0 q.0, each_both P Q R f xs p.1 q.1)

pub placed_served : PlacedAreServed
placed_served knows design own places kinds nets made a b c e d h p f q g =
    each_both (IsPlaced design own places b) (IsServed design nets e) (IsServedUnit knows design d nets) (served_one knows design own places kinds nets b e d h f g) made p.each q.each
