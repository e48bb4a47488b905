-- Units that no line uses, by what a top knows of modules.
use Rattle.std.proofs.Common.{◌≡◌, ℕ, zero, suc, List, [], ◌∷◌, Some, refl, sym, ap, subst, ◌∙◌, append-nil}
use Rattle.std.specs.Prelude.{if◌then◌else◌, slice_get}
use Rattle.std.specs.List.{AllByRecursion as Each}
use Rattle.std.proofs.lemmas.Bool.{le-ltb}
use Rattle.std.proofs.lemmas.Option.{same_Some}
use Rattle.ap_bits.specs.declared.card.Card.{Card}
use Rattle.ap_bits.specs.declared.card.Latency.TheVariants.{One, WidthPlusOne}
use Rattle.ap_desc.specs.Clean.{FitsCards}
use Rattle.ap_desc.specs.declared.design.Design.{Design}
use Rattle.ap_desc.specs.declared.design.Unit.{Unit as Resource}
use Rattle.ap_net.specs.declared.net.Instance.{Instance}
use Rattle.ap_net.specs.declared.net.Port.{Port}
use Rattle.ap_net.specs.Draft.{Draft}
use Rattle.ap_net.specs.Modules.{IsInstanceIn, ModuleText}
use Rattle.ap_ctl.specs.Lists.{EachPair}
use Rattle.ap_unit.specs.Units.{ports_by}
use Rattle.ap_parts.specs.Known.{AreKnown, HasParts, InstancesFit, IsFoundWith, Knows, StandsThere, UnitsAreFound, known_ports}
use Rattle.ap_rest.specs.Idle.{HaveQuickModules, IsIdleUnit}
use Rattle.ap_rest.specs.Fitting.{IdleFitParts, IdlesGrow, KnownAreQuick, RestsGrow}

pair_there : {X Y : Type 0} (P : X → Y → Type 0) (xs : List X) (ys : List Y) → EachPair P xs ys → (i : ℕ) (x : X) → slice_get xs i ≡ Some x → (y : Y) × (slice_get ys i ≡ Some y) × P x y
pair_there P [] ys h i x at = cc
pair_there P (z ∷ xs) [] h i x at = absurd h
pair_there P (z ∷ xs) (y ∷ ys) h zero x at = (y, refl, subst (λ v. P v y) (same_Some z x at) h.0)
pair_there P (z ∷ xs) (y ∷ ys) h (suc i) x at = pair_there P xs ys h.1 i x at

module _ (knows : Knows) (design : Design) (modules : List ModuleText) (places : List ℕ) (kinds : ℕ) (known : AreKnown knows design modules places kinds) where
  abbrev Stands : Resource → ℕ → Type 0
  Stands u place = StandsThere modules place (knows.names u) (known_ports knows u)

  stands : (number : ℕ) (u : Resource) → slice_get design.units number ≡ Some u → (place : ℕ) × (slice_get places number ≡ Some place) × Stands u place
  stands number u at = pair_there Stands design.units places known.units number u at

  pub are_quick : HaveQuickModules design modules places
  are_quick number u at quick =
      let (place, there, is) = stands number u at in
      let one : known_ports knows u ≡ ports_by One (knows.selects u) u.width = ap (λ b. ports_by (if b then WidthPlusOne else One) (knows.selects u) u.width) (le-ltb 1 u.latency quick) in
      record { whole = is.whole; stands = record { place = place; there = there; at = is.at }; has = record { select = knows.selects u; ports = is.has ∙ one } }

  module _ (cards : List Card) (others : List ModuleText) (fits : FitsCards design cards) (has : HasParts knows cards design others) (found : UnitsAreFound) (fit : InstancesFit) (d : Draft) where
    one_fits : (n : ℕ) (i : Instance) → IsIdleUnit design modules places d n i → IsInstanceIn others i
    one_fits n i h =
        let (place, there, is) = stands n h.resource h.at in
        let same : place ≡ h.stands.place = same_Some place h.stands.place (sym there ∙ h.stands.there) in
        let whole : is.whole ≡ h.whole = same_Some is.whole h.whole (sym is.at ∙ ap (slice_get modules) same ∙ h.stands.at) in
        let name : knows.names h.resource ≡ (h.whole).name = sym is.named ∙ ap (λ (m : ModuleText). m.name) whole in
        let ports : known_ports knows h.resource ≡ (h.whole).ports = sym is.has ∙ ap (λ (m : ModuleText). m.ports) whole in
        let one : IsFoundWith others (knows.names h.resource) (known_ports knows h.resource) = found knows cards design others fits has n h.resource h.at in
        fit others h.whole i h.is.connects (subst (λ (p : List Port). IsFoundWith others (h.whole).name p) ports (subst (λ (m : List ℕ). IsFoundWith others m (known_ports knows h.resource)) name one))

    pub all_fit : (units : List ℕ) (placed : List Instance) → EachPair (IsIdleUnit design modules places d) units placed → Each (IsInstanceIn others) placed
    all_fit [] [] h = tt
    all_fit [] (i ∷ placed) h = absurd h
    all_fit (n ∷ units) [] h = absurd h
    all_fit (n ∷ units) (i ∷ placed) h = (one_fits n i h.0, all_fit units placed h.1)

pub known_are_quick : KnownAreQuick
known_are_quick knows design modules places kinds known = are_quick knows design modules places kinds known

pub idle_fit_parts : UnitsAreFound → InstancesFit → IdleFitParts
idle_fit_parts found fit knows cards design own places kinds modules units a b known fits has h = all_fit knows design own places kinds known cards modules fits has found fit b units h.placed h.each

pub idles_grow : IdlesGrow
idles_grow design modules places units a b h = record { extends = h.adds.extends; instances = h.adds.instances; ports = h.adds.ports }

pub rests_grow : RestsGrow
rests_grow nets a b h = record { extends = h.drives.extends; instances = h.drives.instances ∙ sym (append-nil a.instances); ports = h.drives.ports }
