-- What registers hold is found by their nets' numbers, and what they take at an edge fits them.
use Rattle.std.proofs.Common.{◌≡◌, ◌≢◌, ℕ, ◌<◌, ◌^◌, List, [], ◌∷◌, map, Some, Bool, true, false, refl, sym, ap, subst, ◌∙◌, eq-eqb}
use Rattle.std.specs.Prelude.{slice_get, slice_index, ◌==◌, if◌then◌else◌}
use Rattle.std.specs.List.{AllByRecursion as Each}
use Rattle.std.proofs.lemmas.Nat.{pow_pos}
use Rattle.std.proofs.lemmas.Bool.Decides.{Decides-eqb}
use Rattle.ap_net.specs.declared.net.ModuleNet.{ModuleNet}
use Rattle.ap_net.specs.declared.net.Next.{Next}
use Rattle.ap_net.specs.Wiring.{NextFits, ClockedOnce, IsSource, reset_of}
use Rattle.ap_net.specs.Modules.{reset_value}
use Rattle.ap_net.specs.Flat.{plain_nets, reset_in}
use Rattle.ap_net.specs.Registers.{held, RegistersFit, ResetsFit, TakenFit}
use Rattle.ap_net.proofs.Lists.{All-from, All-at, some_same}
use Rattle.ap_net.proofs.Parts.{net_of_width}
use Rattle.ap_net.proofs.Found.{found, passed}

-- another register's number leaves the first driver out
held_behind : (x : Next) (nexts : List Next) (value : ℕ) (r : List ℕ) (others : List Next) → Each (λ (y : Next). y.register.number ≢ x.register.number) others
    → map (λ (y : Next). held (x ∷ nexts) (value ∷ r) y.register.number) others ≡ map (λ (y : Next). held nexts r y.register.number) others
held_behind x nexts value r [] h = refl
held_behind x nexts value r (y ∷ others) h = λ j.
    passed (x.register.number == y.register.number) value (held nexts r y.register.number) (λ t. h.0 (sym ((Decides-eqb x.register.number y.register.number).0 t))) j ∷ held_behind x nexts value r others h.1 j

-- read by the numbers of their registers, the drivers give back the list
pub held_all : (nexts : List Next) (r : List ℕ) → ClockedOnce nexts → RegistersFit nexts r → map (λ (x : Next). held nexts r x.register.number) nexts ≡ r
held_all [] [] once fit = refl
held_all [] (value ∷ r) once fit = absurd fit
held_all (x ∷ nexts) [] once fit = absurd fit
held_all (x ∷ nexts) (value ∷ r) once fit = λ j.
    found (x.register.number == x.register.number) value (held nexts r x.register.number) (eq-eqb x.register.number x.register.number refl) j
    ∷ (held_behind x nexts value r nexts once.0 ∙ held_all nexts r once.1 fit.1) j

-- what is held fits the net
pub held_fits : (nets : List ModuleNet) (nexts : List Next) (r : List ℕ) → Each (NextFits nets) nexts → RegistersFit nexts r → (n : ℕ) (net : ModuleNet) → slice_get nets n ≡ Some net → held nexts r n < 2 ^ net.width
held_fits nets [] r fits fit n net at = pow_pos net.width
held_fits nets (x ∷ nexts) [] fits fit n net at = absurd fit
held_fits nets (x ∷ nexts) (value ∷ r) fits fit n net at = go (x.register.number == n) refl (held_fits nets nexts r fits.1 fit.1 n net at)
  where
    go : (b : Bool) → (x.register.number == n) ≡ b → held nexts r n < 2 ^ net.width → (if b then value else held nexts r n) < 2 ^ net.width
    go true e rest =
        let own = net_of_width nets x.register.number x.register.width (fits.0).register.declared in
        let here : x.register.number ≡ n = (Decides-eqb x.register.number n).0 e in
        let same : own.0 ≡ net = some_same (sym own.1 ∙ ap (slice_get nets) here ∙ at) in
        subst (λ w. value < 2 ^ w) (sym own.2 ∙ ap (λ (y : ModuleNet). y.width) same) fit.0
    go false e rest = rest

-- a number for each driver, each of which fits
RegistersFit-map : (number : Next → ℕ) (nexts : List Next) → Each (λ (x : Next). number x < 2 ^ x.register.width) nexts → RegistersFit nexts (map number nexts)
RegistersFit-map number [] h = tt
RegistersFit-map number (x ∷ nexts) h = (h.0, RegistersFit-map number nexts h.1)

pub after_fit : TakenFit
after_fit f v kept solves =
    RegistersFit-map (λ (x : Next). slice_index v x.from.number) f.nexts
    (All-from (NextFits (plain_nets f.nets)) (λ (x : Next). slice_index v x.from.number < 2 ^ x.register.width)
    (λ x fits. subst (λ w. slice_index v x.from.number < 2 ^ w) (sym fits.same) (solves.settles.fits x.from.number x.from.width fits.from.declared)) f.nexts kept.registers)

pub reset_fit : ResetsFit
reset_fit f kept =
    RegistersFit-map (λ (x : Next). reset_in f x.register.number) f.nexts
    (All-from (NextFits (plain_nets f.nets)) (λ (x : Next). reset_in f x.register.number < 2 ^ x.register.width)
    (λ x fits.
    let own = net_of_width (plain_nets f.nets) x.register.number x.register.width fits.register.declared in
    let fit : reset_of (own.0).role < 2 ^ (own.0).width = All-at (λ (n : ModuleNet). reset_of n.role < 2 ^ n.width) (plain_nets f.nets) x.register.number own.0 kept.resets own.1 in
    subst (λ value. value < 2 ^ x.register.width) (ap reset_value (sym own.1)) (subst (λ w. reset_of (own.0).role < 2 ^ w) own.2 fit))
    f.nexts kept.registers)

-- each driver's register is a source
pub held_register : (nets : List ModuleNet) (nexts : List Next) → Each (NextFits nets) nexts → Each (λ (x : Next). (net : ModuleNet) × (slice_get nets x.register.number ≡ Some net) × IsSource net.role) nexts
held_register nets nexts fits =
    All-from (NextFits nets) (λ (x : Next). (net : ModuleNet) × (slice_get nets x.register.number ≡ Some net) × IsSource net.role)
    (λ x h. let own = net_of_width nets x.register.number x.register.width h.register.declared in (own.0, own.1, subst IsSource (sym (h.clocked own.0 own.1)) tt)) nexts fits

pub ruleset edges_fit = (reset_fit, after_fit)
