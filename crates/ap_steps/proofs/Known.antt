-- There are no other inputs and registers than those that are known.
use Rattle.std.proofs.Common.{◌≡◌, ℕ, suc, ◌+◌, ◌<◌, ◌≤◌, Bool, true, false, List, [], ◌∷◌, ◌++◌, length, Some, None, ◌⊎◌, inl, inr, ⊎_elim, refl, sym, ap, subst, ◌∙◌, arith, eq-eqb, append-nil}
use Rattle.std.specs.Prelude.{if◌then◌else◌, ◌==◌, slice_get}
use Rattle.std.specs.List.{cons_option}
use Rattle.std.proofs.lemmas.Bool.Decides.{Decides-eqb}
use Rattle.std.proofs.lemmas.List.Elements.{filter_map-append}
use Rattle.std.proofs.lemmas.Bool.{cases_lt}
use Rattle.std.proofs.lemmas.Option.{slice_get_within}
use Rattle.ap_net.specs.declared.cell.Wire.{Wire}
use Rattle.ap_net.specs.declared.net.ModuleNet.{ModuleNet}
use Rattle.ap_net.specs.declared.net.RegNet.{RegNet}
use Rattle.ap_net.specs.declared.net.Role.{Role}
use Rattle.ap_net.specs.declared.net.Role.TheVariants as role
use Rattle.ap_net.specs.Draft.{Draft, IsKept}
use Rattle.ap_net.specs.Modules.{reg_by, regs_among}
use Rattle.ap_net.specs.Pending.{Among}
use Rattle.ap_net.specs.Ready.{Dependence, Ready, numbers, ready, source}
use Rattle.ap_net.specs.Wiring.{IsSource}
use Rattle.ap_net.proofs.Feeding.{unique}
use Rattle.ap_net.proofs.Growing.{stays}
use Rattle.ap_net.proofs.Lists.{get_right}
use Rattle.ap_steps.specs.Known.{AgreesAtKnown, IsKnown, KnownRegistersStay, SourcesAreKnown}

among_or_not : (xs : List ℕ) (n : ℕ) → Among xs n ⊎ (Among xs n → ⊥)
among_or_not [] n = inr (λ h. h)
among_or_not (x ∷ xs) n = by (x == n) refl (among_or_not xs n)
  where
    by : (b : Bool) → (x == n) ≡ b → Among xs n ⊎ (Among xs n → ⊥) → Among (x ∷ xs) n ⊎ (Among (x ∷ xs) n → ⊥)
    by true e rest = inl (inl ((Decides-eqb x n).0 e))
    by false e (inl h) = inl (inr h)
    by false e (inr not) = inr (λ h. ⊎_elim (λ same. let yes : (x == n) ≡ true = eq-eqb x n same in let wrong = sym yes ∙ e in cc) not h)

known_or_not : (count : ℕ) (registers : List Wire) (n : ℕ) → IsKnown count registers n ⊎ (IsKnown count registers n → ⊥)
known_or_not count registers n = ⊎_elim (λ low. inl (inl low)) (λ high. ⊎_elim (λ h. inl (inr h)) (λ not. inr (λ known. ⊎_elim (λ low. omega (arith, low, high)) not known)) (among_or_not (numbers registers) n)) (cases_lt n count)

-- an outside that looks for one net at this net itself
abbrev looks_at_itself : Dependence → ℕ → Dependence
looks_at_itself by n = record { looks = λ k. if k == n then n ∷ [] else by.looks k; needs = by.needs }

elsewhere : (b : Bool) (xs ys : List ℕ) → (b ≡ true → ⊥) → (if b then xs else ys) ≡ ys
elsewhere true xs ys not = absurd (not refl)
elsewhere false xs ys not = refl

there : (b : Bool) (xs ys : List ℕ) → b ≡ true → (if b then xs else ys) ≡ xs
there true xs ys e = refl
there false xs ys e = cc

agrees : (count : ℕ) (registers : List Wire) (by : Dependence) (n : ℕ) → (IsKnown count registers n → ⊥) → AgreesAtKnown count registers by (looks_at_itself by n)
agrees count registers by n not = record {
  looks = λ k known. elsewhere (k == n) (n ∷ []) (by.looks k) (λ e. not (subst (IsKnown count registers) ((Decides-eqb k n).0 e) known));
  needs = refl;
}

-- a source for which the outside looks at it itself is never ready
never : (by : Dependence) (d : Draft) (n : ℕ) (net : ModuleNet) → IsKept d → slice_get d.nets n ≡ Some net → IsSource net.role → by.looks n ≡ n ∷ [] → Ready by d n → ⊥
never by d n net kept at is looks (ready from feeds each) =
    let same : from ≡ n ∷ [] = unique by d kept.wired kept.connected n from (n ∷ []) feeds (source net at is (sym looks)) in
    never by d n net kept at is looks (each 0 n (ap (λ (l : List ℕ). slice_get l 0) same))

within : (nets : List ModuleNet) (k : ℕ) (net : ModuleNet) → slice_get nets k ≡ Some net → k < length nets
within nets k net at = slice_get_within nets k net at

pub sources_are_known : SourcesAreKnown
sources_are_known count registers by d kept all n net at is =
    ⊎_elim (λ known. known)
    (λ not. absurd (never (looks_at_itself by n) d n net kept at is (there (n == n) (n ∷ []) (by.looks n) (eq-eqb n n refl)) (all (looks_at_itself by n) (agrees count registers by n not) n (within d.nets n net at))))
    (known_or_not count registers n)

-- No register among these.

no_register : (r : Role) (net : ModuleNet) → (IsSource r → ⊥) → reg_by r net ≡ None
no_register role.Input net not = refl
no_register role.Output net not = refl
no_register role.Plain net not = refl
no_register (role.Register reset) net not = absurd (not tt)

no_registers : (nets : List ModuleNet) → ((k : ℕ) (net : ModuleNet) → slice_get nets k ≡ Some net → IsSource net.role → ⊥) → regs_among nets ≡ []
no_registers [] h = refl
no_registers (net ∷ nets) h = ap (λ o. cons_option o (regs_among nets)) (no_register net.role net (h 0 net refl)) ∙ no_registers nets (λ k x at is. h (suc k) x at is)

pub known_registers_stay : KnownRegistersStay
known_registers_stay count registers by a b d kept all first second not =
    let more : List ModuleNet = first.nets.0 in
    let grown : b.nets ≡ a.nets ++ more = first.nets.1 in
    let none : regs_among more ≡ [] = no_registers more (λ k net at is.
    let n : ℕ = length a.nets + k in
    let here : slice_get b.nets n ≡ Some net = ap (λ (l : List ModuleNet). slice_get l n) grown ∙ get_right a.nets more k ∙ at in
    let last : slice_get d.nets n ≡ Some net = stays b.nets d.nets second.nets n net here in
    let low : length a.nets ≤ n = omega arith in
    not n low (within b.nets n net here) (sources_are_known count registers by d kept all n net last is)) in
    ap regs_among grown ∙ filter_map-append (λ (net : ModuleNet). reg_by net.role net) a.nets more ∙ ap (λ (l : List RegNet). regs_among a.nets ++ l) none ∙ append-nil (regs_among a.nets)
