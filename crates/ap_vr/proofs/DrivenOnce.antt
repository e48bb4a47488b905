-- Lines that drive nothing wrongly: what they drive, line by line, may be driven by them and isn't driven before.
use Rattle.std.proofs.Common.{◌≡◌, ◌≢◌, ℕ, zero, suc, ◌+◌, ◌||◌, ◌&&◌, ◌==◌, not, Bool, true, false, cond, List, [], ◌∷◌, ◌++◌, Option, Some, None, option_map, refl, sym, ap, subst, ◌∙◌, arith}
use Rattle.std.specs.List.{AllByRecursion as Each, flat_map}
use Rattle.std.specs.Option.{option_or}
use Rattle.std.specs.Prelude.{slice_get}
use Rattle.std.proofs.lemmas.Bool.{eq-eqb, ne_eqb, not-false, or_from, or_parts}
use Rattle.ap_net.specs.Wiring.{NoneTwice}
use Rattle.ap_net.proofs.Lists.{All-from, All-join}
use Rattle.ap_vr.specs.declared.module.NamedModule.{NamedModule}
use Rattle.ap_vr.specs.declared.nets.NetForm.{NetForm}
use Rattle.ap_vr.specs.Driving.{all_driven, also, also_all, assigns_drive, driven_after, driven_twice_in, drives_wrongly, first_undriven, first_wrong, instances_drive, may_drive, needs_driver, net_line, nexts_drive, none_driven, undriven_in}
use Rattle.ap_vr.specs.Nets.{form_at, net_forms, number_of}
use Rattle.ap_vr.specs.Scope.{assigns_from, instances_from, nexts_from, usable}
use Rattle.ap_vr.proofs.Rules.{neither}

-- the numbers of some lines, one line after another
abbrev pub joined : List (List ℕ) → List ℕ
joined lines = flat_map (λ line. line) lines

-- a line may drive the net of this number
abbrev pub May : List NetForm → Bool → ℕ → Type 0
May forms clocked n = may_drive clocked (form_at forms n).role ≡ true

-- none of the numbers is driven before
abbrev pub AreFree : (ℕ → Bool) → List ℕ → Type 0
AreFree driven [] = Unit {0}
AreFree driven (n ∷ numbers) = (driven n ≡ false) × AreFree (also driven n) numbers

-- what lines drive rightly, after some that is driven
pub record Rightly (forms : List NetForm) (clocked : Bool) (driven : ℕ → Bool) (numbers : List ℕ) : Type 0 where
  pub free : AreFree driven numbers
  pub may : Each (May forms clocked) numbers

pub free-append : (driven : ℕ → Bool) (xs ys : List ℕ) → AreFree driven xs → AreFree (also_all driven xs) ys → AreFree driven (xs ++ ys)
free-append driven [] ys h g = g
free-append driven (x ∷ xs) ys h g = (h.0, free-append (also driven x) xs ys h.1 g)

line_rightly : (forms : List NetForm) (clocked : Bool) (driven : ℕ → Bool) (numbers : List ℕ) → drives_wrongly forms clocked driven numbers ≡ false → Rightly forms clocked driven numbers
line_rightly forms clocked driven [] e = record { free = tt; may = tt }
line_rightly forms clocked driven (n ∷ numbers) e =
    let both = or_parts (driven n || not (may_drive clocked (form_at forms n).role)) (drives_wrongly forms clocked (also driven n) numbers) e in
    let one = or_parts (driven n) (not (may_drive clocked (form_at forms n).role)) both.0 in
    let later = line_rightly forms clocked (also driven n) numbers both.1 in
    record { free = (one.0, later.free); may = (not-false (may_drive clocked (form_at forms n).role) one.1, later.may) }

pub lines_rightly : (forms : List NetForm) (clocked : Bool) (driven : ℕ → Bool) (line : ℕ) (lines : List (List ℕ)) → first_wrong forms clocked driven line lines ≡ None → Rightly forms clocked driven (joined lines)
lines_rightly forms clocked driven line [] e = record { free = tt; may = tt }
lines_rightly forms clocked driven line (numbers ∷ lines) e = go (drives_wrongly forms clocked driven numbers) refl (lines_rightly forms clocked (also_all driven numbers) (line + 1) lines) where
  go : (b : Bool) → drives_wrongly forms clocked driven numbers ≡ b → (first_wrong forms clocked (also_all driven numbers) (line + 1) lines ≡ None → Rightly forms clocked (also_all driven numbers) (joined lines))
      → Rightly forms clocked driven (numbers ++ joined lines)
  go true h later = let no : Some line ≡ None = sym (ap (λ b. cond b (Some line) (first_wrong forms clocked (also_all driven numbers) (line + 1) lines)) h) ∙ e in cc
  go false h later =
      let here = line_rightly forms clocked driven numbers h in
      let rest = later (sym (ap (λ b. cond b (Some line) (first_wrong forms clocked (also_all driven numbers) (line + 1) lines)) h) ∙ e) in
      record { free = free-append driven numbers (joined lines) here.free rest.free; may = All-join (May forms clocked) numbers (joined lines) here.may rest.may }

also-append : (driven : ℕ → Bool) (xs ys : List ℕ) → also_all driven (xs ++ ys) ≡ also_all (also_all driven xs) ys
also-append driven [] ys = refl
also-append driven (x ∷ xs) ys = also-append (also driven x) xs ys

-- what lines drive is what their numbers are
pub driven_joined : (driven : ℕ → Bool) (lines : List (List ℕ)) → driven_after driven lines ≡ also_all driven (joined lines)
driven_joined driven [] = refl
driven_joined driven (line ∷ lines) = driven_joined (also_all driven line) lines ∙ sym (also-append driven line (joined lines))

-- numbers that aren't driven before are no others
also_parts : (driven : ℕ → Bool) (n k : ℕ) → also driven n k ≡ false → (driven k ≡ false) × (k ≢ n)
also_parts driven n k e =
    let both = or_parts (driven k) (k == n) e in
    (both.0, λ same. (let yes : (k == n) ≡ true = eq-eqb k n same in cc))

pub none_before : (driven : ℕ → Bool) (numbers : List ℕ) → AreFree driven numbers → Each (λ n. driven n ≡ false) numbers
none_before driven [] h = tt
none_before driven (n ∷ numbers) h = (h.0, All-from (λ k. also driven n k ≡ false) (λ k. driven k ≡ false) (λ k e. (also_parts driven n k e).0) numbers (none_before (also driven n) numbers h.1))

pub none_twice : (driven : ℕ → Bool) (numbers : List ℕ) → AreFree driven numbers → NoneTwice numbers
none_twice driven [] h = tt
none_twice driven (n ∷ numbers) h = (All-from (λ k. also driven n k ≡ false) (λ k. k ≢ n) (λ k e. (also_parts driven n k e).1) numbers (none_before (also driven n) numbers h.1), none_twice (also driven n) numbers h.1)

-- a number that isn't driven after some is none of them
pub none_of : (driven : ℕ → Bool) (numbers : List ℕ) (k : ℕ) → also_all driven numbers k ≡ false → (driven k ≡ false) × Each (λ n. n ≢ k) numbers
none_of driven [] k e = (e, tt)
none_of driven (n ∷ numbers) k e =
    let later = none_of (also driven n) numbers k e in
    let here = also_parts driven n k later.0 in
    (here.0, ((λ same. here.1 (sym same)), later.1))

-- and back
pub not_driven : (driven : ℕ → Bool) (numbers : List ℕ) (k : ℕ) → driven k ≡ false → Each (λ n. n ≢ k) numbers → also_all driven numbers k ≡ false
not_driven driven [] k e h = e
not_driven driven (n ∷ numbers) k e h = not_driven (also driven n) numbers k (or_from (driven k) (k == n) e (ne_eqb k n (λ same. h.0 (sym same)))) h.1

-- what the lines of a module drive
pub record DrivesRightly (found : List ℕ → Option NamedModule) (m : NamedModule) : Type 0 where
  pub assigns : Rightly (net_forms m) false none_driven (joined (assigns_drive (number_of (usable m)) m))
  pub nexts : Rightly (net_forms m) true (also_all none_driven (joined (assigns_drive (number_of (usable m)) m))) (joined (nexts_drive (number_of (usable m)) m))
  pub instances : Rightly (net_forms m) false (also_all (also_all none_driven (joined (assigns_drive (number_of (usable m)) m))) (joined (nexts_drive (number_of (usable m)) m)))
      (joined (instances_drive found (number_of (usable m)) m))

pub drives_rightly : (found : List ℕ → Option NamedModule) (m : NamedModule) → driven_twice_in found m ≡ None → DrivesRightly found m
unfolding driven_twice_in
drives_rightly found m e =
    let forms = net_forms m in
    let number = number_of (usable m) in
    let a = assigns_drive number m in
    let x = nexts_drive number m in
    let i = instances_drive found number m in
    let two = neither (option_or (first_wrong forms false none_driven (assigns_from m) a) (first_wrong forms true (driven_after none_driven a) (nexts_from m) x))
    (first_wrong forms false (driven_after (driven_after none_driven a) x) (instances_from m) i) e in
    let one = neither (first_wrong forms false none_driven (assigns_from m) a) (first_wrong forms true (driven_after none_driven a) (nexts_from m) x) two.0 in
    record {
      assigns = lines_rightly forms false none_driven (assigns_from m) a one.0;
      nexts = subst (λ d. Rightly forms true d (joined x)) (driven_joined none_driven a) (lines_rightly forms true (driven_after none_driven a) (nexts_from m) x one.1);
      instances =
          subst (λ d. Rightly forms false d (joined i)) (driven_joined (driven_after none_driven a) x ∙ ap (λ d. also_all d (joined x)) (driven_joined none_driven a))
          (lines_rightly forms false (driven_after (driven_after none_driven a) x) (instances_from m) i two.1);
    }

-- a net that needs a driver has one
none_undriven : (driven : ℕ → Bool) (from : ℕ) (forms : List NetForm) (n : ℕ) (f : NetForm) → first_undriven driven from forms ≡ None → slice_get forms n ≡ Some f → needs_driver f.role ≡ true → driven (from + n) ≡ true
none_undriven driven from [] n f e at needs = cc
none_undriven driven from (g ∷ forms) n f e at needs = go (needs_driver g.role && not (driven from)) refl n at (none_undriven driven (from + 1) forms) where
  go : (b : Bool) → (needs_driver g.role && not (driven from)) ≡ b → (k : ℕ) → slice_get (g ∷ forms) k ≡ Some f
      → ((j : ℕ) (f : NetForm) → first_undriven driven (from + 1) forms ≡ None → slice_get forms j ≡ Some f → needs_driver f.role ≡ true → driven ((from + 1) + j) ≡ true) → driven (from + k) ≡ true
  go true h k at later = let no : Some from ≡ None = sym (ap (λ b. cond b (Some from) (first_undriven driven (from + 1) forms)) h) ∙ e in cc
  go false h zero at later =
      let same : g ≡ f = cc in
      let needed : needs_driver g.role ≡ true = ap (λ (x : NetForm). needs_driver x.role) same ∙ needs in
      let undriven : not (driven from) ≡ false = sym (ap (λ b. b && not (driven from)) needed) ∙ h in
      ap driven (let z : from + 0 ≡ from = omega arith in z) ∙ not-false (driven from) undriven
  go false h (suc j) at later =
      ap driven (let z : from + suc j ≡ (from + 1) + j = omega arith in z)
      ∙ later j f (sym (ap (λ b. cond b (Some from) (first_undriven driven (from + 1) forms)) h) ∙ e) at needs

unmapped : (m : NamedModule) (o : Option ℕ) → option_map (net_line m) o ≡ None → o ≡ None
unmapped m None e = refl
unmapped m (Some n) e = cc

pub all_are_driven : (found : List ℕ → Option NamedModule) (m : NamedModule) (n : ℕ) (f : NetForm) → undriven_in found m ≡ None → slice_get (net_forms m) n ≡ Some f → needs_driver f.role ≡ true
    → also_all (also_all (also_all none_driven (joined (assigns_drive (number_of (usable m)) m))) (joined (nexts_drive (number_of (usable m)) m))) (joined (instances_drive found (number_of (usable m)) m)) n ≡ true
unfolding undriven_in
all_are_driven found m n f e at needs =
    let number = number_of (usable m) in
    let a = assigns_drive number m in
    let x = nexts_drive number m in
    let i = instances_drive found number m in
    let same : driven_after (driven_after (driven_after none_driven a) x) i ≡ also_all (also_all (also_all none_driven (joined a)) (joined x)) (joined i) =
    driven_joined (driven_after (driven_after none_driven a) x) i ∙ ap (λ d. also_all d (joined i)) (driven_joined (driven_after none_driven a) x ∙ ap (λ d. also_all d (joined x)) (driven_joined none_driven a)) in
    let driven = none_undriven (all_driven found number m) 0 (net_forms m) n f (unmapped m (first_undriven (all_driven found number m) 0 (net_forms m)) e) at needs in
    sym (ap (λ (d : ℕ → Bool). d n) same) ∙ ap (all_driven found number m) (let z : n ≡ 0 + n = omega arith in z) ∙ driven
