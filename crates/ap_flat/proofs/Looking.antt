-- What drives each net, as ports are looked up one after another.
use Rattle.std.proofs.Common.{◌≡◌, ◌≢◌, ℕ, zero, suc, ◌+◌, ◌<◌, ◌≤◌, Bool, false, List, [], ◌∷◌, ◌++◌, length, get_or, map, set, Some, inl, inr, refl, sym, ap, subst, ◌∙◌, arith}
use Rattle.std.specs.Prelude.{slice_get, codes, if◌then◌else◌}
use Rattle.std.proofs.lemmas.Bool.{cases_eq}
use Rattle.std.proofs.lemmas.List.{length-set, append_cancel_left, append_cancel_right}
use Rattle.std.proofs.lemmas.Option.{slice_get_within}
use Rattle.ap_net.specs.declared.cell.Cell.{Cell}
use Rattle.ap_net.specs.declared.net.Assign.{Assign}
use Rattle.ap_net.specs.declared.net.Port.{Port}
use Rattle.ap_net.specs.declared.net.FlatNet.{FlatNet}
use Rattle.ap_net.specs.declared.net.Role.TheVariants as role
use Rattle.ap_net.specs.Names.{AreDistinct}
use Rattle.ap_net.specs.Modules.{port_net}
use Rattle.ap_net.specs.Wiring.{IsFree, IsSource}
use Rattle.ap_net.specs.Flat.{Flat, IsOpenNetlist, equations, plain_net, plain_nets, top_net}
use Rattle.ap_net.proofs.Lists.{All-at, get_left, some_same}
use Rattle.ap_flat.specs.Dependence.{IsAskedBy, asks_code, asks_memory, Looks, mem_port}
use Rattle.ap_flat.specs.Drivers.{AreDrivers, Drives}
use Rattle.ap_flat.specs.PortNets.{BeginsWithPorts}
use Rattle.ap_flat.specs.declared.driver.Driver.{Driver}
use Rattle.ap_flat.specs.declared.driver.Driver.TheVariants as driver
use Rattle.ap_flat.proofs.NameLists.{get_map}
use Rattle.ap_flat.proofs.Searches.{set_same, set_other}

-- the same name stands at one place
pub one_place : (names : List (List ℕ)) (i j : ℕ) (name : List ℕ) → AreDistinct names → slice_get names i ≡ Some name → slice_get names j ≡ Some name → i ≡ j
one_place [] i j name d a b = absurd cc
one_place (x ∷ names) zero zero name d a b = refl
one_place (x ∷ names) zero (suc j) name d a b = absurd (All-at (λ other. other ≢ x) names j name d.0 b (sym (some_same a)))
one_place (x ∷ names) (suc i) zero name d a b = absurd (All-at (λ other. other ≢ x) names i name d.0 a (sym (some_same b)))
one_place (x ∷ names) (suc i) (suc j) name d a b = ap suc (one_place names i j name d.1 a b)

head_apart : (a : ℕ) → a ≡ 105 → a ≡ 109 → ⊥
head_apart a one other = absurd (omega arith)

no_memory : (name : List ℕ) → codes "idata" ≡ mem_port name (codes "rd") → ⊥
no_memory name e = head_apart (get_or (codes "idata") 0 0) refl (ap (λ (l : List ℕ). get_or l 0 0) e)

one_memory : (a b : List ℕ) → mem_port a (codes "rd") ≡ mem_port b (codes "rd") → a ≡ b
one_memory a b e =
    let left : (codes "m_" ++ a) ++ codes "_" ≡ (codes "m_" ++ b) ++ codes "_" = append_cancel_right ((codes "m_" ++ a) ++ codes "_") ((codes "m_" ++ b) ++ codes "_") (codes "rd") e in
    append_cancel_left (codes "m_") a b (append_cancel_right (codes "m_" ++ a) (codes "m_" ++ b) (codes "_") left)

-- an input is asked by one name
pub asked_once : (a b c d : List ℕ) → IsAskedBy a b → IsAskedBy c d → a ≡ c → b ≡ d
asked_once a b c d asks_code asks_code e = refl
asked_once a b c d asks_code (asks_memory name is) e = absurd (no_memory name e)
asked_once a b c d (asks_memory name is) asks_code e = absurd (no_memory name (sym e))
asked_once a b c d (asks_memory name is) (asks_memory other also) e = ap (λ n. mem_port n (codes "ra")) (one_memory name other e)

-- and by one port
pub looks_once : (ports : List Port) (n m k : ℕ) → AreDistinct (map (λ (p : Port). p.name) ports) → Looks ports n m → Looks ports n k → m ≡ k
looks_once ports n m k distinct a b =
    let input : a.input ≡ b.input = some_same (sym a.at_input ∙ b.at_input) in
    let name : a.output.name ≡ b.output.name = asked_once a.input.name a.output.name b.input.name b.output.name a.asked b.asked (ap (λ (p : Port). p.name) input) in
    one_place (map (λ (p : Port). p.name) ports) m k a.output.name distinct (get_map (λ (p : Port). p.name) ports m a.output a.at_output) (get_map (λ (p : Port). p.name) ports k b.output b.at_output ∙ ap Some (sym name))

-- an input is no net that an equation drives
module _ (ports : List Port) (nets : List FlatNet) (begins : BeginsWithPorts ports nets) where
  port_at : (n : ℕ) (p : Port) → slice_get ports n ≡ Some p → slice_get nets n ≡ Some (top_net (port_net p))
  port_at n p at = ap (λ l. slice_get l n) begins.split ∙ get_left (map (λ (q : Port). top_net (port_net q)) ports) begins.others n (top_net (port_net p)) (get_map (λ (q : Port). top_net (port_net q)) ports n p at)

  pub input_not_free : (n : ℕ) (p : Port) → slice_get ports n ≡ Some p → p.output ≡ false → IsFree (plain_nets nets) n → ⊥
  input_not_free n p at enters free =
      free (plain_net (top_net (port_net p))) (get_map plain_net nets n (top_net (port_net p)) (port_at n p at))
      (subst (λ (b : Bool). IsSource (if b then role.Output else role.Input)) (sym enters) tt)

  pub port_low : (n : ℕ) (p : Port) → slice_get ports n ≡ Some p → n < length nets
  port_low n p at = slice_get_within nets n (top_net (port_net p)) (port_at n p at)

-- so many ports were looked at
pub record AreLooked (f : Flat) (ports : List Port) (k : ℕ) (drivers : List Driver) : Type 0 where
  pub long : length drivers ≡ length f.nets
  pub every : (n : ℕ) (cell : Cell) → Drives (equations f) n cell → slice_get drivers n ≡ Some (driver.Equation cell)
  pub only : (n : ℕ) (cell : Cell) → slice_get drivers n ≡ Some (driver.Equation cell) → Drives (equations f) n cell
  pub looks : (n m : ℕ) → slice_get drivers n ≡ Some (driver.Looks m) → Looks ports n m
  pub looked : (n m : ℕ) → n < k → Looks ports n m → slice_get drivers n ≡ Some (driver.Looks m)

pub skip : (f : Flat) (ports : List Port) (k : ℕ) (drivers : List Driver) → AreLooked f ports k drivers → ((m : ℕ) → Looks ports k m → ⊥) → AreLooked f ports (k + 1) drivers
skip f ports k drivers a none = record {
  long = a.long;
  every = a.every;
  only = a.only;
  looks = a.looks;
  looked = λ n m lt l. elim (cases_eq n k) [
    | inl same ↦ absurd (none m (subst (λ i. Looks ports i m) same l))
    | inr ne ↦ a.looked n m (omega arith) l
  ];
}

looks_same : {m k : ℕ} → driver.Looks m ≡ driver.Looks k → m ≡ k
looks_same e = cc

pub look : (f : Flat) (ports : List Port) (k m : ℕ) (drivers : List Driver) → IsOpenNetlist f → BeginsWithPorts ports f.nets → AreDistinct (map (λ (p : Port). p.name) ports) → AreLooked f ports k drivers → Looks ports k m
    → AreLooked f ports (k + 1) (set drivers k (driver.Looks m))
look f ports k m drivers is begins distinct a l = record {
  long = length-set drivers k (driver.Looks m) ∙ a.long;
  every = λ n cell d. set_other drivers k n (driver.Looks m) (other n cell d) ∙ a.every n cell d;
  only = λ n cell at. elim (cases_eq n k) [
    | inl same ↦ (let wrong : driver.Looks m ≡ driver.Equation cell = some_same (sym here ∙ ap (slice_get (set drivers k (driver.Looks m))) (sym same) ∙ at) in absurd cc)
    | inr ne ↦ a.only n cell (sym (set_other drivers k n (driver.Looks m) ne) ∙ at)
  ];
  looks = λ n j at. elim (cases_eq n k) [
    | inl same ↦ (
        let there : m ≡ j = looks_same (some_same (sym here ∙ ap (slice_get (set drivers k (driver.Looks m))) (sym same) ∙ at)) in
        subst (λ i. Looks ports i j) (sym same) (subst (Looks ports k) there l)
        )
    | inr ne ↦ a.looks n j (sym (set_other drivers k n (driver.Looks m) ne) ∙ at)
  ];
  looked = λ n j lt x. elim (cases_eq n k) [
    | inl same ↦ (
        let one : m ≡ j = looks_once ports k m j distinct l (subst (λ i. Looks ports i j) same x) in
        ap (slice_get (set drivers k (driver.Looks m))) same ∙ here ∙ ap (λ i. Some (driver.Looks i)) one
        )
    | inr ne ↦ set_other drivers k n (driver.Looks m) ne ∙ a.looked n j (omega arith) x
  ];
}
  where
    low : k < length drivers
    low = let within = port_low ports f.nets begins k l.input l.at_input in let long = a.long in omega arith

    here : slice_get (set drivers k (driver.Looks m)) k ≡ Some (driver.Looks m)
    here = set_same drivers k (driver.Looks m) low

    other : (n : ℕ) (cell : Cell) → Drives (equations f) n cell → n ≡ k → ⊥
    other n cell d e =
        let free : IsFree (plain_nets f.nets) d.equation.to.number = All-at (λ (x : Assign). IsFree (plain_nets f.nets) x.to.number) (equations f) d.place d.equation is.flat.free d.among in
        input_not_free ports f.nets begins k l.input l.at_input l.enters (subst (IsFree (plain_nets f.nets)) (d.to ∙ e) free)

pub all_looked : (f : Flat) (ports : List Port) (k : ℕ) (drivers : List Driver) → length ports ≤ k → AreLooked f ports k drivers → AreDrivers f ports drivers
all_looked f ports k drivers all a = record {
  long = a.long;
  every = a.every;
  only = a.only;
  looked = λ n m l. (let within = slice_get_within ports n l.input l.at_input in a.looked n m (omega arith) l);
  looks = a.looks;
}
