-- By which port the outside looks up another.
use Rattle.std.proofs.Common.{◌≡◌, ◌≢◌, ℕ, Bool, true, false, List, ◌++◌, map, Some, refl, sym, ap, subst, ◌∙◌, append_assoc}
use Rattle.std.specs.Prelude.{codes, slice_get}
use Rattle.std.specs.Str.{bytes_eq}
use Rattle.std.proofs.lemmas.Slice.Eq.{bytes_eq-Decides}
use Rattle.ap_bits.specs.Names.{IsName}
use Rattle.ap_net.specs.declared.net.Port.{Port}
use Rattle.ap_net.specs.Names.{AreDistinct, IsNew}
use Rattle.ap_net.proofs.Lists.{All-at, some_same}
use Rattle.ap_flat.specs.Dependence.{IsAskedBy, asks_code, asks_memory, Looks, mem_port}
use Rattle.ap_flat.proofs.Looking.{asked_once, one_place}
use Rattle.ap_flat.proofs.NameLists.{get_map}

-- what a comparison of texts says
pub same_name : (a b : List ℕ) (r : Bool) → r ≡ bytes_eq a b → r ≡ true → a ≡ b
same_name a b r is equal = (bytes_eq-Decides a b).0 (sym is ∙ equal)

pub other_name : (a b : List ℕ) (r : Bool) → r ≡ bytes_eq a b → r ≡ false → a ≡ b → ⊥
other_name a b r is differs same = let both : true ≡ false = sym ((bytes_eq-Decides a b).1 same) ∙ sym is ∙ differs in cc

mem_text : (name : List ℕ) → mem_port name (codes "rd") ≡ codes "m_" ++ name ++ codes "_rd"
mem_text name = append_assoc (codes "m_" ++ name) (codes "_") (codes "rd")

pub no_ask : (name : List ℕ) → (name ≡ codes "idata" → ⊥) → ((middle : List ℕ) → IsName middle → name ≢ codes "m_" ++ middle ++ codes "_rd") → (asking : List ℕ) → IsAskedBy name asking → ⊥
no_ask name no_code no_memory asking asks_code = no_code refl
no_ask name no_code no_memory asking (asks_memory middle is) = no_memory middle is (mem_text middle)

pub ask_code : (name asking : List ℕ) → name ≡ codes "idata" → asking ≡ codes "iaddr" → IsAskedBy name asking
ask_code name asking a b = subst (λ n. IsAskedBy n asking) (sym a) (subst (IsAskedBy (codes "idata")) (sym b) asks_code)

pub ask_memory : (name asking middle : List ℕ) → IsName middle → name ≡ codes "m_" ++ middle ++ codes "_rd" → asking ≡ codes "m_" ++ middle ++ codes "_ra" → IsAskedBy name asking
ask_memory name asking middle is a b =
    subst (λ n. IsAskedBy n asking) (mem_text middle ∙ sym a)
    (subst (IsAskedBy (mem_port middle (codes "rd"))) (append_assoc (codes "m_" ++ middle) (codes "_") (codes "ra") ∙ sym b) (asks_memory middle is))

module _ (ports : List Port) (n : ℕ) (p : Port) (at : slice_get ports n ≡ Some p) where
  input_is : (m : ℕ) (l : Looks ports n m) → l.input ≡ p
  input_is m l = some_same (sym l.at_input ∙ at)

  module _ (asking : List ℕ) (asked : IsAskedBy p.name asking) where
    output_name : (m : ℕ) (l : Looks ports n m) → l.output.name ≡ asking
    output_name m l = asked_once l.input.name l.output.name p.name asking l.asked asked (ap (λ (x : Port). x.name) (input_is m l))

    place_of_output : (m : ℕ) (l : Looks ports n m) → slice_get (map (λ (x : Port). x.name) ports) m ≡ Some asking
    place_of_output m l = get_map (λ (x : Port). x.name) ports m l.output l.at_output ∙ ap Some (output_name m l)

    pub none_placed : IsNew asking (map (λ (x : Port). x.name) ports) → (m : ℕ) → Looks ports n m → ⊥
    none_placed new m l = All-at (λ other. other ≢ asking) (map (λ (x : Port). x.name) ports) m asking new (place_of_output m l) refl

    module _ (place : ℕ) (q : Port) (named : slice_get (map (λ (x : Port). x.name) ports) place ≡ Some asking) (there : slice_get ports place ≡ Some q) where
      pub none_is_output : AreDistinct (map (λ (x : Port). x.name) ports) → q.output ≡ false → (m : ℕ) → Looks ports n m → ⊥
      none_is_output distinct enters m l =
          let same : m ≡ place = one_place (map (λ (x : Port). x.name) ports) m place asking distinct (place_of_output m l) named in
          let port : l.output ≡ q = some_same (sym l.at_output ∙ ap (slice_get ports) same ∙ there) in
          let both : true ≡ false = sym l.leaves ∙ ap (λ (x : Port). x.output) port ∙ enters in
          cc

      pub looks_there : p.output ≡ false → q.output ≡ true → Looks ports n place
      looks_there enters leaves =
          let name : q.name ≡ asking = some_same (sym (get_map (λ (x : Port). x.name) ports place q there) ∙ named) in
          record { input = p; output = q; at_input = at; at_output = there; enters = enters; leaves = leaves; asked = subst (IsAskedBy p.name) (sym name) asked }
