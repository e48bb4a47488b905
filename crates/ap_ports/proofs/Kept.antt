-- What is kept of an instruction's locals is what its operands come from.
use Rattle.std.proofs.Common.{◌≡◌, ℕ, ◌+◌, ◌<◌, ◌≤◌, Bool, true, false, List, [], ◌∷◌, length, get_or, Some, inl, inr, refl, sym, subst, ap, ◌∙◌, arith, eqb-true, eq-eqb}
use Rattle.std.specs.Prelude.{◌⊎◌, ◌==◌, Any, IsTrue, slice_get, if◌then◌else◌}
use Rattle.std.specs.Int.{bit_at}
use Rattle.std.specs.List.{AllByRecursion as Each}
use Rattle.std.proofs.lemmas.Bool.{cases_order}
use Rattle.std.proofs.lemmas.Nat.Bits.{bit_at-zero}
use Rattle.std.proofs.lemmas.Option.{same_Some, slice_get-get_or}
use Rattle.ap_desc.proofs.DesignLaws.{behind_reaches, behind_wired, local_maker, reaches_behind, wired_behind}
use Rattle.ap_desc.specs.Chains.{IsWiredFrom, Reaches, is_wiring, makers, operands_of}
use Rattle.ap_desc.specs.StageFaults.{ReachesUnstable, is_unstable}
use Rattle.ap_desc.specs.declared.design.Arg.{Arg}
use Rattle.ap_desc.specs.declared.design.Arg.TheVariants as arg
use Rattle.ap_desc.specs.declared.design.Design.{Design}
use Rattle.ap_desc.specs.declared.design.Instr.{Instr}
use Rattle.ap_desc.specs.declared.design.Micro.{Micro}
use Rattle.ap_ports.specs.Flow.{AreKept, ComesFromNode, IsKept, IsLocalOf, IsTaken, MayChange, Some_of, TakesNode, TakesShaky, nodes_at, shaky_at}
use Rattle.ap_ports.specs.Numbers.{node_number}
use Rattle.ap_ports.specs.Ways.{Has}
use Rattle.ap_ports.specs.declared.flow.Locals.{Locals}
use Rattle.ap_ports.proofs.Holding.{any_holds, holds_any, holds_each}

-- an operand of the line comes by wiring from a line that uses the node of this number
abbrev pub TakesNumber : Instr → Micro → ℕ → Type 0
TakesNumber instr m n = (source : Micro) × (node_number source.act ≡ Some n) × Some_of (λ a. IsWiredFrom instr m.stage a source) (operands_of m.act)

pub nothing_has : (n : ℕ) → Has 0 n → ⊥
nothing_has n has = let wrong : bit_at 0 n ≡ 1 = has in let none = bit_at-zero n in omega arith

node_out : (instr : Instr) (stage n : ℕ) (xs : List Arg) → Some_of (λ a. ComesFromNode instr stage a n) xs → (source : Micro) × (node_number source.act ≡ Some n) × Some_of (λ a. IsWiredFrom instr stage a source) xs
node_out instr stage n [] h = absurd h
node_out instr stage n (x ∷ xs) (inl (source, number, wired)) = (source, number, inl wired)
node_out instr stage n (x ∷ xs) (inr h) = let (source, number, some) = node_out instr stage n xs h in (source, number, inr some)

node_in : (instr : Instr) (stage n : ℕ) (source : Micro) (xs : List Arg) → node_number source.act ≡ Some n → Some_of (λ a. IsWiredFrom instr stage a source) xs → Some_of (λ a. ComesFromNode instr stage a n) xs
node_in instr stage n source [] number h = h
node_in instr stage n source (x ∷ xs) number (inl wired) = inl (source, number, wired)
node_in instr stage n source (x ∷ xs) number (inr h) = inr (node_in instr stage n source xs number h)

shaky_out : (design : Design) (instr : Instr) (stage : ℕ) (xs : List Arg) → Some_of (MayChange design instr stage) xs → (source : Micro) × Some_of (λ a. Reaches instr stage a source) xs × IsTrue (is_unstable design source.act)
shaky_out design instr stage [] h = absurd h
shaky_out design instr stage (x ∷ xs) (inl (source, reaches, unstable)) = (source, inl reaches, unstable)
shaky_out design instr stage (x ∷ xs) (inr h) = let (source, some, unstable) = shaky_out design instr stage xs h in (source, inr some, unstable)

shaky_in : (design : Design) (instr : Instr) (stage : ℕ) (source : Micro) (xs : List Arg) → IsTrue (is_unstable design source.act) → Some_of (λ a. Reaches instr stage a source) xs → Some_of (MayChange design instr stage) xs
shaky_in design instr stage source [] unstable h = h
shaky_in design instr stage source (x ∷ xs) unstable (inl reaches) = inl (source, reaches, unstable)
shaky_in design instr stage source (x ∷ xs) unstable (inr h) = inr (shaky_in design instr stage source xs unstable h)

-- the maker of a local in a stage is the line of its place
made_at : (instr : Instr) (stage i : ℕ) (m source : Micro) → slice_get (makers instr) i ≡ Some m → IsWiredFrom instr stage (arg.Local i) source → m.stage ≡ stage
made_at instr stage i m source at wired =
    let (x, made, rest) = wired_behind instr stage source (arg.Local i) wired in
    let parts = (local_maker instr stage i x).0 made in
    ap (λ (y : Micro). y.stage) (same_Some m x (sym at ∙ parts.0)) ∙ parts.1

reached_at : (instr : Instr) (stage i : ℕ) (m source : Micro) → slice_get (makers instr) i ≡ Some m → Reaches instr stage (arg.Local i) source → m.stage ≡ stage
reached_at instr stage i m source at reaches =
    let (x, made, rest) = reaches_behind instr stage source (arg.Local i) reaches in
    let parts = (local_maker instr stage i x).0 made in
    ap (λ (y : Micro). y.stage) (same_Some m x (sym at ∙ parts.0)) ∙ parts.1

module _ (design : Design) (instr : Instr) (count : ℕ) (locals : Locals) (kept : AreKept design instr count locals) (enough : count ≤ length (makers instr)) (d : Micro) where
  local_there : (stage i n : ℕ) → i < count → Has (nodes_at locals stage (Some (arg.Local i))) n → ComesFromNode instr stage (arg.Local i) n
  local_there stage i n low has = go (slice_get-get_or (makers instr) i d (omega arith)) (get_or locals.stages i 0 == stage) refl has where
    go : slice_get (makers instr) i ≡ Some (get_or (makers instr) i d) → (b : Bool) → (get_or locals.stages i 0 == stage) ≡ b → Has (if b then get_or locals.nodes i 0 else 0) n → ComesFromNode instr stage (arg.Local i) n
    go at true e has =
        let k = kept.1 i (get_or (makers instr) i d) low at in
        subst (λ s. ComesFromNode instr s (arg.Local i) n) (sym k.stage ∙ eqb-true (get_or locals.stages i 0) stage e) ((k.node n).0 has)
    go at false e has = absurd (nothing_has n has)

  local_back : (stage i n : ℕ) → i < count → ComesFromNode instr stage (arg.Local i) n → Has (nodes_at locals stage (Some (arg.Local i))) n
  local_back stage i n low (source, number, wired) =
      let at : slice_get (makers instr) i ≡ Some (get_or (makers instr) i d) = slice_get-get_or (makers instr) i d (omega arith) in
      let k = kept.1 i (get_or (makers instr) i d) low at in
      let same = made_at instr stage i (get_or (makers instr) i d) source at wired in
      let test : (get_or locals.stages i 0 == stage) ≡ true = eq-eqb (get_or locals.stages i 0) stage (k.stage ∙ same) in
      subst (λ b. Has (if b then get_or locals.nodes i 0 else 0) n) (sym test)
      ((k.node n).1 (source, number, subst (λ s. IsWiredFrom instr s (arg.Local i) source) (sym same) wired))

  operand_there : (stage n : ℕ) (a : Arg) → IsLocalOf count a → Has (nodes_at locals stage (Some a)) n → ComesFromNode instr stage a n
  operand_there stage n (arg.Local i) low has = local_there stage i n low has
  operand_there stage n _ low has = absurd (nothing_has n has)

  operand_back : (stage n : ℕ) (a : Arg) → IsLocalOf count a → ComesFromNode instr stage a n → Has (nodes_at locals stage (Some a)) n
  operand_back stage n (arg.Local i) low comes = local_back stage i n low comes
  operand_back stage n (arg.Field i) low (source, number, wired) = let (x, made, rest) = wired_behind instr stage source (arg.Field i) wired in absurd cc
  operand_back stage n arg.Pc low (source, number, wired) = let (x, made, rest) = wired_behind instr stage source arg.Pc wired in absurd cc
  operand_back stage n arg.Link low (source, number, wired) = let (x, made, rest) = wired_behind instr stage source arg.Link wired in absurd cc

  shaky_there : (stage i : ℕ) → i < count → shaky_at locals stage (Some (arg.Local i)) ≡ true → MayChange design instr stage (arg.Local i)
  shaky_there stage i low shaky = go (slice_get-get_or (makers instr) i d (omega arith)) (get_or locals.stages i 0 == stage) refl shaky where
    go : slice_get (makers instr) i ≡ Some (get_or (makers instr) i d) → (b : Bool) → (get_or locals.stages i 0 == stage) ≡ b → (if b then get_or locals.unstable i false else false) ≡ true → MayChange design instr stage (arg.Local i)
    go at true e shaky =
        let k = kept.1 i (get_or (makers instr) i d) low at in
        subst (λ s. MayChange design instr s (arg.Local i)) (sym k.stage ∙ eqb-true (get_or locals.stages i 0) stage e) (k.shaky.0 shaky)
    go at false e shaky = absurd cc

  shaky_back : (stage i : ℕ) → i < count → MayChange design instr stage (arg.Local i) → shaky_at locals stage (Some (arg.Local i)) ≡ true
  shaky_back stage i low (source, reaches, unstable) =
      let at : slice_get (makers instr) i ≡ Some (get_or (makers instr) i d) = slice_get-get_or (makers instr) i d (omega arith) in
      let k = kept.1 i (get_or (makers instr) i d) low at in
      let same = reached_at instr stage i (get_or (makers instr) i d) source at reaches in
      let test : (get_or locals.stages i 0 == stage) ≡ true = eq-eqb (get_or locals.stages i 0) stage (k.stage ∙ same) in
      subst (λ b. (if b then get_or locals.unstable i false else false) ≡ true) (sym test)
      (k.shaky.1 (source, subst (λ s. Reaches instr s (arg.Local i) source) (sym same) reaches, unstable))

  unsteady_there : (stage : ℕ) (a : Arg) → IsLocalOf count a → shaky_at locals stage (Some a) ≡ true → MayChange design instr stage a
  unsteady_there stage (arg.Local i) low shaky = shaky_there stage i low shaky
  unsteady_there stage _ low shaky = absurd cc

  unsteady_back : (stage : ℕ) (a : Arg) → IsLocalOf count a → MayChange design instr stage a → shaky_at locals stage (Some a) ≡ true
  unsteady_back stage (arg.Local i) low may = shaky_back stage i low may
  unsteady_back stage (arg.Field i) low (source, reaches, unstable) = let (x, made, rest) = reaches_behind instr stage source (arg.Field i) reaches in absurd cc
  unsteady_back stage arg.Pc low (source, reaches, unstable) = let (x, made, rest) = reaches_behind instr stage source arg.Pc reaches in absurd cc
  unsteady_back stage arg.Link low (source, reaches, unstable) = let (x, made, rest) = reaches_behind instr stage source arg.Link reaches in absurd cc

  -- of a line whose operands are such locals
  module _ (m : Micro) (operands : Each (IsLocalOf count) (operands_of m.act)) where
    pub takes_there : (n : ℕ) → TakesNode locals m n → TakesNumber instr m n
    takes_there n h =
        node_out instr m.stage n (operands_of m.act)
        (holds_each (λ a. Has (nodes_at locals m.stage (Some a)) n) (λ a. ComesFromNode instr m.stage a n) (IsLocalOf count) (operand_there m.stage n) (operands_of m.act) operands h)

    pub takes_back : (n : ℕ) → TakesNumber instr m n → TakesNode locals m n
    takes_back n (source, number, some) =
        holds_each (λ a. ComesFromNode instr m.stage a n) (λ a. Has (nodes_at locals m.stage (Some a)) n) (IsLocalOf count) (operand_back m.stage n) (operands_of m.act) operands
        (node_in instr m.stage n source (operands_of m.act) number some)

    pub shaky_reaches : TakesShaky locals m → ReachesUnstable design instr m.stage m.act
    shaky_reaches h =
        holds_any (MayChange design instr m.stage) (operands_of m.act)
        (holds_each (λ a. shaky_at locals m.stage (Some a) ≡ true) (MayChange design instr m.stage) (IsLocalOf count) (unsteady_there m.stage) (operands_of m.act) operands h)

    pub reaches_shaky : ReachesUnstable design instr m.stage m.act → TakesShaky locals m
    reaches_shaky h =
        holds_each (MayChange design instr m.stage) (λ a. shaky_at locals m.stage (Some a) ≡ true) (IsLocalOf count) (unsteady_back m.stage) (operands_of m.act) operands
        (any_holds (MayChange design instr m.stage) (operands_of m.act) h)

    -- the line's local is kept with those before it
    module _ (at : slice_get (makers instr) count ≡ Some m) (new : Locals) (taken : IsTaken design m locals new) where
      new_there : (n : ℕ) → (node_number m.act ≡ Some n) ⊎ (IsTrue (is_wiring m.act) × TakesNode locals m n) → ComesFromNode instr m.stage (arg.Local count) n
      new_there n (inl uses) = (m, uses, behind_wired instr m.stage m (arg.Local count) (m, (local_maker instr m.stage count m).1 (at, refl), inl refl))
      new_there n (inr (wires, takes)) =
          let (source, number, some) = takes_there n takes in (
            source,
            number,
            behind_wired instr m.stage source (arg.Local count)
                (m, (local_maker instr m.stage count m).1 (at, refl), inr (wires, holds_any (λ b. IsWiredFrom instr m.stage b source) (operands_of m.act) some)),
          )

      new_back : (n : ℕ) → ComesFromNode instr m.stage (arg.Local count) n → (node_number m.act ≡ Some n) ⊎ (IsTrue (is_wiring m.act) × TakesNode locals m n)
      new_back n (source, number, wired) =
          let (x, made, rest) = wired_behind instr m.stage source (arg.Local count) wired in
          let same : x ≡ m = same_Some x m (sym ((local_maker instr m.stage count x).0 made).0 ∙ at) in
          elim rest [
            | inl is ↦ inl (ap (λ (y : Micro). node_number y.act) (sym same ∙ is) ∙ number)
            | inr (wires, any) ↦ inr (
              ap (λ (y : Micro). is_wiring y.act) (sym same) ∙ wires,
              takes_back n (source, number, any_holds (λ b. IsWiredFrom instr m.stage b source) (operands_of m.act) (subst (λ (y : Micro). Any (λ b. IsWiredFrom instr m.stage b source) (operands_of y.act)) same any)),
            )
          ]

      fresh_there : IsTrue (is_unstable design m.act) ⊎ TakesShaky locals m → MayChange design instr m.stage (arg.Local count)
      fresh_there (inl unstable) = (m, behind_reaches instr m.stage m (arg.Local count) (m, (local_maker instr m.stage count m).1 (at, refl), inl refl), unstable)
      fresh_there (inr takes) =
          let some = holds_each (λ a. shaky_at locals m.stage (Some a) ≡ true) (MayChange design instr m.stage) (IsLocalOf count) (unsteady_there m.stage) (operands_of m.act) operands takes in
          let (source, reaches, unstable) = shaky_out design instr m.stage (operands_of m.act) some in (
            source,
            behind_reaches instr m.stage source (arg.Local count)
                (m, (local_maker instr m.stage count m).1 (at, refl), inr (holds_any (λ b. Reaches instr m.stage b source) (operands_of m.act) reaches)),
            unstable,
          )

      fresh_back : MayChange design instr m.stage (arg.Local count) → IsTrue (is_unstable design m.act) ⊎ TakesShaky locals m
      fresh_back (source, reaches, unstable) =
          let (x, made, rest) = reaches_behind instr m.stage source (arg.Local count) reaches in
          let same : x ≡ m = same_Some x m (sym ((local_maker instr m.stage count x).0 made).0 ∙ at) in
          elim rest [
            | inl is ↦ inl (ap (λ (y : Micro). is_unstable design y.act) (sym same ∙ is) ∙ unstable)
            | inr any ↦ inr (holds_each (MayChange design instr m.stage) (λ a. shaky_at locals m.stage (Some a) ≡ true) (IsLocalOf count) (unsteady_back m.stage) (operands_of m.act) operands
                (shaky_in design instr m.stage source (operands_of m.act) unstable
                (any_holds (λ b. Reaches instr m.stage b source) (operands_of m.act) (subst (λ (y : Micro). Any (λ b. Reaches instr m.stage b source) (operands_of y.act)) same any))))
          ]

      last_kept : IsKept design instr count m new
      last_kept =
          let c : locals.count ≡ count = kept.0 in
          record {
            stage = ap (λ i. get_or new.stages i 0) (sym c) ∙ taken.stage;
            node = λ n. (
              λ has. new_there n ((taken.node n).0 (subst (λ i. Has (get_or new.nodes i 0) n) (sym c) has)),
              λ comes. subst (λ i. Has (get_or new.nodes i 0) n) c ((taken.node n).1 (new_back n comes)),
            );
            shaky = (
              λ shaky. fresh_there (taken.shaky.0 (ap (λ i. get_or new.unstable i false) c ∙ shaky)),
              λ may. ap (λ i. get_or new.unstable i false) (sym c) ∙ taken.shaky.1 (fresh_back may),
            );
          }

      old_kept : (i : ℕ) (x : Micro) → i < count → slice_get (makers instr) i ≡ Some x → IsKept design instr i x new
      old_kept i x low there =
          let k = kept.1 i x low there in
          let less : i < locals.count = omega (arith, kept.0) in
          record {
            stage = taken.stages i less ∙ k.stage;
            node = λ n. (
              λ has. (k.node n).0 (subst (λ s. Has s n) (taken.nodes i less) has),
              λ comes. subst (λ s. Has s n) (sym (taken.nodes i less)) ((k.node n).1 comes),
            );
            shaky = (
              λ shaky. k.shaky.0 (sym (taken.others i less) ∙ shaky),
              λ may. taken.others i less ∙ k.shaky.1 may,
            );
          }

      pub kept_more : AreKept design instr (count + 1) new
      kept_more = (taken.count ∙ ap (λ n. n + 1) kept.0, each) where
        each : (i : ℕ) (x : Micro) → i < count + 1 → slice_get (makers instr) i ≡ Some x → IsKept design instr i x new
        each i x low there = elim (cases_order i count) [
          | inl same ↦
              let is : m ≡ x = same_Some m x (sym at ∙ ap (slice_get (makers instr)) (sym same) ∙ there) in
              subst (λ y. IsKept design instr i y new) is (subst (λ k. IsKept design instr k m new) (sym same) last_kept)
          | inr (inl less) ↦ old_kept i x less there
          | inr (inr more) ↦ absurd (omega arith)
        ]

pub kept_none : (design : Design) (instr : Instr) (locals : Locals) → locals.count ≡ 0 → AreKept design instr 0 locals
kept_none design instr locals none = (none, λ i m low. absurd (omega arith))
