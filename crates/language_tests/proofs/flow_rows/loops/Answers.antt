use Rattle.std.proofs.Common.{◌≡◌, ℕ, zero, suc, refl, lit<, [], ◌∷◌, true, false, Some, sym, ap, subst, arith, inl, inr}
use Rattle.std.specs.Prelude.{◌==◌, ◌&&◌, ◌||◌, not, nat_lt, Bool, List, Contains, slice_get}
use Rattle.std.specs.Option.{option_map_or}
use Rattle.std.proofs.lemmas.Bool.{and_parts, or_cases, eqb-true}
use Rattle.ap_desc.proofs.Behind.{contained_passes, edge_passes, none_closes, unlooped}
use Rattle.ap_desc.proofs.FlowFacts.{both_closes, rank}
use Rattle.ap_desc.specs.Chains.{IsNodeOf, node_of}
use Rattle.ap_desc.specs.FlowExamples.{flow_design, two_units, two_steps}
use Rattle.ap_desc.specs.Ports.{micros_in}
use Rattle.ap_desc.specs.declared.design.Design.{Design}
use Rattle.ap_desc.specs.declared.design.Micro.{Micro}
use Rattle.ap_desc.specs.declared.design.Arg.TheVariants as arg
use Rattle.ap_desc.specs.declared.design.Act.TheVariants as act
use Rattle.ap_desc.specs.declared.design.Node.{Node}
use Rattle.ap_desc.specs.declared.design.Node.TheVariants as node
use Rattle.language_tests.proofs.flow_rows.loops.Goals as goal

abbrev one : Design
one = flow_design (two_units 30 0 1 ∷ [])

pub returns-clause-closes : goal.returns-clause-closes
returns-clause-closes c = (2, both_closes)

pub returns-clause-closes_right : goal.returns-clause-closes_right
returns-clause-closes_right c = none_closes 8 rank one refl

pub returns-clause-own_loop : goal.returns-clause-own_loop
returns-clause-own_loop c =
    let again : Micro = record { line = 23; stage = 2; act = act.Compute 0 0 (arg.Local 1) (arg.Local 0) } in (
      2,
      record {
        micro = again;
        is_line = (2, lit< tt, refl);
        at = refl;
        in_stage = refl;
        closed = (
          node.Unit 0,
          [],
          (
            record {
              instr = two_steps 0;
              is_instr = (1, lit< tt, refl);
              user = again;
              is_line = (2, lit< tt, refl);
              in_stage = refl;
              counted = refl;
              uses = refl;
              source = record { line = 22; stage = 2; act = act.Compute 0 0 (arg.Local 0) (arg.Local 0) };
              uses_from = refl;
              wired = (0, arg.Local 1, lit< tt, refl, ([], tt, refl));
            },
            tt,
          ),
        );
        open_before = unlooped 8 (λ n. nat_lt n 23) rank (flow_design (two_steps 0 ∷ [])) refl 2;
      },
    )

abbrev is_unit : ℕ → Node → Bool
is_unit n (node.Unit u) = u == n
is_unit n _ = false

unit_is : (n : ℕ) (x : Node) → is_unit n x ≡ true → x ≡ node.Unit n
unit_is n (node.Unit u) e = ap node.Unit (eqb-true u n e)
unit_is n (node.FileRead f p) e = absurd cc
unit_is n (node.MemRead m) e = absurd cc

-- a node of stage 2 is one of the two units
abbrev node_passes : Micro → Bool
node_passes m = not (m.stage == 2) || option_map_or (λ x. is_unit 0 x || is_unit 1 x) (node_of m.act) true

contained : (x : Node) → (is_unit 0 x || is_unit 1 x) ≡ true → Contains (node.Unit 0 ∷ node.Unit 1 ∷ []) x
contained x e = elim (or_cases (is_unit 0 x) (is_unit 1 x) e) [
  | inl h ↦ let is : x ≡ node.Unit 0 = unit_is 0 x h in (0, lit< tt, sym is)
  | inr h ↦ let is : x ≡ node.Unit 1 = unit_is 1 x h in (1, lit< tt, sym is)
]

is_listed : (x : Node) → IsNodeOf one 2 x → Contains (node.Unit 0 ∷ node.Unit 1 ∷ []) x
is_listed x (k, m, low, at, (in_stage, uses)) =
    let passes = contained_passes node_passes (micros_in one) m refl (k, low, at) in
    contained x (rw uses at (rw in_stage at passes))

is_used : (x : Node) → Contains (node.Unit 0 ∷ node.Unit 1 ∷ []) x → IsNodeOf one 2 x
is_used x (zero, low, at) = subst (IsNodeOf one 2) at (2, record { line = 33; stage = 2; act = act.Compute 0 0 (arg.Local 0) (arg.Local 1) }, lit< tt, refl, (refl, refl))
is_used x (suc zero, low, at) = subst (IsNodeOf one 2) at (5, record { line = 36; stage = 2; act = act.Compute 1 0 (arg.Local 4) (arg.Local 1) }, lit< tt, refl, (refl, refl))
is_used x (suc (suc k), low, at) = absurd (omega arith)

abbrev order : List Node
order = node.Unit 0 ∷ node.Unit 1 ∷ []

stands_once : (x : Node) (i j : ℕ) → slice_get order i ≡ Some x → slice_get order j ≡ Some x → i ≡ j
stands_once x zero zero at again = refl
stands_once x zero (suc zero) at again = absurd cc
stands_once x zero (suc (suc j)) at again = absurd cc
stands_once x (suc zero) zero at again = absurd cc
stands_once x (suc zero) (suc zero) at again = refl
stands_once x (suc zero) (suc (suc j)) at again = absurd cc
stands_once x (suc (suc i)) j at again = absurd cc

pub returns-clause-order : goal.returns-clause-order
returns-clause-order c = record {
  nodes = λ x. (is_used x, is_listed x);
  once = stands_once;
  forward = λ from to e.
      let h = and_parts (is_unit 0 from) (is_unit 1 to) (edge_passes 8 (λ n. true) (λ f t. is_unit 0 f && is_unit 1 t) one refl 2 from to e) in
      (0, 1, lit< tt, ap Some (sym (unit_is 0 from h.0)), ap Some (sym (unit_is 1 to h.1)));
}
