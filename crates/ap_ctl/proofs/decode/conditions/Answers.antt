use Rattle.std.proofs.Common.{◌≡◌, ◌∷◌, [], ◌++◌, length, map, take, sym, ap, subst, ◌∙◌, arith, List}
use Rattle.std.specs.List.{AllByRecursion as Each}
use Rattle.std.proofs.lemmas.List.{take_all}
use Rattle.ap_desc.specs.declared.design.Instr.{Instr}
use Rattle.ap_model.specs.Fire.{is_match}
use Rattle.ap_net.specs.declared.cell.Wire.{Wire}
use Rattle.ap_net.specs.Pending.{IsFrom}
use Rattle.ap_net.specs.Ready.{numbers}
use Rattle.ap_ctl.specs.declared.decode.Compared.{Compared}
use Rattle.ap_ctl.specs.Building.{BuildsComparing, Tells}
use Rattle.ap_ctl.specs.Decoding.{IsCompared, compared_net, with_tests}
use Rattle.ap_ctl.specs.Lists.{EachPair}
use Rattle.ap_ctl.proofs.Beside.{EachPair-push, EachPair-weaker, item_at, take_item}
use Rattle.ap_ctl.proofs.Bits.{told}
use Rattle.ap_ctl.proofs.Built.{Each-map, GivesEach-push, Tells-Builds, from_more}
use Rattle.ap_ctl.proofs.Decoded.{compared_later, condition_matches, fitting_tests}
use Rattle.ap_ctl.proofs.decode.conditions.Goals as goal

pub compare_all-requires-clause-tests : goal.compare_all-requires-clause-tests
compare_all-requires-clause-tests c =
    fitting_tests c.args.design.now c.args.tests.now c.args.word.width c.requires.clean (c.clean_is_encoded.ensures c.args.design.now c.requires.clean) c.requires.tests c.requires.word.wide

pub loop-instr-init : goal.loop-instr-init
loop-instr-init c =
    let y = c.in_ok-made.ensures in
    let e = sym c.as_slice-table.ensures in
    let builds = subst (λ l. BuildsComparing (with_tests l c.args.word) (c.args.word.number ∷ []) c.args.out.now c.compare_all.new.out) c.requires.tests y.gives.builds in
    rw c.new-conditions.ensures (record {
      tells = tt;
      gives = record { builds = builds; results = tt };
      made = subst (λ (l : List Compared). Each (IsCompared c.compare_all.new.out c.args.word) l) e y.tells;
      came = subst (λ (l : List Compared). Each (λ (w : Wire). IsFrom (c.args.word.number ∷ []) c.args.out.now c.compare_all.new.out w.number) (map compared_net l)) e y.gives.results;
    })

pub condition-requires : goal.condition-requires
condition-requires c = record { fresh = c.loop-instr.invariant.gives.builds.fresh; made = c.loop-instr.invariant.made }

pub loop-instr-preserved : goal.loop-instr-preserved
loop-instr-preserved c =
    let h = c.loop-instr.invariant in
    let y = c.in_ok-hit.ensures in
    let design = c.args.design.now in
    let table : List Compared = c.as_slice-table.result.now in
    let instr : Instr = c.instr-item.result in
    let at = item_at c.as_slice-instr-items.result.now design.instrs c.loop-instr.instr-index instr c.as_slice-instr-items.ensures (omega arith) c.instr-item.is in
    let encoded = c.clean_is_encoded.ensures design c.requires.clean in
    let from = c.args.word.number ∷ [] in
    let tests : map (λ (x : Compared). x.test) table ≡ c.args.tests.now = ap (map (λ (x : Compared). x.test)) c.as_slice-table.ensures ∙ c.in_ok-made.ensures.tests in
    let each : Each (IsFrom from c.args.out.now c.loop-instr.out) (numbers (map compared_net table)) =
    Each-map (IsFrom from c.args.out.now c.loop-instr.out) (λ (w : Wire). w.number) (map compared_net table) h.came in
    let hit : Tells c.condition.new.out (λ r. is_match (r.read c.args.word.number) instr) c.in_ok-hit.hit =
    told (λ r s. condition_matches design c.requires.clean encoded c.args.tests.now c.as_slice.result.now table c.loop-instr.instr-index (r.read c.args.word.number) instr at c.requires.tests tests (c.as_slice.ensures ∙ c.in_ok-wanted.ensures)) y.tells in
    rw c.in_ok-push.ensures.ok (record {
      tells = subst (λ (l : List Instr). EachPair (λ (i : Instr). Tells c.condition.new.out (λ r. is_match (r.read c.args.word.number) i)) l (c.loop-instr.conditions ++ c.in_ok-hit.hit ∷ [])) (sym (take_item design.instrs c.loop-instr.instr-index instr at))
          (EachPair-push (λ (i : Instr). Tells c.condition.new.out (λ r. is_match (r.read c.args.word.number) i)) (take c.loop-instr.instr-index design.instrs) c.loop-instr.conditions instr c.in_ok-hit.hit
          (EachPair-weaker (λ (i : Instr). Tells c.loop-instr.out (λ r. is_match (r.read c.args.word.number) i)) (λ (i : Instr). Tells c.condition.new.out (λ r. is_match (r.read c.args.word.number) i)) (λ i w t. Tells-Builds y.gives.builds t) (take c.loop-instr.instr-index design.instrs) c.loop-instr.conditions h.tells) hit);
      gives = GivesEach-push from (numbers (map compared_net table)) c.args.out.now c.loop-instr.out c.condition.new.out c.loop-instr.conditions c.in_ok-hit.hit h.gives y.gives each;
      made = compared_later c.args.word table y.gives.builds h.made;
      came = from_more from c.args.out.now c.loop-instr.out c.condition.new.out (map compared_net table) y.gives.builds.reads.extends h.came;
    })

pub returns-clause-tells : goal.returns-clause-tells
returns-clause-tells c =
    let design = c.args.design.now in
    subst (λ (l : List Instr). EachPair (λ (i : Instr). Tells c.loop-instr.out (λ r. is_match (r.read c.args.word.number) i)) l c.loop-instr.conditions) (take_all c.loop-instr.instr-index design.instrs (omega (arith, ap length c.as_slice-instr-items.ensures))) c.loop-instr.invariant.tells
