use Rattle.std.proofs.Common.{◌≡◌, ◌+◌, ◌<◌, ℕ, List, [], ◌∷◌, ◌++◌, get_or, map, take, refl, sym, ap, ◌∙◌, arith, length-append}
use Rattle.std.proofs.lemmas.List.{map-append, map_more}
use Rattle.std.proofs.lemmas.List.Elements.{All-push, All-weaker, All-nil}
use Rattle.ap_net.proofs.Laws.{AreOfOneWidth-Makes, Makes-refl, Makes-trans}
use Rattle.ap_net.specs.declared.cell.Wire.{Wire}
use Rattle.ap_comb.specs.declared.alu.TheConstants.{OPERATIONS}
use Rattle.ap_comb.specs.declared.alu.Operation.{Operation}
use Rattle.ap_comb.specs.Alu.{result_of}
use Rattle.ap_comb.specs.Choices.{IsOfWidth, values_of}
use Rattle.ap_comb.proofs.Halves.{IsOfWidth-Makes}
use Rattle.ap_comb.proofs.alu.results.Goals as goal

-- one more result
one_more : (read : ℕ → ℕ) (f : Operation → ℕ) (made : List Wire) (y : Wire) (i : ℕ) (d : Operation) → i < 9 → values_of read made ≡ map f (take i OPERATIONS) → read y.number ≡ f (get_or OPERATIONS i d)
    → values_of read (made ++ y ∷ []) ≡ map f (take (i + 1) OPERATIONS)
one_more read f made y i d lt before now =
    map-append (λ (x : Wire). read x.number) made (y ∷ []) ∙ (λ k. before k ++ now k ∷ []) ∙ sym (map_more f OPERATIONS i d lt)

pub loop-operation-init : goal.loop-operation-init
loop-operation-init c = record {
  long = rw c.new-made.ensures.items refl;
  nets = rw c.new-made.ensures.items (All-nil (IsOfWidth c.args.out.now.nets c.args.a.width));
  value = λ read s. (s, rw c.new-made.ensures.items refl);
  makes = Makes-refl _;
}

pub loop-operation-preserved : goal.loop-operation-preserved
loop-operation-preserved c =
    let h = c.loop-operation.invariant in
    let y = c.in_ok-result.ensures in
    record {
      long = rw c.in_ok-push.ensures.items (simp length-append (omega arith));
      nets = rw c.in_ok-push.ensures.items (All-push (IsOfWidth c.make.new.out.nets c.args.a.width) _ _ (All-weaker (IsOfWidth c.loop-operation.out.nets c.args.a.width) (IsOfWidth c.make.new.out.nets c.args.a.width) (λ x. IsOfWidth-Makes _ _ c.args.a.width x y.makes) _ h.nets) y.net);
      value = λ read s.
          let now = y.value read s in
          let before = h.value read now.0 in
          (before.0, rw c.in_ok-push.ensures.items (one_more read (λ (o : Operation). result_of o c.args.a.width (read c.args.a.number) (read c.args.b.number)) c.loop-operation.made.items c.in_ok-result.result c.loop-operation.operation-index _ (omega arith) before.1 now.1));
      makes = Makes-trans _ _ _ h.makes y.makes;
    }

pub returns-clause-value : goal.returns-clause-value
returns-clause-value c = λ read s.
    let h = c.loop-operation.invariant.value read s in
    let all : c.loop-operation.operation-index ≡ 9 = omega arith in
    (h.0, h.1 ∙ ap (λ n. map (λ (o : Operation). result_of o c.args.a.width (read c.args.a.number) (read c.args.b.number)) (take n OPERATIONS)) all)

pub make-requires-clause-operands : goal.make-requires-clause-operands
make-requires-clause-operands c = AreOfOneWidth-Makes _ _ _ _ c.loop-operation.invariant.makes c.requires.operands
