use Rattle.std.proofs.Common.{◌≡◌, ◌<◌, ◌∙◌, ℕ, List, length, get_or, Some, true, ap, sym, subst, arith}
use Rattle.std.specs.Prelude.{slice_get, slice_index}
use Rattle.ap_net.specs.declared.net.FlatNet.{FlatNet}
use Rattle.ap_net.specs.Outside.{Outside}
use Rattle.ap_eval.specs.Benches.{IsGivenBy}
use Rattle.ap_eval.proofs.Keeping.{given_in, given_out, kept_all, kept_push, kept_skip}
use Rattle.ap_eval.proofs.Rooting.{got}
use Rattle.ap_eval.proofs.bench.order_of.Goals as goal
use Rattle.ap_eval.proofs.bench.order_of.Goals.{then-not-is_given+in_ok-push, else-not-is_given}

pub loop-net-preserved : goal.loop-net-preserved
loop-net-preserved c =
    let f = c.args.flat.now in
    let i : ℕ = c.loop-net.net-index in
    let n : ℕ = slice_index c.order-net-items.result.now i in
    let low : i < length c.order-net-items.result.now = omega (arith, c.loop-net-test.true) in
    let at : slice_get f.order i ≡ Some n = subst (λ (l : List ℕ). slice_get l i ≡ Some n) c.order-net-items.ensures (got c.order-net-items.result.now i 0 low) in
    let within : n < length f.net.nets = c.rules.ensures.order.within i n at in
    let net : FlatNet = get_or c.nets.result.now n c.index-nets-net.result in
    let nl : n < length c.nets.result.now = subst (λ (l : List FlatNet). n < length l) (sym c.nets.ensures) within in
    let here : slice_get f.net.nets n ≡ Some net = subst (λ (l : List FlatNet). slice_get l n ≡ Some net) c.nets.ensures (got c.nets.result.now n c.index-nets-net.result nl) in
    let inputs : length c.inputs-inputs.result.now ≡ length f.outside.inputs = ap length c.inputs-inputs.ensures ∙ ap (λ (o : Outside). length o.inputs) c.outside.ensures in
    elim c.if-not-is_given.branch [
      | then-not-is_given+in_ok-push w ↦ rw w.order-is (rw w.in_ok-push.ensures.items (kept_push f i c.loop-net.order.items n at c.loop-net.invariant
          (λ given. let yes : c.is_given.result ≡ true = c.is_given.ensures.1 (subst (λ k. IsGivenBy k n net.role) (sym inputs) (given_out f n net here given)) in let no = w.if-not-is_given.true in cc)))
      | else-not-is_given w ↦ rw w.order-is (kept_skip f i c.loop-net.order.items n at c.loop-net.invariant
          (given_in f n net here (subst (λ k. IsGivenBy k n net.role) inputs (c.is_given.ensures.0 w.if-not-is_given.false))))
    ]

pub returns : goal.returns
returns c =
    let e : length c.order-net-items.result.now ≡ length c.args.flat.now.order = ap length c.order-net-items.ensures in
    kept_all c.args.flat.now c.rules.ensures c.loop-net.net-index (omega arith) c.loop-net.order.items c.loop-net.invariant
