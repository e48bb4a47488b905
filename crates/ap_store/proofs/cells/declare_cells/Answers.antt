use Rattle.std.proofs.Common.{[], ◌∷◌, ◌++◌, ◌≡◌, ◌+◌, ◌<◌, ◌^◌, ◌∙◌, ap, arith, length, pow_pos, subst, sym}
use Rattle.std.proofs.lemmas.List.FromFn.{length-map-range_with_len, map-range_with_len_more}
use Rattle.ap_net.specs.declared.net.Role.TheVariants as role
use Rattle.ap_net.specs.Draft.{CanFresh, Draft, with_net}
use Rattle.ap_store.specs.FilePorts.{cell_name}
use Rattle.ap_store.specs.FileModules.{cell_net}
use Rattle.ap_store.specs.Building.{cell_wire, cell_wires, with_cells}
use Rattle.ap_store.proofs.FileNames.{IsNetName-cell, cell_is_new, cells_fresh}
use Rattle.ap_store.proofs.FileShapes.{shape_of}
use Rattle.ap_store.proofs.cells.declare_cells.Goals as goal

pub loop-index-init : goal.loop-index-init
loop-index-init c = record {
  draft = λ i. record { name = c.args.out.now.name; nets = c.requires.new.nets i; assigns = c.requires.new.assigns i; nexts = c.requires.new.nexts i; instances = c.requires.new.instances i };
  cells = c.new-cells.ensures.items;
}

pub register-requires : goal.register-requires
register-requires c =
    let shape = shape_of c.args.file.now c.requires.file in
    let k = c.loop-index.index-counter in
    let few = shape.few_cells in
    let same : c.as_bytes.result.now ≡ cell_name k = c.as_bytes.ensures.value ∙ c.in_ok-name.ensures.ok in
    let below : k < c.args.file.now.cells = omega arith in
    let small : k < 2 ^ 64 = omega arith in
    let draft = c.loop-index.invariant.draft in
    record {
      is_name = rw same (IsNetName-cell k small);
      name = rw (same, draft) (cell_is_new c.args.out.now.name c.args.file.now k small);
      low = shape.low;
      high = shape.high;
      reset = pow_pos c.args.file.now.width;
    }

pub loop-index-preserved : goal.loop-index-preserved
loop-index-preserved c =
    let k = c.loop-index.index-counter in
    let file = c.args.file.now in
    let h = c.loop-index.invariant in
    let same : c.as_bytes.result.now ≡ cell_name k = c.as_bytes.ensures.value ∙ c.in_ok-name.ensures.ok in
    let long : length c.loop-index.out.nets ≡ k = ap (λ (d : Draft). length d.nets) h.draft ∙ length-map-range_with_len (cell_net file) 0 k in
    let here : 0 + k ≡ k = omega arith in
    let wire_is : c.in_ok-cell.cell ≡ cell_wire file.width k = c.in_ok-cell.ensures.wire ∙ ap (cell_wire file.width) long in
    let nets = map-range_with_len_more (cell_net file) 0 k k here in
    record {
      draft = c.in_ok-cell.ensures.ok ∙ ap (λ name. with_net c.loop-index.out name file.width (role.Register 0)) same ∙ ap (λ (d : Draft). with_net d (cell_name k) file.width (role.Register 0)) h.draft
          ∙ (λ i. record { name = c.args.out.now.name; nets = sym nets i; assigns = []; nexts = []; instances = [] });
      cells = c.in_ok-push.ensures.items ∙ (λ i. h.cells i ++ wire_is i ∷ []) ∙ sym (map-range_with_len_more (cell_wire file.width) 0 k k here);
    }

pub returns : goal.returns
returns c =
    let file = c.args.file.now in
    let h = c.loop-index.invariant in
    let ended : c.loop-index.index-counter ≡ file.cells = omega arith in
    let draft = h.draft ∙ ap (with_cells c.args.out.now.name file) ended in
    record {
      ok = draft;
      cells = h.cells ∙ ap (cell_wires file.width) ended;
      fresh = subst CanFresh (sym draft) (cells_fresh c.args.out.now.name file file.cells);
    }
