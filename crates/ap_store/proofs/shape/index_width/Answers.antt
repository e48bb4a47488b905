use Rattle.std.proofs.Common.{sym, ap, subst, ◌∙◌, ◌^◌, ◌≤◌}
use Rattle.ap_store.proofs.FileShapes.{shape_of}
use Rattle.ap_store.proofs.shape.index_width.Goals as goal

pub returns : goal.returns
returns c =
    let shape = shape_of c.args.file.now c.requires in
    record {
      bits = shape.counted;
      cells = ap (λ n. 2 ^ n) shape.counted ∙ shape.power;
      low = subst (λ n. 1 ≤ n) (sym shape.counted) shape.some_bits;
      high = subst (λ n. n ≤ 6) (sym shape.counted) shape.few_bits;
    }
