use Rattle.std.proofs.Common.{[], ◌∷◌, ◌≡◌, ◌∙◌, ap, arith, lit≤, refl}
use Rattle.ap_net.specs.declared.net.Role.TheVariants as role
use Rattle.ap_net.specs.Draft.{Draft, with_net}
use Rattle.ap_desc.specs.Designs.{index_bits}
use Rattle.ap_store.specs.FilePorts.{write_enable_name, write_index_name, write_value_name}
use Rattle.ap_store.proofs.FileNames.{IsNetName-writes, write_names_apart, write_not_numbered}
use Rattle.ap_store.proofs.FileShapes.{shape_of}
use Rattle.ap_store.proofs.Grown.{Grows-trans, grows_input, input_is, new_beside_input}
use Rattle.ap_store.proofs.WritePorts.{three_wires}
use Rattle.ap_store.proofs.writes.declare_write.Goals as goal

pub input-requires : goal.input-requires
input-requires c =
    let n = c.args.number in
    let same : c.as_bytes.result.now ≡ write_enable_name n = c.as_bytes.ensures.value ∙ c.in_ok-name.ensures.ok in
    record { is_name = rw same (IsNetName-writes n c.requires.number).0; name = rw same c.requires.names.0; low = lit≤ tt; high = lit≤ tt }

pub input-requires-2 : goal.input-requires-2
input-requires-2 c =
    let n = c.args.number in
    let shape = shape_of c.args.file.now c.requires.file in
    let first : c.as_bytes.result.now ≡ write_enable_name n = c.as_bytes.ensures.value ∙ c.in_ok-name.ensures.ok in
    let same : c.as_bytes-2.result.now ≡ write_index_name n = c.as_bytes-2.ensures.value ∙ c.in_ok-name-2.ensures.ok in
    let one = input_is c.args.out.now c.input.new.self _ (write_enable_name n) 1 1 first refl c.in_ok-enable.ensures.ok in
    let few = c.index_width.ensures.high in
    record {
      is_name = rw same (IsNetName-writes n c.requires.number).1.0;
      name = rw same (new_beside_input c.args.out.now c.input.new.self (write_enable_name n) (write_index_name n) 1 one (write_names_apart n c.requires.number).0 c.requires.names.1.0);
      low = c.index_width.ensures.low;
      high = omega arith;
    }

pub input-requires-3 : goal.input-requires-3
input-requires-3 c =
    let n = c.args.number in
    let shape = shape_of c.args.file.now c.requires.file in
    let apart = write_names_apart n c.requires.number in
    let first : c.as_bytes.result.now ≡ write_enable_name n = c.as_bytes.ensures.value ∙ c.in_ok-name.ensures.ok in
    let second : c.as_bytes-2.result.now ≡ write_index_name n = c.as_bytes-2.ensures.value ∙ c.in_ok-name-2.ensures.ok in
    let same : c.as_bytes-3.result.now ≡ write_value_name n = c.as_bytes-3.ensures.value ∙ c.in_ok-name-3.ensures.ok in
    let bits = index_bits c.args.file.now in
    let one = input_is c.args.out.now c.input.new.self _ (write_enable_name n) 1 1 first refl c.in_ok-enable.ensures.ok in
    let two = input_is c.input.new.self c.input-2.new.self _ (write_index_name n) _ bits second c.index_width.ensures.bits c.in_ok-index.ensures.ok in
    record {
      is_name = rw same (IsNetName-writes n c.requires.number).1.1.0;
      name = rw same (new_beside_input c.input.new.self c.input-2.new.self (write_index_name n) (write_value_name n) bits two apart.2 (new_beside_input c.args.out.now c.input.new.self (write_enable_name n) (write_value_name n) 1 one apart.1 c.requires.names.1.1.0));
      low = shape.low;
      high = shape.high;
    }

pub returns : goal.returns
returns c =
    let n = c.args.number in
    let file = c.args.file.now in
    let bits = index_bits file in
    let d0 : Draft = c.args.out.now in
    let d1 : Draft = c.input.new.self in
    let d2 : Draft = c.input-2.new.self in
    let d3 : Draft = c.input-3.new.self in
    let first : c.as_bytes.result.now ≡ write_enable_name n = c.as_bytes.ensures.value ∙ c.in_ok-name.ensures.ok in
    let second : c.as_bytes-2.result.now ≡ write_index_name n = c.as_bytes-2.ensures.value ∙ c.in_ok-name-2.ensures.ok in
    let third : c.as_bytes-3.result.now ≡ write_value_name n = c.as_bytes-3.ensures.value ∙ c.in_ok-name-3.ensures.ok in
    let one = input_is d0 d1 _ (write_enable_name n) 1 1 first refl c.in_ok-enable.ensures.ok in
    let two = input_is d1 d2 _ (write_index_name n) _ bits second c.index_width.ensures.bits c.in_ok-index.ensures.ok in
    let three = input_is d2 d3 _ (write_value_name n) file.width file.width third refl c.in_ok-value.ensures.ok in
    let other = write_not_numbered n in
    record {
      ok = three ∙ ap (λ (d : Draft). with_net d (write_value_name n) file.width role.Input) (two ∙ ap (λ (d : Draft). with_net d (write_index_name n) bits role.Input) one);
      port = three_wires d0 d1 d2 file n _ c.in_ok-enable.enable c.in_ok-index.index c.in_ok-value.value one two c.index_width.ensures.bits c.in_ok-enable.ensures.wire c.in_ok-index.ensures.wire c.in_ok-value.ensures.wire;
      grows = Grows-trans (write_enable_name n ∷ []) (write_index_name n ∷ write_value_name n ∷ []) d0 d1 d3 (grows_input d0 d1 _ (write_enable_name n) 1 first one c.in_ok-enable.ensures.fresh other.0)
          (Grows-trans (write_index_name n ∷ []) (write_value_name n ∷ []) d1 d2 d3 (grows_input d1 d2 _ (write_index_name n) bits second two c.in_ok-index.ensures.fresh other.1.0) (grows_input d2 d3 _ (write_value_name n) file.width third three c.in_ok-value.ensures.fresh other.1.1.0));
    }
