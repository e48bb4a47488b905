use Rattle.std.proofs.Common.{[], ◌∷◌, ◌++◌, ◌≡◌, ℕ, ◌<◌, ◌^◌, ◌∙◌, List, Some, ap, append_assoc, false, true, arith, length, refl, subst}
use Rattle.ap_desc.specs.Designs.{index_bits}
use Rattle.ap_net.specs.declared.net.Port.{Port}
use Rattle.ap_net.specs.declared.cell.Wire.{Wire}
use Rattle.ap_net.specs.declared.net.Role.TheVariants as role
use Rattle.ap_net.specs.Draft.{Draft, KeepsFresh, names_of, with_net}
use Rattle.ap_net.specs.Making.{Makes}
use Rattle.ap_net.specs.Names.{IsNew}
use Rattle.ap_net.specs.Modules.{ports_among}
use Rattle.ap_net.proofs.Laws.{ports_among-shown}
use Rattle.ap_unit.specs.Pieces.{input_net, output_net}
use Rattle.ap_store.specs.FilePorts.{read_index_name, read_value_name}
use Rattle.ap_store.proofs.Circuits.{cells_wide}
use Rattle.ap_store.proofs.FileNames.{IsNetName-reads, index_beside_value, read_not_numbered}
use Rattle.ap_store.proofs.FileShapes.{shape_of}
use Rattle.ap_store.proofs.Grown.{Grows-Makes, Grows-show, Grows-trans, grows_input, input_is, input_shown, input_there, new_beside_input, starts_later}
use Rattle.ap_store.proofs.ReadPorts.{count_of_cells, read_added}
use Rattle.ap_store.proofs.WritePorts.{net_there}
use Rattle.ap_store.proofs.reads.add_read.Goals as goal

pub index_width-requires : goal.index_width-requires
index_width-requires c = c.requires.file

pub input-requires : goal.input-requires
input-requires c =
    let n = c.args.number in
    let same : c.as_bytes.result.now ≡ read_index_name n = c.as_bytes.ensures.value ∙ c.in_ok-name.ensures.ok in
    let few = c.index_width.ensures.high in
    record { is_name = rw same (IsNetName-reads n c.requires.number).0; name = rw same c.requires.names.0; low = c.index_width.ensures.low; high = omega arith }

pub select-requires : goal.select-requires
select-requires c =
    let n = c.args.number in
    let file = c.args.file.now in
    let bits = index_bits file in
    let shape = shape_of file c.requires.file in
    let few = shape.few_bits in
    let some = shape.some_cells in
    let power = shape.power in
    let first : c.as_bytes.result.now ≡ read_index_name n = c.as_bytes.ensures.value ∙ c.in_ok-name.ensures.ok in
    let one = input_is c.args.out.now c.input.new.self _ (read_index_name n) _ bits first c.index_width.ensures.bits c.in_ok-index.ensures.ok in
    let wire_is = c.in_ok-index.ensures.wire ∙ ap (λ w. record { number = length c.args.out.now.nets; width = w }) c.index_width.ensures.bits in
    let there = input_there c.args.out.now c.input.new.self (read_index_name n) bits c.in_ok-index.index one wire_is in
    let wide : c.in_ok-index.index.width ≡ bits = ap (λ (w : Wire). w.width) wire_is in
    let grows = grows_input c.args.out.now c.input.new.self _ (read_index_name n) bits first one c.in_ok-index.ensures.fresh (read_not_numbered n).0 in
    let long : length c.args.cells.now ≡ file.cells = ap length c.requires.cells ∙ count_of_cells file.width file.cells in
    let room : 2 ^ c.in_ok-index.index.width ≡ file.cells = ap (λ k. 2 ^ k) wide ∙ power in
    record {
      fresh = grows.fresh c.requires.fresh;
      sel = (net_there c.input.new.self.nets c.in_ok-index.index (input_net (read_index_name n) bits) there wide shape.some_bits (omega arith)).net;
      some = omega arith;
      room = omega arith;
      choices = cells_wide c.input.new.self file c.args.cells.now shape (starts_later c.args.out.now c.input.new.self file grows.adds.extends c.requires.there) c.requires.cells;
      low = shape.low;
      high = shape.high;
    }

-- the name of the output is new once the tree is there
value_is_new : (d0 d1 d2 : Draft) (n bits : ℕ) → n < 4 → d1 ≡ with_net d0 (read_index_name n) bits role.Input → Makes d1 d2 → IsNew (read_value_name n) (names_of d0) → IsNew (read_value_name n) (names_of d2)
value_is_new d0 d1 d2 n bits few one makes new = makes.names (read_value_name n) (read_not_numbered n).1.0 (new_beside_input d0 d1 (read_index_name n) (read_value_name n) bits one (index_beside_value n few) new)

pub show-requires : goal.show-requires
show-requires c =
    let n = c.args.number in
    let file = c.args.file.now in
    let shape = shape_of file c.requires.file in
    let first : c.as_bytes.result.now ≡ read_index_name n = c.as_bytes.ensures.value ∙ c.in_ok-name.ensures.ok in
    let same : c.as_bytes-2.result.now ≡ read_value_name n = c.as_bytes-2.ensures.value ∙ c.in_ok-name-2.ensures.ok in
    let one = input_is c.args.out.now c.input.new.self _ (read_index_name n) _ (index_bits file) first c.index_width.ensures.bits c.in_ok-index.ensures.ok in
    record {
      is_name = rw same (IsNetName-reads n c.requires.number).1.0;
      name = rw same (value_is_new c.args.out.now c.input.new.self c.select.new.out n (index_bits file) c.requires.number one c.in_ok-value.ensures.makes c.requires.names.1.0);
      low = shape.low;
      high = shape.high;
      fits = (c.in_ok-value.ensures.net.net, c.in_ok-value.ensures.net.wide);
    }

pub returns : goal.returns
returns c =
    let n = c.args.number in
    let file = c.args.file.now in
    let bits = index_bits file in
    let shape = shape_of file c.requires.file in
    let d0 : Draft = c.args.out.now in
    let d1 : Draft = c.input.new.self in
    let d2 : Draft = c.select.new.out in
    let d3 : Draft = c.show.new.self in
    let first : c.as_bytes.result.now ≡ read_index_name n = c.as_bytes.ensures.value ∙ c.in_ok-name.ensures.ok in
    let second : c.as_bytes-2.result.now ≡ read_value_name n = c.as_bytes-2.ensures.value ∙ c.in_ok-name-2.ensures.ok in
    let one = input_is d0 d1 _ (read_index_name n) _ bits first c.index_width.ensures.bits c.in_ok-index.ensures.ok in
    let wire_is = c.in_ok-index.ensures.wire ∙ ap (λ w. record { number = length d0.nets; width = w }) c.index_width.ensures.bits in
    let s = c.in_ok-show.ensures in
    let v = c.in_ok-value.ensures in
    let there = s.there ∙ ap (λ name. Some (output_net name file.width)) second in
    let nets = s.nets ∙ ap (λ name. (with_net d2 name file.width role.Output).nets) second in
    let new = value_is_new d0 d1 d2 n bits c.requires.number one v.makes c.requires.names.1.0 in
    let fresh : KeepsFresh (read_value_name n) d2 d3 = subst (λ name. KeepsFresh name d2 d3) second s.fresh in
    record {
      read = read_added file n d0 d1 d2 d3 c.in_ok-index.index c.in_ok-value.value c.in_ok-show.field-0 c.args.cells.now bits shape refl c.requires.cells one wire_is v.value v.reads v.makes there s.value s.reads new;
      ports = ap ports_among nets ∙ ports_among-shown d2.nets (read_value_name n) file.width
          ∙ ap (λ (l : List Port). l ++ record { name = read_value_name n; width = file.width; output = true } ∷ []) (v.makes.ports ∙ input_shown d0 d1 (read_index_name n) bits one)
          ∙ append_assoc (ports_among d0.nets) (record { name = read_index_name n; width = bits; output = false } ∷ []) (record { name = read_value_name n; width = file.width; output = true } ∷ []);
      grows = Grows-trans (read_index_name n ∷ []) (read_value_name n ∷ []) d0 d1 d3 (grows_input d0 d1 _ (read_index_name n) bits first one c.in_ok-index.ensures.fresh (read_not_numbered n).0)
          (Grows-trans [] (read_value_name n ∷ []) d1 d2 d3 (Grows-Makes d1 d2 v.makes) (Grows-show d2 d3 (read_value_name n) file.width s.adds s.closes s.instances fresh (read_not_numbered n).1.0 nets));
    }
