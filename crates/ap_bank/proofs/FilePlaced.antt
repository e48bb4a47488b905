-- A register file that is placed.
use Rattle.std.proofs.Common.{◌≡◌, ℕ, ◌+◌, ◌<◌, true, List, [], ◌∷◌, length, map, flat_map, refl, sym, ap, subst, ◌∙◌, arith, Some, length-append}
use Rattle.std.specs.Prelude.{slice_get}
use Rattle.std.proofs.lemmas.Option.{slice_get_within}
use Rattle.std.specs.List.{AllByRecursion as Each, range_with_len}
use Rattle.ap_desc.specs.declared.design.File.{File}
use Rattle.ap_net.specs.declared.cell.Wire.{Wire}
use Rattle.ap_net.specs.declared.net.Instance.{Instance}
use Rattle.ap_net.specs.declared.net.Port.{Port}
use Rattle.ap_net.specs.Cells.{IsNet}
use Rattle.ap_net.specs.Draft.{Draft, CanFresh}
use Rattle.ap_net.specs.Late.{Joins}
use Rattle.ap_net.specs.Modules.{Connects, ModuleText, module_named, outputs}
use Rattle.ap_net.specs.Opened.{SolvesPart}
use Rattle.ap_net.specs.Placing.{Places, fresh_nets, instance_in, merged, output_widths, output_wires, wires_from, with_placed}
use Rattle.ap_net.specs.Pending.{Among, CameAmong}
use Rattle.ap_net.specs.Readings.{Always}
use Rattle.ap_net.specs.Ready.{Dependence, ReadyAfter, needed, numbers}
use Rattle.ap_net.proofs.Lists.{get_end}
use Rattle.ap_signals.specs.NetRuns.{file_part}
use Rattle.ap_ctl.specs.Lists.{EachPair}
use Rattle.ap_store.specs.FilePorts.{file_ports, read_value, write_ports}
use Rattle.ap_bank.specs.declared.files.FileWrite.{FileWrite}
use Rattle.ap_bank.specs.Placed.{AreFileNets, IsWide, JoinsFile, NeedsAsFile, PlacesFile, file_inputs, write_list}
use Rattle.ap_bank.proofs.FileNets.{among_wires, file_nets, fresh_long, from_at, is_output_at, joins_file, merged_file, needs_index, pairs_from, values_long, values_wide}

module _ (f : File) (m : ModuleText) (reads : List Wire) (writes : List FileWrite) (values : List Wire) (a b : Draft) (ports : m.ports ≡ file_ports f) (given : AreFileNets f a.nets reads writes)
    (ok : b ≡ with_placed a (file_part f) m (file_inputs reads writes)) (outs : values ≡ output_wires (length a.nets) m) where
  abbrev of : Instance
  of = instance_in a (file_part f) m (file_inputs reads writes)

  as_ports : values ≡ wires_from (length a.nets) (output_widths (file_ports f))
  as_ports = outs ∙ ap (λ p. wires_from (length a.nets) (output_widths p)) ports

  long : length values ≡ f.reads
  long = ap length as_ports ∙ values_long f (length a.nets)

  nets_of_it : of.nets ≡ file_nets reads values writes
  nets_of_it = ap (merged (outputs m) (file_inputs reads writes)) (sym outs) ∙ ap (λ (p : List Port). merged (map (λ (q : Port). q.output) p) (file_inputs reads writes) values) ports
      ∙ merged_file f reads values writes given.read_count long given.write_count

  joined : JoinsFile f of.nets reads values writes
  joined = joins_file f of.nets reads values writes given.read_count long nets_of_it

  came : CameAmong (numbers values) a b
  came n low high =
      let widths : List ℕ = output_widths m.ports in
      let count : length b.nets ≡ length a.nets + length widths = ap (λ (d : Draft). length d.nets) ok ∙ length-append a.nets (fresh_nets _ widths) ∙ ap (λ k. length a.nets + k) (fresh_long _ widths) in
      subst (λ ws. Among (numbers ws) n) (sym outs) (among_wires (length a.nets) n widths low (omega arith))

  ready : Joins of a b → (by : Dependence) → NeedsAsFile by m.name → EachPair (λ (index value : Wire). ReadyAfter by b (index.number ∷ []) value.number) reads values
  ready joins by needs = pairs_from (λ (index value : Wire). ReadyAfter by b (index.number ∷ []) value.number) reads values (given.read_count ∙ sym long) one
    where
      one : (i : ℕ) (x y : Wire) → slice_get reads i ≡ Some x → slice_get values i ≡ Some y → ReadyAfter by b (x.number ∷ []) y.number
      one i x y at there =
          let rest : List Port = flat_map (write_ports f) (range_with_len 0 f.writes) in
          let z : 0 + i ≡ i = omega arith in
          let inside : i < f.reads = subst (λ n. i < n) given.read_count (slice_get_within reads i x at) in
          let here : slice_get of.nets (read_value i) ≡ Some y = subst (λ n. slice_get of.nets (read_value n) ≡ Some y) z (from_at (λ number w. slice_get of.nets (read_value number) ≡ Some w) 0 values joined.shown i y there) in
          let flag : slice_get of.drives (read_value i) ≡ Some true = ap (λ (p : List Port). slice_get (map (λ (q : Port). q.output) p) (read_value i)) ports ∙ is_output_at f 0 f.reads i rest inside in
          let from : needed (by.needs m.name (read_value i)) of.drives of.nets ≡ x.number ∷ [] =
          ap (needed (by.needs m.name (read_value i)) of.drives) nets_of_it ∙ ap (λ (p : List Port). needed (by.needs m.name (read_value i)) (map (λ (q : Port). q.output) p) (file_nets reads values writes)) ports
          ∙ needs_index f (by.needs m.name (read_value i)) 0 f.reads i rest reads values (flat_map write_list writes) x given.read_count long (λ q. needs (read_value i) q) at in
          subst (λ l. ReadyAfter by b l y.number) from (joins.outputs by (read_value i) y here flag)

  pub places_file : CanFresh a → Each (IsNet b.nets) values → Always b (λ r. (found : ModuleText) → module_named r.modules m.name ≡ Some found → SolvesPart found of r.read (r.parts (length a.instances)))
      → Joins of a b → Places (of ∷ []) a b → Connects m of → PlacesFile f m reads writes values a b
  places_file fresh nets part joins places connects = record {
    of = of;
    named = refl;
    whole = refl;
    placed = ap (λ l. slice_get l (length a.instances)) places.instances ∙ get_end a.instances of;
    joined = joined;
    count = long;
    shown = subst (λ ws. Each (IsWide b.nets f.width) ws) (sym as_ports) (values_wide f b.nets (length a.nets) (subst (λ ws. Each (IsNet b.nets) ws) as_ports nets));
    part = part;
    extends = joins.extends;
    nexts = joins.nexts;
    instances = places.instances;
    ports = places.ports;
    fresh = places.fresh fresh;
    names = λ name other ne new. places.names name other (ne, tt) new;
    late = joins.late;
    came = came;
    ready = ready joins;
    connects = connects;
  }
