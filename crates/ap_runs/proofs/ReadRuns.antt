-- A finished draft's run is read by its solutions.
use Rattle.std.proofs.Common.{◌≡◌, ◌≢◌, ℕ, ◌+◌, ◌<◌, List, [], ◌∷◌, ◌++◌, map, Option, Some, refl, sym, ap, subst, ◌∙◌}
use Rattle.std.specs.Prelude.{slice_get, slice_index, option_map, position, Contains}
use Rattle.std.specs.List.{AllByRecursion as Each}
use Rattle.std.specs.Str.{bytes_eq}
use Rattle.std.proofs.lemmas.Option.{slice_get-map, slice_get_within}
use Rattle.ap_image.specs.declared.image.Image.{Image}
use Rattle.ap_image.specs.declared.trace.Trace.{Trace}
use Rattle.ap_net.specs.declared.net.Instance.{Instance}
use Rattle.ap_net.specs.declared.net.ModuleNet.{ModuleNet}
use Rattle.ap_net.specs.declared.net.Next.{Next}
use Rattle.ap_net.specs.declared.net.Role.{Role}
use Rattle.ap_net.specs.declared.net.Role.TheVariants as role
use Rattle.ap_net.specs.Draft.{Draft}
use Rattle.ap_net.specs.Finished.{IsFinished}
use Rattle.ap_net.specs.Flat.{Flat, IsOpenNetlist, base_of, inner_role, opened_last, opened_over, part_net, part_nexts, top_net, value_named}
use Rattle.ap_net.specs.Modules.{EndsInTop, IsInstanceIn, IsModule, IsNetlist, ModuleText, instance_placed, last_module, module_named, nets_of, next_placed}
use Rattle.ap_net.specs.Outside.{Outside}
use Rattle.ap_net.specs.Runs.{NetState, Runs}
use Rattle.ap_net.specs.Wiring.{reset_of, taken_names}
use Rattle.ap_net.proofs.Alone.{parts_run_alone}
use Rattle.ap_net.proofs.Beside.{top_net_at}
use Rattle.ap_net.proofs.Lists.{All-back, All-front, get_left, map-map}
use Rattle.ap_net.proofs.Netlists.{earlier-push, last-push}
use Rattle.ap_net.proofs.OpenNetlists.{netlists_open}
use Rattle.ap_runs.specs.RunReadings.{ReadsPart, ReadsRun, RegisterGoes, RunsAreRead, reading_by}
use Rattle.ap_runs.proofs.Absent.{absent_is_zero}
use Rattle.ap_runs.proofs.FlatRuns.{named_net, named_register}
use Rattle.ap_runs.proofs.Standing.{found_behind, part_net_stands, part_next_stands, place_of}

-- a net of a part is reset as it is in its module
same_reset : (r : Role) → reset_of (inner_role r) ≡ reset_of r
same_reset role.Input = refl
same_reset role.Output = refl
same_reset role.Plain = refl
same_reset (role.Register reset) = refl

module _ (d : Draft) (modules : List ModuleText) (top : ModuleText) (fin : IsFinished d top) (netlist : IsNetlist (modules ++ top ∷ [])) (o : Outside) (image : Image) (trace : Trace) (c : ℕ)
    (states : ℕ → NetState) (values : ℕ → List ℕ) (runs : Runs o (opened_over modules top) image trace c states values) where
  abbrev flat : Flat
  flat = opened_over modules top

  whole : IsOpenNetlist flat
  whole = subst (λ (q : Option ModuleText). IsOpenNetlist (opened_last modules q)) (last-push modules top)
      (subst (λ (l : List ModuleText). IsOpenNetlist (opened_last l (last_module (modules ++ top ∷ [])))) (earlier-push modules top) (netlists_open (modules ++ top ∷ []) netlist))

  ends : EndsInTop (Some top) modules
  ends = subst (λ (q : Option ModuleText). EndsInTop q modules) (last-push modules top) (subst (λ (l : List ModuleText). EndsInTop (last_module (modules ++ top ∷ [])) l) (earlier-push modules top) netlist.last)

  kept : IsModule top
  kept = (All-back IsModule modules (top ∷ []) netlist.each).0

  -- a net of the draft stands in the finished module
  placed_net : (n : ℕ) (net : ModuleNet) → slice_get d.nets n ≡ Some net → slice_get flat.nets (fin.place n) ≡ Some (top_net net)
  placed_net n net at = top_net_at modules top (fin.place n) net (fin.nets n (slice_get_within d.nets n net at) ∙ at)

  own_register : (x : Next) (net : ModuleNet) → Contains d.nexts x → slice_get d.nets x.register.number ≡ Some net
      → RegisterGoes flat c states values 0 net.name (reset_of net.role) (λ j. slice_index (values j) (fin.place x.register.number)) (λ j. slice_index (values j) (fin.place x.from.number))
  own_register x net there at =
      let k = place_of d.nexts x there in
      let in_top : slice_get top.nexts k.0 ≡ Some (next_placed fin.place x) =
      ap (λ (l : List Next). slice_get l k.0) fin.nexts ∙ slice_get-map (next_placed fin.place) d.nexts k.0 ∙ ap (option_map (next_placed fin.place)) k.1 in
      let in_whole : slice_get flat.nexts k.0 ≡ Some (next_placed fin.place x) = get_left top.nexts _ k.0 (next_placed fin.place x) in_top in
      named_register flat whole o image trace c states values runs k.0 (next_placed fin.place x) (top_net net) in_whole (placed_net x.register.number net at)

  -- instance k of the draft is instance k of top
  placed_instance : (k : ℕ) (i : Instance) → slice_get d.instances k ≡ Some i → slice_get top.instances k ≡ Some (instance_placed fin.place i)
  placed_instance k i at = ap (λ (l : List Instance). slice_get l k) fin.instances ∙ slice_get-map (instance_placed fin.place) d.instances k ∙ ap (option_map (instance_placed fin.place)) at

  module _ (k : ℕ) (i : Instance) (m : ModuleText) (at : slice_get d.instances k ≡ Some i) (found : module_named modules i.module ≡ Some m) where
    abbrev base : ℕ
    base = base_of modules top k

    stands : (n : ℕ) (net : ModuleNet) → slice_get (nets_of m) n ≡ Some net → slice_get flat.nets (base + n) ≡ Some (part_net (k + 1) net)
    stands n net there = part_net_stands modules m top k (instance_placed fin.place i) (placed_instance k i at) found n net there

    part_register : (x : Next) (net : ModuleNet) → Contains m.nexts x → slice_get (nets_of m) x.register.number ≡ Some net
        → RegisterGoes flat c states values (k + 1) net.name (reset_of net.role) (λ j. slice_index (values j) (base + x.register.number)) (λ j. slice_index (values j) (base + x.from.number))
    part_register x net there here =
        let n = place_of m.nexts x there in
        let p = part_next_stands modules m top k (instance_placed fin.place i) (placed_instance k i at) found n.0 x n.1 in
        subst (λ reset. RegisterGoes flat c states values (k + 1) net.name reset (λ j. slice_index (values j) (base + x.register.number)) (λ j. slice_index (values j) (base + x.from.number))) (same_reset net.role)
        (named_register flat whole o image trace c states values runs p.0 (next_placed (λ number. base + number) x) (part_net (k + 1) net) p.1 (stands x.register.number net here))

    reads_part : ReadsPart m flat c states values (k + 1) (λ j n. slice_index (values j) (base + n))
    reads_part = record {
      nets = λ j n net lt there. named_net flat whole o image trace c states values runs j (base + n) (part_net (k + 1) net) lt (stands n net there);
      registers = part_register;
      alone = λ some. parts_run_alone o modules top (All-front IsModule modules (top ∷ []) netlist.each) kept ends.1 image trace c states values runs some k m
          (record { of = instance_placed fin.place i; at = placed_instance k i at; found = found });
    }

  -- its name among the parts
  name_stands : (k : ℕ) (i : Instance) → slice_get d.instances k ≡ Some i → i.name ≢ d.name → position (bytes_eq i.name) flat.parts ≡ Some (k + 1)
  name_stands k i at ne =
      let there : slice_get (map (λ (x : Instance). x.name) top.instances) k ≡ Some i.name =
      slice_get-map (λ (x : Instance). x.name) top.instances k ∙ ap (option_map (λ (x : Instance). x.name)) (placed_instance k i at) in
      found_behind top.name i.name (map (λ (x : Instance). x.name) top.instances) (taken_names (nets_of top)) k (λ e. ne (e ∙ fin.name)) kept.connected.distinct there

  pub is_read : ReadsRun d modules flat c states values (λ j. reading_by modules top fin.place (values j))
  is_read = record {
    over = λ j. refl;
    settled = λ j lt. fin.parts modules (values j) (runs.goes j lt).solves;
    nets = λ j n net lt at. named_net flat whole o image trace c states values runs j (fin.place n) (top_net net) lt (placed_net n net at);
    absent = λ j name none. absent_is_zero d modules top fin (values j) name none;
    registers = own_register;
    parts = λ k i m at found. reads_part k i m at found;
    located = name_stands;
  }

pub runs_are_read : RunsAreRead
runs_are_read d modules top fin netlist o image trace c states values runs = is_read d modules top fin netlist o image trace c states values runs
