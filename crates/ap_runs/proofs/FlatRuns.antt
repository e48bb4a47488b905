-- The run of an opened netlist, by the names of its nets and registers.
use Rattle.std.proofs.Common.{◌≡◌, ℕ, ◌<◌, List, length, map, Some, refl, ap, sym, ◌∙◌}
use Rattle.std.specs.Prelude.{slice_get, slice_index, option_map}
use Rattle.std.proofs.lemmas.List.{length-map}
use Rattle.std.proofs.lemmas.Map.Keys.{any_passes_from_place}
use Rattle.std.proofs.lemmas.Option.{slice_get-map, get_or_from_slice_get}
use Rattle.ap_image.specs.declared.image.Image.{Image}
use Rattle.ap_image.specs.declared.trace.Trace.{Trace}
use Rattle.ap_net.specs.declared.net.FlatNet.{FlatNet}
use Rattle.ap_net.specs.declared.net.Next.{Next}
use Rattle.ap_net.specs.Flat.{Flat, IsOpenNetlist, names_net, plain_net, register_in, reset_in, value_in_part}
use Rattle.ap_net.specs.Modules.{reset_value}
use Rattle.ap_net.specs.Outside.{Outside}
use Rattle.ap_net.specs.Runs.{NetState, Runs}
use Rattle.ap_net.specs.Wiring.{reset_of}
use Rattle.ap_net.proofs.Found.{named_is, names_are_found, registers_are_found}
use Rattle.ap_runs.specs.RunReadings.{RegisterGoes}

mapped_at : {X : Type 0} (f : X → ℕ) (xs : List X) (k : ℕ) (x : X) → slice_get xs k ≡ Some x → slice_index (map f xs) k ≡ f x
mapped_at f xs k x at = get_or_from_slice_get (map f xs) k (f x) 0 (slice_get-map f xs k ∙ ap (option_map f) at)

module _ (f : Flat) (whole : IsOpenNetlist f) (o : Outside) (image : Image) (trace : Trace) (c : ℕ) (states : ℕ → NetState) (values : ℕ → List ℕ) (runs : Runs o f image trace c states values) where
  -- a net has in each cycle the value that is found by its name
  pub named_net : (j n : ℕ) (net : FlatNet) → j < c → slice_get f.nets n ≡ Some net → value_in_part net.part f.nets (values j) net.name ≡ slice_index (values j) n
  named_net j n net lt at = names_are_found f.nets whole.names (values j) (runs.goes j lt).solves.long n net at

  -- of a number for each register that of one, found by its name
  by_name : (g : Next → ℕ) (k : ℕ) (x : Next) (net : FlatNet) → slice_get f.nexts k ≡ Some x → slice_get f.nets x.register.number ≡ Some net → register_in net.part f (map g f.nexts) net.name ≡ g x
  by_name g k x net at there =
      let long : length (map g f.nexts) ≡ length f.nexts = simp length-map in
      registers_are_found f whole.names whole.clocked (map g f.nexts) long k x net at there ∙ mapped_at g f.nexts k x at

  -- and a register goes from cycle to cycle
  pub named_register : (k : ℕ) (x : Next) (net : FlatNet) → slice_get f.nexts k ≡ Some x → slice_get f.nets x.register.number ≡ Some net
      → RegisterGoes f c states values net.part net.name (reset_of net.role) (λ j. slice_index (values j) x.register.number) (λ j. slice_index (values j) x.from.number)
  named_register k x net at there = record {
    there = any_passes_from_place (λ (y : Next). names_net net.part net.name (slice_get f.nets y.register.number)) f.nexts k x at (ap (names_net net.part net.name) there ∙ named_is net.part net.name net refl refl);
    starts = ap (λ (s : NetState). register_in net.part f s.registers net.name) runs.starts
        ∙ by_name (λ (y : Next). reset_in f y.register.number) k x net at there
        ∙ ap reset_value (slice_get-map plain_net f.nets x.register.number ∙ ap (option_map plain_net) there);
    holds = λ j lt. ap (λ (r : List ℕ). register_in net.part f r net.name) (sym (runs.goes j lt).registers) ∙ by_name (λ (y : Next). slice_index (values j) y.register.number) k x net at there;
    takes = λ j lt. by_name (λ (y : Next). slice_index (values j) y.from.number) k x net at there;
    goes = λ j lt. ap (λ (r : List ℕ). register_in net.part f r net.name) (runs.goes j lt).after ∙ by_name (λ (y : Next). slice_index (values j) y.from.number) k x net at there;
  }
