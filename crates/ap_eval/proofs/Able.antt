-- A bench's cycle: what its functions need, and what it comes to.
use Rattle.std.proofs.Common.{◌≡◌, ℕ, zero, suc, ◌+◌, ◌-◌, ◌*◌, ◌<◌, ◌≤◌, List, [], ◌∷◌, ◌++◌, length, take, drop, refl, sym, ap, subst, ◌∙◌, arith, set}
use Rattle.std.specs.Prelude.{slice_index}
use Rattle.std.specs.List.{AllByRecursion as Each}
use Rattle.std.proofs.lemmas.List.{length-map, length-set}
use Rattle.ap_image.specs.declared.trace.TraceLine.{TraceLine}
use Rattle.ap_net.specs.declared.net.Next.{Next}
use Rattle.ap_net.specs.Runs.{bit}
use Rattle.ap_net.specs.Wiring.{NextFits}
use Rattle.ap_net.specs.Flat.{plain_nets}
use Rattle.ap_net.specs.Answering.{first_mem_port}
use Rattle.ap_net.proofs.Lists.{All-from}
use Rattle.ap_net.proofs.Wired.{number-IsNet}
use Rattle.ap_net.proofs.Fits.{length-plain}
use Rattle.ap_flat.specs.Flats.{FlatParts, IsFlattened}
use Rattle.ap_eval.specs.declared.op.Op.{Op}
use Rattle.ap_eval.specs.declared.spot.Spot.{Spot}
use Rattle.ap_eval.specs.Benches.{Steps}
use Rattle.ap_eval.specs.BenchViews.{CanCycle, IsCycled, IsReady, bench_state, read_by, settled_by}
use Rattle.ap_eval.specs.Cells.{Cells, rooms_of}
use Rattle.ap_eval.specs.Ops.{IsWithin, OpFits, computed, load_of, ops_of, with_inputs}
use Rattle.ap_eval.specs.Spots.{port_count_of, spots_of}
use Rattle.ap_eval.proofs.Beginning.{begun_long, inputs_room}
use Rattle.ap_eval.proofs.Edge.{computed-length}
use Rattle.ap_eval.proofs.Fitting.{net_within, ops_fit}
use Rattle.ap_eval.proofs.Stepping.{addresses_fit, ports_within, ready_after, steps_on}

module _ (f : FlatParts) (is : IsFlattened f) (roots : List ℕ) (ops : List Op) (line : TraceLine) (values : List ℕ) (memories : List Cells) (taken shown : ℕ) (can : CanCycle f roots ops line values memories taken shown) where
  abbrev count : ℕ
  count = length f.net.nets

  pub inputs_fit : 3 + length line.ports ≤ length values
  inputs_fit =
      let room = inputs_room f is roots can.plan.rooted values memories can.ready line can.line_fits in
      let e : length (set values 2 (bit line.wait)) ≡ length values = length-set values 2 (bit line.wait) in
      omega arith

  pub memories_long : length memories ≡ suc (length f.outside.mems)
  memories_long =
      let a : length (rooms_of memories) ≡ length memories = simp length-map in
      let b : length (rooms_of memories) ≡ suc (length f.outside.mems) = ap length can.ready.rooms ∙ ap suc (simp length-map) in
      omega arith

  pub begun_count : (begun : List ℕ) → begun ≡ with_inputs line values → length begun ≡ count
  begun_count begun e = ap length e ∙ begun_long f is roots can.plan.rooted values memories can.ready line can.line_fits

  pub ops_able : (begun : List ℕ) → begun ≡ with_inputs line values → (listed : List Op) → listed ≡ ops → Each (OpFits (length begun) (length memories)) listed
  ops_able begun e listed same =
      subst (Each (OpFits (length begun) (length memories))) (sym (same ∙ can.plan.listed))
      (subst (λ n. Each (OpFits n (length memories)) (ops_of f roots f.order)) (sym (begun_count begun e)) (subst (λ m. Each (OpFits count m) (ops_of f roots f.order)) (sym memories_long) (ops_fit f is roots can.plan.rooted)))

  -- the values after the operations
  pub settled_are : (begun settled : List ℕ) (listed : List Op) → begun ≡ with_inputs line values → listed ≡ ops → settled ≡ computed (load_of memories) listed begun → settled ≡ settled_by f roots line values memories
  settled_are begun settled listed b l s = s ∙ (let l' = l ∙ can.plan.listed in λ i. computed (load_of memories) (l' i) (b i))

  pub settled_count : (begun settled : List ℕ) (listed : List Op) → begun ≡ with_inputs line values → settled ≡ computed (load_of memories) listed begun → length settled ≡ count
  settled_count begun settled listed b s = ap length s ∙ computed-length (load_of memories) listed begun ∙ begun_count begun b

  pub net_able : (settled shown_roots : List ℕ) → length settled ≡ count → shown_roots ≡ roots → (n : ℕ) → n < count → IsWithin shown_roots (length settled) n
  net_able settled shown_roots long same n lt = subst (λ (l : List ℕ). IsWithin l (length settled) n) (sym same) (subst (λ k. IsWithin roots k n) (sym long) (net_within f is roots can.plan.rooted n lt))

  pub shown_low : shown ≤ count
  shown_low = let a : shown ≡ port_count_of f.outside = can.shown_is in let b : port_count_of f.outside ≤ count = ports_within f is in omega arith

  pub memories_low : (first : ℕ) → first ≡ first_mem_port f.outside → first + 5 * (length memories - 1) ≤ count
  memories_low first e = let l : length memories ≡ suc (length f.outside.mems) = memories_long in let b : port_count_of f.outside ≤ count = ports_within f is in omega arith

  pub addresses_able : (settled shown_roots : List ℕ) (first : ℕ) → settled ≡ settled_by f roots line values memories → shown_roots ≡ roots → first ≡ first_mem_port f.outside → (k : ℕ) → k + 1 < length memories
      → slice_index settled (slice_index shown_roots (first + 5 * k + 3)) < slice_index (rooms_of memories) (k + 1)
  addresses_able settled shown_roots first s r e k lt =
      subst (λ x. x < slice_index (rooms_of memories) (k + 1)) (sym (let p : slice_index settled (slice_index shown_roots (first + 5 * k + 3)) ≡ read_by f roots line values memories (first_mem_port f.outside + 5 * k + 3) = λ i. slice_index (s i) (slice_index (r i) (e i + 5 * k + 3)) in p))
      (addresses_fit f is roots can.plan.rooted values memories can.ready line can.line_fits k lt)

  low : (n : ℕ) → n < length (plain_nets f.net.nets) → n < count
  low n lt = let e : length (plain_nets f.net.nets) ≡ count = length-plain f.net.nets in omega arith

  pub sources_able : (settled shown_roots : List ℕ) (nexts : List Next) → length settled ≡ count → shown_roots ≡ roots → nexts ≡ f.net.nexts → Each (λ (x : Next). IsWithin shown_roots (length settled) x.from.number) nexts
  sources_able settled shown_roots nexts long same e =
      subst (Each (λ (x : Next). IsWithin shown_roots (length settled) x.from.number)) (sym e)
      (All-from (NextFits (plain_nets f.net.nets)) (λ (x : Next). IsWithin shown_roots (length settled) x.from.number) (λ x h. net_able settled shown_roots long same x.from.number (low x.from.number (number-IsNet (plain_nets f.net.nets) x.from h.from))) f.net.nexts is.opened.registers)

  pub registers_able : (settled : List ℕ) (nexts : List Next) → length settled ≡ count → nexts ≡ f.net.nexts → Each (λ (x : Next). x.register.number < length settled) nexts
  registers_able settled nexts long e =
      subst (Each (λ (x : Next). x.register.number < length settled)) (sym e)
      (All-from (NextFits (plain_nets f.net.nets)) (λ (x : Next). x.register.number < length settled) (λ x h. let lt : x.register.number < count = low x.register.number (number-IsNet (plain_nets f.net.nets) x.register h.register) in omega arith) f.net.nexts is.opened.registers)

  -- What a cycle comes to. ---------------------------------------------------------------------------------------------------

  module _ (new_values : List ℕ) (new_memories : List Cells) (new_taken new_shown : List ℕ) (cycled : IsCycled f roots line values memories new_values new_memories new_taken new_shown) where
    pub cycled_steps : (before : List ℕ) (spots : List Spot) → spots ≡ spots_of f.outside → Steps line (bench_state f values memories before spots) (bench_state f new_values new_memories new_shown spots)
    cycled_steps before spots same =
        let v = sym cycled.registers in
        let m = sym cycled.words in
        subst (Steps line (bench_state f values memories before spots)) (λ i. bench_state f (v i) (m i) new_shown spots)
        (steps_on f is roots can.plan.rooted values memories can.ready line can.line_fits before new_shown cycled.shows spots same)

    pub cycled_ready : IsReady f new_values new_memories
    cycled_ready =
        subst (λ (l : List ℕ). IsReady f l new_memories) (sym cycled.registers)
        (subst (IsReady f _) (sym cycled.words) (ready_after f is roots can.plan.rooted values memories can.ready line can.line_fits))

-- a list that is put back in its place
pub put_back : {X : Type 0} (len : ℕ) (new items : List X) → length items ≡ len → length new ≡ length items → take len (new ++ drop (length new) items) ≡ new
put_back zero [] [] a b = refl
put_back zero [] (y ∷ items) a b = absurd (omega arith)
put_back zero (x ∷ new) [] a b = absurd (omega arith)
put_back zero (x ∷ new) (y ∷ items) a b = absurd (omega arith)
put_back (suc len) [] [] a b = absurd (omega arith)
put_back (suc len) [] (y ∷ items) a b = absurd (omega arith)
put_back (suc len) (x ∷ new) [] a b = absurd (omega arith)
put_back {X} (suc len) (x ∷ new) (y ∷ items) a b = ap (λ (l : List X). x ∷ l) (put_back len new items (omega arith) (omega arith))
