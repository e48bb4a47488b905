-- An output of a register file depends on the input before it alone.
use Rattle.std.proofs.Common.{◌≡◌, ℕ, zero, suc, ◌+◌, ◌-◌, ◌*◌, ◌/◌, ◌%◌, ◌<◌, ◌≤◌, Bool, true, false, List, [], ◌∷◌, ◌++◌, length, map, Some, inl, inr, refl, sym, ap, subst, ◌∙◌, arith, ⊎_elim}
use Rattle.std.specs.Prelude.{◌==◌, if◌then◌else◌, filter, not, option_map, slice_get}
use Rattle.std.specs.List.{range_with_len}
use Rattle.std.proofs.lemmas.Bool.{cases_lt, eqb-true, eqb-false}
use Rattle.std.proofs.lemmas.List.{length-map}
use Rattle.std.proofs.lemmas.Option.{slice_get-map, slice_get_within}
use Rattle.ap_desc.specs.declared.design.File.{File}
use Rattle.ap_net.specs.declared.net.Port.{Port}
use Rattle.ap_net.specs.Modules.{ModuleText, outputs}
use Rattle.ap_net.specs.Depends.{DependsOnNone}
use Rattle.ap_net.specs.Pending.{Among}
use Rattle.ap_net.proofs.Depending.{depend_on_needed}
use Rattle.ap_net.proofs.Lists.{some_same}
use Rattle.ap_store.specs.FilePorts.{file_ports, inputs_but, inputs_of, read_index, read_value}
use Rattle.ap_store.specs.FileModules.{FilesDepend, IsFile, file_needs}
use Rattle.ap_store.proofs.PortPlaces.{index_port_at, inputs_behind, length_ports, value_port_at}

-- numbers among others
among_left : (xs ys : List ℕ) (n : ℕ) → Among xs n → Among (xs ++ ys) n
among_left [] ys n h = absurd h
among_left (x ∷ xs) ys n (inl e) = inl e
among_left (x ∷ xs) ys n (inr h) = inr (among_left xs ys n h)

among_right : (xs ys : List ℕ) (n : ℕ) → Among ys n → Among (xs ++ ys) n
among_right [] ys n h = h
among_right (x ∷ xs) ys n h = inr (among_right xs ys n h)

among_range : (a n k : ℕ) → a ≤ k → k < a + n → Among (range_with_len a n) k
among_range a zero k low high = absurd (omega arith)
among_range a (suc n) k low high =
    ⊎_elim (λ (more : a < k). inr (among_range (a + 1) n k (omega arith) (omega arith))) (λ (none : k ≤ a). let same : a ≡ k = omega arith in inl same) (cases_lt a k)

among_index : (a n k : ℕ) → a ≤ k → k < a + n → Among (map read_index (range_with_len a n)) (read_index k)
among_index a zero k low high = absurd (omega arith)
among_index a (suc n) k low high =
    ⊎_elim (λ (more : a < k). inr (among_index (a + 1) n k (omega arith) (omega arith))) (λ (none : k ≤ a). let same : a ≡ k = omega arith in inl (ap read_index same)) (cases_lt a k)

among_but : (input : ℕ) (xs : List ℕ) (n : ℕ) → (n ≡ input → ⊥) → Among xs n → Among (filter (λ other. not (other == input)) xs) n
among_but input [] n ne h = absurd h
among_but input (x ∷ xs) n ne h = go (among_but input xs n ne) (x == input) refl h
  where
    go : (Among xs n → Among (filter (λ other. not (other == input)) xs) n) → (b : Bool) → (x == input) ≡ b → Among (x ∷ xs) n
        → Among (if not b then x ∷ filter (λ other. not (other == input)) xs else filter (λ other. not (other == input)) xs) n
    go more true e (inl same) = absurd (ne (sym same ∙ eqb-true x input e))
    go more true e (inr there) = more there
    go more false e (inl same) = inl same
    go more false e (inr there) = inr (more there)

module _ (m : ModuleText) (file : File) (stages : List ℕ) (is : IsFile m file stages) where
  output_at : (q : ℕ) (p : Port) → slice_get (file_ports file) q ≡ Some p → slice_get (outputs m) q ≡ Some p.output
  output_at q p at = slice_get-map (λ (x : Port). x.output) m.ports q ∙ ap (option_map (λ (x : Port). x.output)) (ap (λ l. slice_get l q) is.ports ∙ at)

  within : (q : ℕ) (b : Bool) → slice_get (outputs m) q ≡ Some b → q < 2 * file.reads + 3 * file.writes
  within q b at =
      let lt : q < length (outputs m) = slice_get_within (outputs m) q b at in
      let long : length (outputs m) ≡ length (file_ports file) = length-map m.ports (λ (x : Port). x.output) ∙ ap length is.ports in
      let all = length_ports file in
      omega arith

  clash : (q : ℕ) (b c : Bool) → slice_get (outputs m) q ≡ Some b → slice_get (outputs m) q ≡ Some c → b ≡ c
  clash q b c p r = some_same (sym p ∙ r)

  -- an output is that of a read port
  output_port : (p : ℕ) → slice_get (outputs m) p ≡ Some true → (n : ℕ) × (n < file.reads) × (p ≡ read_value n)
  output_port p at =
      let lt = within p true at in
      ⊎_elim
      (λ (low : p < 2 * file.reads).
      let few : p / 2 < file.reads = omega arith in
      ⊎_elim
      (λ (even : p % 2 < 1). let here : read_index (p / 2) ≡ p = omega arith in absurd (let no : true ≡ false = clash p true false at (subst (λ k. slice_get (outputs m) k ≡ Some false) here (output_at (read_index (p / 2)) _ (index_port_at file (p / 2) few))) in cc))
      (λ (odd : 1 ≤ p % 2). (p / 2, few, omega arith))
      (cases_lt (p % 2) 1))
      (λ (high : 2 * file.reads ≤ p).
      let far = inputs_behind file (p - 2 * file.reads) (omega arith) in
      let here : 2 * file.reads + (p - 2 * file.reads) ≡ p = omega arith in
      absurd (let no : true ≡ false = clash p true false at (subst (λ k. slice_get (outputs m) k ≡ Some false) here (output_at (2 * file.reads + (p - 2 * file.reads)) far.0 far.1 ∙ ap Some far.2)) in cc))
      (cases_lt p (2 * file.reads))

  -- and every other port is among the inputs
  input_port : (q : ℕ) → slice_get (outputs m) q ≡ Some false → Among (inputs_of file) q
  input_port q at =
      let lt = within q false at in
      ⊎_elim
      (λ (low : q < 2 * file.reads).
      let few : q / 2 < file.reads = omega arith in
      ⊎_elim
      (λ (even : q % 2 < 1). let here : read_index (q / 2) ≡ q = omega arith in among_left (map read_index (range_with_len 0 file.reads)) (range_with_len (2 * file.reads) (3 * file.writes)) q (subst (λ k. Among (map read_index (range_with_len 0 file.reads)) k) here (among_index 0 file.reads (q / 2) (omega arith) (omega arith))))
      (λ (odd : 1 ≤ q % 2). let here : read_value (q / 2) ≡ q = omega arith in absurd (let no : false ≡ true = clash q false true at (subst (λ k. slice_get (outputs m) k ≡ Some true) here (output_at (read_value (q / 2)) _ (value_port_at file (q / 2) few))) in cc))
      (cases_lt (q % 2) 1))
      (λ (high : 2 * file.reads ≤ q). among_right (map read_index (range_with_len 0 file.reads)) (range_with_len (2 * file.reads) (3 * file.writes)) q (among_range (2 * file.reads) (3 * file.writes) q high (omega arith)))
      (cases_lt q (2 * file.reads))

  abbrev others : ℕ → List ℕ
  others p = inputs_but file (p - 1)

  none : (p : ℕ) → slice_get (outputs m) p ≡ Some true → DependsOnNone m.assigns p (others p)
  none p at =
      let port = output_port p at in
      let before : read_index port.0 ≡ p - 1 = omega arith in
      let here = is.alone port.0 port.1 in
      subst (λ k. DependsOnNone m.assigns p (inputs_but file k)) before (subst (λ k. DependsOnNone m.assigns k (inputs_but file (read_index port.0))) (sym port.2) here)

  left_out : (p q : ℕ) → slice_get (outputs m) p ≡ Some true → slice_get (outputs m) q ≡ Some false → file_needs p q ≡ false → Among (others p) q
  left_out p q at there needless =
      let port = output_port p at in
      among_but (p - 1) (inputs_of file) q (λ (e : q ≡ p - 1). eqb-false p (q + 1) needless (let odd = port.2 in omega arith)) (input_port q there)

pub files_depend : FilesDepend
files_depend m file stages is = depend_on_needed m file_needs (others m file stages is) (none m file stages is) (left_out m file stages is)
