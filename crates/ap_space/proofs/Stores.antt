-- What a storage holds after writes: only those that go to it count. And the storages of both machines are what their logs wrote.
use Rattle.std.proofs.Common.{◌≡◌, ℕ, zero, suc, ◌-◌, ◌==◌, ◌&&◌, Bool, true, false, cond, if◌then◌else◌, List, [], ◌∷◌, ◌++◌, map, filter, fold, set, slice_get, slice_index, slice_index_or, Option, Some, None, option_map, refl, sym, ap, ◌∙◌, subst}
use Rattle.std.proofs.lemmas.Bool.{eqb-true, eqb-false}
use Rattle.std.proofs.lemmas.List.{get_or-set_other, map-append}
use Rattle.std.proofs.lemmas.List.Sums.{fold-append}
use Rattle.std.specs.Option.{option_map_or}
use Rattle.ap_bits.specs.declared.card.Card.{Card}
use Rattle.ap_desc.specs.declared.design.Design.{Design}
use Rattle.ap_image.specs.Words.{with_word}
use Rattle.ap_image.specs.declared.image.Image.{Image}
use Rattle.ap_image.specs.declared.trace.Trace.{Trace}
use Rattle.ap_model.specs.declared.state.Entry.{Entry}
use Rattle.ap_model.specs.declared.state.Sample.{Sample}
use Rattle.ap_model.specs.declared.sequence.Progress.{Progress}
use Rattle.ap_model.specs.declared.storage.PortWrite.{PortWrite}
use Rattle.ap_model.specs.declared.storage.Storage.{Storage}
use Rattle.ap_model.specs.declared.storage.Storage.TheVariants as storage
use Rattle.ap_model.specs.declared.storage.Storages.{Storages}
use Rattle.ap_model.specs.declared.storage.WritePort.{WritePort}
use Rattle.ap_model.specs.declared.storage.WritePort.TheVariants as port
use Rattle.ap_model.specs.Cycles.{after_control, control_of, cycle, cycle_entries, entries_of, entry_of, inputs_at, over}
use Rattle.ap_model.specs.Sequence.{Partway}
use Rattle.ap_model.specs.States.{start, start_storages}
use Rattle.ap_model.specs.Stored.{file_cell_value, reg_value, with_value, with_write, with_writes}
use Rattle.ap_model.specs.WritesOf.{goes_to, log_writes}
use Rattle.ap_space.specs.Prefix.{entries_to}
use Rattle.ap_space.proofs.Parts.{at_number, effect_of, first_number, log_more, log_of, next_number, part_log, part_log_none, part_more, part_none, part_of}

-- what a storage holds, if it is there: the value of a register or cell, the words of a memory
abbrev pub held_in : Storages → Storage → Option (List ℕ)
held_in storages (storage.Register reg) = option_map (λ v. v ∷ []) (slice_get storages.regs reg)
held_in storages (storage.Cell file index) = option_map (λ v. v ∷ []) (slice_get (slice_index_or storages.files file []) index)
held_in storages (storage.Memory mem) = slice_get storages.mems mem

-- What is read is what is held.

abbrev first_of : Option (List ℕ) → ℕ
first_of None = 0
first_of (Some xs) = slice_index xs 0

index_is : (xs : List ℕ) (i : ℕ) → slice_index xs i ≡ first_of (option_map (λ v. v ∷ []) (slice_get xs i))
index_is [] i = refl
index_is (x ∷ xs) zero = refl
index_is (x ∷ xs) (suc i) = index_is xs i

words_are : (xss : List (List ℕ)) (i : ℕ) → slice_index_or xss i [] ≡ option_map_or (λ xs. xs) (slice_get xss i) []
words_are [] i = refl
words_are (xs ∷ xss) zero = refl
words_are (xs ∷ xss) (suc i) = words_are xss i

pub same_reg : (s t : Storages) (reg : ℕ) → held_in s (storage.Register reg) ≡ held_in t (storage.Register reg) → reg_value s reg ≡ reg_value t reg
same_reg s t reg e = index_is s.regs reg ∙ ap first_of e ∙ sym (index_is t.regs reg)

pub same_cell : (s t : Storages) (file index : ℕ) → held_in s (storage.Cell file index) ≡ held_in t (storage.Cell file index) → file_cell_value s file index ≡ file_cell_value t file index
same_cell s t file index e = index_is (slice_index_or s.files file []) index ∙ ap first_of e ∙ sym (index_is (slice_index_or t.files file []) index)

pub same_words : (s t : Storages) (mem : ℕ) → held_in s (storage.Memory mem) ≡ held_in t (storage.Memory mem) → slice_index_or s.mems mem [] ≡ slice_index_or t.mems mem []
same_words s t mem e = words_are s.mems mem ∙ ap (λ o. option_map_or (λ xs. xs) o []) e ∙ sym (words_are t.mems mem)

-- One write.

get_same : {X : Type 0} (xs : List X) (i : ℕ) (v : X) → slice_get (set xs i v) i ≡ option_map (λ _. v) (slice_get xs i)
get_same [] i v = refl
get_same (x ∷ xs) zero v = refl
get_same (x ∷ xs) (suc i) v = get_same xs i v

get_other : {X : Type 0} (xs : List X) (i j : ℕ) (v : X) → (j ≡ i → ⊥) → slice_get (set xs i v) j ≡ slice_get xs j
get_other [] i j v apart = refl
get_other (x ∷ xs) zero zero v apart = absurd (apart refl)
get_other (x ∷ xs) zero (suc j) v apart = refl
get_other (x ∷ xs) (suc i) zero v apart = refl
get_other (x ∷ xs) (suc i) (suc j) v apart = get_other xs i j v (λ e. apart (ap suc e))

file_same : (xss : List (List ℕ)) (i at v : ℕ) → slice_index_or (set xss i (set (slice_index_or xss i []) at v)) i [] ≡ set (slice_index_or xss i []) at v
file_same [] i at v = refl
file_same (xs ∷ xss) zero at v = refl
file_same (xs ∷ xss) (suc i) at v = file_same xss i at v

-- what a write makes of what the storage held
abbrev put : Storage → PortWrite → Option (List ℕ) → Option (List ℕ)
put (storage.Register reg) write held = option_map (λ _. write.value ∷ []) held
put (storage.Cell file index) write held = option_map (λ _. write.value ∷ []) held
put (storage.Memory mem) write held = option_map (λ words. with_word words write.at write.value) held

map_twice : {X Y Z : Type 0} (f : X → Y) (g : Y → Z) (o : Option X) → option_map g (option_map f o) ≡ option_map (λ x. g (f x)) o
map_twice f g None = refl
map_twice f g (Some x) = refl

value_put : (xs : List ℕ) (i v : ℕ) → option_map (λ v. v ∷ []) (option_map (λ _. v) (slice_get xs i)) ≡ option_map (λ _. v ∷ []) (option_map (λ v. v ∷ []) (slice_get xs i))
value_put xs i v = map_twice (λ _. v) (λ v. v ∷ []) (slice_get xs i) ∙ sym (map_twice (λ v. v ∷ []) (λ _. v ∷ []) (slice_get xs i))

word_put : (xss : List (List ℕ)) (i at v : ℕ) → option_map (λ _. with_word (slice_index_or xss i []) at v) (slice_get xss i) ≡ option_map (λ words. with_word words at v) (slice_get xss i)
word_put [] i at v = refl
word_put (xs ∷ xss) zero at v = refl
word_put (xs ∷ xss) (suc i) at v = word_put xss i at v

held_by : (s : Storages) (x : Storage) (p : WritePort) (at v : ℕ) (b : Bool) → goes_to x p at ≡ b
    → held_in (with_value s p at v) x ≡ (if b then put x (record { port = p; at = at; value = v }) (held_in s x) else held_in s x)
held_by s (storage.Register reg) (port.Register other) at v true e =
    let same : reg ≡ other = eqb-true reg other e in
    subst (λ r. option_map (λ v. v ∷ []) (slice_get (set s.regs r v) reg) ≡ option_map (λ _. v ∷ []) (option_map (λ v. v ∷ []) (slice_get s.regs reg))) same (ap (option_map (λ v. v ∷ [])) (get_same s.regs reg v) ∙ value_put s.regs reg v)
held_by s (storage.Register reg) (port.Register other) at v false e = ap (option_map (λ v. v ∷ [])) (get_other s.regs other reg v (eqb-false reg other e))
held_by s (storage.Cell file index) (port.Cell other number) at v b e = by_file (file == other) refl (index == at) refl e
  where
    by_file : (f : Bool) → (file == other) ≡ f → (i : Bool) → (index == at) ≡ i → ((file == other) && (index == at)) ≡ b
        → held_in (with_value s (port.Cell other number) at v) (storage.Cell file index) ≡ (if b then put (storage.Cell file index) (record { port = port.Cell other number; at = at; value = v }) (held_in s (storage.Cell file index)) else held_in s (storage.Cell file index))
    by_file true f true i g =
        let files : other ≡ file = sym (eqb-true file other f) in
        let places : at ≡ index = sym (eqb-true index at i) in
        let is : true ≡ b = (λ k. sym f k && sym i k) ∙ g in
        subst (λ c. held_in (with_value s (port.Cell other number) at v) (storage.Cell file index) ≡ (if c then option_map (λ _. v ∷ []) (held_in s (storage.Cell file index)) else held_in s (storage.Cell file index))) is
        ((λ k. option_map (λ v. v ∷ []) (slice_get (slice_index_or (set s.files (files k) (set (slice_index_or s.files (files k) []) (places k) v)) file []) index))
        ∙ ap (λ cells. option_map (λ v. v ∷ []) (slice_get cells index)) (file_same s.files file index v)
        ∙ ap (option_map (λ v. v ∷ [])) (get_same (slice_index_or s.files file []) index v)
        ∙ value_put (slice_index_or s.files file []) index v)
    by_file true f false i g =
        let files : other ≡ file = sym (eqb-true file other f) in
        let is : false ≡ b = (λ k. sym f k && sym i k) ∙ g in
        subst (λ c. held_in (with_value s (port.Cell other number) at v) (storage.Cell file index) ≡ (if c then option_map (λ _. v ∷ []) (held_in s (storage.Cell file index)) else held_in s (storage.Cell file index))) is
        ((λ k. option_map (λ v. v ∷ []) (slice_get (slice_index_or (set s.files (files k) (set (slice_index_or s.files (files k) []) at v)) file []) index))
        ∙ ap (λ cells. option_map (λ v. v ∷ []) (slice_get cells index)) (file_same s.files file at v)
        ∙ ap (option_map (λ v. v ∷ [])) (get_other (slice_index_or s.files file []) at index v (eqb-false index at i)))
    by_file false f i j g =
        let is : false ≡ b = (λ k. sym f k && (index == at)) ∙ g in
        subst (λ c. held_in (with_value s (port.Cell other number) at v) (storage.Cell file index) ≡ (if c then option_map (λ _. v ∷ []) (held_in s (storage.Cell file index)) else held_in s (storage.Cell file index))) is
        (ap (λ cells. option_map (λ v. v ∷ []) (slice_get cells index)) (get_or-set_other s.files other file (set (slice_index_or s.files other []) at v) [] (eqb-false file other f)))
held_by s (storage.Memory mem) (port.Memory other) at v true e =
    let same : mem ≡ other = eqb-true mem other e in
    subst (λ m. slice_get (set s.mems m (with_word (slice_index_or s.mems m []) at v)) mem ≡ option_map (λ words. with_word words at v) (slice_get s.mems mem)) same
    (get_same s.mems mem (with_word (slice_index_or s.mems mem []) at v) ∙ word_put s.mems mem at v)
held_by s (storage.Memory mem) (port.Memory other) at v false e = get_other s.mems other mem (with_word (slice_index_or s.mems other []) at v) (eqb-false mem other e)
held_by s (storage.Register reg) (port.Cell other number) at v true e = absurd cc
held_by s (storage.Register reg) (port.Cell other number) at v false e = refl
held_by s (storage.Register reg) (port.Memory other) at v true e = absurd cc
held_by s (storage.Register reg) (port.Memory other) at v false e = refl
held_by s (storage.Cell file index) (port.Register other) at v true e = absurd cc
held_by s (storage.Cell file index) (port.Register other) at v false e = refl
held_by s (storage.Cell file index) (port.Memory other) at v true e = absurd cc
held_by s (storage.Cell file index) (port.Memory other) at v false e = refl
held_by s (storage.Memory mem) (port.Register other) at v true e = absurd cc
held_by s (storage.Memory mem) (port.Register other) at v false e = refl
held_by s (storage.Memory mem) (port.Cell other number) at v true e = absurd cc
held_by s (storage.Memory mem) (port.Cell other number) at v false e = refl

-- Writes, one after another.

abbrev goes : Storage → PortWrite → Bool
goes x w = goes_to x w.port w.at

held_after : (x : Storage) (ws : List PortWrite) (s : Storages) → held_in (with_writes s ws) x ≡ fold (λ held w. put x w held) (held_in s x) (filter (goes x) ws)
unfolding with_writes
held_after x [] s = refl
held_after x (w ∷ ws) s = held_after x ws (with_write s w) ∙ by_test (goes x w) refl
  where
    by_test : (b : Bool) → goes x w ≡ b
        → fold (λ held w. put x w held) (held_in (with_write s w) x) (filter (goes x) ws) ≡ fold (λ held w. put x w held) (held_in s x) (cond b (w ∷ filter (goes x) ws) (filter (goes x) ws))
    by_test true e = ap (λ h. fold (λ held w. put x w held) h (filter (goes x) ws)) (held_by s x w.port w.at w.value true e)
    by_test false e = ap (λ h. fold (λ held w. put x w held) h (filter (goes x) ws)) (held_by s x w.port w.at w.value false e)

goes_logged : (x : Storage) (log : List Entry) → filter (goes x) (log_writes log) ≡ map (λ (e : Entry). e.write) (entries_to x log)
goes_logged x [] = refl
goes_logged x (e ∷ log) = by_test (goes x e.write) (goes_logged x log)
  where
    by_test : (b : Bool) → filter (goes x) (log_writes log) ≡ map (λ (e : Entry). e.write) (entries_to x log)
        → cond b (e.write ∷ filter (goes x) (log_writes log)) (filter (goes x) (log_writes log)) ≡ map (λ (e : Entry). e.write) (cond b (e ∷ entries_to x log) (entries_to x log))
    by_test true rest = ap (λ ws. e.write ∷ ws) rest
    by_test false rest = rest

-- two logs with the same entries to a storage leave the same in it
pub same_held : (x : Storage) (s : Storages) (log other : List Entry) → entries_to x log ≡ entries_to x other → held_in (with_writes s (log_writes log)) x ≡ held_in (with_writes s (log_writes other)) x
same_held x s log other same =
    let writes : filter (goes x) (log_writes log) ≡ filter (goes x) (log_writes other) = goes_logged x log ∙ ap (map (λ (e : Entry). e.write)) same ∙ sym (goes_logged x other) in
    held_after x (log_writes log) s ∙ ap (fold (λ held w. put x w held) (held_in s x)) writes ∙ sym (held_after x (log_writes other) s)

-- The storages of the machines.

nothing_written : (s : Storages) → s ≡ with_writes s []
unfolding with_writes
nothing_written s = refl

more_written : (s : Storages) (log more : List Entry) → with_writes (with_writes s (log_writes log)) (log_writes more) ≡ with_writes s (log_writes (log ++ more))
unfolding with_writes
more_written s log more = sym (fold-append with_write s (log_writes log) (log_writes more)) ∙ ap (fold with_write s) (sym (map-append (λ (e : Entry). e.write) log more))

logged_writes : (stage number : ℕ) (ws : List PortWrite) → log_writes (map (entry_of stage number) ws) ≡ ws
logged_writes stage number [] = refl
logged_writes stage number (w ∷ ws) = ap (λ rest. w ∷ rest) (logged_writes stage number ws)

pub over_storages : (design : Design) (cards : List Card) (image : Image) (trace : Trace) (j : ℕ) → (over design cards image trace j).storages ≡ with_writes (start_storages design image) (log_writes (over design cards image trace j).log)
unfolding over start cycle after_control with_writes
over_storages design cards image trace zero = refl
over_storages design cards image trace (suc j) =
    let state = over design cards image trace j in
    let entries = cycle_entries design cards (inputs_at design trace j) state (control_of design cards (inputs_at design trace j) state) in
    ap (λ s. with_writes s (log_writes entries)) (over_storages design cards image trace j) ∙ more_written (start_storages design image) state.log entries

module _ (design : Design) (cards : List Card) (image : Image) (samples : List Sample) where
  abbrev At : ℕ → Type 0
  At i = (at_number design cards image samples i).storages ≡ with_writes (start_storages design image) (log_writes (log_of design cards image samples i))

  part_from : (i s : ℕ) → At i → (part_of design cards image samples i s).storages ≡ with_writes (start_storages design image) (log_writes (log_of design cards image samples i ++ (part_of design cards image samples i s).log))
  part_from i zero at =
      ap (λ (p : Partway). p.storages) (part_none design cards image samples i) ∙ at
      ∙ ap (λ log. with_writes (start_storages design image) (log_writes log)) (sym (append_none (log_of design cards image samples i)) ∙ ap (λ ys. log_of design cards image samples i ++ ys) (sym (part_log_none design cards image samples i)))
    where
      append_none : (xs : List Entry) → xs ++ [] ≡ xs
      append_none [] = refl
      append_none (x ∷ xs) = ap (λ ys. x ∷ ys) (append_none xs)
  part_from i (suc s) at =
      let log = log_of design cards image samples i in
      let part = part_of design cards image samples i s in
      let effect = effect_of design cards image samples i s in
      let block = entries_of (suc s) i effect in
      ap (λ (p : Partway). p.storages) (part_more design cards image samples i s)
      ∙ ap (λ st. with_writes st effect.writes) (part_from i s at)
      ∙ ap (with_writes (with_writes (start_storages design image) (log_writes (log ++ part.log)))) (sym (logged_writes (suc s) i effect.writes))
      ∙ more_written (start_storages design image) (log ++ part.log) block
      ∙ ap (λ l. with_writes (start_storages design image) (log_writes l)) (together log part.log block ∙ ap (λ ys. log ++ ys) (sym (part_log design cards image samples i s)))
    where
      together : (xs ys zs : List Entry) → (xs ++ ys) ++ zs ≡ xs ++ (ys ++ zs)
      together [] ys zs = refl
      together (x ∷ xs) ys zs = ap (λ rest. x ∷ rest) (together xs ys zs)

  number_storages : (i : ℕ) → At i
  number_storages zero =
      ap (λ (p : Progress). p.storages) (first_number design cards image samples) ∙ nothing_written (start_storages design image)
      ∙ ap (λ log. with_writes (start_storages design image) (log_writes log)) (sym (ap (λ (p : Progress). p.log) (first_number design cards image samples)))
  number_storages (suc i) =
      ap (λ (p : Progress). p.storages) (next_number design cards image samples i)
      ∙ part_from i (design.stages - 1) (number_storages i)
      ∙ ap (λ log. with_writes (start_storages design image) (log_writes log)) (sym (log_more design cards image samples i))

  -- what an instruction sees after some stages was written by the log up to there
  pub part_storages : (i s : ℕ) → (part_of design cards image samples i s).storages ≡ with_writes (start_storages design image) (log_writes (log_of design cards image samples i ++ (part_of design cards image samples i s).log))
  part_storages i s = part_from i s (number_storages i)
