-- What is kept of the lines that were judged, when one more line was.
use Rattle.std.proofs.Common.{◌≡◌, ℕ, suc, ◌+◌, ◌-◌, ◌^◌, ◌||◌, Bool, true, false, List, [], ◌∷◌, ◌++◌, length, map, Option, Some, None, is_some, min, refl, sym, ap, ◌∙◌, arith}
use Rattle.std.specs.Prelude.{fold, option_map, replicate, zip, if◌then◌else◌}
use Rattle.std.specs.List.{list_any}
use Rattle.std.specs.Option.{option_map_or, option_or}
use Rattle.std.specs.Str.{bytes_eq}
use Rattle.std.proofs.lemmas.List.{length-append}
use Rattle.std.proofs.lemmas.List.Folds.{list_any-append}
use Rattle.std.proofs.lemmas.List.Concat.{flat_map-append}
use Rattle.ap_desc.specs.declared.design.Design.{Design}
use Rattle.ap_desc.specs.declared.design.Mem.{Mem}
use Rattle.ap_program.specs.Labels.{landing_among, with_label}
use Rattle.ap_program.specs.Programs.{data_words, instr_by, is_label_named, is_transfer_call, label_by, slot_by, slots_after, slots_before, words_by}
use Rattle.ap_program.specs.SoFar.{IsSoFar, count_with, counts_with}
use Rattle.ap_program.specs.declared.so_far.SoFar.{SoFar}
use Rattle.ap_program.specs.declared.statement.ProgramLine.{ProgramLine}
use Rattle.ap_program.specs.declared.statement.Call.{Call}
use Rattle.ap_program.specs.declared.statement.Statement.{Statement}
use Rattle.ap_program.specs.declared.statement.Statement.TheVariants as says
use Rattle.ap_program.proofs.LabelTables.{among_with}

fold_push : {A B : Type 0} (f : B → A → B) (a : B) (xs : List A) (x : A) → fold f a (xs ++ x ∷ []) ≡ f (fold f a xs) x
fold_push f a [] x = refl
fold_push f a (y ∷ ys) x = fold_push f (f a y) ys x

-- so many, or the most that a number of so many bits can be
abbrev pub capped : ℕ → ℕ → ℕ
capped bits n = min n (2 ^ bits - 1)

or_none : (b : Bool) → (b || false) ≡ b
or_none true = refl
or_none false = refl

-- the labels that were seen
pub seen_more : (design : Design) (before : List ProgramLine) (old : SoFar) (line : ProgramLine) (name asked : List ℕ) (landing : ℕ) → IsSoFar design before old → is_label_named asked line ≡ bytes_eq asked name
    → is_some (landing_among (with_label old.seen name landing) asked) ≡ list_any (is_label_named asked) (before ++ line ∷ [])
seen_more design before old line name asked landing h e =
    ap is_some (among_with old.seen name landing asked) ∙ either (landing_among old.seen asked) (bytes_eq asked name)
    ∙ ap (λ b. b || bytes_eq asked name) (h.seen asked) ∙ ap (λ b. list_any (is_label_named asked) before || b) (sym e ∙ sym (or_none (is_label_named asked line)))
    ∙ sym (list_any-append (is_label_named asked) before (line ∷ []))
  where
    either : (o : Option ℕ) (b : Bool) → is_some (option_or o (if b then Some landing else None)) ≡ (is_some o || b)
    either (Some x) b = refl
    either None true = refl
    either None false = refl

pub seen_same : (design : Design) (before : List ProgramLine) (old : SoFar) (line : ProgramLine) (asked : List ℕ) → IsSoFar design before old → is_label_named asked line ≡ false → is_some (landing_among old.seen asked) ≡ list_any (is_label_named asked) (before ++ line ∷ [])
seen_same design before old line asked h e =
    h.seen asked ∙ sym (list_any-append (is_label_named asked) before (line ∷ []) ∙ ap (λ b. list_any (is_label_named asked) before || (b || false)) e ∙ or_none (list_any (is_label_named asked) before))

-- the slot lines of the transfer before
pub slots_more : (design : Design) (before : List ProgramLine) (line : ProgramLine) → slots_before design (before ++ line ∷ []) ≡ slots_after design (slots_before design before) line
slots_more design before line = fold_push (slots_after design) None before line

-- the words of each memory
words_more : (name : List ℕ) (before : List ProgramLine) (line : ProgramLine) → length (data_words name (before ++ line ∷ [])) ≡ length (data_words name before) + length (words_by name line.says)
words_more name before line =
    ap length (flat_map-append (λ (l : ProgramLine). words_by name l.says) before (line ∷ [])) ∙ length-append (data_words name before) (words_by name line.says ++ []) ∙ last (words_by name line.says)
  where
    last : (ws : List ℕ) → length (data_words name before) + length (ws ++ []) ≡ length (data_words name before) + length ws
    last ws = ap (λ n. length (data_words name before) + n) (length-append ws [] ∙ (omega arith))

counts_of : (design : Design) → List ProgramLine → List ℕ
counts_of design lines = map (λ (m : Mem). min (length (data_words m.name lines)) (2 ^ 64 - 1)) design.mems

map_same : {X Y : Type 0} (f g : X → Y) (xs : List X) → ((x : X) → f x ≡ g x) → map f xs ≡ map g xs
map_same f g [] h = refl
map_same f g (x ∷ xs) h = ap (λ y. y ∷ map f xs) (h x) ∙ ap (λ ys. g x ∷ ys) (map_same f g xs h)

zip_map : {X Y Z : Type 0} (h : X × Y → Z) (f : X → Y) (xs : List X) → map h (zip xs (map f xs)) ≡ map (λ x. h (x, f x)) xs
zip_map h f [] = refl
zip_map h f (x ∷ xs) = ap (λ ys. h (x, f x) ∷ ys) (zip_map h f xs)

-- a line that gives no words
pub words_same : (design : Design) (before : List ProgramLine) (old : SoFar) (line : ProgramLine) → IsSoFar design before old → ((name : List ℕ) → words_by name line.says ≡ [])
    → old.words ≡ map (λ (m : Mem). min (length (data_words m.name (before ++ line ∷ []))) (2 ^ 64 - 1)) design.mems
words_same design before old line h none =
    h.words ∙ map_same _ _ design.mems (λ m. ap (λ n. min n (2 ^ 64 - 1)) (sym (words_more m.name before line ∙ ap (λ (ws : List ℕ). length (data_words m.name before) + length ws) (none m.name) ∙ (omega arith))))

capped_more : (n m : ℕ) → min (min n (2 ^ 64 - 1) + m) (2 ^ 64 - 1) ≡ min (n + m) (2 ^ 64 - 1)
capped_more n m = omega arith

count_step : (name : List ℕ) (words : List ℕ) (before : List ProgramLine) (line : ProgramLine) (m : Mem) → line.says ≡ Some (says.Data name words)
    → count_with name (length words) (m, min (length (data_words m.name before)) (2 ^ 64 - 1)) ≡ min (length (data_words m.name (before ++ line ∷ []))) (2 ^ 64 - 1)
count_step name words before line m e = by (bytes_eq m.name name) ∙ ap (λ n. min n (2 ^ 64 - 1)) (sym (words_more m.name before line ∙ ap (λ s. length (data_words m.name before) + length (words_by m.name s)) e))
  where
    by : (b : Bool) → (if b then min (min (length (data_words m.name before)) (2 ^ 64 - 1) + length words) (2 ^ 64 - 1) else min (length (data_words m.name before)) (2 ^ 64 - 1))
        ≡ min (length (data_words m.name before) + length (if b then words else [])) (2 ^ 64 - 1)
    by true = capped_more (length (data_words m.name before)) (length words)
    by false = ap (λ n. min n (2 ^ 64 - 1)) (omega arith)

-- a line that gives words
pub words_given : (design : Design) (before : List ProgramLine) (old : SoFar) (line : ProgramLine) (name words : List ℕ) → IsSoFar design before old → line.says ≡ Some (says.Data name words)
    → counts_with design old.words name (length words) ≡ map (λ (m : Mem). min (length (data_words m.name (before ++ line ∷ []))) (2 ^ 64 - 1)) design.mems
words_given design before old line name words h e =
    ap (λ (ws : List ℕ). counts_with design ws name (length words)) h.words ∙ zip_map (count_with name (length words)) (λ (m : Mem). min (length (data_words m.name before)) (2 ^ 64 - 1)) design.mems
    ∙ map_same _ _ design.mems (λ m. count_step name words before line m e)

-- one more line, of each sort
capped_after : (o : Option ℕ) → option_map (λ n. min (n + 1) (2 ^ 32 - 1)) (option_map (λ n. min n (2 ^ 32 - 1)) o) ≡ option_map (λ n. min n (2 ^ 32 - 1)) (option_map suc o)
capped_after None = refl
capped_after (Some n) = ap Some (omega arith)

slots_given : (design : Design) (before : List ProgramLine) (line : ProgramLine) (said : Option Statement) → line.says ≡ said
    → slots_before design (before ++ line ∷ []) ≡ option_map_or (λ call. if is_transfer_call design call then Some 0 else None) (instr_by said) (if is_some (slot_by said) then option_map suc (slots_before design before) else if is_some said then slots_before design before else None)
slots_given design before line said e = slots_more design before line
    ∙ ap (λ s. option_map_or (λ call. if is_transfer_call design call then Some 0 else None) (instr_by s) (if is_some (slot_by s) then option_map suc (slots_before design before) else if is_some s then slots_before design before else None)) e

not_named : (line : ProgramLine) (said : Option Statement) → line.says ≡ said → label_by said ≡ None → (name : List ℕ) → is_label_named name line ≡ false
not_named line said e none name = ap (λ o. option_map_or (bytes_eq name) o false) (ap label_by e ∙ none)

no_words : (line : ProgramLine) (said : Option Statement) → line.says ≡ said → ((name : List ℕ) → words_by name said ≡ []) → (name : List ℕ) → words_by name line.says ≡ []
no_words line said e none name = ap (words_by name) e ∙ none name

pub took_label : (design : Design) (before : List ProgramLine) (old new : SoFar) (line : ProgramLine) (name : List ℕ) → IsSoFar design before old → line.says ≡ Some (says.Label name)
    → new.seen ≡ with_label old.seen name 0 → new.slots ≡ old.slots → new.words ≡ old.words → IsSoFar design (before ++ line ∷ []) new
took_label design before old new line name h e seen slots words = record {
  seen = λ asked. ap (λ t. is_some (landing_among t asked)) seen ∙ seen_more design before old line name asked 0 h (ap (λ s. option_map_or (bytes_eq asked) (label_by s) false) e);
  slots = slots ∙ h.slots ∙ ap (option_map (λ n. min n (2 ^ 32 - 1))) (sym (slots_given design before line (Some (says.Label name)) e));
  words = words ∙ words_same design before old line h (no_words line (Some (says.Label name)) e (λ asked. refl));
}

pub took_instr : (design : Design) (before : List ProgramLine) (old new : SoFar) (line : ProgramLine) (call : Call) → IsSoFar design before old → line.says ≡ Some (says.Instr call)
    → new.seen ≡ old.seen → new.slots ≡ (if is_transfer_call design call then Some 0 else None) → new.words ≡ old.words → IsSoFar design (before ++ line ∷ []) new
took_instr design before old new line call h e seen slots words = record {
  seen = λ asked. ap (λ t. is_some (landing_among t asked)) seen ∙ seen_same design before old line asked h (not_named line (Some (says.Instr call)) e refl asked);
  slots = slots ∙ zero_capped (is_transfer_call design call) ∙ ap (option_map (λ n. min n (2 ^ 32 - 1))) (sym (slots_given design before line (Some (says.Instr call)) e));
  words = words ∙ words_same design before old line h (no_words line (Some (says.Instr call)) e (λ asked. refl));
} where
  zero_capped : (b : Bool) → (if b then Some 0 else None) ≡ option_map (λ n. min n (2 ^ 32 - 1)) (if b then Some 0 else None)
  zero_capped true = ap Some (omega arith)
  zero_capped false = refl

pub took_slot : (design : Design) (before : List ProgramLine) (old new : SoFar) (line : ProgramLine) (call : Call) → IsSoFar design before old → line.says ≡ Some (says.Slot call)
    → new.seen ≡ old.seen → new.slots ≡ option_map (λ n. min (n + 1) (2 ^ 32 - 1)) old.slots → new.words ≡ old.words → IsSoFar design (before ++ line ∷ []) new
took_slot design before old new line call h e seen slots words = record {
  seen = λ asked. ap (λ t. is_some (landing_among t asked)) seen ∙ seen_same design before old line asked h (not_named line (Some (says.Slot call)) e refl asked);
  slots = slots ∙ ap (option_map (λ n. min (n + 1) (2 ^ 32 - 1))) h.slots ∙ capped_after (slots_before design before) ∙ ap (option_map (λ n. min n (2 ^ 32 - 1))) (sym (slots_given design before line (Some (says.Slot call)) e));
  words = words ∙ words_same design before old line h (no_words line (Some (says.Slot call)) e (λ asked. refl));
}

pub took_data : (design : Design) (before : List ProgramLine) (old new : SoFar) (line : ProgramLine) (name given : List ℕ) → IsSoFar design before old → line.says ≡ Some (says.Data name given)
    → new.seen ≡ old.seen → new.slots ≡ old.slots → new.words ≡ counts_with design old.words name (length given) → IsSoFar design (before ++ line ∷ []) new
took_data design before old new line name given h e seen slots words = record {
  seen = λ asked. ap (λ t. is_some (landing_among t asked)) seen ∙ seen_same design before old line asked h (not_named line (Some (says.Data name given)) e refl asked);
  slots = slots ∙ h.slots ∙ ap (option_map (λ n. min n (2 ^ 32 - 1))) (sym (slots_given design before line (Some (says.Data name given)) e));
  words = words ∙ words_given design before old line name given h e;
}

pub took_nothing : (design : Design) (before : List ProgramLine) (old new : SoFar) (line : ProgramLine) → IsSoFar design before old → line.says ≡ None
    → new.seen ≡ old.seen → new.slots ≡ None → new.words ≡ old.words → IsSoFar design (before ++ line ∷ []) new
took_nothing design before old new line h e seen slots words = record {
  seen = λ asked. ap (λ t. is_some (landing_among t asked)) seen ∙ seen_same design before old line asked h (not_named line None e refl asked);
  slots = slots ∙ ap (option_map (λ n. min n (2 ^ 32 - 1))) (sym (slots_given design before line None e));
  words = words ∙ words_same design before old line h (no_words line None e (λ asked. refl));
}

-- before the first line
pub no_counts : (ms : List Mem) → replicate (length ms) 0 ≡ map (λ (m : Mem). min (length (data_words m.name [])) (2 ^ 64 - 1)) ms
no_counts [] = refl
no_counts (m ∷ ms) = ap (λ ns. 0 ∷ ns) (no_counts ms) ∙ ap (λ n. n ∷ map (λ (x : Mem). min (length (data_words x.name [])) (2 ^ 64 - 1)) ms) (omega arith)
