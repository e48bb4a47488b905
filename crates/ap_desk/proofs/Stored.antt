use Rattle.std.proofs.Common.{◌≡◌, ◌≢◌, ℕ, ◌+◌, ◌<◌, suc, zero, List, [], ◌∷◌, ◌++◌, length, get_or, take, drop, Some, None, refl, sym, ap, subst, ◌∙◌, arith, add-zero, add-one, ◌≤◌, min, length-drop}
use Rattle.std.proofs.Math.ListN.{set}
use Rattle.std.proofs.Math.Seq.{map-set_same, drop-cons}
use Rattle.std.proofs.lemmas.List.{map-set, map-append, drop_all}
use Rattle.std.specs.Prelude.{unwrap_or, ◌⊎◌}
use Rattle.std.specs.Ordering.{nat_cmp}
use Rattle.std.specs.String.{string_bytes}
use Rattle.std.specs.Cmp.Lexicographic.{slice_cmp, nat_list_cmp_total}
use Rattle.std.specs.FinMap.{get, insert, from_entries, get-from_entries}
use Rattle.std.specs.FinMap.Entries.{find}
use Rattle.ap_desk.specs.declared.table.MemFile.{MemFile}
use Rattle.ap_desk.specs.Files.{Files, content, Reads}
use Rattle.ap_desk.specs.Places.{IsPlace, pair_of, pairs_of, files_of}
use Rattle.ap_desk.proofs.Maps.{from_entries-set, from_entries-push, get_there, look_past}

pub place_name : (files : List MemFile) (name : List ℕ) (i : ℕ) (d : MemFile) → IsPlace (pairs_of files) name i → string_bytes (get_or files i d).name ≡ name
place_name [] name i d h = absurd h
place_name (f ∷ files) name zero d h = h
place_name (f ∷ files) name (suc i) d h = place_name files name i d h.1

get_or-pairs : (files : List MemFile) (i : ℕ) (d : MemFile) → get_or (pairs_of files) i (pair_of d) ≡ pair_of (get_or files i d)
get_or-pairs [] i d = refl
get_or-pairs (f ∷ files) zero d = refl
get_or-pairs (f ∷ files) (suc i) d = get_or-pairs files i d

-- a file is written at its place
pub files_of-set : (files : List MemFile) (name : List ℕ) (i : ℕ) (f d : MemFile) → IsPlace (pairs_of files) name i → f.name ≡ (get_or files i d).name → files_of (set files i f) ≡ insert (files_of files) name f.bytes.items
files_of-set files name i f d h e =
    let named : string_bytes f.name ≡ name = ap string_bytes e ∙ place_name files name i d h in
    ap from_entries (map-set pair_of files i f ∙ ap (λ n. set (pairs_of files) i (n, f.bytes.items)) named)
    ∙ from_entries-set (pairs_of files) name f.bytes.items i h

-- a file is written as it was
pub files_of-set_same : (files : List MemFile) (i : ℕ) (f d : MemFile) → f.name ≡ (get_or files i d).name → f.bytes.items ≡ (get_or files i d).bytes.items → files_of (set files i f) ≡ files_of files
files_of-set_same files i f d e g = ap from_entries (map-set_same pair_of files i f d (λ j. (string_bytes (e j), g j)))

-- a new file is pushed
pub files_of-push : (files : List MemFile) (name bytes : List ℕ) (f : MemFile) → get (files_of files) name ≡ None → string_bytes f.name ≡ name → f.bytes.items ≡ bytes → files_of (files ++ f ∷ []) ≡ insert (files_of files) name bytes
files_of-push files name bytes f none e g =
    ap from_entries (map-append pair_of files (f ∷ []) ∙ (λ j. pairs_of files ++ (e j, g j) ∷ []))
    ∙ from_entries-push (pairs_of files) name bytes none

-- what the map has at a file's place
pub get_file : (files : List MemFile) (name : List ℕ) (i : ℕ) (d : MemFile) → IsPlace (pairs_of files) name i → get (files_of files) name ≡ Some (get_or files i d).bytes.items
get_file files name i d h = get_there (pairs_of files) name i (pair_of d) h ∙ ap (λ (p : List ℕ × List ℕ). Some p.1) (get_or-pairs files i d)

pub content_file : (files : List MemFile) (name : List ℕ) (i : ℕ) (d : MemFile) → IsPlace (pairs_of files) name i → content (files_of files) name ≡ (get_or files i d).bytes.items
content_file files name i d h = ap (λ o. unwrap_or o []) (get_file files name i d h)

pub content_none : (fs : Files) (name : List ℕ) → get fs name ≡ None → content fs name ≡ []
content_none fs name h = ap (λ o. unwrap_or o []) h

-- a file whose name was not passed before stands at the first place of its name
pub first_here : (files : List MemFile) (name : List ℕ) (i : ℕ) (d : MemFile) → ((j : ℕ) → IsPlace (pairs_of (drop i files)) name j → IsPlace (pairs_of files) name (i + j)) → i < length files → string_bytes (get_or files i d).name ≡ name → IsPlace (pairs_of files) name i
first_here files name i d places lt e =
    let at_front : IsPlace (pairs_of (drop i files)) name 0 = rw (drop-cons files i d lt) e in
    subst (IsPlace (pairs_of files) name) (add-zero i) (places 0 at_front)

-- a file of another name is passed over
pub place_past : (files : List MemFile) (name : List ℕ) (i : ℕ) (d : MemFile) → ((j : ℕ) → IsPlace (pairs_of (drop i files)) name j → IsPlace (pairs_of files) name (i + j)) → i < length files → string_bytes (get_or files i d).name ≢ name → (j : ℕ) → IsPlace (pairs_of (drop (i + 1) files)) name j → IsPlace (pairs_of files) name (i + 1 + j)
place_past files name i d places lt ne j h =
    let later : IsPlace (pairs_of (drop i files)) name (suc j) = rw (drop-cons files i d lt) (ne, rw add-one at h) in
    let same : i + suc j ≡ i + 1 + j = omega arith in
    subst (IsPlace (pairs_of files) name) same (places (suc j) later)

pub find_past : (files : List MemFile) (name : List ℕ) (i : ℕ) (d : MemFile) → i < length files → string_bytes (get_or files i d).name ≢ name → find (slice_cmp nat_cmp) name (pairs_of (drop (i + 1) files)) ≡ find (slice_cmp nat_cmp) name (pairs_of (drop i files))
find_past files name i d lt ne = rw (add-one, drop-cons files i d lt) (sym (look_past (pair_of (get_or files i d)) (pairs_of (drop (suc i) files)) name ne))

pub get_none : (files : List MemFile) (name : List ℕ) (i : ℕ) → length files ≤ i → find (slice_cmp nat_cmp) name (pairs_of (drop i files)) ≡ find (slice_cmp nat_cmp) name (pairs_of files) → get (files_of files) name ≡ None
get_none files name i le e = get-from_entries nat_list_cmp_total (pairs_of files) name ∙ (sym e ∙ ap (λ fs. find (slice_cmp nat_cmp) name (pairs_of fs)) (drop_all i files le))

pub reads : (files : Files) (name bytes new : List ℕ) (at n : ℕ) → get files name ≡ Some bytes → n ≡ min (length new) (length (drop at bytes)) → take n new ≡ take n (drop at bytes) → Reads files name at n new
reads files name bytes new at n g count same =
    let held : content files name ≡ bytes = ap (λ o. unwrap_or o []) g in
    let sized = length-drop at bytes in
    let ends : n ≡ 0 → (length new ≡ 0) ⊎ (length bytes ≤ at) = λ z. grind (arith, sized) in
    let within : n ≤ length (drop at bytes) = omega arith in
    record { there = rw held g; bytes = rw held same; within = rw held within; end = rw held ends }
