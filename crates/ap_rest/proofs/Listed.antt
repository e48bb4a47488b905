-- Lists of nets that no line drives, one port after the other.
use Rattle.std.proofs.Common.{◌≡◌, ℕ, zero, suc, ◌+◌, ◌≤◌, ◌&&◌, Bool, true, false, List, [], ◌∷◌, ◌++◌, drop, length, refl, sym, ap, subst, ◌∙◌, arith, append-nil, append_assoc}
use Rattle.std.specs.Prelude.{nat_le, slice_get, Some}
use Rattle.std.specs.List.{AllByRecursion as Each, list_all}
use Rattle.std.proofs.lemmas.Bool.{and_parts, leb-true}
use Rattle.ap_desc.specs.Clean.{IsClean}
use Rattle.ap_desc.specs.Designs.{is_between, is_cell_count, is_file_within, is_mem_within, is_width}
use Rattle.ap_desc.specs.Ports.{file_read, mem_read, mem_write}
use Rattle.ap_desc.specs.declared.design.Design.{Design}
use Rattle.ap_desc.specs.declared.design.File.{File}
use Rattle.ap_net.specs.declared.cell.Wire.{Wire}
use Rattle.ap_net.specs.Draft.{CanFresh, Draft}
use Rattle.ap_net.specs.Modules.{ports_among}
use Rattle.ap_net.specs.Names.{HasFresh, IsNew}
use Rattle.ap_net.specs.Draft.{wire_count}
use Rattle.ap_net.specs.Wiring.{names_taken}
use Rattle.ap_ctl.specs.Lists.{EachPair}
use Rattle.ap_ctl.proofs.Beside.{EachPair-length}
use Rattle.ap_bank.specs.declared.bank.FileNets.{FileNets}
use Rattle.ap_bank.specs.Joins.{RestsNets}
use Rattle.ap_front.specs.declared.ports.MemPorts.{MemPorts}
use Rattle.ap_rest.specs.Uses.{is_port_used}
use Rattle.ap_rest.specs.Reads.{HasFewIndices, HasIndices, HaveIndices, RestsLate, idle_indices, idle_of_files, idle_of_mems, idle_writes, unless_used}

drop_suc : {X : Type 0} (xs : List X) (n : ℕ) (x : X) → slice_get xs n ≡ Some x → drop n xs ≡ x ∷ drop (suc n) xs
drop_suc [] n x at = cc
drop_suc (y ∷ xs) zero x at = let same : y ≡ x = cc in ap (λ z. z ∷ xs) same
drop_suc (y ∷ xs) (suc n) x at = drop_suc xs n x at

drop_at : {X : Type 0} (xs : List X) (n : ℕ) (x : X) → slice_get xs n ≡ Some x → drop n xs ≡ x ∷ drop (n + 1) xs
drop_at xs n x at = let next : suc n ≡ n + 1 = omega arith in drop_suc xs n x at ∙ ap (λ m. x ∷ drop m xs) next

drop_end : {X : Type 0} (xs : List X) (n : ℕ) → length xs ≤ n → drop n xs ≡ []
drop_end [] zero le = refl
drop_end [] (suc n) le = refl
drop_end (x ∷ xs) zero le = absurd (omega arith)
drop_end (x ∷ xs) (suc n) le = drop_end xs n (omega arith)

-- One port more.

-- these are added to the nets so far
one_more : (nets new piece part rest whole : List Wire) → new ≡ nets ++ part → piece ≡ part ++ rest → nets ++ piece ≡ whole → new ++ rest ≡ whole
one_more nets new piece part rest whole is e h = ap (λ l. l ++ rest) is ∙ append_assoc nets part rest ∙ ap (λ l. nets ++ l) (sym e) ∙ h

at_end : (nets piece whole : List Wire) → piece ≡ [] → nets ++ piece ≡ whole → nets ≡ whole
at_end nets piece whole e h = sym (append-nil nets) ∙ ap (λ l. nets ++ l) (sym e) ∙ h

module _ (design : Design) (nets new whole : List Wire) where
  pub indices_more : (file n : ℕ) (xs : List Wire) (w : Wire) (used : Bool) → slice_get xs n ≡ Some w → used ≡ is_port_used design (file_read file n) → new ≡ nets ++ unless_used used (w ∷ [])
      → nets ++ idle_indices design file n (drop n xs) ≡ whole → new ++ idle_indices design file (n + 1) (drop (n + 1) xs) ≡ whole
  indices_more file n xs w used at is added h =
      one_more nets new (idle_indices design file n (drop n xs)) (unless_used used (w ∷ [])) (idle_indices design file (n + 1) (drop (n + 1) xs)) whole added
      (ap (idle_indices design file n) (drop_at xs n w at) ∙ ap (λ b. unless_used b (w ∷ []) ++ idle_indices design file (n + 1) (drop (n + 1) xs)) (sym is)) h

  pub files_more : (n : ℕ) (xs : List FileNets) (x : FileNets) → slice_get xs n ≡ Some x → new ≡ nets ++ idle_indices design n 0 x.indices
      → nets ++ idle_of_files design n (drop n xs) ≡ whole → new ++ idle_of_files design (n + 1) (drop (n + 1) xs) ≡ whole
  files_more n xs x at added h =
      one_more nets new (idle_of_files design n (drop n xs)) (idle_indices design n 0 x.indices) (idle_of_files design (n + 1) (drop (n + 1) xs)) whole added (ap (idle_of_files design n) (drop_at xs n x at)) h

  pub mems_more : (n : ℕ) (xs : List MemPorts) (x : MemPorts) (used : Bool) → slice_get xs n ≡ Some x → used ≡ is_port_used design (mem_read n) → new ≡ nets ++ unless_used used (x.read_address ∷ [])
      → nets ++ idle_of_mems design n (drop n xs) ≡ whole → new ++ idle_of_mems design (n + 1) (drop (n + 1) xs) ≡ whole
  mems_more n xs x used at is added h =
      one_more nets new (idle_of_mems design n (drop n xs)) (unless_used used (x.read_address ∷ [])) (idle_of_mems design (n + 1) (drop (n + 1) xs)) whole added
      (ap (idle_of_mems design n) (drop_at xs n x at) ∙ ap (λ b. unless_used b (x.read_address ∷ []) ++ idle_of_mems design (n + 1) (drop (n + 1) xs)) (sym is)) h

  pub writes_more : (n : ℕ) (xs : List MemPorts) (x : MemPorts) (used : Bool) → slice_get xs n ≡ Some x → used ≡ is_port_used design (mem_write n) → new ≡ nets ++ unless_used used (x.enable ∷ x.address ∷ x.value ∷ [])
      → nets ++ idle_writes design n (drop n xs) ≡ whole → new ++ idle_writes design (n + 1) (drop (n + 1) xs) ≡ whole
  writes_more n xs x used at is added h =
      one_more nets new (idle_writes design n (drop n xs)) (unless_used used (x.enable ∷ x.address ∷ x.value ∷ [])) (idle_writes design (n + 1) (drop (n + 1) xs)) whole added
      (ap (idle_writes design n) (drop_at xs n x at) ∙ ap (λ b. unless_used b (x.enable ∷ x.address ∷ x.value ∷ []) ++ idle_writes design (n + 1) (drop (n + 1) xs)) (sym is)) h

-- none is left
pub indices_end : (design : Design) (nets whole : List Wire) (file n : ℕ) (xs : List Wire) → length xs ≤ n → nets ++ idle_indices design file n (drop n xs) ≡ whole → nets ≡ whole
indices_end design nets whole file n xs le h = at_end nets (idle_indices design file n (drop n xs)) whole (ap (idle_indices design file n) (drop_end xs n le)) h

pub files_end : (design : Design) (nets whole : List Wire) (n : ℕ) (xs : List FileNets) → length xs ≤ n → nets ++ idle_of_files design n (drop n xs) ≡ whole → nets ≡ whole
files_end design nets whole n xs le h = at_end nets (idle_of_files design n (drop n xs)) whole (ap (idle_of_files design n) (drop_end xs n le)) h

pub mems_end : (design : Design) (nets whole : List Wire) (n : ℕ) (xs : List MemPorts) → length xs ≤ n → nets ++ idle_of_mems design n (drop n xs) ≡ whole → nets ≡ whole
mems_end design nets whole n xs le h = at_end nets (idle_of_mems design n (drop n xs)) whole (ap (idle_of_mems design n) (drop_end xs n le)) h

pub writes_end : (design : Design) (nets whole : List Wire) (n : ℕ) (xs : List MemPorts) → length xs ≤ n → nets ++ idle_writes design n (drop n xs) ≡ whole → nets ≡ whole
writes_end design nets whole n xs le h = at_end nets (idle_writes design n (drop n xs)) whole (ap (idle_writes design n) (drop_end xs n le)) h

-- three nets, one after the other
pub unless_three : (used : Bool) (a b c : Wire) (nets one two three : List Wire) → one ≡ nets ++ unless_used used (a ∷ []) → two ≡ one ++ unless_used used (b ∷ []) → three ≡ two ++ unless_used used (c ∷ []) → three ≡ nets ++ unless_used used (a ∷ b ∷ c ∷ [])
unless_three true a b c nets one two three x y z = z ∙ append-nil two ∙ y ∙ append-nil one ∙ x
unless_three false a b c nets one two three x y z = z ∙ ap (λ l. l ++ c ∷ []) y ∙ ap (λ l. (l ++ b ∷ []) ++ c ∷ []) x ∙ ap (λ l. l ++ c ∷ []) (append_assoc nets (a ∷ []) (b ∷ [])) ∙ append_assoc nets (a ∷ b ∷ []) (c ∷ [])

-- The design is within its limits.

pub few_files : (design : Design) → IsClean design → length design.files ≤ 8
few_files design clean = leb-true (length design.files) 8 (and_parts (nat_le (length design.files) 8) (list_all is_file_within design.files) clean.sound.within.files).0

pub few_mems : (design : Design) → IsClean design → length design.mems ≤ 4
few_mems design clean = leb-true (length design.mems) 4 (and_parts (nat_le (length design.mems) 4) (list_all is_mem_within design.mems) clean.sound.within.mems).0

few_reads : (f : File) → is_file_within f ≡ true → f.reads ≤ 4
few_reads f h =
    let ends = and_parts (is_width f.width && is_cell_count f.cells && is_between 1 4 f.reads) (is_between 1 2 f.writes) h in
    let reads = and_parts (is_width f.width && is_cell_count f.cells) (is_between 1 4 f.reads) ends.0 in
    leb-true f.reads 4 (and_parts (nat_le 1 f.reads) (nat_le f.reads 4) reads.1).1

few_each : (files : List File) (nets : List FileNets) → list_all is_file_within files ≡ true → EachPair HasIndices files nets → Each HasFewIndices nets
few_each [] [] within h = tt
few_each [] (n ∷ nets) within h = absurd h
few_each (f ∷ files) [] within h = absurd h
few_each (f ∷ files) (n ∷ nets) within h =
    let both = and_parts (is_file_within f) (list_all is_file_within files) within in
    let low = few_reads f both.0 in
    let same : length n.indices ≡ f.reads = h.0 in
    let here : length n.indices ≤ 4 = omega arith in
    (here, few_each files nets both.1 h.1)

pub few_indices : (design : Design) (nets : List FileNets) → IsClean design → HaveIndices design nets → Each HasFewIndices nets
few_indices design nets clean h = few_each design.files nets (and_parts (nat_le (length design.files) 8) (list_all is_file_within design.files) clean.sound.within.files).1 h

pub few_banked : (design : Design) (nets : List FileNets) → IsClean design → HaveIndices design nets → length nets ≤ 8
few_banked design nets clean h = let few = few_files design clean in let long = EachPair-length HasIndices design.files nets h in omega arith

-- Nets that were driven, in the words of what drives late wires.

pub rests_late : (nets : List Wire) (a b : Draft) → CanFresh a → RestsNets nets a b → RestsLate nets a b
rests_late nets a b fresh h = record {
  rest = h.rest;
  drives = record {
    extends = h.wires.extends;
    nexts = h.wires.nexts;
    instances = h.wires.instances;
    ports = ap ports_among h.wires.nets;
    fresh = subst (λ l. HasFresh (names_taken b.instances l) (wire_count l)) (sym h.wires.nets) (subst (λ l. HasFresh (names_taken l a.nets) (wire_count a.nets)) (sym h.wires.instances) fresh);
    names = λ name other new. subst (λ l. IsNew name (names_taken b.instances l)) (sym h.wires.nets) (subst (λ l. IsNew name (names_taken l a.nets)) (sym h.wires.instances) new);
    late = h.wires.late;
    came = λ by n low high. let same : length b.nets ≡ length a.nets = ap length h.wires.nets in absurd (omega arith);
  };
}
