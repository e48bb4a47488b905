-- Files that are placed one after the other.
use Rattle.std.proofs.Common.{◌≡◌, ◌≢◌, ◌⊎◌, inl, inr, ⊎_elim, ℕ, zero, suc, ◌+◌, ◌<◌, ◌≤◌, List, [], ◌∷◌, ◌++◌, length, map, drop, Some, refl, sym, ap, subst, ◌∙◌, arith, append-nil, append_assoc, length-append}
use Rattle.std.specs.Prelude.{slice_get}
use Rattle.std.specs.List.{AllByRecursion as Each}
use Rattle.std.proofs.lemmas.Bool.{cases_lt}
use Rattle.ap_desc.specs.declared.design.Design.{Design}
use Rattle.ap_desc.specs.declared.design.File.{File}
use Rattle.ap_desc.specs.Designs.{index_bits}
use Rattle.ap_model.proofs.ListLemmas.{each_flat_map, flat_map_both}
use Rattle.ap_net.specs.declared.cell.Wire.{Wire}
use Rattle.ap_net.specs.declared.net.Instance.{Instance}
use Rattle.ap_net.specs.Draft.{CanFresh, Draft, Extends}
use Rattle.ap_net.specs.Late.{IsLate}
use Rattle.ap_net.specs.Names.{AreDistinct}
use Rattle.ap_net.specs.Pending.{Among}
use Rattle.ap_net.specs.Ready.{Dependence, Ready, ReadyAfter, numbers}
use Rattle.ap_net.specs.Wiring.{NoneTwice}
use Rattle.ap_net.proofs.Drafts.{Extends-refl, Extends-trans}
use Rattle.ap_net.proofs.Laws.{IsNotNumbered-other}
use Rattle.ap_net.proofs.Lists.{All-at, All-back, All-from, All-front, All-join, All-map, All-unmap, some_same}
use Rattle.ap_net.proofs.Wired.{number-IsNet}
use Rattle.ap_signals.specs.NetRuns.{file_part}
use Rattle.ap_store.specs.FilePorts.{file_module_name}
use Rattle.ap_bank.specs.declared.bank.FileNets.{FileNets}
use Rattle.ap_bank.specs.LateNets.{IsLateWide}
use Rattle.ap_bank.specs.Placed.{NeedsAsFile}
use Rattle.ap_bank.proofs.LateMade.{extends_long}
use Rattle.ap_ctl.proofs.Beside.{EachFrom-push, EachFrom-weaker}
use Rattle.ap_front.specs.declared.ports.GroupPorts.{GroupPorts}
use Rattle.ap_lead.specs.Storing.{FilesAreKnown, FilesNeed, HasNoFiles, IsInstanceOf, IsStored, StoresFile, StoresFiles, index_numbers}

pub among_left : (xs ys : List ℕ) (n : ℕ) → Among xs n → Among (xs ++ ys) n
among_left [] ys n h = absurd h
among_left (x ∷ xs) ys n h = ⊎_elim (λ e. inl e) (λ k. inr (among_left xs ys n k)) h

pub among_right : (xs ys : List ℕ) (n : ℕ) → Among ys n → Among (xs ++ ys) n
among_right [] ys n h = h
among_right (x ∷ xs) ys n h = inr (among_right xs ys n h)

after_left : (by : Dependence) (b c : Draft) (xs ys : List ℕ) (n : ℕ) → Extends b c → ReadyAfter by b xs n → ReadyAfter by c (xs ++ ys) n
after_left by b c xs ys n grows h = λ later e ready. h later (Extends-trans b c later grows e) (All-front (Ready by later) xs ys ready)

after_right : (by : Dependence) (c : Draft) (xs ys : List ℕ) (n : ℕ) → ReadyAfter by c ys n → ReadyAfter by c (xs ++ ys) n
after_right by c xs ys n h = λ later e ready. h later e (All-back (Ready by later) xs ys ready)

more_numbers : (made : List FileNets) (nets : FileNets) → index_numbers (made ++ nets ∷ []) ≡ index_numbers made ++ numbers nets.indices
more_numbers made nets =
    flat_map_both (λ (n : FileNets). numbers n.indices) made (nets ∷ []) ∙ ap (λ l. index_numbers made ++ l) (append-nil (numbers nets.indices))

pub stores_none : (design : Design) (groups : List GroupPorts) (d : Draft) → CanFresh d → StoresFiles design groups [] d d
stores_none design groups d fresh = record {
  each = tt;
  extends = Extends-refl d;
  nexts = refl;
  same_ports = refl;
  fresh = fresh;
  names = λ name other apart new. new;
  late = λ x h. h;
  came = λ by needs n low high. absurd (omega (arith, low, high));
  placed = [];
  count = refl;
  instances = sym (append-nil d.instances);
  are = tt;
  late_indices = tt;
  above = tt;
  apart = tt;
}

-- numbers below one and numbers from it on
apart_join : (xs ys : List ℕ) (n : ℕ) → NoneTwice xs → NoneTwice ys → Each (λ x. x < n) xs → Each (λ y. n ≤ y) ys → NoneTwice (xs ++ ys)
apart_join [] ys n h g low high = g
apart_join (x ∷ xs) ys n h g low high =
    (All-join (λ y. y ≢ x) xs ys h.0 (All-from (λ y. n ≤ y) (λ y. y ≢ x) (λ y le e. let lt = low.0 in absurd (omega (arith, le, e, lt))) ys high), apart_join xs ys n h.1 g low.1 high)

-- what is late is there
late_below : (d : Draft) (made : List FileNets) → Each (λ (n : FileNets). Each (IsLate d) n.indices) made → Each (λ k. k < length d.nets) (index_numbers made)
late_below d made h = each_flat_map (λ k. k < length d.nets) (λ (n : FileNets). numbers n.indices) made
    (All-from (λ (n : FileNets). Each (IsLate d) n.indices) (λ (n : FileNets). Each (λ k. k < length d.nets) (numbers n.indices))
    (λ n k. All-map (λ m. m < length d.nets) (λ (w : Wire). w.number) n.indices (All-from (IsLate d) (λ (w : Wire). w.number < length d.nets) (λ w l. number-IsNet d.nets w l.net) n.indices k)) made h)

pub stores_more : (design : Design) (groups : List GroupPorts) (made : List FileNets) (nets : FileNets) (a b c : Draft) → StoresFiles design groups made a b → StoresFile design groups (length made) nets b c → StoresFiles design groups (made ++ nets ∷ []) a c
stores_more design groups made nets a b c h s =
    let grows : Extends b c = s.banks.extends in
    let of : Instance = s.banks.placed.of in
    let one : IsInstanceOf design (length made) of = record { f = s.f; at = s.at; whole = s.whole; named = s.named; has = s.has; connects = s.banks.placed.connects } in
    let last : length made ≡ 0 + length h.placed = let count = h.count in omega (arith, count) in
    let long = extends_long a b h.extends in
    let high : Each (λ n. length b.nets ≤ n) (numbers nets.indices) = All-map (λ n. length b.nets ≤ n) (λ (w : Wire). w.number) nets.indices s.banks.above in
    record {
      each = EachFrom-push (IsStored design groups c) 0 made nets
          (EachFrom-weaker (IsStored design groups b) (IsStored design groups c) (λ n x k. record { before = k.before; after = k.after; stores = k.stores; grows = Extends-trans k.after b c k.grows grows }) 0 made h.each)
          (let here : length made ≡ 0 + length made = omega arith in subst (λ n. IsStored design groups c n nets) here (record { before = b; after = c; stores = s; grows = Extends-refl c }));
      extends = Extends-trans a b c h.extends grows;
      nexts = s.banks.nexts ∙ h.nexts;
      same_ports = s.banks.same_ports ∙ h.same_ports;
      fresh = s.banks.fresh;
      names = λ name other apart new. s.banks.names name other (All-at (λ (f : File). file_part f ≢ name) design.files (length made) s.f apart s.at) (h.names name other apart new);
      late = λ x k. s.banks.late x (h.late x k);
      came = λ by needs n low high. subst (λ l. Among l n ⊎ ReadyAfter by c l n) (sym (more_numbers made nets)) (came by needs n low high);
      placed = h.placed ++ of ∷ [];
      count = length-append h.placed (of ∷ []) ∙ ap (λ n. n + 1) h.count ∙ sym (length-append made (nets ∷ []));
      instances = s.banks.instances ∙ ap (λ l. l ++ of ∷ []) h.instances ∙ append_assoc a.instances h.placed (of ∷ []);
      are = EachFrom-push (IsInstanceOf design) 0 h.placed of h.are (subst (λ n. IsInstanceOf design n of) last one);
      late_indices = All-join (λ (n : FileNets). Each (IsLate c) n.indices) made (nets ∷ [])
          (All-from (λ (n : FileNets). Each (IsLate b) n.indices) (λ (n : FileNets). Each (IsLate c) n.indices) (λ n k. All-from (IsLate b) (IsLate c) s.banks.late n.indices k) made h.late_indices)
          (All-from (IsLateWide c (index_bits s.f)) (IsLate c) (λ w k. k.late) nets.indices s.banks.late_indices, tt);
      above = subst (Each (λ n. length a.nets ≤ n)) (sym (more_numbers made nets)) (All-join (λ n. length a.nets ≤ n) (index_numbers made) (numbers nets.indices) h.above
          (All-from (λ n. length b.nets ≤ n) (λ n. length a.nets ≤ n) (λ n le. omega (arith, le, long)) (numbers nets.indices) high));
      apart = subst NoneTwice (sym (more_numbers made nets)) (apart_join (index_numbers made) (numbers nets.indices) (length b.nets) h.apart s.banks.apart (late_below b made h.late_indices) high);
    }
  where
    came : (by : Dependence) → FilesNeed by design → (n : ℕ) → length a.nets ≤ n → n < length c.nets → Among (index_numbers made ++ numbers nets.indices) n ⊎ ReadyAfter by c (index_numbers made ++ numbers nets.indices) n
    came by needs n low high = ⊎_elim
        (λ lt. ⊎_elim (λ k. inl (among_left (index_numbers made) (numbers nets.indices) n k)) (λ k. inr (after_left by b c (index_numbers made) (numbers nets.indices) n s.banks.extends k)) (h.came by needs n low lt))
        (λ le. ⊎_elim (λ k. inl (among_right (index_numbers made) (numbers nets.indices) n k)) (λ k. inr (after_right by c (index_numbers made) (numbers nets.indices) n k))
        (s.banks.came by (subst (NeedsAsFile by) (sym s.named) (needs (length made) s.f s.at)) n le high))
        (cases_lt n (length b.nets))

-- Names of files.

same_name : (f g : File) → file_part f ≡ file_part g → file_module_name f ≡ file_module_name g
same_name f g e = let same : f.name ≡ g.name = ap (drop 2) e in ap (λ n. 114 ∷ 102 ∷ 95 ∷ n) same

later_differs : (files : List File) (i k : ℕ) (f g : File) → AreDistinct (map file_module_name files) → i < k → slice_get files i ≡ Some f → slice_get files k ≡ Some g → file_part f ≢ file_part g
later_differs [] i k f g h lt at_i at_k = cc
later_differs (x ∷ files) i zero f g h lt at_i at_k = absurd (omega arith)
later_differs (x ∷ files) zero (suc k) f g h lt at_i at_k = λ e.
    let first : x ≡ f = some_same at_i in
    All-at (λ (y : File). file_module_name y ≢ file_module_name x) files k g (All-unmap (λ n. n ≢ file_module_name x) file_module_name files h.0) at_k (sym (same_name f g e) ∙ ap file_module_name (sym first))
later_differs (x ∷ files) (suc i) (suc k) f g h lt at_i at_k = later_differs files i k f g h.1 (omega arith) at_i at_k

pub files_left : (design : Design) (groups : List GroupPorts) (i : ℕ) (nets : FileNets) (b c : Draft) → AreDistinct (map file_module_name design.files) → StoresFile design groups i nets b c → HasNoFiles design b i → HasNoFiles design c (i + 1)
files_left design groups i nets b c distinct s h = λ k g le at.
    s.banks.names (file_part g) (IsNotNumbered-other (file_part g) refl) (later_differs design.files i k s.f g distinct (omega (arith, le)) s.at at) (h k g (omega (arith, le)) at)

-- The modules behind others.

get_behind : {X : Type 0} (xs : List X) (k n : ℕ) → slice_get (drop k xs) n ≡ slice_get xs (k + n)
get_behind [] zero n = refl
get_behind [] (suc k) n = refl
get_behind (x ∷ xs) zero n = let here : n ≡ 0 + n = omega arith in ap (slice_get (x ∷ xs)) here
get_behind (x ∷ xs) (suc k) n = let here : suc (k + n) ≡ suc k + n = omega arith in get_behind xs k n ∙ ap (slice_get (x ∷ xs)) here

pub files_are_known : FilesAreKnown
files_are_known knows design modules places kinds h = λ file f at.
    let k = h.files file f at in
    record { whole = k.whole; at = get_behind modules kinds file ∙ k.at; named = k.named; has = k.has }
