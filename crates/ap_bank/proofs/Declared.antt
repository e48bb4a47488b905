-- The registers of a description, declared one by one.
use Rattle.std.proofs.Common.{◌≡◌, ◌≢◌, ℕ, zero, suc, ◌+◌, ◌<◌, ◌≤◌, ◌^◌, ◌&&◌, ◌||◌, Bool, true, false, List, [], ◌∷◌, ◌++◌, length, map, drop, get_or, refl, sym, ap, subst, ◌∙◌, arith, append-nil, append_assoc, length-append, Some}
use Rattle.std.specs.Prelude.{IsTrue, nat_le, not, slice_get}
use Rattle.std.specs.Char.{is_ascii_alphanumeric}
use Rattle.std.specs.List.{AllByRecursion as Each, list_all, list_any}
use Rattle.std.specs.Str.{bytes_eq}
use Rattle.std.proofs.lemmas.Bool.{and_parts, leb-true, le-leb, ltb-true, or_left}
use Rattle.std.proofs.lemmas.List.{map-append}
use Rattle.std.proofs.lemmas.List.Elements.{filter_map-append}
use Rattle.std.proofs.lemmas.Slice.Eq.{bytes_eq-Decides}
use Rattle.ap_bits.specs.Names.{IsName, starts_with_letter}
use Rattle.ap_desc.specs.Clean.{IsClean}
use Rattle.ap_desc.specs.Designs.{has_bits, is_reg_within, is_width}
use Rattle.ap_desc.specs.Parts.{file_names, format_names, input_names, mem_names, names_of_fields, reg_names, unit_names}
use Rattle.ap_desc.specs.Sound.{are_distinct, names_of_parts}
use Rattle.ap_desc.specs.declared.design.Design.{Design}
use Rattle.ap_desc.specs.declared.design.Format.{Format}
use Rattle.ap_desc.specs.declared.design.Instr.{Instr}
use Rattle.ap_desc.specs.declared.design.Reg.{Reg}
use Rattle.ap_net.specs.declared.cell.Wire.{Wire}
use Rattle.ap_net.specs.declared.net.ModuleNet.{ModuleNet}
use Rattle.ap_net.specs.declared.net.Next.{Next}
use Rattle.ap_net.specs.declared.net.Role.TheVariants as role
use Rattle.ap_net.specs.Cells.{widths_of}
use Rattle.ap_net.specs.Draft.{Draft, IsKept}
use Rattle.ap_net.specs.Modules.{port_by, ports_among}
use Rattle.ap_net.specs.Names.{AreDistinct, IsNetName, is_name_byte}
use Rattle.ap_net.specs.Ready.{numbers}
use Rattle.ap_net.specs.Wiring.{NextFits, NoneTwice, Unclocked, reset_of}
use Rattle.ap_net.proofs.Laws.{IsNew-made}
use Rattle.ap_net.proofs.Lists.{get_end, get_left, some_same}
use Rattle.ap_net.proofs.Wired.{number-IsNet}
use Rattle.ap_signals.specs.NetRuns.{reg_name}
use Rattle.ap_ctl.specs.Lists.{EachPair}
use Rattle.ap_flight.specs.Stages.{IsOpen}
use Rattle.ap_bank.specs.Regs.{AreNewRegs, AreRegs, IsReg, KeepsOtherRegs, reg_net, reg_wires, with_regs}

-- Names.

alphanumeric_bytes : (bytes : List ℕ) → list_all is_ascii_alphanumeric bytes ≡ true → list_all is_name_byte bytes ≡ true
alphanumeric_bytes [] h = refl
alphanumeric_bytes (b ∷ bytes) h =
    let both = and_parts (is_ascii_alphanumeric b) (list_all is_ascii_alphanumeric bytes) h in
    let one : is_name_byte b ≡ true = or_left (is_ascii_alphanumeric b) _ both.0 in
    rw (one, alphanumeric_bytes bytes both.1) refl

-- a letter, _ and a name of the description
pub IsNetName-storage : (name : List ℕ) → IsName name → IsNetName (114 ∷ 95 ∷ name) × IsNetName (102 ∷ 95 ∷ name)
IsNetName-storage name h =
    let few = and_parts (starts_with_letter name && list_all is_ascii_alphanumeric name) (nat_le (length name) 32) h in
    let bytes = and_parts (starts_with_letter name) (list_all is_ascii_alphanumeric name) few.0 in
    let short : length name ≤ 32 = leb-true (length name) 32 few.1 in
    let fits : nat_le (suc (suc (length name))) 100 ≡ true = le-leb (suc (suc (length name))) 100 (omega arith) in
    (rw (alphanumeric_bytes name bytes.1, fits) refl, rw (alphanumeric_bytes name bytes.1, fits) refl)

-- The bits and the reset value of a register.
pub record RegFits (r : Reg) : Type 0 where
  pub low : 1 ≤ r.width
  pub high : r.width ≤ 64
  pub reset : r.reset < 2 ^ r.width

pub reg_fits : (r : Reg) → IsTrue (is_reg_within r) → RegFits r
reg_fits r h =
    let both = and_parts (is_width r.width) (has_bits r.width r.reset) h in
    let width = and_parts (nat_le 1 r.width) (nat_le r.width 64) both.0 in
    record { low = leb-true 1 r.width width.0; high = leb-true r.width 64 width.1; reset = ltb-true r.reset (2 ^ r.width) both.1 }

-- One more register.

pub regs_none : (d : Draft) → d ≡ with_regs d []
regs_none d = ap (λ (l : List ModuleNet). record d { nets = l }) (sym (append-nil d.nets))

pub regs_more : (d : Draft) (regs : List Reg) (r : Reg) → with_regs (with_regs d regs) (r ∷ []) ≡ with_regs d (regs ++ r ∷ [])
regs_more d regs r =
    ap (λ (l : List ModuleNet). record d { nets = l }) (append_assoc d.nets (map reg_net regs) (reg_net r ∷ []) ∙ ap (λ l. d.nets ++ l) (sym (map-append reg_net regs (r ∷ []))))

length_map : {X Y : Type 0} (f : X → Y) (xs : List X) → length (map f xs) ≡ length xs
length_map f [] = refl
length_map f (x ∷ xs) = ap suc (length_map f xs)

pub regs_count : (d : Draft) (regs : List Reg) → length (with_regs d regs).nets ≡ length d.nets + length regs
regs_count d regs = length-append d.nets (map reg_net regs) ∙ ap (λ n. length d.nets + n) (length_map reg_net regs)

pub wires_more : (n : ℕ) (regs : List Reg) (r : Reg) → reg_wires n (regs ++ r ∷ []) ≡ reg_wires n regs ++ record { number = n + length regs; width = r.width } ∷ []
wires_more n [] r = let here : n + 0 ≡ n = omega arith in ap (λ m. record { number = m; width = r.width } ∷ []) (sym here)
wires_more n (q ∷ regs) r =
    let next : n + 1 + length regs ≡ n + suc (length regs) = omega arith in
    ap (λ l. record { number = n; width = q.width } ∷ l) (wires_more (n + 1) regs r ∙ ap (λ m. reg_wires (n + 1) regs ++ record { number = m; width = r.width } ∷ []) next)

abbrev pub name_of : Reg → List ℕ
name_of r = reg_name r

pub new_rest : (d : Draft) (r : Reg) (rest : List Reg) → Each (λ other. other ≢ reg_name r) (map name_of rest) → AreNewRegs rest d → AreNewRegs rest (with_regs d (r ∷ []))
new_rest d r [] apart new = tt
new_rest d r (q ∷ rest) apart new = (IsNew-made d.instances d.nets (reg_net r) (reg_name q) (λ e. apart.0 (sym e)) new.0, new_rest d r rest apart.1 new.1)

pub ports_regs : (d : Draft) (regs : List Reg) → ports_among (with_regs d regs).nets ≡ ports_among d.nets
ports_regs d regs = filter_map-append (λ (net : ModuleNet). port_by net.role net) d.nets (map reg_net regs) ∙ ap (λ l. ports_among d.nets ++ l) (none regs) ∙ append-nil (ports_among d.nets)
  where
    none : (regs : List Reg) → ports_among (map reg_net regs) ≡ []
    none [] = refl
    none (r ∷ regs) = none regs

Each-front : {X : Type 0} (P : X → Type 0) (xs ys : List X) → Each P (xs ++ ys) → Each P xs
Each-front P [] ys h = tt
Each-front P (x ∷ xs) ys h = (h.0, Each-front P xs ys h.1)

Each-last : {X : Type 0} (P : X → Type 0) (xs : List X) (y : X) → Each P (xs ++ y ∷ []) → P y
Each-last P [] y h = h.0
Each-last P (x ∷ xs) y h = Each-last P xs y h.1

pub others_more : (d : Draft) (regs : List Reg) (r : Reg) → KeepsOtherRegs regs d (with_regs d regs) → KeepsOtherRegs (regs ++ r ∷ []) d (with_regs (with_regs d regs) (r ∷ []))
others_more d regs r keeps name apart new =
    IsNew-made d.instances (with_regs d regs).nets (reg_net r) name (Each-last (λ (q : Reg). reg_name q ≡ name → ⊥) regs r apart) (keeps name (Each-front (λ (q : Reg). reg_name q ≡ name → ⊥) regs (r ∷ []) apart) new)

-- what stands for a place where there is none
abbrev pub no_reg : Reg
no_reg = record { name = []; width = 1; reset = 0 }

pub each_at : (P : Reg → Type 0) (regs : List Reg) (i : ℕ) → Each P regs → i < length regs → P (get_or regs i no_reg)
each_at P [] i h lt = absurd (omega arith)
each_at P (r ∷ regs) zero h lt = h.0
each_at P (r ∷ regs) (suc i) h lt = each_at P regs i h.1 (omega arith)

-- Open registers.

wide_at : (nets : List ModuleNet) (i : ℕ) (net : ModuleNet) → slice_get nets i ≡ Some net → slice_get (widths_of nets) i ≡ Some net.width
wide_at [] i net at = cc
wide_at (x ∷ nets) zero net at = let same : x ≡ net = cc in ap (λ (n : ModuleNet). Some n.width) same
wide_at (x ∷ nets) (suc i) net at = wide_at nets i net at

-- no register that takes something is a later one
untaken : (d : Draft) → IsKept d → (n : ℕ) → length d.nets ≤ n → Unclocked d.nexts n
untaken d kept n le = each d.nexts kept.wired.registers
  where
    each : (nexts : List Next) → Each (NextFits d.nets) nexts → Each (λ (x : Next). x.register.number ≢ n) nexts
    each [] h = tt
    each (x ∷ nexts) h = ((λ e. let lt = number-IsNet d.nets x.register h.0.register in absurd (omega arith)), each nexts h.1)

-- the register stands at the wire, which is none of the first ones
record IsAt (nets : List ModuleNet) (first : ℕ) (r : Reg) (w : Wire) : Type 0 where
  there : slice_get nets w.number ≡ Some (reg_net r)
  wide : w.width ≡ r.width
  from : first ≤ w.number

at_from : (all nets : List ModuleNet) (first n : ℕ) (regs : List Reg) → all ≡ nets ++ map reg_net regs → n ≡ length nets → first ≤ n → EachPair (IsAt all first) regs (reg_wires n regs)
at_from all nets first n [] is long le = tt
at_from all nets first n (r ∷ regs) is long le =
    let more : List ModuleNet = map reg_net regs in
    let cut : all ≡ (nets ++ reg_net r ∷ []) ++ more = is ∙ sym (append_assoc nets (reg_net r ∷ []) more) in
    let l = length-append nets (reg_net r ∷ []) in
    let here : slice_get ((nets ++ reg_net r ∷ []) ++ more) (length nets) ≡ Some (reg_net r) = get_left (nets ++ reg_net r ∷ []) more (length nets) (reg_net r) (get_end nets (reg_net r)) in (
      record { there = ap (slice_get all) long ∙ ap (λ (x : List ModuleNet). slice_get x (length nets)) cut ∙ here; wide = refl; from = le },
      at_from all (nets ++ reg_net r ∷ []) first (n + 1) regs cut (omega arith) (omega arith),
    )

named : (e : Draft) (first : ℕ) (regs : List Reg) (ws : List Wire) → EachPair (IsAt e.nets first) regs ws → EachPair (IsReg e) regs ws
named e first [] [] h = tt
named e first [] (w ∷ ws) h = absurd h
named e first (r ∷ regs) [] h = absurd h
named e first (r ∷ regs) (w ∷ ws) h = (record { begins = record { net = reg_net r; there = h.0.there; named = refl; reset = refl }; wide = h.0.wide }, named e first regs ws h.1)

opened : (d e : Draft) (r : Reg) (w : Wire) → IsKept d → e.nexts ≡ d.nexts → RegFits r → IsAt e.nets (length d.nets) r w → IsOpen e w
opened d e r w kept nexts fits h = record {
  net = record { declared = wide_at e.nets w.number (reg_net r) h.there ∙ ap Some (sym h.wide); low = subst (λ n. 1 ≤ n) (sym h.wide) fits.low; high = subst (λ n. n ≤ 64) (sym h.wide) fits.high };
  register = λ net at. let same : reg_net r ≡ net = some_same (sym h.there ∙ at) in subst (λ (x : ModuleNet). x.role ≡ role.Register (reset_of x.role)) same refl;
  free = subst (λ l. Unclocked l w.number) (sym nexts) (untaken d kept w.number h.from);
}

all_opened : (d e : Draft) (regs : List Reg) (ws : List Wire) → IsKept d → e.nexts ≡ d.nexts → Each (λ (r : Reg). IsTrue (is_reg_within r)) regs → EachPair (IsAt e.nets (length d.nets)) regs ws → Each (IsOpen e) ws
all_opened d e [] [] kept nexts fits h = tt
all_opened d e [] (w ∷ ws) kept nexts fits h = absurd h
all_opened d e (r ∷ regs) [] kept nexts fits h = absurd h
all_opened d e (r ∷ regs) (w ∷ ws) kept nexts fits h = (opened d e r w kept nexts (reg_fits r fits.0) h.0, all_opened d e regs ws kept nexts fits.1 h.1)

wires_apart : (n : ℕ) (regs : List Reg) → NoneTwice (numbers (reg_wires n regs))
wires_apart n [] = tt
wires_apart n (r ∷ regs) = (above n (n + 1) regs (omega arith), wires_apart (n + 1) regs)
  where
    above : (n low : ℕ) (regs : List Reg) → n < low → Each (λ other. other ≢ n) (numbers (reg_wires low regs))
    above n low [] lt = tt
    above n low (r ∷ regs) lt = ((λ e. absurd (omega arith)), above n (low + 1) regs (omega arith))

pub are_regs : (d : Draft) (regs : List Reg) → IsKept d → Each (λ (r : Reg). IsTrue (is_reg_within r)) regs → AreRegs (with_regs d regs) regs (reg_wires (length d.nets) regs)
are_regs d regs kept fits =
    let at = at_from (with_regs d regs).nets d.nets (length d.nets) (length d.nets) regs refl refl (omega arith) in
    record { each = named (with_regs d regs) (length d.nets) regs (reg_wires (length d.nets) regs) at; opened = all_opened d (with_regs d regs) regs (reg_wires (length d.nets) regs) kept refl fits at; apart = wires_apart (length d.nets) regs }

-- Registers of a clean design.

each_true : {X : Type 0} (p : X → Bool) (xs : List X) → list_all p xs ≡ true → Each (λ x. IsTrue (p x)) xs
each_true p [] h = tt
each_true p (x ∷ xs) h = let both = and_parts (p x) (list_all p xs) h in (both.0, each_true p xs both.1)

pub regs_within : (design : Design) → IsClean design → Each (λ (r : Reg). IsTrue (is_reg_within r)) design.regs
regs_within design clean = each_true is_reg_within design.regs (and_parts (nat_le (length design.regs) 64) (list_all is_reg_within design.regs) clean.sound.within.regs).1

regs_differ : (name : List ℕ) (regs : List Reg) (more : List (List ℕ)) → not (list_any (bytes_eq name) (map (λ (r : Reg). r.name) regs ++ more)) ≡ true → Each (λ other. other ≢ (114 ∷ 95 ∷ name)) (map name_of regs)
regs_differ name [] more h = tt
regs_differ name (r ∷ regs) more h = go (bytes_eq name r.name) refl h (regs_differ name regs more)
  where
    go : (b : Bool) → bytes_eq name r.name ≡ b → not (bytes_eq name r.name || list_any (bytes_eq name) (map (λ (r : Reg). r.name) regs ++ more)) ≡ true
        → (not (list_any (bytes_eq name) (map (λ (r : Reg). r.name) regs ++ more)) ≡ true → Each (λ other. other ≢ (114 ∷ 95 ∷ name)) (map name_of regs)) → Each (λ other. other ≢ (114 ∷ 95 ∷ name)) (map name_of (r ∷ regs))
    go true e h rest = absurd (let clash : false ≡ true = ap (λ b. not (b || list_any (bytes_eq name) (map (λ (r : Reg). r.name) regs ++ more))) (sym e) ∙ h in cc)
    go false e h rest = (
      (λ same. let equal : name ≡ r.name = sym (ap (drop 2) same) in let yes : bytes_eq name r.name ≡ true = (bytes_eq-Decides name r.name).1 equal in cc),
      rest (ap (λ b. not (b || list_any (bytes_eq name) (map (λ (r : Reg). r.name) regs ++ more))) (sym e) ∙ h),
    )

regs_apart : (regs : List Reg) (more : List (List ℕ)) → are_distinct (map (λ (r : Reg). r.name) regs ++ more) ≡ true → AreDistinct (map name_of regs)
regs_apart [] more h = tt
regs_apart (r ∷ regs) more h =
    let rest : List (List ℕ) = map (λ (r : Reg). r.name) regs ++ more in
    let both = and_parts (not (list_any (bytes_eq r.name) rest)) (are_distinct rest) h in
    (regs_differ r.name regs more both.0, regs_apart regs more both.1)

pub regs_named_once : (design : Design) → IsClean design → AreDistinct (map name_of design.regs)
regs_named_once design clean =
    let fields = list_all (λ (f : Format). are_distinct (names_of_fields f.fields)) design.formats in
    let instrs = are_distinct (map (λ (i : Instr). i.name) design.instrs) in
    let a = and_parts (are_distinct (names_of_parts design) && are_distinct (format_names design) && instrs) fields clean.sound.once in
    let b = and_parts (are_distinct (names_of_parts design) && are_distinct (format_names design)) instrs a.0 in
    let c = and_parts (are_distinct (names_of_parts design)) (are_distinct (format_names design)) b.0 in
    let last : List (List ℕ) = mem_names design ++ (input_names design ++ unit_names design) in
    let others : List (List ℕ) = file_names design ++ last in
    let cut : names_of_parts design ≡ reg_names design ++ others =
    append_assoc (reg_names design ++ file_names design ++ mem_names design) (input_names design) (unit_names design)
    ∙ append_assoc (reg_names design ++ file_names design) (mem_names design) (input_names design ++ unit_names design) ∙ append_assoc (reg_names design) (file_names design) last in
    regs_apart design.regs others (ap are_distinct (sym cut) ∙ c.0)
